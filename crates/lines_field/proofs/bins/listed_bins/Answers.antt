use Rattle.lines_field.proofs.GridLaws.{spanned}
use Rattle.lines_field.proofs.bins.listed_bins.Goals as goal

pub returns : goal.returns
returns c =
    let a = c.bin_for.ensures in
    let b = c.bin_for-2.ensures in
    (spanned _ _ _ _ _ _ _ _ c.boundless.ensures c.widened_by-own.ensures a.0 b.0, record { first-x = a.1; first-y = a.2; last-x = b.1; last-y = b.2 })
