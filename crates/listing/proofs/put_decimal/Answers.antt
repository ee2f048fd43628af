use native.Mathlib.Omega.{arith}
use mathlib.Core.Path.{◌∙◌}
use Rattle.listing.proofs.DigitLaws.{decimal-is}
use Rattle.listing.proofs.TextLaws.{put_as}
use Rattle.listing.proofs.put_decimal.Goals as goal

-- `listing::put_decimal` meets its contract. Assumes nothing.
pub returns : goal.returns
returns c =
    let d = c.decimal-k.ensures in
    put_as (d.digits ∙ decimal-is c.args.n c.decimal-k.result (omega arith) d.len) c.put_all.ensures
