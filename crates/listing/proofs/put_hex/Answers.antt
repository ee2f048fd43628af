use native.Mathlib.Omega.{arith}
use mathlib.Core.Path.{◌∙◌}
use Rattle.listing.proofs.DigitLaws.{hex-is}
use Rattle.listing.proofs.TextLaws.{put_as}
use Rattle.listing.proofs.put_hex.Goals as goal

-- `listing::put_hex` meets its contract. Assumes nothing.
pub returns : goal.returns
returns c =
    let d = c.hex-k.ensures in
    put_as (d.digits ∙ hex-is c.args.n c.hex-k.result (omega arith) d.len) c.put_all.ensures
