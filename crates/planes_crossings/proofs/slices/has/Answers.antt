use native.Mathlib.Omega.{arith}
use mathlib.Core.Path.{refl, ◌∙◌}
use Rattle.std.proofs.Common.{rules, tests}
use Rattle.std.proofs.lemmas.Iterator.{YieldsList-from_range}
use Rattle.std.proofs.lemmas.Iterator.Search.{any_from_yields_List}
use Rattle.planes_crossings.specs.Crossings.{close}
use Rattle.planes_crossings.specs.Ensures.{point_in}
use Rattle.planes_cut.proofs.Turns.{any-places}
use Rattle.planes_crossings.proofs.HeldLaws.{held-left, length-held}
use Rattle.planes_crossings.proofs.slices.has.Goals as goal

pub returns : goal.returns
returns c =
    let a = c.args in
    let point = point_in a.x.now a.y.now a.z.now in
    any_from_yields_List (λ i. close a.cut a.p (point i)) _ _ _ c.any.ensures.ran (YieldsList-from_range 0 a.n a.n refl (omega arith)) (λ x b q k. search (rules, tests))
    ∙ any-places (close a.cut a.p) point _ a.n (length-held _ _ _ _) (held-left _ _ _ _)
