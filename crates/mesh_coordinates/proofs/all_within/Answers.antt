use Rattle.std.proofs.Common.{◌≡◌, ℕ, true, false, rules, refl}
use native.Mathlib.Nat.{sub-zero}
use Rattle.std.proofs.lemmas.Iterator.{cases_from_all, YieldsList-from_range}
use Rattle.arith.specs.F64.{within}
use Rattle.arith.specs.Vec.{each3}
use Rattle.mesh_area.specs.Tables.{point_at}
use Rattle.mesh_area.specs.Layout.{points_in}
use Rattle.mesh_coordinates.proofs.Laws.{all-points}
use Rattle.mesh_coordinates.proofs.all_within.Goals as goal

pub returns : goal.returns
returns c =
    let p = λ (i : ℕ). each3 within (point_at (points_in c.args.case.now c.args.points) i) in
    all-points _ _ (each3 within) c.all.result
    (cases_from_all _ _ c.all.result (λ i. p i ≡ true) (λ i. p i ≡ false) c.all.ensures.ran (YieldsList-from_range 0 c.args.points c.args.points refl (sub-zero c.args.points)) (λ i q k. search rules) (λ i q k. search rules))
