use Prim.Native.Nat.{ℕ}
use native.Mathlib.Omega.{arith}
use mathlib.Core.Path.{refl, sym, ◌∙◌}
use mathlib.Core.List.{[]}
use lib.ListN.{get_or}
use Rattle.std.proofs.Common.{rules, tests}
use Rattle.std.proofs.lemmas.Iterator.{YieldsList-from_range}
use Rattle.std.proofs.lemmas.Iterator.Search.{any_from_yields_List}
use Rattle.mesh_area.specs.Tables.{cell_at}
use Rattle.mesh_area.specs.Layout.{cells_in, mesh_in}
use Rattle.planes_cut.specs.Ensures.{bare}
use Rattle.planes_cut.proofs.Turns.{any-places}
use Rattle.planes_cut.proofs.MeshLaws.{faces-left}
use Rattle.planes_crossings.specs.Crossings.{foreign}
use Rattle.planes_crossings.proofs.crossings.has_foreign.Goals as goal

pub returns : goal.returns
unfolding bare mesh_in
returns c =
    let a = c.args in
    let n = c.face_count-count.result in
    let count = c.face_count-count.ensures.0 [] in
    let mesh = bare a.case.now a.points a.s a.words.now in
    let face = λ (j : ℕ). get_or (cell_at (cells_in a.s a.words.now []) a.cell).faces j 0 in
    any_from_yields_List (λ j. foreign mesh a.cut a.cell (face j)) _ _ _ c.any.ensures.ran (YieldsList-from_range 0 n n refl (omega arith)) (λ x b q k. search (rules, tests))
    ∙ any-places (foreign mesh a.cut a.cell) face _ n (sym count) (λ j h. faces-left a.case.now a.points a.s a.words.now a.cell n count j (face j) refl h)
