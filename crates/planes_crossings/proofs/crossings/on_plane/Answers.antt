use Prim.Native.Nat.{ℕ}
use native.Mathlib.Omega.{arith}
use mathlib.Core.Path.{refl, sym, ◌∙◌}
use mathlib.Core.List.{[]}
use lib.ListN.{get_or}
use Rattle.std.proofs.Common.{rules, tests}
use Rattle.std.proofs.lemmas.Iterator.{YieldsList-from_range}
use Rattle.std.proofs.lemmas.Iterator.Search.{all_from_yields_List}
use Rattle.mesh_area.specs.Tables.{face_at}
use Rattle.planes_cut.specs.Ensures.{bare, face_vertex}
use Rattle.planes_cut.proofs.Turns.{all-places}
use Rattle.planes_cut.proofs.MeshLaws.{vertices-left}
use Rattle.planes_crossings.specs.Crossings.{on_plane}
use Rattle.planes_crossings.proofs.SideLaws.{count-vertices}
use Rattle.planes_crossings.proofs.crossings.on_plane.Goals as goal

pub returns : goal.returns
unfolding on_plane face_vertex
returns c =
    let a = c.args in
    let n = c.vertex_count-n.result in
    let count = c.vertex_count-n.ensures.0 [] in
    let mesh = bare a.case.now a.points a.s a.words.now in
    let vertex = λ (k : ℕ). get_or (face_at mesh.faces a.f).vertices k 0 in
    all_from_yields_List (λ k. on_plane mesh a.cut (vertex k)) _ _ _ c.all.ensures.ran (YieldsList-from_range 0 n n refl (omega arith)) (λ x b q k. search (rules, tests))
    ∙ all-places (on_plane mesh a.cut) vertex _ n (sym (count-vertices _ _ _ _ a.f n count)) (vertices-left _ _ _ _ a.f n count)
