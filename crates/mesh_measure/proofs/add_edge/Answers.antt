use Rattle.case_faces.proofs.FaceLaws.{next-number}
use Prim.Native.Nat.{ℕ}
use mathlib.Core.Path.{◌∙◌, ap}
use mathlib.Core.List.{List}
use lib.ListN.{get_or, length-take}
use native.Mathlib.Omega.{arith}
use Rattle.mesh_measure.proofs.Laws.{first_two}
use Rattle.mesh_measure.proofs.add_edge.Goals as goal

pub slice_bounds-number-end : goal.slice_bounds-number-end
slice_bounds-number-end c = simp length-take (omega arith)

pub slice_bounds-number-end-2 : goal.slice_bounds-number-end-2
slice_bounds-number-end-2 c = simp length-take (omega arith)

pub returns : goal.returns
returns c =
    let k = c.copy_face-copied.ensures in
    record {
      sum =
          c.add_triangle-sum.ensures
          ∙ first_two _ _ _ _ _ _
          (c.number-a.ensures ∙ ap (λ (l : List ℕ). get_or l 0 0) k.front)
          (c.number-b.ensures ∙ ap (λ (l : List ℕ). get_or l 1 0) k.front);
      next = record { face = next-number _ _ _ _ k.follows; at-face = k.goes };
    }
