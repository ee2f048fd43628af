-- From the area that holds the partial cells to the cells, with the face table beside them. Assumes nothing.
use Prim.Native.Nat.{ℕ, ◌+◌, ◌*◌, ◌≤◌, ◌<◌}
use native.Mathlib.Omega.{arith}
use mathlib.Core.Path.{◌≡◌, sym, ap, ◌∙◌}
use mathlib.Core.List.{List}
use lib.Ieee.{Float, nan}
use lib.ListN.{get_or, take}
use lib.Seq.{get_or-take}
use Rattle.arith.specs.declared.Vec3.{Vec3}
use Rattle.arith.proofs.RecordLaws.{tab-same, same-below}
use Rattle.case_definitions.specs.Faces.{Definition}
use Rattle.case_definitions.specs.Definitions.{definitions}
use Rattle.mesh_area.specs.declared.Sizes.{Sizes}
use Rattle.mesh_area.specs.Layout.{vec_from, face_in, faces_in, mesh_words, mesh_floats, floats_end, LentWords, LentFloats}
use Rattle.mesh_coordinates.specs.Coordinates.{PointBytes}
use Rattle.mesh_cells.specs.Cells.{PartialMesh, partial_mesh}
use Rattle.mesh_cells.specs.Ensures.{PartialMeshHeld}
use Rattle.mesh_centres.specs.Finish.{definitions_of}
use Rattle.mesh_centres.specs.Ensures.{FinishCellsEntry}
use Rattle.mesh_centres.proofs.PartialLaws.{drafts-defined}
use Rattle.std.specs.Prelude.{Ok}

module _ (d : ℕ) (ps : List Vec3) (ws words : List ℕ) (floats : List Float) (s : Sizes) (n : ℕ) (t : PartialMesh) (held : PartialMeshHeld ws s words floats n t) where
  -- what `add_cells` leaves is what `finish_cells` needs
  pub held-finishable : (case : List ℕ) (points : ℕ) (defs : List Definition) → partial_mesh d ps defs ≡ Ok t → definitions s.cells ws ≡ Ok defs
      → LentWords s words → LentFloats s floats → PointBytes case points → FinishCellsEntry case points ws words floats s
  held-finishable case points defs made right lent-words lent-floats points-there =
      record {
        lent-words = lent-words;
        lent-floats = lent-floats;
        points-there = points-there;
        defs = defs;
        right = right;
        lists = held.lists;
        defined = ap definitions_of held.cells ∙ drafts-defined d ps defs t made;
      }

-- the face table does not depend on the cells' floats
module _ (s : Sizes) (words : List ℕ) (floats floats' : List Float) (few : s.faces ≤ s.slots) (same : take (12 * s.slots) floats' ≡ take (12 * s.slots) floats) where
  float-kept : (j : ℕ) → j < 12 * s.slots → get_or (mesh_floats s floats') j nan ≡ get_or (mesh_floats s floats) j nan
  unfolding mesh_floats
  float-kept j h =
      get_or-take (floats_end s) floats' j nan (omega arith)
      ∙ same-below floats floats' (12 * s.slots) j nan same h
      ∙ sym (get_or-take (floats_end s) floats j nan (omega arith))

  vec_kept : (j : ℕ) → j + 2 < 12 * s.slots → vec_from (mesh_floats s floats') j ≡ vec_from (mesh_floats s floats) j
  unfolding vec_from
  vec_kept j h = rw (float-kept j (omega arith), float-kept (j + 1) (omega arith), float-kept (j + 2) h)

  face-kept : (f : ℕ) → f < s.faces → face_in (mesh_words s words) (mesh_floats s floats') f ≡ face_in (mesh_words s words) (mesh_floats s floats) f
  unfolding face_in
  face-kept f h =
      rw (vec_kept (12 * f + 0) (omega arith), float-kept (12 * f + 3) (omega arith), vec_kept (12 * f + 4) (omega arith), vec_kept (12 * f + 7) (omega arith))

  pub faces-kept : faces_in s words floats' ≡ faces_in s words floats
  unfolding faces_in
  faces-kept = tab-same _ _ s.faces face-kept
