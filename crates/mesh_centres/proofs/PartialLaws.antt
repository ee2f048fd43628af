-- The partial cells are those of the definitions, one each, in their order. Assumes nothing.
use Prim.Native.Nat.{ℕ}
use mathlib.Core.Path.{◌≡◌, refl, sym, ap, ◌∙◌}
use mathlib.Core.List.{List, [], ◌∷◌, ◌++◌, map, append-nil}
use Rattle.arith.specs.declared.Vec3.{Vec3}
use Rattle.reading.specs.Result.{steps}
use Rattle.reading.proofs.ResultLaws.{bound}
use Rattle.case_definitions.specs.Faces.{Definition}
use Rattle.mesh_points.specs.Collect.{reference_of}
use Rattle.mesh_cells.specs.Cells.{PartialCell, PartialMesh, add_cell, partial_mesh}
use Rattle.mesh_centres.specs.Finish.{definitions_of}
use Rattle.std.specs.Prelude.{Ok}

map-end : {A B : Type 0} (f : A → B) (l : List A) (a : A) (k : List B) → map f (l ++ a ∷ []) ++ k ≡ map f l ++ f a ∷ k
map-end f [] a k = refl
map-end {B = B} f (x ∷ l) a k = ap {B = List B} (λ r. f x ∷ r) (map-end f l a k)

module _ (d : ℕ) (ps : List Vec3) where
  cell-added : (t u : PartialMesh) (def : Definition) (k : List Definition) → add_cell d ps t def ≡ Ok u
      → definitions_of u.cells ++ k ≡ definitions_of t.cells ++ def ∷ k
  unfolding add_cell
  cell-added t u def k e =
      let b₁ = bound _ _ _ e in
      let b₂ = bound _ _ _ b₁.then in
      let b₃ = bound _ _ _ b₂.then in
      let c : PartialCell = record { definition = def; faces = b₃.value.numbers; reference = reference_of ps def } in
      let w : ◌≡◌ {A = PartialMesh} (record { faces = b₃.value.faces; cells = t.cells ++ c ∷ [] }) u = cc b₃.then in
      rw (← w) (map-end _ t.cells c k)

  all-added : (l : List Definition) (t u : PartialMesh) → steps (add_cell d ps) t l ≡ Ok u → definitions_of u.cells ≡ definitions_of t.cells ++ l
  unfolding steps
  all-added [] t u e = let w : t ≡ u = cc in rw (← w) (sym (append-nil _))
  all-added (a ∷ l) t u e =
      let b = bound _ _ _ e in
      all-added l b.value u b.then ∙ cell-added t b.value a l b.had

  pub drafts-defined : (defs : List Definition) (t : PartialMesh) → partial_mesh d ps defs ≡ Ok t → definitions_of t.cells ≡ defs
  unfolding partial_mesh
  drafts-defined defs t e = all-added defs _ t e
