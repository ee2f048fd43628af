-- The three ends of the exported function. Assumes nothing.
use Prim.Native.Nat.{ℕ, ◌≤◌, ◌<◌}
use native.Mathlib.Omega.{arith}
use mathlib.Core.Path.{◌≡◌, sym, ap, ◌∙◌}
use mathlib.Core.List.{List}
use lib.ListN.{length, set}
use lib.Ieee.{Float}
use borrow.Author.Tests.{lt-ltb, le-ltb}
use Rattle.arith.specs.declared.Vec3.{Vec3}
use Rattle.reading.specs.Result.{Refusable}
use Rattle.mesh_area.specs.Tables.{Mesh}
use Rattle.mesh_area.specs.Layout.{mesh_in}
use Rattle.mesh_area.specs.declared.Sizes.{Sizes}
use Rattle.mesh.specs.Ensures.{BuildExit, sizes_for}
use Rattle.mesh.proofs.Laws.{Standing, building-refused, building-mesh, standing-sizes}
use Rattle.test_mesh_exports.specs.Exported.{refusal_of, sizes_of, FromCellsExit}
use Rattle.std.specs.Prelude.{Ok, Err}
use Rattle.refusal.specs.declared.Refusal.{Refusal}
use Rattle.refusal.specs.Number.{number}

module _ {m : Refusable Mesh} {n : ℕ} {ps : List Vec3} {words : List ℕ} {floats : List Float} {b : Refusable Sizes} (z : List ℕ) (h : BuildExit m n ps words floats b) where
  pub refusal : (k : Refusal) → b ≡ Err k → FromCellsExit m n ps words floats z z (number k)
  unfolding refusal_of sizes_of
  refusal k e =
      let r : m ≡ Err k = building-refused k h e in
      record { number = rw r; stored = rw r; stands = λ t g. absurd (let q : ◌≡◌ {A = ℕ} 0 1 = cc in omega arith) }

  module _ (s : Sizes) (e : b ≡ Ok s) where
    p : Standing m n ps words floats s
    p = building-mesh s h e

    there : (t : Mesh) → m ≡ Ok t → mesh_in ps (sizes_for n t) words floats ≡ t
    there t g = let q : mesh_in ps s words floats ≡ t = cc p.mesh in rw (← standing-sizes s t p g) q

    own : s ≡ sizes_for n (mesh_in ps s words floats)
    own = standing-sizes s (mesh_in ps s words floats) p p.mesh

    pub no_room : length z < 3 → FromCellsExit m n ps words floats z z 0
    unfolding refusal_of sizes_of
    no_room short = record { number = rw p.mesh; stored = rw (p.mesh, lt-ltb (length z) 3 short); stands = there }

    pub sized : 3 ≤ length z → FromCellsExit m n ps words floats z (set (set (set z 0 s.slots) 1 s.faces) 2 s.cells) 0
    unfolding refusal_of sizes_of sizes_for
    sized long =
        let filled : set (set (set z 0 s.slots) 1 s.faces) 2 s.cells ≡ sizes_of n (Ok (mesh_in ps s words floats)) z =
        ap (λ (x : Sizes). set (set (set z 0 x.slots) 1 x.faces) 2 x.cells) own ∙ rw (le-ltb (length z) 3 long) in
        record { number = rw p.mesh; stored = filled ∙ ap (λ x. sizes_of n x z) (sym p.mesh); stands = there }
