-- What planes read: only cells of the mesh. Assumes nothing.
use Prim.Native.Nat.{ℕ, suc, ◌+◌, ◌≤◌, ◌<◌}
use native.Mathlib.Omega.{arith}
use mathlib.Core.Bool.{Bool, true, false, cond}
use mathlib.Core.List.{List, [], ◌∷◌}
use lib.ListN.{length}
use Rattle.arith.specs.Lists.{only, any_of}
use Rattle.arith.specs.declared.Vec3.{Vec3}
use Rattle.arith.proofs.All.{All, all_append}
use Rattle.reading.specs.Result.{Refusable}
use Rattle.reading.specs.Asks.{Asks}
use Rattle.reading.proofs.Within.{Within, given, asked, within-bind}
use Rattle.mesh_area.specs.Tables.{Mesh, Cell}
use Rattle.planes_cut.specs.declared.Plane.{Plane}
use Rattle.planes_cut.specs.declared.Cut.{Cut}
use Rattle.planes_crossings.specs.Crossings.{foreign, crossings}
use Rattle.planes_sections.specs.Intersect.{PlaneCell, section_centre, piece_about, piece_of, pieces_from, intersect}
use Rattle.planes_sums.specs.Sample.{Sample}
use Rattle.planes_samples.specs.Sampling.{Taken, onward, taken, sample}
use Rattle.planes.specs.Answers.{sampled, section_of, statistics_of, integrals_of, probe_of}

all-only : {A : Type 0} (P : A → Type 0) (b : Bool) (a : A) → P a → All P (only b a)
unfolding only
all-only P true a h = (h, tt)
all-only P false a h = tt

all-unless : {A : Type 0} (P : A → Type 0) (b : Bool) (l : List A) → All P l → All P (cond b [] l)
all-unless P true l h = tt
all-unless P false l h = h

module _ (n : ℕ) where
  abbrev Below : PlaneCell → Type 0
  Below g = g.cell < n

  -- the piece of a cell has its number
  about-below : (c : Cut) (i : ℕ) (l : List Vec3) (centre : Vec3) → i < n → All Below (piece_about c i l centre)
  unfolding piece_about
  about-below c i l centre h = all-only Below _ _ h

  piece-below : (m : Mesh) (c : Cut) (i : ℕ) (k : Cell) → i < n → All Below (piece_of m c i k)
  unfolding piece_of
  piece-below m c i k h =
      let l : List Vec3 = crossings m c k.faces in
      all-unless Below (any_of (foreign m c i) k.faces) (piece_about c i l (section_centre l)) (about-below c i l (section_centre l) h)

  pieces-below : (m : Mesh) (c : Cut) (i : ℕ) (ks : List Cell) → i + length ks ≤ n → All Below (pieces_from m c i ks)
  unfolding pieces_from
  pieces-below m c i [] h = tt
  pieces-below m c i (k ∷ ks) h =
      all_append Below (piece_of m c i k) (pieces_from m c (suc i) ks) (piece-below m c i k (omega arith)) (pieces-below m c (suc i) ks (omega arith))

  onward-within : (b : Bool) (s : Sample) (t : Asks Taken) → Within n t → Within n (onward b s t)
  unfolding onward
  onward-within false s t w = given
  onward-within true s t w = within-bind w (λ r. given)

  taken-within : (l : List PlaneCell) → All Below l → Within n (taken l)
  unfolding taken
  taken-within [] h = given
  taken-within (g ∷ l) h = asked h.0 (λ v. onward-within _ _ _ (taken-within l h.1))

  sample-within : (l : List PlaneCell) → All Below l → Within n (sample l)
  unfolding sample
  sample-within l h = within-bind (taken-within l h) (λ t. given)

  module _ (m : Mesh) (few : length m.cells ≤ n) (s : Plane) where
    pub intersect-within : Within n (sample (intersect m s))
    unfolding intersect
    intersect-within = sample-within _ (pieces-below m _ 0 m.cells (omega arith))

    sampled-within : (answer : List Sample → Refusable (List ℕ)) → Within n (sampled m s answer)
    unfolding sampled
    sampled-within answer = within-bind intersect-within (λ r. given)

    pub section-within : Within n (section_of m s)
    unfolding section_of
    section-within = sampled-within _

    pub statistics-within : (field : ℕ) → Within n (statistics_of m s field)
    unfolding statistics_of
    statistics-within field = sampled-within _

    pub integrals-within : Within n (integrals_of m s)
    unfolding integrals_of
    integrals-within = sampled-within _

    pub probe-within : (p : Vec3) → Within n (probe_of m s p)
    unfolding probe_of
    probe-within p = sampled-within _
