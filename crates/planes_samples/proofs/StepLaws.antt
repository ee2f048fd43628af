-- One sample, one cell and the loop over the cells. Assumes nothing.
use Prim.Native.Nat.{ℕ, zero, suc, ◌+◌, ◌*◌, ◌≤◌, ◌<◌}
use native.Mathlib.Numerals.{add-one}
use native.Mathlib.Omega.{arith}
use mathlib.Core.Path.{◌≡◌, ap, sym, ◌∙◌, subst}
use mathlib.Core.Bool.{Bool, true, false}
use mathlib.Core.List.{List, [], ◌∷◌, ◌++◌}
use lib.ListN.{length, set, drop}
use lib.Ieee.{Float}
use Rattle.arith.specs.declared.Vec3.{Vec3}
use Rattle.arith.proofs.RecordLaws.{length-tab, drop-next, drop-end}
use Rattle.reading.specs.declared.Values.{Values}
use Rattle.case_file.specs.declared.Counts.{Counts}
use Rattle.mesh_area.specs.declared.Sizes.{Sizes}
use Rattle.mesh_area.specs.Tables.{Mesh, Cell, cell_at, no_cell}
use Rattle.mesh_area.specs.Layout.{points_in, cells_in, mesh_in}
use Rattle.planes_cut.specs.declared.Cut.{Cut}
use Rattle.planes_cut.specs.declared.Plane.{Plane}
use Rattle.planes_cut.specs.Cut.{cut_of}
use Rattle.planes_sections.specs.Intersect.{PlaneCell, piece_of, pieces_from, intersect}
use Rattle.planes_crossings.specs.Ensures.{SliceLengths}
use Rattle.planes_cut.specs.Ensures.{bare}
use Rattle.planes_sections.specs.Ensures.{piece_in, vertices_of, PieceOfExit}
use Rattle.planes_crossings.proofs.HeldLaws.{length-held}
use Rattle.planes_sections.proofs.PieceLaws.{same-piece}
use Rattle.planes_sums.specs.declared.Accumulator.{Accumulator}
use Rattle.planes_sums.specs.Sample.{has_finite_values}
use Rattle.planes_samples.specs.Ensures.{accumulated_of, Stream, stream, SampleAllExit, StepExit, SampleEntry}
use Rattle.planes_sums.specs.Kept.{SampleSums, sample_sums_of, add_to, written, cell_in, sample_in, size_of, AddExit}
use Rattle.planes_samples.proofs.StreamLaws.{stream-nil, stream-sound, stream-bad, stream-then, stream-stop}
use Rattle.planes_sums.proofs.AccumulatorLaws.{added-grows}
use Rattle.std.specs.Prelude.{Some, None}
use Rattle.std.specs.declared.option.Option.{Option}

pub as-record : (s : Stream) (r : Option Accumulator) (o m : List ℕ) → SampleAllExit s r o m → s ≡ record { outcome = accumulated_of r; answers = o; marks = m }
as-record s r o m h = rw (h.outcome, h.answers, h.marks)

pub of-record : (s : Stream) (r : Option Accumulator) (o m : List ℕ) → s ≡ record { outcome = accumulated_of r; answers = o; marks = m } → SampleAllExit s r o m
of-record s r o m e =
    record {
      outcome = sym (ap (λ (s : Stream). s.outcome) e);
      answers = sym (ap (λ (s : Stream). s.answers) e);
      marks = sym (ap (λ (s : Stream). s.marks) e);
    }

-- ---- one sample

module _ (c : Cut) (f : ℕ → Values) (t : Accumulator) (cell : ℕ) (centre : Vec3) (n : ℕ) (x y z : List Float) (o m m' : List ℕ) (v : Values) (b : Bool)
    (ev : v ≡ f cell) (em : m' ≡ set m cell 1) (eb : b ≡ has_finite_values v) where
  pub sample-taken : (t' : Accumulator) (o' : List ℕ) → b ≡ true → n ≤ 192 → AddExit c t (sample_in cell centre n v x y z) t' o o' →
      StepExit (stream c f (cell_in cell centre n x y z ∷ []) (sample_sums_of t) o m) t (Some t') o' m'
  unfolding accumulated_of
  sample-taken t' o' h few a₀ =
      let a : AddExit c t (sample_in cell centre n (f cell) x y z) t' o o' = subst (λ (u : Values). AddExit c t (sample_in cell centre n u x y z) t' o o') ev a₀ in
      let s = sample_in cell centre n (f cell) x y z in
      let ok : has_finite_values (f cell) ≡ true = ap has_finite_values (sym ev) ∙ sym eb ∙ h in
      let e : stream c f (cell_in cell centre n x y z ∷ []) (sample_sums_of t) o m ≡ record { outcome = accumulated_of (Some t'); answers = o'; marks = m' } =
      rw (a.tally, a.answers, em) (stream-sound c f (cell_in cell centre n x y z) [] (sample_sums_of t) o m ok ∙ stream-nil c f (add_to c (sample_sums_of t) s) (written (sample_sums_of t) o s) (set m cell 1)) in
      record {
        streamed = of-record _ _ _ _ e;
        grown = rw a.tally (added-grows c (sample_sums_of t) s (rw (length-held x y z n) few));
      }

  pub sample-bad : b ≡ false → StepExit (stream c f (cell_in cell centre n x y z ∷ []) (sample_sums_of t) o m) t None o m'
  unfolding accumulated_of
  sample-bad h =
      let no : has_finite_values (f cell) ≡ false = ap has_finite_values (sym ev) ∙ sym eb ∙ h in
      record { streamed = of-record _ _ _ _ (stream-bad c f (cell_in cell centre n x y z) [] (sample_sums_of t) o m no ∙ rw em); grown = tt }

-- ---- one cell

module _ (c : Cut) (f : ℕ → Values) (mesh : Mesh) (cell : ℕ) (piece : Option (Vec3 × ℕ)) {x₀ y₀ z₀ : List Float} (x y z : List Float) (t : Accumulator) (o m : List ℕ) (p : PieceOfExit mesh c cell piece x₀ y₀ z₀ x y z) where
  pub step_of : (centre : Vec3) (k : ℕ) (r : Option Accumulator) (o' m' : List ℕ) → piece ≡ Some (centre, k) → StepExit (stream c f (cell_in cell centre k x y z ∷ []) (sample_sums_of t) o m) t r o' m' →
      StepExit (stream c f (piece_of mesh c cell (cell_at mesh.cells cell)) (sample_sums_of t) o m) t r o' m'
  unfolding piece_in
  step_of centre k r o' m' e h =
      let w : cell_in cell centre k x y z ∷ [] ≡ piece_of mesh c cell (cell_at mesh.cells cell) = rw e at p.piece in
      rw (← w) h

  pub step-empty : piece ≡ None → StepExit (stream c f (piece_of mesh c cell (cell_at mesh.cells cell)) (sample_sums_of t) o m) t (Some t) o m
  unfolding piece_in accumulated_of
  step-empty e =
      let w : [] ≡ piece_of mesh c cell (cell_at mesh.cells cell) = rw e at p.piece in
      rw (← w) (record { streamed = of-record _ _ _ _ (stream-nil c f (sample_sums_of t) o m); grown = omega arith })

-- what is known of the piece
module _ {mesh : Mesh} {c : Cut} {cell : ℕ} {piece : Option (Vec3 × ℕ)} {x₀ y₀ z₀ x y z : List Float} (p : PieceOfExit mesh c cell piece x₀ y₀ z₀ x y z) where
  pub piece-few : (centre : Vec3) (k : ℕ) → piece ≡ Some (centre, k) → k ≤ 192
  unfolding vertices_of
  piece-few centre k e = rw e at p.few

  pub piece-full : (centre : Vec3) (k : ℕ) → piece ≡ Some (centre, k) → 3 ≤ k
  piece-full centre k e = rw e at p.full

-- ---- the loop

pub length-cells : (case : List ℕ) (n : ℕ) (s : Sizes) (words : List ℕ) → length (bare case n s words).cells ≡ s.cells
unfolding bare mesh_in cells_in
length-cells case n s words = length-tab _ s.cells

pub ready-same : {case : List ℕ} {n : Counts} {s : Sizes} {words m m' : List ℕ} → SampleEntry case n s words m → length m' ≡ length m → SampleEntry case n s words m'
ready-same r e = record { is_open = r.is_open; lent = r.lent; bounded = r.bounded; room = rw e r.room }

pub holds-first : {x y z : List Float} {n k : ℕ} → k ≤ n → SliceLengths x y z n → SliceLengths x y z k
holds-first l h = record { in-x = omega (arith, h.in-x); in-y = omega (arith, h.in-y); in-z = omega (arith, h.in-z) }

pub holds_same : {x y z x' y' z' : List Float} {n : ℕ} → SliceLengths x y z n → length x' ≡ length x → length y' ≡ length y → length z' ≡ length z → SliceLengths x' y' z' n
holds_same h a b c = record { in-x = rw a h.in-x; in-y = rw b h.in-y; in-z = rw c h.in-z }

pieces-next : (mesh : Mesh) (c : Cut) (i : ℕ) → i < length mesh.cells →
    pieces_from mesh c i (drop i mesh.cells) ≡ piece_of mesh c i (cell_at mesh.cells i) ++ pieces_from mesh c (i + 1) (drop (i + 1) mesh.cells)
unfolding pieces_from cell_at
pieces-next mesh c i h =
    ap (pieces_from mesh c i) (drop-next mesh.cells i no_cell h)
    ∙ ap (λ (k : ℕ). piece_of mesh c i (cell_at mesh.cells i) ++ pieces_from mesh c k (drop (i + 1) mesh.cells)) (sym (add-one i))

module _ (case : List ℕ) (points : ℕ) (s : Sizes) (words : List ℕ) (c : Cut) (f : ℕ → Values) (i : ℕ) (t : Accumulator) (o m : List ℕ) {w : Stream} where
  module _ (inv : stream c f (pieces_from (bare case points s words) c i (drop i (bare case points s words).cells)) (sample_sums_of t) o m ≡ w) (more : i < s.cells)
      (r : Option Accumulator) (o' m' : List ℕ) (h : StepExit (stream c f (piece_of (bare case points s words) c i (cell_at (bare case points s words).cells i)) (sample_sums_of t) o m) t r o' m') where
    split : stream c f (piece_of (bare case points s words) c i (cell_at (bare case points s words).cells i) ++ pieces_from (bare case points s words) c (i + 1) (drop (i + 1) (bare case points s words).cells)) (sample_sums_of t) o m ≡ w
    split = sym (ap (λ (l : List PlaneCell). stream c f l (sample_sums_of t) o m) (pieces-next (bare case points s words) c i (rw (length-cells case points s words) more))) ∙ inv

    pub turn : (next : Accumulator) → r ≡ Some next → stream c f (pieces_from (bare case points s words) c (i + 1) (drop (i + 1) (bare case points s words).cells)) (sample_sums_of next) o' m' ≡ w
    unfolding accumulated_of
    turn next e =
        sym (stream-then c f _ (pieces_from (bare case points s words) c (i + 1) (drop (i + 1) (bare case points s words).cells)) (sample_sums_of t) (sample_sums_of next) o o' m m' (as-record _ _ _ _ h.streamed ∙ rw e)) ∙ split

    pub turn-size : (next : Accumulator) → r ≡ Some next → size_of (sample_sums_of t) ≤ 1 + 586 * i → size_of (sample_sums_of next) ≤ 1 + 586 * (i + 1)
    turn-size next e l = let g : size_of (sample_sums_of next) ≤ size_of (sample_sums_of t) + 586 = rw e at h.grown in omega arith

    pub stopped : r ≡ None → SampleAllExit w None o' m'
    unfolding accumulated_of
    stopped e =
        of-record _ _ _ _ (sym split ∙ stream-stop c f _ (pieces_from (bare case points s words) c (i + 1) (drop (i + 1) (bare case points s words).cells)) (sample_sums_of t) o o' m m' (as-record _ _ _ _ h.streamed ∙ rw e))

  pub all_done : stream c f (pieces_from (bare case points s words) c i (drop i (bare case points s words).cells)) (sample_sums_of t) o m ≡ w → s.cells ≤ i → SampleAllExit w (Some t) o m
  unfolding pieces_from accumulated_of
  all_done inv h =
      let none : drop i (bare case points s words).cells ≡ [] = drop-end (bare case points s words).cells i (rw (length-cells case points s words) h) in
      of-record _ _ _ _ (sym inv ∙ ap (λ (l : List Cell). stream c f (pieces_from (bare case points s words) c i l) (sample_sums_of t) o m) none ∙ stream-nil c f (sample_sums_of t) o m)

-- ---- whatever the floats hold

module _ (case : List ℕ) (points : ℕ) (s : Sizes) (words : List ℕ) (floats : List Float) (c : Cut) where
  abbrev whole : Mesh
  whole = mesh_in (points_in case points) s words floats

  long : length whole.cells ≡ s.cells
  unfolding mesh_in cells_in
  long = length-tab _ s.cells

  same_from : (k i : ℕ) → i + k ≡ s.cells → pieces_from whole c i (drop i whole.cells) ≡ pieces_from (bare case points s words) c i (drop i (bare case points s words).cells)
  unfolding pieces_from
  same_from zero i e =
      rw (drop-end whole.cells i (omega (arith, long)), drop-end (bare case points s words).cells i (omega (arith, length-cells case points s words)))
  same_from (suc k) i e =
      let a : i < length whole.cells = omega (arith, long) in
      let b : i < length (bare case points s words).cells = omega (arith, length-cells case points s words) in
      let p : piece_of whole c i (cell_at whole.cells i) ≡ piece_of (bare case points s words) c i (cell_at (bare case points s words).cells i) = unfold bare in same-piece (points_in case points) s words floats c i in
      let q = same_from k (i + 1) (omega arith) in
      pieces-next whole c i a
      ∙ ap (λ (l : List PlaneCell). l ++ pieces_from whole c (i + 1) (drop (i + 1) whole.cells)) p
      ∙ ap (λ (l : List PlaneCell). piece_of (bare case points s words) c i (cell_at (bare case points s words).cells i) ++ l) q
      ∙ sym (pieces-next (bare case points s words) c i b)

pub streamed-any : (case : List ℕ) (points : ℕ) (s : Sizes) (words : List ℕ) (plane : Plane) (f : ℕ → Values) (t : SampleSums) (o m : List ℕ) (c : Cut) (r : Option Accumulator) (o' m' : List ℕ) →
    c ≡ cut_of (points_in case points) plane → SampleAllExit (stream c f (pieces_from (bare case points s words) c 0 (bare case points s words).cells) t o m) r o' m' →
    (floats : List Float) → SampleAllExit (stream (cut_of (points_in case points) plane) f (intersect (mesh_in (points_in case points) s words floats) plane) t o m) r o' m'
unfolding intersect mesh_in
streamed-any case points s words plane f t o m c r o' m' e h floats =
    let M = mesh_in (points_in case points) s words floats in
    let q = same_from case points s words floats c s.cells 0 (omega arith) in
    subst (λ (d : Cut). SampleAllExit (stream d f (pieces_from M d 0 M.cells) t o m) r o' m') e
    (subst (λ (l : List PlaneCell). SampleAllExit (stream c f l t o m) r o' m') (sym q) h)
