-- Demand 3 put to use: any byte of a cell that was not marked may be changed, and the job ends as it did. A weaker wording of the promise, which would
-- ask for more of the two files, does not give this. Assumes nothing.
use Prim.Native.Nat.{ℕ, ◌+◌, ◌*◌, ◌<◌}
use native.Mathlib.Omega.{arith}
use mathlib.Core.Path.{◌≡◌, ap, sym}
use mathlib.Core.Bool.{true}
use mathlib.Core.List.{List}
use lib.ListN.{get_or, set, length-set}
use lib.Seq.{get_or-set_other}
use Rattle.reading.specs.After.{After, Named}
use Rattle.case_file.specs.Trailer.{counts_of, trailer_right, field_from, pressures_from, zones_from}
use Rattle.case_file.specs.Field.{cells_of}
use Rattle.case_file.specs.Same.{SameOutsideFields, SameAt}
use Rattle.job_promise.specs.Job.{outcome}
use Rattle.job_promise.specs.Promise.{JobPromise}

-- byte k is one of cell i's
pub data OfCell (case : List ℕ) (i : ℕ) : ℕ → Type 0 where
  velocity : (q : ℕ) → q < 24 → OfCell case i (field_from (counts_of case) + 24 * i + q)
  pressure : (q : ℕ) → q < 8 → OfCell case i (pressures_from (counts_of case) + 8 * i + q)

module _ (case : List ℕ) (right : trailer_right case ≡ true) (i : ℕ) (cell : i < cells_of case) (v : ℕ) where
  pressures-follow : pressures_from (counts_of case) ≡ field_from (counts_of case) + 24 * cells_of case
  unfolding field_from pressures_from cells_of
  pressures-follow = omega arith

  zones-follow : zones_from (counts_of case) ≡ pressures_from (counts_of case) + 8 * cells_of case
  unfolding zones_from pressures_from cells_of
  zones-follow = omega arith

  other : (k j : ℕ) → (j ≡ k → ⊥) → get_or case j 0 ≡ get_or (set case k v) j 0
  other k j n = sym (get_or-set_other case k j v 0 n)

  -- it lies in the field, so that the rest is the same
  rest-same : {k : ℕ} → OfCell case i k → SameOutsideFields case (set case k v)
  rest-same (velocity q h) =
      let k = field_from (counts_of case) + 24 * i + q in
      record {
        long = sym (length-set case k v);
        bytes = λ j n. other k j (λ e. n (record { right = right; from = omega (arith, e); to = omega (arith, e, pressures-follow, zones-follow) }));
      }
  rest-same (pressure q h) =
      let k = pressures_from (counts_of case) + 8 * i + q in
      record {
        long = sym (length-set case k v);
        bytes = λ j n. other k j (λ e. n (record { right = right; from = omega (arith, e, pressures-follow); to = omega (arith, e, zones-follow) }));
      }

  -- and every other cell has its bits
  others_same : (j : ℕ) → j < cells_of case → (j ≡ i → ⊥) → {k : ℕ} → OfCell case i k → SameAt case (set case k v) j
  others_same j c n (velocity q h) =
      let k = field_from (counts_of case) + 24 * i + q in
      record {
        velocity = λ u l. other k (field_from (counts_of case) + 24 * j + u) (λ e. n (omega (arith, e)));
        pressure = λ u l. other k (pressures_from (counts_of case) + 8 * j + u) (λ e. omega (arith, e, pressures-follow));
      }
  others_same j c n (pressure q h) =
      let k = pressures_from (counts_of case) + 8 * i + q in
      record {
        velocity = λ u l. other k (field_from (counts_of case) + 24 * j + u) (λ e. omega (arith, e, pressures-follow));
        pressure = λ u l. other k (pressures_from (counts_of case) + 8 * j + u) (λ e. n (omega (arith, e)));
      }

  pub unmarked-free : {requests : List ℕ} {words floats : ℕ} {answers marks : List ℕ} {left : After}
      → JobPromise case requests words floats answers marks left → get_or left.marks i 0 ≡ 0 → {k : ℕ} → OfCell case i k
      → left ≡ outcome (set case k v) requests words floats answers marks
  unfolding Named
  unmarked-free {left = left} t z {k} b =
      t.two_runs (set case k v) (rest-same b)
      (λ j w. others_same j w.1 (λ e. omega (arith, w.2, z, ap (λ (x : ℕ). get_or left.marks x 0) e)) b)
