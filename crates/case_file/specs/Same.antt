-- What demand 3 asks of its two files: they may differ in velocities and pressures alone, and have the same ones at some cells. So they "share zones as
-- well as mesh".
use Rattle.std.specs.Prelude.{ℕ, ◌+◌, ◌*◌, ◌≤◌, ◌<◌, ◌≡◌, true, List, length, get_or}
use Rattle.case_file.specs.Trailer.{counts_of, trailer_right, field_from, pressures_from, zones_from}

-- byte k is one of the velocities or pressures; "a file that gives refusal 1 has no velocities or pressures"
pub record InField (file : List ℕ) (k : ℕ) : Type 0 where
  pub right : trailer_right file ≡ true
  pub from : field_from (counts_of file) ≤ k
  pub to : k < zones_from (counts_of file)

-- "both files have the same length", and the same bytes outside velocities and pressures
pub record SameOutsideFields (a b : List ℕ) : Type 0 where
  pub long : length a ≡ length b
  pub bytes : (k : ℕ) → (InField a k → ⊥) → get_or a k 0 ≡ get_or b k 0

-- n bytes from `at` on are the same
abbrev pub SameBytes : List ℕ → List ℕ → ℕ → ℕ → Type 0
SameBytes a b at n = (k : ℕ) → k < n → get_or a (at + k) 0 ≡ get_or b (at + k) 0

-- the same bits of velocity and of pressure at cell i: "velocities (3 floats per cell), pressures (one per cell)"
pub record SameAt (a b : List ℕ) (i : ℕ) : Type 0 where
  pub velocity : SameBytes a b (field_from (counts_of a) + 24 * i) 24
  pub pressure : SameBytes a b (pressures_from (counts_of a) + 8 * i) 8
