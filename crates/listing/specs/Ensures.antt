-- How a text stands in a buffer that may be too short for it.
use Rattle.std.specs.Prelude.{ℕ, ◌+◌, min, ◌≡◌, List, length}
use Rattle.std.proofs.lemmas.List.Edits.{sets}

-- where a text ends, as a buffer of `room` bytes tells it: one past the buffer where the text does not fit
abbrev pub end_in : ℕ → ℕ → ℕ
end_in room end = min end (room + 1)

-- the bytes stand from `at` on, as far as there is room, and r is where they end
pub record PutExit (bytes o o' : List ℕ) (at r : ℕ) : Type 0 where
  pub text : o' ≡ sets o at bytes
  pub end : end_in (length o) r ≡ end_in (length o) (at + length bytes)

-- the whole text stands in the buffer, as far as there is room, and r is how long it is, or one more than the buffer
pub record ListingExit (text o o' : List ℕ) (r : ℕ) : Type 0 where
  pub bytes : o' ≡ sets o 0 text
  pub end : r ≡ end_in (length o) (length text)
