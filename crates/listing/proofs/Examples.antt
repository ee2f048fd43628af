-- 01's text of its pair, with the first of its answers as 02 has it, and the text of a refused job. Assumes nothing.
use mathlib.Core.Path.{◌≡◌, refl}
use mathlib.Core.List.{[], ◌∷◌}
use Rattle.listing.specs.Listing.{decimal_within, decimal_text, hex_text, words_text, answer_text, answers_text, marks_from, marks_text, done_text, refused_text}

-- "0 2 ffffffffffffffff 0000000000000000", "read 0 1"
pub pair : done_text (0 ∷ 2 ∷ 18446744073709551615 ∷ 0 ∷ []) 1 (1 ∷ 1 ∷ 0 ∷ [])
    ≡ 48 ∷ 32 ∷ 50 ∷ 32 ∷ 102 ∷ 102 ∷ 102 ∷ 102 ∷ 102 ∷ 102 ∷ 102 ∷ 102 ∷ 102 ∷ 102 ∷ 102 ∷ 102 ∷ 102 ∷ 102 ∷ 102 ∷ 102 ∷ 32 ∷ 48 ∷ 48 ∷ 48 ∷ 48 ∷ 48 ∷ 48 ∷ 48 ∷ 48 ∷ 48 ∷ 48 ∷ 48 ∷ 48 ∷ 48 ∷ 48 ∷ 48 ∷ 48 ∷ 10 ∷ 114 ∷ 101 ∷ 97 ∷ 100 ∷ 32 ∷ 48 ∷ 32 ∷ 49 ∷ 10 ∷ []
unfolding decimal_within decimal_text hex_text words_text answer_text answers_text marks_from marks_text done_text
pair = refl

-- "refused 20"
pub refused : refused_text 20 ≡ 114 ∷ 101 ∷ 102 ∷ 117 ∷ 115 ∷ 101 ∷ 100 ∷ 32 ∷ 50 ∷ 48 ∷ 10 ∷ []
unfolding decimal_within decimal_text refused_text
refused = refl
