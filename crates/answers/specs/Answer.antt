-- The words of one answer. Refusal 44.
use Rattle.std.specs.Prelude.{ℕ, ◌+◌, ◌*◌, cond, List, [], ◌∷◌, leb, length, Ok, Err}
use Rattle.reading.specs.Result.{Refusable}
use Rattle.refusal.specs.Number.{number}
use Rattle.refusal.specs.declared.Refusal.TheVariants.{AnswerTooLong}

-- refusal 44: "n words fit if n + 2 plus 2 per later request is at most what is left"
unfoldable pub fitting : ℕ → ℕ → Refusable (List ℕ) → Refusable (List ℕ)
fitting left later (Err n) = Err n
fitting left later (Ok ws) = cond (leb (length ws + 2 + 2 * later) left) (Ok ws) (Err AnswerTooLong)

-- "Answer: refusal (0 if none), word count n, then n words; a refusal has n = 0."
unfoldable pub answer_words : Refusable (List ℕ) → List ℕ
answer_words (Err r) = number r ∷ 0 ∷ []
answer_words (Ok ws) = 0 ∷ length ws ∷ ws

-- the two words before the words of an answer
pub record Header : Type 0 where
  pub refusal : ℕ
  pub count : ℕ

-- those of what was answered, with so many words left and so many later requests: the same of a refusal, or of a word count alone
unfoldable pub header_of : ℕ → ℕ → Refusable ℕ → Header
header_of left later (Err r) = record { refusal = number r; count = 0 }
header_of left later (Ok n) =
    cond (leb (n + 2 + 2 * later) left) (record { refusal = 0; count = n }) (record { refusal = number AnswerTooLong; count = 0 })
