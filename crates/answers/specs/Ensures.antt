-- What a function that answers promises, and where the words of an answer stand in the answer buffer.
-- `length_of`, `words_of`: how many words a definition gives, and the words.
-- `decided`: an answer, or a refusal before any value is read. `replied`, `Reply`: the answer words, and the whole promise.
-- `StoredWords`: where the words of answers stand. `close`: `CloseExit`.
use Rattle.std.specs.Prelude.{ℕ, ◌+◌, ◌*◌, ◌≤◌, ◌≡◌, List, [], ◌++◌, length, set, take, Ok, Err}
use Rattle.std.proofs.lemmas.List.Edits.{sets}
use Rattle.reading.specs.declared.Values.{Values}
use Rattle.reading.specs.Result.{Refusable}
use Rattle.reading.specs.Asks.{Asks, give, run, reads, ◌>>=◌}
use Rattle.reading.specs.Marks.{mark_all}
use Rattle.answers.specs.Answer.{Header}

-- how many words an answer has, or the refusal
unfoldable pub length_of : Refusable (List ℕ) → Refusable ℕ
length_of (Err n) = Err n
length_of (Ok ws) = Ok (length ws)

-- the words of an answer; none under a refusal
unfoldable pub words_of : Refusable (List ℕ) → List ℕ
words_of (Err n) = []
words_of (Ok ws) = ws

-- a refusal that is decided before any value is read
unfoldable pub decided : Refusable (Asks (List ℕ)) → Asks (Refusable (List ℕ))
decided (Err n) = give (Err n)
decided (Ok t) = t >>= λ ws. give (Ok ws)

-- the answer words: those of the answer, as far as they fit; what is left under a refusal
unfoldable pub replied : List ℕ → List ℕ → Refusable (List ℕ) → List ℕ
replied o left (Err n) = left
replied o left (Ok ws) = sets o 0 ws

-- "equate result, answers and marks with a definition, refusals too"
pub record Reply (tree : Asks (Refusable (List ℕ))) (f : ℕ → Values) (left : List ℕ) (r : Refusable ℕ) (o o' m m' : List ℕ) : Type 0 where
  pub result : r ≡ length_of (run tree f)
  pub answers : o' ≡ replied o left (run tree f)
  pub marks : m' ≡ mark_all m (reads tree f)

-- the words ws stand from `at` on and end at r; those before are as they were; the later answers have room
pub record StoredWords (ws o o' : List ℕ) (at later r : ℕ) : Type 0 where
  pub words : take r o' ≡ take at o ++ ws
  pub end : r ≡ at + length ws
  pub room : r + 2 * later ≤ length o
  pub long : length o' ≡ length o

-- `close` stores the header alone: two words of the buffer, at `at`; the answer ends at e, behind the words that stand there
pub record CloseExit (h : Header) (o o' : List ℕ) (at e : ℕ) : Type 0 where
  pub answers : o' ≡ set (set o at h.refusal) (at + 1) h.count
  pub end : e ≡ at + 2 + h.count
