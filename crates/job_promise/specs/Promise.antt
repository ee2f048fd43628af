-- What the job promises of a run: it ends by the definition (demand 2), and its marks say what its answers were made from (demand 3).
use Rattle.std.specs.Prelude.{ℕ, suc, ◌*◌, ◌/◌, ◌<◌, ◌≤◌, ◌≡◌, length, get_or, drop, replicate, Ok, Err}
use mathlib.Core.List.{List, ◌∷◌, ◌++◌, Memᴰ}
use Rattle.reading.specs.Result.{Refusable}
use Rattle.reading.specs.Asks as asks
use Rattle.reading.specs.After.{After, Named}
use Rattle.case_file.specs.Field.{cells_of, values_of}
use Rattle.case_file.specs.Same.{SameOutsideFields, SameAt}
use Rattle.job_requests.specs.Requests.{words_at}
use Rattle.job_room.specs.Room.{Room, Lent, prepared}
use Rattle.job_promise.specs.List.{reply_to}
use Rattle.job_promise.specs.Job.{lent_to, outcome}
use Rattle.refusal.specs.declared.Refusal.{Refusal}
use Rattle.refusal.specs.declared.Refusal.TheVariants.{ZoneTooLarge}
use Rattle.refusal.specs.Number as numbers

-- ---- the numbers of refusals

-- "Refused jobs (1 to 19) give only the number", and 45 "refuses the job as 1 to 19 do"; 0 is the number of an accepted job, whose room was built
pub data ResultNumber : Refusable Room → ℕ → Type 0 where
  accepted : {room : Room} → ResultNumber (Ok room) 0
  rejected : {k : Refusal} → 1 ≤ numbers.number k → numbers.number k ≤ 19 → ResultNumber (Err k) (numbers.number k)
  rejected-45 : ResultNumber (Err ZoneTooLarge) 45

-- so many answers, and zeros behind them: "refusal (0 if none), word count n, then n words; a refusal has n = 0", and its number is from 30 to 44
pub data Answers : ℕ → List ℕ → Type 0 where
  end : (k : ℕ) → Answers 0 (replicate k 0)
  served : {n : ℕ} {rest : List ℕ} (ws : List ℕ) → Answers n rest → Answers (suc n) (0 ∷ length ws ∷ (ws ++ rest))
  denied : {n : ℕ} {rest : List ℕ} {k : ℕ} → 30 ≤ k → k ≤ 44 → Answers n rest → Answers (suc n) (k ∷ 0 ∷ rest)

-- ---- the marks of an accepted job

-- Cell i is read for some request of the list, the one with this number: "An accepted job reads the cells that its requests read, taken together."
pub record ReadBySome (case requests : List ℕ) (lent : Lent) (i : ℕ) : Type 0 where
  pub room : Room
  pub built : prepared case (length requests) lent ≡ Ok room
  pub number : ℕ
  pub listed : number < length requests / 128
  pub reads : Memᴰ i (asks.reads (reply_to room (words_at requests (128 * number))) (values_of case))

-- a byte of the marks: "1 if this job read cell i's values, else 0"
pub data Mark (Is-read : Type 0) : ℕ → Type 0 where
  marked : Is-read → Mark Is-read 1
  clear : (Is-read → ⊥) → Mark Is-read 0

-- ---- a run

-- A run over a case, with these requests, as many words and floats lent, these answers and marks on entry; and what it left.
pub record JobPromise (case requests : List ℕ) (words floats : ℕ) (answers marks : List ℕ) (left : After) : Type 0 where
  -- "equate result, answers and marks with a definition, refusals too"
  pub ends : left ≡ outcome case requests words floats answers marks
  pub number : ResultNumber (prepared case (length requests) (lent_to words floats answers marks)) left.result
  pub answered : left.result ≡ 0 → Answers (length requests / 128) left.answers
  -- This is run M. Run P is over any file p with the same bytes outside velocities and pressures, and the same values at the cells that M's marks
  -- name; by its own `ends` it leaves `outcome p ..`. "Equal are the job's result, every word of the answer buffer and every byte of the marks buffer".
  pub two_runs : (p : List ℕ) → SameOutsideFields case p
      → ((i : ℕ) → Named left (cells_of case) i → SameAt case p i)
      → left ≡ outcome p requests words floats answers marks
  -- A cell is marked exactly when it is read for some request of the list; "later bytes keep theirs".
  pub marked : left.result ≡ 0 → (i : ℕ) → i < cells_of case
      → Mark (ReadBySome case requests (lent_to words floats answers marks) i) (get_or left.marks i 0)
  pub later : drop (cells_of case) left.marks ≡ drop (cells_of case) marks
