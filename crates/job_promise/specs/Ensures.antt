-- The contracts of the parts of the job.
use Rattle.std.specs.Prelude.{ℕ, ◌-◌, ◌/◌, ◌≡◌, List, length}
use Rattle.reading.specs.declared.Values.{Values}
use Rattle.reading.specs.Asks.{Asks, give, run, reads, ◌>>=◌}
use Rattle.reading.specs.Marks.{mark_all}
use Rattle.job_room.specs.Room.{Room}
use Rattle.answers.specs.Answer.{fitting, answer_words}
use Rattle.answers.specs.Ensures.{StoredWords}
use Rattle.job_promise.specs.List.{reply_to}

-- how many requests of the bytes follow request i
abbrev pub later_than : List ℕ → ℕ → ℕ
later_than requests i = length requests / 128 - i - 1

-- one answer, with so many words left and so many later requests
unfoldable pub answer_to : Room → ℕ → ℕ → List ℕ → Asks (List ℕ)
answer_to room left later r = reply_to room r >>= λ a. give (answer_words (fitting left later a))

-- what a tree gives stands from `at` on, and what it reads is marked
pub record ServeAllExit (t : Asks (List ℕ)) (f : ℕ → Values) (m m' o o' : List ℕ) (at later r : ℕ) : Type 0 where
  pub marks : m' ≡ mark_all m (reads t f)
  pub placed : StoredWords (run t f) o o' at later r
