-- How a known room is told: by the refusal of its job, or by what `airjob` prints of it. Files written as numbers.
use Rattle.std.specs.Prelude.{ℕ, zero, suc, ◌-◌, ◌/◌, ◌%◌, ◌≡◌, List, [], ◌∷◌, ◌++◌, length, drop, replicate, Ok, Err}
use Rattle.reading.specs.Result.{Refusable}
use Rattle.reading.specs.Marks.{mark_all}
use Rattle.reading.specs.After.{After}
use Rattle.case_file.specs.Field.{cells_of}
use Rattle.job_room.specs.Room.{Lent}
use Rattle.job_promise.specs.Job.{outcome}
use Rattle.refusal.specs.Number.{number}

-- `width` bytes of n, before those of l
unfoldable pub bytes_from : ℕ → ℕ → List ℕ → List ℕ
bytes_from zero n l = l
bytes_from (suc width) n l = n % 256 ∷ bytes_from width (n / 256) l

-- `width` bytes of each number of a list
unfoldable pub bytes : ℕ → List ℕ → List ℕ
bytes width [] = []
bytes width (n ∷ l) = bytes_from width n (bytes width l)

-- the words of all answers, and the cells that were read
pub record Printed : Type 0 where
  pub words : List ℕ
  pub cells : List ℕ

-- how a job on a case of so many cells ends by it. "Refused jobs (1 to 19) give only the number and leave answers and marks untouched"; "Words after
-- the last answer become zero"; "byte i < C becomes 1 if this job read cell i's values, else 0; later bytes keep theirs"
unfoldable pub end_of : Refusable Printed → ℕ → List ℕ → List ℕ → After
end_of (Err k) cells answers marks = record { result = number k; answers = answers; marks = marks }
end_of (Ok p) cells answers marks =
    record {
      result = 0;
      answers = p.words ++ replicate (length answers - length p.words) 0;
      marks = mark_all (replicate cells 0) p.cells ++ drop cells marks;
    }

-- how many words, floats, marks and answer words are lent
unfoldable pub lends : ℕ → ℕ → ℕ → ℕ → Lent
lends words floats marks answers = record { words = words; floats = floats; marks = marks; answers = answers }

-- the job, lent so much, ends as it is told, whatever stood in the answers and marks; `outcome` is the definition in the contract of `job::job`
pub record Known (file requests : List ℕ) (lent : Lent) (p : Refusable Printed) : Type 0 where
  pub ends :
      (answers marks : List ℕ)
      → length answers ≡ lent.answers
      → length marks ≡ lent.marks
      → outcome file requests lent.words lent.floats answers marks ≡ end_of p (cells_of file) answers marks
