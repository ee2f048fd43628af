-- The whole job: from case bytes, request bytes and the lengths of the four buffers to its outcome.
use Rattle.std.specs.Prelude.{ℕ, List, length, Ok, Err}
use Rattle.reading.specs.Result.{Refusable, ◌>>=◌}
use Rattle.reading.specs.Asks.{Asks}
use Rattle.reading.specs.After.{After, done}
use Rattle.case_file.specs.Field.{outside, cells_of, values_of}
use Rattle.job_requests.specs.Requests.{requests_in}
use Rattle.job_room.specs.Room.{Lent, prepared}
use Rattle.job_promise.specs.List.{serve_all}
use Rattle.refusal.specs.Number.{number}

-- "It builds the mesh, then serves the requests in order." The file is a case without its field.
unfoldable pub job_of : List ℕ → List ℕ → Lent → Refusable (Asks (List ℕ))
job_of file requests lent =
    prepared file (length requests) lent >>= λ room. Ok (serve_all room lent.answers (requests_in requests))

-- what is lent: so many words and floats, these answers and these marks
abbrev pub lent_to : ℕ → ℕ → List ℕ → List ℕ → Lent
lent_to words floats answers marks =
    record { words = words; floats = floats; marks = length marks; answers = length answers }

-- how the job leaves its result, the answers and the marks
unfoldable pub outcome : List ℕ → List ℕ → ℕ → ℕ → List ℕ → List ℕ → After
outcome file requests words floats answers marks =
    done (job_of (outside file) requests (lent_to words floats answers marks)) (values_of file) (cells_of file) answers marks

-- its result: done, or the refusal
unfoldable pub result_of : List ℕ → List ℕ → ℕ → ℕ → List ℕ → List ℕ → Refusable (Unit {0})
result_of file requests words floats answers marks =
    job_of (outside file) requests (lent_to words floats answers marks) >>= λ _. Ok tt

-- the number of a result: 0, or the refusal's
unfoldable pub number_of : Refusable (Unit {0}) → ℕ
number_of (Ok t) = 0
number_of (Err k) = number k
