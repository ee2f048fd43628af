-- 01, "The program `airjob`": the text of a result, and refusal 20. Quoted lines are 01's.
use Rattle.std.specs.Prelude.{ℕ, Bool, cond, List, ltb, eqb}
use Rattle.listing.specs.Listing.{done_text, refused_text}

-- "A line per answer [..]; last `read` and the marked cells; a refused job prints `refused` and its number"; the result of a job that was done is 0
unfoldable pub listing_text : ℕ → List ℕ → ℕ → List ℕ → List ℕ
listing_text result answers count marks = cond (eqb result 0) (done_text answers count marks) (refused_text result)

-- "20, by the program before the job, for a file missing or above 65,536 bytes"
unfoldable pub is_too_long : ℕ → Bool
is_too_long length = ltb 65536 length
