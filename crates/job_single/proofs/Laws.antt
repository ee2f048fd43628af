-- A request alone is a list of one. Assumes nothing.
use Prim.Native.Nat.{ℕ}
use native.Mathlib.Omega.{arith}
use mathlib.Core.Path.{◌≡◌}
use mathlib.Core.List.{List, [], ◌∷◌}
use lib.ListN.{length}
use Rattle.reading.specs.Result.{◌>>=◌}
use Rattle.job_requests.specs.Encode.{bytes_of}
use Rattle.job_requests.proofs.EncodeLaws.{length-bytes_of}
use Rattle.job_encoding.proofs.Laws.{Whole, list-of-one}
use Rattle.job_room.specs.Room.{Lent, prepared}
use Rattle.job_promise.specs.List.{serve_all}
use Rattle.job_promise.specs.Job.{job_of}
use Rattle.std.specs.Prelude.{Ok}

-- "Each request can also be called alone, as a job of one; it starts from the case bytes too."
pub job-of-one : (file : List ℕ) (lent : Lent) (ws : List ℕ) → Whole ws
    → job_of file (bytes_of ws) lent ≡ (prepared file 128 lent >>= λ room. Ok (serve_all room lent.answers (ws ∷ [])))
unfolding job_of
job-of-one file lent ws w =
    let bytes : length (bytes_of ws) ≡ 128 = omega (arith, length-bytes_of ws, w.long) in
    rw (list-of-one w, bytes)
