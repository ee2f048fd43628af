-- One answer: the reply to a request, closed. Assumes nothing.
use Prim.Native.Nat.{ℕ, ◌+◌, ◌-◌, ◌*◌, ◌≤◌}
use mathlib.Core.Path.{◌≡◌, ap, sym, ◌∙◌}
use mathlib.Core.Bool.{Bool}
use mathlib.Core.List.{List, ◌++◌, append-nil}
use lib.ListN.{length, take, drop}
use Rattle.reading.specs.declared.Values.{Values}
use Rattle.reading.specs.Asks.{give, run, reads}
use Rattle.reading.specs.Marks.{mark_all}
use Rattle.reading.proofs.AsksLaws.{run_bind, reads-bind}
use Rattle.answers.specs.Ensures.{Reply, CloseExit}
use Rattle.job_room.specs.Room.{Room}
use Rattle.job_requests.specs.declared.Request.{Request}
use Rattle.job_requests.specs.Requests.{request_of}
use Rattle.job_serve.specs.Serve.{serve}
use Rattle.answers.specs.Answer.{fitting, answer_words, header_of}
use Rattle.answers.proofs.BehindLaws.{placed-part}
use Rattle.job_promise.specs.List.{is_flat, reply_to}
use Rattle.job_promise.specs.Ensures.{ServeAllExit, answer_to}
use Rattle.reading.specs.Result.{Refusable}

-- the reply to a request that was taken apart
pub reply-is : (room : Room) (f : ℕ → Values) (r : List ℕ) (flat : Bool) (q : Request) (left : List ℕ) (a : Refusable ℕ) (o o' m m' : List ℕ) → flat ≡ is_flat room → q ≡ request_of flat r
    → Reply (serve room q) f left a o o' m m' → Reply (reply_to room r) f left a o o' m m'
unfolding reply_to
reply-is room f r flat q left a o o' m m' e d s = rw (d ∙ ap (λ (b : Bool). request_of b r) e) at s

-- the answer to a request, by its reply, stored in a part behind the header, and what `close` made of it
pub told_part : (room : Room) (f : ℕ → Values) (r : List ℕ) (left : List ℕ) (o out' o' m m' : List ℕ) (at later e k : ℕ) (a : Refusable ℕ)
    → Reply (reply_to room r) f left a (take k (drop (at + 2) o)) out' m m'
    → CloseExit (header_of (length (take (at + 2) o ++ (out' ++ drop k (drop (at + 2) o))) - at) later a) (take (at + 2) o ++ (out' ++ drop k (drop (at + 2) o))) o' at e
    → at + 2 + 2 * later ≤ length o → k ≡ length o - (at + 2) → length out' ≡ length (take k (drop (at + 2) o)) → ServeAllExit (answer_to room (length o - at) later r) f m m' o o' at later e
unfolding answer_to
told_part room f r left o out' o' m m' at later e k a s c h n long =
    let reply = run (reply_to room r) f in
    let words : run (answer_to room (length o - at) later r) f ≡ answer_words (fitting (length o - at) later reply) = run_bind (reply_to room r) (λ a. give (answer_words (fitting (length o - at) later a))) f in
    record {
      marks = s.marks ∙ ap (mark_all m) (sym (reads-bind (reply_to room r) (λ a. give (answer_words (fitting (length o - at) later a))) f ∙ append-nil (reads (reply_to room r) f)));
      placed = rw words (placed-part reply a left o out' o' at later e s.result h k n s.answers long c);
    }
