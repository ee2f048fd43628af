-- The answers to a list of requests.
use Rattle.std.specs.Prelude.{ℕ, ◌-◌, Bool, true, false, List, [], ◌∷◌, ◌++◌, length}
use Rattle.reading.specs.Result.{Refusable}
use Rattle.reading.specs.Asks.{Asks, give, ◌>>=◌}
use Rattle.job_requests.specs.Requests.{request_of}
use Rattle.job_room.specs.Room.{Room, flat, solid}
use Rattle.job_serve.specs.Serve.{serve}
use Rattle.answers.specs.Answer.{fitting, answer_words}

-- the room is a 2D one
unfoldable pub is_flat : Room → Bool
is_flat (flat f) = true
is_flat (solid m) = false

-- one request's answer before it is known whether it fits
unfoldable pub reply_to : Room → List ℕ → Asks (Refusable (List ℕ))
reply_to room r = serve room (request_of (is_flat room) r)

-- "each later one finds the same case bytes and the room that is left"
unfoldable pub serve_all : Room → ℕ → List (List ℕ) → Asks (List ℕ)
serve_all room left [] = give []
serve_all room left (r ∷ rs) =
    reply_to room r >>= λ a.
    let w = answer_words (fitting left (length rs) a) in
    serve_all room (left - length w) rs >>= λ ws. give (w ++ ws)
