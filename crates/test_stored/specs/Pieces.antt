-- What stands in a room after a text of pieces, or a name, was read into it. Nothing is assumed of the bytes and numbers that a file holds, so
-- a promise says that there are such.
-- `repeated`, `Piece`, `copied`, `end_with`, `with-piece`: a piece, and the text and the room with it. `piece`: `PieceExit`.
-- `Text`: a text of pieces. `assemble`: `AssembleExit`. `show_name`: `ShowNameExit`.
use Rattle.std.specs.Prelude.{◌≡◌, ℕ, zero, suc, ◌+◌, ◌-◌, ◌≤◌, max, List, ◌++◌, length, take, drop, slice_index, slice_set}

-- from place k on, each of so many bytes is the one n places before it
unfoldable pub repeated : ℕ → ℕ → ℕ → List ℕ → List ℕ
repeated zero n k room = room
repeated (suc left) n k room = repeated left n (k + 1) (slice_set room k (slice_index room (k - n)))

-- a piece: some bytes, and the length that the text has after it
pub record Piece : Type 0 where
  pub bytes : List ℕ
  pub length-after : ℕ

-- the room with the bytes from `from` on
unfoldable pub copied : List ℕ → ℕ → List ℕ → List ℕ
copied bytes from room = take from room ++ (bytes ++ drop (from + length bytes) room)

-- the length of the text with a piece more: the bytes are repeated up to `length-after`
unfoldable pub end_with : Piece → ℕ → ℕ
end_with p from = max (from + length p.bytes) p.length-after

-- the room with a piece more
unfoldable pub with-piece : Piece → ℕ → List ℕ → List ℕ
with-piece p from room =
    let n = length p.bytes in
    repeated (p.length-after - (from + n)) n (from + n) (copied p.bytes from room)

-- what `piece` promises
pub record PieceExit (from : ℕ) (room room' : List ℕ) (r : ℕ) : Type 0 where
  pub piece : Piece
  pub end : r ≡ end_with piece from
  pub fits : r ≤ length room'
  pub text : room' ≡ with-piece piece from room

-- a text of r bytes stands in room', which was `room` before: no piece, or a piece more
pub data Text (room : List ℕ) : ℕ → List ℕ → Type 0 where
  none : Text room 0 room
  more : {from : ℕ} {room' : List ℕ} → Text room from room' → (p : Piece) → Text room (end_with p from) (with-piece p from room')

-- what `assemble` promises
pub record AssembleExit (room room' : List ℕ) (r : ℕ) : Type 0 where
  pub text : Text room r room'
  pub fits : r ≤ length room'

-- what `show_name` promises of the room that it reads the name into
pub record ShowNameExit (room room' : List ℕ) : Type 0 where
  pub name : List ℕ
  pub fits : length name ≤ length room
  pub stands : room' ≡ copied name 0 room
