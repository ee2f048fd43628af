-- Laws of the loops over a room. Assumes nothing.
use Rattle.std.proofs.Common.{◌≡◌, ℕ, suc, ◌+◌, ◌-◌, ◌<◌, ◌≤◌, max, List, ◌++◌, length, get_or, take, drop, set, sym, refl, ap, ◌∙◌, arith, length-drop, length-take, drop-drop}
use Rattle.test_stored.specs.Pieces.{repeated, copied, end_with, with-piece, PieceExit, Text, more, ShowNameExit}

-- one byte more
pub next-repeat
    : (end n k : ℕ) (room whole : List ℕ)
    → k < end
    → repeated (end - k) n k room ≡ whole
    → repeated (end - (k + 1)) n (k + 1) (set room k (get_or room (k - n) 0)) ≡ whole
unfolding repeated
next-repeat end n k room whole lt e =
    let s : end - k ≡ suc (end - (k + 1)) = omega arith in
    sym (ap (λ (m : ℕ). repeated m n k room) s) ∙ e

-- none is left
pub no-repeat : (end n k : ℕ) (room whole : List ℕ) → end ≤ k → repeated (end - k) n k room ≡ whole → room ≡ whole
unfolding repeated
no-repeat end n k room whole le e =
    let z : end - k ≡ 0 = omega arith in
    sym (ap (λ (m : ℕ). repeated m n k room) z) ∙ e

-- one piece more
pub next-piece : (room₀ room room' : List ℕ) (from r : ℕ) → Text room₀ from room → PieceExit from room room' r → Text room₀ r room'
next-piece room₀ room room' from r t a = rw (a.end, a.text) (more t a.piece)

-- ---- what a read leaves, in the part of the room that it was lent

pub named : (room part : List ℕ) (n : ℕ) → n ≤ length room → length part ≡ length (take n room) → ShowNameExit room (part ++ drop n room)
unfolding copied
named room part n le k =
    let e : length part ≡ n = omega (arith, simp length-take at k) in
    let z : 0 + length part ≡ n = omega arith in
    record { name = part; fits = omega arith; stands = rw z refl }

pub added
    : (room part room' : List ℕ) (from n end r : ℕ)
    → n ≤ length room - from
    → from ≤ length room
    → length part ≡ length (take (from + n - from) (drop from room))
    → room' ≡ repeated (end - (from + n)) n (from + n) (take from room ++ (part ++ drop (from + n - from) (drop from room)))
    → r ≡ max (from + n) end
    → r ≤ length room'
    → PieceExit from room room' r
unfolding copied end_with with-piece
added room part room' from n end r le at k e m fits =
    let s : length part ≡ n = omega (arith, simp (length-take, length-drop) at k) in
    let p : from + (from + n - from) ≡ from + n = omega arith in
    let d : drop (from + n - from) (drop from room) ≡ drop (from + n) room = drop-drop (from + n - from) from room ∙ ap (λ (i : ℕ). drop i room) p in
    record {
      piece = record { bytes = part; length-after = end };
      end = rw s m;
      fits = fits;
      text = rw (s, ← d) e;
    }
