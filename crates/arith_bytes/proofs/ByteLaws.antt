-- Numbers as bytes, stored and read back. Assumes nothing.
use Prim.Native.Nat.{ℕ, zero, suc, ◌+◌, ◌*◌, ◌/◌, ◌%◌, ◌≤◌, ◌<◌}
use native.Mathlib.Nat.{add-zero, zero-add, mul-suc, mul-zero}
use native.Mathlib.Omega.{arith}
use mathlib.Core.Path.{◌≡◌, refl, ap, ap₂, sym, ◌∙◌}
use mathlib.Core.List.{List, [], ◌∷◌, ◌++◌, append_assoc}
use lib.ListN.{length, get_or, take, drop, set, length-append, length-drop, take-append-drop}
use lib.Seq.{length-take-le, take_at, drop-append-add, take-add, drop-drop, set_split, get_or-append-add}
use Rattle.arith.specs.Bytes.{le32, le64, read_all}
use Rattle.arith.proofs.All.{All, all_get_or}
use Rattle.arith.proofs.RecordLaws.{drop-next}
use Rattle.arith_bytes.specs.Stored.{le_bytes, all_bytes, stored}

-- ---- lengths

pub length-le_bytes : (k w : ℕ) → length (le_bytes k w) ≡ k
unfolding le_bytes
length-le_bytes zero w = refl
length-le_bytes (suc k) w = ap suc (length-le_bytes k (w / 256))

pub length-all_bytes : (k : ℕ) (ws : List ℕ) → length (all_bytes k ws) ≡ k * length ws
unfolding all_bytes
length-all_bytes k [] = sym (mul-zero k)
length-all_bytes k (w ∷ ws) =
    length-append (le_bytes k w) (all_bytes k ws) ∙ omega (arith, length-le_bytes k w, length-all_bytes k ws, mul-suc k (length ws))

-- ---- storing

module _ (at : ℕ) (out : List ℕ) where
  -- nothing
  pub stored-none : stored at [] out ≡ out
  unfolding stored
  stored-none = let e : at + 0 ≡ at = add-zero at in rw e (take-append-drop at out)

  pub length-stored : (bytes : List ℕ) → at + length bytes ≤ length out → length (stored at bytes out) ≡ length out
  unfolding stored
  length-stored bytes h = simp (length-append, length-drop) (omega (arith, length-take-le at out (omega arith)))

  -- one byte
  pub stored_one : (b : ℕ) → at < length out → set out at b ≡ stored at (b ∷ []) out
  unfolding stored
  stored_one b h = let e : at + 1 ≡ suc at = omega arith in rw e (set_split out at b h)

  -- bytes, and others right after them
  pub stored_more : (a b : List ℕ) → at + (length a + length b) ≤ length out → stored (at + length a) b (stored at a out) ≡ stored at (a ++ b) out
  unfolding stored
  stored_more a b h =
      let n : length (take at out) ≡ at = length-take-le at out (omega arith) in
      let front : length (take at out ++ a) ≡ at + length a = length-append (take at out) a ∙ omega arith in
      let l : take (at + length a) ((take at out ++ a) ++ drop (at + length a) out) ≡ take at out ++ a =
      take_at (take at out ++ a) (drop (at + length a) out) (at + length a) front in
      let e : at + length a + length b ≡ length (take at out ++ a) + length b = omega arith in
      let d : drop (at + length a + length b) ((take at out ++ a) ++ drop (at + length a) out) ≡ drop (at + length a + length b) out =
      rw e (drop-append-add (take at out ++ a) (drop (at + length a) out) (length b)) ∙ drop-drop (length b) (at + length a) out in
      let g : at + (length a + length b) ≡ at + length a + length b = omega arith in
      rw (← append_assoc (take at out) a (drop (at + length a) out), l, d, length-append a b, g, append_assoc (take at out) a (b ++ drop (at + length a + length b) out), append_assoc a b (drop (at + length a + length b) out))

-- at the start, over bytes that are there
pub stored-first : (bytes out : List ℕ) → stored 0 bytes out ≡ bytes ++ drop (length bytes) out
unfolding stored
stored-first bytes out = rw (zero-add (length bytes))

-- ---- read back: f reads numbers of s bytes, below a bound

-- f reads what was written at the end of p
abbrev pub Reads : ℕ → ℕ → (List ℕ → ℕ → ℕ) → Type 0
Reads s bound f = (p rest : List ℕ) (w : ℕ) → w < bound → f (p ++ (le_bytes s w ++ rest)) (length p) ≡ w

pub back : (s bound : ℕ) (f : List ℕ → ℕ → ℕ) → Reads s bound f → (p q ws : List ℕ) → All (λ w. w < bound) ws →
    read_all (f (p ++ (all_bytes s ws ++ q))) s (length ws) (length p) ≡ ws
unfolding read_all all_bytes
back s bound f reads p q [] h = refl
back s bound f reads p q (w ∷ ws) h =
    let e : length (p ++ le_bytes s w) ≡ length p + s = length-append p (le_bytes s w) ∙ ap (λ (n : ℕ). length p + n) (length-le_bytes s w) in
    let g : p ++ ((le_bytes s w ++ all_bytes s ws) ++ q) ≡ p ++ (le_bytes s w ++ (all_bytes s ws ++ q)) = rw append_assoc in
    let i : (p ++ le_bytes s w) ++ (all_bytes s ws ++ q) ≡ p ++ (le_bytes s w ++ (all_bytes s ws ++ q)) = rw append_assoc in
    ap (λ (x : List ℕ). read_all (f x) s (length (w ∷ ws)) (length p)) g
    ∙ ap₂ ◌∷◌ (reads p (all_bytes s ws ++ q) w h.0) (rw (i, e) at (back s bound f reads (p ++ le_bytes s w) q ws h.1))

module _ (p q : List ℕ) where
  pub le32-after : (k : ℕ) → le32 (p ++ q) (length p + k) ≡ le32 q k
  unfolding le32
  le32-after k =
      let a : length p + k + 1 ≡ length p + (k + 1) = omega arith in
      let b : length p + k + 2 ≡ length p + (k + 2) = omega arith in
      let c : length p + k + 3 ≡ length p + (k + 3) = omega arith in
      rw (a, b, c, get_or-append-add p q k 0, get_or-append-add p q (k + 1) 0, get_or-append-add p q (k + 2) 0, get_or-append-add p q (k + 3) 0)

  pub le32-start : le32 (p ++ q) (length p) ≡ le32 q 0
  le32-start = ap (le32 (p ++ q)) (sym (add-zero (length p))) ∙ le32-after 0

  pub le64-start : le64 (p ++ q) (length p) ≡ le64 q 0
  unfolding le64
  le64-start = ap₂ (λ (a b : ℕ). a + b * 4294967296) le32-start (le32-after 4)

-- the low four bytes and the rest of a number
four_bytes : (w : ℕ) → w % 256 + w / 256 % 256 * 256 + w / 256 / 256 % 256 * 65536 + w / 256 / 256 / 256 % 256 * 16777216 + w / 256 / 256 / 256 / 256 * 4294967296 ≡ w
four_bytes w = omega arith

word_back : (w : ℕ) (rest : List ℕ) → w < 4294967296 → le32 (le_bytes 4 w ++ rest) 0 ≡ w
unfolding le32 le_bytes
word_back w rest h = omega (arith, four_bytes w)

bits_back : (w : ℕ) (rest : List ℕ) → w < 18446744073709551616 → le64 (le_bytes 8 w ++ rest) 0 ≡ w
unfolding le64 le32 le_bytes
bits_back w rest h = omega (arith, four_bytes w, four_bytes (w / 256 / 256 / 256 / 256))

pub reads-words : Reads 4 4294967296 le32
reads-words p rest w h = le32-start p (le_bytes 4 w ++ rest) ∙ word_back w rest h

pub reads-bits : Reads 8 18446744073709551616 le64
reads-bits p rest w h = le64-start p (le_bytes 8 w ++ rest) ∙ bits_back w rest h

-- ---- written again: what was read from bytes

-- the number that f reads is written as the s bytes that it was read from
abbrev pub Writes : ℕ → (List ℕ → ℕ → ℕ) → List ℕ → Type 0
Writes s f file = (at : ℕ) → at + s ≤ length file → le_bytes s (f file at) ≡ take s (drop at file)

pub again : (s : ℕ) (f : List ℕ → ℕ → ℕ) (file : List ℕ) → Writes s f file → (n at : ℕ) → at + s * n ≤ length file →
    all_bytes s (read_all (f file) s n at) ≡ take (s * n) (drop at file)
unfolding read_all all_bytes
again s f file writes zero at h = rw (mul-zero s)
again s f file writes (suc n) at h =
    let e : s * suc n ≡ s + s * n = omega (arith, mul-suc s n) in
    rw (e, take-add s (s * n) (drop at file), drop-drop s at file)
    (ap₂ ◌++◌ (writes at (omega arith)) (again s f file writes n (at + s) (omega arith)))

-- a number of eight bytes is two of four
two-words : (a b : ℕ) → a < 4294967296 → le_bytes 8 (a + b * 4294967296) ≡ le_bytes 4 a ++ le_bytes 4 b
unfolding le_bytes
two-words a b h =
    ap₂ ◌∷◌ (omega arith) (ap₂ ◌∷◌ (omega arith) (ap₂ ◌∷◌ (omega arith) (ap₂ ◌∷◌ (omega arith)
    (ap₂ ◌∷◌ (omega arith) (ap₂ ◌∷◌ (omega arith) (ap₂ ◌∷◌ (omega arith) (ap₂ ◌∷◌ (omega arith) refl)))))))

module _ (file : List ℕ) (bytes : All (λ b. b < 256) file) where
  byte : (i : ℕ) → get_or file i 0 < 256
  byte i = all_get_or (λ b. b < 256) file i 0 (omega arith) bytes

  four : (at : ℕ) → at + 4 ≤ length file →
      take 4 (drop at file) ≡ get_or file at 0 ∷ get_or file (at + 1) 0 ∷ get_or file (at + 2) 0 ∷ get_or file (at + 3) 0 ∷ []
  four at h =
      let a : at + 1 + 1 ≡ at + 2 = omega arith in
      let b : at + 2 + 1 ≡ at + 3 = omega arith in
      rw (drop-next file at 0 (omega arith), drop-next file (at + 1) 0 (omega arith), a, drop-next file (at + 2) 0 (omega arith), b, drop-next file (at + 3) 0 (omega arith))

  pub writes-words : Writes 4 le32 file
  unfolding le_bytes le32
  writes-words at h =
      let a = byte at in
      let b = byte (at + 1) in
      let c = byte (at + 2) in
      let d = byte (at + 3) in
      rw (four at h)
      (ap₂ ◌∷◌ (omega arith) (ap₂ ◌∷◌ (omega arith) (ap₂ ◌∷◌ (omega arith) (ap₂ ◌∷◌ (omega arith) refl))))

  low : (at : ℕ) → le32 file at < 4294967296
  unfolding le32
  low at = omega (arith, byte at, byte (at + 1), byte (at + 2), byte (at + 3))

  pub writes-bits : Writes 8 le64 file
  unfolding le64
  writes-bits at h =
      two-words (le32 file at) (le32 file (at + 4)) (low at)
      ∙ ap₂ ◌++◌ (writes-words at (omega arith)) (writes-words (at + 4) (omega arith))
      ∙ rw (take-add 4 4 (drop at file), drop-drop 4 at file)
