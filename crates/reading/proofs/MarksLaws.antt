-- Laws of marks: a cell that was read is marked, and a mark that came is a read cell's. Assumes nothing.
use Prim.Native.Nat.{ℕ, ◌<◌}
use native.Mathlib.Decide.{ℕ_discrete}
use mathlib.Core.Path.{◌≡◌, refl, sym, ◌∙◌}
use mathlib.Core.List.{List, [], ◌∷◌, ◌++◌, Memᴰ}
use native.Mathlib.Omega.{arith}
use lib.ListN.{length, get_or, set, length-set}
use lib.Seq.{get_or-set_same, get_or-set_other}
use Rattle.reading.specs.Marks.{mark_all}

pub mark_all-append : (m l k : List ℕ) → mark_all m (l ++ k) ≡ mark_all (mark_all m l) k
mark_all-append m [] k = refl
mark_all-append m (i ∷ l) k = mark_all-append _ l k

pub length-mark_all : (m l : List ℕ) → length (mark_all m l) ≡ length m
length-mark_all m [] = refl
length-mark_all m (i ∷ l) = length-mark_all _ l ∙ simp length-set

-- a mark that is 1 stays 1
set-stays : (m : List ℕ) (j i : ℕ) → i < length m → get_or m i 0 ≡ 1 → get_or (set m j 1) i 0 ≡ 1
set-stays m j i b h = at (ℕ_discrete i j)
  where
    at : Dec (i ≡ j) → get_or (set m j 1) i 0 ≡ 1
    at (yes e) = rw (← e) (get_or-set_same m i 1 0 b)
    at (no n) = get_or-set_other m j i 1 0 n ∙ h

pub marked-stays : (m l : List ℕ) (i : ℕ) → i < length m → get_or m i 0 ≡ 1 → get_or (mark_all m l) i 0 ≡ 1
marked-stays m [] i b h = h
marked-stays m (j ∷ l) i b h = marked-stays _ l i (rw length-set b) (set-stays m _ i b h)

-- a cell that was read is marked, where it has a mark at all
pub marked : (m l : List ℕ) (i : ℕ) → i < length m → Memᴰ i l → get_or (mark_all m l) i 0 ≡ 1
marked m [] i h x = elim x [ ]
marked m (j ∷ l) i h (Memᴰ.head e) =
    marked-stays (set m j 1) l i (rw length-set h) (rw (← e) (get_or-set_same m i 1 0 h))
marked m (j ∷ l) i h (Memᴰ.tail w) = marked (set m j 1) l i (rw length-set h) w

-- a mark that came to be 1 is that of a cell that was read
pub only-read : (m l : List ℕ) (i : ℕ) → get_or m i 0 ≡ 0 → get_or (mark_all m l) i 0 ≡ 1 → Memᴰ i l
only-read m [] i z h = absurd (let w : ◌≡◌ {A = ℕ} 0 1 = sym z ∙ h in omega arith)
only-read m (j ∷ l) i z h = at (λ u. only-read (set m j 1) l i u h) (ℕ_discrete i j)
  where
    at : (get_or (set m j 1) i 0 ≡ 0 → Memᴰ i l) → Dec (i ≡ j) → Memᴰ i (j ∷ l)
    at rest (yes e) = Memᴰ.head e
    at rest (no n) = Memᴰ.tail (rest (get_or-set_other m j i 1 0 n ∙ z))

-- the mark of a cell that was not read stays
pub unread-keeps : (m l : List ℕ) (i : ℕ) → (Memᴰ i l → ⊥) → get_or (mark_all m l) i 0 ≡ get_or m i 0
unread-keeps m [] i h = refl
unread-keeps m (j ∷ l) i h =
    unread-keeps (set m j 1) l i (λ w. h (Memᴰ.tail w)) ∙ get_or-set_other m j i 1 0 (λ e. h (Memᴰ.head e))
