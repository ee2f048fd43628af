-- Words written one after another, as far as they fit. Assumes nothing.
use Prim.Native.Nat.{ℕ, suc, ◌+◌, ◌*◌, ◌<◌}
use native.Mathlib.Nat.{add-zero}
use native.Mathlib.Omega.{arith}
use mathlib.Core.Path.{◌≡◌, refl, ap, sym, ◌∙◌}
use mathlib.Core.List.{List, [], ◌∷◌, ◌++◌, append_assoc, append-nil}
use lib.ListN.{length, set}
use lib.Seq.{sets, set_comm}
use Rattle.arith.specs.declared.Vec3.{Vec3}
use Rattle.answers.specs.Words.{vec_words, point_words}

pub sets-append : (o : List ℕ) (i : ℕ) (a b : List ℕ) → sets o i (a ++ b) ≡ sets (sets o i a) (i + length a) b
sets-append o i [] b = ap (λ j. sets o j b) (sym (add-zero i))
sets-append o i (x ∷ a) b =
    let e : suc i + length a ≡ i + suc (length a) = omega arith in
    sets-append (set o i x) (suc i) a b ∙ ap (λ j. sets (sets (set o i x) (suc i) a) j b) e

-- a word before those that were written
pub sets-set : (ws o : List ℕ) (i j w : ℕ) → i < j → set (sets o j ws) i w ≡ sets (set o i w) j ws
sets-set [] o i j w h = refl
sets-set (v ∷ ws) o i j w h =
    let ne : j ≡ i → ⊥ = λ e. omega arith in
    sets-set ws (set o j v) i (suc j) w (omega arith) ∙ ap (λ l. sets l (suc j) ws) (set_comm o j i v w ne)

pub length-vec : (p : Vec3) → length (vec_words p) ≡ 3
unfolding vec_words
length-vec p = refl

pub length-points : (l : List Vec3) → length (point_words l) ≡ 3 * length l
unfolding point_words vec_words
length-points [] = refl
length-points (p ∷ l) = let e = length-points l in omega arith

points-append : (l : List Vec3) (p : Vec3) → point_words (l ++ p ∷ []) ≡ point_words l ++ vec_words p
unfolding point_words
points-append [] p = append-nil (vec_words p)
points-append (q ∷ l) p = ap (λ r. vec_words q ++ r) (points-append l p) ∙ sym (append_assoc (vec_words q) (point_words l) (vec_words p))

-- one point more
pub points-more : (o o' o'' : List ℕ) (l : List Vec3) (p : Vec3) (at n : ℕ) → n ≡ length l → o' ≡ sets o at (point_words l) →
    o'' ≡ sets o' (at + 3 * n) (vec_words p) → o'' ≡ sets o at (point_words (l ++ p ∷ []))
points-more o o' o'' l p at n e h w =
    let k : at + 3 * n ≡ at + length (point_words l) = omega (arith, length-points l) in
    w ∙ rw (h, k) (sym (sets-append o at (point_words l) (vec_words p)) ∙ ap (sets o at) (sym (points-append l p)))
