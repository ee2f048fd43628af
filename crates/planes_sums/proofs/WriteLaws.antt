-- The words of a sample, part by part. Assumes nothing.
use Prim.Native.Nat.{ℕ, suc, ◌+◌, ◌*◌}
use native.Mathlib.Omega.{arith}
use mathlib.Core.Path.{◌≡◌, ap, sym, ◌∙◌}
use mathlib.Core.List.{List, [], ◌∷◌, ◌++◌}
use lib.ListN.{length, set}
use lib.Seq.{sets}
use lib.Ieee.{Float}
use Rattle.arith.specs.declared.Vec3.{Vec3}
use Rattle.arith.proofs.RecordLaws.{tab-next}
use Rattle.reading.specs.declared.Values.{Values}
use Rattle.answers.specs.Words.{vec_words, point_words, values_words}
use Rattle.answers.proofs.WordLaws.{sets-append, length-vec, length-points, points-more}
use Rattle.planes_crossings.specs.Ensures.{slice_points, point_in}
use Rattle.planes_crossings.proofs.HeldLaws.{length-held}
use Rattle.planes_sums.specs.Words.{sample_words}

held_next : (x y z : List Float) (i : ℕ) → slice_points x y z (i + 1) ≡ slice_points x y z i ++ point_in x y z i ∷ []
unfolding slice_points
held_next x y z i = tab-next (point_in x y z) i

-- one point more
pub held-put : (o₀ o o' : List ℕ) (at i : ℕ) (x y z : List Float) (p : Vec3) → o ≡ sets o₀ at (point_words (slice_points x y z i)) → p ≡ point_in x y z i →
    o' ≡ sets o (at + 3 * i) (vec_words p) → o' ≡ sets o₀ at (point_words (slice_points x y z (i + 1)))
held-put o₀ o o' at i x y z p inv ep e =
    let next : slice_points x y z (i + 1) ≡ slice_points x y z i ++ p ∷ [] = held_next x y z i ∙ ap (λ (q : Vec3). slice_points x y z i ++ q ∷ []) (sym ep) in
    points-more o₀ o o' (slice_points x y z i) p at i (sym (length-held x y z i)) inv e ∙ ap (λ (l : List Vec3). sets o₀ at (point_words l)) (sym next)

-- a whole sample
sample-put : (o : List ℕ) (at cell n : ℕ) (centre : Vec3) (v : Values) (l : List Vec3) → length l ≡ n →
    sets (sets (sets (set (set o at cell) (at + 1) n) (at + 2) (vec_words centre)) (at + 5) (point_words l)) (at + 5 + 3 * n) (values_words v)
    ≡ sets o at (sample_words (record { geometry = record { cell = cell; centre = centre; polygon = l }; values = v }))
unfolding sample_words
sample-put o at cell n centre v l e =
    let ws = point_words l in
    let o2 = set (set o at cell) (suc at) (length l) in
    let one : at + 1 ≡ suc at = omega arith in
    let two : at + 2 ≡ suc (suc at) = omega arith in
    let five : at + 5 ≡ suc (suc at) + length (vec_words centre) = omega (arith, length-vec centre) in
    let all : at + 5 + 3 * n ≡ suc (suc at) + length (vec_words centre) + length ws = omega (arith, length-vec centre, length-points l, e) in
    rw (all, five, two, one, ← e)
    (sym (sets-append (sets o2 (suc (suc at)) (vec_words centre)) (suc (suc at) + length (vec_words centre)) ws (values_words v))
    ∙ sym (sets-append o2 (suc (suc at)) (vec_words centre) (ws ++ values_words v)))

-- as it is stored
pub sample-stored : (o : List ℕ) {o₁ o₂ o₃ o₄ o₅ : List ℕ} (at cell n : ℕ) (centre : Vec3) (v : Values) (x y z : List Float) → o₁ ≡ set o at cell → o₂ ≡ set o₁ (at + 1) n
    → o₃ ≡ sets o₂ (at + 2) (vec_words centre) → o₄ ≡ sets o₃ (at + 5) (point_words (slice_points x y z n)) → o₅ ≡ sets o₄ (at + 5 + 3 * n) (values_words v)
    → o₅ ≡ sets o at (sample_words (record { geometry = record { cell = cell; centre = centre; polygon = slice_points x y z n }; values = v }))
sample-stored o at cell n centre v x y z e₁ e₂ e₃ e₄ e₅ = rw (e₅, e₄, e₃, e₂, e₁) (sample-put o at cell n centre v (slice_points x y z n) (length-held x y z n))
