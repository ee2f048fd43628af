-- The bytes of a word, one after another. Assumes nothing.
use Rattle.std.proofs.Common.{◌≡◌, ℕ, ◌/◌, ◌^◌, arith, w64}
use Rattle.std.specs.Int.{to_le_bytes}
use Rattle.arith.specs.Lists.{fold}
use Rattle.test_stored.specs.Fnv.{hash_byte, hash_bytes}

pub word_bytes : (h x : ℕ) → fold hash_byte h (to_le_bytes w64 x) ≡ hash_bytes 8 h x
unfolding fold hash_bytes
word_bytes h x =
    let a : x / 256 / 256 ≡ x / 256 ^ 2 = omega arith in
    let b : x / 256 ^ 2 / 256 ≡ x / 256 ^ 3 = omega arith in
    let c : x / 256 ^ 3 / 256 ≡ x / 256 ^ 4 = omega arith in
    let d : x / 256 ^ 4 / 256 ≡ x / 256 ^ 5 = omega arith in
    let e : x / 256 ^ 5 / 256 ≡ x / 256 ^ 6 = omega arith in
    let f : x / 256 ^ 6 / 256 ≡ x / 256 ^ 7 = omega arith in
    simp (a, b, c, d, e, f)
