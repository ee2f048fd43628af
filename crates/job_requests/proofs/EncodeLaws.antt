-- A request's words as bytes, and read back from them. Assumes nothing.
use Prim.Native.Nat.{ℕ, ◌*◌, ◌/◌, ◌≤◌, ◌<◌}
use native.Mathlib.Omega.{arith}
use mathlib.Core.Path.{◌≡◌, ap, ◌∙◌}
use mathlib.Core.List.{List, [], ◌∷◌, append-nil}
use lib.ListN.{length, drop_of_length-le}
use Rattle.arith.specs.Bytes.{le64, read_all}
use Rattle.arith.proofs.All.{All}
use Rattle.arith_bytes.specs.Stored.{all_bytes, stored}
use Rattle.arith_bytes.proofs.ByteLaws.{length-all_bytes, stored-first, back, reads-bits}
use Rattle.job_requests.specs.Requests.{words_at, requests_in}
use Rattle.job_requests.specs.Encode.{bytes_of}

pub length-bytes_of : (ws : List ℕ) → length (bytes_of ws) ≡ 8 * length ws
unfolding bytes_of
length-bytes_of ws = length-all_bytes 8 ws

-- 16 words stored over 128 bytes leave none of these
pub encoded : (words bytes₀ bytes : List ℕ) → length words ≡ 16 → length bytes₀ ≡ 128 → bytes ≡ stored 0 (all_bytes 8 words) bytes₀ → bytes ≡ bytes_of words
unfolding bytes_of
encoded words bytes₀ bytes n m e =
    let full : length bytes₀ ≤ length (all_bytes 8 words) = omega (arith, length-all_bytes 8 words) in
    e ∙ stored-first (all_bytes 8 words) bytes₀ ∙ rw (drop_of_length-le bytes₀ full, append-nil)

-- a number of 64 bits
abbrev pub Word : ℕ → Type 0
Word w = w < 18446744073709551616

pub one-request : (ws : List ℕ) → length ws ≡ 16 → All Word ws → requests_in (bytes_of ws) ≡ ws ∷ []
unfolding requests_in words_at read_all bytes_of
one-request ws long h =
    let n : length (all_bytes 8 ws) / 128 ≡ 1 = omega (arith, length-all_bytes 8 ws, long) in
    rw n (ap (λ (l : List ℕ). l ∷ []) (rw (append-nil, long) at (back 8 18446744073709551616 le64 reads-bits [] [] ws h)))
