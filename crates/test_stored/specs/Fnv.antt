-- The FNV-1a hash of 64 bits: for each byte, the exclusive or with it, then the product with the prime 2^40 + 435.
use Rattle.std.specs.Prelude.{ℕ, zero, suc, ◌*◌, ◌/◌, ◌%◌, ◌^◌, bit_xor}

-- the product with the prime, of 64 bits
unfoldable pub times_prime : ℕ → ℕ
times_prime h = h * 1099511628211 % 2 ^ 64

-- the hash h, one byte further
abbrev pub hash_byte : ℕ → ℕ → ℕ
hash_byte h b = times_prime (bit_xor h b)

-- the hash h, further by the lowest k bytes of x, the low one first
unfoldable pub hash_bytes : ℕ → ℕ → ℕ → ℕ
hash_bytes zero h x = h
hash_bytes (suc k) h x = hash_bytes k (hash_byte h (x % 256)) (x / 256)
