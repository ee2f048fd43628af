-- Bytes copied to the front of others, as far as both go.
use Rattle.std.specs.Prelude.{cond, List, ℕ, ltb, length, take}
use Rattle.arith_bytes.specs.Stored.{stored}

-- the length of the shorter list
unfoldable pub shorter : List ℕ → List ℕ → ℕ
shorter from to = cond (ltb (length from) (length to)) (length from) (length to)

-- what a copy leaves
unfoldable pub copied : List ℕ → List ℕ → List ℕ
copied from to = stored 0 (take (shorter from to) from) to
