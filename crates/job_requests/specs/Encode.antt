-- A request as bytes. "Request: 16 words of 8 bytes"; "Numbers in files are little-endian".
use Rattle.std.specs.Prelude.{ℕ, List}
use Rattle.arith_bytes.specs.Stored.{all_bytes}

-- the eight bytes of each word, one word after the other
unfoldable pub bytes_of : List ℕ → List ℕ
bytes_of ws = all_bytes 8 ws
