-- 01's listing: Pair with locate (1.5,0.5,0), velocity (0.75,0.5,0), the 0.5 line
use Rattle.std.specs.Prelude.{ℕ, refl, List, [], ◌∷◌, ◌++◌, Ok}
use Rattle.test_rooms.specs.Computing.{computing}
use Rattle.reading.specs.Result.{Refusable}
use Rattle.test_rooms.specs.Printed.{Printed, Known, bytes, bytes_from, lends}
use Rattle.test_rooms.specs.OnePass.{Computes, ran, below, seen, one_pass, due, by-computing}

-- the case
unfoldable pub file : List ℕ
file =
    bytes 8 (0 ∷ 0 ∷ 0 ∷ 0x3ff0000000000000 ∷ 0 ∷ 0 ∷ 0x4000000000000000 ∷ 0 ∷ 0 ∷ 0 ∷ 0x3ff0000000000000 ∷ 0 ∷ 0x3ff0000000000000 ∷ 0x3ff0000000000000 ∷ 0 ∷ 0x4000000000000000 ∷ 0x3ff0000000000000 ∷ 0 ∷ [])
    ++ (bytes 4 (0 ∷ 4 ∷ 0 ∷ 1 ∷ 4 ∷ 3 ∷ 0 ∷ 4 ∷ 1 ∷ 2 ∷ 5 ∷ 4 ∷ [])
    ++ (bytes 8 (0x3ff0000000000000 ∷ 0 ∷ 0 ∷ 0x4008000000000000 ∷ 0 ∷ 0 ∷ 0 ∷ 0 ∷ [])
    ++ bytes 4 (2 ∷ 6 ∷ 0xc ∷ 2 ∷ 0 ∷ 0x90 ∷ 0xc0 ∷ 0xf0 ∷ [])))

-- the requests
unfoldable pub requests : List ℕ
requests =
    bytes 8 (1 ∷ 0x3ff8000000000000 ∷ 0x3fe0000000000000 ∷ 0 ∷ 0 ∷ 0 ∷ 0 ∷ 0 ∷ 0 ∷ 0 ∷ 0 ∷ 0 ∷ 0 ∷ 0 ∷ 0 ∷ 0 ∷ 2 ∷ 0x3fe8000000000000 ∷ 0x3fe0000000000000 ∷ 0 ∷ 0 ∷ 0 ∷ 0 ∷ 0 ∷ 0 ∷ 0 ∷ 0 ∷ 0 ∷ 0 ∷ 0 ∷ 0 ∷ 0 ∷ 3 ∷ 0x3fd0000000000000 ∷ 0x3fe0000000000000 ∷ 0 ∷ 0 ∷ 0x3fd0000000000000 ∷ 0xa ∷ 0x3fe0000000000000 ∷ 0 ∷ 0 ∷ 0 ∷ 0 ∷ 0 ∷ 0 ∷ 0 ∷ 0 ∷ [])

-- what the job gives
unfoldable pub expected : Refusable Printed
expected =
    Ok
    (record {
      words = 0 ∷ 2 ∷ 0xffffffffffffffff ∷ 0 ∷ 0 ∷ 4 ∷ 1 ∷ 0x3ff8000000000000 ∷ 0 ∷ 0 ∷ 0 ∷ 0xa ∷ 3 ∷ 0x3fd0000000000000 ∷ 0x3fe0000000000000 ∷ 0 ∷ 0x3fe0000000000000 ∷ 0x3fe0000000000000 ∷ 0 ∷ 0x3fe8000000000000 ∷ 0x3fe0000000000000 ∷ 0 ∷ [];
      cells = 0 ∷ 1 ∷ [];
    })

-- computed in one pass
computed : Computes file requests (lends 16384 8192 16384 8192) expected
unfolding computing file requests expected bytes bytes_from lends ran below seen one_pass due
computed = record { pass = refl }

-- for any answers and marks that are lent
pub same : Known file requests (lends 16384 8192 16384 8192) expected
same = by-computing computed
