-- Two cubes, a plane above the mesh: no polygon, 41, 43, none
use Rattle.std.specs.Prelude.{ℕ, refl, List, [], ◌∷◌, ◌++◌, Ok}
use Rattle.test_rooms.specs.Computing.{computing}
use Rattle.reading.specs.Result.{Refusable}
use Rattle.test_rooms.specs.Printed.{Printed, Known, bytes, bytes_from, lends}
use Rattle.test_rooms.specs.OnePass.{Computes, ran, below, seen, one_pass, due, by-computing}

-- the case
unfoldable pub file : List ℕ
file =
    bytes 8 (0 ∷ 0 ∷ 0 ∷ 0x3ff0000000000000 ∷ 0 ∷ 0 ∷ 0 ∷ 0x3ff0000000000000 ∷ 0 ∷ 0x3ff0000000000000 ∷ 0x3ff0000000000000 ∷ 0 ∷ 0 ∷ 0 ∷ 0x3ff0000000000000 ∷ 0x3ff0000000000000 ∷ 0 ∷ 0x3ff0000000000000 ∷ 0 ∷ 0x3ff0000000000000 ∷ 0x3ff0000000000000 ∷ 0x3ff0000000000000 ∷ 0x3ff0000000000000 ∷ 0x3ff0000000000000 ∷ 0 ∷ 0 ∷ 0x4000000000000000 ∷ 0x3ff0000000000000 ∷ 0 ∷ 0x4000000000000000 ∷ 0 ∷ 0x3ff0000000000000 ∷ 0x4000000000000000 ∷ 0x3ff0000000000000 ∷ 0x3ff0000000000000 ∷ 0x4000000000000000 ∷ [])
    ++ (bytes 4 (2 ∷ 0 ∷ 1 ∷ 3 ∷ 2 ∷ 4 ∷ 5 ∷ 7 ∷ 6 ∷ 2 ∷ 4 ∷ 5 ∷ 7 ∷ 6 ∷ 8 ∷ 9 ∷ 0xb ∷ 0xa ∷ [])
    ++ (bytes 8 (0 ∷ 0 ∷ 0x4000000000000000 ∷ 0 ∷ 0 ∷ 0x4000000000000000 ∷ 0 ∷ 0 ∷ [])
    ++ bytes 4 (3 ∷ 0xc ∷ 0x12 ∷ 2 ∷ 0 ∷ 0x120 ∷ 0x168 ∷ 0x198 ∷ [])))

-- the requests
unfoldable pub requests : List ℕ
requests =
    bytes 8 (5 ∷ 0 ∷ 0 ∷ 0x4014000000000000 ∷ 0x3ff0000000000000 ∷ 0 ∷ 0 ∷ 0 ∷ 0x3ff0000000000000 ∷ 0 ∷ 0 ∷ 0 ∷ 0 ∷ 0 ∷ 0 ∷ 0 ∷ 6 ∷ 0 ∷ 0 ∷ 0x4014000000000000 ∷ 0x3ff0000000000000 ∷ 0 ∷ 0 ∷ 0 ∷ 0x3ff0000000000000 ∷ 0 ∷ 0 ∷ 0 ∷ 0 ∷ 0 ∷ 0 ∷ 0 ∷ 7 ∷ 0 ∷ 0 ∷ 0x4014000000000000 ∷ 0x3ff0000000000000 ∷ 0 ∷ 0 ∷ 0 ∷ 0x3ff0000000000000 ∷ 0 ∷ 0 ∷ 0 ∷ 0 ∷ 0 ∷ 0 ∷ 0 ∷ 8 ∷ 0 ∷ 0 ∷ 0x4014000000000000 ∷ 0x3ff0000000000000 ∷ 0 ∷ 0 ∷ 0 ∷ 0x3ff0000000000000 ∷ 0 ∷ 0x3fe0000000000000 ∷ 0x3fe0000000000000 ∷ 0x4014000000000000 ∷ 0 ∷ 0 ∷ 0 ∷ [])

-- what the job gives
unfoldable pub expected : Refusable Printed
expected =
    Ok
    (record {
      words = 0 ∷ 1 ∷ 0 ∷ 0x29 ∷ 0 ∷ 0x2b ∷ 0 ∷ 0 ∷ 5 ∷ 0xffffffffffffffff ∷ 0 ∷ 0 ∷ 0 ∷ 0 ∷ [];
      cells = [];
    })

-- computed in one pass
computed : Computes file requests (lends 16384 8192 16384 8192) expected
unfolding computing file requests expected bytes bytes_from lends ran below seen one_pass due
computed = record { pass = refl }

-- for any answers and marks that are lent
pub same : Known file requests (lends 16384 8192 16384 8192) expected
same = by-computing computed
