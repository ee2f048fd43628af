-- Fluxes all positive, all negative, zero
use Rattle.std.specs.Prelude.{ℕ, refl, List, [], ◌∷◌, ◌++◌, Ok}
use Rattle.test_rooms.specs.Computing.{computing}
use Rattle.reading.specs.Result.{Refusable}
use Rattle.test_rooms.specs.Printed.{Printed, Known, bytes, bytes_from, lends}
use Rattle.test_rooms.specs.OnePass.{Computes, ran, below, seen, one_pass, due, by-computing}

-- the case
unfoldable pub file : List ℕ
file =
    bytes 8 (0 ∷ 0 ∷ 0 ∷ 0x3ff0000000000000 ∷ 0 ∷ 0 ∷ 0 ∷ 0x3ff0000000000000 ∷ 0 ∷ 0x3ff0000000000000 ∷ 0x3ff0000000000000 ∷ 0 ∷ 0 ∷ 0 ∷ 0x3ff0000000000000 ∷ 0x3ff0000000000000 ∷ 0 ∷ 0x3ff0000000000000 ∷ 0 ∷ 0x3ff0000000000000 ∷ 0x3ff0000000000000 ∷ 0x3ff0000000000000 ∷ 0x3ff0000000000000 ∷ 0x3ff0000000000000 ∷ 0 ∷ 0 ∷ 0x4000000000000000 ∷ 0x3ff0000000000000 ∷ 0 ∷ 0x4000000000000000 ∷ 0 ∷ 0x3ff0000000000000 ∷ 0x4000000000000000 ∷ 0x3ff0000000000000 ∷ 0x3ff0000000000000 ∷ 0x4000000000000000 ∷ [])
    ++ (bytes 4 (2 ∷ 0 ∷ 1 ∷ 3 ∷ 2 ∷ 4 ∷ 5 ∷ 7 ∷ 6 ∷ 2 ∷ 4 ∷ 5 ∷ 7 ∷ 6 ∷ 8 ∷ 9 ∷ 0xb ∷ 0xa ∷ [])
    ++ (bytes 8 (0 ∷ 0 ∷ 0x4000000000000000 ∷ 0 ∷ 0 ∷ 0xc000000000000000 ∷ 0x8000000000000000 ∷ 0 ∷ [])
    ++ bytes 4 (3 ∷ 0xc ∷ 0x12 ∷ 2 ∷ 0 ∷ 0x120 ∷ 0x168 ∷ 0x198 ∷ [])))

-- the requests
unfoldable pub requests : List ℕ
requests =
    bytes 8 (6 ∷ 0 ∷ 0 ∷ 0x3fe0000000000000 ∷ 0x3ff0000000000000 ∷ 0 ∷ 0 ∷ 0 ∷ 0x3ff0000000000000 ∷ 0 ∷ 5 ∷ 0 ∷ 0 ∷ 0 ∷ 0 ∷ 0 ∷ 6 ∷ 0 ∷ 0 ∷ 0x3ff8000000000000 ∷ 0x3ff0000000000000 ∷ 0 ∷ 0 ∷ 0 ∷ 0x3ff0000000000000 ∷ 0 ∷ 5 ∷ 0 ∷ 0 ∷ 0 ∷ 0 ∷ 0 ∷ 6 ∷ 0x3fe0000000000000 ∷ 0 ∷ 0 ∷ 0 ∷ 0x3ff0000000000000 ∷ 0 ∷ 0 ∷ 0 ∷ 0x3ff0000000000000 ∷ 1 ∷ 0 ∷ 0 ∷ 0 ∷ 0 ∷ 0 ∷ [])

-- what the job gives
unfoldable pub expected : Refusable Printed
expected =
    Ok
    (record {
      words = 0 ∷ 0xd ∷ 1 ∷ 0x3ff0000000000000 ∷ 0x4000000000000000 ∷ 0x4000000000000000 ∷ 0x4000000000000000 ∷ 0x4000000000000000 ∷ 0x4000000000000000 ∷ 0x4000000000000000 ∷ 0 ∷ 0x4000000000000000 ∷ 1 ∷ 0x4000000000000000 ∷ 0x8000000000000000 ∷ 0 ∷ 0xd ∷ 1 ∷ 0x3ff0000000000000 ∷ 0xc000000000000000 ∷ 0xc000000000000000 ∷ 0xc000000000000000 ∷ 0xc000000000000000 ∷ 0xc000000000000000 ∷ 0 ∷ 0xc000000000000000 ∷ 0x4000000000000000 ∷ 1 ∷ 0xc000000000000000 ∷ 0x3ff0000000000000 ∷ 0 ∷ 0xd ∷ 2 ∷ 0x4000000000000000 ∷ 0x8000000000000000 ∷ 0x8000000000000000 ∷ 0 ∷ 0 ∷ 0 ∷ 0 ∷ 0 ∷ 0 ∷ 0 ∷ 0 ∷ 0 ∷ [];
      cells = 0 ∷ 1 ∷ [];
    })

-- computed in one pass
computed : Computes file requests (lends 16384 8192 16384 8192) expected
unfolding computing file requests expected bytes bytes_from lends ran below seen one_pass due
computed = record { pass = refl }

-- for any answers and marks that are lent
pub same : Known file requests (lends 16384 8192 16384 8192) expected
same = by-computing computed
