-- A pentagon by its diagonals: accepted, sorted it is the pentagon
use Rattle.std.specs.Prelude.{ℕ, refl, List, [], ◌∷◌, ◌++◌, Ok}
use Rattle.test_rooms.specs.Computing.{computing}
use Rattle.reading.specs.Result.{Refusable}
use Rattle.test_rooms.specs.Printed.{Printed, Known, bytes, bytes_from, lends}
use Rattle.test_rooms.specs.OnePass.{Computes, ran, below, seen, one_pass, due, by-computing}

-- the case
unfoldable pub file : List ℕ
file =
    bytes 8 (0x3ff0000000000000 ∷ 0 ∷ 0 ∷ 0x3fd3c6ef372fe950 ∷ 0x3fee6f0e134454ff ∷ 0 ∷ 0xbfe9e3779b97f4a7 ∷ 0x3fe2cf2304755a5f ∷ 0 ∷ 0xbfe9e3779b97f4a9 ∷ 0xbfe2cf2304755a5d ∷ 0 ∷ 0x3fd3c6ef372fe94c ∷ 0xbfee6f0e13445500 ∷ 0 ∷ [])
    ++ (bytes 4 (0 ∷ 5 ∷ 0 ∷ 2 ∷ 4 ∷ 1 ∷ 3 ∷ [])
    ++ (bytes 8 (0x3ff0000000000000 ∷ 0 ∷ 0 ∷ 0 ∷ [])
    ++ bytes 4 (2 ∷ 5 ∷ 7 ∷ 1 ∷ 0 ∷ 0x78 ∷ 0x94 ∷ 0xac ∷ [])))

-- the requests
unfoldable pub requests : List ℕ
requests =
    bytes 8 (1 ∷ 0 ∷ 0 ∷ 0 ∷ 0 ∷ 0 ∷ 0 ∷ 0 ∷ 0 ∷ 0 ∷ 0 ∷ 0 ∷ 0 ∷ 0 ∷ 0 ∷ 0 ∷ 1 ∷ 0x3fe6666666666666 ∷ 0 ∷ 0 ∷ 0 ∷ 0 ∷ 0 ∷ 0 ∷ 0 ∷ 0 ∷ 0 ∷ 0 ∷ 0 ∷ 0 ∷ 0 ∷ 0 ∷ 1 ∷ 0x3feccccccccccccd ∷ 0x3fb999999999999a ∷ 0 ∷ 0 ∷ 0 ∷ 0 ∷ 0 ∷ 0 ∷ 0 ∷ 0 ∷ 0 ∷ 0 ∷ 0 ∷ 0 ∷ 0 ∷ [])

-- what the job gives
unfoldable pub expected : Refusable Printed
expected =
    Ok
    (record {
      words = 0 ∷ 2 ∷ 0xffffffffffffffff ∷ 0 ∷ 0 ∷ 2 ∷ 0xffffffffffffffff ∷ 0 ∷ 0 ∷ 2 ∷ 0xffffffffffffffff ∷ 0 ∷ [];
      cells = [];
    })

-- computed in one pass
computed : Computes file requests (lends 16384 8192 16384 8192) expected
unfolding computing file requests expected bytes bytes_from lends ran below seen one_pass due
computed = record { pass = refl }

-- for any answers and marks that are lent
pub same : Known file requests (lends 16384 8192 16384 8192) expected
same = by-computing computed
