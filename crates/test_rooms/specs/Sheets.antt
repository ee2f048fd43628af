-- Pair two metres to the left: sheets below zero, with exact halves (-1687.5 and -1562.5 mm), and with points that repeat the one before
use Rattle.std.specs.Prelude.{ℕ, refl, List, [], ◌∷◌, ◌++◌, Ok}
use Rattle.test_rooms.specs.Computing.{computing}
use Rattle.reading.specs.Result.{Refusable}
use Rattle.test_rooms.specs.Printed.{Printed, Known, bytes, bytes_from, lends}
use Rattle.test_rooms.specs.OnePass.{Computes, ran, below, seen, one_pass, due, by-computing}

-- the case
unfoldable pub file : List ℕ
file =
    bytes 8 (0xc000000000000000 ∷ 0 ∷ 0 ∷ 0xbff0000000000000 ∷ 0 ∷ 0 ∷ 0 ∷ 0 ∷ 0 ∷ 0xc000000000000000 ∷ 0x3ff0000000000000 ∷ 0 ∷ 0xbff0000000000000 ∷ 0x3ff0000000000000 ∷ 0 ∷ 0 ∷ 0x3ff0000000000000 ∷ 0 ∷ [])
    ++ (bytes 4 (0 ∷ 4 ∷ 0 ∷ 1 ∷ 4 ∷ 3 ∷ 0 ∷ 4 ∷ 1 ∷ 2 ∷ 5 ∷ 4 ∷ [])
    ++ (bytes 8 (0x3ff0000000000000 ∷ 0 ∷ 0 ∷ 0x4008000000000000 ∷ 0 ∷ 0 ∷ 0 ∷ 0 ∷ [])
    ++ bytes 4 (2 ∷ 6 ∷ 0xc ∷ 2 ∷ 0 ∷ 0x90 ∷ 0xc0 ∷ 0xf0 ∷ [])))

-- the requests
unfoldable pub requests : List ℕ
requests =
    bytes 8 (0xd ∷ 0xbffb000000000000 ∷ 0x3fe0000000000000 ∷ 0 ∷ 0 ∷ 0x3fb0000000000000 ∷ 0xa ∷ 0x3fc8000000000000 ∷ 0 ∷ 0 ∷ 0 ∷ 0 ∷ 0 ∷ 0 ∷ 0 ∷ 0 ∷ 0xd ∷ 0xbffc000000000000 ∷ 0x3fe0000000000000 ∷ 0 ∷ 0 ∷ 0x3f20000000000000 ∷ 6 ∷ 0x3fe0000000000000 ∷ 0 ∷ 0 ∷ 0 ∷ 0 ∷ 0 ∷ 0 ∷ 0 ∷ 0 ∷ [])

-- what the job gives
unfoldable pub expected : Refusable Printed
expected =
    Ok
    (record {
      words = 0 ∷ 9 ∷ 4 ∷ 0xfffffffffffff968 ∷ 0x1f4 ∷ 0xfffffffffffff9a7 ∷ 0x1f4 ∷ 0xfffffffffffff9e5 ∷ 0x1f4 ∷ 0xfffffffffffffa24 ∷ 0x1f4 ∷ 0 ∷ 5 ∷ 2 ∷ 0xfffffffffffff92a ∷ 0x1f4 ∷ 0xfffffffffffff92b ∷ 0x1f4 ∷ [];
      cells = 0 ∷ 1 ∷ [];
    })

-- computed in one pass
computed : Computes file requests (lends 16384 8192 16384 8192) expected
unfolding computing file requests expected bytes bytes_from lends ran below seen one_pass due
computed = record { pass = refl }

-- for any answers and marks that are lent
pub same : Known file requests (lends 16384 8192 16384 8192) expected
same = by-computing computed
