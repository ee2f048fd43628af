-- Two prisms, a section (corpus/984 request 23 kinds (3, 3) code 5 -> 0)
use Rattle.std.specs.Prelude.{ℕ, refl, List, [], ◌∷◌, ◌++◌, Ok}
use Rattle.test_rooms.specs.Computing.{computing}
use Rattle.reading.specs.Result.{Refusable}
use Rattle.test_rooms.specs.Printed.{Printed, Known, bytes, bytes_from, lends}
use Rattle.test_rooms.specs.OnePass.{Computes, ran, below, seen, one_pass, due, by-computing}

-- the case
unfoldable pub file : List ℕ
file =
    bytes 8 (0x40133bf4b81e8ff0 ∷ 0 ∷ 0 ∷ 0 ∷ 0 ∷ 0x40233bf4b81e8ff0 ∷ 0x40133bf4b81e8ff0 ∷ 0x40033bf4b81e8ff0 ∷ 0 ∷ 0 ∷ 0x40033bf4b81e8ff0 ∷ 0 ∷ 0 ∷ 0 ∷ 0 ∷ 0 ∷ 0x40033bf4b81e8ff0 ∷ 0x40233bf4b81e8ff0 ∷ 0x40133bf4b81e8ff0 ∷ 0 ∷ 0x40233bf4b81e8ff0 ∷ 0x40133bf4b81e8ff0 ∷ 0x40033bf4b81e8ff0 ∷ 0x40233bf4b81e8ff0 ∷ [])
    ++ (bytes 4 (3 ∷ 4 ∷ 0 ∷ 2 ∷ 1 ∷ 6 ∷ 7 ∷ 3 ∷ 4 ∷ 2 ∷ 3 ∷ 1 ∷ 7 ∷ 5 ∷ [])
    ++ (bytes 8 (0x3ffca8420b94b58e ∷ 0xbfc6a0d80863eb90 ∷ 0x3fceb402c34592a0 ∷ 0 ∷ 0x8000000000000000 ∷ 0 ∷ 0x3ff386426e2c6bb8 ∷ 0x3fe8aac8c1d613f0 ∷ [])
    ++ bytes 4 (3 ∷ 8 ∷ 0xe ∷ 2 ∷ 0 ∷ 0xc0 ∷ 0xf8 ∷ 0x128 ∷ [])))

-- the requests
unfoldable pub requests : List ℕ
requests =
    bytes 8 (5 ∷ 0x40133bf4b81e8ff0 ∷ 0 ∷ 0 ∷ 0x3fe18d12a29f50fc ∷ 0x3fb4d799cf78c245 ∷ 0x3feaa15b0da8a06c ∷ 0x3fda8f8d76ae370c ∷ 0x3feaccdb83bc8da5 ∷ 0xbfd6bfc054f804e4 ∷ 0 ∷ 0 ∷ 0 ∷ 0 ∷ 0 ∷ 0 ∷ [])

-- what the job gives
unfoldable pub expected : Refusable Printed
expected =
    Ok
    (record {
      words = 0 ∷ 1 ∷ 0 ∷ [];
      cells = [];
    })

-- computed in one pass
computed : Computes file requests (lends 16384 8192 16384 8192) expected
unfolding computing file requests expected bytes bytes_from lends ran below seen one_pass due
computed = record { pass = refl }

-- for any answers and marks that are lent
pub same : Known file requests (lends 16384 8192 16384 8192) expected
same = by-computing computed
