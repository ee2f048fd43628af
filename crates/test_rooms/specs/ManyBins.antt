-- One cell, more than 65,536 bins: 19
use Rattle.std.specs.Prelude.{ℕ, refl, List, [], ◌∷◌, ◌++◌, Err}
use Rattle.test_rooms.specs.Computing.{computing}
use Rattle.reading.specs.Result.{Refusable}
use Rattle.test_rooms.specs.Printed.{Printed, Known, bytes, bytes_from, lends}
use Rattle.test_rooms.specs.OnePass.{Computes, ran, below, seen, one_pass, due, by-computing}
use Rattle.refusal.specs.declared.Refusal.TheVariants.{TooManyBins}

-- the case
unfoldable pub file : List ℕ
file =
    bytes 8 (0 ∷ 0 ∷ 0 ∷ 0x4130000000000000 ∷ 0 ∷ 0 ∷ 0x4130000000000000 ∷ 0x3f2ffffe00000000 ∷ 0 ∷ 0 ∷ 0x3f2ffffe00000000 ∷ 0 ∷ [])
    ++ (bytes 4 (0 ∷ 4 ∷ 0 ∷ 1 ∷ 2 ∷ 3 ∷ [])
    ++ (bytes 8 (0x3ff0000000000000 ∷ 0 ∷ 0 ∷ 0 ∷ [])
    ++ bytes 4 (2 ∷ 4 ∷ 6 ∷ 1 ∷ 0 ∷ 0x60 ∷ 0x78 ∷ 0x90 ∷ [])))

-- the requests
unfoldable pub requests : List ℕ
requests =
    bytes 8 ([])

-- what the job gives
unfoldable pub expected : Refusable Printed
expected = Err TooManyBins

-- computed in one pass
computed : Computes file requests (lends 16384 8192 16384 8192) expected
unfolding computing file requests expected bytes bytes_from lends ran below seen one_pass due
computed = record { pass = refl }

-- for any answers and marks that are lent
pub same : Known file requests (lends 16384 8192 16384 8192) expected
same = by-computing computed
