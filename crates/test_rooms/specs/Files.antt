-- Case files and request bytes, written from their parts.
use Rattle.std.specs.Prelude.{ℕ, ◌+◌, ◌-◌, ◌*◌, List, [], ◌∷◌, ◌++◌, map, length, replicate, Float, Ok}
use Rattle.arith.specs.F64.{word}
use Rattle.arith.specs.Lists.{flatten}
use Rattle.arith.specs.declared.Vec3.{Vec3}
use Rattle.answers.specs.Words.{vec_words}
use Rattle.reading.specs.Result.{Refusable}
use Rattle.test_rooms.specs.Printed.{Printed, Known, bytes, lends}
use Rattle.test_rooms.specs.OnePass.{Computes}

-- "points (3 floats each), definition words (u32), velocities (3 floats per cell), pressures (one
-- per cell), then a 32-byte trailer"
unfoldable pub case_file : ℕ → List Vec3 → List ℕ → List Vec3 → List Float → List ℕ
case_file dimension points words velocities pressures =
    let a = 24 * length points in
    let b = a + 4 * length words in
    let c = b + 24 * length velocities in
    bytes 8 (flatten (map vec_words points))
    ++ (bytes 4 words
    ++ (bytes 8 (flatten (map vec_words velocities) ++ map (λ p. word p) pressures)
    ++ bytes 4 (dimension ∷ length points ∷ length words ∷ length velocities ∷ 0 ∷ a ∷ b ∷ c ∷ [])))

-- "16 words of 8 bytes, the code first, then the arguments; words not used are zero"
unfoldable pub request : List ℕ → List ℕ
request l = bytes 8 (l ++ replicate (16 - length l) 0)

-- an answer of these words, made from these cells
unfoldable pub told : List ℕ → List ℕ → Refusable Printed
told words cells = Ok (record { words = 0 ∷ length words ∷ words; cells = cells })

-- a job of one request gives these words, made from these cells; `airjob` "lends 16,384 words, 8,192 floats, 16,384 marks and 8,192 answer words"
abbrev pub Gives : List ℕ → List ℕ → List ℕ → List ℕ → Type 0
Gives file l words cells = Known file (request l) (lends 16384 8192 16384 8192) (told words cells)

-- the same, computed
abbrev pub Computed : List ℕ → List ℕ → List ℕ → List ℕ → Type 0
Computed file l words cells = Computes file (request l) (lends 16384 8192 16384 8192) (told words cells)
