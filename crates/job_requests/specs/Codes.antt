-- The table of request codes, by which refusals 30 and 31 are decided. A later code is a row.
use Rattle.std.specs.Prelude.{ℕ, Bool, List, [], ◌∷◌, eqb, get_or}
use Rattle.job_requests.specs.declared.Code.{Code}

-- the dimension that a code needs, how many words it uses, itself counted, and the word at which
-- the arguments of its lines start, from direction on: 0 where it asks for none
unfoldable pub row : ℕ → ℕ → ℕ → Code
row d n k = record { dimension = d; used = n; line = k }

-- what is no code: it needs dimension 0
unfoldable pub unknown : Code
unknown = row 0 0 0

-- row n is code n's
unfoldable pub codes : List Code
codes =
    unknown
    -- 1 locate, 2 velocity: point
    ∷ row 2 4 0
    ∷ row 2 4 0
    -- 3 streamline: seed, direction, step_size, max_steps, max_length, stagnation_speed
    ∷ row 2 9 4
    -- 4 rake: start, end, seed count, then as 3 from direction on
    ∷ row 2 13 8
    -- 5 section: origin, u, v
    ∷ row 3 10 0
    -- 6 statistics: the same, field
    ∷ row 3 11 0
    -- 7 integrals: as 5
    ∷ row 3 10 0
    -- 8 probe: as 5, then a point
    ∷ row 3 13 0
    -- 9 to 12: as 1 to 4
    ∷ row 2 4 0
    ∷ row 2 4 0
    ∷ row 2 9 4
    ∷ row 2 13 8
    -- 13 sheet: as 3; 14: as 13
    ∷ row 2 9 4
    ∷ row 2 9 4
    ∷ []

-- the row of a code
unfoldable pub code_of : ℕ → Code
code_of code = get_or codes code unknown

-- "unknown code"
unfoldable pub is_unknown : Code → Bool
is_unknown c = eqb c.dimension 0
