-- The field of a case, the case without it, and its zones: "Reading follows from the case bytes and the requests".
-- `blank`, `outside`: the case without its field. `cells_of`: how many cells it has.
-- `zero_values`, `values_in`, `values_of`: the values of a cell.
-- `zone_in`, `zone_of`, `zones_of`: the zones of the cells. `is_at_most`, `zones_within`: refusal 45.
-- `larger`, `largest`: how it is found.
use Rattle.std.specs.Prelude.{ℕ, ◌+◌, ◌*◌, Bool, true, false, cond, ◌&&◌, List, ◌++◌, leb, ltb, eqb, take, drop, replicate}
use Rattle.arith.specs.F64.{0·0}
use Rattle.arith.specs.Vec.{origin}
use Rattle.arith.specs.Bytes.{le32, float_at, vec_at}
use Rattle.arith.specs.Lists.{fold, all_of}
use Rattle.arith.specs.Records.{tab}
use Rattle.reading.specs.declared.Values.{Values}
use Rattle.case_file.specs.declared.Counts.{Counts}
use Rattle.case_file.specs.Trailer.{counts_of, trailer_right, field_from, pressures_from, zones_from}

-- a file with zeros in the place of n bytes
unfoldable pub blank : ℕ → ℕ → List ℕ → List ℕ
blank at n file = take at file ++ (replicate n 0 ++ drop (at + n) file)

-- the case with zeros in the place of its velocities and pressures; "a file that gives refusal 1 has no velocities or pressures". The zones stay:
-- "The planner's and the maker's files must share zones as well as mesh."
unfoldable pub outside : List ℕ → List ℕ
outside file =
    let n = counts_of file in
    elim (trailer_right file) [ false ↦ file | true ↦ blank (field_from n) (32 * n.cells) file ]

-- how many cells a case has
unfoldable pub cells_of : List ℕ → ℕ
cells_of file = (counts_of file).cells

-- what a cell has that the case does not
unfoldable pub zero_values : Values
zero_values = record { velocity = origin; pressure = 0·0 }

-- "velocities (3 floats per cell), pressures (one per cell)": the values of cell i, in a file with these counts
unfoldable pub values_in : List ℕ → Counts → ℕ → Values
values_in file n i =
    cond (ltb i n.cells) (record { velocity = vec_at file (field_from n + 24 * i); pressure = float_at file (pressures_from n + 8 * i) }) zero_values

-- those of a case
unfoldable pub values_of : List ℕ → ℕ → Values
values_of file i = values_in file (counts_of file) i

-- "a u32 zone per cell after the pressures"; "In edition 1 every zone is 0." What is no cell has zone 0
unfoldable pub zone_in : List ℕ → Counts → ℕ → ℕ
zone_in file n i = cond (eqb n.edition 2 && ltb i n.cells) (le32 file (zones_from n + 4 * i)) 0

-- that of cell i of a case
unfoldable pub zone_of : List ℕ → ℕ → ℕ
zone_of file i = zone_in file (counts_of file) i

-- those of all its cells
unfoldable pub zones_of : List ℕ → List ℕ
zones_of file = tab (zone_of file) (cells_of file)

-- a zone is not above a bound
unfoldable pub is_at_most : ℕ → ℕ → Bool
is_at_most most z = leb z most

-- the larger of two numbers, and the largest of some, 0 for none
unfoldable pub larger : ℕ → ℕ → ℕ
larger a b = cond (ltb a b) b a

unfoldable pub largest : List ℕ → ℕ
largest zones = fold larger 0 zones

-- refusal 45 is not due: no "zone above 255"
unfoldable pub zones_within : List ℕ → Bool
zones_within file = all_of (is_at_most 255) (zones_of file)
