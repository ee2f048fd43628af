-- 01's limits: "At most 65,536 points, 16,384 cells, 1,048,576 words", and those of its refusals.
-- `most_points`, `most_cells`, `most_words`: of a case. `most_bins`, `most_steps`: of refusals 19 and 33. `2^32`: of a u32.
use Rattle.std.specs.Prelude.{ℕ}

-- points of a case
abbrev pub most_points : ℕ
most_points = 65536

-- its cells
abbrev pub most_cells : ℕ
most_cells = 16384

-- its definition words, and so the faces of all its definitions, since each face has a word of its own
abbrev pub most_words : ℕ
most_words = 1048576

-- bins each way: "19 a bin count above 65,536 (added)"
abbrev pub most_bins : ℕ
most_bins = 65536

-- steps of a line: "33 count above 64 or max_steps above 65,536"
abbrev pub most_steps : ℕ
most_steps = 65536

-- a u32 is below it
abbrev pub 2^32 : ℕ
2^32 = 4294967296
