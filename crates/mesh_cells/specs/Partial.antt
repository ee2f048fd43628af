-- How the area holds the cells before their centres are known.
-- `cell_word`: a word of a cell's record. `partial_cell_in`, `partial_cells_in`: a partial cell, and the first n of them.
use Rattle.std.specs.Prelude.{ℕ, ◌+◌, ◌*◌, List, get_or, drop, Float}
use Rattle.arith.specs.Records.{tab}
use Rattle.case_definitions.specs.Ensures.{read_of}
use Rattle.mesh_area.specs.declared.Sizes.{Sizes}
use Rattle.mesh_area.specs.Layout.{list_at, vec_from}
use Rattle.mesh_cells.specs.Cells.{PartialCell}
use Rattle.case_definitions.specs.Definitions as Words

-- word k of the record of cell i: 0 its definition's position among the words, 1 where its lists start, 2 how many faces it has, 3 how many neighbours
abbrev pub cell_word : Sizes → List ℕ → ℕ → ℕ → ℕ
cell_word s words i k = get_or words (16 * s.slots + 8 * i + k) 0

-- cell i as a partial cell; the average stands where its centre will
unfoldable pub partial_cell_in : List ℕ → Sizes → List ℕ → List Float → ℕ → PartialCell
partial_cell_in ws s words floats i =
    record {
      definition = read_of (Words.definition (drop (cell_word s words i 0) ws));
      faces = list_at words (13 * s.slots + cell_word s words i 1) (cell_word s words i 2);
      reference = vec_from floats (12 * s.slots + 4 * i);
    }

-- the first n of them
unfoldable pub partial_cells_in : List ℕ → Sizes → List ℕ → List Float → ℕ → List PartialCell
partial_cells_in ws s words floats n = tab (partial_cell_in ws s words floats) n
