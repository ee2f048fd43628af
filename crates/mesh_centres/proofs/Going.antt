use Prim.Native.Nat.{ℕ, ◌*◌, ◌≤◌, ◌-◌}
use mathlib.Core.Path.{◌≡◌}
use mathlib.Core.List.{List, ◌++◌}
use lib.ListN.{get_or, take, drop}
use lib.Ieee.{Float, nan}
use Rattle.arith.specs.declared.Vec3.{Vec3}
use Rattle.reading.specs.Result.{◌>>=◌, map_all}
use Rattle.case_definitions.specs.Definitions.{definitions}
use Rattle.mesh_area.specs.declared.Sizes.{Sizes}
use Rattle.mesh_area.specs.Tables.{Cell}
use Rattle.mesh_area.specs.Layout.{cell_in, mesh_words, mesh_floats}
use Rattle.mesh_cells.specs.Partial.{partial_cells_in}
use Rattle.arith.specs.Records.{tab}
use Rattle.mesh_centres.specs.Finish.{finished, definitions_of}
use Rattle.mesh_centres.specs.Ensures.{cell_from}
use Rattle.std.specs.Prelude.{Ok}

-- the first i cells of the mesh's part
unfoldable pub first_cells : Sizes → List ℕ → List Float → ℕ → List Cell
first_cells s words floats i = tab (cell_in (mesh_words s words) (mesh_floats s floats) s.slots) i

-- i cells are finished, where floats₀ held the partial cells; what is left, finished after them, gives the whole
pub record Going (d : ℕ) (ps : List Vec3) (ws : List ℕ) (s : Sizes) (words : List ℕ) (floats₀ floats : List Float) (i at : ℕ) : Type 0 where
  pub left : definitions (s.cells - i) (drop at ws) ≡ Ok (drop i (definitions_of (partial_cells_in ws s words floats₀ s.cells)))
  pub rest : (map_all (finished d ps) (drop i (partial_cells_in ws s words floats₀ s.cells)) >>= λ bs. Ok (first_cells s words floats i ++ bs))
      ≡ map_all (finished d ps) (partial_cells_in ws s words floats₀ s.cells)
  pub later : (j : ℕ) → cell_from s i ≤ j → get_or floats j nan ≡ get_or floats₀ j nan
  pub faces : take (12 * s.slots) floats ≡ take (12 * s.slots) floats₀
