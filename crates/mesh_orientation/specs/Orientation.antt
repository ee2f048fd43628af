-- Refusal 16, "orientation".
use Rattle.std.specs.Prelude.{Bool, false, ◌||◌, List, Some, None, ℕ}
use Rattle.arith.specs.F64.{◌≼◌, 1e-12}
use Rattle.arith.specs.Vec.{minus, dot}
use Rattle.arith.specs.declared.Vec3.{Vec3}
use Rattle.mesh_area.specs.Tables.{Face, Cell, cell_at}
use Rattle.std.specs.declared.option.Option.{Option}

-- one point does not lie beyond another by more than 1e-12, along the normal
unfoldable pub behind : Vec3 → Vec3 → Vec3 → Bool
behind to from normal = dot (minus to from) normal ≼ 1e-12

-- the neighbour's centre does not lie beyond the face
unfoldable pub neighbour_behind : List Cell → Face → Option ℕ → Bool
neighbour_behind cs f None = false
neighbour_behind cs f (Some n) = behind (cell_at cs n).centre f.centre f.normal

-- the face does not lie beyond its owner's centre, or its neighbour's centre not beyond it
unfoldable pub misplaced : List Cell → Face → Bool
misplaced cs f = behind f.centre (cell_at cs f.owner).centre f.normal || neighbour_behind cs f f.neighbour
