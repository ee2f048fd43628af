-- The definitions on small meshes, computed. Assumes nothing.
use mathlib.Core.Path.{◌≡◌, refl}
use mathlib.Core.Bool.{true, false}
use mathlib.Core.List.{[], ◌∷◌}
use Prim.Native.Nat.{ℕ}
use Rattle.arith.specs.F64.{0·0}
use Rattle.arith.specs.Lists.{any_of, fold, add_new}
use Rattle.arith.specs.Records.{tab}
use Rattle.arith.specs.Vec.{origin}
use Rattle.mesh_area.specs.Tables.{Face, face_at}
use Rattle.mesh_neighbours.specs.Neighbours.{other_cell, beyond, add_found, add_neighbour, neighbours_of}
use Rattle.mesh_connection.specs.Connection.{some_below, every_below, one_round, rounds, connected_by, sides_are, joins, share, connected}
use Rattle.std.specs.Prelude.{Some, None}
use Rattle.std.specs.declared.option.Option.{Option}

-- a face between two cells
side : ℕ → Option ℕ → Face
side o n = record { vertices = []; owner = o; neighbour = n; centre = origin; area = 0·0; normal = origin; area_vector = origin }

computing : ℕ
unfolding side any_of fold add_new tab face_at other_cell beyond add_found add_neighbour neighbours_of some_below every_below one_round rounds connected_by sides_are joins share connected
computing = 0

-- a row of three cells and a wall, and the same where the last cell has the wall
row : connected 3 (side 0 (Some 1) ∷ side 0 None ∷ side 1 (Some 2) ∷ []) ≡ true
unfolding computing
row = refl

apart : connected 3 (side 0 (Some 1) ∷ side 0 None ∷ side 2 None ∷ []) ≡ false
unfolding computing
apart = refl

-- in face order, first of each kept: cell 1 meets 2, then 0, then 2 again
order : neighbours_of (side 1 (Some 2) ∷ side 0 (Some 1) ∷ side 1 None ∷ side 1 (Some 2) ∷ []) 1 (0 ∷ 1 ∷ 2 ∷ 3 ∷ []) ≡ 2 ∷ 0 ∷ []
unfolding computing
order = refl
