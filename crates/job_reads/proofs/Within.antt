-- What the laws say of the numbers of cells in a mesh, in its field and in a room.
use Prim.Native.Nat.{ℕ, ◌≤◌, ◌<◌}
use mathlib.Core.Path.{◌≡◌}
use lib.ListN.{length}
use Rattle.arith.specs.All.{All}
use Rattle.mesh_area.specs.Tables.{Face, Mesh, cell_at}
use Rattle.lines_locate.specs.Field.{StreamlineField}
use Rattle.lines_velocity.specs.Velocity.{neighbours_of}
use Rattle.job_room.specs.Room.{Room, flat, solid}
use Rattle.std.specs.Prelude.{Some, None}
use Rattle.std.specs.declared.option.Option.{Option}

-- the number, if there is one, is below n
abbrev pub Beside : ℕ → Option ℕ → Type 0
Beside n None = Unit
Beside n (Some k) = k < n

-- the cells of a face are below n
pub record Numbered (n : ℕ) (f : Face) : Type 0 where
  pub owner : f.owner < n
  pub neighbour : Beside n f.neighbour

-- a mesh of n cells, whose neighbours are among them
pub record Numbers (n : ℕ) (m : Mesh) : Type 0 where
  pub cells : length m.cells ≡ n
  pub near : (i : ℕ) → All (λ k. k < n) (cell_at m.cells i).neighbours

-- a field of at most n cells, whose neighbours are among them
pub record Sound (n : ℕ) (f : StreamlineField) : Type 0 where
  pub few : length f.polygons ≤ n
  pub near : (i : ℕ) → All (λ k. k < n) (neighbours_of f.cells i)

-- a field over the cells of a mesh, with a polygon for each
pub record FieldFrom (m : Mesh) (f : StreamlineField) : Type 0 where
  pub cells : f.cells ≡ m.cells
  pub polygons : length f.polygons ≡ length m.cells

-- a room of at most n cells
abbrev pub RoomWithin : ℕ → Room → Type 0
RoomWithin n (flat f) = Sound n f
RoomWithin n (solid m) = length m.cells ≤ n
