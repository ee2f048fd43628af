-- Where the mesh stands in the work area. F is `slots`, C is `cells`.
-- Words: face f from 12f on: vertex count, 8 vertices, owner, neighbour + 1 or 0, link. From 12F on F bucket heads, from 13F on the cells'
-- face lists, from 14F on their neighbour lists. Cell i from 16F + 8i on: its definition's position, where its two lists start, how
-- many faces and how many neighbours they have. What follows from 16F + 8C on is the tracer's.
-- Floats: face f from 12f on: centre, area, normal, area vector. Cell i from 12F + 4i on: centre, volume. From 12F + 4C on: the tracer's.
-- `points_in`: the points of a case.
-- `vertex_count` to `volume_float`: the parts of a record, by their offset.
-- `words_end`, `floats_end`, `mesh_words`, `mesh_floats`: the mesh's part of the area.
-- `LentWords`, `LentFloats`: the area is long enough.
-- `list_at`, `vec_from`, `found`: numbers, a point, a number or none, where they stand.
-- `face_in`, `cell_in`: one record. `faces_in`, `cells_in`, `mesh_in`: the whole mesh.
use Rattle.std.specs.Prelude.{ℕ, ◌+◌, ◌-◌, ◌*◌, ◌≤◌, cond, List, eqb, length, get_or, take, Float, Some, None}
use Rattle.std.specs.Float.{nan}
use Rattle.arith.specs.Limits.{most_cells, most_words}
use Rattle.arith.specs.Bytes.{vec_at}
use Rattle.arith.specs.Records.{tab}
use Rattle.arith.specs.Vec.{vec}
use Rattle.arith.specs.declared.Vec3.{Vec3}
use Rattle.mesh_area.specs.declared.Sizes.{Sizes}
use Rattle.mesh_area.specs.Tables.{Face, Cell, Mesh}
use Rattle.std.specs.declared.option.Option.{Option}

-- ---- points: "points (3 floats each)", in the case bytes

-- the first n
unfoldable pub points_in : List ℕ → ℕ → List Vec3
points_in case n = tab (λ i. vec_at case (24 * i)) n

-- ---- the parts of a record, by their offset

-- the words of a face
abbrev pub vertex_count : ℕ
vertex_count = 0

-- the first of its vertices, of which there are at most eight
abbrev pub first_vertex : ℕ
first_vertex = 1

-- its owner
abbrev pub owner_word : ℕ
owner_word = 9

-- its neighbour + 1, or 0 for none
abbrev pub neighbour_word : ℕ
neighbour_word = 10

-- the floats of a face
abbrev pub centre_floats : ℕ
centre_floats = 0

-- its area
abbrev pub area_float : ℕ
area_float = 3

-- the first of the three of its normal
abbrev pub normal_floats : ℕ
normal_floats = 4

-- the first of the three of its area vector
abbrev pub vector_floats : ℕ
vector_floats = 7

-- the words of a cell
abbrev pub list_start : ℕ
list_start = 1

-- how many faces it has
abbrev pub face_count : ℕ
face_count = 2

-- how many neighbours it has
abbrev pub neighbour_count : ℕ
neighbour_count = 3

-- the floats of a cell: its centre, then
abbrev pub volume_float : ℕ
volume_float = 3

-- ---- the part of the area that holds the mesh

-- where the words of the mesh end
abbrev pub words_end : Sizes → ℕ
words_end s = 16 * s.slots + 8 * s.cells

-- where its floats end
abbrev pub floats_end : Sizes → ℕ
floats_end s = 12 * s.slots + 4 * s.cells

-- the words of the mesh
unfoldable pub mesh_words : Sizes → List ℕ → List ℕ
mesh_words s words = take (words_end s) words

-- its floats
unfoldable pub mesh_floats : Sizes → List Float → List Float
mesh_floats s floats = take (floats_end s) floats

-- the words are not "under 16F+96C", and F and C are within 01's limits
pub record LentWords (s : Sizes) (words : List ℕ) : Type 0 where
  pub few-slots : s.slots ≤ most_words
  pub few-faces : s.faces ≤ s.slots
  pub few-cells : s.cells ≤ most_cells
  pub long : 16 * s.slots + 96 * s.cells ≤ length words

-- the floats are not under "12F+64C"
pub record LentFloats (s : Sizes) (floats : List Float) : Type 0 where
  pub few-slots : s.slots ≤ most_words
  pub few-faces : s.faces ≤ s.slots
  pub few-cells : s.cells ≤ most_cells
  pub long : 12 * s.slots + 64 * s.cells ≤ length floats

-- ---- one record, in the mesh's part of the area

-- n words from a place on
unfoldable pub list_at : List ℕ → ℕ → ℕ → List ℕ
list_at words at n = tab (λ k. get_or words (at + k) 0) n

-- three floats from a place on
unfoldable pub vec_from : List Float → ℕ → Vec3
vec_from floats at = vec (get_or floats at nan) (get_or floats (at + 1) nan) (get_or floats (at + 2) nan)

-- a number that stands one higher, or none
unfoldable pub found : ℕ → Option ℕ
found n = cond (eqb n 0) None (Some (n - 1))

-- face f: its count, up to eight numbers, owner and neighbour in twelve words, its measures in
-- twelve floats
unfoldable pub face_in : List ℕ → List Float → ℕ → Face
face_in words floats f =
    record {
      vertices = list_at words (12 * f + first_vertex) (get_or words (12 * f + vertex_count) 0);
      owner = get_or words (12 * f + owner_word) 0;
      neighbour = found (get_or words (12 * f + neighbour_word) 0);
      centre = vec_from floats (12 * f + centre_floats);
      area = get_or floats (12 * f + area_float) nan;
      normal = vec_from floats (12 * f + normal_floats);
      area_vector = vec_from floats (12 * f + vector_floats);
    }

-- cell i, where there are F slots
unfoldable pub cell_in : List ℕ → List Float → ℕ → ℕ → Cell
cell_in words floats slots i =
    let at = 16 * slots + 8 * i in
    let first = get_or words (at + list_start) 0 in
    record {
      faces = list_at words (13 * slots + first) (get_or words (at + face_count) 0);
      neighbours = list_at words (14 * slots + first) (get_or words (at + neighbour_count) 0);
      centre = vec_from floats (12 * slots + 4 * i);
      volume = get_or floats (12 * slots + 4 * i + volume_float) nan;
    }

-- ---- the whole mesh

-- its faces
unfoldable pub faces_in : Sizes → List ℕ → List Float → List Face
faces_in s words floats = tab (face_in (mesh_words s words) (mesh_floats s floats)) s.faces

-- its cells
unfoldable pub cells_in : Sizes → List ℕ → List Float → List Cell
cells_in s words floats = tab (cell_in (mesh_words s words) (mesh_floats s floats) s.slots) s.cells

-- the mesh that the area holds, whatever stands there
unfoldable pub mesh_in : List Vec3 → Sizes → List ℕ → List Float → Mesh
mesh_in points s words floats = record { points = points; faces = faces_in s words floats; cells = cells_in s words floats }
