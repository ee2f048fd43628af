-- The contracts of the functions that build the tracer's part of the work area, here and in lines_build.
-- `polygons_in`: the polygons in the area. `vertex_in`, `vertices_in`: points in two lists.
-- `push`, `add_face` and `cell_vertices`: `VerticesExit`. `MeshKept`: the mesh is as it was. `angles_about`: `AnglesAboutExit`.
-- `polygon`: `PolygonExit`. `store_polygon` and `put_polygon`: `PutPolygonExit`. `limit_cell`: `LimitCellExit`.
-- `bin_word`, `cell_words`, `SpanWithin`, `listed_span`: the words of a cell. `list_cell`: `ListCellExit`. `list_cells`: `ListCellsExit`.
-- `from_dataset`: `FromDatasetExit`. `bin_counts`: `BinCountsExit`. `VertexLimit`: what the mesh promises.
use Rattle.std.specs.Prelude.{ℕ, ◌+◌, ◌*◌, ◌≤◌, ◌<◌, ◌≡◌, List, [], ◌∷◌, map, get_or, take, drop, length, Float, Ok}
use Rattle.std.specs.Float.{nan}
use Rattle.arith.specs.Limits.{most_bins}
use Rattle.arith.specs.Records.{tab}
use Rattle.arith.specs.Vec.{pair}
use Rattle.arith.specs.declared.Vec2.{Vec2}
use Rattle.arith.specs.declared.Vec3.{Vec3}
use Rattle.arith_angles.specs.Angle.{angle_of}
use Rattle.arith_angles.specs.Sort.{angle_at}
use Rattle.mesh_area.specs.declared.Sizes.{Sizes}
use Rattle.mesh_area.specs.Tables.{Mesh, cell_at}
use Rattle.mesh_area.specs.Layout.{words_end, floats_end}
use Rattle.lines_polygon.specs.Extent.{LimitsHold, limits_from}
use Rattle.lines_locate.specs.declared.Grid.{Grid}
use Rattle.lines_locate.specs.Layout.{words_at, floats_at, polygon_in, cell_polygon_in, cell_polygons_in, field_in}
use Rattle.lines_locate.specs.Ranges.{Ranged}
use Rattle.lines_locate.specs.Ensures.{HasRanges, LocateCellEntry}
use Rattle.lines_field.specs.declared.BinSpan.{BinSpan}
use Rattle.lines_field.specs.Vertices.{about, cell_vertices}
use Rattle.lines_field.specs.Bins.{listed_in, bin_counts}
use Rattle.lines_field.specs.Field.{grid_of, polygons_of, field_of}
use Rattle.lines_locate.specs.declared.Bin.{Bin}
use Rattle.lines_locate.specs.declared.Box.{Box}
use Rattle.reading.specs.Result.{Refusable}

-- the polygons of all cells that the area holds
unfoldable pub polygons_in : Sizes → List ℕ → List Float → List (List Vec2)
polygons_in s words floats = tab (polygon_in s words floats) s.cells

-- point k of those whose x and y stand in two lists
abbrev pub vertex_in : List Float → List Float → ℕ → Vec2
vertex_in xs ys k = pair (get_or xs k nan) (get_or ys k nan)

-- the first n of them
unfoldable pub vertices_in : List Float → List Float → ℕ → List Vec2
vertices_in xs ys n = tab (vertex_in xs ys) n

-- the points of a list are the first n; what stands behind them is as it was
pub record VerticesExit (l : List Vec2) (xs xs' ys ys' : List Float) (n : ℕ) : Type 0 where
  pub points : vertices_in xs' ys' n ≡ l
  pub few : n ≤ 24
  pub xs-behind : drop n xs' ≡ drop n xs
  pub ys-behind : drop n ys' ≡ drop n ys

-- the mesh's part of the area is as it was
pub record MeshKept (s : Sizes) (w w' : List ℕ) (f f' : List Float) : Type 0 where
  pub words : take (words_end s) w' ≡ take (words_end s) w
  pub floats : take (floats_end s) f' ≡ take (floats_end s) f

-- the angle of each of the first n points about a centre
pub record AnglesAboutExit (c : Vec3) (xs ys : List Float) (quarters : List ℕ) (slopes : List Float) (n : ℕ) : Type 0 where
  pub each : (k : ℕ) → k < n → angle_at quarters slopes k ≡ angle_of (about c (vertex_in xs ys k))

-- the first n places give the points of a polygon
pub record PolygonExit (polygon : List Vec2) (xs ys : List Float) (places : List ℕ) (n : ℕ) : Type 0 where
  pub points : map (vertex_in xs ys) (take n places) ≡ polygon
  pub below : (k : ℕ) → k < n → get_or places k 0 < n
  pub few : n ≤ 24

-- cell i's polygon stands in the area, and nothing before it is changed
pub record PutPolygonExit (polygon : List Vec2) (s : Sizes) (w w' : List ℕ) (f f' : List Float) (i : ℕ) : Type 0 where
  pub here : polygon_in s w' f' i ≡ polygon
  pub words : take (words_at s i) w' ≡ take (words_at s i) w
  pub floats : take (floats_at s i) f' ≡ take (floats_at s i) f

-- a bin in one word
unfoldable pub bin_word : Bin → ℕ
bin_word b = most_bins * b.y + b.x

-- the words of a cell, but for the last: its range in the index, how many vertices it has, and the bins that it is listed in
abbrev pub cell_words : BinSpan → ℕ → BinSpan → List ℕ
cell_words range n listed =
    range.first.x ∷ range.first.y ∷ range.last.x ∷ range.last.y ∷ n ∷ bin_word listed.first ∷ bin_word listed.last ∷ []

-- both ends lie below n each way
pub record SpanWithin (b : BinSpan) (n : ℕ) : Type 0 where
  pub first-x : b.first.x < n
  pub first-y : b.first.y < n
  pub last-x : b.last.x < n
  pub last-y : b.last.y < n

-- the bins that a polygon is listed in
unfoldable pub listed_span : Grid → List Vec2 → BinSpan
listed_span g polygon = record { first = (listed_in g polygon).first; last = (listed_in g polygon).last }

-- cell i is listed in its bins and has its range in the index; no other record is changed
pub record ListCellExit (g : Grid) (s : Sizes) (w w' : List ℕ) (f : List Float) (i : ℕ) : Type 0 where
  pub here : cell_polygon_in s w' f i ≡ listed_in g (polygon_in s w f i)
  pub range : Ranged g (limits_from f (floats_at s i + 48)) w' (words_end s) i
  pub before : take (words_at s i) w' ≡ take (words_at s i) w
  pub polygons : polygons_in s w' f ≡ polygons_in s w f

-- so are all cells, and the mesh is as it was
pub record ListCellsExit (g : Grid) (s : Sizes) (w w' : List ℕ) (f : List Float) : Type 0 where
  pub polygons : cell_polygons_in s w' f ≡ map (listed_in g) (polygons_in s w f)
  pub ranges : HasRanges g s w' f
  pub mesh : take (words_end s) w' ≡ take (words_end s) w

-- cell i has its limits; no polygon, no other cell's limits and nothing of the mesh is changed
pub record LimitCellExit (s : Sizes) (w : List ℕ) (f f' : List Float) (i : ℕ) : Type 0 where
  pub here : LimitsHold (polygon_in s w f' i) (limits_from f' (floats_at s i + 48))
  pub polygons : (j : ℕ) → polygon_in s w f' j ≡ polygon_in s w f j
  pub others : (j : ℕ) → j < i → limits_from f' (floats_at s j + 48) ≡ limits_from f (floats_at s j + 48)
  pub mesh : take (floats_end s) f' ≡ take (floats_end s) f

-- the refusal, or the field of the mesh
pub record FromDatasetExit (m : Mesh) (s : Sizes) (words' : List ℕ) (floats' : List Float) (r : Refusable Grid) : Type 0 where
  pub result : r ≡ grid_of s.cells (polygons_of m)
  pub field : (g : Grid) → r ≡ Ok g → field_of m ≡ Ok (field_in g s words' floats')
  pub searchable : (g : Grid) → r ≡ Ok g → LocateCellEntry g s words' floats'

-- what `bin_counts` promises
pub record BinCountsExit (cells : ℕ) (b : Box) (n : Bin) : Type 0 where
  pub counts : n ≡ bin_counts cells b
  pub wide : 0 < n.x
  pub high : 0 < n.y

-- what the mesh promises of a 2D case: "0 has a count (at most 24)"
pub record VertexLimit (m : Mesh) : Type 0 where
  pub vertices : (i : ℕ) → length (cell_vertices m (cell_at m.cells i)) ≤ 24
