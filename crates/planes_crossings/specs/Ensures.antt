-- The words of the contracts: points held in three slices, what the mesh layer promises of a mesh, and the ends of a side.
-- `point_in`, `slice_points`, `SliceLengths`: the points in the slices. `store`: `StoreExit`.
-- `add_new`, `add_crossing`, `add_face` and `crossings`: `SlicesKept`, `PointList`.
-- `MeshLimits`: what the mesh layer promises. `side_at`: a side by its place. `TrueHeight`: the height of an end. `crossing`: `crossing_of`.
use Rattle.std.specs.Prelude.{ℕ, ◌≤◌, ◌≡◌, cond, List, length, drop, get_or, set, Float, Some, None}
use Rattle.std.specs.Float.{nan}
use Rattle.arith.specs.Lists.{Side, after}
use Rattle.arith.specs.Records.{tab}
use Rattle.arith.specs.Vec.{vec}
use Rattle.arith.specs.declared.Vec3.{Vec3}
use Rattle.mesh_area.specs.Tables.{Mesh, face_at, cell_at}
use Rattle.planes_cut.specs.declared.Cut.{Cut}
use Rattle.planes_cut.specs.Cut.{height, near}
use Rattle.planes_crossings.specs.declared.End.{End}
use Rattle.planes_crossings.specs.Crossings.{parted, between}
use Rattle.std.specs.declared.option.Option.{Option}

-- ---- points held in three slices

-- point i
unfoldable pub point_in : List Float → List Float → List Float → ℕ → Vec3
point_in x y z i = vec (get_or x i nan) (get_or y i nan) (get_or z i nan)

-- the first n of them
unfoldable pub slice_points : List Float → List Float → List Float → ℕ → List Vec3
slice_points x y z n = tab (point_in x y z) n

-- there are n of them
pub record SliceLengths (x y z : List Float) (n : ℕ) : Type 0 where
  pub in-x : n ≤ length x
  pub in-y : n ≤ length y
  pub in-z : n ≤ length z

-- point i is stored, and nothing else changes
pub record StoreExit (x y z x' y' z' : List Float) (i : ℕ) (p : Vec3) : Type 0 where
  pub of-x : x' ≡ set x i p.x
  pub of-y : y' ≡ set y i p.y
  pub of-z : z' ≡ set z i p.z

-- from n on the slices are as they were
pub record SlicesKept (x y z x' y' z' : List Float) (n : ℕ) : Type 0 where
  pub of-x : drop n x' ≡ drop n x
  pub of-y : drop n y' ≡ drop n y
  pub of-z : drop n z' ≡ drop n z

-- the list `l` stands in the slices, n of it where there were `from`, at most `most`; behind it they are as they were
pub record PointList (l : List Vec3) (x y z x' y' z' : List Float) (from n most : ℕ) : Type 0 where
  pub list : slice_points x' y' z' n ≡ l
  pub more : from ≤ n
  pub few : n ≤ most
  pub rest : SlicesKept x y z x' y' z' n

-- ---- a mesh

-- "a face count (at most 24), then per face a count (at most 8)": what the mesh layer promises of every cell and face
pub record MeshLimits (m : Mesh) : Type 0 where
  pub few-faces : (i : ℕ) → length (cell_at m.cells i).faces ≤ 24
  pub few-vertices : (f : ℕ) → length (face_at m.faces f).vertices ≤ 8

-- side k of a list
unfoldable pub side_at : List ℕ → ℕ → Side ℕ
side_at l k = record { from = get_or l k 0; to = get_or l (after (length l) k) 0 }

-- ---- where one side meets the plane: at one point at most

-- an end's height is that of its point
pub record TrueHeight (c : Cut) (a : End) : Type 0 where
  pub same : a.height ≡ height c a.point

-- where a side from a to b meets the plane, or that it does not
unfoldable pub crossing_of : Cut → Vec3 → Vec3 → Option Vec3
crossing_of c a b = cond (near c a) (Some a) (cond (parted c a b) (Some (between c a b)) None)
