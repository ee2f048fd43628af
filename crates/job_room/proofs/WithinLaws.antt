-- The vertices of a field are points of its case, and refusal 10 leaves no point far out. Assumes nothing.
use Prim.Native.Nat.{ℕ, ◌+◌, ◌*◌, ◌≤◌, ◌<◌}
use mathlib.Core.Path.{◌≡◌, refl, subst}
use mathlib.Core.Bool.{Bool, true, ◌&&◌}
use mathlib.Core.List.{List, [], ◌∷◌, map}
use mathlib.Core.Logic.{◌⊎◌, inl, inr}
use lib.Dec.{T}
use lib.ListN.{length, get_or, get_or-eq_default}
use lib.Ieee.{binary64, le, fits, of_bits}
use lib.Ieee.Bits.{is_true, of_bits-fits}
use Rattle.arith.specs.F64.{abs, within}
use Rattle.arith.specs.Lists.{all_of, fold, insert_before, sort}
use Rattle.arith.specs.Bytes.{le64, float_at, vec_at}
use Rattle.arith.specs.Vec.{each3, origin}
use Rattle.arith.specs.declared.Vec2.{Vec2}
use Rattle.arith.specs.declared.Vec3.{Vec3}
use Rattle.arith.proofs.All.{All, all-add_new, all_get_or, foldl-keeps}
use Rattle.arith.proofs.RecordLaws.{length-tab, get_or-tab, lt-or-ge}
use Rattle.arith.proofs.SortLaws.{all_insert}
use Rattle.reading.proofs.ResultLaws.{bound}
use Rattle.mesh_area.specs.Tables.{Mesh, Cell, point_at, face_at}
use Rattle.mesh_area.specs.Layout.{points_in}
use Rattle.lines_polygon.specs.Vertices.{xy_within}
use Rattle.lines_polygon.proofs.LimitLaws.{both, all_first}
use Rattle.lines_locate.specs.declared.Search.TheVariants.{Bins}
use Rattle.lines_locate.specs.declared.Grid.{Grid}
use Rattle.lines_locate.specs.Bins.{CellPolygon}
use Rattle.lines_locate.specs.Locate.{xy_of}
use Rattle.lines_locate.specs.Field.{StreamlineField}
use Rattle.lines_field.specs.Vertices.{alike, add_vertex, add_vertices, cell_vertices, turns_about, polygon_of}
use Rattle.lines_field.specs.Bins.{listed_in}
use Rattle.lines_field.specs.Field.{polygons_of, field_of}
use Rattle.lines_velocity.specs.Ensures.{vertices_within}
use Rattle.job_room.proofs.MeshLaws.{fine-same}
use Rattle.std.specs.Prelude.{Ok}

-- ---- a test that every element passes

all-each : {A : Type 0} (p : A → Bool) (l : List A) → all_of p l ≡ true → All (λ a. p a ≡ true) l
all-each p [] e = tt
all-each p (a ∷ l) e = let k = all_first p a l e in (k.0, all-each p l k.1)

each_all : {A : Type 0} (p : A → Bool) (l : List A) → All (λ a. p a ≡ true) l → all_of p l ≡ true
unfolding all_of
each_all p [] h = refl
each_all p (a ∷ l) h = rw (h.0, all_of) (each_all p l h.1)

-- ---- the points of a case

each_within : (p : Vec3) → each3 within p ≡ true → (within p.x ≡ true) × (within p.y ≡ true)
unfolding each3
each_within p e =
    let i = both (within p.x) (within p.y && within p.z) e in
    (i.0, (both (within p.y) (within p.z) i.1).0)

module _ (case : List ℕ) (n : ℕ) (w : all_of (each3 within) (points_in case n) ≡ true) where
  origin-within : each3 within origin ≡ true
  unfolding each3 within le abs of_bits
  origin-within = refl

  -- a point that is not there is the origin
  point-within : (k : ℕ) → each3 within (point_at (points_in case n) k) ≡ true
  unfolding point_at
  point-within k = all_get_or (λ (p : Vec3). each3 within p ≡ true) (points_in case n) k origin origin-within (all-each (each3 within) (points_in case n) w)

  point-fits : (k : ℕ) → T (fits binary64 (point_at (points_in case n) k).y)
  unfolding point_at points_in vec_at float_at
  point-fits k = by (lt-or-ge k n)
    where
      by : (k < n) ⊎ (n ≤ k) → T (fits binary64 (get_or (points_in case n) k origin).y)
      by (inl l) = rw (get_or-tab (λ (i : ℕ). vec_at case (24 * i)) n k origin l) (of_bits-fits binary64 (le64 case (24 * k + 8)))
      by (inr l) =
          let long : length (points_in case n) ≤ k = rw (length-tab (λ (i : ℕ). vec_at case (24 * i)) n) l in
          rw (get_or-eq_default (points_in case n) origin long) (of_bits-fits binary64 0)

  pub vertex-within : (k : ℕ) → xy_within (xy_of (point_at (points_in case n) k)) ≡ true
  unfolding xy_within xy_of
  vertex-within k =
      let i = each_within (point_at (points_in case n) k) (point-within k) in
      rw (i.0, i.1, is_true (fits binary64 (point_at (points_in case n) k).y) (point-fits k))

-- ---- the polygons

module _ (m : Mesh) (w : (k : ℕ) → xy_within (xy_of (point_at m.points k)) ≡ true) where
  -- every vertex of a list lies within
  abbrev Inside : List Vec2 → Type 0
  Inside l = All (λ (v : Vec2). xy_within v ≡ true) l

  face-within : (l : List Vec2) (f : ℕ) → Inside l → Inside (add_vertices m l f)
  unfolding add_vertices add_vertex
  face-within l f h = foldl-keeps Inside (add_vertex m) l (face_at m.faces f).vertices h (λ l k g. all-add_new (λ (v : Vec2). xy_within v ≡ true) alike l (xy_of (point_at m.points k)) g (w k))

  polygon-within : (c : Cell) → all_of xy_within (polygon_of m c) ≡ true
  unfolding polygon_of sort fold
  polygon-within c =
      let vertices : Inside (cell_vertices m c) = unfold cell_vertices in foldl-keeps Inside (add_vertices m) [] c.faces tt face-within in
      each_all xy_within (sort (turns_about c.centre) (cell_vertices m c)) (sorted [] (cell_vertices m c) tt vertices)
    where
      sorted : (s l : List Vec2) → Inside s → Inside l → Inside (fold (insert_before (turns_about c.centre)) s l)
      sorted s [] h g = h
      sorted s (a ∷ l) h g = sorted (insert_before (turns_about c.centre) s a) l (all_insert (λ (v : Vec2). xy_within v ≡ true) (turns_about c.centre) s a g.0 h) g.1

  listed-within : (g : Grid) (l : List Cell) → All (λ (c : CellPolygon). all_of xy_within c.polygon ≡ true) (map (listed_in g) (map (polygon_of m) l))
  unfolding listed_in
  listed-within g [] = tt
  listed-within g (c ∷ l) = (polygon-within c, listed-within g l)

  pub field-within : (f : StreamlineField) → field_of m ≡ Ok f → vertices_within f ≡ true
  unfolding field_of vertices_within polygons_of
  field-within f e =
      let b = bound _ _ _ e in
      let s : record { polygons = map (listed_in b.value) (map (polygon_of m) m.cells); cells = m.cells; grid = b.value; search = Bins; zones = []; home = 0 } ≡ f = fine-same b.then in
      subst (λ (f : StreamlineField). all_of (λ (c : CellPolygon). all_of xy_within c.polygon) f.polygons ≡ true) s
      (each_all (λ (c : CellPolygon). all_of xy_within c.polygon) (map (listed_in b.value) (map (polygon_of m) m.cells)) (listed-within b.value m.cells))
