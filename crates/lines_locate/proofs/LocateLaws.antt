-- One turn of the loop over the cells, and a cell that a point lies outside of by its limits. Assumes nothing.
use Prim.Native.Nat.{ℕ, ◌+◌, ◌≤◌, ◌<◌}
use mathlib.Core.Path.{◌≡◌, refl, sym, ◌∙◌}
use mathlib.Core.Bool.{Bool, true, false, not, ◌&&◌, true≢false}
use mathlib.Core.List.{List, []}
use lib.ListN.{length, get_or, drop}
use lib.Ieee.{Float}
use Rattle.arith.specs.Lists.{first_from}
use Rattle.arith.specs.declared.Vec2.{Vec2}
use Rattle.arith.proofs.ListLaws.{first-here, first_next}
use Rattle.arith.proofs.RecordLaws.{length-tab, get_or-tab, drop-end}
use Rattle.mesh_area.specs.declared.Sizes.{Sizes}
use Rattle.lines_locate.specs.declared.Bin.{Bin}
use Rattle.lines_locate.specs.declared.Search.{Search}
use Rattle.lines_locate.specs.Bins.{CellPolygon}
use Rattle.lines_locate.specs.Locate.{is_searched, holds}
use Rattle.lines_polygon.specs.declared.Position.{Position}
use Rattle.lines_polygon.specs.Contains.{position, contains}
use Rattle.lines_polygon.specs.Vertices.{pairs_from}
use Rattle.lines_polygon.specs.Extent.{limits_from, misses}
use Rattle.lines_polygon.proofs.LimitLaws.{missed}
use Rattle.lines_locate.specs.Layout.{floats_at, count_in, polygon_in, cell_polygon_in, cell_polygons_in}
use Rattle.lines_locate.specs.Ensures.{HasLimits}
use Rattle.std.specs.Prelude.{Some, None}
use Rattle.std.specs.declared.option.Option.{Option}

module _ (s : Sizes) (words : List ℕ) (floats : List Float) where
  pub length-cell_polygons : length (cell_polygons_in s words floats) ≡ s.cells
  unfolding cell_polygons_in
  length-cell_polygons = length-tab (cell_polygon_in s words floats) s.cells

  pub cell_polygon-at : (i : ℕ) (d : CellPolygon) → i < s.cells → get_or (cell_polygons_in s words floats) i d ≡ cell_polygon_in s words floats i
  unfolding cell_polygons_in
  cell_polygon-at i d h = get_or-tab (cell_polygon_in s words floats) s.cells i d h

  module _ (h : CellPolygon → Bool) (i : ℕ) (r : Option ℕ) (inv : first_from h i (drop i (cell_polygons_in s words floats)) ≡ r) where
    in-range : i < s.cells → i < length (cell_polygons_in s words floats)
    in-range l = rw length-cell_polygons l

    pub locate-here : (t : Bool) → i < s.cells → t ≡ h (cell_polygon_in s words floats i) → t ≡ true → Some i ≡ r
    locate-here t l e w =
        sym (first-here (cell_polygons_in s words floats) i (cell_polygon_in s words floats i) (in-range l) h (rw (cell_polygon-at i (cell_polygon_in s words floats i) l) (sym e ∙ w))) ∙ inv

    pub locate-next : (t : Bool) → i < s.cells → t ≡ h (cell_polygon_in s words floats i) → t ≡ false
        → first_from h (i + 1) (drop (i + 1) (cell_polygons_in s words floats)) ≡ r
    locate-next t l e w =
        sym (first_next (cell_polygons_in s words floats) i (cell_polygon_in s words floats i) (in-range l) h (rw (cell_polygon-at i (cell_polygon_in s words floats i) l) (sym e ∙ w))) ∙ inv

    pub locate-end : s.cells ≤ i → None ≡ r
    unfolding first_from
    locate-end l =
        let none : drop i (cell_polygons_in s words floats) ≡ [] = drop-end (cell_polygons_in s words floats) i (rw length-cell_polygons l) in
        rw none at inv

-- ---- the test of a cell is over its vertices

pub test_of : (s : Sizes) (w : List ℕ) (f : List Float) (i : ℕ) (q : Vec2) (n at : ℕ) (r : Position) → n ≡ count_in s w i → at ≡ floats_at s i → r ≡ position q (pairs_from f at n)
    → r ≡ position q (polygon_in s w f i)
unfolding polygon_in
test_of s w f i q n at r en ea e = rw (sym en, sym ea) e

-- ---- a cell that does not hold the point

not-both : (a b : Bool) → b ≡ false → a && b ≡ false
not-both true b e = e
not-both false b e = refl

module _ (s : Sizes) (w : List ℕ) (f : List Float) (i : ℕ) (search : Search) (b : Bin) (q : Vec2) where
  pub not-held : (t : Bool) → t ≡ contains q (polygon_in s w f i) → t ≡ false → holds search b q (cell_polygon_in s w f i) ≡ false
  unfolding holds
  not-held t et e =
      let k : contains q (cell_polygon_in s w f i).polygon ≡ false = (unfold cell_polygon_in in (sym et ∙ e)) in
      not-both (is_searched search b (cell_polygon_in s w f i)) (contains q (cell_polygon_in s w f i).polygon) k

  -- a point that lies outside of the cell's limits
  pub missed-cell : (t : Bool) → HasLimits s w f → i < s.cells → t ≡ not (misses (limits_from f (floats_at s i + 48)) q) → t ≡ false → holds search b q (cell_polygon_in s w f i) ≡ false
  missed-cell t lim h et e =
      not-held (contains q (polygon_in s w f i)) refl (missed (polygon_in s w f i) (limits_from f (floats_at s i + 48)) q (lim.each i h) (misses (limits_from f (floats_at s i + 48)) q) refl (out _ (sym et ∙ e)))
    where
      out : (u : Bool) → not u ≡ false → u ≡ true
      out true k = refl
      out false k = absurd (true≢false k)
