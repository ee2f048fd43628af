-- The ranges that the cells are listed with, of which the index of the bins is built. Assumes nothing.
use Prim.Native.Nat.{ℕ, ◌+◌, ◌*◌, ◌≤◌, ◌<◌}
use native.Mathlib.Nat.{mul-le-mul}
use native.Mathlib.Omega.{arith}
use mathlib.Core.Path.{◌≡◌, sym, ap, ◌∙◌}
use mathlib.Core.List.{List, map}
use lib.ListN.{get_or, take}
use lib.Seq.{take-take}
use lib.Ieee.{Float}
use Rattle.arith.proofs.RecordLaws.{tab-same, get_or-tab}
use Rattle.mesh_area.specs.declared.Sizes.{Sizes}
use Rattle.mesh_area.specs.Layout.{words_end, LentWords}
use Rattle.lines_bins.specs.Index.{range_word}
use Rattle.lines_bins.specs.Ensures.{BinRanges, BuildExit}
use Rattle.lines_bins.proofs.Laws.{bin-low}
use Rattle.lines_locate.specs.declared.Grid.{Grid}
use Rattle.lines_locate.specs.Bins.{CellPolygon}
use Rattle.lines_locate.specs.Ranges.{last_bin}
use Rattle.lines_locate.specs.Ensures.{HasBins, HasLimits, LocateCellEntry}
use Rattle.lines_field.specs.Bins.{listed_in}
use Rattle.lines_polygon.specs.Extent.{limits_from}
use Rattle.lines_locate.specs.Layout.{floats_at, polygon_in, cell_polygon_in, cell_polygons_in}
use Rattle.lines_field.specs.Ensures.{polygons_in, ListCellsExit}
use Rattle.lines_field.proofs.LimitLaws.{limited-words}
use Rattle.lines_field.proofs.GridLaws.{cell_polygon-same, ranged-same, map-tab}
use Rattle.lines_locate.proofs.RangeLaws.{index-low}

-- ---- the ranges

mul-some : (a b : ℕ) → 0 < a → 0 < b → 0 < a * b
mul-some a b ha hb = let l = bin-low a b 0 0 ha hb in omega arith

module _ (g : Grid) (s : Sizes) (w w' : List ℕ) (f : List Float) (l : ListCellsExit g s w w' f) (binned : HasBins g) where
  listed_at : (i : ℕ) → i < s.cells → cell_polygon_in s w' f i ≡ listed_in g (polygon_in s w f i)
  unfolding cell_polygons_in polygons_in
  listed_at i h =
      sym (get_or-tab (cell_polygon_in s w' f) s.cells i (cell_polygon_in s w' f i) h)
      ∙ ap (λ (k : List CellPolygon). get_or k i (cell_polygon_in s w' f i)) (l.polygons ∙ map-tab (listed_in g) (polygon_in s w f) s.cells)
      ∙ get_or-tab (λ j. listed_in g (polygon_in s w f j)) s.cells i (cell_polygon_in s w' f i) h

  polygon-then : (i : ℕ) → i < s.cells → polygon_in s w' f i ≡ polygon_in s w f i
  polygon-then i h = (unfold cell_polygon_in listed_in in ap (λ (c : CellPolygon). c.polygon) (listed_at i h))

  last-x : (i : ℕ) → i < s.cells → range_word w' (words_end s) i 2 < g.bins.x + 1
  last-x i h = rw (l.ranges.each i h).last-x (unfold last_bin in (index-low g _).0)

  last-y : (i : ℕ) → i < s.cells → range_word w' (words_end s) i 3 < g.bins.y + 1
  last-y i h = rw (l.ranges.each i h).last-y (unfold last_bin in (index-low g _).1)

  pub ranged : LentWords s w' → BinRanges w' (words_end s) s.cells (g.bins.x + 1) (g.bins.y + 1)
  ranged lent =
      record {
        some = mul-some (g.bins.x + 1) (g.bins.y + 1) (omega arith) (omega arith);
        room = let k = lent.long in omega arith;
        few = lent.few-cells;
        low = let a = lent.few-slots in let c = lent.few-cells in omega arith;
        wide = last-x;
        high = last-y;
      }

  pub indexed-cells : (w'' : List ℕ) → BuildExit w' w'' (words_end s) s.cells (g.bins.x + 1) (g.bins.y + 1) → HasLimits s w f
      → (cell_polygons_in s w'' f ≡ map (listed_in g) (polygons_in s w f)) × (take (words_end s) w'' ≡ take (words_end s) w) × LocateCellEntry g s w'' f
  indexed-cells w'' bu lim = (
    kept ∙ l.polygons,
    take_less w'' w' bu.cells ∙ l.mesh,
    record {
      binned = binned;
      index = λ some e. bu.index e;
      limits = limited-words s w w'' f (λ i h. polygon-now i h ∙ polygon-then i h) lim;
      ranges = record { each = λ i h. ranged-same s w' w'' f g (limits_from f (floats_at s i + 48)) s.cells i bu.cells h (l.ranges.each i h) };
    },
  )
    where
      polygon-now : (i : ℕ) → i < s.cells → polygon_in s w'' f i ≡ polygon_in s w' f i
      polygon-now i h =
          (unfold cell_polygon_in in ap (λ (c : CellPolygon). c.polygon) (cell_polygon-same s w' w'' f s.cells i bu.cells h))

      kept : cell_polygons_in s w'' f ≡ cell_polygons_in s w' f
      kept = unfold cell_polygons_in in tab-same (cell_polygon_in s w'' f) (cell_polygon_in s w' f) s.cells (λ j h. cell_polygon-same s w' w'' f s.cells j bu.cells h)

      take_less : (a b : List ℕ) → take (words_end s + 8 * s.cells) a ≡ take (words_end s + 8 * s.cells) b → take (words_end s) a ≡ take (words_end s) b
      take_less a b e =
          let less : words_end s ≤ words_end s + 8 * s.cells = omega arith in
          sym (take-take (words_end s) (words_end s + 8 * s.cells) a less) ∙ ap (take (words_end s)) e ∙ take-take (words_end s) (words_end s + 8 * s.cells) b less

  pub none-indexed : s.cells ≤ 0 → HasLimits s w f
      → (cell_polygons_in s w' f ≡ map (listed_in g) (polygons_in s w f)) × (take (words_end s) w' ≡ take (words_end s) w) × LocateCellEntry g s w' f
  none-indexed few lim = (
    l.polygons,
    l.mesh,
    record { binned = binned; index = λ some e. absurd (omega arith); limits = limited-words s w w' f polygon-then lim; ranges = l.ranges },
  )

-- the bins of the index are not too many to count
pub bins-count : (g : Grid) → HasBins g → (g.bins.x + 1) * (g.bins.y + 1) < 18446744073709551616
bins-count g b =
    let x : g.bins.x + 1 ≤ 65537 = (let k = b.few-wide in omega arith) in
    let y : g.bins.y + 1 ≤ 65537 = (let k = b.few-high in omega arith) in
    let m = mul-le-mul x y in
    omega arith
