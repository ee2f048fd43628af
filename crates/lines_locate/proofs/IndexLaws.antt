-- One turn along a chain of the index. Assumes nothing.
use Prim.Native.Nat.{ℕ, zero, suc, ◌+◌, ◌-◌, ◌*◌, ◌≤◌, ◌<◌}
use native.Mathlib.Nat.{le_refl}
use native.Mathlib.Omega.{arith}
use mathlib.Core.Path.{◌≡◌, refl, sym, ◌∙◌, subst}
use mathlib.Core.Bool.{Bool, true, false}
use mathlib.Core.List.{List}
use lib.ListN.{drop}
use lib.Dec.{eqb}
use borrow.Author.Tests.{eqb-true}
use lib.Ieee.{Float}
use Rattle.arith.specs.Lists.{first_from}
use Rattle.mesh_area.specs.declared.Sizes.{Sizes}
use Rattle.mesh_area.specs.Layout.{words_end}
use Rattle.lines_bins.specs.Index.{in_bin, pool_in, head_in, Chain}
use Rattle.lines_bins.specs.Ensures.{BinIndex}
use Rattle.lines_bins.proofs.Laws.{Opened, opened, closed, bin-low}
use Rattle.lines_locate.specs.declared.Bin.{Bin}
use Rattle.lines_locate.specs.Bins.{CellPolygon}
use Rattle.lines_locate.specs.Layout.{cell_polygon_in, cell_polygons_in}
use Rattle.lines_locate.proofs.LocateLaws.{locate-here, locate-next, locate-end}
use Rattle.std.specs.Prelude.{Some, None}
use Rattle.std.specs.declared.option.Option.{Option}

-- ---- along the chain of a bin, of which the cells that it does not list fail a test

module _ (s : Sizes) (w : List ℕ) (f : List Float) (p : CellPolygon → Bool) (c : Bin)
    (out : (j : ℕ) → j < s.cells → in_bin w (words_end s) c.x c.y j ≡ false → p (cell_polygon_in s w f j) ≡ false) where
  -- past cells that are not listed
  past : (d i : ℕ) (r : Option ℕ) → first_from p i (drop i (cell_polygons_in s w f)) ≡ r → i + d ≤ s.cells → ((j : ℕ) → i ≤ j → j < i + d → in_bin w (words_end s) c.x c.y j ≡ false)
      → first_from p (i + d) (drop (i + d) (cell_polygons_in s w f)) ≡ r
  past zero i r inv le off = let e : i + 0 ≡ i = omega arith in rw e inv
  past (suc d) i r inv le off =
      let e : i + suc d ≡ i + 1 + d = omega arith in
      let on = locate-next s w f p i r inv _ (omega arith) refl (out i (omega arith) (off i (le_refl i) (omega arith))) in
      rw e (past d (i + 1) r on (omega arith) (λ j l h. off j (omega arith) (omega arith)))

  past_to : (i k : ℕ) (r : Option ℕ) → first_from p i (drop i (cell_polygons_in s w f)) ≡ r → i ≤ k → k ≤ s.cells → ((j : ℕ) → i ≤ j → j < k → in_bin w (words_end s) c.x c.y j ≡ false)
      → first_from p k (drop k (cell_polygons_in s w f)) ≡ r
  past_to i k r inv le hi off =
      let e : i + (k - i) ≡ k = omega arith in
      subst (λ (m : ℕ). first_from p m (drop m (cell_polygons_in s w f)) ≡ r) e (past (k - i) i r inv (omega arith) (λ j l h. off j l (omega arith)))

-- node h of a chain: what is left of the search starts at a cell
pub record Going (s : Sizes) (w : List ℕ) (f : List Float) (p : CellPolygon → Bool) (h : ℕ) : Type 0 where
  pub bins : Bin
  pub bin : Bin
  pub some : 0 < bins.x * bins.y
  pub out : (j : ℕ) → j < s.cells → in_bin w (words_end s) bin.x bin.y j ≡ false → p (cell_polygon_in s w f j) ≡ false
  pub at : ℕ
  pub top : ℕ
  pub chain : Chain w (words_end s) (bins.x * bins.y) top (in_bin w (words_end s) bin.x bin.y) s.cells at h
  pub fits : top ≤ 72 * s.cells
  pub below : at ≤ s.cells
  pub same : first_from p at (drop at (cell_polygons_in s w f)) ≡ first_from p 0 (cell_polygons_in s w f)

pub go-start : (s : Sizes) (w : List ℕ) (f : List Float) (p : CellPolygon → Bool) (n c : Bin) (h : ℕ) → BinIndex w (words_end s) s.cells n.x n.y → c.x < n.x → c.y < n.y
    → ((j : ℕ) → j < s.cells → in_bin w (words_end s) c.x c.y j ≡ false → p (cell_polygon_in s w f j) ≡ false) → h ≡ head_in w (words_end s) s.cells n.x c.x c.y → Going s w f p h
go-start s w f p n c h ix hx hy out eh =
    record {
      bins = n;
      bin = c;
      some = let l = bin-low n.x n.y c.x c.y hx hy in omega arith;
      out = out;
      at = 0;
      top = ix.top;
      chain = rw eh (ix.chains.chain c.x c.y hx hy);
      fits = ix.chains.fits;
      below = omega arith;
      same = refl;
    }

module _ (s : Sizes) (w : List ℕ) (f : List Float) (p : CellPolygon → Bool) (h : ℕ) (g : Going s w f p h) where
  abbrev past-here : (k : ℕ) → g.at ≤ k → k ≤ s.cells → ((j : ℕ) → g.at ≤ j → j < k → in_bin w (words_end s) g.bin.x g.bin.y j ≡ false)
      → first_from p k (drop k (cell_polygons_in s w f)) ≡ first_from p 0 (cell_polygons_in s w f)
  past-here k le hi off = past_to s w f p g.bin g.out g.at k _ g.same le hi off

  pub go-end : h ≡ 0 → None ≡ first_from p 0 (cell_polygons_in s w f)
  go-end z =
      locate-end s w f p s.cells _ (past-here s.cells g.below (le_refl s.cells) (closed g.some g.chain z)) (le_refl s.cells)

  module _ (nz : h ≡ 0 → ⊥) where
    o : Opened w (words_end s) (g.bins.x * g.bins.y) g.top (in_bin w (words_end s) g.bin.x g.bin.y) s.cells g.at h
    o = opened g.chain nz

    pub go-room : h + 1 < 72 * s.cells
    go-room = let a = o.high in let k = g.fits in omega arith

    pub go-less : (h' : ℕ) → h' ≡ pool_in w (words_end s) s.cells (h + 1) → h' < h
    go-less h' e = rw e o.falls

    module _ (i : ℕ) (ei : i ≡ pool_in w (words_end s) s.cells h) where
      pub go-cell : i < s.cells
      go-cell = rw ei o.low

      here : first_from p i (drop i (cell_polygons_in s w f)) ≡ first_from p 0 (cell_polygons_in s w f)
      here = let l = o.low in rw ei (past-here (pool_in w (words_end s) s.cells h) o.from (omega arith) o.gap)

      pub go-hit : (t : Bool) → t ≡ p (cell_polygon_in s w f i) → t ≡ true → Some i ≡ first_from p 0 (cell_polygons_in s w f)
      go-hit t et e = locate-here s w f p i _ here t go-cell et e

      pub go-turn : (t : Bool) (h' : ℕ) → t ≡ p (cell_polygon_in s w f i) → t ≡ false → h' ≡ pool_in w (words_end s) s.cells (h + 1) → Going s w f p h'
      go-turn t h' et e eh =
          record {
            bins = g.bins;
            bin = g.bin;
            some = g.some;
            out = g.out;
            at = i + 1;
            top = g.top;
            chain = rw (ei, eh) o.rest;
            fits = g.fits;
            below = let l = go-cell in omega arith;
            same = locate-next s w f p i _ here t go-cell et e;
          }

-- the word that says whether the index stands
pub flag-stands : (cells flag r : ℕ) → 0 < cells → r ≡ flag → eqb r 1 ≡ true → (0 < cells) × (flag ≡ 1)
flag-stands cells flag r some e q = (some, sym e ∙ eqb-true r 1 q)

pub flag_off : (cells flag : ℕ) → false ≡ true → (0 < cells) × (flag ≡ 1)
flag_off cells flag q = absurd (let z : ◌≡◌ {A = ℕ} 0 1 = cc in omega arith)
