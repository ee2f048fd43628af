-- A polygon that contains a point has the point's bin of the index among those that its limits meet, so a cell that the index does not list there does
-- not contain the point. Assumes nothing.
use Prim.Native.Nat.{ℕ, ◌+◌, ◌≤◌, ◌<◌}
use native.Mathlib.Omega.{arith}
use mathlib.Core.Path.{◌≡◌, refl, sym, ◌∙◌}
use mathlib.Core.Bool.{Bool, true, false, cond, false≢true}
use mathlib.Core.List.{List}
use lib.Dec.{ltb}
use lib.Ieee.{Float, nan, inf, fin, add, round, lt, le, eq, is_nan, of_bits, of_int, to_unsigned}
use borrow.Author.Tests.{le-leb, lt-ltb, le-ltb, ltb-true}
use Rattle.arith.specs.Limits.{most_bins}
use Rattle.arith.specs.F64.{◌⊕◌, ◌≺◌, ◌≼◌, 0·5, finite, ofℕ, floorℕ}
use Rattle.arith.specs.declared.Vec2.{Vec2}
use Rattle.arith.proofs.Floats.{nan-only}
use Rattle.mesh_area.specs.declared.Sizes.{Sizes}
use Rattle.mesh_area.specs.Layout.{words_end}
use Rattle.lines_bins.specs.Index.{reaches, in_bin}
use Rattle.lines_polygon.specs.declared.Limits.{Limits}
use Rattle.lines_polygon.specs.Contains.{contains}
use Rattle.lines_polygon.specs.Extent.{LimitsHold}
use Rattle.lines_polygon.proofs.CrossLaws.{nought}
use Rattle.lines_polygon.proofs.RiseLaws.{not-below, along-rises, along-nan}
use Rattle.lines_locate.specs.declared.Bin.{Bin}
use Rattle.lines_locate.specs.declared.Grid.{Grid}
use Rattle.lines_locate.specs.declared.Search.{Search}
use Rattle.lines_locate.specs.Locate.{holds}
use Rattle.lines_locate.specs.Layout.{polygon_in, cell_polygon_in}
use Rattle.lines_locate.specs.Ranges.{index_at, index_along, index_bin, first_bin, last_bin, Ranged}
use Rattle.lines_locate.specs.Ensures.{HasBins, LocateCellEntry}
use Rattle.lines_locate.proofs.IndexRises.{index-at-rises}
use Rattle.lines_locate.proofs.LocateLaws.{not-held}

finite-real : (x : Float) → finite x ≡ true → is_nan x ≡ false
unfolding is_nan finite
finite-real nan f = absurd (false≢true f)
finite-real (inf s) f = refl
finite-real (fin s m e) f = refl

most-nan : (x : Float) → (x ≼ nan) ≡ false
unfolding le lt eq
most-nan nan = refl
most-nan (inf true) = refl
most-nan (inf false) = refl
most-nan (fin s m e) = refl

-- ---- the bin rises with the place

module _ (n : ℕ) (w : Float) (k : ℕ) (e : k ≡ floorℕ w) where
  pub index-half : k < n → (ofℕ k ⊕ 0·5 ≼ w) ≡ true → k + 1 ≡ index_at n w
  unfolding index_at
  index-half h t = rw (← e, lt-ltb k n h, t)

  pub index-whole : k < n → (ofℕ k ⊕ 0·5 ≼ w) ≡ false → k ≡ index_at n w
  unfolding index_at
  index-whole h t = rw (← e, lt-ltb k n h, t)

  pub index-last : n ≤ k → n ≡ index_at n w
  unfolding index_at
  index-last h = rw (← e, le-ltb k n h)

index-at-low : (n : ℕ) (x : Float) → 0 < n → floorℕ x ≡ 0 → (ofℕ 0 ⊕ 0·5 ≼ x) ≡ false → index_at n x ≡ 0
unfolding index_at
index-at-low n x s e h = rw (e, lt-ltb 0 n s, h)

nan-low : (n : ℕ) → 0 < n → index_at n nan ≡ 0
nan-low n s = index-at-low n nan s (unfold to_unsigned in refl) (most-nan (ofℕ 0 ⊕ 0·5))

zero-low : (n : ℕ) → 0 < n → index_at n nought ≡ 0
zero-low n s = index-at-low n nought s (unfold to_unsigned in refl) (unfold le lt eq add of_int round of_bits in refl)

-- ---- one way

module _ (low high : Float) (n : ℕ) (some : 0 < n) (few : n ≤ most_bins) (f : finite low ≡ true) (w : (low ≺ high) ≡ true) where
  index-rises : (a b : Float) → (a ≼ b) ≡ true → index_along low high n a ≤ index_along low high n b
  unfolding index_along
  index-rises a b h = along-rises n few (index_at n) (index-at-rises n) (nan-low n some) (zero-low n some) low high f w a b h

  index-nan : (b : Float) → index_along low high n nan ≤ index_along low high n b
  unfolding index_along
  index-nan b = let e = along-nan n few (index_at n) (index-at-rises n) (nan-low n some) (zero-low n some) low high in omega (arith, e)

  -- a limit that a is not below, and one that is not below a
  index-from : (l a : Float) → finite a ≡ true → (a ≺ l) ≡ false → index_along low high n l ≤ index_along low high n a
  index-from l a fa h = by (is_nan l) refl
    where
      by : (t : Bool) → is_nan l ≡ t → index_along low high n l ≤ index_along low high n a
      by true e = rw (nan-only l e) (index-nan a)
      by false e = index-rises l a (not-below a l (finite-real a fa) e h)

  index-to : (l a : Float) → finite a ≡ true → is_nan l ≡ false → (l ≺ a) ≡ false → index_along low high n a ≤ index_along low high n l
  index-to l a fa e h = index-rises a l (not-below l a e (finite-real a fa) h)

-- ---- both ways

at_low : (n : ℕ) (w : Float) → index_at n w < n + 1
unfolding index_at
at_low n w = by (ltb (floorℕ w) n) refl (ofℕ (floorℕ w) ⊕ 0·5 ≼ w)
  where
    by : (t : Bool) → ltb (floorℕ w) n ≡ t → (u : Bool) → cond t (cond u (floorℕ w + 1) (floorℕ w)) n < n + 1
    by true e true = let k = ltb-true (floorℕ w) n e in omega arith
    by true e false = let k = ltb-true (floorℕ w) n e in omega arith
    by false e u = omega arith

pub index-low : (g : Grid) (p : Vec2) → ((index_bin g p).x < g.bins.x + 1) × ((index_bin g p).y < g.bins.y + 1)
unfolding index_bin index_along
index-low g p = (at_low g.bins.x _, at_low g.bins.y _)

module _ (g : Grid) (b : HasBins g) (polygon : List Vec2) (l : Limits) (o : LimitsHold polygon l) (words : List ℕ) (base i : ℕ) (r : Ranged g l words base i)
    (q : Vec2) (fx : finite q.x ≡ true) (fy : finite q.y ≡ true) where
  module _ (c : contains q polygon ≡ true) where
    not-out : (t : Bool) → (t ≡ true → contains q polygon ≡ false) → t ≡ false
    not-out true h = absurd (false≢true (sym (h refl) ∙ c))
    not-out false h = refl

    from-x : (first_bin g l).x ≤ (index_bin g q).x
    unfolding first_bin index_bin
    from-x = index-from g.bounds.left g.bounds.right g.bins.x b.wide b.few-wide b.spread.left b.spread.wide l.left q.x fx (not-out (q.x ≺ l.left) (o.before q))

    to-x : (index_bin g q).x ≤ (last_bin g l).x
    unfolding last_bin index_bin
    to-x = index-to g.bounds.left g.bounds.right g.bins.x b.wide b.few-wide b.spread.left b.spread.wide l.right q.x fx o.right-real (not-out (l.right ≺ q.x) (o.beyond q))

    from-y : (first_bin g l).y ≤ (index_bin g q).y
    unfolding first_bin index_bin
    from-y = index-from g.bounds.bottom g.bounds.top g.bins.y b.high b.few-high b.spread.bottom b.spread.high l.low q.y fy (not-out (q.y ≺ l.low) (o.below q))

    to-y : (index_bin g q).y ≤ (last_bin g l).y
    unfolding last_bin index_bin
    to-y = index-to g.bounds.bottom g.bounds.top g.bins.y b.high b.few-high b.spread.bottom b.spread.high l.high q.y fy o.high-real (not-out (l.high ≺ q.y) (o.above q))

    listed : in_bin words base (index_bin g q).x (index_bin g q).y i ≡ true
    unfolding in_bin reaches
    listed = rw (r.first-x, r.first-y, r.last-x, r.last-y, le-leb _ _ from-x, le-leb _ _ to-x, le-leb _ _ from-y, le-leb _ _ to-y)

  -- what the search passes over
  unlisted : in_bin words base (index_bin g q).x (index_bin g q).y i ≡ false → contains q polygon ≡ false
  unlisted e = by (contains q polygon) refl
    where
      by : (t : Bool) → contains q polygon ≡ t → t ≡ false
      by true c = sym (listed c) ∙ e
      by false c = refl

pub passed_over : (g : Grid) (s : Sizes) (w : List ℕ) (f : List Float) (search : Search) (b : Bin) (q : Vec2) → LocateCellEntry g s w f → finite q.x ≡ true → finite q.y ≡ true
    → (i : ℕ) → i < s.cells → in_bin w (words_end s) (index_bin g q).x (index_bin g q).y i ≡ false → holds search b q (cell_polygon_in s w f i) ≡ false
passed_over g s w f search b q en fx fy i h e =
    not-held s w f i search b q (contains q (polygon_in s w f i)) refl
    (unlisted g en.binned (polygon_in s w f i) _ (en.limits.each i h) w (words_end s) i (en.ranges.each i h) q fx fy e)
