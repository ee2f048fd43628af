-- A cell that was found is one of the cells, and the point is not outside of it. Assumes nothing.
use Prim.Native.Nat.{ℕ, suc, ◌+◌, ◌<◌}
use native.Mathlib.Omega.{arith}
use mathlib.Core.Path.{◌≡◌, refl, sym, ap, ◌∙◌}
use mathlib.Core.Bool.{Bool, true, false, ◌&&◌}
use mathlib.Core.List.{List, [], ◌∷◌}
use lib.ListN.{length, get_or}
use lib.Ieee.{Float}
use Rattle.arith.specs.F64.{finite}
use Rattle.arith.specs.Lists.{first_from}
use Rattle.arith.specs.declared.Vec2.{Vec2}
use Rattle.arith.specs.declared.Vec3.{Vec3}
use Rattle.mesh_area.specs.declared.Sizes.{Sizes}
use Rattle.lines_polygon.specs.declared.Position.{Position}
use Rattle.lines_polygon.specs.Contains.{position, is_within, contains}
use Rattle.lines_polygon.proofs.LimitLaws.{both}
use Rattle.lines_locate.specs.declared.Bin.{Bin}
use Rattle.lines_locate.specs.declared.Grid.{Grid}
use Rattle.lines_locate.specs.declared.Located.{Located}
use Rattle.lines_locate.specs.declared.Search.{Search}
use Rattle.lines_locate.specs.declared.Search.TheVariants.{Bins}
use Rattle.lines_locate.specs.Bins.{CellPolygon, no_polygon, cell_polygon_at, bin_for}
use Rattle.lines_locate.specs.Layout.{polygon_in, cell_polygon_in, cell_polygons_in}
use Rattle.lines_locate.specs.Locate.{is_found, xy_of, is_searched, holds, locate_where, locate, position_in, with_position, located, FoundWithin, AtOrBelow}
use Rattle.lines_locate.specs.Ensures.{first_holding, nowhere}
use Rattle.lines_locate.proofs.LocateLaws.{cell_polygon-at}
use Rattle.lines_locate.proofs.SearchLaws.{bins-bettered}
use Rattle.std.specs.Prelude.{Some, None}
use Rattle.std.specs.declared.option.Option.{Option}

nothing-found : {i : ℕ} → None ≡ Some i → ⊥
nothing-found e = let z : ◌≡◌ {A = ℕ} 0 1 = cc in omega arith

-- the element that was found is in the list, and passes the test
module _ {A : Type 0} (p : A → Bool) (d : A) (i : ℕ) (G : Type 0) where
  passed : (l : List A) (k : ℕ) → first_from p k l ≡ Some i → ((j : ℕ) → i ≡ k + j → j < length l → p (get_or l j d) ≡ true → G) → G
  unfolding first_from
  passed [] k e then = absurd (nothing-found e)
  passed (a ∷ l) k e then = by (p a) refl e (λ f. passed l (suc k) f (λ j m h t. then (suc j) (omega arith) (omega arith) t))
    where
      by : (t : Bool) → p a ≡ t → elim t as (λ _. Option ℕ) [ true ↦ Some k | false ↦ first_from p (suc k) l ] ≡ Some i → (first_from p (suc k) l ≡ Some i → G) → G
      by true h f g = let same : i ≡ k = cc in then 0 (omega arith) (omega arith) h
      by false h f g = g f

pub found_at : (search : Search) (g : Grid) (cells : List CellPolygon) (p : Vec3) (i : ℕ) → locate search g cells p ≡ Some i
    → (i < length cells) × (contains (xy_of p) (cell_polygon_at cells i).polygon ≡ true)
unfolding locate locate_where cell_polygon_at holds
found_at search g cells p i e = by (finite p.x && finite p.y) e
  where
    by : (t : Bool) → locate_where t search g cells (xy_of p) ≡ Some i → (i < length cells) × (contains (xy_of p) (cell_polygon_at cells i).polygon ≡ true)
    by false k = absurd (nothing-found {i = i} k)
    by true k =
        passed (holds search (bin_for g (xy_of p)) (xy_of p)) no_polygon i _ cells 0 k
        (λ j m h t.
        let same : j ≡ i = omega arith in
        let k = both (is_searched search (bin_for g (xy_of p)) (get_or cells j no_polygon)) (contains (xy_of p) (get_or cells j no_polygon).polygon) t in
        (rw same at h, rw same at k.1))

pub found-finite : (search : Search) (g : Grid) (cells : List CellPolygon) (p : Vec3) (i : ℕ) → locate search g cells p ≡ Some i → (finite p.x ≡ true) × (finite p.y ≡ true)
unfolding locate locate_where
found-finite search g cells p i e = both (finite p.x) (finite p.y) (by (finite p.x && finite p.y) e)
  where
    by : (t : Bool) → locate_where t search g cells (xy_of p) ≡ Some i → t ≡ true
    by false k = absurd (nothing-found {i = i} k)
    by true k = refl

-- ---- the cell betters the bins

located-below : (search : Search) (g : Grid) (cells : List CellPolygon) (p : Vec3) → AtOrBelow (located search g cells p).cell (locate Bins g cells p)
unfolding located with_position
located-below search g cells p = bins-bettered search g cells p

-- ---- a cell was found exactly where the point is not outside

pub located-within : (search : Search) (g : Grid) (cells : List CellPolygon) (p : Vec3) → FoundWithin (located search g cells p)
unfolding FoundWithin located with_position position_in is_found contains is_within
located-within search g cells p = by (locate search g cells p) refl
  where
    by : (found : Option ℕ) → locate search g cells p ≡ found → is_found found ≡ is_within (position_in cells (xy_of p) found)
    by (Some i) e = sym (found_at search g cells p i e).1
    by None e = refl

-- ---- one turn: the cell that holds the point, and where the point lies to it

module _ (s : Sizes) (w : List ℕ) (f : List Float) (i : ℕ) (search : Search) (b : Bin) (q : Vec2) (t : Bool) (et : (floats : List Float) → t ≡ is_searched search b (cell_polygon_in s w floats i)) where
  pub not-searched : t ≡ false → holds search b q (cell_polygon_in s w f i) ≡ false
  unfolding holds
  not-searched e = rw (sym (et f) ∙ e)

  pub held : t ≡ true → (r : Position) (u : Bool) → r ≡ position q (polygon_in s w f i) → u ≡ is_within r → u ≡ holds search b q (cell_polygon_in s w f i)
  unfolding holds contains
  held e r u er eu =
      let same : r ≡ position q (cell_polygon_in s w f i).polygon = (unfold cell_polygon_in in er) in
      rw (sym (et f) ∙ e) (eu ∙ ap is_within same)

module _ (s : Sizes) (w : List ℕ) (f : List Float) (search : Search) (b : Bin) (q : Vec2) where
  pub held-here : (i : ℕ) (r : Position) → i < s.cells → Some i ≡ first_from (holds search b q) 0 (cell_polygons_in s w f) → r ≡ position q (polygon_in s w f i)
      → record { cell = Some i; position = r } ≡ first_holding search b q (cell_polygons_in s w f)
  unfolding first_holding with_position position_in cell_polygon_at
  held-here i r l e h =
      let there : get_or (cell_polygons_in s w f) i no_polygon ≡ cell_polygon_in s w f i = cell_polygon-at s w f i no_polygon l in
      let same : r ≡ position q (cell_polygon_in s w f i).polygon = (unfold cell_polygon_in in h) in
      rw (sym e, there, same)

  pub held-nowhere : (r : Located) → r ≡ nowhere → None ≡ first_from (holds search b q) 0 (cell_polygons_in s w f) → r ≡ first_holding search b q (cell_polygons_in s w f)
  unfolding first_holding with_position position_in nowhere
  held-nowhere r h e = rw (sym e, h)

-- ---- the point's coordinates are finite, or it locates nowhere

module _ (search : Search) (g : Grid) (cells : List CellPolygon) (p : Vec3) (r : Located) (t u : Bool) (et : t ≡ finite p.x) (eu : u ≡ finite p.y) where
  abbrev pub Answer : Type 0
  Answer = (r ≡ located search g cells p) × (AtOrBelow r.cell (locate Bins g cells p) × FoundWithin r)

  answered : r ≡ located search g cells p → Answer
  answered e = (e, (rw e (located-below search g cells p), rw e (located-within search g cells p)))

  pub found : t ≡ true → u ≡ true → r ≡ first_holding search (bin_for g (xy_of p)) (xy_of p) cells → Answer
  unfolding located locate locate_where first_holding
  found a b e = answered (rw (sym et ∙ a, sym eu ∙ b) e)

  pub first-not : t ≡ false → r ≡ nowhere → Answer
  unfolding located locate locate_where nowhere with_position position_in
  first-not a e = answered (rw (sym et ∙ a) e)

  pub second-not : t ≡ true → u ≡ false → r ≡ nowhere → Answer
  unfolding located locate locate_where nowhere with_position position_in
  second-not a b e = answered (rw (sym et ∙ a, sym eu ∙ b) e)
