-- The grid by cases, and one turn of the loops that bound and list the cells. Assumes nothing.
use Prim.Native.Nat.{ℕ, zero, suc, ◌+◌, ◌*◌, ◌/◌, ◌%◌, ◌≤◌, ◌<◌, min}
use native.Mathlib.Nat.{le_antisymm}
use native.Mathlib.Omega.{arith}
use mathlib.Core.Path.{◌≡◌, refl, sym, ap, ap₂, ◌∙◌, subst}
use mathlib.Core.Logic.{◌⊎◌, inl, inr}
use mathlib.Core.Bool.{Bool, true, false, not, ◌&&◌, true≢false}
use mathlib.Core.List.{List, [], ◌∷◌, ◌++◌, map, map-append}
use lib.ListN.{length, get_or, take, drop}
use lib.Seq.{take-take}
use lib.Ieee.{Float}
use borrow.Author.Tests.{lt-ltb, le-ltb}
use Rattle.arith.specs.F64.{◌≺◌, finite}
use Rattle.arith.specs.Lists.{fold, flatten}
use Rattle.arith.specs.Limits.{most_bins}
use Rattle.arith.specs.Records.{tab, puts}
use Rattle.arith.specs.declared.Vec2.{Vec2}
use Rattle.arith.proofs.ListLaws.{foldl-next}
use Rattle.arith.proofs.RecordLaws.{length-tab, get_or-tab, tab-next, tab-same, drop-tab, drop-end, same-below, lt-or-ge, get_or-puts-out, get_or-puts-at, take-puts}
use Rattle.arith.proofs.SortLaws.{foldl-append}
use Rattle.reading.specs.Result.{refuse, ◌>>=◌, Refusable}
use Rattle.mesh_area.specs.declared.Sizes.{Sizes}
use Rattle.mesh_area.specs.Layout.{words_end}
use Rattle.lines_locate.specs.declared.Box.{Box}
use Rattle.lines_locate.specs.declared.Bin.{Bin}
use Rattle.lines_locate.specs.declared.Grid.{Grid}
use Rattle.lines_field.specs.declared.BinSpan.{BinSpan}
use Rattle.lines_field.specs.Bounds.{boundless, widened, bounds_of, low_corner, high_corner}
use Rattle.lines_locate.specs.Bins.{CellPolygon, bin_for}
use Rattle.lines_locate.specs.Ranges.{first_bin, last_bin, Ranged}
use Rattle.lines_locate.specs.Ensures.{Spread, HasBins}
use Rattle.lines_field.specs.Bins.{listed_in, are_flat, are_many}
use Rattle.lines_field.specs.Field.{grid_for}
use Rattle.lines_locate.specs.Layout.{words_at, floats_at, count_in, polygon_in, bin_from, cell_polygon_in, cell_polygons_in}
use Rattle.lines_field.specs.Ensures.{polygons_in, bin_word, cell_words, SpanWithin, listed_span, ListCellExit, ListCellsExit}
use Rattle.lines_polygon.specs.declared.Limits.{Limits}
use Rattle.lines_polygon.specs.Extent.{limits_from}
use Rattle.lines_polygon.specs.Vertices.{pair_from, pairs_from}
use Rattle.lines_polygon.proofs.Laws.{length_pairs, pairs-at}
use Rattle.std.specs.Prelude.{Ok, Err}
use Rattle.refusal.specs.declared.Refusal.{Refusal}
use Rattle.refusal.specs.declared.Refusal.TheVariants.{FlatBounds, TooManyBins}

-- ---- a grid's bounds are not flat

bounds-spread : (b : Box) (n : Bin) → are_flat b ≡ false → Spread (record { bounds = b; bins = n })
unfolding are_flat
bounds-spread b n e = by (finite b.left) (finite b.bottom) (b.left ≺ b.right) (b.bottom ≺ b.top) refl refl refl refl e
  where
    by : (s t u v : Bool) → finite b.left ≡ s → finite b.bottom ≡ t → (b.left ≺ b.right) ≡ u → (b.bottom ≺ b.top) ≡ v → not (s && (t && (u && v))) ≡ false → Spread (record { bounds = b; bins = n })
    by true true true true p q r w e = record { left = p; bottom = q; wide = r; high = w }
    by false t u v p q r w e = absurd (true≢false e)
    by true false u v p q r w e = absurd (true≢false e)
    by true true false v p q r w e = absurd (true≢false e)
    by true true true false p q r w e = absurd (true≢false e)

-- ---- 18, 19, or the grid

-- what the answer says
pub Answer : Refusable Grid → Box → Bin → Type 0
Answer r b n = (r ≡ grid_for b n) × ((g : Grid) → r ≡ Ok g → HasBins g)

never : (k : Refusal) (g : Grid) → Err k ≡ Ok g → HasBins g
never k g e = absurd (let z : ◌≡◌ {A = ℕ} 0 1 = cc in omega arith)

module _ (b : Box) (n : Bin) where
  pub grid-flat : are_flat b ≡ true → ((Err FlatBounds) ≡ grid_for b n) × ((g : Grid) → Err FlatBounds ≡ Ok g → HasBins g)
  unfolding grid_for refuse ◌>>=◌
  grid-flat e = (rw e, never FlatBounds)

  pub grid-wide : are_flat b ≡ false → 65536 < n.x → ((Err TooManyBins) ≡ grid_for b n) × ((g : Grid) → Err TooManyBins ≡ Ok g → HasBins g)
  unfolding grid_for refuse ◌>>=◌ are_many
  grid-wide e h = (rw (e, lt-ltb 65536 n.x h), never TooManyBins)

  pub grid-high : are_flat b ≡ false → n.x ≤ 65536 → 65536 < n.y → ((Err TooManyBins) ≡ grid_for b n) × ((g : Grid) → Err TooManyBins ≡ Ok g → HasBins g)
  unfolding grid_for refuse ◌>>=◌ are_many
  grid-high e k h = (rw (e, le-ltb 65536 n.x k, lt-ltb 65536 n.y h), never TooManyBins)

  pub grid-made : are_flat b ≡ false → n.x ≤ 65536 → n.y ≤ 65536 → 0 < n.x → 0 < n.y
      → (◌≡◌ {A = Refusable Grid} (Ok (record { bounds = b; bins = n })) (grid_for b n)) × ((g : Grid) → ◌≡◌ {A = Refusable Grid} (Ok (record { bounds = b; bins = n })) (Ok g) → HasBins g)
  unfolding grid_for refuse ◌>>=◌ are_many
  grid-made e k h x y = (
    rw (e, le-ltb 65536 n.x k, le-ltb 65536 n.y h),
    λ g w. let i : record { bounds = b; bins = n } ≡ g = cc in rw (← i) (record { wide = x; high = y; few-wide = k; few-high = h; spread = bounds-spread b n e }),
  )

-- ---- bounds

module _ (floats : List Float) (at n k : ℕ) (b r : Box) (inv : fold widened b (drop k (pairs_from floats at n)) ≡ r) where
  pub widen-turn : k < n → (p : Vec2) (b' : Box) → p ≡ pair_from floats (at + 2 * k) → b' ≡ widened b p → fold widened b' (drop (k + 1) (pairs_from floats at n)) ≡ r
  widen-turn h p b' e w =
      let in-range : k < length (pairs_from floats at n) = rw (length_pairs floats at n) h in
      rw (w, e, ← (pairs-at floats at n k (pair_from floats 0) h)) (sym (foldl-next (pairs_from floats at n) k (pair_from floats 0) in-range widened b) ∙ inv)

  pub widen-end : n ≤ k → b ≡ r
  unfolding fold
  widen-end h =
      let none : drop k (pairs_from floats at n) ≡ [] = drop-end (pairs_from floats at n) k (rw (length_pairs floats at n) h) in
      rw none at inv

module _ (s : Sizes) (words : List ℕ) (floats : List Float) (i : ℕ) (b r : Box) (inv : fold widened b (flatten (drop i (polygons_in s words floats))) ≡ r) where
  pub bound-turn : i < s.cells → (b' : Box) (at n : ℕ) → at ≡ floats_at s i → n ≡ count_in s words i → b' ≡ fold widened b (pairs_from floats at n)
      → fold widened b' (flatten (drop (i + 1) (polygons_in s words floats))) ≡ r
  unfolding polygons_in flatten polygon_in
  bound-turn h b' at n ea en w =
      rw (w, ea, en)
      (sym (foldl-append widened b (polygon_in s words floats i) (flatten (drop (i + 1) (tab (polygon_in s words floats) s.cells))))
      ∙ rw (drop-tab (polygon_in s words floats) s.cells i h) at inv)

  pub bound-end : s.cells ≤ i → b ≡ r
  unfolding polygons_in flatten fold
  bound-end h =
      let none : drop i (tab (polygon_in s words floats) s.cells) ≡ [] = drop-end _ i (rw (length-tab (polygon_in s words floats) s.cells) h) in
      rw none at inv

-- ---- listing a cell

module _ (s : Sizes) (w w' : List ℕ) (f : List Float) where
  -- what stands before cell i's words is read as before
  pub cell_polygon-same : (i j : ℕ) → take (words_at s i) w' ≡ take (words_at s i) w → j < i → cell_polygon_in s w' f j ≡ cell_polygon_in s w f j
  unfolding cell_polygon_in polygon_in count_in bin_from
  cell_polygon-same i j e h =
      rw (
        same-below w w' (words_at s i) (words_at s j + 4) 0 e (omega arith),
        same-below w w' (words_at s i) (words_at s j + 5) 0 e (omega arith),
        same-below w w' (words_at s i) (words_at s j + 6) 0 e (omega arith),
      )

  pub ranged-same : (g : Grid) (l : Limits) (i j : ℕ) → take (words_at s i) w' ≡ take (words_at s i) w → j < i → Ranged g l w (words_end s) j → Ranged g l w' (words_end s) j
  ranged-same g l i j e h r =
      record {
        first-x = same-below w w' (words_at s i) (words_at s j + 0) 0 e (omega arith) ∙ r.first-x;
        first-y = same-below w w' (words_at s i) (words_at s j + 1) 0 e (omega arith) ∙ r.first-y;
        last-x = same-below w w' (words_at s i) (words_at s j + 2) 0 e (omega arith) ∙ r.last-x;
        last-y = same-below w w' (words_at s i) (words_at s j + 3) 0 e (omega arith) ∙ r.last-y;
      }

  pub polygon-of : (i : ℕ) → i < s.cells → polygons_in s w' f ≡ polygons_in s w f → polygon_in s w' f i ≡ polygon_in s w f i
  unfolding polygons_in
  polygon-of i h e =
      sym (get_or-tab (polygon_in s w' f) s.cells i [] h)
      ∙ ap (λ (l : List (List Vec2)). get_or l i []) e
      ∙ get_or-tab (polygon_in s w f) s.cells i [] h

-- a bin is read from its word
bin-here : (w : List ℕ) (at : ℕ) (b : Bin) → get_or w at 0 ≡ bin_word b → b.x < most_bins → bin_from w at ≡ b
unfolding bin_from bin_word
bin-here w at b e h = rw e (
    let x : (most_bins * b.y + b.x) % most_bins ≡ b.x = omega arith in
    let y : (most_bins * b.y + b.x) / most_bins ≡ b.y = omega arith in
    rw (x, y)
    )

module _ (g : Grid) (s : Sizes) (w : List ℕ) (f : List Float) (i : ℕ) (range listed : BinSpan) (room : words_at s i + 7 ≤ length w) where
  abbrev pub stored : List ℕ
  stored = puts w (words_at s i) (cell_words range (count_in s w i) listed)

  at-word : (k : ℕ) → k < 7 → get_or stored (words_at s i + k) 0 ≡ get_or (cell_words range (count_in s w i) listed) k 0
  at-word k h = get_or-puts-at w (words_at s i) (cell_words range (count_in s w i) listed) k 0 h room

  count_kept : (j : ℕ) → count_in s stored j ≡ count_in s w j
  unfolding count_in
  count_kept j = by (lt-or-ge j i)
    where
      here : min (get_or stored (words_at s i + 4) 0) 24 ≡ min (get_or w (words_at s i + 4) 0) 24
      here = rw (at-word 4 (omega arith)) (omega arith)

      by : (j < i) ⊎ (i ≤ j) → min (get_or stored (words_at s j + 4) 0) 24 ≡ min (get_or w (words_at s j + 4) 0) 24
      by (inl h) = rw (get_or-puts-out w (words_at s i) (cell_words range (count_in s w i) listed) (words_at s j + 4) 0 (inl (omega arith)))
      by (inr h) = by_2 (lt-or-ge i j)
        where
          by_2 : (i < j) ⊎ (j ≤ i) → min (get_or stored (words_at s j + 4) 0) 24 ≡ min (get_or w (words_at s j + 4) 0) 24
          by_2 (inl k) = rw (get_or-puts-out w (words_at s i) (cell_words range (count_in s w i) listed) (words_at s j + 4) 0 (inr (omega arith)))
          by_2 (inr k) = let e : j ≡ i = le_antisymm k h in rw e here

  polygon-kept : (j : ℕ) → polygon_in s stored f j ≡ polygon_in s w f j
  unfolding polygon_in
  polygon-kept j = rw (count_kept j)

  pub listed-cell : listed ≡ listed_span g (polygon_in s w f i) → SpanWithin listed most_bins → range.first ≡ first_bin g (limits_from f (floats_at s i + 48))
      → range.last ≡ last_bin g (limits_from f (floats_at s i + 48)) → ListCellExit g s w stored f i
  listed-cell el within ef eg =
      record {
        here = cell-here;
        range =
            record {
              first-x = at-word 0 (omega arith) ∙ ap (λ (b : Bin). b.x) ef;
              first-y = at-word 1 (omega arith) ∙ ap (λ (b : Bin). b.y) ef;
              last-x = at-word 2 (omega arith) ∙ ap (λ (b : Bin). b.x) eg;
              last-y = at-word 3 (omega arith) ∙ ap (λ (b : Bin). b.y) eg;
            };
        before = take-puts w (words_at s i) (cell_words range (count_in s w i) listed);
        polygons = unfold polygons_in in tab-same (polygon_in s stored f) (polygon_in s w f) s.cells (λ k h. polygon-kept k);
      }
    where
      cell-here : cell_polygon_in s stored f i ≡ listed_in g (polygon_in s w f i)
      cell-here =
          let a = bin-here stored (words_at s i + 5) listed.first (at-word 5 (omega arith)) within.first-x in
          let b = bin-here stored (words_at s i + 6) listed.last (at-word 6 (omega arith)) within.last-x in
          unfold cell_polygon_in listed_in in rw (polygon-kept i, a, b, el) (unfold listed_span listed_in in refl)

pub spanned : (g : Grid) (f : List Float) (at n : ℕ) (b own : Box) (first last : Bin) → b ≡ boundless → own ≡ fold widened b (pairs_from f at n) → first ≡ bin_for g (low_corner own)
    → last ≡ bin_for g (high_corner own) → record { first = first; last = last } ≡ listed_span g (pairs_from f at n)
unfolding listed_span listed_in bounds_of
spanned g f at n b own first last eb eo ef el = rw (ef, el, eo, eb)

pub listed_by : (g : Grid) (s : Sizes) (w w' : List ℕ) (f : List Float) (i at n wat : ℕ) (range listed : BinSpan) (l : Limits) → at ≡ floats_at s i → n ≡ count_in s w i → l ≡ limits_from f (at + 48)
    → range.first ≡ first_bin g l → range.last ≡ last_bin g l → listed ≡ listed_span g (pairs_from f at n) → SpanWithin listed most_bins → wat ≡ words_at s i → w' ≡ puts w wat (cell_words range n listed)
    → words_at s i + 7 ≤ length w → ListCellExit g s w w' f i
listed_by g s w w' f i at n wat range listed l ea en el ef eg es within ew e room =
    rw (e, ew, en)
    (listed-cell g s w f i range listed room (es ∙ unfold polygon_in in rw (ea, en)) within (ef ∙ rw (el, ea)) (eg ∙ rw (el, ea)))

pub map-tab : {A B : Type 0} (f : A → B) (g : ℕ → A) (n : ℕ) → map f (tab g n) ≡ tab (λ k. f (g k)) n
unfolding tab
map-tab f g zero = refl
map-tab f g (suc n) = map-append f (tab g n) (g n ∷ []) ∙ ap (λ l. l ++ f (g n) ∷ []) (map-tab f g n)

-- the cells below i are listed, and the polygons are as they were
pub record Listing (g : Grid) (s : Sizes) (w₀ w : List ℕ) (f : List Float) (i : ℕ) : Type 0 where
  pub within : i ≤ s.cells
  pub as_long : length w ≡ length w₀
  pub done : tab (cell_polygon_in s w f) i ≡ tab (λ j. listed_in g (polygon_in s w₀ f j)) i
  pub ranges : (j : ℕ) → j < i → Ranged g (limits_from f (floats_at s j + 48)) w (words_end s) j
  pub polygons : polygons_in s w f ≡ polygons_in s w₀ f
  pub before : take (words_end s) w ≡ take (words_end s) w₀

pub listing_start : (g : Grid) (s : Sizes) (w : List ℕ) (f : List Float) → Listing g s w w f 0
unfolding tab
listing_start g s w f =
    record { within = omega arith; as_long = refl; done = refl; ranges = λ j h. absurd (omega arith); polygons = refl; before = refl }

pub listing-turn : (g : Grid) (s : Sizes) (w₀ w w' : List ℕ) (f : List Float) (i : ℕ) → Listing g s w₀ w f i → i < s.cells → length w' ≡ length w → ListCellExit g s w w' f i
    → Listing g s w₀ w' f (i + 1)
listing-turn g s w₀ w w' f i l h e d =
    record {
      within = omega arith;
      as_long = e ∙ l.as_long;
      done =
          tab-next (cell_polygon_in s w' f) i
          ∙ ap₂ (λ (a : List CellPolygon) (b : CellPolygon). a ++ b ∷ [])
          (tab-same (cell_polygon_in s w' f) (cell_polygon_in s w f) i (λ k b. cell_polygon-same s w w' f i k d.before b) ∙ l.done)
          (d.here ∙ ap (listed_in g) (polygon-of s w₀ w f i h l.polygons))
          ∙ sym (tab-next (λ j. listed_in g (polygon_in s w₀ f j)) i);
      ranges = λ j k. by j k (lt-or-ge j i);
      polygons = d.polygons ∙ l.polygons;
      before =
          let less : words_end s ≤ words_at s i = omega arith in
          sym (take-take (words_end s) (words_at s i) w' less) ∙ ap (take (words_end s)) d.before ∙ take-take (words_end s) (words_at s i) w less ∙ l.before;
    }
  where
    by : (j : ℕ) → j < i + 1 → (j < i) ⊎ (i ≤ j) → Ranged g (limits_from f (floats_at s j + 48)) w' (words_end s) j
    by j k (inl b) = ranged-same s w w' f g (limits_from f (floats_at s j + 48)) i j d.before b (l.ranges j b)
    by j k (inr b) = let q : j ≡ i = le_antisymm (omega arith) b in rw q d.range

pub listing-end : (g : Grid) (s : Sizes) (w₀ w : List ℕ) (f : List Float) (i : ℕ) → Listing g s w₀ w f i → s.cells ≤ i → ListCellsExit g s w₀ w f
unfolding cell_polygons_in polygons_in
listing-end g s w₀ w f i l h =
    let e : s.cells ≡ i = le_antisymm h l.within in
    record {
      polygons = rw (map-tab (listed_in g) (polygon_in s w₀ f) s.cells) (subst (λ (n : ℕ). tab (cell_polygon_in s w f) n ≡ tab (λ j. listed_in g (polygon_in s w₀ f j)) n) (sym e) l.done);
      ranges = record { each = λ j k. l.ranges j (omega arith) };
      mesh = l.before;
    }
