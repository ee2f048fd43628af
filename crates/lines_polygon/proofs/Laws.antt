-- One turn of the loop over a polygon's sides. Assumes nothing.
use Prim.Native.Nat.{ℕ, ◌+◌, ◌*◌, ◌%◌, ◌≤◌, ◌<◌}
use native.Mathlib.Nat.{zero-add}
use native.Mathlib.Omega.{arith}
use mathlib.Core.Path.{◌≡◌, refl, sym, ◌∙◌}
use mathlib.Core.Bool.{Bool, true, false, not, cond, ◌&&◌, ◌||◌}
use mathlib.Core.List.{List, []}
use lib.Dec.{eqb, leb}
use lib.ListN.{length, get_or, drop}
use lib.Ieee.{Float}
use borrow.Author.Tests.{lt-leb, le-leb}
use Rattle.arith.specs.declared.Vec2.{Vec2}
use Rattle.arith.specs.Lists.{Side, sides, after, count_where, any_of}
use Rattle.arith.specs.Polygon.{crosses, even_odd}
use Rattle.arith.proofs.ListLaws.{count_next, any_here, any_next, length-sides, sides-at}
use Rattle.arith.proofs.RoundLaws.{after_less, odd, odd-here, odd-past}
use Rattle.arith.proofs.RecordLaws.{length-tab, get_or-tab, drop-end}
use Rattle.lines_polygon.specs.Contains.{on_edge, position, is_within, contains}
use Rattle.lines_polygon.specs.declared.Position.{Position}
use Rattle.lines_polygon.specs.declared.Position.TheVariants.{Outside, Edge, Inside}
use Rattle.lines_polygon.specs.Vertices.{pair_from, pairs_from, side_from}

-- ---- points in the area

pub length_pairs : (floats : List Float) (at n : ℕ) → length (pairs_from floats at n) ≡ n
unfolding pairs_from
length_pairs floats at n = length-tab (λ k. pair_from floats (at + 2 * k)) n

pub pairs-at : (floats : List Float) (at n k : ℕ) (d : Vec2) → k < n → get_or (pairs_from floats at n) k d ≡ pair_from floats (at + 2 * k)
unfolding pairs_from
pairs-at floats at n k d h = get_or-tab (λ k. pair_from floats (at + 2 * k)) n k d h

-- ---- a polygon contains a point on an edge, and inside by the even-odd rule

pub contains-or : (q : Vec2) (polygon : List Vec2) → contains q polygon ≡ leb 3 (length polygon) && (any_of (on_edge q) (sides polygon) || even_odd q polygon)
unfolding contains position is_within
contains-or q polygon = by (leb 3 (length polygon)) (any_of (on_edge q) (sides polygon)) (even_odd q polygon)
  where
    by : (a b c : Bool) → is_within (cond a (cond b Edge (cond c Inside Outside)) Outside) ≡ a && (b || c)
    by false b c = refl
    by true true c = refl
    by true false true = refl
    by true false false = refl

-- ---- on a side among those to come, or an odd number of crossings, those so far and those to come

unfoldable pub rest : Vec2 → List (Side Vec2) → Bool → ℕ → Position
rest q l inside i = cond (any_of (on_edge q) (drop i l)) Edge (cond (odd inside (count_where (crosses q) (drop i l))) Inside Outside)

-- ---- the sides of a polygon in the area

module _ (floats : List Float) (at n : ℕ) where
  abbrev pub sides_in : List (Side Vec2)
  sides_in = sides (pairs_from floats at n)

  long : length sides_in ≡ n
  long = length-sides (pairs_from floats at n) ∙ length_pairs floats at n

  pub sides-past : (i : ℕ) → n ≤ i → drop i sides_in ≡ []
  sides-past i h = drop-end sides_in i (omega (arith, long))

  module _ (i : ℕ) (more : i < n) where
    pub in-range : i < length sides_in
    in-range = rw long more

    pub side-at : get_or sides_in i (side_from floats at n 0) ≡ side_from floats at n i
    unfolding side_from
    side-at =
        sides-at (pairs_from floats at n) i (pair_from floats 0) (side_from floats at n 0) (rw (length_pairs floats at n) more)
        ∙ rw (length_pairs floats at n, pairs-at floats at n i (pair_from floats 0) more, pairs-at floats at n (after n i) (pair_from floats 0) (after_less n i more))

-- ---- one turn

module _ (q : Vec2) (floats : List Float) (at n : ℕ) where
  pub few-sides : n < 3 → Outside ≡ position q (pairs_from floats at n)
  unfolding position
  few-sides h = rw (length_pairs floats at n, lt-leb 3 n h)

  pub rest-start : 3 ≤ n → rest q (sides_in floats at n) false 0 ≡ position q (pairs_from floats at n)
  unfolding rest position odd even_odd
  rest-start h = rw (length_pairs floats at n, le-leb 3 n h, zero-add (count_where (crosses q) (sides_in floats at n)))

  rest_end : (i : ℕ) (inside : Bool) (r : Position) → n ≤ i → rest q (sides_in floats at n) inside i ≡ r → cond inside Inside Outside ≡ r
  unfolding rest odd count_where any_of
  rest_end i inside r h e =
      let none = sides-past floats at n i h in
      by inside ∙ (rw none at e)
    where
      by : (b : Bool) → cond b Inside Outside ≡ cond (eqb ((cond b 1 0 + 0) % 2) 1) Inside Outside
      by true = refl
      by false = refl

  pub rest-inside : (i : ℕ) (inside : Bool) (r : Position) → n ≤ i → rest q (sides_in floats at n) inside i ≡ r → inside ≡ true → Inside ≡ r
  rest-inside i inside r h e t = rw t at (rest_end i inside r h e)

  pub rest-outside : (i : ℕ) (inside : Bool) (r : Position) → n ≤ i → rest q (sides_in floats at n) inside i ≡ r → inside ≡ false → Outside ≡ r
  rest-outside i inside r h e t = rw t at (rest_end i inside r h e)

  module _ (i : ℕ) (more : i < n) where
    module _ (inside : Bool) (r : Position) (a b : Vec2) (es : side_from floats at n i ≡ record { from = a; to = b }) (inv : rest q (sides_in floats at n) inside i ≡ r) where
      side-now : get_or (sides_in floats at n) i (side_from floats at n 0) ≡ record { from = a; to = b }
      side-now = side-at floats at n i more ∙ es

      pub rest-here : (e : Bool) → e ≡ on_edge q (record { from = a; to = b }) → e ≡ true → Edge ≡ r
      unfolding rest
      rest-here e h t = rw (any_here (sides_in floats at n) i (side_from floats at n 0) (in-range floats at n i more) (on_edge q) (rw side-now (sym h ∙ t))) at inv

      next : (e : Bool) → e ≡ on_edge q (record { from = a; to = b }) → e ≡ false → (c : Bool) → c ≡ crosses q (record { from = a; to = b })
          → cond (any_of (on_edge q) (drop (i + 1) (sides_in floats at n))) Edge (cond (odd inside (cond c 1 0 + count_where (crosses q) (drop (i + 1) (sides_in floats at n)))) Inside Outside) ≡ r
      unfolding rest
      next e h t c hc =
          rw (hc, ← side-now)
          (rw (any_next (sides_in floats at n) i (side_from floats at n 0) (in-range floats at n i more) (on_edge q) (rw side-now (sym h ∙ t)), count_next (sides_in floats at n) i (side_from floats at n 0) (in-range floats at n i more) (crosses q)) at inv)

      pub rest-toggled : (e : Bool) → e ≡ on_edge q (record { from = a; to = b }) → e ≡ false → (c inside' : Bool) → c ≡ crosses q (record { from = a; to = b })
          → c ≡ true → inside' ≡ not inside → rest q (sides_in floats at n) inside' (i + 1) ≡ r
      unfolding rest
      rest-toggled e h t c inside' hc tc ei =
          rw (ei, ← (odd-here inside (count_where (crosses q) (drop (i + 1) (sides_in floats at n))))) (rw tc at (next e h t c hc))

      pub rest-kept : (e : Bool) → e ≡ on_edge q (record { from = a; to = b }) → e ≡ false → (c inside' : Bool) → c ≡ crosses q (record { from = a; to = b })
          → c ≡ false → inside' ≡ inside → rest q (sides_in floats at n) inside' (i + 1) ≡ r
      unfolding rest
      rest-kept e h t c inside' hc tc ei =
          rw (ei, ← (odd-past inside (count_where (crosses q) (drop (i + 1) (sides_in floats at n))))) (rw tc at (next e h t c hc))
