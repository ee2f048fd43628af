-- One turn of the loop over a polygon's sides. Assumes nothing.
use Prim.Native.Nat.{ℕ, ◌+◌, ◌%◌, ◌≤◌, ◌<◌}
use native.Mathlib.Nat.{zero-add}
use native.Mathlib.Omega.{arith}
use mathlib.Core.Path.{◌≡◌, refl, ◌∙◌}
use mathlib.Core.Bool.{Bool, true, false, not, cond}
use mathlib.Core.List.{List, []}
use lib.Dec.{eqb}
use lib.ListN.{length, get_or, drop}
use lib.Ieee.{Float}
use Rattle.arith.specs.declared.Vec2.{Vec2}
use Rattle.arith.specs.Lists.{Side, sides, after, count_where}
use Rattle.arith.specs.Records.{tab}
use Rattle.arith.specs.Polygon.{crosses, even_odd}
use Rattle.arith.proofs.ListLaws.{count_next, length-sides, sides-at}
use Rattle.arith.proofs.RoundLaws.{after_less, odd, odd-here, odd-past}
use Rattle.arith.proofs.RecordLaws.{length-tab, get_or-tab, drop-end}
use Rattle.planes_cut.specs.declared.Plane.{Plane}
use Rattle.planes_crossings.specs.Ensures.{slice_points, point_in}
use Rattle.planes_sections.proofs.AngleLaws.{map-tab}
use Rattle.planes_sums.specs.Probe.{project, covers}

-- ---- an odd number of crossings, those so far and those to come

module _ (s : Plane) (q : Vec2) (x y z : List Float) (n : ℕ) where
  abbrev pub vertex : ℕ → Vec2
  vertex i = project s (point_in x y z i)

  abbrev pub sides_in : List (Side Vec2)
  sides_in = sides (tab vertex n)

  abbrev pub side_in : ℕ → Side Vec2
  side_in i = record { from = project s (point_in x y z i); to = project s (point_in x y z (after n i)) }

  unfoldable pub rest : Bool → ℕ → Bool
  rest inside i = odd inside (count_where (crosses q) (drop i sides_in))

  long : length sides_in ≡ n
  long = length-sides (tab vertex n) ∙ length-tab vertex n

  pub rest-start : rest false 0 ≡ covers s q (slice_points x y z n)
  unfolding rest odd covers even_odd slice_points
  rest-start = rw (map-tab (project s) (point_in x y z) n, zero-add (count_where (crosses q) sides_in))

  pub rest_end : (i : ℕ) (inside r : Bool) → n ≤ i → rest inside i ≡ r → inside ≡ r
  unfolding rest odd count_where
  rest_end i inside r h e =
      let none : drop i sides_in ≡ [] = drop-end sides_in i (omega (arith, long)) in
      by inside ∙ (rw none at e)
    where
      by : (b : Bool) → b ≡ eqb ((cond b 1 0 + 0) % 2) 1
      by true = refl
      by false = refl

  module _ (i : ℕ) (more : i < n) (inside r : Bool) (inv : rest inside i ≡ r) (c : Bool) (hc : c ≡ crosses q (side_in i)) where
    here : get_or sides_in i (side_in 0) ≡ side_in i
    here =
        sides-at (tab vertex n) i (vertex 0) (side_in 0) (rw (length-tab vertex n) more)
        ∙ rw (length-tab vertex n, get_or-tab vertex n i (vertex 0) more, get_or-tab vertex n (after n i) (vertex 0) (after_less n i more))

    next : odd inside (cond c 1 0 + count_where (crosses q) (drop (i + 1) sides_in)) ≡ r
    unfolding rest
    next = let w : i < length sides_in = rw long more in rw (hc, ← here) (rw (count_next sides_in i (side_in 0) w (crosses q)) at inv)

    pub rest-toggled : (inside' : Bool) → c ≡ true → inside' ≡ not inside → rest inside' (i + 1) ≡ r
    unfolding rest
    rest-toggled inside' t e = rw (e, ← (odd-here inside (count_where (crosses q) (drop (i + 1) sides_in)))) (rw t at next)

    pub rest-kept : (inside' : Bool) → c ≡ false → inside' ≡ inside → rest inside' (i + 1) ≡ r
    unfolding rest
    rest-kept inside' t e = rw (e, ← (odd-past inside (count_where (crosses q) (drop (i + 1) sides_in)))) (rw t at next)
