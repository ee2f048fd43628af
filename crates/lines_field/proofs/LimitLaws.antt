-- Limits that are stored with the polygons. Assumes nothing.
use Prim.Native.Nat.{ℕ, ◌+◌, ◌*◌, ◌≤◌, ◌<◌, min}
use native.Mathlib.Nat.{le_antisymm}
use native.Mathlib.Omega.{arith}
use mathlib.Core.Path.{◌≡◌, refl, sym, ap, ◌∙◌, subst}
use mathlib.Core.Logic.{◌⊎◌, inl, inr}
use mathlib.Core.List.{List, [], ◌∷◌}
use lib.ListN.{length, get_or, take}
use lib.Seq.{take-take}
use lib.Ieee.{Float, nan}
use Rattle.arith.specs.Records.{puts}
use Rattle.arith.specs.declared.Vec2.{Vec2}
use Rattle.arith.proofs.RecordLaws.{lt-or-ge, tab-same, get_or-puts-out, get_or-puts-at, take-puts}
use Rattle.mesh_area.specs.declared.Sizes.{Sizes}
use Rattle.mesh_area.specs.Layout.{floats_end}
use Rattle.lines_polygon.specs.declared.Limits.{Limits}
use Rattle.lines_polygon.specs.Vertices.{pair_from, pairs_from}
use Rattle.lines_polygon.specs.Extent.{LimitsHold, limits_from, limits_of}
use Rattle.lines_polygon.proofs.LimitLaws.{limits-hold}
use Rattle.lines_locate.specs.Layout.{words_at, floats_at, count_in, polygon_in}
use Rattle.lines_locate.specs.Ensures.{HasLimits}
use Rattle.lines_field.specs.Ensures.{polygons_in, MeshKept, LimitCellExit}

-- ---- a cell

module _ (s : Sizes) (w : List ℕ) (f : List Float) (i : ℕ) (l : Limits) (room : floats_at s i + 52 ≤ length f) where
  abbrev vs : List Float
  vs = l.low ∷ l.high ∷ l.right ∷ l.left ∷ []

  abbrev stored : List Float
  stored = puts f (floats_at s i + 48) vs

  -- a float that is none of the four
  kept : (k : ℕ) → (k < floats_at s i + 48) ⊎ (floats_at s i + 48 + 4 ≤ k) → get_or stored k nan ≡ get_or f k nan
  kept k h = get_or-puts-out f (floats_at s i + 48) vs k nan h

  vertex : (j k : ℕ) → k < 48 → (floats_at s j + k < floats_at s i + 48) ⊎ (floats_at s i + 48 + 4 ≤ floats_at s j + k)
  vertex j k h = by (lt-or-ge i j)
    where
      by : (i < j) ⊎ (j ≤ i) → (floats_at s j + k < floats_at s i + 48) ⊎ (floats_at s i + 48 + 4 ≤ floats_at s j + k)
      by (inl g) = inr (omega arith)
      by (inr g) = inl (omega arith)

  polygon-kept : (j : ℕ) → polygon_in s w stored j ≡ polygon_in s w f j
  unfolding polygon_in count_in pairs_from pair_from
  polygon-kept j =
      tab-same _ _ (min (get_or w (words_at s j + 4) 0) 24) (λ k b. rw (one k b, two k b))
    where
      one : (k : ℕ) → k < min (get_or w (words_at s j + 4) 0) 24 → get_or stored (floats_at s j + 2 * k) nan ≡ get_or f (floats_at s j + 2 * k) nan
      one k b = kept (floats_at s j + 2 * k) (vertex j (2 * k) (omega arith))

      two : (k : ℕ) → k < min (get_or w (words_at s j + 4) 0) 24 → get_or stored (floats_at s j + 2 * k + 1) nan ≡ get_or f (floats_at s j + 2 * k + 1) nan
      two k b =
          let e : floats_at s j + (2 * k + 1) ≡ floats_at s j + 2 * k + 1 = omega arith in
          kept (floats_at s j + 2 * k + 1) (subst (λ (m : ℕ). (m < floats_at s i + 48) ⊎ (floats_at s i + 48 + 4 ≤ m)) e (vertex j (2 * k + 1) (omega arith)))

  limits-kept : (j : ℕ) → j < i → limits_from stored (floats_at s j + 48) ≡ limits_from f (floats_at s j + 48)
  unfolding limits_from
  limits-kept j h =
      rw (kept (floats_at s j + 48) (inl (omega arith)), kept (floats_at s j + 48 + 1) (inl (omega arith)), kept (floats_at s j + 48 + 2) (inl (omega arith)), kept (floats_at s j + 48 + 3) (inl (omega arith)))

  at-limit : (k : ℕ) → k < 4 → get_or stored (floats_at s i + 48 + k) nan ≡ get_or vs k nan
  at-limit k h = get_or-puts-at f (floats_at s i + 48) vs k nan h (omega arith)

  limits-here : limits_from stored (floats_at s i + 48) ≡ l
  unfolding limits_from
  limits-here =
      let z : floats_at s i + 48 + 0 ≡ floats_at s i + 48 = omega arith in
      let a : get_or stored (floats_at s i + 48) nan ≡ l.low = subst (λ (m : ℕ). get_or stored m nan ≡ l.low) z (at-limit 0 (omega arith)) in
      rw (a, at-limit 1 (omega arith), at-limit 2 (omega arith), at-limit 3 (omega arith))

  pub limit-stored : (at n : ℕ) (f' : List Float) → at ≡ floats_at s i → n ≡ count_in s w i → l ≡ limits_of (pairs_from f at n) → f' ≡ puts f (at + 48) vs → LimitCellExit s w f f' i
  limit-stored at n f' ea en el e =
      rw (e, ea)
      (record {
        here = rw (limits-here, polygon-kept i, el) (unfold polygon_in in rw (ea, en) (limits-hold _));
        polygons = polygon-kept;
        others = limits-kept;
        mesh = sym (take-take (floats_end s) (floats_at s i + 48) stored less) ∙ ap (take (floats_end s)) (take-puts f (floats_at s i + 48) vs) ∙ take-take (floats_end s) (floats_at s i + 48) f less;
      })
    where
      less : floats_end s ≤ floats_at s i + 48
      less = omega arith

-- ---- all cells

-- the cells below i have their limits
pub record Limiting (s : Sizes) (w : List ℕ) (f₀ f : List Float) (i : ℕ) : Type 0 where
  pub within : i ≤ s.cells
  pub long : length f ≡ length f₀
  pub done : (j : ℕ) → j < i → LimitsHold (polygon_in s w f j) (limits_from f (floats_at s j + 48))
  pub polygons : (j : ℕ) → polygon_in s w f j ≡ polygon_in s w f₀ j
  pub mesh : take (floats_end s) f ≡ take (floats_end s) f₀

pub limiting-start : (s : Sizes) (w : List ℕ) (f : List Float) → Limiting s w f f 0
limiting-start s w f = record { within = omega arith; long = refl; done = λ j h. absurd (omega arith); polygons = λ j. refl; mesh = refl }

module _ (s : Sizes) (w : List ℕ) (f₀ f : List Float) (i : ℕ) (g : Limiting s w f₀ f i) where
  pub limiting-turn : (f' : List Float) → i < s.cells → length f' ≡ length f → LimitCellExit s w f f' i → Limiting s w f₀ f' (i + 1)
  limiting-turn f' h e t =
      record {
        within = omega arith;
        long = e ∙ g.long;
        done = λ j k. by j (lt-or-ge j i) k;
        polygons = λ j. t.polygons j ∙ g.polygons j;
        mesh = t.mesh ∙ g.mesh;
      }
    where
      by : (j : ℕ) → (j < i) ⊎ (i ≤ j) → j < i + 1 → LimitsHold (polygon_in s w f' j) (limits_from f' (floats_at s j + 48))
      by j (inl a) k = rw (t.polygons j, t.others j a) (g.done j a)
      by j (inr a) k = let e : j ≡ i = omega arith in rw e t.here

  pub limiting-end : s.cells ≤ i → (polygons_in s w f ≡ polygons_in s w f₀) × (take (floats_end s) f ≡ take (floats_end s) f₀) × HasLimits s w f
  limiting-end h =
      let e : i ≡ s.cells = le_antisymm g.within h in
      (unfold polygons_in in tab-same _ _ s.cells (λ j k. g.polygons j), g.mesh, record { each = λ j k. g.done j (omega arith) })

-- ---- the polygons and their limits

pub cells-put : {P : List (List Vec2)} (s : Sizes) (w₀ w : List ℕ) (f₀ f f' : List Float) → polygons_in s w f ≡ P → MeshKept s w₀ w f₀ f → polygons_in s w f' ≡ polygons_in s w f
    → take (floats_end s) f' ≡ take (floats_end s) f → HasLimits s w f' → (polygons_in s w f' ≡ P) × MeshKept s w₀ w f₀ f' × HasLimits s w f'
cells-put s w₀ w f₀ f f' p k e t l = (e ∙ p, record { words = k.words; floats = t ∙ k.floats }, l)

-- other words that have the same polygons
pub limited-words : (s : Sizes) (w w' : List ℕ) (f : List Float) → ((i : ℕ) → i < s.cells → polygon_in s w' f i ≡ polygon_in s w f i) → HasLimits s w f → HasLimits s w' f
limited-words s w w' f same l = record { each = λ i h. rw (same i h) (l.each i h) }
