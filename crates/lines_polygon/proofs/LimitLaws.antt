-- A polygon all of whose sides are within some limits contains no point outside of them. Assumes nothing.
use Prim.Native.Nat.{ℕ, ◌+◌, ◌≤◌, ◌<◌}
use mathlib.Core.Path.{◌≡◌, refl, sym, ap, ◌∙◌}
use mathlib.Core.Bool.{Bool, true, false, not, cond, ◌&&◌, ◌||◌, beq, true≢false, false≢true}
use mathlib.Core.List.{List, [], ◌∷◌}
use lib.Dec.{leb}
use lib.ListN.{length, get_or, drop}
use lib.Ieee.{Float, nan, inf, fin, add, lt, le, eq, is_nan, of_bits}
use Rattle.arith.specs.F64.{◌⊕◌, ◌⊖◌, ◌≺◌, ◌≼◌, 0·0, 1e-12, finite, fmin, fmax}
use Rattle.arith.specs.Lists.{Side, sides, any_of, all_of, count_where, fold}
use Rattle.arith.specs.Polygon.{crosses, even_odd}
use Rattle.arith.specs.declared.Vec2.{Vec2}
use Rattle.arith.proofs.ListLaws.{all_here, all-next, foldl-next}
use Rattle.lines_polygon.specs.declared.Limits.{Limits}
use Rattle.lines_polygon.specs.Vertices.{side_from}
use Rattle.lines_polygon.specs.Contains.{between, on_line, on_edge, contains}
use Rattle.lines_polygon.specs.Extent.{LimitsHold, misses, end_within, run, is_level, crossing_within, side_within, reach, sideless, widened, spared, narrowest, unlimited, limits_of}
use Rattle.lines_polygon.proofs.OrderLaws.{below-through, through-below, below-not-most, below-not-below}
use Rattle.lines_polygon.proofs.CrossLaws.{add_most, self, crosses-left, crosses-right, crosses-level, level-together}
use Rattle.lines_polygon.proofs.ParityLaws.{apart, parted-even}
use Rattle.lines_polygon.proofs.Laws.{contains-or, sides_in, side-at, in-range, sides-past}

-- ---- both of two tests

pub both : (a b : Bool) → a && b ≡ true → (a ≡ true) × (b ≡ true)
both true true e = (refl, refl)
both true false e = absurd (false≢true e)
both false b e = absurd (false≢true e)

not_first : (a b : Bool) → a ≡ false → a && b ≡ false
not_first a b e = rw e

pub not-second : (a b : Bool) → b ≡ false → a && b ≡ false
not-second true b e = e
not-second false b e = refl

-- ---- the lower and the higher of two are among them

pub min-one : (P : Float → Type 0) (b c : Float) → P b → P c → P (fmin b c)
unfolding fmin
min-one P b c pb pc = either (is_nan b || (c ≺ b))
  where
    either : (t : Bool) → P (cond t c b)
    either true = pc
    either false = pb

pub max-one : (P : Float → Type 0) (b c : Float) → P b → P c → P (fmax b c)
unfolding fmax
max-one P b c pb pc = either (is_nan b || (b ≺ c))
  where
    either : (t : Bool) → P (cond t c b)
    either true = pc
    either false = pb

-- ---- an end

record Ends (l : Limits) (p : Vec2) : Type 0 where
  below : (l.low ≼ p.y ⊖ 1e-12) ≡ true
  low : (l.low ≼ p.y) ≡ true
  above : (p.y ⊕ 1e-12 ≼ l.high) ≡ true
  high : (p.y ≼ l.high) ≡ true
  right : (p.x ⊕ 1e-12 ≼ l.right) ≡ true
  left : (l.left ≼ p.x ⊖ 1e-12) ≡ true

ends : (l : Limits) (p : Vec2) → end_within l p ≡ true → Ends l p
unfolding end_within
ends l p e =
    by (l.low ≼ p.y ⊖ 1e-12) (l.low ≼ p.y) (p.y ⊕ 1e-12 ≼ l.high) (p.y ≼ l.high) (p.x ⊕ 1e-12 ≼ l.right) (l.left ≼ p.x ⊖ 1e-12) refl refl refl refl refl refl e
  where
    by : (a b c d f g : Bool) → (l.low ≼ p.y ⊖ 1e-12) ≡ a → (l.low ≼ p.y) ≡ b → (p.y ⊕ 1e-12 ≼ l.high) ≡ c → (p.y ≼ l.high) ≡ d → (p.x ⊕ 1e-12 ≼ l.right) ≡ f → (l.left ≼ p.x ⊖ 1e-12) ≡ g
        → (((((a && b) && c) && d) && f) && g) ≡ true → Ends l p
    by true true true true true true u v w x y z h = record { below = u; low = v; above = w; high = x; right = y; left = z }
    by false b c d f g u v w x y z h = absurd (false≢true h)
    by true false c d f g u v w x y z h = absurd (false≢true h)
    by true true false d f g u v w x y z h = absurd (false≢true h)
    by true true true false f g u v w x y z h = absurd (false≢true h)
    by true true true true false g u v w x y z h = absurd (false≢true h)
    by true true true true true false u v w x y z h = absurd (false≢true h)

-- ---- a side

pub by-x : (q : Vec2) (s : Side Vec2) → between q.x s.from.x s.to.x ≡ false → on_edge q s ≡ false
unfolding on_edge
by-x q s e =
    not-second (on_line q s) (between q.x s.from.x s.to.x && between q.y s.from.y s.to.y)
    (not_first (between q.x s.from.x s.to.x) (between q.y s.from.y s.to.y) e)

by-y : (q : Vec2) (s : Side Vec2) → between q.y s.from.y s.to.y ≡ false → on_edge q s ≡ false
unfolding on_edge
by-y q s e =
    not-second (on_line q s) (between q.x s.from.x s.to.x && between q.y s.from.y s.to.y)
    (not-second (between q.x s.from.x s.to.x) (between q.y s.from.y s.to.y) e)

-- below two lower ones, or above two higher ones
pub under : (q a b : Float) → (q ≺ a ⊖ 1e-12) ≡ true → (q ≺ b ⊖ 1e-12) ≡ true → between q a b ≡ false
unfolding between
under q a b ha hb =
    not_first (fmin a b ⊖ 1e-12 ≼ q) (q ≼ fmax a b ⊕ 1e-12)
    (min-one (λ (v : Float). (v ⊖ 1e-12 ≼ q) ≡ false) a b (below-not-most q (a ⊖ 1e-12) ha) (below-not-most q (b ⊖ 1e-12) hb))

over : (q a b : Float) → (a ⊕ 1e-12 ≺ q) ≡ true → (b ⊕ 1e-12 ≺ q) ≡ true → between q a b ≡ false
unfolding between
over q a b ha hb =
    not-second (fmin a b ⊖ 1e-12 ≼ q) (q ≼ fmax a b ⊕ 1e-12)
    (max-one (λ (v : Float). (q ≼ v ⊕ 1e-12) ≡ false) a b (below-not-most (a ⊕ 1e-12) q ha) (below-not-most (b ⊕ 1e-12) q hb))

module _ (l : Limits) (a b : Vec2) (w : side_within l (record { from = a; to = b }) ≡ true) (q : Vec2) where
  abbrev s : Side Vec2
  s = record { from = a; to = b }

  from_in : Ends l a
  unfolding side_within
  from_in = ends l a (both (end_within l a) (end_within l b && crossing_within l s) w).0

  to_in : Ends l b
  unfolding side_within
  to_in = ends l b (both (end_within l b) (crossing_within l s) (both (end_within l a) (end_within l b && crossing_within l s) w).1).0

  crossing-in : crossing_within l s ≡ true
  unfolding side_within
  crossing-in = (both (end_within l b) (crossing_within l s) (both (end_within l a) (end_within l b && crossing_within l s) w).1).1

  edge-below : (q.y ≺ l.low) ≡ true → on_edge q s ≡ false
  edge-below h = by-y q s (under q.y a.y b.y (below-through _ _ _ h from_in.below) (below-through _ _ _ h to_in.below))

  crosses-below : (q.y ≺ l.low) ≡ true → crosses q s ≡ false
  unfolding crosses
  crosses-below h = rw (below-through _ _ _ h from_in.low, below-through _ _ _ h to_in.low)

  edge-above : (l.high ≺ q.y) ≡ true → on_edge q s ≡ false
  edge-above h = by-y q s (over q.y a.y b.y (through-below _ _ _ from_in.above h) (through-below _ _ _ to_in.above h))

  crosses-above : (l.high ≺ q.y) ≡ true → crosses q s ≡ false
  unfolding crosses
  crosses-above h =
      rw (below-not-below _ _ (through-below _ _ _ from_in.high h), below-not-below _ _ (through-below _ _ _ to_in.high h))

  edge-beyond : (l.right ≺ q.x) ≡ true → on_edge q s ≡ false
  edge-beyond h = by-x q s (over q.x a.x b.x (through-below _ _ _ from_in.right h) (through-below _ _ _ to_in.right h))

  -- no crossing to the right of the limit, and none to the left of the other
  data Spanned : Type 0 where
    level : (a.y ≼ b.y) ≡ true → (b.y ≼ a.y) ≡ true → Spanned
    spans : finite (run s) ≡ true → (fmax (run s) 0·0 ⊕ a.x ≼ l.right) ≡ true → (l.left ≼ fmin (run s) 0·0 ⊕ a.x) ≡ true → Spanned

  spanned : Spanned
  spanned = by (a.y ≼ b.y) (b.y ≼ a.y) (finite (run s)) (fmax (run s) 0·0 ⊕ a.x ≼ l.right) (l.left ≼ fmin (run s) 0·0 ⊕ a.x) refl refl refl refl refl (unfold crossing_within is_level in crossing-in)
    where
      by : (t u v w x : Bool) → (a.y ≼ b.y) ≡ t → (b.y ≼ a.y) ≡ u → finite (run s) ≡ v → (fmax (run s) 0·0 ⊕ a.x ≼ l.right) ≡ w → (l.left ≼ fmin (run s) 0·0 ⊕ a.x) ≡ x
          → ((t && u) || (v && (w && x))) ≡ true → Spanned
      by true true v w x et eu ev ew ex e = level et eu
      by true false true true true et eu ev ew ex e = spans ev ew ex
      by true false true true false et eu ev ew ex e = absurd (false≢true e)
      by true false true false x et eu ev ew ex e = absurd (false≢true e)
      by true false false w x et eu ev ew ex e = absurd (false≢true e)
      by false u true true true et eu ev ew ex e = spans ev ew ex
      by false u true true false et eu ev ew ex e = absurd (false≢true e)
      by false u true false x et eu ev ew ex e = absurd (false≢true e)
      by false u false w x et eu ev ew ex e = absurd (false≢true e)

  crosses-beyond : (l.right ≺ q.x) ≡ true → crosses q s ≡ false
  crosses-beyond h = by spanned
    where
      by : Spanned → crosses q s ≡ false
      by (level et eu) = crosses-level q a b et eu
      by (spans ev ew ex) = unfold run in crosses-left q a b l.right ev ew h

  edge-before : (q.x ≺ l.left) ≡ true → on_edge q s ≡ false
  edge-before h = by-x q s (under q.x a.x b.x (below-through _ _ _ h from_in.left) (below-through _ _ _ h to_in.left))

  crosses-before : (q.x ≺ l.left) ≡ true → crosses q s ≡ apart (λ (v : Vec2). q.y ≺ v.y) s
  crosses-before h = by spanned
    where
      by : Spanned → crosses q s ≡ not (beq (q.y ≺ a.y) (q.y ≺ b.y))
      by (level et eu) = crosses-level q a b et eu ∙ sym (level-together q a b et eu)
      by (spans ev ew ex) = unfold run in crosses-right q a b l.left ev ex h

-- ---- all sides

pub all_first : {A : Type 0} (p : A → Bool) (a : A) (l : List A) → all_of p (a ∷ l) ≡ true → (p a ≡ true) × (all_of p l ≡ true)
unfolding all_of
all_first p a l e = by (p a) refl e
  where
    by : (t : Bool) → p a ≡ t → elim t [ true ↦ all_of p l | false ↦ false ] ≡ true → (p a ≡ true) × (all_of p l ≡ true)
    by true g f = (g, f)
    by false g f = absurd (false≢true f)

module _ {A : Type 0} (p r : A → Bool) (h : (a : A) → p a ≡ true → r a ≡ false) where
  pub none_any : (l : List A) → all_of p l ≡ true → any_of r l ≡ false
  unfolding any_of
  none_any [] e = refl
  none_any (a ∷ l) e = let k = all_first p a l e in rw (any_of, h a k.0, any_of) (none_any l k.1)

  none-count : (l : List A) → all_of p l ≡ true → count_where r l ≡ 0
  unfolding count_where
  none-count [] e = refl
  none-count (a ∷ l) e = let k = all_first p a l e in rw (h a k.0, none-count l k.1)

same_count : {A : Type 0} (p r t : A → Bool) → ((a : A) → p a ≡ true → r a ≡ t a) → (l : List A) → all_of p l ≡ true → count_where r l ≡ count_where t l
unfolding count_where
same_count p r t h [] e = refl
same_count p r t h (a ∷ l) e = let k = all_first p a l e in rw (h a k.0, same_count p r t h l k.1)

module _ (polygon : List Vec2) (l : Limits) (w : all_of (side_within l) (sides polygon) ≡ true) (q : Vec2) where
  -- left of all sides every side that the point's height parts is crossed: an even number
  even : ((s : Side Vec2) → side_within l s ≡ true → on_edge q s ≡ false) → ((s : Side Vec2) → side_within l s ≡ true → crosses q s ≡ apart (λ (v : Vec2). q.y ≺ v.y) s) → contains q polygon ≡ false
  unfolding even_odd
  even a b =
      rw (
        contains-or q polygon,
        none_any (side_within l) (on_edge q) a (sides polygon) w,
        same_count (side_within l) (crosses q) (apart (λ (v : Vec2). q.y ≺ v.y)) b (sides polygon) w,
        parted-even (λ (v : Vec2). q.y ≺ v.y) polygon,
      )
      (not-second (leb 3 (length polygon)) false refl)

  none : ((s : Side Vec2) → side_within l s ≡ true → on_edge q s ≡ false) → ((s : Side Vec2) → side_within l s ≡ true → crosses q s ≡ false) → contains q polygon ≡ false
  unfolding even_odd
  none a b =
      rw (contains-or q polygon, none_any (side_within l) (on_edge q) a (sides polygon) w, none-count (side_within l) (crosses q) b (sides polygon) w)
      (not-second (leb 3 (length polygon)) false refl)

pub within-hold : (polygon : List Vec2) (l : Limits) → all_of (side_within l) (sides polygon) ≡ true → is_nan l.high ≡ false → is_nan l.right ≡ false → LimitsHold polygon l
within-hold polygon l w h r =
    record {
      below = λ q k. none polygon l w q (λ s i. edge-below l s.from s.to i q k) (λ s i. crosses-below l s.from s.to i q k);
      above = λ q k. none polygon l w q (λ s i. edge-above l s.from s.to i q k) (λ s i. crosses-above l s.from s.to i q k);
      beyond = λ q k. none polygon l w q (λ s i. edge-beyond l s.from s.to i q k) (λ s i. crosses-beyond l s.from s.to i q k);
      before = λ q k. even polygon l w q (λ s i. edge-before l s.from s.to i q k) (λ s i. crosses-before l s.from s.to i q k);
      high-real = h;
      right-real = r;
    }

-- ---- no limits

below-least : (x : Float) → (x ≺ inf true) ≡ false
unfolding lt
below-least nan = refl
below-least (inf true) = refl
below-least (inf false) = refl
below-least (fin s m e) = refl

above_most : (x : Float) → (inf false ≺ x) ≡ false
unfolding lt
above_most nan = refl
above_most (inf t) = refl
above_most (fin s m e) = refl

unlimited-hold : (polygon : List Vec2) → LimitsHold polygon unlimited
unfolding unlimited
unlimited-hold polygon =
    record {
      below = λ q k. absurd (false≢true (sym (below-least q.y) ∙ k));
      above = λ q k. absurd (false≢true (sym (above_most q.y) ∙ k));
      beyond = λ q k. absurd (false≢true (sym (above_most q.x) ∙ k));
      before = λ q k. absurd (false≢true (sym (below-least q.x) ∙ k));
      high-real = unfold is_nan in refl;
      right-real = unfold is_nan in refl;
    }

-- ---- the narrowest limits have no NaN on the right and above

below-real : (x y : Float) → (x ≺ y) ≡ true → is_nan y ≡ false
unfolding is_nan
below-real x (inf t) h = refl
below-real x (fin t n d) h = refl
below-real nan nan h = absurd (false≢true (unfold lt in h))
below-real (inf s) nan h = absurd (false≢true (unfold lt in h))
below-real (fin s m e) nan h = absurd (false≢true (unfold lt in h))

max-real : (a b : Float) → is_nan a ≡ false → is_nan (fmax a b) ≡ false
unfolding fmax
max-real a b f = rw f (by (a ≺ b) refl)
  where
    by : (t : Bool) → (a ≺ b) ≡ t → is_nan (cond t b a) ≡ false
    by true h = below-real a b h
    by false h = f

widest-high : (k : List (Side Vec2)) (l : Limits) → is_nan l.high ≡ false → is_nan (fold widened l k).high ≡ false
unfolding fold widened
widest-high [] l f = f
widest-high (s ∷ k) l f = widest-high k (widened l s) (max-real l.high s.from.y f)

widest-right : (k : List (Side Vec2)) (l : Limits) → is_nan l.right ≡ false → is_nan (fold widened l k).right ≡ false
unfolding fold widened
widest-right [] l f = f
widest-right (s ∷ k) l f = widest-right k (widened l s) (max-real l.right (reach s) f)

most-real : (x y : Float) → (x ≼ y) ≡ true → is_nan x ≡ false
unfolding is_nan
most-real nan y h = absurd (false≢true (unfold le lt eq in h))
most-real (inf s) y h = refl
most-real (fin s m e) y h = refl

add-real : (x c : Float) → is_nan x ≡ false → finite c ≡ true → is_nan (x ⊕ c) ≡ false
add-real x nan f g = absurd (false≢true (unfold finite in g))
add-real x (inf t) f g = absurd (false≢true (unfold finite in g))
add-real nan (fin u o h) f g = absurd (true≢false (unfold is_nan in f))
add-real (inf s) (fin u o h) f g = unfold add is_nan in refl
add-real (fin s m e) (fin u o h) f g = most-real _ _ (add_most s m e s m e (self (fin s m e) (unfold finite in refl)) u o h)

more-real : (x : Float) → is_nan x ≡ false → is_nan (x ⊕ 1e-12) ≡ false
more-real x f = add-real x 1e-12 f (unfold finite of_bits in refl)

-- ---- the limits that are stored

pub limits-hold : (polygon : List Vec2) → LimitsHold polygon (limits_of polygon)
unfolding limits_of
limits-hold polygon = by (all_of (side_within l) (sides polygon)) refl
  where
    l : Limits
    l = narrowest (sides polygon)

    by : (t : Bool) → all_of (side_within l) (sides polygon) ≡ t → LimitsHold polygon (cond t l unlimited)
    by true e =
        within-hold polygon l e (unfold narrowest spared in more-real _ (widest-high (sides polygon) sideless (unfold sideless is_nan in refl)))
        (unfold narrowest spared in more-real _ (widest-right (sides polygon) sideless (unfold sideless is_nan in refl)))
    by false e = unlimited-hold polygon

module _ (polygon : List Vec2) (l : Limits) (t : Bool) (el : l ≡ narrowest (sides polygon)) (et : t ≡ all_of (side_within l) (sides polygon)) where
  pub limits-kept : t ≡ true → l ≡ limits_of polygon
  unfolding limits_of
  limits-kept h = rw (← el, sym et ∙ h)

  pub limits-none : t ≡ false → (r : Limits) → r ≡ unlimited → r ≡ limits_of polygon
  unfolding limits_of
  limits-none h r e = rw (← el, sym et ∙ h) e

-- ---- a point that misses them

pub missed : (polygon : List Vec2) (l : Limits) (q : Vec2) → LimitsHold polygon l → (t : Bool) → t ≡ misses l q → t ≡ true → contains q polygon ≡ false
unfolding misses
missed polygon l q o t e h = by (l.high ≺ q.y) (l.right ≺ q.x) (q.x ≺ l.left) (q.y ≺ l.low) refl refl refl refl (sym e ∙ h)
  where
    by : (a b c d : Bool) → (l.high ≺ q.y) ≡ a → (l.right ≺ q.x) ≡ b → (q.x ≺ l.left) ≡ c → (q.y ≺ l.low) ≡ d → (a || (b || (c || d))) ≡ true → contains q polygon ≡ false
    by true b c d x y z w k = o.above q x
    by false true c d x y z w k = o.beyond q y
    by false false true d x y z w k = o.before q z
    by false false false true x y z w k = o.below q w
    by false false false false x y z w k = absurd (false≢true k)

-- ---- one turn of the loops over the sides

module _ (floats : List Float) (at n i : ℕ) where
  pub narrowed : (l l₀ : Limits) → n ≤ i → fold widened l (drop i (sides_in floats at n)) ≡ fold widened l₀ (sides_in floats at n) → l₀ ≡ sideless → (r : Limits) → r ≡ spared l → r ≡ narrowest (sides_in floats at n)
  unfolding narrowest
  narrowed l l₀ h inv e r er =
      let k : l ≡ fold widened sideless (sides_in floats at n) = (unfold fold in (rw (sides-past floats at n i h, e) at inv)) in
      er ∙ ap spared k

  pub widened-turn : (l l₀ l' : Limits) → i < n → (a b : Vec2) → side_from floats at n i ≡ record { from = a; to = b } → fold widened l (drop i (sides_in floats at n)) ≡ fold widened l₀ (sides_in floats at n)
      → l' ≡ widened l (record { from = a; to = b }) → fold widened l' (drop (i + 1) (sides_in floats at n)) ≡ fold widened l₀ (sides_in floats at n)
  widened-turn l l₀ l' more a b es inv e =
      rw (e, ← es, ← (side-at floats at n i more), ← (foldl-next (sides_in floats at n) i (side_from floats at n 0) (in-range floats at n i more) widened l)) inv

  module _ (l : Limits) where
    pub within_end : (r : Bool) → n ≤ i → all_of (side_within l) (drop i (sides_in floats at n)) ≡ r → true ≡ r
    unfolding all_of
    within_end r h e = rw (sides-past floats at n i h) at e

    module _ (more : i < n) (a b : Vec2) (es : side_from floats at n i ≡ record { from = a; to = b }) (r t : Bool) (et : t ≡ side_within l (record { from = a; to = b }))
        (inv : all_of (side_within l) (drop i (sides_in floats at n)) ≡ r) where
      test : side_within l (get_or (sides_in floats at n) i (side_from floats at n 0)) ≡ t
      test = ap (side_within l) (side-at floats at n i more ∙ es) ∙ sym et

      pub within-next : t ≡ true → all_of (side_within l) (drop (i + 1) (sides_in floats at n)) ≡ r
      within-next e = sym (all-next (sides_in floats at n) i (side_from floats at n 0) (in-range floats at n i more) (side_within l) (test ∙ e)) ∙ inv

      pub within-not : t ≡ false → false ≡ r
      within-not e = sym (all_here (sides_in floats at n) i (side_from floats at n 0) (in-range floats at n i more) (side_within l) (test ∙ e)) ∙ inv
