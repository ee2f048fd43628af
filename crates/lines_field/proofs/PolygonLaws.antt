-- A cell's points in angle order, and their storing. Assumes nothing.
use Prim.Native.Nat.{ℕ, zero, suc, ◌+◌, ◌*◌, ◌≤◌, ◌<◌}
use native.Mathlib.Nat.{le_antisymm}
use native.Mathlib.Decide.{ℕ_discrete}
use native.Mathlib.Numerals.{add-one}
use native.Mathlib.Omega.{arith}
use mathlib.Core.Path.{◌≡◌, refl, sym, ap, ap₂, ◌∙◌, subst}
use mathlib.Core.Bool.{Bool, true, false}
use mathlib.Core.List.{List, [], ◌∷◌, ◌++◌, map, map-append}
use lib.ListN.{length, get_or, take, drop, set, length-set}
use lib.Seq.{get_or-set_same, get_or-set_other, get_or-take, take-suc, take-set-le, take_at}
use lib.Ieee.{Float, nan}
use Rattle.arith.specs.F64.{◌⊖◌}
use Rattle.arith.specs.Lists.{insert_before, sort}
use Rattle.arith.specs.Records.{tab, up_to}
use Rattle.arith_angles.specs.Angle.{angle_of, turns_before}
use Rattle.arith_angles.specs.Sort.{angle_at, earlier, sorted_places}
use Rattle.arith.specs.Vec.{pair}
use Rattle.arith_angles.specs.declared.Angle.{Angle}
use Rattle.arith.specs.declared.Vec2.{Vec2}
use Rattle.arith.specs.declared.Vec3.{Vec3}
use Rattle.arith.proofs.All.{All}
use Rattle.arith.proofs.RecordLaws.{length-tab, tab-next, tab-same}
use Rattle.arith.proofs.SortLaws.{sort-snoc, length-sort, all_insert, map-sort}
use Rattle.arith_angles.proofs.PlaceLaws.{place-below}
use Rattle.lines_field.specs.Vertices.{about, turns_about}
use Rattle.lines_field.specs.Ensures.{vertex_in, vertices_in, AnglesAboutExit}
use Rattle.lines_polygon.specs.Vertices.{pair_from, pairs_from}
use Rattle.lines_field.proofs.GridLaws.{map-tab}

-- ---- the angles, one point after another

pub angles-start : (c : Vec3) (xs ys : List Float) (q : List ℕ) (s : List Float) → AnglesAboutExit c xs ys q s 0
angles-start c xs ys q s = record { each = λ k h. absurd (omega arith) }

pub angles-turn : (c : Vec3) (xs ys : List Float) (q : List ℕ) (s : List Float) (k : ℕ) (a : Angle) → AnglesAboutExit c xs ys q s k
    → a ≡ angle_of (pair (get_or xs k nan ⊖ c.x) (get_or ys k nan ⊖ c.y)) → k < length q → k < length s
    → AnglesAboutExit c xs ys (set q k a.quarter) (set s k a.slope) (k + 1)
unfolding angle_at about
angles-turn c xs ys q s k a inv e lq ls = record { each = λ j h. by j h (ℕ_discrete j k) }
  where
    by : (j : ℕ) → j < k + 1 → Dec (j ≡ k) → record { quarter = get_or (set q k a.quarter) j 0; slope = get_or (set s k a.slope) j nan } ≡ angle_of (pair (get_or xs j nan ⊖ c.x) (get_or ys j nan ⊖ c.y))
    by j h (yes w) = rw (w, get_or-set_same q k a.quarter 0 lq, get_or-set_same s k a.slope nan ls) e
    by j h (no w) = rw (get_or-set_other q k j a.quarter 0 w, get_or-set_other s k j a.slope nan w) (inv.each j (omega arith))

-- ---- two orders that agree below n sort alike

module _ (r r' : ℕ → ℕ → Bool) (n : ℕ) (same : (i j : ℕ) → i < n → j < n → r i j ≡ r' i j) where
  insert-same : (l : List ℕ) (a : ℕ) → a < n → All (λ i. i < n) l → insert_before r l a ≡ insert_before r' l a
  unfolding insert_before
  insert-same [] a h p = refl
  insert-same (b ∷ l) a h p = by (r' a b) refl (insert-same l a h p.1)
    where
      by : (t : Bool) → r' a b ≡ t → insert_before r l a ≡ insert_before r' l a → insert_before r (b ∷ l) a ≡ insert_before r' (b ∷ l) a
      by true e ih = rw (same a b h p.0, e, insert_before)
      by false e ih = rw (same a b h p.0, e, insert_before) (ap {B = List ℕ} (λ k. b ∷ k) ih)

  below : (k : ℕ) → k ≤ n → All (λ i. i < n) (sort r' (up_to k))
  unfolding up_to tab
  below zero h = unfold sort in unfold Rattle.arith.specs.Lists.fold in tt
  below (suc k) h = rw (sort-snoc r' (tab (λ i. i) k) k) (all_insert (λ i. i < n) r' _ k h (below k (omega arith)))

  pub sort-same : (k : ℕ) → k ≤ n → sort r (up_to k) ≡ sort r' (up_to k)
  unfolding up_to tab
  sort-same zero h = unfold sort in unfold Rattle.arith.specs.Lists.fold in refl
  sort-same (suc k) h =
      sort-snoc r (tab (λ i. i) k) k
      ∙ ap (λ (l : List ℕ). insert_before r l k) (sort-same k (omega arith))
      ∙ insert-same (sort r' (tab (λ i. i) k)) k h (below k (omega arith))
      ∙ sym (sort-snoc r' (tab (λ i. i) k) k)

-- ---- the places sorted by angle give the points sorted

vertices-map : (xs ys : List Float) (n : ℕ) → map (vertex_in xs ys) (up_to n) ≡ vertices_in xs ys n
unfolding up_to vertices_in
vertices-map xs ys n = map-tab (vertex_in xs ys) (λ i. i) n

module _ (c : Vec3) (xs ys : List Float) (q : List ℕ) (s : List Float) (n : ℕ) (ang : AnglesAboutExit c xs ys q s n) where
  angle-of-place : (i : ℕ) → i < n → angle_at (take n q) (take n s) i ≡ angle_of (about c (vertex_in xs ys i))
  unfolding angle_at
  angle-of-place i h = rw (get_or-take n q i 0 h, get_or-take n s i nan h) (ang.each i h)

  agree : (i j : ℕ) → i < n → j < n → earlier (take n q) (take n s) i j ≡ turns_about c (vertex_in xs ys i) (vertex_in xs ys j)
  unfolding earlier turns_about turns_before
  agree i j hi hj = rw (angle-of-place i hi, angle-of-place j hj)

  pub sorted-vertices : (places : List ℕ) → take n places ≡ sorted_places (take n q) (take n s) n → map (vertex_in xs ys) (take n places) ≡ sort (turns_about c) (vertices_in xs ys n)
  unfolding sorted_places
  sorted-vertices places e =
      ap (map (vertex_in xs ys)) (e ∙ sort-same (earlier (take n q) (take n s)) (λ i j. turns_about c (vertex_in xs ys i) (vertex_in xs ys j)) n agree n (omega arith))
      ∙ map-sort (vertex_in xs ys) (turns_about c) (up_to n)
      ∙ ap (sort (turns_about c)) (vertices-map xs ys n)

  -- after the sort: the first n places
  pub sorted_all : (places part : List ℕ) → length (take n q) ≡ n → part ≡ sorted_places (take n q) (take n s) (length (take n q))
      → (map (vertex_in xs ys) (take n (part ++ drop n places)) ≡ sort (turns_about c) (vertices_in xs ys n)) × ((k : ℕ) → k < n → get_or (part ++ drop n places) k 0 < n)
  sorted_all places part lq e =
      let l1 : length (sorted_places (take n q) (take n s) n) ≡ length (up_to n) = unfold sorted_places in length-sort (earlier (take n q) (take n s)) (up_to n) in
      let l2 : length (up_to n) ≡ n = unfold up_to in length-tab (λ i. i) n in
      let lp : length part ≡ n = ap length (rw lq at e) ∙ l1 ∙ l2 in
      let t : take n (part ++ drop n places) ≡ sorted_places (take n q) (take n s) n = take_at part (drop n places) n lp ∙ rw lq at e in
      (sorted-vertices (part ++ drop n places) t, λ k h. rw (get_or-take n (part ++ drop n places) k 0 h) at (place-below (take n q) (take n s) (part ++ drop n places) n k t h))

-- ---- storing, one point after another

pub record Storing (floats₀ floats xs ys : List Float) (places : List ℕ) (at n k : ℕ) : Type 0 where
  pub within : k ≤ n
  pub as_long : length floats ≡ length floats₀
  pub stored : pairs_from floats at k ≡ map (vertex_in xs ys) (take k places)
  pub before : take at floats ≡ take at floats₀

pub storing-start : (floats xs ys : List Float) (places : List ℕ) (at n : ℕ) → Storing floats floats xs ys places at n 0
unfolding pairs_from tab
storing-start floats xs ys places at n = record { within = omega arith; as_long = refl; stored = refl; before = refl }

pub pairs_next : (f : List Float) (at k : ℕ) (x y : Float) → at + 2 * k + 1 < length f
    → pairs_from (set (set f (at + 2 * k) x) (at + 2 * k + 1) y) at (k + 1) ≡ pairs_from f at k ++ pair x y ∷ []
unfolding pairs_from pair_from
pairs_next f at k x y h =
    let i : ℕ = at + 2 * k in
    let f' : List Float = set (set f i x) (i + 1) y in
    let in1 : i < length f = omega arith in
    let in2 : i + 1 < length (set f i x) = rw (length-set f i x) h in
    let ne : i ≡ i + 1 → ⊥ = λ w. omega arith in
    tab-next (λ j. pair (get_or f' (at + 2 * j) nan) (get_or f' (at + 2 * j + 1) nan)) k
    ∙ ap₂ (λ (a : List Vec2) (b : Vec2). a ++ b ∷ [])
    (tab-same _ (λ j. pair (get_or f (at + 2 * j) nan) (get_or f (at + 2 * j + 1) nan)) k
    (λ j l. ap₂ pair (kept j l (at + 2 * j) (omega arith)) (kept j l (at + 2 * j + 1) (omega arith))))
    (ap₂ pair (get_or-set_other (set f i x) (i + 1) i y nan ne ∙ get_or-set_same f i x nan in1) (get_or-set_same (set f i x) (i + 1) y nan in2))
  where
    kept : (j : ℕ) → j < k → (p : ℕ) → p < at + 2 * k → get_or (set (set f (at + 2 * k) x) (at + 2 * k + 1) y) p nan ≡ get_or f p nan
    kept j l p b =
        get_or-set_other (set f (at + 2 * k) x) (at + 2 * k + 1) p y nan (λ w. omega arith) ∙ get_or-set_other f (at + 2 * k) p x nan (λ w. omega arith)

pub storing-turn : (floats₀ floats xs ys : List Float) (places : List ℕ) (at n k j : ℕ) → Storing floats₀ floats xs ys places at n k → k < n → j ≡ get_or places k 0
    → k < length places → at + 2 * k + 1 < length floats₀
    → Storing floats₀ (set (set floats (at + 2 * k) (get_or xs j nan)) (at + 2 * k + 1) (get_or ys j nan)) xs ys places at n (k + 1)
storing-turn floats₀ floats xs ys places at n k j s h e long room =
    record {
      within = omega arith;
      as_long = simp length-set s.as_long;
      stored =
          let in-floats : at + 2 * k + 1 < length floats = rw s.as_long room in
          pairs_next floats at k (get_or xs j nan) (get_or ys j nan) in-floats
          ∙ ap₂ (λ (a : List Vec2) (b : Vec2). a ++ b ∷ []) s.stored (ap (vertex_in xs ys) e)
          ∙ sym (map-append (vertex_in xs ys) (take k places) (get_or places k 0 ∷ []))
          ∙ ap (map (vertex_in xs ys)) (sym (take-suc places k 0 long) ∙ ap (λ (m : ℕ). take m places) (sym (add-one k)));
      before =
          let le1 : at ≤ at + 2 * k = omega arith in
          let le2 : at ≤ at + 2 * k + 1 = omega arith in
          take-set-le at (set floats (at + 2 * k) (get_or xs j nan)) (at + 2 * k + 1) (get_or ys j nan) le2 ∙ take-set-le at floats (at + 2 * k) (get_or xs j nan) le1 ∙ s.before;
    }

pub storing-end : (floats₀ floats xs ys : List Float) (places : List ℕ) (at n k : ℕ) → Storing floats₀ floats xs ys places at n k → n ≤ k
    → (pairs_from floats at n ≡ map (vertex_in xs ys) (take n places)) × (take at floats ≡ take at floats₀)
storing-end floats₀ floats xs ys places at n k s h =
    let e : k ≡ n = le_antisymm s.within h in
    (subst (λ (m : ℕ). pairs_from floats at m ≡ map (vertex_in xs ys) (take m places)) e s.stored, s.before)
