-- Points by their angles. Assumes nothing.
use Prim.Native.Nat.{ℕ, zero, suc, ◌+◌, ◌≤◌, ◌<◌}
use native.Mathlib.Omega.{arith}
use native.Mathlib.Decide.{ℕ_discrete}
use mathlib.Core.Path.{◌≡◌, refl, ap, ap₂, sym, ◌∙◌}
use mathlib.Core.Bool.{Bool, true, false}
use mathlib.Core.List.{List, [], ◌∷◌, ◌++◌, map}
use lib.ListN.{length, get_or, take, set}
use lib.Seq.{get_or-set_same, get_or-set_other, take-suc, take-length}
use lib.Ieee.{Float, nan}
use Rattle.arith.specs.Lists.{fold, insert_before, sort}
use Rattle.arith.specs.Records.{tab, up_to}
use Rattle.arith_angles.specs.Sort.{angle_at, earlier, sorted_places}
use Rattle.arith_angles.specs.Angle.{precedes, turns_before}
use Rattle.arith_angles.specs.declared.Angle.{Angle}
use Rattle.arith.specs.declared.Vec3.{Vec3}
use Rattle.arith.proofs.All.{All, all_append, all_get_or, all_more}
use Rattle.arith.proofs.SortLaws.{map-sort, all_insert}
use Rattle.arith_angles.proofs.PlaceLaws.{places-below}
use Rattle.planes_cut.specs.declared.Plane.{Plane}
use Rattle.planes_sections.specs.Intersect.{earlier_on}
use Rattle.planes_crossings.specs.Ensures.{SliceLengths, slice_points, point_in}
use Rattle.planes_sections.specs.Ensures.{angle_on, AnglesOfExit, GatherEntry}

module _ {s : Plane} {centre : Vec3} {point : ℕ → Vec3} where
  pub angled-none : (q : List ℕ) (t : List Float) → AnglesOfExit s centre point 0 q t
  angled-none q t = record { quarter = λ i h. absurd (omega arith); slope = λ i h. absurd (omega arith) }

  pub angled-more : {q : List ℕ} {t : List Float} (n : ℕ) (a : Angle) → AnglesOfExit s centre point n q t → n < length q → n < length t →
      a ≡ angle_on s centre (point n) → AnglesOfExit s centre point (n + 1) (set q n a.quarter) (set t n a.slope)
  angled-more {q} {t} n a g lq lt e =
      record { quarter = λ i h. at-quarter i h (ℕ_discrete i n); slope = λ i h. at-slope i h (ℕ_discrete i n) }
    where
      at-quarter : (i : ℕ) → i < n + 1 → Dec (i ≡ n) → get_or (set q n a.quarter) i 0 ≡ (angle_on s centre (point i)).quarter
      at-quarter i h (yes w) = rw w (get_or-set_same q n a.quarter 0 lq ∙ ap (λ (b : Angle). b.quarter) e)
      at-quarter i h (no w) = get_or-set_other q n i a.quarter 0 w ∙ g.quarter i (omega arith)

      at-slope : (i : ℕ) → i < n + 1 → Dec (i ≡ n) → get_or (set t n a.slope) i nan ≡ (angle_on s centre (point i)).slope
      at-slope i h (yes w) = rw w (get_or-set_same t n a.slope nan lt ∙ ap (λ (b : Angle). b.slope) e)
      at-slope i h (no w) = get_or-set_other t n i a.slope nan w ∙ g.slope i (omega arith)

-- ---- two orders that agree on a list sort it alike

module _ {A : Type 0} (P : A → Type 0) (r r' : A → A → Bool) (same : (a b : A) → P a → P b → r a b ≡ r' a b) where
  insert-same : (l : List A) (a : A) → P a → All P l → insert_before r l a ≡ insert_before r' l a
  unfolding insert_before
  insert-same [] a p h = refl
  insert-same (b ∷ l) a p h = by (r' a b) (same a b p h.0) (insert-same l a p h.1)
    where
      by : (t : Bool) → r a b ≡ t → insert_before r l a ≡ insert_before r' l a → insert_before r (b ∷ l) a ≡ elim t [ true ↦ a ∷ b ∷ l | false ↦ b ∷ insert_before r' l a ]
      by true e ih = rw (e, insert_before)
      by false e ih = rw (e, insert_before) (ap {B = List A} (λ k. b ∷ k) ih)

  folds-same : (k l : List A) → All P k → All P l → fold (insert_before r) k l ≡ fold (insert_before r') k l
  unfolding fold
  folds-same k [] g h = refl
  folds-same k (a ∷ l) g h =
      ap (λ t. fold (insert_before r) t l) (insert-same k a h.0 g)
      ∙ folds-same (insert_before r' k a) l (all_insert P r' k a h.0 g) h.1

  pub sort-same : (l : List A) → All P l → sort r l ≡ sort r' l
  unfolding sort
  sort-same l h = folds-same [] l tt h

-- ---- sorting places by the angles sorts the points

pub up-below : (n : ℕ) → All (λ i. i < n) (up_to n)
unfolding up_to tab
up-below zero = tt
up-below (suc n) = all_append (λ i. i < suc n) (tab (λ i. i) n) (n ∷ []) (all_more (λ i. i < n) (λ i. i < suc n) (λ i h. omega arith) (up_to n) (up-below n)) (omega arith, tt)

pub map-tab : {A B : Type 0} (f : A → B) (g : ℕ → A) (n : ℕ) → map f (tab g n) ≡ tab (λ i. f (g i)) n
unfolding tab
map-tab f g zero = refl
map-tab f g (suc n) = mathlib.Core.List.map-append f (tab g n) (g n ∷ []) ∙ ap (λ l. l ++ f (g n) ∷ []) (map-tab f g n)

module _ (s : Plane) (centre : Vec3) (point : ℕ → Vec3) (n : ℕ) (q : List ℕ) (t : List Float) (g : AnglesOfExit s centre point n q t) where
  angle-same : (i : ℕ) → i < n → angle_at q t i ≡ angle_on s centre (point i)
  unfolding angle_at
  angle-same i h =
      ap₂ (λ (a : ℕ) (b : Float). record { quarter = a; slope = b })
      (g.quarter i h) (g.slope i h)

  pub places-sorted : map point (sorted_places q t n) ≡ sort (earlier_on s centre) (tab point n)
  unfolding sorted_places up_to earlier earlier_on turns_before angle_on
  places-sorted =
      ap (map point)
      (sort-same (λ i. i < n) (earlier q t) (λ i j. earlier_on s centre (point i) (point j))
      (λ a b ha hb. ap₂ precedes (angle-same a ha) (angle-same b hb)) (up_to n) (up-below n))
      ∙ map-sort point (earlier_on s centre) (up_to n)
      ∙ ap (sort (earlier_on s centre)) (map-tab point (λ i. i) n)

-- ---- the points at the places

tab-take : {A : Type 0} (f : ℕ → A) (l : List ℕ) (k : ℕ) → k ≤ length l → tab (λ i. f (get_or l i 0)) k ≡ map f (take k l)
unfolding tab
tab-take f l zero h = refl
tab-take f l (suc k) h =
    let here : k < length l = omega arith in
    ap (λ t. t ++ f (get_or l k 0) ∷ []) (tab-take f l k (omega arith))
    ∙ sym (ap (map f) (take-suc l k 0 here) ∙ mathlib.Core.List.map-append f (take k l) (get_or l k 0 ∷ []))

pub tab-map : {A : Type 0} (f : ℕ → A) (l : List ℕ) → tab (λ i. f (get_or l i 0)) (length l) ≡ map f l
tab-map f l = tab-take f l (length l) (omega arith) ∙ ap (map f) (take-length l)

positive : (q : List ℕ) (t : List Float) (n i : ℕ) → i < length (sorted_places q t n) → 0 < n
unfolding sorted_places up_to tab sort fold
positive q t zero i b = absurd (omega arith)
positive q t (suc n) i b = omega arith

pub sorted-within : (q : List ℕ) (t : List Float) (n : ℕ) (px py pz : List Float) (places : List ℕ) → SliceLengths px py pz n → places ≡ sorted_places q t n → GatherEntry px py pz places
sorted-within q t n px py pz places h e = record { within = at }
  where
    below : (i : ℕ) → i < length places → get_or places i 0 < n
    below i b =
        let some : 0 < n = positive q t n i (rw e at b) in
        rw e (all_get_or (λ k. k < n) (sorted_places q t n) i 0 some (places-below q t n))

    at : (i : ℕ) → i < length places → SliceLengths px py pz (get_or places i 0 + 1)
    at i b =
        let l = below i b in
        record { in-x = omega (arith, h.in-x); in-y = omega (arith, h.in-y); in-z = omega (arith, h.in-z) }

pub arranged : (s : Plane) (centre : Vec3) (px py pz x y z : List Float) (n : ℕ) (q places : List ℕ) (t : List Float) → AnglesOfExit s centre (point_in px py pz) n q t →
    places ≡ sorted_places q t n → length places ≡ n → slice_points x y z (length places) ≡ tab (λ i. point_in px py pz (get_or places i 0)) (length places) →
    slice_points x y z n ≡ sort (earlier_on s centre) (slice_points px py pz n)
unfolding slice_points
arranged s centre px py pz x y z n q places t g e len h =
    ap (tab (point_in x y z)) (sym len)
    ∙ h
    ∙ tab-map (point_in px py pz) places
    ∙ ap (map (point_in px py pz)) e
    ∙ places-sorted s centre (point_in px py pz) n q t g
