-- Points held in three slices, as a list. Assumes nothing.
use Prim.Native.Nat.{ℕ, ◌+◌, ◌-◌, ◌≤◌, ◌<◌}
use native.Mathlib.Omega.{arith}
use mathlib.Core.Path.{◌≡◌, refl, ap, ap₂, sym, ◌∙◌}
use mathlib.Core.Bool.{Bool, true, false}
use mathlib.Core.List.{List, [], ◌∷◌, ◌++◌}
use lib.ListN.{length, drop}
use lib.Seq.{get_or-set_same, get_or-set_other, drop-set-lt, drop-drop}
use lib.Ieee.{Float, nan}
use Rattle.arith.specs.Lists.{fold, any_of, add_new, Side, windows}
use Rattle.arith.specs.Records.{tab}
use Rattle.arith.specs.declared.Vec3.{Vec3}
use Rattle.planes_cut.proofs.Turns.{Here, Past, window-turn}
use Rattle.arith.proofs.RecordLaws.{length-tab, drop-tab, tab-next, tab-same}
use Rattle.planes_crossings.specs.Ensures.{point_in, slice_points, SliceLengths, StoreExit, SlicesKept, PointList}

module _ (x y z : List Float) (n : ℕ) where
  pub length-held : length (slice_points x y z n) ≡ n
  unfolding slice_points
  length-held = length-tab (point_in x y z) n

  -- what is left at i
  pub held-left : (i : ℕ) → i < n → Here (slice_points x y z n) i (point_in x y z i)
  unfolding slice_points
  held-left i h = record { left = drop-tab (point_in x y z) n i h }

  pub held-past : (i : ℕ) → n ≤ i → Past (slice_points x y z n) i
  held-past i h = record { end = rw length-held h }

-- one more point
module _ {x y z x' y' z' : List Float} (n : ℕ) {p : Vec3} (room : SliceLengths x y z (n + 1)) (s : StoreExit x y z x' y' z' n p) where
  stored_at : point_in x' y' z' n ≡ p
  unfolding point_in
  stored_at =
      let a : n < length x = omega (arith, room.in-x) in
      let b : n < length y = omega (arith, room.in-y) in
      let c : n < length z = omega (arith, room.in-z) in
      rw (s.of-x, s.of-y, s.of-z, get_or-set_same x n p.x nan a, get_or-set_same y n p.y nan b, get_or-set_same z n p.z nan c)

  stored_other : (k : ℕ) → k < n → point_in x' y' z' k ≡ point_in x y z k
  unfolding point_in
  stored_other k h =
      let ne : k ≡ n → ⊥ = λ e. omega arith in
      rw (s.of-x, s.of-y, s.of-z, get_or-set_other x n k p.x nan ne, get_or-set_other y n k p.y nan ne, get_or-set_other z n k p.z nan ne)

  pub held_more : slice_points x' y' z' (n + 1) ≡ slice_points x y z n ++ p ∷ []
  unfolding slice_points
  held_more =
      tab-next (point_in x' y' z') n
      ∙ ap₂ (λ a b. a ++ b ∷ []) (tab-same (point_in x' y' z') (point_in x y z) n stored_other) stored_at

-- ---- what stands behind the points

pub rest-same : {x y z : List Float} {n : ℕ} → SlicesKept x y z x y z n
rest-same = record { of-x = refl; of-y = refl; of-z = refl }

pub rest-stored : {x y z x' y' z' : List Float} {n k : ℕ} {p : Vec3} → n < k → StoreExit x y z x' y' z' n p → SlicesKept x y z x' y' z' k
rest-stored {x} {y} {z} {n = n} {k = k} {p = p} h s =
    record {
      of-x = rw s.of-x (drop-set-lt k x n p.x h);
      of-y = rw s.of-y (drop-set-lt k y n p.y h);
      of-z = rw s.of-z (drop-set-lt k z n p.z h);
    }

pub rest-as : {x y z x' y' z' : List Float} {n k : ℕ} → n ≡ k → SlicesKept x y z x' y' z' n → SlicesKept x y z x' y' z' k
rest-as {x} {y} {z} {x'} {y'} {z'} e h = mathlib.Core.Path.subst (λ (t : ℕ). SlicesKept x y z x' y' z' t) e h

later : (a b : List Float) (n k : ℕ) → n ≤ k → drop n a ≡ drop n b → drop k a ≡ drop k b
later a b n k h e =
    let d : n + (k - n) ≡ k = omega arith in
    ap (λ (i : ℕ). drop i a) (sym d) ∙ sym (drop-drop (k - n) n a) ∙ ap (drop (k - n)) e ∙ drop-drop (k - n) n b ∙ ap (λ (i : ℕ). drop i b) d

pub rest_then : {x y z x' y' z' x'' y'' z'' : List Float} {n k : ℕ} → n ≤ k → SlicesKept x y z x' y' z' n → SlicesKept x' y' z' x'' y'' z'' k → SlicesKept x y z x'' y'' z'' k
rest_then {n = n} {k = k} h a b =
    record {
      of-x = b.of-x ∙ later _ _ n k h a.of-x;
      of-y = b.of-y ∙ later _ _ n k h a.of-y;
      of-z = b.of-z ∙ later _ _ n k h a.of-z;
    }

-- ---- the point is added, unless one is like it

module _ (like : Vec3 → Vec3 → Bool) (p : Vec3) {t : Bool} where
  pub kept-old : (x y z : List Float) (n : ℕ) → t ≡ any_of (like p) (slice_points x y z n) → t ≡ true → PointList (add_new like (slice_points x y z n) p) x y z x y z n n (n + 1)
  unfolding add_new
  kept-old x y z n e h = record { list = rw (sym e ∙ h); more = omega arith; few = omega arith; rest = rest-same }

  pub added_new : {x y z x' y' z' : List Float} (n : ℕ) → t ≡ any_of (like p) (slice_points x y z n) → t ≡ false → SliceLengths x y z (n + 1) →
      StoreExit x y z x' y' z' n p → PointList (add_new like (slice_points x y z n) p) x y z x' y' z' n (n + 1) (n + 1)
  unfolding add_new
  added_new n e h room s =
      record { list = rw (sym e ∙ h) (held_more n room s); more = omega arith; few = omega arith; rest = rest-stored (omega arith) s }

-- a point and the next one
module _ {B : Type 0} (f : B → Side Vec3 → B) (x y z : List Float) (n i : ℕ) (more : i + 1 < n) where
  pub held-window : (p q : Vec3) → p ≡ point_in x y z i → q ≡ point_in x y z (i + 1) → (s : B) {s' w : B} →
      fold f s (windows (drop i (slice_points x y z n))) ≡ w → s' ≡ f s (record { from = p; to = q }) → fold f s' (windows (drop (i + 1) (slice_points x y z n))) ≡ w
  held-window p q ep eq s inv e =
      let here : i < n = omega arith in
      window-turn f (slice_points x y z n) i (point_in x y z i) (point_in x y z (i + 1)) (held-left x y z n i here).left (held-left x y z n (i + 1) more).left s inv
      (e ∙ ap₂ (λ a b. f s (record { from = a; to = b })) ep eq)

-- the points at some places, one more
pub gathered-more : (g : ℕ → Vec3) {x y z x' y' z' : List Float} (i : ℕ) {p : Vec3} → SliceLengths x y z (i + 1) → StoreExit x y z x' y' z' i p → p ≡ g i →
    slice_points x y z i ≡ tab g i → slice_points x' y' z' (i + 1) ≡ tab g (i + 1)
gathered-more g i room s e h = held_more i room s ∙ ap₂ (λ a b. a ++ b ∷ []) h e ∙ sym (tab-next g i)

pub holds_as : {x y z : List Float} {n k : ℕ} → n ≡ k → SliceLengths x y z n → SliceLengths x y z k
holds_as {x} {y} {z} e h = mathlib.Core.Path.subst (λ (t : ℕ). SliceLengths x y z t) e h
