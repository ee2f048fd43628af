-- Laws of `specs.Records`: read back a tabulated area, lend a part, store a record at a stride.
-- Assumes nothing.
use Rattle.std.proofs.Common.{◌≡◌, ℕ, zero, suc, ◌+◌, ◌-◌, ◌*◌, ◌<◌, ◌≤◌, ◌≢◌, ◌⊎◌, List, [], ◌∷◌, ◌++◌, length, get_or, take, drop, set, sym, refl, ap, ◌∙◌, subst, inl, inr, ⊎_elim, le_trans, le_refl, le_of_suc-le-suc, not-suc-le-zero, add-zero, le_of_lt, eq-or-lt_of_le, mul-le-mul_left, mul-suc, add-one, arith, length-append, length-drop, length-set, length-take-le, get_or-drop, drop-cons, get_or-set_other, get_or-take, get_or-set_same, drop-drop, take_at}
use native.Mathlib.Nat.{add-sub_cancel_left}
use native.Mathlib.Decide.{dec_lt}
use lib.ListN.{get_or-append}
use lib.Seq.{get_or-append_seam, take-set-le, take-nil}
use borrow.Rule.Slice.PartMut.{drop_put}
use Rattle.arith.specs.Records.{tab, part, puts, puts_from, chunk, patch}

-- ---- counting: the code's i + 1 and n - i

-- what is left of n at i, one step on
pub left-suc : (n i : ℕ) → i < n → n - i ≡ suc (n - (i + 1))
left-suc n i h = omega arith

pub lt-or-ge : (a b : ℕ) → (a < b) ⊎ (b ≤ a)
lt-or-ge a b = by (dec_lt a b)
  where
    by : Dec (a < b) → (a < b) ⊎ (b ≤ a)
    by (yes h) = inl h
    by (no h) = inr (omega arith)

-- ---- strides: record i of s elements

pub stride-le : (s : ℕ) {i j : ℕ} → j < i → s * j + s ≤ s * i
stride-le s {i} {j} h = subst (λ (n : ℕ). n ≤ s * i) (mul-suc s j) (mul-le-mul_left s h)

module _ {A : Type 0} where
  -- ---- tab

  pub length-tab : (f : ℕ → A) (n : ℕ) → length (tab f n) ≡ n
  unfolding tab
  length-tab f zero = refl
  length-tab f (suc n) = length-append (tab f n) (f n ∷ []) ∙ ap (λ (k : ℕ). k + 1) (length-tab f n) ∙ add-one n

  pub tab-next : (f : ℕ → A) (n : ℕ) → tab f (n + 1) ≡ tab f n ++ (f n ∷ [])
  unfolding tab
  tab-next f n = ap (tab f) (add-one n)

  -- two areas that read the same below n
  pub tab-same : (f g : ℕ → A) (n : ℕ) → ((k : ℕ) → k < n → f k ≡ g k) → tab f n ≡ tab g n
  unfolding tab
  tab-same f g zero h = refl
  tab-same f g (suc n) h =
      rw (tab-same f g n (λ k l. h k (le_trans l (le_of_lt (le_refl (suc n)))))) (rw (h n (le_refl (suc n))))

  pub get_or-tab : (f : ℕ → A) (n k : ℕ) (d : A) → k < n → get_or (tab f n) k d ≡ f k
  unfolding tab
  get_or-tab f zero k d h = absurd (not-suc-le-zero h)
  get_or-tab f (suc n) k d h =
      ⊎_elim
      (λ e. subst (λ (m : ℕ). get_or (tab f n ++ (f n ∷ [])) m d ≡ f m) (length-tab f n ∙ sym e) (get_or-append_seam (tab f n) (f n) [] d ∙ ap f (sym (length-tab f n))))
      (λ l. get_or-append (tab f n) (f n ∷ []) d k (subst (λ (m : ℕ). k < m) (sym (length-tab f n)) l) ∙ get_or-tab f n k d l)
      (eq-or-lt_of_le (le_of_suc-le-suc h))

  -- a loop over the records: the one at i, then the rest
  pub drop-tab : (f : ℕ → A) (n i : ℕ) → i < n → drop i (tab f n) ≡ f i ∷ drop (i + 1) (tab f n)
  drop-tab f n i h =
      drop-cons (tab f n) i (f i) (subst (λ (m : ℕ). i < m) (sym (length-tab f n)) h)
      ∙ ap (λ (x : A). x ∷ drop (suc i) (tab f n)) (get_or-tab f n i (f i) h)
      ∙ ap (λ (m : ℕ). f i ∷ drop m (tab f n)) (sym (add-one i))

  -- ---- drop i l, for a loop over a slice: the element at i, then the rest

  pub drop-next : (l : List A) (i : ℕ) (d : A) → i < length l → drop i l ≡ get_or l i d ∷ drop (i + 1) l
  drop-next l i d h = drop-cons l i d h ∙ ap (λ (m : ℕ). get_or l i d ∷ drop m l) (sym (add-one i))

  pub drop-end : (l : List A) (i : ℕ) → length l ≤ i → drop i l ≡ []
  drop-end [] zero h = refl
  drop-end [] (suc i) h = refl
  drop-end (x ∷ l) zero h = absurd (not-suc-le-zero h)
  drop-end (x ∷ l) (suc i) h = drop-end l i (le_of_suc-le-suc h)

  -- two lists that are the same before b, read below b
  pub same-below : (l l' : List A) (b j : ℕ) (d : A) → take b l' ≡ take b l → j < b → get_or l' j d ≡ get_or l j d
  same-below l l' b j d e h = sym (get_or-take b l' j d h) ∙ ap (λ (t : List A). get_or t j d) e ∙ get_or-take b l j d h

  pub take-drop-take : (l : List A) (b a n : ℕ) → a + n ≤ b → take n (drop a (take b l)) ≡ take n (drop a l)
  take-drop-take [] b a n h = rw (take-nil b)
  take-drop-take (x ∷ l) zero zero zero h = refl
  take-drop-take (x ∷ l) zero zero (suc n) h = absurd (no n h)
    where
      no : (n : ℕ) → 0 + suc n ≤ 0 → ⊥
      no n h = omega arith
  take-drop-take (x ∷ l) zero (suc a) n h = absurd (no a n h)
    where
      no : (a n : ℕ) → suc a + n ≤ 0 → ⊥
      no a n h = omega arith
  take-drop-take (x ∷ l) (suc b) zero zero h = refl
  take-drop-take (x ∷ l) (suc b) zero (suc n) h = ap (λ (t : List A). x ∷ t) (take-drop-take l b zero n (less b n h))
    where
      less : (b n : ℕ) → 0 + suc n ≤ suc b → 0 + n ≤ b
      less b n h = omega arith
  take-drop-take (x ∷ l) (suc b) (suc a) n h = take-drop-take l b a n (less a b n h)
    where
      less : (a b n : ℕ) → suc a + n ≤ suc b → a + n ≤ b
      less a b n h = omega arith

  -- ---- part

  pub length_part : (l : List A) (at n : ℕ) → at + n ≤ length l → length (part l at n) ≡ n
  length_part l at n h = length-take-le n (drop at l) (simp length-drop (omega arith))

  pub get_or_part : (l : List A) (at n k : ℕ) (d : A) → k < n → get_or (part l at n) k d ≡ get_or l (at + k) d
  get_or_part l at n k d h = get_or-take n (drop at l) k d h ∙ get_or-drop at l k d

  -- ---- puts

  pub length-puts_from : (vs l : List A) (at k : ℕ) → length (puts_from l at k vs) ≡ length l
  length-puts_from [] l at k = refl
  length-puts_from (v ∷ vs) l at k = length-puts_from vs (set l (at + k) v) at (suc k) ∙ length-set l (at + k) v

  pub length-puts : (l : List A) (at : ℕ) (vs : List A) → length (puts l at vs) ≡ length l
  length-puts l at [] = refl
  length-puts l at (v ∷ vs) = length-puts_from vs (set l at v) at 1 ∙ length-set l at v

  -- outside of at + k .. at + k + length vs nothing changes
  get_or-puts_from-out : (vs l : List A) (at k j : ℕ) (d : A) → (j < at + k) ⊎ (at + k + length vs ≤ j) → get_or (puts_from l at k vs) j d ≡ get_or l j d
  get_or-puts_from-out [] l at k j d h = refl
  get_or-puts_from-out (v ∷ vs) l at k j d h =
      get_or-puts_from-out vs (set l (at + k) v) at (suc k) j d (⊎_elim (λ a. inl (lower a)) (λ b. inr (upper b)) h)
      ∙ get_or-set_other l (at + k) j v d (⊎_elim ne₁ ne₂ h)
    where
      lower : j < at + k → j < at + suc k
      lower a = omega arith

      upper : at + k + suc (length vs) ≤ j → at + suc k + length vs ≤ j
      upper b = omega arith

      ne₁ : j < at + k → j ≡ at + k → ⊥
      ne₁ a e = omega arith

      ne₂ : at + k + suc (length vs) ≤ j → j ≡ at + k → ⊥
      ne₂ b e = omega arith

  get_or-puts_from-in : (vs l : List A) (at k j : ℕ) (d : A) → j < length vs → at + k + length vs ≤ length l → get_or (puts_from l at k vs) (at + k + j) d ≡ get_or vs j d
  get_or-puts_from-in [] l at k j d h r = absurd (not-suc-le-zero h)
  get_or-puts_from-in (v ∷ vs) l at k zero d h r =
      ap (λ (m : ℕ). get_or (puts_from (set l (at + k) v) at (suc k) vs) m d) (add-zero (at + k))
      ∙ get_or-puts_from-out vs (set l (at + k) v) at (suc k) (at + k) d (inl below)
      ∙ get_or-set_same l (at + k) v d fits
    where
      below : at + k < at + suc k
      below = omega arith

      fits : at + k < length l
      fits = omega arith
  get_or-puts_from-in (v ∷ vs) l at k (suc j) d h r =
      ap (λ (m : ℕ). get_or (puts_from (set l (at + k) v) at (suc k) vs) m d) moved
      ∙ get_or-puts_from-in vs (set l (at + k) v) at (suc k) j d (le_of_suc-le-suc h) (rw length-set room)
    where
      moved : at + k + suc j ≡ at + suc k + j
      moved = omega arith

      room : at + suc k + length vs ≤ length l
      room = omega arith

  pub get_or-puts-out : (l : List A) (at : ℕ) (vs : List A) (j : ℕ) (d : A) → (j < at) ⊎ (at + length vs ≤ j) → get_or (puts l at vs) j d ≡ get_or l j d
  get_or-puts-out l at [] j d h = refl
  get_or-puts-out l at (v ∷ vs) j d h =
      get_or-puts_from-out vs (set l at v) at 1 j d (⊎_elim (λ a. inl (lower a)) (λ b. inr (upper b)) h)
      ∙ get_or-set_other l at j v d (⊎_elim ne₁ ne₂ h)
    where
      lower : j < at → j < at + 1
      lower a = omega arith

      upper : at + suc (length vs) ≤ j → at + 1 + length vs ≤ j
      upper b = omega arith

      ne₁ : j < at → j ≡ at → ⊥
      ne₁ a e = omega arith

      ne₂ : at + suc (length vs) ≤ j → j ≡ at → ⊥
      ne₂ b e = omega arith

  -- the first of the stored run
  pub get_or-puts-first : (l : List A) (at : ℕ) (v : A) (vs : List A) (d : A) → at + suc (length vs) ≤ length l → get_or (puts l at (v ∷ vs)) at d ≡ v
  get_or-puts-first l at v vs d r =
      get_or-puts_from-out vs (set l at v) at 1 at d (inl below) ∙ get_or-set_same l at v d fits
    where
      below : at < at + 1
      below = omega arith

      fits : at < length l
      fits = omega arith

  -- the one at k
  pub get_or-puts-at : (l : List A) (at : ℕ) (vs : List A) (k : ℕ) (d : A) → k < length vs → at + length vs ≤ length l → get_or (puts l at vs) (at + k) d ≡ get_or vs k d
  get_or-puts-at l at [] k d h r = absurd (not-suc-le-zero h)
  get_or-puts-at l at (v ∷ vs) zero d h r = ap (λ (m : ℕ). get_or (puts l at (v ∷ vs)) m d) (add-zero at) ∙ get_or-puts-first l at v vs d r
  get_or-puts-at l at (v ∷ vs) (suc k) d h r =
      ap (λ (m : ℕ). get_or (puts l at (v ∷ vs)) m d) moved
      ∙ get_or-puts_from-in vs (set l at v) at 1 k d (le_of_suc-le-suc h) (rw length-set room)
    where
      moved : at + suc k ≡ at + 1 + k
      moved = omega arith

      room : at + 1 + length vs ≤ length l
      room = omega arith

  -- what stands before a stored run stays
  take-puts_from : (vs l : List A) (at k b : ℕ) → b ≤ at + k → take b (puts_from l at k vs) ≡ take b l
  take-puts_from [] l at k b h = refl
  take-puts_from (v ∷ vs) l at k b h = take-puts_from vs (set l (at + k) v) at (suc k) b more ∙ take-set-le b l (at + k) v h
    where
      more : b ≤ at + suc k
      more = omega arith

  pub take-puts : (l : List A) (at : ℕ) (vs : List A) → take at (puts l at vs) ≡ take at l
  take-puts l at [] = refl
  take-puts l at (v ∷ vs) = take-puts_from vs (set l at v) at 1 at (omega arith) ∙ take-set-le at l at v (le_refl at)

  -- ---- a record of s elements lent as `&mut l[s * i..s * i + s]`: what is lent, and what stands there when it is back

  pub chunk-lent : (l : List A) (s i : ℕ) → take (s * i + s - s * i) (drop (s * i) l) ≡ chunk l s i
  chunk-lent l s i = rw (add-sub_cancel_left (s * i) s)

  pub length-chunk : (l : List A) (s i : ℕ) → s * i + s ≤ length l → length (chunk l s i) ≡ s
  length-chunk l s i h = length-take-le s (drop (s * i) l) (simp length-drop (omega arith))

  pub get_or_chunk : (l : List A) (s i k : ℕ) (d : A) → k < s → get_or (chunk l s i) k d ≡ get_or l (s * i + k) d
  get_or_chunk l s i k d h = get_or-take s (drop (s * i) l) k d h ∙ get_or-drop (s * i) l k d

  module _ (l m : List A) (s i : ℕ) (room : s * i + s ≤ length l) (long : length m ≡ s) where
    before : length (take (s * i) l) ≡ s * i
    before = length-take-le (s * i) l (omega arith)

    -- record j is as it was
    pub chunk-other : (j : ℕ) → j ≢ i → chunk (patch (s * i) (s * i + s - s * i) l m) s j ≡ chunk l s j
    chunk-other j ne =
        ⊎_elim (λ lt. lower (stride-le s lt)) (λ ge. ⊎_elim (λ e. absurd (ne (sym e))) (λ gt. upper (stride-le s gt)) (eq-or-lt_of_le ge)) (lt-or-ge j i)
      where
        -- a chunk that ends by b is one of `take b`, and one that starts from b on is one of `drop b`
        in_take : (b : ℕ) (x : List A) → s * j + s ≤ b → chunk x s j ≡ chunk (take b x) s j
        in_take b x h = sym (take-drop-take x b (s * j) s h)

        in-drop : (b : ℕ) (x : List A) → b ≤ s * j → chunk x s j ≡ take s (drop (s * j - b) (drop b x))
        in-drop b x h = sym (ap (λ (z : List A). take s z) (drop-drop (s * j - b) b x ∙ ap (λ (n : ℕ). drop n x) (back b h)))
          where
            back : (b : ℕ) → b ≤ s * j → b + (s * j - b) ≡ s * j
            back b h = omega arith

        lower : s * j + s ≤ s * i → chunk (patch (s * i) (s * i + s - s * i) l m) s j ≡ chunk l s j
        lower h =
            in_take (s * i) _ h
            ∙ ap (λ (z : List A). chunk z s j) (take_at (take (s * i) l) _ (s * i) before)
            ∙ sym (in_take (s * i) l h)

        upper : s * i + s ≤ s * j → chunk (patch (s * i) (s * i + s - s * i) l m) s j ≡ chunk l s j
        upper h =
            in-drop (s * i + s) _ h
            ∙ ap (λ (z : List A). take s (drop (s * j - (s * i + s)) z)) (drop_put (s * i) (s * i + s) l m (omega arith) room (long ∙ sym (add-sub_cancel_left (s * i) s)))
            ∙ sym (in-drop (s * i + s) l h)
