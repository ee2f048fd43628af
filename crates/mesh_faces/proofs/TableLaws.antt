-- Laws of the table: one face more, a second cell, and the three answers. Assumes nothing.
use mathlib.Core.Path.{◌≡◌, refl, sym, ap, ap₂, ◌∙◌, subst}
use mathlib.Core.Bool.{Bool, true, false}
use mathlib.Core.Logic.{◌≢◌, ◌⊎◌, inl, inr}
use mathlib.Core.List.{List, [], ◌∷◌, ◌++◌}
use Prim.Native.Nat.{ℕ, zero, suc, ◌+◌, ◌-◌, ◌*◌, ◌%◌, ◌<◌, ◌≤◌}
use native.Mathlib.Nat.{mod-lt, lt_irrefl, le_refl, le_of_lt, le_of_suc-le-suc, eq-or-lt_of_le, not-suc-le-zero, add-zero}
use native.Mathlib.Numerals.{add-one}
use native.Mathlib.Decide.{ℕ_discrete}
use native.Mathlib.Omega.{arith}
use borrow.Author.Tests.{eq-eqb, ne_eqb}
use lib.Dec.{eqb}
use lib.ListN.{length, get_or, take, drop, set, length-set}
use lib.Seq.{sets, get_or-set_same, get_or-set_other, get_or-drop, drop-set-add, take-set-le, set_at, set-append_left}
use lib.Ieee.{Float}
use Rattle.arith.specs.Lists.{first_from, same, sorted}
use Rattle.arith.specs.Records.{chunk, tab}
use Rattle.arith.proofs.RecordLaws.{tab-next, tab-same, get_or-tab, length-tab}
use Rattle.mesh_area.specs.Tables.{Face, face_at, no_face}
use Rattle.mesh_area.proofs.LayoutLaws.{found_none, found-one}
use Rattle.mesh_keys.specs.Keys.{total}
use Rattle.mesh_keys.proofs.KeyLaws.{same_true, same_self}
use Rattle.mesh_geometry.specs.declared.FaceGeometry.{FaceGeometry}
use Rattle.mesh_face_table.specs.Records.{FaceWords, face_words_of, face_words_in, measured_in, face_of, table_in, head_in, new_face_at, floats_of}
use Rattle.mesh_face_table.proofs.RecordParts.{joined}
use Rattle.mesh_face_table.proofs.RecordParts.{fresh}
use Rattle.mesh_face_table.specs.Chains.{last, bucket_of, in_bucket, key_at, Chains}
use Rattle.mesh_face_table.proofs.Last.{last-hit, last-miss, last-same, last-passes, last_none}
use Rattle.mesh_face_table.proofs.RecordParts.{FaceStored, MeasuredStored, face-stored, other-stored, measured-stored}
use Rattle.mesh_face_table.proofs.ChainLaws.{Linked, chains-same}
use Rattle.mesh_faces.specs.Table.{has_key, face_with_key, new_face, with_neighbour, joining, settled, use_face}
use Rattle.mesh_faces.specs.declared.Added.TheVariants.{New, Second, Third}
use Rattle.mesh_faces.specs.Ensures.{AddEntry, words_after, floats_after, AddExit, SettleExit}
use Rattle.std.specs.Prelude.{Some, None}

-- ---- what a store leaves

-- a record that ends before the stored word
chunk-before : (w : List ℕ) (k v j : ℕ) → 12 * j + 12 ≤ k → chunk (set w k v) 12 j ≡ chunk w 12 j
chunk-before w k v j h =
    let e : k ≡ 12 * j + (k - 12 * j) = omega arith in
    let far : 12 ≤ k - 12 * j = omega arith in
    ap (λ (i : ℕ). chunk (set w i v) 12 j) e ∙ ap (take 12) (drop-set-add (12 * j) w (k - 12 * j) v) ∙ take-set-le 12 (drop (12 * j) w) (k - 12 * j) v far

-- what stands from b on
rest_at : (w w' : List ℕ) (b i : ℕ) → drop b w' ≡ drop b w → b ≤ i → get_or w' i 0 ≡ get_or w i 0
rest_at w w' b i h le =
    let e : i ≡ b + (i - b) = omega arith in
    ap (λ (k : ℕ). get_or w' k 0) e ∙ sym (get_or-drop b w' (i - b) 0) ∙ ap (λ (l : List ℕ). get_or l (i - b) 0) h ∙ get_or-drop b w (i - b) 0
    ∙ ap (λ (k : ℕ). get_or w k 0) (sym e)

-- ---- one face more

face-new : (vertices : List ℕ) (m : FaceGeometry) (cell link : ℕ) → face_of (fresh vertices cell link) m ≡ new_face cell vertices m
unfolding face_of new_face
face-new vertices m cell link = rw (← found_none 0 refl)

module _ (w w₁ w₂ : List ℕ) (fl fl' : List Float) (slots n s link place : ℕ) (vertices : List ℕ) (m : FaceGeometry) (cell : ℕ)
    (rd : AddEntry w fl slots n vertices cell) (es : s ≡ total vertices) (el : link ≡ head_in w slots (s % slots))
    (ef : w₁ ≡ new_face_at w (12 * n) vertices cell link) (long : length w₁ ≡ length w) (ep : place ≡ n)
    (h : w₂ ≡ set w₁ (12 * slots + s % slots) (place + 1)) (eg : fl' ≡ sets fl (12 * n) (floats_of m)) where
  f : FaceStored w w₁ n (fresh vertices cell link)
  f = face-stored w w₁ vertices n cell link (let r = rd.chains.room in let l = rd.space in omega arith) rd.short long ef

  g : MeasuredStored fl fl' n m
  g = measured-stored fl fl' n m (let r = rd.floats in let l = rd.space in omega arith) eg

  some : 0 < slots
  some = let l = rd.space in omega arith

  bucket : s % slots < slots
  bucket = mod-lt s some

  stays : (j : ℕ) → j < slots → face_words_in w₂ j ≡ face_words_in w₁ j
  unfolding face_words_in
  stays j l = rw h (ap face_words_of (chunk-before w₁ (12 * slots + s % slots) (place + 1) j (omega arith)))

  old : (j : ℕ) → j < n → face_words_in w₂ j ≡ face_words_in w j
  old j l = stays j (let r = rd.space in omega arith) ∙ f.others j (λ e. lt_irrefl n (subst (λ (k : ℕ). k < n) e l))

  new : face_words_in w₂ n ≡ fresh vertices cell link
  new = stays n rd.space ∙ f.here

  old-measured : (j : ℕ) → j < n → measured_in fl' j ≡ measured_in fl j
  old-measured j l = g.others j (λ e. lt_irrefl n (subst (λ (k : ℕ). k < n) e l))

  head-here : head_in w₂ slots (s % slots) ≡ place + 1
  unfolding head_in
  head-here = rw h (get_or-set_same w₁ (12 * slots + s % slots) (place + 1) 0 (let r = rd.chains.room in let b = bucket in omega arith))

  head-other : (b : ℕ) → (b ≡ s % slots → ⊥) → head_in w₂ slots b ≡ head_in w slots b
  unfolding head_in
  head-other b ne =
      let far : 12 * slots + b ≡ 12 * slots + s % slots → ⊥ = λ e. ne (omega arith) in
      rw h (get_or-set_other w₁ (12 * slots + s % slots) (12 * slots + b) (place + 1) 0 far)
      ∙ rest_at w w₁ (12 * n + 12) (12 * slots + b) f.rest (let r = rd.space in omega arith)

  -- the same faces below k are in a bucket
  agree : (b k : ℕ) → k ≤ n → last (in_bucket (face_words_in w₂) slots b) k ≡ last (in_bucket (face_words_in w) slots b) k
  agree b k le = last-same _ _ k (λ j l. rw (old j (omega arith)))

  below : (k : ℕ) → k < n + 1 → (k ≡ n) ⊎ (k < n)
  below k l = eq-or-lt_of_le (le_of_suc-le-suc (rw (add-one n) at l))

  at-short : (k : ℕ) → (k ≡ n) ⊎ (k < n) → (face_words_in w₂ k).count ≤ 8
  at-short k (inl e) = rw (e, new) rd.short
  at-short k (inr lt) = rw (old k lt) (rd.chains.short k lt)

  at-link : (k : ℕ) → (k ≡ n) ⊎ (k < n) → (face_words_in w₂ k).link ≡ last (in_bucket (face_words_in w₂) slots (bucket_of slots (face_words_in w₂ k).vertices)) k
  at-link k (inl e) =
      rw (e, new) (el ∙ rd.chains.heads (s % slots) bucket ∙ rw es (sym (agree (bucket_of slots vertices) n (le_refl n))))
  at-link k (inr lt) = rw (old k lt) (rd.chains.links k lt ∙ sym (agree _ k (le_of_lt lt)))

  test : (b : ℕ) → in_bucket (face_words_in w₂) slots b n ≡ eqb (bucket_of slots vertices) b
  test b = rw new

  at_head : (b : ℕ) → b < slots → Dec (bucket_of slots vertices ≡ b) → head_in w₂ slots b ≡ last (in_bucket (face_words_in w₂) slots b) (suc n)
  at_head b l (yes e) =
      let q : s % slots ≡ b = ap (λ (k : ℕ). k % slots) es ∙ e in
      (rw q at head-here) ∙ rw ep (add-one n) ∙ sym (last-hit _ n (test b ∙ eq-eqb _ _ e))
  at_head b l (no ne) =
      let q : b ≡ s % slots → ⊥ = λ e. ne (sym (e ∙ ap (λ (k : ℕ). k % slots) es)) in
      head-other b q ∙ rd.chains.heads b l ∙ sym (agree b n (le_refl n)) ∙ sym (last-miss _ n (test b ∙ ne_eqb _ _ ne))

  module _ (none : last (key_at (face_words_in w) (sorted vertices)) n ≡ 0) where
    -- no face of the table has the new face's key
    alone : (k : ℕ) → k < n → sorted (face_words_in w k).vertices ≡ sorted vertices → ⊥
    alone k l e =
        let t : same (sorted (face_words_in w k).vertices) (sorted vertices) ≡ true = rw e (same_self (sorted vertices)) in
        let z : true ≡ false = sym t ∙ last_none (key_at (face_words_in w) (sorted vertices)) n none k l in
        let y : ◌≡◌ {A = ℕ} 0 1 = cc in
        omega arith

    at-distinct : (j k : ℕ) → (j ≡ n) ⊎ (j < n) → (k ≡ n) ⊎ (k < n) → sorted (face_words_in w₂ j).vertices ≡ sorted (face_words_in w₂ k).vertices → j ≡ k
    at-distinct j k (inl p) (inl q) e = p ∙ sym q
    at-distinct j k (inl p) (inr q) e = absurd (alone k q (sym (rw (p, new, old k q) at e)))
    at-distinct j k (inr p) (inl q) e = absurd (alone j p (rw (q, new, old j p) at e))
    at-distinct j k (inr p) (inr q) e = rd.chains.distinct j k p q (rw (old j p, old k q) at e)

    more-chains : Chains w₂ slots (n + 1)
    more-chains =
        record {
          few = let r = rd.space in omega arith;
          room = let r = rd.chains.room in rw (h, length-set) (omega arith);
          short = λ k l. at-short k (below k l);
          links = λ k l. at-link k (below k l);
          heads = λ b l. rw (add-one n) (at_head b l (ℕ_discrete (bucket_of slots vertices) b));
          distinct = λ j k lj lk. at-distinct j k (below j lj) (below k lk);
        }

  pub extended : AddExit w w₂ fl fl' slots n vertices m cell
  unfolding table_in
  extended =
      record {
        faces =
            tab-next (λ k. face_of (face_words_in w₂ k) (measured_in fl' k)) n
            ∙ ap₂ (λ (l : List Face) (x : Face). l ++ x ∷ []) (tab-same _ _ n (λ k l. rw (old k l, old-measured k l))) (rw (new, g.here) (face-new vertices m cell link));
        chains = more-chains;
        words_left = unfold words_after in rw (h, ef, el, es, ep);
        floats-left = unfold floats_after in eg;
      }

pub head-ready : (w : List ℕ) (fl : List Float) (slots n s : ℕ) (vertices : List ℕ) (cell : ℕ) → AddEntry w fl slots n vertices cell → 12 * slots + s % slots < length w
head-ready w fl slots n s vertices cell rd =
    let l = rd.space in
    let some : 0 < slots = omega arith in
    let h = mod-lt s some in
    let r = rd.chains.room in
    omega arith

pub head-after : (w w₁ : List ℕ) (fl : List Float) (slots n s : ℕ) (vertices : List ℕ) (cell : ℕ) → AddEntry w fl slots n vertices cell → length w₁ ≡ length w → 12 * slots + s % slots < length w₁
head-after w w₁ fl slots n s vertices cell rd long = rw long (head-ready w fl slots n s vertices cell rd)

pub ruleset adds = (head-ready, head-after)

-- ---- a second cell

-- a table with one entry changed
tab-put : {A : Type 0} (f g : ℕ → A) (n i : ℕ) (v : A) → i < n → g i ≡ v → ((k : ℕ) → k ≢ i → g k ≡ f k) → tab g n ≡ set (tab f n) i v
unfolding tab
tab-put f g zero i v l e h = absurd (not-suc-le-zero l)
tab-put f g (suc n) i v l e h = by (eq-or-lt_of_le (le_of_suc-le-suc l)) (tab-put f g n i v)
  where
    by : (i ≡ n) ⊎ (i < n) → (i < n → g i ≡ v → ((k : ℕ) → k ≢ i → g k ≡ f k) → tab g n ≡ set (tab f n) i v)
        → tab g n ++ (g n ∷ []) ≡ set (tab f n ++ (f n ∷ [])) i v
    by (inl q) r =
        rw (q, set_at (tab f n) (f n) [] v n (length-tab f n), tab-same g f n (λ k lt. h k (λ p. lt_irrefl n (subst (λ (m : ℕ). m < n) (p ∙ q) lt))))
        (rw q at (ap (λ (x : _). tab f n ++ (x ∷ [])) e))
    by (inr lt) r =
        rw (set-append_left (tab f n) (f n ∷ []) i v (rw (length-tab f n) lt), r lt e h, h n (λ p. lt_irrefl n (subst (λ (m : ℕ). m < n) (sym p) lt)))

face-joined : (b : FaceWords) (m : FaceGeometry) (cell : ℕ) → face_of (joined b (cell + 1)) m ≡ with_neighbour cell (face_of b m)
unfolding face_of with_neighbour
face-joined b m cell =
    let nz : cell + 1 ≡ 0 → ⊥ = omega arith in
    let back : cell + 1 - 1 ≡ cell = omega arith in
    rw (← found-one (cell + 1) nz, back)

module _ (w w' : List ℕ) (fl : List Float) (slots n i cell : ℕ) (st : FaceStored w w' i (joined (face_words_in w i) (cell + 1))) (ch : Chains w slots n) (low : i < n) where
  linked : (j : ℕ) → Dec (j ≡ i) → Linked (face_words_in w j) (face_words_in w' j)
  linked j (yes e) =
      rw e (record { count = ap (λ (b : FaceWords). b.count) st.here; vertices = ap (λ (b : FaceWords). b.vertices) st.here; link = ap (λ (b : FaceWords). b.link) st.here })
  linked j (no ne) =
      let q = st.others j ne in
      record { count = ap (λ (b : FaceWords). b.count) q; vertices = ap (λ (b : FaceWords). b.vertices) q; link = ap (λ (b : FaceWords). b.link) q }

  joined-chains : length w' ≡ length w → Chains w' slots n
  unfolding head_in
  joined-chains long =
      chains-same w w' slots n ch (let r = ch.room in omega arith) (λ j l. linked j (ℕ_discrete j i))
      (λ b l. rest_at w w' (12 * i + 12) (12 * slots + b) st.rest (let f = ch.few in omega arith))

  joined-faces : table_in w' fl n ≡ set (table_in w fl n) i (with_neighbour cell (face_of (face_words_in w i) (measured_in fl i)))
  unfolding table_in
  joined-faces =
      tab-put (λ k. face_of (face_words_in w k) (measured_in fl k)) (λ k. face_of (face_words_in w' k) (measured_in fl k)) n i _ low
      (rw st.here (face-joined (face_words_in w i) (measured_in fl i) cell))
      (λ k ne. rw (st.others k ne))

-- ---- the lookup

first-none : (p : Face → Bool) (l : List Face) (k : ℕ) (d : Face) → ((j : ℕ) → j < length l → p (get_or l j d) ≡ false) → first_from p k l ≡ None
unfolding first_from
first-none p [] k d h = refl
first-none p (a ∷ l) k d h = rw (h 0 (omega arith), first_from) (first-none p l (suc k) d (λ j lt. h (suc j) (omega arith)))

first_one : (p : Face → Bool) (l : List Face) (k i : ℕ) (d : Face) → i < length l → p (get_or l i d) ≡ true → ((j : ℕ) → j < i → p (get_or l j d) ≡ false) → first_from p k l ≡ Some (k + i)
unfolding first_from
first_one p [] k i d lt t h = absurd (not-suc-le-zero lt)
first_one p (a ∷ l) k zero d lt t h = rw (t, first_from) (ap Some (sym (add-zero k)))
first_one p (a ∷ l) k (suc i) d lt t h =
    let e : suc k + i ≡ k + suc i = omega arith in
    rw (h 0 (omega arith), first_from) (first_one p l (suc k) i d (omega arith) t (λ j q. h (suc j) (omega arith)) ∙ ap Some e)

length-table : (w : List ℕ) (fl : List Float) (n : ℕ) → length (table_in w fl n) ≡ n
unfolding table_in
length-table w fl n = length-tab _ n

pub table_at : (w : List ℕ) (fl : List Float) (n i : ℕ) → i < n → face_at (table_in w fl n) i ≡ face_of (face_words_in w i) (measured_in fl i)
unfolding face_at table_in
table_at w fl n i l = get_or-tab (λ k. face_of (face_words_in w k) (measured_in fl k)) n i no_face l

key-at : (w : List ℕ) (fl : List Float) (n : ℕ) (key : List ℕ) (i : ℕ) → i < n → has_key key (get_or (table_in w fl n) i no_face) ≡ key_at (face_words_in w) key i
unfolding has_key face_of face_at
key-at w fl n key i l = ap (has_key key) (table_at w fl n i l)

lookup-none : (w : List ℕ) (fl : List Float) (n : ℕ) (key : List ℕ) → last (key_at (face_words_in w) key) n ≡ 0 → face_with_key key (table_in w fl n) ≡ None
unfolding face_with_key
lookup-none w fl n key e =
    first-none (has_key key) (table_in w fl n) 0 no_face
    (λ j l. let lt = rw (length-table w fl n) at l in key-at w fl n key j lt ∙ last_none (key_at (face_words_in w) key) n e j lt)

lookup-one : (w : List ℕ) (fl : List Float) (slots n : ℕ) (key : List ℕ) (i : ℕ) → Chains w slots n → last (key_at (face_words_in w) key) n ≡ suc i → i < n
    → face_with_key key (table_in w fl n) ≡ Some i
unfolding face_with_key
lookup-one w fl slots n key i ch e low =
    first_one (has_key key) (table_in w fl n) 0 i no_face (rw (length-table w fl n) low) (key-at w fl n key i low ∙ here)
    (λ j l. key-at w fl n key j (lower j l) ∙ other j l (key_at (face_words_in w) key j) refl)
    ∙ ap Some zero-first
  where
    zero-first : 0 + i ≡ i
    zero-first = omega arith

    here : key_at (face_words_in w) key i ≡ true
    here = last-passes (key_at (face_words_in w) key) n i e

    lower : (j : ℕ) → j < i → j < n
    lower j l = omega arith

    other : (j : ℕ) → j < i → (t : Bool) → key_at (face_words_in w) key j ≡ t → t ≡ false
    other j l true q =
        let k : sorted (face_words_in w j).vertices ≡ sorted (face_words_in w i).vertices = same_true _ _ q ∙ sym (same_true _ _ here) in
        let z : j ≡ i = ch.distinct j i (lower j l) low k in
        absurd (lt_irrefl i (subst (λ (k : ℕ). k < i) z l))
    other j l false q = refl

-- ---- the three answers

pub is-new : (w w' : List ℕ) (fl fl' : List Float) (slots n : ℕ) (vertices : List ℕ) (m : FaceGeometry) (cell at : ℕ)
    → at ≡ last (key_at (face_words_in w) (sorted vertices)) n → at ≡ 0 → n < slots → AddExit w w' fl fl' slots n vertices m cell
    → SettleExit w w' fl fl' slots n vertices m cell (New n)
unfolding use_face settled
is-new w w' fl fl' slots n vertices m cell at el ez low x =
    let z : last (key_at (face_words_in w) (sorted vertices)) n ≡ 0 = sym el ∙ ez in
    let e : face_with_key (sorted vertices) (table_in w fl n) ≡ None = lookup-none w fl n (sorted vertices) z in
    record { answer = rw (e, length-table w fl n); faces = x.faces ∙ rw e; chains = x.chains z; words_left = x.words_left; floats-left = x.floats-left; low = low }

module _ (w : List ℕ) (fl : List Float) (slots n : ℕ) (vertices : List ℕ) (m : FaceGeometry) (cell at : ℕ)
    (el : at ≡ last (key_at (face_words_in w) (sorted vertices)) n) (nz : at ≡ 0 → ⊥) (le : at ≤ n) (rd : AddEntry w fl slots n vertices cell) where
  low-face : at - 1 < n
  low-face = omega arith

  there : face_with_key (sorted vertices) (table_in w fl n) ≡ Some (at - 1)
  there =
      let e : at ≡ suc (at - 1) = omega arith in
      lookup-one w fl slots n (sorted vertices) (at - 1) rd.chains (sym el ∙ e) low-face

  face-there : face_at (table_in w fl n) (at - 1) ≡ face_of (face_words_in w (at - 1)) (measured_in fl (at - 1))
  face-there = table_at w fl n (at - 1) low-face

  pub is-second : (w' : List ℕ) (o : ℕ) → o ≡ (face_words_in w (at - 1)).neighbour → o ≡ 0 → w' ≡ set w (12 * (at - 1) + 10) (cell + 1)
      → length w' ≡ length w → SettleExit w w' fl fl slots n vertices m cell (Second (at - 1))
  unfolding use_face settled joining face_of words_after floats_after
  is-second w' o eo z put long =
      let st = other-stored w w' (at - 1) (cell + 1) (let r = rd.chains.room in let s = rd.space in omega arith) long put in
      let e : (face_at (table_in w fl n) (at - 1)).neighbour ≡ None =
      ap (λ (f : Face). f.neighbour) face-there ∙ sym (found_none (face_words_in w (at - 1)).neighbour (sym eo ∙ z)) in
      record {
        answer = rw (there, e);
        faces = joined-faces w w' fl slots n (at - 1) cell st rd.chains low-face ∙ rw (there, e, face-there);
        chains = joined-chains w w' fl slots n (at - 1) cell st rd.chains low-face long;
        words_left = put;
        floats-left = refl;
        low = let s = rd.space in omega arith;
      }

  pub is-third : (o : ℕ) → o ≡ (face_words_in w (at - 1)).neighbour → (o ≡ 0 → ⊥) → SettleExit w w fl fl slots n vertices m cell Third
  unfolding use_face settled joining face_of words_after floats_after
  is-third o eo z =
      let e : (face_at (table_in w fl n) (at - 1)).neighbour ≡ Some ((face_words_in w (at - 1)).neighbour - 1) =
      ap (λ (f : Face). f.neighbour) face-there ∙ sym (found-one (face_words_in w (at - 1)).neighbour (λ q. z (eo ∙ q))) in
      record { answer = rw (there, e); faces = rw (there, e); chains = rd.chains; words_left = refl; floats-left = refl; low = let s = rd.space in omega arith }
