-- Laws of one record, and of a record that was lent and is back. Assumes nothing.
use mathlib.Core.Path.{◌≡◌, refl, sym, ap, ◌∙◌}
use mathlib.Core.Bool.{Bool, false}
use mathlib.Core.Logic.{◌≢◌}
use mathlib.Core.List.{List, [], ◌∷◌, ◌++◌, append_assoc}
use Prim.Native.Nat.{ℕ, zero, suc, ◌+◌, ◌-◌, ◌*◌, ◌<◌, ◌≤◌}
use native.Mathlib.Nat.{add-sub_cancel_left}
use native.Mathlib.Omega.{arith}
use borrow.Author.Tests.{eqb-false}
use lib.Dec.{eqb, lit≤}
use lib.ListN.{length, get_or, take, drop, set, length-set, length-drop, take-append-drop}
use lib.Seq.{sets, length-sets, sets-eq, take-suc, drop-set-lt, drop-set-add, take-set-le, take-set-lt, take-take, take_at, get_or-set_same, get_or-set_other, get_or-drop, drop-drop}
use lib.Ieee.{Float, nan}
use Rattle.arith.specs.Lists.{same, sorted}
use Rattle.arith.specs.Records.{part, patch, chunk, tab}
use Rattle.arith.proofs.RecordLaws.{chunk-other, length-chunk, get_or_chunk, length_part, get_or-puts-at, take-drop-take, same-below}
use Rattle.mesh_area.specs.Layout.{face_in, list_at, vec_from}
use Rattle.mesh_keys.proofs.KeyLaws.{sorted_front}
use Rattle.mesh_geometry.specs.declared.FaceGeometry.{FaceGeometry}
use Rattle.mesh_face_table.specs.Records.{FaceWords, face_words_of, face_words_in, measured_of, measured_in, face_of, head_in, new_face_at, floats_of}

-- the same face with a second one
abbrev pub joined : FaceWords → ℕ → FaceWords
joined b other = record { count = b.count; vertices = b.vertices; owner = b.owner; neighbour = other; link = b.link }

-- a face of one cell
abbrev pub fresh : List ℕ → ℕ → ℕ → FaceWords
fresh vertices cell link = record { count = length vertices; vertices = vertices; owner = cell; neighbour = 0; link = link }

-- ---- a run of stores

module _ {A : Type 0} where
  -- what stands before it, and what it leaves from there on
  pub sets-before : (b : ℕ) (vs l : List A) (k : ℕ) → take b (sets l (b + k) vs) ≡ take b l
  sets-before b [] l k = refl
  sets-before b (v ∷ vs) l k =
      let e : suc (b + k) ≡ b + suc k = omega arith in
      rw e (sets-before b vs (set l (b + k) v) (suc k)) ∙ take-set-le b l (b + k) v (omega arith)

  pub sets-inside : (b : ℕ) (vs l : List A) (k : ℕ) → drop b (sets l (b + k) vs) ≡ sets (drop b l) k vs
  sets-inside b [] l k = refl
  sets-inside b (v ∷ vs) l k =
      let e : suc (b + k) ≡ b + suc k = omega arith in
      rw e (sets-inside b vs (set l (b + k) v) (suc k)) ∙ ap (λ (t : List A). sets t (suc k) vs) (drop-set-add b l k v)

  -- within the first n
  pub sets-front : (n : ℕ) (vs l : List A) (k : ℕ) → k + length vs ≤ n → take n (sets l k vs) ≡ sets (take n l) k vs
  sets-front n [] l k h = refl
  sets-front n (v ∷ vs) l k h = sets-front n vs (set l k v) (suc k) (omega arith) ∙ ap (λ (t : List A). sets t (suc k) vs) (take-set-lt n l k v (omega arith))

  pub sets_behind : (n : ℕ) (vs l : List A) (k : ℕ) → k + length vs ≤ n → drop n (sets l k vs) ≡ drop n l
  sets_behind n [] l k h = refl
  sets_behind n (v ∷ vs) l k h = sets_behind n vs (set l k v) (suc k) (omega arith) ∙ drop-set-lt n l k v (omega arith)

  -- a part that is replaced is a run of stores
  pub patch-sets : (vs l : List A) (i n : ℕ) → length vs ≡ n → i + n ≤ length l → patch i (i + n - i) l vs ≡ sets l i vs
  patch-sets vs l i n long room =
      let fits : i + length vs ≤ length l = omega arith in
      rw (add-sub_cancel_left i n, drop-drop n i l, ← long) (sym (append_assoc (take i l) vs (drop (i + length vs) l)) ∙ sym (sets-eq vs l i fits))

-- ---- has_key

pub numbers-long : (r : List ℕ) (n : ℕ) → length r ≡ 12 → n ≡ get_or r 0 0 → get_or r 0 0 ≤ 8 → length (take (1 + n - 1) (drop 1 r)) ≡ n
numbers-long r n long e short = rw (add-sub_cancel_left 1 n) (length_part r 1 n (omega arith))

pub key-same : (r own key rest : List ℕ) (n : ℕ) (s : Bool) → length r ≡ 12 → n ≡ get_or r 0 0 → get_or r 0 0 ≤ 8
    → own ≡ sorted (take (1 + n - 1) (drop 1 r)) ++ rest → s ≡ same (take n own) key
    → s ≡ same (sorted (face_words_of r).vertices) key
unfolding face_words_of
key-same r own key rest n s long e short so es =
    let h = rw (numbers-long r n long e short, add-sub_cancel_left 1 n) at (sorted_front own _ rest so) in
    es ∙ rw (h, e, take-take (get_or r 0 0) 8 (drop 1 r) short)

-- ---- the words of a face

-- a word that a store does not touch, and the eight numbers
keep : (r : List ℕ) (k v j : ℕ) → eqb j k ≡ false → get_or (set r k v) j 0 ≡ get_or r j 0
keep r k v j t = get_or-set_other r k j v 0 (eqb-false j k t)

keep-numbers : (r : List ℕ) (k v : ℕ) → 8 ≤ k → part (set r (1 + k) v) 1 8 ≡ part r 1 8
keep-numbers r k v h = rw (drop-set-add 1 r k v, take-set-le 8 (drop 1 r) k v h)

other-put : (r : List ℕ) (other : ℕ) → length r ≡ 12 → face_words_of (set r 10 other) ≡ joined (face_words_of r) other
unfolding face_words_of
other-put r other long =
    rw (keep r 10 other 0 refl, keep r 10 other 9 refl, keep r 10 other 11 refl, get_or-set_same r 10 other 0 (omega arith), keep-numbers r 9 other (lit≤ tt))

-- the count, the vertices behind it, and the three words at the end
pub face-put : (r vertices m : List ℕ) (cell link : ℕ) → m ≡ vertices → length r ≡ 12 → length vertices ≤ 8
    → set (set (set (patch 1 (1 + length vertices - 1) (set r 0 (length vertices)) m) 9 cell) 10 0) 11 link ≡ new_face_at r 0 vertices cell link
unfolding new_face_at
face-put r vertices m cell link e long few =
    let n = length vertices in
    let room : 1 + n ≤ length (set r 0 n) = simp length-set (omega arith) in
    rw (e, patch-sets vertices (set r 0 n) 1 n refl room)

body-fresh : (r vertices : List ℕ) (cell link : ℕ) → length r ≡ 12 → length vertices ≤ 8 → face_words_of (new_face_at r 0 vertices cell link) ≡ fresh vertices cell link
unfolding face_words_of new_face_at
body-fresh r vertices cell link long few =
    let n = length vertices in
    let q = sets (set r 0 n) 1 vertices in
    let b = set q 9 cell in
    let c = set b 10 0 in
    let size : length q ≡ 12 = length-sets (set r 0 n) 1 vertices ∙ length-set r 0 n ∙ long in
    let first : get_or q 0 0 ≡ n =
    same-below (set r 0 n) q 1 0 0 (sets-before 1 vertices (set r 0 n) 0) (lit≤ tt) ∙ get_or-set_same r 0 n 0 (omega arith) in
    let numbers : take n (drop 1 q) ≡ vertices =
    ap (take n) (sets-inside 1 vertices (set r 0 n) 0)
    ∙ ap (take n) (sets-eq vertices (drop 1 (set r 0 n)) 0 (simp (length-drop, length-set) (omega arith)))
    ∙ take_at vertices _ n refl in
    rw (
      keep c 11 link 0 refl,
      keep b 10 0 0 refl,
      keep q 9 cell 0 refl,
      first,
      keep c 11 link 9 refl,
      keep b 10 0 9 refl,
      get_or-set_same q 9 cell 0 (omega arith),
      keep c 11 link 10 refl,
      get_or-set_same b 10 0 0 (simp length-set (omega arith)),
      get_or-set_same c 11 link 0 (simp length-set (omega arith)),
      keep-numbers c 10 link (lit≤ tt),
      keep-numbers b 9 0 (lit≤ tt),
      keep-numbers q 8 cell (lit≤ tt),
      take-take n 8 (drop 1 q) few,
      numbers,
    )

-- ---- the floats of a face

measured-put : (r : List Float) (m : FaceGeometry) → length r ≡ 12 → measured_of (sets r 0 (floats_of m)) ≡ m
unfolding measured_of vec_from
measured-put r m long =
    rw (
      at 0 (lit≤ tt),
      at 1 (lit≤ tt),
      at 2 (lit≤ tt),
      at 3 (lit≤ tt),
      at 4 (lit≤ tt),
      at 5 (lit≤ tt),
      at 6 (lit≤ tt),
      at 7 (lit≤ tt),
      at 8 (lit≤ tt),
      at 9 (lit≤ tt),
    )
  where
    at : (k : ℕ) → k < 10 → get_or (sets r 0 (floats_of m)) k nan ≡ get_or (floats_of m) k nan
    at k h = let z : 0 + k ≡ k = omega arith in rw z at (get_or-puts-at r 0 (floats_of m) k nan h (omega arith))

pub ruleset records = (numbers-long, key-same)

-- ---- a record that was lent and is back: the stores of the part, over the whole

-- a record stored in its part of the list: what stands before it and behind it is as it was
back : {A : Type 0} (w w' m : List A) (at : ℕ) → take at w' ≡ take at w → drop (at + 12) w' ≡ drop (at + 12) w → take 12 (drop at w') ≡ m
    → patch at (at + 12 - at) w m ≡ w'
back {A} w w' m at eb ea em =
    rw (add-sub_cancel_left at 12, drop-drop 12 at w, ← eb, ← ea, ← em, ← drop-drop 12 at w')
    (ap (λ (l : List A). take at w' ++ l) (take-append-drop 12 (drop at w')) ∙ take-append-drop at w')

module _ (w vertices : List ℕ) (at cell link : ℕ) (few : length vertices ≤ 8) where
  abbrev front : List ℕ
  front = length vertices ∷ vertices

  abbrev end : List ℕ
  end = cell ∷ 0 ∷ link ∷ []

  -- in a longer list, and behind the record
  pub fresh-take : (e : ℕ) → at + 12 ≤ e → take e (new_face_at w at vertices cell link) ≡ new_face_at (take e w) at vertices cell link
  unfolding new_face_at
  fresh-take e h =
      sets-front e end (sets w at front) (at + 9) (omega arith) ∙ ap (λ (l : List ℕ). sets l (at + 9) end) (sets-front e front w at (omega arith))

  pub fresh-drop : (e : ℕ) → at + 12 ≤ e → drop e (new_face_at w at vertices cell link) ≡ drop e w
  unfolding new_face_at
  fresh-drop e h = sets_behind e end (sets w at front) (at + 9) (omega arith) ∙ sets_behind e front w at (omega arith)

  fresh-plus : new_face_at w at vertices cell link ≡ sets (sets w (at + 0) front) (at + 9) end
  unfolding new_face_at
  fresh-plus = let z : at + 0 ≡ at = omega arith in rw z

  fresh-before : take at (new_face_at w at vertices cell link) ≡ take at w
  fresh-before = rw fresh-plus (sets-before at end (sets w (at + 0) front) 9 ∙ sets-before at front w 0)

  fresh-part : take 12 (drop at (new_face_at w at vertices cell link)) ≡ new_face_at (take 12 (drop at w)) 0 vertices cell link
  unfolding new_face_at
  fresh-part =
      rw (fresh-plus, sets-inside at end (sets w (at + 0) front) 9, sets-inside at front w 0)
      (sets-front 12 end (sets (drop at w) 0 front) 9 (lit≤ tt) ∙ ap (λ (l : List ℕ). sets l 9 end) (sets-front 12 front (drop at w) 0 (omega arith)))

  pub fresh-back : (m : List ℕ) → m ≡ new_face_at (take (at + 12 - at) (drop at w)) 0 vertices cell link → patch at (at + 12 - at) w m ≡ new_face_at w at vertices cell link
  fresh-back m e =
      back w _ m at fresh-before (fresh-drop (at + 12) (omega arith)) (fresh-part ∙ sym (rw (add-sub_cancel_left at 12) at e))

module _ (fl : List Float) (at : ℕ) (m : FaceGeometry) where
  measured-plus : sets fl at (floats_of m) ≡ sets fl (at + 0) (floats_of m)
  measured-plus = let z : at + 0 ≡ at = omega arith in rw z

  measured-before : take at (sets fl at (floats_of m)) ≡ take at fl
  measured-before = rw measured-plus (sets-before at (floats_of m) fl 0)

  measured-drop : drop (at + 12) (sets fl at (floats_of m)) ≡ drop (at + 12) fl
  measured-drop = sets_behind (at + 12) (floats_of m) fl at (omega arith)

  measured-part : take 12 (drop at (sets fl at (floats_of m))) ≡ sets (take 12 (drop at fl)) 0 (floats_of m)
  measured-part = rw (measured-plus, sets-inside at (floats_of m) fl 0) (sets-front 12 (floats_of m) (drop at fl) 0 (lit≤ tt))

  pub measured-back : (r : List Float) → r ≡ sets (take (at + 12 - at) (drop at fl)) 0 (floats_of m) → patch at (at + 12 - at) fl r ≡ sets fl at (floats_of m)
  measured-back r e = back fl _ r at measured-before measured-drop (measured-part ∙ sym (rw (add-sub_cancel_left at 12) at e))

-- ---- what a store leaves of the other records

-- the words of face f are these; no other face's have changed, and nothing after them
pub record FaceStored (w w' : List ℕ) (f : ℕ) (body : FaceWords) : Type 0 where
  pub here : face_words_in w' f ≡ body
  pub others : (j : ℕ) → j ≢ f → face_words_in w' j ≡ face_words_in w j
  pub rest : drop (12 * f + 12) w' ≡ drop (12 * f + 12) w

-- the floats of face f alike
pub record MeasuredStored (fl fl' : List Float) (f : ℕ) (m : FaceGeometry) : Type 0 where
  pub here : measured_in fl' f ≡ m
  pub others : (j : ℕ) → j ≢ f → measured_in fl' j ≡ measured_in fl j
  pub rest : drop (12 * f + 12) fl' ≡ drop (12 * f + 12) fl

stored-others : {A : Type 0} (w w' : List A) (i : ℕ) → 12 * i + 12 ≤ length w → length w' ≡ length w → take (12 * i) w' ≡ take (12 * i) w
    → drop (12 * i + 12) w' ≡ drop (12 * i + 12) w → (j : ℕ) → j ≢ i → chunk w' 12 j ≡ chunk w 12 j
stored-others {A} w w' i room long eb ea j ne =
    ap (λ (l : List A). chunk l 12 j) (sym (back w w' (chunk w' 12 i) (12 * i) eb ea refl))
    ∙ chunk-other w (chunk w' 12 i) 12 i room (length-chunk w' 12 i (omega arith)) j ne

pub face-stored : (w w' vertices : List ℕ) (i cell link : ℕ) → 12 * i + 12 ≤ length w → length vertices ≤ 8 → length w' ≡ length w
    → w' ≡ new_face_at w (12 * i) vertices cell link → FaceStored w w' i (fresh vertices cell link)
unfolding face_words_in
face-stored w w' vertices i cell link room few long e =
    let eb : take (12 * i) w' ≡ take (12 * i) w = rw e (fresh-before w vertices (12 * i) cell link few) in
    let ea : drop (12 * i + 12) w' ≡ drop (12 * i + 12) w = rw e (fresh-drop w vertices (12 * i) cell link few (12 * i + 12) (omega arith)) in
    record {
      here = rw (e, fresh-part w vertices (12 * i) cell link few) (body-fresh (chunk w 12 i) vertices cell link (length-chunk w 12 i room) few);
      others = λ j ne. ap face_words_of (stored-others w w' i room long eb ea j ne);
      rest = ea;
    }

pub other-stored : (w w' : List ℕ) (i x : ℕ) → 12 * i + 12 ≤ length w → length w' ≡ length w → w' ≡ set w (12 * i + 10) x → FaceStored w w' i (joined (face_words_in w i) x)
unfolding face_words_in
other-stored w w' i x room long e =
    let eb : take (12 * i) w' ≡ take (12 * i) w = rw e (take-set-le (12 * i) w (12 * i + 10) x (omega arith)) in
    let ea : drop (12 * i + 12) w' ≡ drop (12 * i + 12) w = rw e (drop-set-lt (12 * i + 12) w (12 * i + 10) x (omega arith)) in
    record {
      here =
          rw (e, drop-set-add (12 * i) w 10 x, take-set-lt 12 (drop (12 * i) w) 10 x (lit≤ tt))
          (other-put (chunk w 12 i) x (length-chunk w 12 i room));
      others = λ j ne. ap face_words_of (stored-others w w' i room long eb ea j ne);
      rest = ea;
    }

pub measured-stored : (fl fl' : List Float) (i : ℕ) (m : FaceGeometry) → 12 * i + 12 ≤ length fl → fl' ≡ sets fl (12 * i) (floats_of m) → MeasuredStored fl fl' i m
unfolding measured_in
measured-stored fl fl' i m room e =
    let eb : take (12 * i) fl' ≡ take (12 * i) fl = rw e (measured-before fl (12 * i) m) in
    let ea : drop (12 * i + 12) fl' ≡ drop (12 * i + 12) fl = rw e (measured-drop fl (12 * i) m) in
    let long : length fl' ≡ length fl = rw e (length-sets fl (12 * i) (floats_of m)) in
    record {
      here = rw (e, measured-part fl (12 * i) m) (measured-put (chunk fl 12 i) m (length-chunk fl 12 i room));
      others = λ j ne. ap measured_of (stored-others fl fl' i room long eb ea j ne);
      rest = ea;
    }

-- one word of a record
pub read-other : (w : List ℕ) (f : ℕ) → get_or w (12 * f + 10) 0 ≡ (face_words_in w f).neighbour
unfolding face_words_in face_words_of
read-other w f = sym (get_or_chunk w 12 f 10 0 (lit≤ tt))

pub read-link : (w : List ℕ) (f : ℕ) → get_or w (12 * f + 11) 0 ≡ (face_words_in w f).link
unfolding face_words_in face_words_of
read-link w f = sym (get_or_chunk w 12 f 11 0 (lit≤ tt))

pub read_count : (w : List ℕ) (f : ℕ) → get_or w (12 * f + 0) 0 ≡ (face_words_in w f).count
unfolding face_words_in face_words_of
read_count w f = sym (get_or_chunk w 12 f 0 0 (lit≤ tt))

pub read_head : (w : List ℕ) (slots b : ℕ) → get_or w (12 * slots + b) 0 ≡ head_in w slots b
unfolding head_in
read_head w slots b = refl

pub ruleset areas = (fresh-back, measured-back, read-other, read-link, read_head)

-- ---- the record that area's `face_in` reads

list-part : (w : List ℕ) (a n : ℕ) → a + n ≤ length w → list_at w a n ≡ take n (drop a w)
unfolding list_at tab
list-part w a zero h = refl
list-part w a (suc n) h =
    let inside : n < length (drop a w) = simp length-drop (omega arith) in
    rw (take-suc (drop a w) n 0 inside, get_or-drop a w n 0, list-part w a n (omega arith))

pub face-parts : (w : List ℕ) (fl : List Float) (f : ℕ) → 12 * f + 12 ≤ length w → (face_words_in w f).count ≤ 8 → face_in w fl f ≡ face_of (face_words_in w f) (measured_in fl f)
unfolding face_in face_words_in face_words_of measured_in measured_of face_of vec_from
face-parts w fl f room short =
    let n = get_or (chunk w 12 f) 0 0 in
    let count : n ≡ get_or w (12 * f + 0) 0 = get_or_chunk w 12 f 0 0 (lit≤ tt) in
    let fits : 12 * f + 1 + n ≤ length w = omega arith in
    let vertices : take n (part (chunk w 12 f) 1 8) ≡ list_at w (12 * f + 1) n =
    ap (take n) (take-drop-take (drop (12 * f) w) 12 1 8 (lit≤ tt))
    ∙ take-take n 8 (drop 1 (drop (12 * f) w)) short
    ∙ ap (take n) (drop-drop 1 (12 * f) w)
    ∙ sym (list-part w (12 * f + 1) n fits) in
    rw (
      vertices,
      count,
      get_or_chunk w 12 f 9 0 (lit≤ tt),
      get_or_chunk w 12 f 10 0 (lit≤ tt),
      get_or_chunk fl 12 f 0 nan (lit≤ tt),
      get_or_chunk fl 12 f 1 nan (lit≤ tt),
      get_or_chunk fl 12 f 2 nan (lit≤ tt),
      get_or_chunk fl 12 f 3 nan (lit≤ tt),
      get_or_chunk fl 12 f 4 nan (lit≤ tt),
      get_or_chunk fl 12 f 5 nan (lit≤ tt),
      get_or_chunk fl 12 f 6 nan (lit≤ tt),
      get_or_chunk fl 12 f 7 nan (lit≤ tt),
      get_or_chunk fl 12 f 8 nan (lit≤ tt),
      get_or_chunk fl 12 f 9 nan (lit≤ tt),
      plus 0 1,
      plus 0 2,
      plus 4 1,
      plus 4 2,
      plus 7 1,
      plus 7 2,
    )
  where
    plus : (a b : ℕ) → 12 * f + a + b ≡ 12 * f + (a + b)
    plus a b = omega arith
