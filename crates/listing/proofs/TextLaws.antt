-- A text that is written part by part: what is left to write, and where it ends. Assumes nothing.
use Prim.Native.Nat.{ℕ, zero, suc, ◌+◌, ◌-◌, ◌≤◌, ◌<◌, min}
use native.Mathlib.Nat.{add-zero, sub-zero}
use native.Mathlib.Decide.{dec_lt}
use native.Mathlib.Numerals.{add-one}
use native.Mathlib.Omega.{arith}
use mathlib.Core.Path.{◌≡◌, refl, ap, sym, ◌∙◌}
use mathlib.Core.Bool.{cond}
use mathlib.Core.List.{List, [], ◌∷◌, ◌++◌}
use lib.ListN.{length, set, get_or, take, drop, length-append, length-drop, drop_of_length-le}
use lib.Seq.{sets, length-sets, set_out, drop-cons, drop-drop, take-nil, drop-nil}
use lib.Dec.{eqb}
use borrow.Author.Tests.{eq-eqb, ne_eqb}
use Rattle.listing.specs.Listing.{decimal_text, hex_text, words_text, answer_text, answers_text, marks_from, marks_text, done_text, refused_text}
use Rattle.listing.specs.Ensures.{end_in, PutExit, ListingExit}

pub unwritten : (l : List ℕ) (i b : ℕ) → length l ≤ i → l ≡ set l i b
unwritten l i b h = sym (set_out l i b h)

sets-append : (o : List ℕ) (i : ℕ) (a b : List ℕ) → sets o i (a ++ b) ≡ sets (sets o i a) (i + length a) b
sets-append o i [] b = ap (λ (j : ℕ). sets o j b) (sym (add-zero i))
sets-append o i (x ∷ a) b =
    let e : suc i + length a ≡ i + suc (length a) = omega arith in
    sets-append (set o i x) (suc i) a b ∙ ap (λ (j : ℕ). sets (sets (set o i x) (suc i) a) j b) e

-- bytes past the end are not written
sets-out : (o : List ℕ) (i : ℕ) (l : List ℕ) → length o ≤ i → sets o i l ≡ o
sets-out o i [] h = refl
sets-out o i (b ∷ l) h = ap (λ (s : List ℕ). sets s (suc i) l) (set_out o i b h) ∙ sets-out o (suc i) l (omega arith)

-- two places that a buffer does not tell apart
same_place : (o : List ℕ) (p q : ℕ) (l : List ℕ) → end_in (length o) p ≡ end_in (length o) q → sets o p l ≡ sets o q l
same_place o p q l e = by (dec_lt p (length o))
  where
    by : Dec (p < length o) → sets o p l ≡ sets o q l
    by (yes h) = let s : p ≡ q = omega arith in ap (λ (i : ℕ). sets o i l) s
    by (no h) = sets-out o p l (omega arith) ∙ sym (sets-out o q l (omega arith))

-- a text that equals what was written
pub put_as : {o o' : List ℕ} {at r : ℕ} {a b : List ℕ} → a ≡ b → PutExit a o o' at r → PutExit b o o' at r
put_as e w = rw e at w

-- the rest written from `to` on gives the whole written from `at` on
pub record Left (o₀ : List ℕ) (at : ℕ) (whole o : List ℕ) (to : ℕ) (rest : List ℕ) : Type 0 where
  pub text : sets o to rest ≡ sets o₀ at whole
  pub ends : end_in (length o₀) (to + length rest) ≡ end_in (length o₀) (at + length whole)
  pub long : length o ≡ length o₀

module _ {o₀ : List ℕ} {at : ℕ} {whole o : List ℕ} {to : ℕ} where
  -- one part more
  pub part : {o' : List ℕ} {to' : ℕ} (a rest : List ℕ) → Left o₀ at whole o to (a ++ rest) → PutExit a o o' to to' → Left o₀ at whole o' to' rest
  part {o'} {to'} a rest l w =
      let same : length o' ≡ length o = ap length w.text ∙ length-sets o to a in
      record {
        text = same_place o' to' (to + length a) rest (rw same w.end) ∙ ap (λ (s : List ℕ). sets s (to + length a) rest) w.text ∙ sym (sets-append o to a rest) ∙ l.text;
        ends = omega (arith, l.ends, l.long, w.end, length-append a rest);
        long = same ∙ l.long;
      }

  -- one byte more
  pub byte : {o' : List ℕ} {to' : ℕ} (b : ℕ) (rest : List ℕ) → Left o₀ at whole o to (b ∷ rest) → (o' ≡ set o to b) × (to' ≡ end_in (length o) (to + 1)) → Left o₀ at whole o' to' rest
  byte b rest l p = part (b ∷ []) rest l (record { text = p.0; end = omega (arith, p.1) })

  -- nothing is left
  pub over : (rest : List ℕ) → rest ≡ [] → Left o₀ at whole o to rest → PutExit whole o₀ o at to
  over rest e l = let z : length rest ≡ 0 = ap length e in record { text = ap (λ (r : List ℕ). sets o to r) (sym e) ∙ l.text; end = omega (arith, l.ends) }

-- one byte is left
pub last_byte : {o₀ whole o o' : List ℕ} {to r : ℕ} (b : ℕ) → Left o₀ 0 whole o to (b ∷ []) → (o' ≡ set o to b) × (r ≡ end_in (length o) (to + 1)) → ListingExit whole o₀ o' r
last_byte b l p = record { bytes = p.0 ∙ l.text; end = omega (arith, p.1, l.ends, l.long) }

pub all_left : (o : List ℕ) (at : ℕ) (whole : List ℕ) → Left o at whole o at whole
all_left o at whole = record { text = refl; ends = refl; long = refl }

pub none_left : (l : List ℕ) (i : ℕ) → length l ≤ i → drop i l ≡ []
none_left l i h = drop_of_length-le l h

next : (l : List ℕ) (i : ℕ) → i < length l → drop i l ≡ get_or l i 0 ∷ drop (i + 1) l
next l i h = drop-cons l i 0 h ∙ ap (λ (j : ℕ). get_or l i 0 ∷ drop j l) (sym (add-one i))

-- ---- bytes

pub bytes-turn : {o₀ o o' : List ℕ} {at to r : ℕ} (i : ℕ) (bs : List ℕ) → i < length bs → Left o₀ at bs o to (drop i bs) → (o' ≡ set o to (get_or bs i 0)) × (r ≡ end_in (length o) (to + 1)) →
    Left o₀ at bs o' r (drop (i + 1) bs)
bytes-turn i bs h l p = byte (get_or bs i 0) (drop (i + 1) bs) (rw (next bs i h) at l) p

-- ---- words

pub words-over : (l : List ℕ) (i : ℕ) → length l ≤ i → words_text (drop i l) ≡ []
unfolding words_text
words-over l i h = ap words_text (none_left l i h)

words-next : (l : List ℕ) (i : ℕ) → i < length l → words_text (drop i l) ≡ 32 ∷ (hex_text (get_or l i 0) ++ words_text (drop (i + 1) l))
unfolding words_text
words-next l i h = rw (next l i h)

pub words-turn : {o₀ o o₁ o₂ : List ℕ} {at to t r : ℕ} {whole : List ℕ} (l : List ℕ) (i : ℕ) → i < length l → Left o₀ at whole o to (words_text (drop i l)) →
    (o₁ ≡ set o to 32) × (t ≡ end_in (length o) (to + 1)) → PutExit (hex_text (get_or l i 0)) o₁ o₂ t r → Left o₀ at whole o₂ r (words_text (drop (i + 1) l))
words-turn l i h left p w = part (hex_text (get_or l i 0)) _ (byte 32 _ (rw (words-next l i h) at left) p) w

-- ---- an answer

pub answer-put : {o₁ o₂ o₃ o₄ o₅ : List ℕ} {r₁ r₂ r₃ r₄ r₅ : ℕ} (o : List ℕ) (at k : ℕ) (l : List ℕ) →
    PutExit (decimal_text k) o o₁ at r₁ → (o₂ ≡ set o₁ r₁ 32) × (r₂ ≡ end_in (length o₁) (r₁ + 1)) → PutExit (decimal_text (length l)) o₂ o₃ r₂ r₃ →
    PutExit (words_text l) o₃ o₄ r₃ r₄ → (o₅ ≡ set o₄ r₄ 10) × (r₅ ≡ end_in (length o₄) (r₄ + 1)) → PutExit (answer_text k l) o o₅ at r₅
unfolding answer_text
answer-put o at k l a b c d e =
    let s = part (decimal_text k) (32 ∷ (decimal_text (length l) ++ (words_text l ++ 10 ∷ []))) (all_left o at (answer_text k l)) a in
    over [] refl (byte 10 [] (part (words_text l) _ (part (decimal_text (length l)) _ (byte 32 _ s b) c) d) e)

-- ---- the answers

few : (k : ℕ) (l : List ℕ) → length l < 2 → answers_text k l ≡ []
unfolding answers_text
few zero l h = refl
few (suc k) [] h = refl
few (suc k) (r ∷ []) h = refl
few (suc k) (r ∷ n ∷ l) h = absurd (omega arith)

pub answers-left : (o : List ℕ) (at count : ℕ) (l : List ℕ) → Left o at (answers_text count l) o at (answers_text (count - 0) (drop 0 l))
answers-left o at count l = rw (sub-zero count) (all_left o at (answers_text count l))

pub answers-few : (l : List ℕ) (k from : ℕ) → length l - from < 2 → answers_text k (drop from l) ≡ []
answers-few l k from h = few k (drop from l) (omega (arith, length-drop from l))

pub answers-over : (l : List ℕ) (count i from : ℕ) → count ≤ i → answers_text (count - i) (drop from l) ≡ []
unfolding answers_text
answers-over l count i from h = let e : count - i ≡ 0 = omega arith in rw e

take_min : (m n : ℕ) (l : List ℕ) → m ≡ min n (length l) → take m l ≡ take n l
take_min m n [] h = take-nil m ∙ sym (take-nil n)
take_min zero zero (a ∷ l) h = refl
take_min zero (suc n) (a ∷ l) h = absurd (omega arith)
take_min (suc m) zero (a ∷ l) h = absurd (omega arith)
take_min (suc m) (suc n) (a ∷ l) h = ap (λ (t : List ℕ). a ∷ t) (take_min m n l (omega arith))

drop_min : (m n : ℕ) (l : List ℕ) → m ≡ min n (length l) → drop m l ≡ drop n l
drop_min m n [] h = drop-nil m ∙ sym (drop-nil n)
drop_min zero zero (a ∷ l) h = refl
drop_min zero (suc n) (a ∷ l) h = absurd (omega arith)
drop_min (suc m) zero (a ∷ l) h = absurd (omega arith)
drop_min (suc m) (suc n) (a ∷ l) h = drop_min m n l (omega arith)

module _ (l : List ℕ) (count i from n : ℕ) (below : i < count) (two : 2 ≤ length l - from) (en : n ≡ min (get_or l (from + 1) 0) (length l - from - 2)) where
  header : drop from l ≡ get_or l from 0 ∷ get_or l (from + 1) 0 ∷ drop (from + 2) l
  header =
      let e : from + 1 + 1 ≡ from + 2 = omega arith in
      next l from (omega arith) ∙ ap (λ (t : List ℕ). get_or l from 0 ∷ t) (next l (from + 1) (omega arith) ∙ ap (λ (j : ℕ). get_or l (from + 1) 0 ∷ drop j l) e)

  answers_next : answers_text (count - i) (drop from l)
      ≡ answer_text (get_or l from 0) (take (from + 2 + n - (from + 2)) (drop (from + 2) l)) ++ answers_text (count - (i + 1)) (drop (from + 2 + n) l)
  unfolding answers_text
  answers_next =
      let k : count - i ≡ suc (count - (i + 1)) = omega arith in
      let s : from + 2 + n - (from + 2) ≡ n = omega arith in
      let en' : n ≡ min (get_or l (from + 1) 0) (length (drop (from + 2) l)) = omega (arith, length-drop (from + 2) l) in
      rw (k, header, s, ← drop-drop n (from + 2) l, take_min n (get_or l (from + 1) 0) (drop (from + 2) l) en', drop_min n (get_or l (from + 1) 0) (drop (from + 2) l) en')

  pub answers-turn : {o₀ o o' : List ℕ} {at to r : ℕ} {whole : List ℕ} → Left o₀ at whole o to (answers_text (count - i) (drop from l)) →
      PutExit (answer_text (get_or l from 0) (take (from + 2 + n - (from + 2)) (drop (from + 2) l))) o o' to r →
      Left o₀ at whole o' r (answers_text (count - (i + 1)) (drop (from + (2 + n)) l))
  answers-turn left w =
      let e : from + (2 + n) ≡ from + 2 + n = omega arith in
      rw e (part (answer_text (get_or l from 0) (take (from + 2 + n - (from + 2)) (drop (from + 2) l))) _ (rw answers_next at left) w)

-- ---- the marks

pub marks-left : (o : List ℕ) (at : ℕ) (l : List ℕ) → Left o at (marks_text l) o at (marks_from 0 (drop 0 l))
unfolding marks_text
marks-left o at l = all_left o at (marks_from 0 l)

pub marks-over : (l : List ℕ) (i : ℕ) → length l ≤ i → marks_from i (drop i l) ≡ []
unfolding marks_from
marks-over l i h = rw (none_left l i h)

module _ (l : List ℕ) (i : ℕ) (below : i < length l) {o₀ : List ℕ} {at : ℕ} {whole o : List ℕ} {to : ℕ} (left : Left o₀ at whole o to (marks_from i (drop i l))) where
  marks-next : marks_from i (drop i l) ≡ cond (eqb (get_or l i 0) 1) (32 ∷ decimal_text i) [] ++ marks_from (i + 1) (drop (i + 1) l)
  unfolding marks_from
  marks-next = rw (next l i below, add-one i)

  pub marked : {o₁ o₂ : List ℕ} {t r : ℕ} → get_or l i 0 ≡ 1 → (o₁ ≡ set o to 32) × (t ≡ end_in (length o) (to + 1)) → PutExit (decimal_text i) o₁ o₂ t r →
      Left o₀ at whole o₂ r (marks_from (i + 1) (drop (i + 1) l))
  marked h p w =
      let s = rw (marks-next, eq-eqb (get_or l i 0) 1 h) at left in
      part (decimal_text i) _ (byte 32 (decimal_text i ++ marks_from (i + 1) (drop (i + 1) l)) s p) w

  pub unmarked : (get_or l i 0 ≡ 1 → ⊥) → Left o₀ at whole o to (marks_from (i + 1) (drop (i + 1) l))
  unmarked h = rw (marks-next, ne_eqb (get_or l i 0) 1 h) at left

-- ---- the whole

pub refused-put : {o₁ o₂ o₃ : List ℕ} {r₁ r₂ r₃ : ℕ} (o : List ℕ) (k : ℕ) →
    PutExit (114 ∷ 101 ∷ 102 ∷ 117 ∷ 115 ∷ 101 ∷ 100 ∷ 32 ∷ []) o o₁ 0 r₁ → PutExit (decimal_text k) o₁ o₂ r₁ r₂ → (o₃ ≡ set o₂ r₂ 10) × (r₃ ≡ end_in (length o₂) (r₂ + 1)) →
    ListingExit (refused_text k) o o₃ r₃
unfolding refused_text
refused-put o k a b c =
    let s = part (114 ∷ 101 ∷ 102 ∷ 117 ∷ 115 ∷ 101 ∷ 100 ∷ 32 ∷ []) (decimal_text k ++ 10 ∷ []) (all_left o 0 (refused_text k)) a in
    last_byte 10 (part (decimal_text k) (10 ∷ []) s b) c

pub done-put : {o₁ o₂ o₃ o₄ : List ℕ} {r₁ r₂ r₃ r₄ : ℕ} (o answers : List ℕ) (count : ℕ) (marks : List ℕ) →
    PutExit (answers_text count answers) o o₁ 0 r₁ → PutExit (114 ∷ 101 ∷ 97 ∷ 100 ∷ []) o₁ o₂ r₁ r₂ → PutExit (marks_text marks) o₂ o₃ r₂ r₃ →
    (o₄ ≡ set o₃ r₃ 10) × (r₄ ≡ end_in (length o₃) (r₃ + 1)) → ListingExit (done_text answers count marks) o o₄ r₄
unfolding done_text
done-put o answers count marks a b c d =
    let s = part (answers_text count answers) ((114 ∷ 101 ∷ 97 ∷ 100 ∷ []) ++ (marks_text marks ++ 10 ∷ [])) (all_left o 0 (done_text answers count marks)) a in
    let t = part (114 ∷ 101 ∷ 97 ∷ 100 ∷ []) (marks_text marks ++ 10 ∷ []) s b in
    last_byte 10 (part (marks_text marks) (10 ∷ []) t c) d
