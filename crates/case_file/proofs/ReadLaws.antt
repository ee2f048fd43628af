-- What `read_all` reads: points and words by number. Assumes nothing.
use Prim.Native.Nat.{ℕ, zero, suc, ◌+◌, ◌-◌, ◌*◌, ◌/◌, ◌≤◌, ◌<◌}
use native.Mathlib.Nat.{mul-suc, mul-zero, add-zero, zero-add}
use native.Mathlib.Omega.{arith}
use mathlib.Core.Path.{◌≡◌, refl, ap, ap₂, sym, ◌∙◌}
use mathlib.Core.List.{List, ◌∷◌}
use lib.ListN.{length, get_or, take, drop, length-take, length-drop}
use lib.Seq.{get_or-take, get_or-drop}
use Rattle.arith.specs.Bytes.{le32, read_all}
use Rattle.case_file.specs.Trailer.{words_in}

module _ {A : Type 0} (f : ℕ → A) (stride : ℕ) where
  pub length-read_all : (n at : ℕ) → length (read_all f stride n at) ≡ n
  unfolding read_all
  length-read_all zero at = refl
  length-read_all (suc n) at = ap suc (length-read_all n (at + stride))

  pub get_or-read_all : (n at k : ℕ) (d : A) → k < n → get_or (read_all f stride n at) k d ≡ f (at + stride * k)
  unfolding read_all
  get_or-read_all zero at k d h = absurd (omega arith)
  get_or-read_all (suc n) at zero d h = let e : at ≡ at + stride * 0 = rw (mul-zero, add-zero) in ap f e
  get_or-read_all (suc n) at (suc k) d h =
      let e : at + stride + stride * k ≡ at + stride * suc k = omega (arith, mul-suc stride k) in
      get_or-read_all n (at + stride) k d (omega arith) ∙ ap f e

-- two readers that agree below a bound, one of them moved
pub moved-read_all : {A : Type 0} (f g : ℕ → A) (stride bound n at by : ℕ) → ((i : ℕ) → i + stride ≤ bound → f i ≡ g (by + i)) → at + stride * n ≤ bound →
    read_all f stride n at ≡ read_all g stride n (by + at)
unfolding read_all
moved-read_all f g stride bound zero at by h b = refl
moved-read_all f g stride bound (suc n) at by h b =
    let e : stride * suc n ≡ stride + stride * n = omega (arith, mul-suc stride n) in
    let a : by + (at + stride) ≡ by + at + stride = omega arith in
    ap₂ ◌∷◌ (h at (omega arith)) (rw a at (moved-read_all f g stride bound n (at + stride) by h (omega arith)))

pub same-read_all : {A : Type 0} (f g : ℕ → A) (stride bound n at : ℕ) → ((i : ℕ) → i + stride ≤ bound → f i ≡ g i) → at + stride * n ≤ bound →
    read_all f stride n at ≡ read_all g stride n at
same-read_all f g stride bound n at h b =
    moved-read_all f g stride bound n at 0 (λ i w. h i w ∙ ap g (sym (zero-add i))) b ∙ ap (read_all g stride n) (zero-add at)

-- ---- the definition words

pub length-words_in : (b : List ℕ) → length (words_in b) ≡ length b / 4
unfolding words_in
length-words_in b = length-read_all (le32 b) 4 (length b / 4) 0

pub word-there : (b : List ℕ) (k : ℕ) → k < length (words_in b) → get_or (words_in b) k 0 ≡ le32 b (4 * k)
unfolding words_in
word-there b k h = get_or-read_all (le32 b) 4 (length b / 4) 0 k 0 (omega (arith, length-read_all (le32 b) 4 (length b / 4) 0)) ∙ rw zero-add

-- the bytes of a case's words
module _ (file : List ℕ) (from n : ℕ) (fits : from + 4 * n ≤ length file) where
  lent : List ℕ
  lent = take (from + 4 * n - from) (drop from file)

  byte : (i : ℕ) → i < 4 * n → get_or lent i 0 ≡ get_or file (from + i) 0
  unfolding lent
  byte i h = get_or-take (from + 4 * n - from) (drop from file) i 0 (omega arith) ∙ get_or-drop from file i 0

  four : (i : ℕ) → i + 4 ≤ 4 * n → le32 lent i ≡ le32 file (from + i)
  unfolding le32
  four i h =
      let a : from + (i + 1) ≡ from + i + 1 = omega arith in
      let b : from + (i + 2) ≡ from + i + 2 = omega arith in
      let c : from + (i + 3) ≡ from + i + 3 = omega arith in
      rw (byte i (omega arith), byte (i + 1) (omega arith), byte (i + 2) (omega arith), byte (i + 3) (omega arith), a, b, c)

  length-lent : length lent ≡ 4 * n
  unfolding lent
  length-lent = simp (length-take, length-drop) (omega arith)

  pub words-lent : words_in (take (from + 4 * n - from) (drop from file)) ≡ read_all (le32 file) 4 n from
  unfolding words_in lent
  words-lent =
      let e : length lent / 4 ≡ n = omega (arith, length-lent) in
      let z : from + 0 ≡ from = add-zero from in
      rw e (rw z at (moved-read_all (le32 lent) (le32 file) 4 (4 * n) n 0 from four (omega arith)))
