-- A pen along the points of a line writes the line's words. Assumes nothing.
use Prim.Native.Nat.{ℕ, suc, ◌+◌, ◌-◌, ◌*◌, ◌<◌, ◌≤◌}
use native.Mathlib.Nat.{add-zero, zero-add, mul-zero}
use native.Mathlib.Numerals.{add-one}
use native.Mathlib.Omega.{arith}
use mathlib.Core.Path.{◌≡◌, refl, ap, sym, ◌∙◌}
use mathlib.Core.Bool.{Bool, true, false}
use mathlib.Core.List.{List, [], ◌∷◌, ◌++◌, append_assoc, append-nil}
use mathlib.Core.Logic.{◌⊎◌, inl, inr}
use lib.ListN.{length, set, length-append}
use lib.Seq.{sets}
use borrow.Author.Tests.{lt-ltb}
use Rattle.arith.specs.Limits.{2^32, most_steps}
use Rattle.arith.specs.Lists.{fold}
use Rattle.arith.specs.declared.Vec3.{Vec3}
use Rattle.answers.specs.Words.{vec_words, point_words}
use Rattle.answers.proofs.WordLaws.{sets-append, sets-set}
use Rattle.lines_millimetres.specs.declared.Rounding.{Rounding}
use Rattle.lines_millimetres.specs.Nearest.{word64}
use Rattle.lines_words.specs.declared.Style.{Style}
use Rattle.lines_words.specs.declared.Style.TheVariants.{Points, Sheet}
use Rattle.lines_words.specs.declared.SheetPoint.{SheetPoint}
use Rattle.lines_words.specs.declared.Pen.{Pen}
use Rattle.lines_words.specs.Sheet.{sheet_point, is_same, listed_after, listed, sheet_point_words, sheet_words}
use Rattle.lines_words.specs.Words.{line_words}
use Rattle.lines_words.specs.Pen.{width, next_word, is_repeated, one_more, sheet_pen_after, sheet_words_of, styled_pen, pen_after, styled_words, added_words, words_along, pen_along}
use Rattle.lines_words.specs.Ensures.{PenEntry, PutPointExit}

-- ---- one point

module _ (pen : Pen) where
  pub after-points : (p : Vec3) → pen.style ≡ Points → pen_after pen p ≡ one_more pen pen.last
  unfolding pen_after styled_pen
  after-points p e = rw e

  pub added-points : (p : Vec3) → pen.style ≡ Points → added_words pen p ≡ vec_words p
  unfolding added_words styled_words
  added-points p e = rw e

  pub after-sheet : (p : Vec3) (c : Rounding) → pen.style ≡ Sheet c → pen_after pen p ≡ sheet_pen_after pen (sheet_point c p)
  unfolding pen_after styled_pen
  after-sheet p c e = rw e

  pub added-sheet : (p : Vec3) (c : Rounding) → pen.style ≡ Sheet c → added_words pen p ≡ sheet_words_of pen (sheet_point c p)
  unfolding added_words styled_words
  added-sheet p c e = rw e

  module _ (m : SheetPoint) where
    pub repeated-pen : is_repeated pen m ≡ true → sheet_pen_after pen m ≡ pen
    unfolding sheet_pen_after
    repeated-pen h = rw h

    pub repeated-words : is_repeated pen m ≡ true → sheet_words_of pen m ≡ []
    unfolding sheet_words_of
    repeated-words h = rw h

    pub new-pen : is_repeated pen m ≡ false → sheet_pen_after pen m ≡ one_more pen m
    unfolding sheet_pen_after
    new-pen h = rw h

    pub new-words : is_repeated pen m ≡ false → sheet_words_of pen m ≡ sheet_point_words m
    unfolding sheet_words_of
    new-words h = rw h

    more-style : (one_more pen m).style ≡ pen.style
    unfolding one_more
    more-style = refl

    more-count : (one_more pen m).count ≡ pen.count + 1
    unfolding one_more
    more-count = refl

    more-next : (n : ℕ) → width pen.style ≡ n → (n ≡ 3) ⊎ (n ≡ 2) → next_word (one_more pen m) ≡ next_word pen + n
    unfolding next_word one_more
    more-next n e (inl k) = rw (e, k) (omega arith)
    more-next n e (inr k) = rw (e, k) (omega arith)

-- ---- where the next point's words go

module _ (pen : Pen) (h : PenEntry pen) {r : ℕ} where
  pub points-next : pen.style ≡ Points → r ≡ pen.at + 1 + 3 * pen.count → (r ≡ next_word pen) × (pen.at < r) × (r < 2^32)
  unfolding next_word width
  points-next e k = (k ∙ rw e, omega (arith, k), omega (arith, k, h.low, h.few))

  pub sheet-next : (c : Rounding) → pen.style ≡ Sheet c → r ≡ pen.at + 1 + 2 * pen.count → (r ≡ next_word pen) × (pen.at < r) × (r < 2^32)
  unfolding next_word width
  sheet-next c e k = (k ∙ rw e, omega (arith, k), omega (arith, k, h.low, h.few))

-- ---- what a point leaves: its words in the answer, and the pen

module _ (pen : Pen) (m : SheetPoint) (o : List ℕ) (b : Bool) (e : b ≡ is_repeated pen m) where
  pub put-repeated : b ≡ true → (pen ≡ sheet_pen_after pen m) × (o ≡ sets o (next_word pen) (sheet_words_of pen m))
  put-repeated h =
      let i = sym e ∙ h in
      (sym (repeated-pen pen m i), rw (repeated-words pen m i))

  pub put-new : (o₁ o₂ : List ℕ) (at x y : ℕ) (r : Pen) → b ≡ false → at ≡ next_word pen → x ≡ word64 m.x → o₁ ≡ set o at x → y ≡ word64 m.y → o₂ ≡ set o₁ (at + 1) y
      → r ≡ one_more pen m → (r ≡ sheet_pen_after pen m) × (o₂ ≡ sets o (next_word pen) (sheet_words_of pen m))
  unfolding sheet_point_words
  put-new o₁ o₂ at x y r h ea ex e₁ ey e₂ er =
      let i = sym e ∙ h in
      (er ∙ sym (new-pen pen m i), e₂ ∙ rw (new-words pen m i, ← ea, ← ex, ← ey, ← e₁, add-one at))

module _ (pen : Pen) (p : Vec3) (o o' : List ℕ) (r : Pen) where
  pub put_vector : (at : ℕ) → pen.style ≡ Points → at ≡ next_word pen → o' ≡ sets o at (vec_words p) → r ≡ one_more pen pen.last → PutPointExit pen p o o' r
  put_vector at e ea w er = record { pen-after = er ∙ sym (after-points pen p e); words = w ∙ rw (added-points pen p e, ← ea) }

  pub put-sheet : (c : Rounding) (m : SheetPoint) → pen.style ≡ Sheet c → m ≡ sheet_point c p → (r ≡ sheet_pen_after pen m) × (o' ≡ sets o (next_word pen) (sheet_words_of pen m))
      → PutPointExit pen p o o' r
  put-sheet c m e em w =
      record { pen-after = w.0 ∙ rw (em, after-sheet pen p c e); words = w.1 ∙ rw (em, added-sheet pen p c e) }

-- ---- along a list of points

words-cons : (pen : Pen) (p : Vec3) (l : List Vec3) → words_along pen (p ∷ l) ≡ added_words pen p ++ words_along (pen_after pen p) l
unfolding words_along
words-cons pen p l = refl

pen-cons : (pen : Pen) (p : Vec3) (l : List Vec3) → pen_along pen (p ∷ l) ≡ pen_along (pen_after pen p) l
unfolding pen_along fold
pen-cons pen p l = refl

pub along-more : (pen : Pen) (l : List Vec3) (p : Vec3) → words_along pen (l ++ p ∷ []) ≡ words_along pen l ++ added_words (pen_along pen l) p
unfolding words_along pen_along fold
along-more pen [] p = append-nil (added_words pen p)
along-more pen (q ∷ l) p = ap (λ (ws : List ℕ). added_words pen q ++ ws) (along-more (pen_after pen q) l p) ∙ sym (append_assoc (added_words pen q) _ _)

pub pen-more : (pen : Pen) (l : List Vec3) (p : Vec3) → pen_along pen (l ++ p ∷ []) ≡ pen_after (pen_along pen l) p
unfolding pen_along fold
pen-more pen [] p = refl
pen-more pen (q ∷ l) p = pen-more (pen_after pen q) l p

-- the pen goes behind the words that it wrote
after_next : (pen : Pen) (p : Vec3) → next_word (pen_after pen p) ≡ next_word pen + length (added_words pen p)
after_next pen p = by pen.style refl
  where
    by-new : (m : SheetPoint) (c : Rounding) → pen.style ≡ Sheet c → (b : Bool) → is_repeated pen m ≡ b → next_word (sheet_pen_after pen m) ≡ next_word pen + length (sheet_words_of pen m)
    by-new m c e true h = rw (repeated-pen pen m h, repeated-words pen m h) (sym (add-zero (next_word pen)))
    by-new m c e false h =
        rw (new-pen pen m h, new-words pen m h)
        (more-next pen m 2 (unfold width in rw e) (inr refl) ∙ ap (λ (n : ℕ). next_word pen + n) (unfold sheet_point_words in refl))

    by : (s : Style) → pen.style ≡ s → next_word (pen_after pen p) ≡ next_word pen + length (added_words pen p)
    by Points e =
        rw (after-points pen p e, added-points pen p e)
        (more-next pen pen.last 3 (unfold width in rw e) (inl refl) ∙ ap (λ (n : ℕ). next_word pen + n) (unfold vec_words in refl))
    by (Sheet c) e = rw (after-sheet pen p c e, added-sheet pen p c e) (by-new (sheet_point c p) c e (is_repeated pen (sheet_point c p)) refl)

pub along-next : (pen : Pen) (l : List Vec3) → next_word (pen_along pen l) ≡ next_word pen + length (words_along pen l)
unfolding words_along pen_along fold
along-next pen [] = sym (add-zero (next_word pen))
along-next pen (p ∷ l) =
    let h = along-next (pen_after pen p) l in
    let k = after_next pen p in
    let n = length-append (added_words pen p) (words_along (pen_after pen p) l) in
    h ∙ omega (arith, k, n)

-- one point more of a line: the turn of a loop
module _ (start : Pen) (done : List Vec3) (q : Vec3) {o' o'' : List ℕ} {pen r : Pen} (e : pen ≡ pen_along start done) (t : PutPointExit pen q o' o'' r) where
  pub turned-pen : r ≡ pen_along start (done ++ q ∷ [])
  turned-pen = t.pen-after ∙ rw (e, pen-more start done q)

  pub turned-words : (o : List ℕ) → o' ≡ sets o (next_word start) (words_along start done) → o'' ≡ sets o (next_word start) (words_along start (done ++ q ∷ []))
  turned-words o w =
      t.words ∙ rw (w, e, along-next start done, along-more start done q) (sym (sets-append o (next_word start) (words_along start done) (added_words (pen_along start done) q)))

-- ---- the words of a whole line

-- of points, whatever the pen wrote before
points-along : (l : List Vec3) (pen : Pen) → pen.style ≡ Points → (words_along pen l ≡ point_words l) × ((pen_along pen l).count ≡ pen.count + length l)
unfolding words_along pen_along fold point_words
points-along [] pen e = (refl, sym (add-zero pen.count))
points-along (p ∷ l) pen e =
    let h = points-along l (one_more pen pen.last) (more-style pen pen.last ∙ e) in
    let k = more-count pen pen.last in (
      rw (words-cons pen p l, after-points pen p e, added-points pen p e) (ap (λ (ws : List ℕ). vec_words p ++ ws) h.0),
      rw (pen-cons pen p l, after-points pen p e) (h.1 ∙ omega (arith, k)),
    )

-- of a sheet, where a point stands on it already
module _ (c : Rounding) where
  record Along (pen : Pen) (l : List Vec3) (k : List SheetPoint) : Type 0 where
    words : words_along pen l ≡ sheet_words k
    count : (pen_along pen l).count ≡ pen.count + length k

  more-last : (pen : Pen) (m : SheetPoint) → (one_more pen m).last ≡ m
  unfolding one_more
  more-last pen m = refl

  -- a point that is new
  along-new : (pen : Pen) (p : Vec3) (l : List Vec3) (k : List SheetPoint) → pen.style ≡ Sheet c → is_repeated pen (sheet_point c p) ≡ false
      → Along (one_more pen (sheet_point c p)) l k → Along pen (p ∷ l) (sheet_point c p ∷ k)
  unfolding sheet_words
  along-new pen p l k e n h =
      let q = more-count pen (sheet_point c p) in
      record {
        words = rw (words-cons pen p l, after-sheet pen p c e, added-sheet pen p c e, new-pen pen (sheet_point c p) n, new-words pen (sheet_point c p) n) (ap (λ (ws : List ℕ). sheet_point_words (sheet_point c p) ++ ws) h.words);
        count = rw (pen-cons pen p l, after-sheet pen p c e, new-pen pen (sheet_point c p) n) (h.count ∙ omega (arith, q));
      }

  -- one that repeats the one before
  along-repeated : (pen : Pen) (p : Vec3) (l : List Vec3) (k : List SheetPoint) → pen.style ≡ Sheet c → is_repeated pen (sheet_point c p) ≡ true → Along pen l k → Along pen (p ∷ l) k
  along-repeated pen p l k e n h =
      record {
        words = rw (words-cons pen p l, after-sheet pen p c e, added-sheet pen p c e, repeated-pen pen (sheet_point c p) n, repeated-words pen (sheet_point c p) n) h.words;
        count = rw (pen-cons pen p l, after-sheet pen p c e, repeated-pen pen (sheet_point c p) n) h.count;
      }

  repeats-by : (pen : Pen) (m : SheetPoint) → 0 < pen.count → is_repeated pen m ≡ is_same pen.last m
  unfolding is_repeated
  repeats-by pen m h = rw (lt-ltb 0 pen.count h)

  first-new : (pen : Pen) (m : SheetPoint) → pen.count ≡ 0 → is_repeated pen m ≡ false
  unfolding is_repeated
  first-new pen m h = rw h

  sheet-along : (l : List Vec3) (pen : Pen) → pen.style ≡ Sheet c → 0 < pen.count → Along pen l (listed_after c pen.last l)
  unfolding listed_after one_more
  sheet-along [] pen e h = unfold words_along pen_along fold sheet_words in record { words = refl; count = sym (add-zero pen.count) }
  sheet-along (p ∷ l) pen e h =
      let k = more-count pen (sheet_point c p) in
      by (is_same pen.last (sheet_point c p)) refl (sheet-along l pen e h)
      (rw (more-last pen (sheet_point c p)) at (sheet-along l (one_more pen (sheet_point c p)) (more-style pen (sheet_point c p) ∙ e) (omega (arith, k))))
    where
      by : (b : Bool) → is_same pen.last (sheet_point c p) ≡ b → Along pen l (listed_after c pen.last l)
          → Along (one_more pen (sheet_point c p)) l (listed_after c (sheet_point c p) l)
          → Along pen (p ∷ l) (elim b [ true ↦ listed_after c pen.last l | false ↦ sheet_point c p ∷ listed_after c (sheet_point c p) l ])
      by true s dropped new = along-repeated pen p l _ e (repeats-by pen (sheet_point c p) h ∙ s) dropped
      by false s dropped new = along-new pen p l _ e (repeats-by pen (sheet_point c p) h ∙ s) new

  sheet-whole : (pen : Pen) (p : Vec3) (l : List Vec3) → pen.style ≡ Sheet c → pen.count ≡ 0 → Along pen (p ∷ l) (listed c (p ∷ l))
  unfolding listed one_more
  sheet-whole pen p l e h =
      let k = more-count pen (sheet_point c p) in
      along-new pen p l _ e (first-new pen (sheet_point c p) h)
      (rw (more-last pen (sheet_point c p)) at (sheet-along l (one_more pen (sheet_point c p)) (more-style pen (sheet_point c p) ∙ e) (omega (arith, k))))

-- a pen that wrote nothing yet writes the words of the line
pub whole-line : (pen : Pen) (p : Vec3) (l : List Vec3) → pen.count ≡ 0 → line_words pen.style (p ∷ l) ≡ (pen_along pen (p ∷ l)).count ∷ words_along pen (p ∷ l)
unfolding line_words
whole-line pen p l h = by pen.style refl
  where
    by : (s : Style) → pen.style ≡ s → line_words s (p ∷ l) ≡ (pen_along pen (p ∷ l)).count ∷ words_along pen (p ∷ l)
    by Points e = let k = points-along (p ∷ l) pen e in rw (k.0, k.1, h, zero-add (length (p ∷ l)))
    by (Sheet c) e = let k = sheet-whole c pen p l e h in rw (k.words, k.count, h, zero-add (length (listed c (p ∷ l))))

-- ---- what stays as a pen goes on, and how far it may have come

pub record Kept (pen r : Pen) : Type 0 where
  pub style : r.style ≡ pen.style
  pub at : r.at ≡ pen.at
  pub few : r.count ≤ pen.count + 1

pub after_kept : (pen : Pen) (p : Vec3) → Kept pen (pen_after pen p)
after_kept pen p = by pen.style refl
  where
    one : (m : SheetPoint) → Kept pen (one_more pen m)
    one m = unfold one_more in record { style = refl; at = refl; few = omega arith }

    sheet : (m : SheetPoint) (b : Bool) → is_repeated pen m ≡ b → Kept pen (sheet_pen_after pen m)
    sheet m true h = rw (repeated-pen pen m h) (record { style = refl; at = refl; few = omega arith })
    sheet m false h = rw (new-pen pen m h) (one m)

    by : (s : Style) → pen.style ≡ s → Kept pen (pen_after pen p)
    by Points e = rw (after-points pen p e) (one pen.last)
    by (Sheet c) e = rw (after-sheet pen p c e) (sheet (sheet_point c p) (is_repeated pen (sheet_point c p)) refl)

pub along-at : (pen : Pen) (l : List Vec3) → (pen_along pen l).at ≡ pen.at
unfolding pen_along fold
along-at pen [] = refl
along-at pen (p ∷ l) = along-at (pen_after pen p) l ∙ (after_kept pen p).at

first_next : (pen : Pen) → pen.count ≡ 0 → next_word pen ≡ suc pen.at
unfolding next_word
first_next pen h = rw (h, mul-zero (width pen.style)) (omega arith)

next-few : (pen : Pen) → pen.count ≤ most_steps + 1 → next_word pen ≤ pen.at + 196612
unfolding next_word width
next-few pen h = by pen.style
  where
    by : (s : Style) → pen.at + 1 + width s * pen.count ≤ pen.at + 196612
    by Points = omega arith
    by (Sheet c) = omega arith

-- ---- a whole line, from its first point to its count

module _ (start : Pen) (seed : Vec3) (l : List Vec3) (o o₁ o₂ o₃ : List ℕ) (first pen : Pen) (r : ℕ) (none : start.count ≡ 0) (t : PutPointExit start seed o o₁ first)
    (w : o₂ ≡ sets o₁ (next_word first) (words_along first l)) (e : pen ≡ pen_along first l) (c : o₃ ≡ set o₂ pen.at pen.count) (n : r ≡ next_word pen - pen.at) where
  pen-whole : pen ≡ pen_along start (seed ∷ l)
  pen-whole = e ∙ rw (t.pen-after, pen-cons start seed l)

  pen-place : pen.at ≡ start.at
  pen-place = rw pen-whole (along-at start (seed ∷ l))

  points-whole : o₂ ≡ sets o (suc start.at) (words_along start (seed ∷ l))
  points-whole =
      w ∙ rw (t.words, t.pen-after, after_next start seed, words-cons start seed l, ← first_next start none)
      (sym (sets-append o (next_word start) (added_words start seed) (words_along (pen_after start seed) l)))

  pub line-words : o₃ ≡ sets o start.at (line_words start.style (seed ∷ l))
  line-words =
      c ∙ rw (points-whole, pen-place, pen-whole, whole-line start seed l none)
      (sets-set (words_along start (seed ∷ l)) o start.at (suc start.at) (pen_along start (seed ∷ l)).count (omega arith))

  pub line-count : r ≡ length (line_words start.style (seed ∷ l))
  line-count =
      let a = along-next start (seed ∷ l) in
      let b = first_next start none in
      let k : next_word pen ≡ suc start.at + length (words_along start (seed ∷ l)) = rw pen-whole (omega (arith, a, b)) in
      rw (whole-line start seed l none) (omega (arith, n, k, pen-place))

  pub line-few : pen.count ≤ most_steps + 1 → r ≤ 196612
  line-few h = let k = next-few pen h in omega (arith, n)
