-- The words of one answer. Assumes nothing.
use Prim.Native.Nat.{ℕ, suc, ◌+◌, ◌-◌, ◌*◌, ◌≤◌, ◌<◌}
use native.Mathlib.Omega.{arith}
use mathlib.Core.Path.{◌≡◌, refl, ap, sym, ◌∙◌}
use mathlib.Core.Bool.{Bool, true, false, cond}
use mathlib.Core.List.{List, [], ◌∷◌, ◌++◌, append_assoc}
use lib.Dec.{leb}
use lib.ListN.{length, get_or, set, take, drop, length-append, length-set}
use lib.Seq.{length-take-le, drop-cons, split_at, set_at, take-append-add}
use borrow.Author.Tests.{le-leb, lt-leb, leb-true}
use Rattle.reading.specs.Result.{Refusable}
use Rattle.answers.specs.Ensures.{length_of, StoredWords, CloseExit}
use Rattle.answers.proofs.Behind.{Behind}
use Rattle.answers.specs.Answer.{fitting, answer_words, header_of}
use Rattle.std.specs.Prelude.{Ok, Err}
use Rattle.refusal.specs.Number.{number}
use Rattle.refusal.specs.declared.Refusal.{Refusal}
use Rattle.refusal.specs.declared.Refusal.TheVariants.{AnswerTooLong}

-- ---- one answer

-- a header before n words that stand
pub header : (o : List ℕ) (at a b n : ℕ) → at + 2 + n ≤ length o → take (at + 2 + n) (set (set o at a) (at + 1) b) ≡ take at o ++ a ∷ b ∷ take n (drop (at + 2) o)
header o at a b n h =
    ap (λ t. take (at + 2 + n) t) both
    ∙ ap (λ k. take k (take at o ++ a ∷ b ∷ drop (at + 2) o)) place
    ∙ take-append-add (take at o) (a ∷ b ∷ drop (at + 2) o) (suc (suc n))
  where
    long : length (take at o) ≡ at
    long = length-take-le at o (omega arith)

    place : at + 2 + n ≡ length (take at o) + suc (suc n)
    place = omega (arith, long)

    two : suc (suc at) ≡ at + 2
    two = omega arith

    split : o ≡ take at o ++ get_or o at 0 ∷ get_or o (suc at) 0 ∷ drop (at + 2) o
    split = split_at o at 0 (omega arith) ∙ ap (λ t. take at o ++ get_or o at 0 ∷ t) (drop-cons o (suc at) 0 (omega arith) ∙ ap (λ k. get_or o (suc at) 0 ∷ drop k o) two)

    first : set o at a ≡ take at o ++ a ∷ get_or o (suc at) 0 ∷ drop (at + 2) o
    first = ap (λ t. set t at a) split ∙ set_at (take at o) (get_or o at 0) _ a at long

    second : (p : List ℕ) (y : ℕ) (q : List ℕ) → length p ≡ at → set (p ++ a ∷ y ∷ q) (at + 1) b ≡ p ++ a ∷ b ∷ q
    second p y q e =
        ap (λ t. set t (at + 1) b) (sym (append_assoc p (a ∷ []) (y ∷ q)))
        ∙ set_at (p ++ a ∷ []) y q b (at + 1) (simp length-append (omega arith))
        ∙ append_assoc p (a ∷ []) (b ∷ q)

    both : set (set o at a) (at + 1) b ≡ take at o ++ a ∷ b ∷ drop (at + 2) o
    both = ap (λ t. set t (at + 1) b) first ∙ second (take at o) _ _ long

pub set_long : (o : List ℕ) (i j a b : ℕ) → length (set (set o i a) j b) ≡ length o
set_long o i j a b = simp length-set refl

-- the answer of a refusal
pub placed-refused : (o o' : List ℕ) (at later : ℕ) (k : Refusal) (r : ℕ) → at + 2 + 2 * later ≤ length o → r ≡ at + 2 + 0 → o' ≡ set (set o at (number k)) (at + 1) 0 → StoredWords (answer_words (Err k)) o o' at later r
unfolding answer_words
placed-refused o o' at later k r h e s =
    record {
      words = ap (λ (i : ℕ). take i o') e ∙ ap (take (at + 2 + 0)) s ∙ header o at (number k) 0 0 (omega arith);
      end = omega arith;
      room = omega arith;
      long = ap length s ∙ set_long o at (at + 1) (number k) 0;
    }

-- the answer of words that stand
pub placed-words : (o o' ws : List ℕ) (at later k r : ℕ) → k ≡ length ws → at + 2 + k + 2 * later ≤ length o → take k (drop (at + 2) o) ≡ ws → r ≡ at + 2 + k
    → o' ≡ set (set o at 0) (at + 1) k → StoredWords (answer_words (Ok ws)) o o' at later r
unfolding answer_words
placed-words o o' ws at later k r c h w e s =
    record {
      words = ap (λ (i : ℕ). take i o') e ∙ ap (take (at + 2 + k)) s ∙ header o at 0 k k (omega arith) ∙ ap (λ t. take at o ++ 0 ∷ k ∷ t) w ∙ ap (λ (i : ℕ). take at o ++ 0 ∷ i ∷ ws) c;
      end = omega arith;
      room = omega arith;
      long = ap length s ∙ set_long o at (at + 1) 0 k;
    }

-- ---- the three ends of `close`

module _ {o o' : List ℕ} {at e : ℕ} {r : Refusable ℕ} (later : ℕ) where
  pub close-refused : {k : Refusal} → r ≡ Err k → (e ≡ at + 2 + 0) × (o' ≡ set (set o at (number k)) (at + 1) 0) → CloseExit (header_of (length o - at) later r) o o' at e
  unfolding header_of
  close-refused q p = rw q (record { answers = p.1; end = p.0 })

  pub close-fits : {k : ℕ} → r ≡ Ok k → at + 2 + 2 * later ≤ length o → k ≤ length o - at - 2 - 2 * later
      → (e ≡ at + 2 + k) × (o' ≡ set (set o at 0) (at + 1) k) → CloseExit (header_of (length o - at) later r) o o' at e
  unfolding header_of
  close-fits {k = k} q h f p = rw (q, le-leb (k + 2 + 2 * later) (length o - at) (omega arith)) (record { answers = p.1; end = p.0 })

  pub close-44 : {k : ℕ} → r ≡ Ok k → at + 2 + 2 * later ≤ length o → length o - at - 2 - 2 * later < k
      → (e ≡ at + 2 + 0) × (o' ≡ set (set o at 44) (at + 1) 0) → CloseExit (header_of (length o - at) later r) o o' at e
  unfolding header_of
  close-44 {k = k} q h f p = rw (q, lt-leb (k + 2 + 2 * later) (length o - at) (omega arith)) (record { answers = p.1; end = p.0 })

-- ---- the answer that r tells of, 44 where it does not fit, stands from `at` on

module _ (o o' : List ℕ) (at later e : ℕ) (h : at + 2 + 2 * later ≤ length o) where
  words_placed : (ws : List ℕ) (t : Bool) → leb (length ws + 2 + 2 * later) (length o - at) ≡ t → Behind (Ok ws) o at
      → CloseExit (cond t (record { refusal = 0; count = length ws }) (record { refusal = 44; count = 0 })) o o' at e → StoredWords (answer_words (cond t (Ok ws) (Err AnswerTooLong))) o o' at later e
  words_placed ws true q b c =
      let fits = leb-true (length ws + 2 + 2 * later) (length o - at) q in
      placed-words o o' ws at later (length ws) e refl (omega arith) (b.words ws refl (omega arith)) c.end c.answers
  words_placed ws false q b c = placed-refused o o' at later AnswerTooLong e h c.end c.answers

  pub closed-placed : (reply : Refusable (List ℕ)) (r : Refusable ℕ) → r ≡ length_of reply → Behind reply o at → CloseExit (header_of (length o - at) later r) o o' at e
      → StoredWords (answer_words (fitting (length o - at) later reply)) o o' at later e
  unfolding header_of length_of fitting
  closed-placed (Err n) (Err k) q b c =
      let same : k ≡ n = cc in
      placed-refused o o' at later n e h c.end (c.answers ∙ ap (λ (i : Refusal). set (set o at (number i)) (at + 1) 0) same)
  closed-placed (Err n) (Ok k) q b c = absurd (let z : ◌≡◌ {A = ℕ} 0 1 = cc in omega arith)
  closed-placed (Ok ws) (Err k) q b c = absurd (let z : ◌≡◌ {A = ℕ} 0 1 = cc in omega arith)
  closed-placed (Ok ws) (Ok k) q b c =
      let same : k ≡ length ws = cc in
      words_placed ws (leb (length ws + 2 + 2 * later) (length o - at)) refl b (rw same at c)
