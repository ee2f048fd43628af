-- The words of a reply, stored behind the place of its header in a part that was lent. Assumes nothing.
use Prim.Native.Nat.{ℕ, ◌+◌, ◌-◌, ◌*◌, ◌≤◌}
use native.Mathlib.Omega.{arith}
use mathlib.Core.Path.{◌≡◌, refl, ap, ◌∙◌}
use mathlib.Core.List.{List, [], ◌++◌, append-nil}
use lib.ListN.{length, take, drop, length-append, length-drop, drop_of_length-le}
use lib.Seq.{sets, sets-eq, take_all, take_at, drop_at, take-append-le, length-take-le, take-take}
use Rattle.reading.specs.Result.{Refusable}
use Rattle.answers.specs.Ensures.{length_of, replied, StoredWords, CloseExit}
use Rattle.answers.proofs.Behind.{Behind}
use Rattle.answers.specs.Answer.{fitting, answer_words, header_of}
use Rattle.answers.proofs.BufferLaws.{closed-placed}
use Rattle.std.specs.Prelude.{Ok, Err}

module _ (o out' : List ℕ) (at : ℕ) (fits : at + 2 ≤ length o) where
  -- the answers with other words behind the header
  abbrev pub lent : List ℕ
  lent = take (at + 2) o ++ out'

  head-long : length (take (at + 2) o) ≡ at + 2
  head-long = length-take-le (at + 2) o fits

  pub lent-long : length out' ≡ length (drop (at + 2) o) → length lent ≡ length o
  lent-long e = length-append (take (at + 2) o) out' ∙ (let d = length-drop (at + 2) o in omega (arith, head-long, e))

  pub lent-before : take at lent ≡ take at o
  lent-before = take-append-le at (take (at + 2) o) out' (omega (arith, head-long)) ∙ take-take at (at + 2) o (omega arith)

  -- a reply that fits stands there
  pub behind : (reply : Refusable (List ℕ)) (left : List ℕ) → out' ≡ replied (drop (at + 2) o) left reply → length out' ≡ length (drop (at + 2) o) → Behind reply lent at
  unfolding replied
  behind (Err n) left e long = record { words = λ ws s h. absurd (let z : ◌≡◌ {A = ℕ} 0 1 = cc in omega arith) }
  behind (Ok vs) left e long =
      record {
        words = λ ws s h.
            let same : vs ≡ ws = cc in
            let room : length ws ≤ length (drop (at + 2) o) = omega (arith, lent-long long, length-drop (at + 2) o) in
            ap (take (length ws)) (drop_at (take (at + 2) o) out' (at + 2) head-long ∙ e ∙ ap (sets (drop (at + 2) o) 0) same ∙ sets-eq ws (drop (at + 2) o) 0 (omega arith))
            ∙ front ws (drop (0 + length ws) (drop (at + 2) o));
      }
    where
      front : (ws d : List ℕ) → take (length ws) (ws ++ d) ≡ ws
      front ws d = take_at ws d (length ws) refl

module _ (reply : Refusable (List ℕ)) (a : Refusable ℕ) (left o out' o' : List ℕ) (at later e : ℕ) (tells : a ≡ length_of reply) (fits : at + 2 + 2 * later ≤ length o) where
  pub placed-behind : out' ≡ replied (drop (at + 2) o) left reply → length out' ≡ length (drop (at + 2) o)
      → CloseExit (header_of (length (take (at + 2) o ++ out') - at) later a) (take (at + 2) o ++ out') o' at e
      → StoredWords (answer_words (fitting (length o - at) later reply)) o o' at later e
  placed-behind stored long c =
      let room : at + 2 ≤ length o = omega arith in
      let same : length (take (at + 2) o ++ out') ≡ length o = lent-long o out' at room long in
      let p = closed-placed (take (at + 2) o ++ out') o' at later e (omega (arith, same)) reply a tells (behind o out' at room reply left stored long) c in
      let w : answer_words (fitting (length (take (at + 2) o ++ out') - at) later reply) ≡ answer_words (fitting (length o - at) later reply) = ap (λ (k : ℕ). answer_words (fitting (k - at) later reply)) same in
      record {
        words = p.words ∙ ap (λ t. t ++ answer_words (fitting (length (take (at + 2) o ++ out') - at) later reply)) (lent-before o out' at room) ∙ ap (λ t. take at o ++ t) w;
        end = p.end ∙ ap (λ t. at + length t) w;
        room = omega (arith, p.room, same);
        long = p.long ∙ same;
      }

  -- the same where the words behind the header are lent as a part
  pub placed-part : (k : ℕ) → k ≡ length o - (at + 2) → out' ≡ replied (take k (drop (at + 2) o)) left reply → length out' ≡ length (take k (drop (at + 2) o))
      → CloseExit (header_of (length (take (at + 2) o ++ (out' ++ drop k (drop (at + 2) o))) - at) later a) (take (at + 2) o ++ (out' ++ drop k (drop (at + 2) o))) o' at e
      → StoredWords (answer_words (fitting (length o - at) later reply)) o o' at later e
  placed-part k n stored long c =
      let past : length (drop (at + 2) o) ≤ k = omega (arith, n, length-drop (at + 2) o) in
      let all : take k (drop (at + 2) o) ≡ drop (at + 2) o = take_all k (drop (at + 2) o) past in
      let none : drop k (drop (at + 2) o) ≡ [] = drop_of_length-le (drop (at + 2) o) past in
      let back : take (at + 2) o ++ (out' ++ drop k (drop (at + 2) o)) ≡ take (at + 2) o ++ out' = ap (λ t. take (at + 2) o ++ (out' ++ t)) none ∙ ap (λ t. take (at + 2) o ++ t) (append-nil out') in
      placed-behind (rw all at stored) (long ∙ ap length all) (rw back at c)
