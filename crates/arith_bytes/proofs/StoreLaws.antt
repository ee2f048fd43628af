-- One turn of each loop that stores: what is left, stored from here, is the whole stored. Assumes nothing.
use Prim.Native.Nat.{ℕ, ◌+◌, ◌-◌, ◌*◌, ◌/◌, ◌%◌, ◌≤◌, ◌<◌}
use native.Mathlib.Nat.{zero-add, mul-suc, mul-add}
use native.Mathlib.Numerals.{add-one}
use native.Mathlib.Omega.{arith}
use mathlib.Core.Path.{◌≡◌, ap, sym, ◌∙◌}
use mathlib.Core.List.{List, ◌∷◌, ◌++◌, append_assoc, append-nil}
use lib.ListN.{length, get_or, take, drop, set, length-drop}
use borrow.Rule.Slice.PartMut.{put_mid, Post-is}
use lib.Seq.{take-suc-set, take_all, length-take-le, paste, paste-suc}
use Rattle.arith.proofs.RecordLaws.{left-suc, stride-le, drop-next, drop-end}
use Rattle.arith_bytes.specs.Stored.{le_bytes, all_bytes, stored}
use Rattle.arith_bytes.proofs.ByteLaws.{length-le_bytes, length-all_bytes, stored-none, length-stored, stored_more}

-- ---- one number: i bytes are stored, `left` has the others

pub storing-next : (items : List ℕ) (size left i : ℕ) (all : List ℕ) → take i items ++ le_bytes (size - i) left ≡ all → i < size → i < length items →
    take (i + 1) (set items i (left % 256)) ++ le_bytes (size - (i + 1)) (left / 256) ≡ all
unfolding le_bytes
storing-next items size left i all inv h g =
    rw (add-one i, take-suc-set items i (left % 256) g, append_assoc, ← add-one i) (rw (left-suc size i h) at inv)

-- the bytes put back in the place that was lent
pub storing-ends : (out items : List ℕ) (at size w left i : ℕ) → take i items ++ le_bytes (size - i) left ≡ le_bytes size w → i ≡ size → length items ≡ size →
    put_mid at (at + size - at) out items ≡ stored at (le_bytes size w) out
unfolding le_bytes stored
storing-ends out items at size w left i inv e long =
    let z : size - i ≡ 0 = omega arith in
    let all : length items ≤ i = omega arith in
    let whole : items ≡ le_bytes size w = sym (append-nil items) ∙ rw (z, take_all i items all) at inv in
    let n : length (le_bytes size w) ≡ size = length-le_bytes size w in
    rw (Post-is at (at + size) out (omega arith), whole, n)

-- ---- all numbers of a list, of s bytes each: i are stored

pub record Listing (s : ℕ) (out₀ : List ℕ) (at : ℕ) (ws out : List ℕ) (i : ℕ) : Type 0 where
  pub whole : stored (at + s * i) (all_bytes s (drop i ws)) out ≡ stored at (all_bytes s ws) out₀
  pub long : length out ≡ length out₀
  pub within : i ≤ length ws

module _ {s : ℕ} {out₀ : List ℕ} {at : ℕ} {ws out : List ℕ} {i : ℕ} (l : Listing s out₀ at ws out i) (room : at + s * length ws ≤ length out₀) where
  -- there is room for one more
  pub listing-room : i < length ws → at + s * i + s ≤ length out
  listing-room h = omega (arith, l.long, stride-le s h)

  pub listing-next : {out' : List ℕ} → i < length ws → out' ≡ stored (at + s * i) (le_bytes s (get_or ws i 0)) out → Listing s out₀ at ws out' (i + 1)
  unfolding all_bytes
  listing-next h e =
      let d : drop i ws ≡ get_or ws i 0 ∷ drop (i + 1) ws = drop-next ws i 0 h in
      let m : ℕ = length ws - (i + 1) in
      let n : length ws ≡ i + 1 + m = omega arith in
      let a : s * length ws ≡ s * (i + 1) + s * m = ap (λ (x : ℕ). s * x) n ∙ mul-add s (i + 1) m in
      let b : s * (i + 1) ≡ s * i + s = rw add-one (mul-suc s i) in
      let k : length (drop (i + 1) ws) ≡ m = length-drop (i + 1) ws in
      let g : length (all_bytes s (drop (i + 1) ws)) ≡ s * m = length-all_bytes s (drop (i + 1) ws) ∙ ap (λ (x : ℕ). s * x) k in
      let f : length (le_bytes s (get_or ws i 0)) ≡ s = length-le_bytes s (get_or ws i 0) in
      let fits : at + s * i + (length (le_bytes s (get_or ws i 0)) + length (all_bytes s (drop (i + 1) ws))) ≤ length out = omega (arith, l.long) in
      let more = stored_more (at + s * i) out (le_bytes s (get_or ws i 0)) (all_bytes s (drop (i + 1) ws)) fits in
      let p : at + s * (i + 1) ≡ at + s * i + length (le_bytes s (get_or ws i 0)) = omega arith in
      record {
        whole = rw (p, e) (more ∙ rw d at l.whole);
        long = ap length e ∙ length-stored (at + s * i) out (le_bytes s (get_or ws i 0)) (omega arith) ∙ l.long;
        within = omega arith;
      }

  -- the same for a number that was widened
  pub listing-wide : {out' : List ℕ} (w : ℕ) → i < length ws → w ≡ get_or ws i 0 → out' ≡ stored (at + s * i) (le_bytes s w) out → Listing s out₀ at ws out' (i + 1)
  listing-wide w h g e = listing-next h (rw g at e)

  pub listing-ends : length ws ≤ i → out ≡ stored at (all_bytes s ws) out₀
  unfolding all_bytes
  listing-ends h = sym (stored-none (at + s * i) out) ∙ rw (drop-end ws i h) at l.whole

-- ---- bytes copied to the front by a loop: i of them are

pub copy-turn : (from to₀ to : List ℕ) (i : ℕ) → to ≡ paste to₀ 0 from i → i < length from → i < length to₀ → set to i (get_or from i 0) ≡ paste to₀ 0 from (i + 1)
copy-turn from to₀ to i e h g =
    rw (e, add-one i) (ap (λ (k : ℕ). set (paste to₀ 0 from i) k (get_or from i 0)) (sym (zero-add i)) ∙ paste-suc to₀ 0 from i 0 (omega arith) h)

pub copy_done : (from to₀ to : List ℕ) (n : ℕ) → to ≡ paste to₀ 0 from n → n ≤ length from → to ≡ stored 0 (take n from) to₀
unfolding stored
copy_done from to₀ to n e h = rw (length-take-le n from h) (e ∙ append_assoc (take 0 to₀) (take n from) (drop (0 + n) to₀))
