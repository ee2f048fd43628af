-- Laws of the chains: the walk along one, the search, and what keeps them. Assumes nothing.
use mathlib.Core.Path.{◌≡◌, refl, sym, ap, ◌∙◌}
use mathlib.Core.Bool.{Bool, true, false}
use mathlib.Core.List.{List, ◌++◌}
use Prim.Native.Nat.{ℕ, suc, ◌+◌, ◌-◌, ◌*◌, ◌%◌, ◌<◌, ◌≤◌}
use native.Mathlib.Nat.{mod-lt}
use native.Mathlib.Omega.{arith}
use borrow.Author.Tests.{eq-eqb, eqb-true}
use lib.ListN.{length, get_or, take, drop}
use lib.Seq.{length-take-le}
use Rattle.arith.specs.Lists.{same, sorted}
use Rattle.arith.proofs.RecordLaws.{chunk-lent, length-chunk}
use Rattle.mesh_keys.specs.Keys.{total}
use Rattle.mesh_keys.proofs.KeyLaws.{same_true, sorted_front}
use Rattle.mesh_keys.proofs.OrderLaws.{total-sorted}
use Rattle.mesh_face_table.specs.Records.{FaceWords, face_words_of, face_words_in, head_in}
use Rattle.mesh_face_table.specs.Chains.{last, bucket_of, in_bucket, key_at, Chains}
use Rattle.mesh_face_table.specs.Ensures.{FindEntry}
use Rattle.mesh_face_table.proofs.Last.{last-hit, last-miss, last-le, last-same, last-passes, last-skip}

-- ---- the walk along a chain

-- equal keys share a bucket
same-bucket : (body : ℕ → FaceWords) (slots : ℕ) (key : List ℕ) (k : ℕ) → key_at body key k ≡ true → in_bucket body slots (bucket_of slots key) k ≡ true
same-bucket body slots key k h =
    let e : sorted (body k).vertices ≡ key = same_true _ _ h in
    let t : total (body k).vertices ≡ total key = sym (total-sorted _) ∙ ap total e in
    eq-eqb _ _ (ap (λ (m : ℕ). m % slots) t)

-- at is the last face of the bucket below top, and no face from top on has the key
pub record Walking (w : List ℕ) (slots n : ℕ) (key : List ℕ) (b at : ℕ) : Type 0 where
  pub bucket : b ≡ bucket_of slots key
  pub inside : at ≤ n
  pub top : ℕ
  pub here : at ≡ last (in_bucket (face_words_in w) slots b) top
  pub below : top ≤ n
  pub same_above : last (key_at (face_words_in w) key) top ≡ last (key_at (face_words_in w) key) n

pub walk_start : (w : List ℕ) (slots n : ℕ) (key : List ℕ) (s head at : ℕ) → FindEntry w slots n key → s ≡ total key → head ≡ head_in w slots (s % slots) → at ≡ head
    → Walking w slots n key (s % slots) at
walk_start w slots n key s head at ch es eh ea =
    let e : at ≡ last (in_bucket (face_words_in w) slots (s % slots)) n = ea ∙ eh ∙ ch.chains.heads (s % slots) (mod-lt s ch.some) in
    record {
      bucket = ap (λ (m : ℕ). m % slots) es;
      inside = let l = last-le (in_bucket (face_words_in w) slots (s % slots)) n in omega arith;
      top = n;
      here = e;
      below = omega arith;
      same_above = refl;
    }

module _ (w : List ℕ) (slots n : ℕ) (key : List ℕ) (b at : ℕ) (g : Walking w slots n key b at) where
  skips : last (key_at (face_words_in w) key) at ≡ last (key_at (face_words_in w) key) n
  skips = rw g.here (sym (last-skip _ _ g.top (λ k h. rw g.bucket (same-bucket (face_words_in w) slots key k h))) ∙ g.same_above)

  pub walk_end : at ≡ 0 → 0 ≡ last (key_at (face_words_in w) key) n
  unfolding last
  walk_end e = rw e at skips

  module _ (more : at ≡ 0 → ⊥) where
    up : at ≡ suc (at - 1)
    up = omega arith

    low : at - 1 < n
    low = let h = g.inside in omega arith

    in-bucket : bucket_of slots (face_words_in w (at - 1)).vertices ≡ b
    in-bucket = eqb-true _ _ (last-passes (in_bucket (face_words_in w) slots b) g.top (at - 1) (sym g.here ∙ up))

    module _ (t : Bool) (et : t ≡ same (sorted (face_words_of (take (12 * (at - 1) + 12 - 12 * (at - 1)) (drop (12 * (at - 1)) w))).vertices) key) where
      test : key_at (face_words_in w) key (at - 1) ≡ t
      unfolding face_words_in
      test = sym (et ∙ ap (λ (l : List ℕ). same (sorted (face_words_of l).vertices) key) (chunk-lent w 12 (at - 1)))

      pub walk-hit : t ≡ true → at ≡ last (key_at (face_words_in w) key) n
      walk-hit q = up ∙ sym (last-hit _ _ (test ∙ q)) ∙ ap (last (key_at (face_words_in w) key)) (sym up) ∙ skips

      pub walk_turn : t ≡ false → FindEntry w slots n key → (link at' : ℕ) → link ≡ (face_words_in w (at - 1)).link → at' ≡ link → Walking w slots n key b at'
      walk_turn q ch link at' el ea =
          let e : at' ≡ last (in_bucket (face_words_in w) slots b) (at - 1) = ea ∙ el ∙ ch.chains.links (at - 1) low ∙ rw in-bucket in
          record {
            bucket = g.bucket;
            inside = let l = last-le (in_bucket (face_words_in w) slots b) (at - 1) in let h = g.inside in omega arith;
            top = at - 1;
            here = e;
            below = let h = g.inside in omega arith;
            same_above = sym (last-miss _ _ (test ∙ q)) ∙ ap (last (key_at (face_words_in w) key)) (sym up) ∙ skips;
          }

    pub walk-less : FindEntry w slots n key → (link at' : ℕ) → link ≡ (face_words_in w (at - 1)).link → at' ≡ link → at' < at
    walk-less ch link at' el ea =
        let e : at' ≡ last (in_bucket (face_words_in w) slots b) (at - 1) = ea ∙ el ∙ ch.chains.links (at - 1) low ∙ rw in-bucket in
        let l = last-le (in_bucket (face_words_in w) slots b) (at - 1) in
        omega arith

    -- the record that the walk hands over
    pub walk-room : FindEntry w slots n key → 12 * (at - 1) + 12 ≤ length w
    walk-room ch = let h = g.inside in let r = ch.chains.room in let f = ch.chains.few in omega arith

    pub walk-short : FindEntry w slots n key → get_or (take (12 * (at - 1) + 12 - 12 * (at - 1)) (drop (12 * (at - 1)) w)) 0 0 ≤ 8
    unfolding face_words_in face_words_of
    walk-short ch = rw (chunk-lent w 12 (at - 1)) (ch.chains.short (at - 1) low)

    pub walk-long : FindEntry w slots n key → length (take (12 * (at - 1) + 12 - 12 * (at - 1)) (drop (12 * (at - 1)) w)) ≡ 12
    walk-long ch = rw (chunk-lent w 12 (at - 1)) (length-chunk w 12 (at - 1) (walk-room ch))

pub head-room : (w : List ℕ) (slots n s : ℕ) (key : List ℕ) → FindEntry w slots n key → 12 * slots + s % slots < length w
head-room w slots n s key ch = let h = mod-lt s ch.some in let r = ch.chains.room in omega arith

pub ruleset walks = (walk_start, walk_turn, walk-hit, walk_end, walk-less, walk-short, walk-long, head-room)

-- ---- the search

pub looked-up : (w key vertices rest : List ℕ) (n r : ℕ) → key ≡ sorted vertices ++ rest → r ≡ last (key_at (face_words_in w) (take (length vertices) key)) n
    → r ≡ last (key_at (face_words_in w) (sorted vertices)) n
looked-up w key vertices rest n r ek er = er ∙ ap (λ (k : List ℕ). last (key_at (face_words_in w) k) n) (sorted_front key vertices rest ek)

pub looked-in : (w key : List ℕ) (n r : ℕ) → r ≡ last (key_at (face_words_in w) key) n → r ≤ n
looked-in w key n r e = let l = last-le (key_at (face_words_in w) key) n in omega arith

pub searchable : (w key vertices : List ℕ) (slots n : ℕ) → FindEntry w slots n vertices → length key ≡ 8 → FindEntry w slots n (take (length vertices) key)
searchable w key vertices slots n h long =
    record {
      chains = h.chains;
      some = h.some;
      short = let s = h.short in rw (length-take-le (length vertices) key (omega arith)) s;
    }

pub ruleset lookups = (looked-up, looked-in, searchable)

-- ---- chains over records with the same numbers and links

pub record Linked (b b' : FaceWords) : Type 0 where
  pub count : b'.count ≡ b.count
  pub vertices : b'.vertices ≡ b.vertices
  pub link : b'.link ≡ b.link

pub chains-same : (w w' : List ℕ) (slots n : ℕ) → Chains w slots n → 13 * slots ≤ length w' → ((j : ℕ) → j < n → Linked (face_words_in w j) (face_words_in w' j))
    → ((b : ℕ) → b < slots → head_in w' slots b ≡ head_in w slots b) → Chains w' slots n
chains-same w w' slots n ch room h heads =
    record {
      few = ch.few;
      room = room;
      short = λ k l. rw (h k l).count (ch.short k l);
      links =
          λ k l. (h k l).link ∙ ch.links k l
          ∙ last-same _ _ k (λ m q. rw ((h m (lower m k q l)).vertices, (h k l).vertices));
      heads = λ b l. heads b l ∙ ch.heads b l ∙ last-same _ _ n (λ m q. rw (h m q).vertices);
      distinct = λ j k lj lk e. ch.distinct j k lj lk (sym (ap sorted (h j lj).vertices) ∙ e ∙ ap sorted (h k lk).vertices);
    }
  where
    lower : (m k : ℕ) → m < k → k < n → m < n
    lower m k q l = omega arith
