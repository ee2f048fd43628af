-- Laws of the table in the lent area: the mesh's part lent and back, an empty table, and what leaves a table as it is. Assumes nothing.
use mathlib.Core.Path.{◌≡◌, refl, sym, ap, ◌∙◌}
use mathlib.Core.List.{List, ◌++◌}
use Prim.Native.Nat.{ℕ, ◌+◌, ◌-◌, ◌*◌, ◌<◌, ◌≤◌}
use native.Mathlib.Nat.{mod-lt, not-suc-le-zero}
use native.Mathlib.Omega.{arith}
use lib.ListN.{length, get_or, take, drop, replicate, length-replicate, get_or-replicate, length-append, take-append-drop, get_or-append}
use lib.Seq.{sets, length-sets, sets-eq, take_at, take-take, take-set-lt, drop-set-lt, length-take-le, get_or-take, get_or-append-add}
use lib.Ieee.{Float}
use Rattle.arith.specs.Records.{chunk, patch}
use Rattle.arith.proofs.RecordLaws.{length_part, tab-same, take-drop-take, same-below}
use Rattle.mesh_area.specs.Layout.{faces_in, face_in, mesh_words, mesh_floats, LentWords}
use Rattle.mesh_area.specs.declared.Sizes.{Sizes}
use Rattle.mesh_geometry.specs.declared.FaceGeometry.{FaceGeometry}
use Rattle.mesh_keys.specs.Keys.{total}
use Rattle.mesh_face_table.specs.Records.{face_words_of, face_words_in, measured_of, measured_in, face_of, table_in, head_in, new_face_at, floats_of}
use Rattle.mesh_face_table.specs.Chains.{last, bucket_of, Chains, Chained}
use Rattle.mesh_face_table.proofs.RecordParts.{face-parts, fresh-take, fresh-drop, sets-front, sets_behind, patch-sets}
use Rattle.mesh_face_table.proofs.ChainLaws.{chains-same}
use Rattle.mesh_faces.specs.declared.Added.{Added}
use Rattle.mesh_faces.specs.declared.Added.TheVariants.{New, Second, Third}
use Rattle.mesh_faces.specs.Ensures.{AddEntry, words_after, floats_after, SettleExit, faces_after, stored_at, with_faces, UseFaceEntry, UseFaceExit}

-- ---- area's faces are the table's

pub table-in : (w : List ℕ) (fl : List Float) (s : Sizes) (words : List ℕ) (floats : List Float) → mesh_words s words ≡ w → mesh_floats s floats ≡ fl
    → Chains w s.slots s.faces → faces_in s words floats ≡ table_in w fl s.faces
unfolding faces_in table_in
table-in w fl s words floats ew ef ch =
    rw (ew, ef) (tab-same (face_in w fl) (λ f. face_of (face_words_in w f) (measured_in fl f)) s.faces (λ k l. face-parts w fl k (let r = ch.room in let f = ch.few in omega arith) (ch.short k l)))

-- ---- what a used face leaves of the first e, and behind them

module _ (slots : ℕ) (vertices : List ℕ) (cell : ℕ) (w : List ℕ) (few : length vertices ≤ 8) (e : ℕ) (h : 13 * slots ≤ e) where
  head-low : 0 < slots → 12 * slots + bucket_of slots vertices < e
  head-low some = let b = mod-lt (total vertices) some in omega arith

  pub words-front : (r : Added) → stored_at r < slots → take e (words_after r slots vertices cell w) ≡ words_after r slots vertices cell (take e w)
  unfolding words_after head_in
  words-front (New f) low =
      let k = 12 * slots + bucket_of slots vertices in
      let lt : k < e = head-low (omega arith) in
      rw (take-set-lt e (new_face_at w (12 * f) vertices cell (get_or w k 0)) k (f + 1) lt, fresh-take w vertices (12 * f) cell (get_or w k 0) few e (omega arith), get_or-take e w k 0 lt)
  words-front (Second f) low = take-set-lt e w (12 * f + 10) (cell + 1) (omega arith)
  words-front Third low = refl

  pub words-behind : (r : Added) → stored_at r < slots → drop e (words_after r slots vertices cell w) ≡ drop e w
  unfolding words_after
  words-behind (New f) low =
      let k = 12 * slots + bucket_of slots vertices in
      let lt : k < e = head-low (omega arith) in
      drop-set-lt e (new_face_at w (12 * f) vertices cell (head_in w slots (bucket_of slots vertices))) k (f + 1) lt ∙ fresh-drop w vertices (12 * f) cell _ few e (omega arith)
  words-behind (Second f) low = drop-set-lt e w (12 * f + 10) (cell + 1) (omega arith)
  words-behind Third low = refl

module _ (slots : ℕ) (m : FaceGeometry) (fl : List Float) (e : ℕ) (h : 12 * slots ≤ e) where
  pub floats-front : (r : Added) → stored_at r < slots → take e (floats_after r m fl) ≡ floats_after r m (take e fl)
  unfolding floats_after
  floats-front (New f) low = sets-front e (floats_of m) fl (12 * f) (omega arith)
  floats-front (Second f) low = refl
  floats-front Third low = refl

  pub floats-behind : (r : Added) → stored_at r < slots → drop e (floats_after r m fl) ≡ drop e fl
  unfolding floats_after
  floats-behind (New f) low = sets_behind e (floats_of m) fl (12 * f) (omega arith)
  floats-behind (Second f) low = refl
  floats-behind Third low = refl

-- ---- the mesh's part, lent and back

module _ (s : Sizes) (words : List ℕ) (floats : List Float) (vertices : List ℕ) (cell c : ℕ) (u : UseFaceEntry s words floats vertices cell) (ec : c ≡ cell) where
  words_long : length (take (16 * s.slots + 8 * s.cells) words) ≡ 16 * s.slots + 8 * s.cells
  words_long = length-take-le (16 * s.slots + 8 * s.cells) words (let l = u.lent-words.long in omega arith)

  floats-long : length (take (12 * s.slots + 4 * s.cells) floats) ≡ 12 * s.slots + 4 * s.cells
  floats-long = length-take-le (12 * s.slots + 4 * s.cells) floats (let l = u.lent-floats.long in omega arith)

  pub part-ready : AddEntry (take (16 * s.slots + 8 * s.cells) words) (take (12 * s.slots + 4 * s.cells) floats) s.slots s.faces vertices c
  unfolding mesh_words
  part-ready =
      record {
        chains = u.chained;
        floats = let e = floats-long in omega arith;
        space = u.space;
        slots-few = u.lent-words.few-slots;
        cells-few = let h = u.cells-few in omega arith;
        short = u.short;
      }

  module _ (mw : List ℕ) (mf : List Float) (m : FaceGeometry) (r : Added)
      (lw : length mw ≡ length (take (16 * s.slots + 8 * s.cells) words)) (lf : length mf ≡ length (take (12 * s.slots + 4 * s.cells) floats))
      (st : SettleExit (take (16 * s.slots + 8 * s.cells) words) mw (take (12 * s.slots + 4 * s.cells) floats) mf s.slots s.faces vertices m c r) where
    before : faces_in s words floats ≡ table_in (take (16 * s.slots + 8 * s.cells) words) (take (12 * s.slots + 4 * s.cells) floats) s.faces
    unfolding mesh_words mesh_floats
    before = table-in (mesh_words s words) (mesh_floats s floats) s words floats refl refl u.chained

    back-words : mesh_words (with_faces s (faces_after r s.faces)) (mw ++ drop (16 * s.slots + 8 * s.cells) words) ≡ mw
    unfolding mesh_words
    back-words = take_at mw (drop (16 * s.slots + 8 * s.cells) words) (16 * s.slots + 8 * s.cells) (lw ∙ words_long)

    back-floats : mesh_floats (with_faces s (faces_after r s.faces)) (mf ++ drop (12 * s.slots + 4 * s.cells) floats) ≡ mf
    unfolding mesh_floats
    back-floats = take_at mf (drop (12 * s.slots + 4 * s.cells) floats) (12 * s.slots + 4 * s.cells) (lf ∙ floats-long)

    left-words : mw ++ drop (16 * s.slots + 8 * s.cells) words ≡ words_after r s.slots vertices cell words
    left-words =
        let e = 16 * s.slots + 8 * s.cells in
        let h : 13 * s.slots ≤ e = omega arith in
        rw (st.words_left, ec, ← words-front s.slots vertices cell words u.short e h r st.low, ← words-behind s.slots vertices cell words u.short e h r st.low)
        (take-append-drop e (words_after r s.slots vertices cell words))

    left-floats : mf ++ drop (12 * s.slots + 4 * s.cells) floats ≡ floats_after r m floats
    left-floats =
        let e = 12 * s.slots + 4 * s.cells in
        let h : 12 * s.slots ≤ e = omega arith in
        rw (st.floats-left, ← floats-front s.slots m floats e h r st.low, ← floats-behind s.slots m floats e h r st.low)
        (take-append-drop e (floats_after r m floats))

    pub part-used : UseFaceExit s words (mw ++ drop (16 * s.slots + 8 * s.cells) words) floats (mf ++ drop (12 * s.slots + 4 * s.cells) floats) vertices m cell r
    part-used =
        record {
          answer = rw (before, ← ec) st.answer;
          faces =
              table-in mw mf (with_faces s (faces_after r s.faces)) (mw ++ drop (16 * s.slots + 8 * s.cells) words) (mf ++ drop (12 * s.slots + 4 * s.cells) floats) back-words back-floats st.chains
              ∙ rw (before, ← ec) st.faces;
          chained = rw back-words st.chains;
          words_left = left-words;
          floats-left = left-floats;
          words-kept = rw left-words (words-behind s.slots vertices cell words u.short (13 * s.slots) (omega arith) r st.low);
          floats-kept = rw left-floats (floats-behind s.slots m floats (12 * s.slots) (omega arith) r st.low);
        }

pub part-words : (s : Sizes) (words : List ℕ) (floats : List Float) (vertices : List ℕ) (cell : ℕ) → UseFaceEntry s words floats vertices cell → 16 * s.slots + 8 * s.cells ≡ length (take (16 * s.slots + 8 * s.cells) words)
part-words s words floats vertices cell u = sym (length-take-le (16 * s.slots + 8 * s.cells) words (let l = u.lent-words.long in omega arith))

pub part-floats : (s : Sizes) (words : List ℕ) (floats : List Float) (vertices : List ℕ) (cell : ℕ) → UseFaceEntry s words floats vertices cell → 12 * s.slots + 4 * s.cells ≡ length (take (12 * s.slots + 4 * s.cells) floats)
part-floats s words floats vertices cell u = sym (length-take-le (12 * s.slots + 4 * s.cells) floats (let l = u.lent-floats.long in omega arith))

pub ruleset uses = (part-words, part-floats, part-ready, part-used)

-- ---- an empty table

abbrev zeros : ℕ → List ℕ
zeros n = replicate n 0

pub clear-heads : (words m : List ℕ) (s : Sizes) → LentWords s words
    → m ≡ zeros (length (take (12 * s.slots + s.slots - 12 * s.slots) (drop (12 * s.slots) words)))
    → patch (12 * s.slots) (12 * s.slots + s.slots - 12 * s.slots) words m ≡ sets words (12 * s.slots) (zeros s.slots)
clear-heads words m s lent e =
    let g = lent.long in
    let n : 12 * s.slots + s.slots - 12 * s.slots ≡ s.slots = omega arith in
    let many : length (take s.slots (drop (12 * s.slots) words)) ≡ s.slots = length_part words (12 * s.slots) s.slots (omega arith) in
    let all : m ≡ zeros s.slots = rw (n, many) at e in
    rw all (patch-sets (zeros s.slots) words (12 * s.slots) s.slots (length-replicate s.slots 0) (omega arith))

-- no bucket has a face
pub cleared : (words₀ words : List ℕ) (s : Sizes) → LentWords s words₀ → words ≡ sets words₀ (12 * s.slots) (zeros s.slots) → Chained (with_faces s 0) words
unfolding mesh_words head_in last
cleared words₀ words s lent e =
    let g = lent.long in
    let n = 12 * s.slots in
    let many : length (zeros s.slots) ≡ s.slots = length-replicate s.slots 0 in
    let long : length words ≡ length words₀ = rw e (length-sets words₀ n (zeros s.slots)) in
    let before : length (take n words₀) ≡ n = length-take-le n words₀ (omega arith) in
    let part : length (take (16 * s.slots + 8 * s.cells) words) ≡ 16 * s.slots + 8 * s.cells = length-take-le (16 * s.slots + 8 * s.cells) words (omega arith) in
    let rest = drop (n + length (zeros s.slots)) words₀ in
    let whole : words ≡ take n words₀ ++ zeros s.slots ++ rest = e ∙ sets-eq (zeros s.slots) words₀ n (omega arith) in
    record {
      few = omega arith;
      room = rw part (omega arith);
      short = λ k l. absurd (not-suc-le-zero l);
      links = λ k l. absurd (not-suc-le-zero l);
      heads =
          λ k l. get_or-take (16 * s.slots + 8 * s.cells) words (n + k) 0 (omega arith)
          ∙ ap (λ (t : List ℕ). get_or t (n + k) 0) whole
          ∙ get_or-append (take n words₀ ++ zeros s.slots) rest 0 (n + k) (simp length-append (omega arith))
          ∙ (rw before at (get_or-append-add (take n words₀) (zeros s.slots) k 0))
          ∙ get_or-replicate s.slots k 0 0 l;
      distinct = λ j k lj lk e. absurd (not-suc-le-zero lj);
    }

-- ---- what leaves a table as it is: stores from word 13 F and float 12 F on

chunk_front : {A : Type 0} (l l' : List A) (b j : ℕ) → take b l' ≡ take b l → 12 * j + 12 ≤ b → chunk l' 12 j ≡ chunk l 12 j
chunk_front {A} l l' b j e h =
    sym (take-drop-take l' b (12 * j) 12 h) ∙ ap (λ (t : List A). take 12 (drop (12 * j) t)) e ∙ take-drop-take l b (12 * j) 12 h

-- the first b of the mesh's part
front : {A : Type 0} (l l' : List A) (b e : ℕ) → b ≤ e → take b l' ≡ take b l → take b (take e l') ≡ take b (take e l)
front l l' b e le h = take-take b e l' le ∙ h ∙ sym (take-take b e l le)

module _ (s : Sizes) (words words' : List ℕ) (lent : LentWords s words) (long : length words' ≡ length words) (ch : Chained s words)
    (same-words : take (13 * s.slots) words' ≡ take (13 * s.slots) words) where
  same-part : take (13 * s.slots) (mesh_words s words') ≡ take (13 * s.slots) (mesh_words s words)
  unfolding mesh_words
  same-part = front words words' (13 * s.slots) (16 * s.slots + 8 * s.cells) (omega arith) same-words

  same_body : (j : ℕ) → j < s.faces → face_words_in (mesh_words s words') j ≡ face_words_in (mesh_words s words) j
  unfolding face_words_in
  same_body j l = ap face_words_of (chunk_front (mesh_words s words) (mesh_words s words') (13 * s.slots) j same-part (let f = ch.few in omega arith))

  part_room : 13 * s.slots ≤ length (mesh_words s words')
  unfolding mesh_words
  part_room =
      let g = lent.long in
      rw (length-take-le (16 * s.slots + 8 * s.cells) words' (omega arith)) (omega arith)

  pub chained-kept : Chained s words'
  unfolding head_in
  chained-kept =
      chains-same (mesh_words s words) (mesh_words s words') s.slots s.faces ch part_room
      (λ j l. let e = same_body j l in record { count = rw e; vertices = rw e; link = rw e })
      (λ b l. same-below (mesh_words s words) (mesh_words s words') (13 * s.slots) (12 * s.slots + b) 0 same-part (omega arith))

  pub faces-kept : (floats floats' : List Float) → take (12 * s.slots) floats' ≡ take (12 * s.slots) floats → faces_in s words' floats' ≡ faces_in s words floats
  unfolding table_in measured_in mesh_floats
  faces-kept floats floats' same-floats =
      table-in (mesh_words s words') (mesh_floats s floats') s words' floats' refl refl chained-kept
      ∙ tab-same _ _ s.faces (λ j l. rw (same_body j l, ap measured_of (same-measured j l)))
      ∙ sym (table-in (mesh_words s words) (mesh_floats s floats) s words floats refl refl ch)
    where
      same-measured : (j : ℕ) → j < s.faces → chunk (take (12 * s.slots + 4 * s.cells) floats') 12 j ≡ chunk (take (12 * s.slots + 4 * s.cells) floats) 12 j
      same-measured j l =
          chunk_front (take (12 * s.slots + 4 * s.cells) floats) (take (12 * s.slots + 4 * s.cells) floats') (12 * s.slots) j
          (front floats floats' (12 * s.slots) (12 * s.slots + 4 * s.cells) (omega arith) same-floats)
          (let f = ch.few in omega arith)
