-- What a right record is, kind by kind; one turn of the walk. Assumes nothing.
use Prim.Native.Nat.{ℕ, zero, suc, ◌+◌, ◌-◌, ◌≤◌, ◌<◌}
use native.Mathlib.Omega.{arith}
use native.Mathlib.Decide.{dec_lt, dec_le}
use mathlib.Core.Path.{◌≡◌, refl, ap, sym, ◌∙◌}
use mathlib.Core.List.{List, ◌∷◌}
use lib.ListN.{length, get_or, take, drop, length-drop, drop_of_length-le}
use lib.Seq.{length-take-le}
use Rattle.arith.specs.Lists.{fold}
use Rattle.arith.proofs.ListLaws.{left_at}
use Rattle.arith.proofs.RecordLaws.{left-suc}
use Rattle.reading.specs.Result.{Refusable, ◌>>=◌}
use Rattle.reading.proofs.ResultLaws.{bound, ok-pair}
use Rattle.case_definitions.specs.Faces.{Definition, polygon, solid, polyhedron, tetrahedron, hexahedron, prism, pyramid, face_count, add_face_count, faces_counted}
use Rattle.case_definitions.specs.Definitions.{Taken, numbers, counted, face_lists, made, kinds, definition, definitions}
use Rattle.case_definitions.specs.Ensures.{first_of, head_of, cursor_at, stepped, step_at, walked}
use Rattle.case_definitions.specs.declared.Cursor.{Cursor}
use Rattle.case_definitions.specs.declared.Head.{Head}
use Rattle.case_definitions.proofs.WalkLaws.{numbers-there, numbers-short, counted_none, counted-over, counted-within, Lists, ListCase, missing, there, list-case, no_record, kind_at, faces-read}
use Rattle.std.specs.Prelude.{Ok, Err}
use Rattle.refusal.specs.declared.Refusal.{Refusal}
use Rattle.refusal.specs.declared.Refusal.TheVariants.{WrongDefinitions}

-- a kind with its table and its number of points
pub data IsSolid : ℕ → List (List ℕ) → ℕ → Type 0 where
  is-tetrahedron : IsSolid 1 tetrahedron 4
  is-hexahedron : IsSolid 2 hexahedron 8
  is-prism : IsSolid 3 prism 6
  is-pyramid : IsSolid 4 pyramid 5

-- the record at a position, kind by kind
pub data RecordCase (ws : List ℕ) (at : ℕ) (w : Taken Definition) : Type 0 where
  a-polygon : (n : ℕ) → get_or ws at 0 ≡ 0 → Lists ws (at + 1) 24 n →
      w ≡ record { read = polygon (take n (drop (at + 2) ws)); left = drop (at + 2 + n) ws } → RecordCase ws at w
  a-solid : (kind : ℕ) (places : List (List ℕ)) (n : ℕ) → get_or ws at 0 ≡ kind → IsSolid kind places n → at + 1 + n ≤ length ws →
      w ≡ record { read = solid places (take n (drop (at + 1) ws)); left = drop (at + 1 + n) ws } → RecordCase ws at w
  a-polyhedron : (n : ℕ) (f : Taken (List (List ℕ))) → get_or ws at 0 ≡ 5 → at + 2 ≤ length ws → n ≡ get_or ws (at + 1) 0 → n ≤ 24 →
      face_lists n (drop (at + 2) ws) ≡ Ok f → w ≡ record { read = polyhedron f.read; left = f.left } → RecordCase ws at w

module _ (ws : List ℕ) (at : ℕ) (w : Taken Definition) where
  as-polygon : get_or ws at 0 ≡ 0 → made polygon (counted 24 numbers (drop (at + 1) ws)) ≡ Ok w → RecordCase ws at w
  unfolding made
  as-polygon k e = by (list-case ws (at + 1) 24)
    where
      by : ListCase ws (at + 1) 24 → RecordCase ws at w
      by (missing m) = let b = bound _ _ _ e in let h = b.had in absurd (let z : ◌≡◌ {A = ℕ} 0 1 = cc in omega arith)
      by (there n l) =
          let b = bound _ _ _ e in
          let h = b.had in
          let g = l.read in
          let t = b.then in
          let q : at + 1 + 1 ≡ at + 2 = omega arith in
          let u : b.value ≡ record { read = take n (drop (at + 1 + 1) ws); left = drop (at + 1 + 1 + n) ws } = cc in
          let v : b.value ≡ record { read = take n (drop (at + 2) ws); left = drop (at + 2 + n) ws } = rw q at u in
          a-polygon n k l (sym (ap {B = Taken Definition} (λ t. record { read = polygon t.read; left = t.left }) (sym v) ∙ (cc)))

  as-solid : (kind : ℕ) (places : List (List ℕ)) (n : ℕ) → at < length ws → get_or ws at 0 ≡ kind → IsSolid kind places n →
      made (solid places) (numbers n (drop (at + 1) ws)) ≡ Ok w → RecordCase ws at w
  unfolding made
  as-solid kind places n here k s e = by (dec_le (at + 1 + n) (length ws))
    where
      by : Dec (at + 1 + n ≤ length ws) → RecordCase ws at w
      by (no short) =
          let b = bound _ _ _ e in
          let h = b.had in
          let m = numbers-short ws (at + 1) n (omega arith) in
          absurd (let z : ◌≡◌ {A = ℕ} 0 1 = cc in omega arith)
      by (yes room) =
          let b = bound _ _ _ e in
          let h = b.had in
          let t = b.then in
          let m = numbers-there ws (at + 1) n room in
          let v : b.value ≡ record { read = take n (drop (at + 1) ws); left = drop (at + 1 + n) ws } = cc in
          a-solid kind places n k s room (sym (ap {B = Taken Definition} (λ t. record { read = solid places t.read; left = t.left }) (sym v) ∙ (cc)))

  as-polyhedron : get_or ws at 0 ≡ 5 → made polyhedron (counted 24 face_lists (drop (at + 1) ws)) ≡ Ok w → RecordCase ws at w
  unfolding made
  as-polyhedron k e = by_count (dec_lt (at + 1) (length ws))
    where
      by-limit : at + 1 < length ws → Dec (get_or ws (at + 1) 0 ≤ 24) → RecordCase ws at w
      by-limit more (no over) =
          let b = bound _ _ _ e in
          let h = b.had in
          let m = counted-over ws (at + 1) 24 face_lists more (omega arith) in
          absurd (let z : ◌≡◌ {A = ℕ} 0 1 = cc in omega arith)
      by-limit more (yes few) =
          let b = bound _ _ _ e in
          let t = b.then in
          let q : at + 1 + 1 ≡ at + 2 = omega arith in
          let m = counted-within ws (at + 1) 24 face_lists more few in
          a-polyhedron (get_or ws (at + 1) 0) b.value k (omega arith) refl few (rw q at (sym m ∙ b.had)) (sym (cc))

      by_count : Dec (at + 1 < length ws) → RecordCase ws at w
      by_count (no none) =
          let b = bound _ _ _ e in
          let h = b.had in
          let m = counted_none ws (at + 1) 24 face_lists (omega arith) in
          absurd (let z : ◌≡◌ {A = ℕ} 0 1 = cc in omega arith)
      by_count (yes more) = by-limit more (dec_le (get_or ws (at + 1) 0) 24)

  pub record-case : definition (drop at ws) ≡ Ok w → RecordCase ws at w
  unfolding kinds
  record-case e = by_end (dec_lt at (length ws))
    where
      by_kind : (k : ℕ) → at < length ws → get_or ws at 0 ≡ k → RecordCase ws at w
      by_kind zero more h = as-polygon h (sym (kind_at ws at 0 more h) ∙ e)
      by_kind (suc zero) more h = as-solid 1 tetrahedron 4 more h is-tetrahedron (sym (kind_at ws at 1 more h) ∙ e)
      by_kind (suc (suc zero)) more h = as-solid 2 hexahedron 8 more h is-hexahedron (sym (kind_at ws at 2 more h) ∙ e)
      by_kind (suc (suc (suc zero))) more h = as-solid 3 prism 6 more h is-prism (sym (kind_at ws at 3 more h) ∙ e)
      by_kind (suc (suc (suc (suc zero)))) more h = as-solid 4 pyramid 5 more h is-pyramid (sym (kind_at ws at 4 more h) ∙ e)
      by_kind (suc (suc (suc (suc (suc zero))))) more h = as-polyhedron h (sym (kind_at ws at 5 more h) ∙ e)
      by_kind (suc (suc (suc (suc (suc (suc k)))))) more h =
          let m = kind_at ws at (suc (suc (suc (suc (suc (suc k)))))) more h in
          absurd (let z : ◌≡◌ {A = ℕ} 0 1 = cc in omega arith)

      by_end : Dec (at < length ws) → RecordCase ws at w
      by_end (yes more) = by_kind (get_or ws at 0) more refl
      by_end (no none) = let m = no_record ws at (omega arith) in absurd (let z : ◌≡◌ {A = ℕ} 0 1 = cc in omega arith)

-- a record ends behind its words, and has fewer faces than words
pub record DefinitionRead (ws : List ℕ) (at : ℕ) (w : Taken Definition) : Type 0 where
  pub end : ℕ
  pub left : w.left ≡ drop end ws
  pub past : at + face_count w.read < end
  pub few : face_count w.read ≤ 24
  pub within : end ≤ length ws

few-faces : (kind : ℕ) (places : List (List ℕ)) (n : ℕ) → IsSolid kind places n → (length places ≤ n) × (n ≤ 8)
unfolding tetrahedron hexahedron prism pyramid
few-faces kind places n is-tetrahedron = omega arith
few-faces kind places n is-hexahedron = omega arith
few-faces kind places n is-prism = omega arith
few-faces kind places n is-pyramid = omega arith

pub definition-read : (ws : List ℕ) (at : ℕ) (w : Taken Definition) → definition (drop at ws) ≡ Ok w → DefinitionRead ws at w
unfolding face_count
definition-read ws at w e = by (record-case ws at w e)
  where
    by : RecordCase ws at w → DefinitionRead ws at w
    by (a-polygon n k l m) =
        let r = l.room in
        let b = l.few in
        let c : length (take n (drop (at + 2) ws)) ≡ n = length-take-le n (drop (at + 2) ws) (omega (arith, length-drop (at + 2) ws)) in
        rw m (record { end = at + 2 + n; left = refl; past = omega arith; few = omega arith; within = omega arith })
    by (a-solid kind places n k s room m) =
        let f = few-faces kind places n s in
        rw m (record { end = at + 1 + n; left = refl; past = omega arith; few = omega arith; within = room })
    by (a-polyhedron n f k room c few g m) =
        let r = faces-read ws n (at + 2) f room g in
        let p = r.past in
        let a = r.all in
        rw m (record { end = r.end; left = r.left; past = omega arith; few = omega arith; within = r.within })

-- ---- what a step tells

-- d is the record at `at`, h its head, and the next one starts at `next`
pub record StepsTo (ws : List ℕ) (at : ℕ) (h : Head) (next : ℕ) : Type 0 where
  pub d : Definition
  pub read : definition (drop at ws) ≡ Ok (record { read = d; left = drop next ws })
  pub head : h ≡ head_of (get_or ws at 0) at d
  pub past : at + h.faces < next
  pub few : h.faces ≤ 24
  pub within : next ≤ length ws

pub steps-to : (ws : List ℕ) (at : ℕ) (h : Head) (c : Cursor) → Ok (h, c) ≡ step_at ws at → StepsTo ws at h c.at
unfolding step_at stepped cursor_at head_of
steps-to ws at h c e = by (definition (drop at ws)) refl
  where
    by : (t : Refusable (Taken Definition)) → definition (drop at ws) ≡ t → StepsTo ws at h c.at
    by (Err r) g = absurd (let z : ◌≡◌ {A = ℕ} 0 1 = cc in omega arith)
    by (Ok w) g =
        let r = definition-read ws at w g in
        let p = r.past in
        let i = r.within in
        let both : (h ≡ head_of (get_or ws at 0) at w.read) × (c ≡ cursor_at ws w.left) = ok-pair cc in
        let f : h ≡ record { kind = get_or ws at 0; faces = face_count w.read; at = at; first = first_of at w.read } = both.0 in
        let n : c ≡ record { at = length ws - length w.left } = both.1 in
        let k : c.at ≡ length ws - length w.left = ap (λ x. x.at) n in
        let m : length w.left ≡ length (drop r.end ws) = ap length r.left in
        let v : c.at ≡ r.end = omega (arith, length-drop r.end ws) in
        let u : w.left ≡ drop c.at ws = r.left ∙ ap (λ x. drop x ws) (sym v) in
        let a : h.faces ≡ face_count w.read = ap (λ x. x.faces) f in
        record {
          d = w.read;
          read = g ∙ ap {B = Refusable (Taken Definition)} (λ l. Ok (record { read = w.read; left = l })) u;
          head = f;
          past = omega arith;
          few = omega (arith, r.few);
          within = omega arith;
        }

pub steps-wrong : (ws : List ℕ) (at : ℕ) (r : Refusal) → Err r ≡ step_at ws at → definition (drop at ws) ≡ Err r
unfolding step_at stepped
steps-wrong ws at r e = by (definition (drop at ws)) refl
  where
    by : (t : Refusable (Taken Definition)) → definition (drop at ws) ≡ t → definition (drop at ws) ≡ Err r
    by (Err n) g = let w : n ≡ r = cc in rw w at g
    by (Ok w) g = absurd (let z : ◌≡◌ {A = ℕ} 0 1 = cc in omega arith)

-- ---- the turns of `walk`

-- F, of which k faces were counted before, or the refusal
unfoldable pub walked_from : ℕ → Refusable (List Definition) → Refusable ℕ
walked_from k (Err r) = Err r
walked_from k (Ok ds) = Ok (fold add_face_count k ds)

pub walked_start : (r : Refusable (List Definition)) → walked_from 0 r ≡ walked r
unfolding walked_from walked faces_counted
walked_start (Err n) = refl
walked_start (Ok ds) = refl

walked_more : (k : ℕ) (d : Definition) (r : Refusable (List Definition)) → walked_from k (r >>= λ ds. Ok (d ∷ ds)) ≡ walked_from (k + face_count d) r
unfolding ◌>>=◌ walked_from fold add_face_count
walked_more k d (Err n) = refl
walked_more k d (Ok ds) = refl

module _ (ws : List ℕ) (cells i at faces : ℕ) where
  pub walk-wrong : (r : Refusal) → i < cells → Err r ≡ step_at ws at → Err r ≡ walked_from faces (definitions (cells - i) (drop at ws))
  unfolding definitions ◌>>=◌ walked_from
  walk-wrong r h e = rw (left-suc cells i h, steps-wrong ws at r e)

  pub walk-next : (h : Head) (c : Cursor) → i < cells → Ok (h, c) ≡ step_at ws at →
      walked_from faces (definitions (cells - i) (drop at ws)) ≡ walked_from (faces + h.faces) (definitions (cells - (i + 1)) (drop c.at ws))
  unfolding definitions head_of ◌>>=◌
  walk-next h c b e =
      let s = steps-to ws at h c e in
      let f : h.faces ≡ face_count s.d = ap (λ x. x.faces) s.head in
      let rest : Refusable (List Definition) = definitions (cells - (i + 1)) (drop c.at ws) in
      rw (left-suc cells i b, s.read) (walked_more faces s.d rest ∙ ap (λ x. walked_from (faces + x) rest) (sym f))

  pub walk-left : cells ≤ i → at < length ws → Err WrongDefinitions ≡ walked_from faces (definitions (cells - i) (drop at ws))
  unfolding definitions walked_from
  walk-left h b = let z : cells - i ≡ 0 = omega arith in rw (z, left_at ws at 0 b)

  pub walk_end : cells ≤ i → length ws ≤ at → Ok faces ≡ walked_from faces (definitions (cells - i) (drop at ws))
  unfolding definitions walked_from fold
  walk_end h b = let z : cells - i ≡ 0 = omega arith in rw (z, drop_of_length-le ws b)
