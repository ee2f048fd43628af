-- What a builder that goes record by record knows, once the walk has succeeded. Assumes nothing.
use Prim.Native.Nat.{ℕ, zero, suc, ◌+◌, ◌-◌, ◌*◌, ◌≤◌, ◌<◌}
use native.Mathlib.Nat.{add-sub_cancel_left}
use native.Mathlib.Omega.{arith}
use mathlib.Core.Path.{◌≡◌, refl, ap, sym, ◌∙◌}
use mathlib.Core.List.{List, [], ◌∷◌}
use lib.ListN.{length, get_or, drop, length-map}
use Rattle.arith.specs.Lists.{sides}
use Rattle.arith.specs.Records.{part}
use Rattle.arith.proofs.ListLaws.{left_at, length-sides}
use Rattle.arith.proofs.RecordLaws.{left-suc}
use Rattle.reading.specs.Result.{Refusable}
use Rattle.reading.proofs.ResultLaws.{bound}
use Rattle.case_file.specs.Trailer.{words_from, words_in, words_of}
use Rattle.case_file.specs.declared.Counts.{Counts}
use Rattle.case_file.proofs.ReadLaws.{words-lent}
use Rattle.case_definitions.specs.Faces.{Definition, polygon, solid, polyhedron, ends, picked, faces_of, face_count, faces_counted}
use Rattle.case_definitions.specs.Definitions.{definitions}
use Rattle.case_definitions.specs.Ensures.{head_of, step_at, walked, read_of, definition_at, HeadAt}
use Rattle.case_definitions.specs.declared.Cursor.{Cursor}
use Rattle.case_definitions.specs.declared.Head.{Head}
use Rattle.case_definitions.proofs.RecordLaws.{steps-to, steps-wrong}
use Rattle.std.specs.Prelude.{Ok, Err}
use Rattle.refusal.specs.declared.Refusal.{Refusal}

-- the slice of a case's definition words has its words
pub words-part : (file : List ℕ) (n : Counts) → words_from n + 4 * n.words ≤ length file → words_in (part file (words_from n) (4 * n.words)) ≡ words_of file n
unfolding words_of
words-part file n h =
    let e : words_from n + 4 * n.words - words_from n ≡ 4 * n.words = add-sub_cancel_left (words_from n) (4 * n.words) in
    rw e at (words-lent file (words_from n) n.words h)

-- as many definitions as cells
pub length-definitions : (n : ℕ) (ws : List ℕ) (ds : List Definition) → definitions n ws ≡ Ok ds → length ds ≡ n
unfolding definitions
length-definitions zero [] ds e = let w : [] ≡ ds = cc in rw (← w)
length-definitions zero (x ∷ ws) ds e = absurd (let z : ◌≡◌ {A = ℕ} 0 1 = cc in omega arith)
length-definitions (suc n) ws ds e =
    let b1 = bound _ _ _ e in
    let b2 = bound _ _ _ b1.then in
    let w : b1.value.read ∷ b2.value ≡ ds = cc b2.then in
    rw (← w) (ap suc (length-definitions n b1.value.left b2.value b2.had))

-- as many faces as were counted
pub length-faces_of : (d : Definition) → length (faces_of d) ≡ face_count d
unfolding faces_of face_count
length-faces_of (polygon l) = length-map (sides l) ends ∙ length-sides l
length-faces_of (solid places l) = length-map places (picked l)
length-faces_of (polyhedron faces) = refl

-- the walk succeeded: the definitions, and F
pub record Walks (ws : List ℕ) (cells f : ℕ) : Type 0 where
  pub ds : List Definition
  pub read : definitions cells ws ≡ Ok ds
  pub count : f ≡ faces_counted ds

pub walks : (ws : List ℕ) (cells f : ℕ) → Ok f ≡ walked (definitions cells ws) → Walks ws cells f
unfolding walked
walks ws cells f e = by (definitions cells ws) refl
  where
    by : (t : Refusable (List Definition)) → definitions cells ws ≡ t → Walks ws cells f
    by (Err n) g = absurd (let z : ◌≡◌ {A = ℕ} 0 1 = cc in omega arith)
    by (Ok ds) g = record { ds = ds; read = g; count = cc }

-- ---- record i of a walk that succeeds: `definitions (cells - i) (drop at ws) ≡ Ok (drop i ds)`

-- its definition, and the rest of the walk
pub record CellRead (ws : List ℕ) (cells i : ℕ) (ds : List Definition) (h : Head) (at next : ℕ) (none : Definition) : Type 0 where
  pub same : get_or ds i none ≡ definition_at ws at
  pub head : h ≡ head_of (get_or ws at 0) at (get_or ds i none)
  pub rest : definitions (cells - (i + 1)) (drop next ws) ≡ Ok (drop (i + 1) ds)
  pub within : next ≤ length ws

module _ (ws : List ℕ) (cells i at : ℕ) (ds : List Definition) (more : i < cells) (length-is : length ds ≡ cells)
    (left : definitions (cells - i) (drop at ws) ≡ Ok (drop i ds)) where
  -- it is right
  pub never-wrong : (r : Refusal) → Err r ≡ step_at ws at → ⊥
  unfolding definitions
  never-wrong r e =
      let n = left-suc cells i more in
      let g = steps-wrong ws at r e in
      let t : definitions (suc (cells - (i + 1))) (drop at ws) ≡ Ok (drop i ds) = rw n at left in
      let u = bound _ _ _ t in
      let v = u.had in
      let z : ◌≡◌ {A = ℕ} 0 1 = cc in
      omega arith

  pub cell-read : (h : Head) (c : Cursor) (none : Definition) → Ok (h, c) ≡ step_at ws at → CellRead ws cells i ds h at c.at none
  unfolding definitions definition_at read_of
  cell-read h c none e =
      let n = left-suc cells i more in
      let s = steps-to ws at h c e in
      let t : definitions (suc (cells - (i + 1))) (drop at ws) ≡ Ok (drop i ds) = rw n at left in
      let u = bound _ _ _ t in
      let v = u.had in
      let w = bound _ _ _ u.then in
      let x = w.then in
      let y = s.read in
      let d : u.value ≡ record { read = s.d; left = drop c.at ws } = cc in
      let l : drop i ds ≡ get_or ds i none ∷ drop (i + 1) ds = left_at ds i none (omega arith) in
      let p : get_or ds i none ≡ u.value.read = cc in
      let q : drop (i + 1) ds ≡ w.value = cc in
      let a : get_or ds i none ≡ s.d = p ∙ ap (λ k. k.read) d in
      record {
        same = a ∙ sym (ap read_of s.read);
        head = s.head ∙ ap (head_of (get_or ws at 0) at) (sym a);
        rest = ap (λ k. definitions (cells - (i + 1)) k.left) (sym d) ∙ w.had ∙ ap Ok (sym q);
        within = s.within;
      }

-- ---- a head's number of faces

pub record HeadFaces (ws : List ℕ) (h : Head) : Type 0 where
  pub all : h.faces ≡ length (faces_of (definition_at ws h.at))
  pub few : h.faces ≤ 24

pub head-faces : (ws : List ℕ) (h : Head) → HeadAt ws h → HeadFaces ws h
unfolding definition_at read_of head_of
head-faces ws h g =
    let s = steps-to ws h.at h g.next (sym g.step) in
    let f : h.faces ≡ face_count s.d = ap (λ x. x.faces) s.head in
    record { all = f ∙ sym (length-faces_of s.d) ∙ ap (λ r. length (faces_of (read_of r))) (sym s.read); few = s.few }
