-- One face of a cell, and all of them: what the parts of `add_face` and `add_faces` leave, put together. Assumes nothing.
use Prim.Native.Nat.{ℕ, ◌+◌, ◌*◌, ◌≤◌, ◌<◌}
use native.Mathlib.Omega.{arith}
use mathlib.Core.Path.{◌≡◌, refl, ap, ap₂, sym, ◌∙◌}
use mathlib.Core.List.{List, [], ◌∷◌, ◌++◌}
use lib.ListN.{length, get_or, take, drop, set, length-set, drop_of_length-le}
use lib.Seq.{get_or-drop, get_or-set_same, get_or-set_other, take-set-le}
use lib.Ieee.{Float}
use Rattle.arith.specs.Records.{tab}
use Rattle.arith.specs.declared.Vec3.{Vec3}
use Rattle.arith.proofs.RecordLaws.{tab-next, tab-same}
use Rattle.reading.specs.Result.{steps, Refusable}
use Rattle.reading.proofs.ResultLaws.{steps_next, steps-refused, ok-pair}
use Rattle.case_definitions.specs.Faces.{faces_of}
use Rattle.case_definitions.specs.Ensures.{definition_at, face_at}
use Rattle.case_faces.specs.Ensures.{AtFace, CopyFaceExit}
use Rattle.case_faces.specs.declared.FaceCursor.{FaceCursor}
use Rattle.case_faces.proofs.FaceLaws.{at_first}
use Rattle.case_definitions.proofs.Walking.{head-faces}
use Rattle.mesh_area.specs.declared.Sizes.{Sizes}
use Rattle.mesh_area.specs.Layout.{LentWords, LentFloats, list_at, faces_in}
use Rattle.mesh_points.proofs.CollectLaws.{copied_next}
use Rattle.mesh_faces.specs.Ensures.{with_faces, UseFaceEntry}
use Rattle.mesh_faces.proofs.AreaLaws.{chained-kept, faces-kept}
use Rattle.mesh_cell_parts.specs.Ensures as Parts
use Rattle.mesh_cell_parts.specs.Parts.{add_face_of}
use Rattle.mesh_cell_parts.specs.Ensures.{TableGrowth, PlaceFaceExit}
use Rattle.mesh_cell_parts.specs.declared.NewCell.{NewCell}
use Rattle.mesh_cells.specs.Ensures as Ensures
use Rattle.mesh_cells.specs.Ensures.{cell_faces_in, AddFaceEntry, ListGrowth, AddFaceExit, AddFacesEntry, add_faces, AddFacesExit}
use Rattle.std.specs.Prelude.{Ok, Err}
use Rattle.refusal.specs.declared.Refusal.{Refusal}

-- ---- `add_face`

-- what a list keeps from b on
pub kept_at : {A : Type 0} (l l' : List A) (b j : ℕ) (x : A) → drop b l' ≡ drop b l → get_or l' (b + j) x ≡ get_or l (b + j) x
kept_at {A} l l' b j x e = sym (get_or-drop b l' j x) ∙ ap (λ (k : List A). get_or k j x) e ∙ get_or-drop b l j x

-- the words that are lent with n faces in the table
pub lent-sized : (s : Sizes) (words words' : List ℕ) (n : ℕ) → LentWords s words → length words' ≡ length words → n ≤ s.slots → LentWords (with_faces s n) words'
lent-sized s words words' n l e h =
    record { few-slots = l.few-slots; few-faces = h; few-cells = l.few-cells; long = omega (arith, l.long) }

pub lent-floats-sized : (s : Sizes) (floats floats' : List Float) (n : ℕ) → LentFloats s floats → length floats' ≡ length floats → n ≤ s.slots → LentFloats (with_faces s n) floats'
lent-floats-sized s floats floats' n l e h =
    record { few-slots = l.few-slots; few-faces = h; few-cells = l.few-cells; long = omega (arith, l.long) }

module _ (ws : List ℕ) (s : Sizes) (words : List ℕ) (floats : List Float) (cell : NewCell) (c : FaceCursor) (rd : AddFaceEntry ws s words floats cell c)
    (vs₀ vs : List ℕ) (count : ℕ) (next : FaceCursor) (f : CopyFaceExit ws cell.head c vs₀ vs count next) where
  pub face-usable : UseFaceEntry s words floats (take count vs) cell.number
  face-usable =
      let l : length (take count vs) ≡ count = ap length f.front ∙ sym f.counted in
      record {
        lent-words = rd.lent-words;
        lent-floats = rd.lent-floats;
        chained = rd.chained;
        space = omega (arith, rd.behind, rd.face, rd.room);
        short = omega (arith, f.small);
        cells-few = rd.cells-few;
      }

  module _ (d : ℕ) (ps : List Vec3) (words₁ : List ℕ) (floats' : List Float) where
    pub face-refused : (r : Refusable (ℕ × ℕ)) (k : Refusal) → PlaceFaceExit d ps cell s words words₁ floats floats' (take count vs) r → r ≡ Err k
        → AddFaceExit d ps ws cell s words words₁ floats floats' c (Err k)
    face-refused r k (Parts.PlaceFaceExit.placed j m e g) q = absurd (let z : ◌≡◌ {A = ℕ} 0 1 = cc in omega arith)
    face-refused r k (Parts.PlaceFaceExit.refusing j e) q =
        let z : j ≡ k = cc in
        Ensures.AddFaceExit.refusing k (rw (← z, ← f.front) (e (cell_faces_in s words floats cell.first c.face) refl))

    module _ (i n x : ℕ) (ex : x ≡ i) (e : (own : List ℕ) → add_face_of d ps cell.number cell.reference (record { faces = faces_in s words floats; numbers = own }) (take count vs)
        ≡ Ok (record { faces = faces_in (with_faces s n) words₁ floats'; numbers = own ++ i ∷ [] })) (g : TableGrowth s words words₁ floats floats' i n)
        (long : length words₁ ≡ length words) (long-floats : length floats' ≡ length floats) where
      many : n ≤ s.slots
      many = omega (arith, g.more, rd.behind, rd.face, rd.room)

      inside : 13 * s.slots + cell.first + c.face < length words₁
      inside = omega (arith, rd.lent-words.long, rd.face, rd.room)

      far : (j : ℕ) → (j ≡ cell.first + c.face → ⊥) → get_or (set words₁ (13 * s.slots + cell.first + c.face) x) (13 * s.slots + j) 0 ≡ get_or words (13 * s.slots + j) 0
      far j ne =
          get_or-set_other words₁ (13 * s.slots + cell.first + c.face) (13 * s.slots + j) x 0 (λ q. ne (omega arith))
          ∙ kept_at words words₁ (13 * s.slots) j 0 g.words-kept

      listed : list_at (set words₁ (13 * s.slots + cell.first + c.face) x) (13 * s.slots + cell.first) (c.face + 1) ≡ list_at words (13 * s.slots + cell.first) c.face ++ i ∷ []
      unfolding list_at
      listed =
          tab-next _ c.face
          ∙ ap₂ (λ (l : List ℕ) (y : ℕ). l ++ y ∷ [])
          (tab-same _ _ c.face (λ j l.
          let q : 13 * s.slots + cell.first + j ≡ 13 * s.slots + (cell.first + j) = omega arith in
          rw q (far (cell.first + j) (λ z. omega arith))))
          (get_or-set_same words₁ (13 * s.slots + cell.first + c.face) x 0 inside ∙ ex)

      front : take (13 * s.slots) (set words₁ (13 * s.slots + cell.first + c.face) x) ≡ take (13 * s.slots) words₁
      front = take-set-le (13 * s.slots) words₁ (13 * s.slots + cell.first + c.face) x (omega arith)

      pub face-next : AddFaceExit d ps ws cell s words (set words₁ (13 * s.slots + cell.first + c.face) x) floats floats' c (Ok (next, n))
      face-next =
          let lent = lent-sized s words words₁ n rd.lent-words long many in
          let same = faces-kept (with_faces s n) words₁ (set words₁ (13 * s.slots + cell.first + c.face) x) lent (length-set words₁ _ x) g.chained front floats' floats' refl in
          Ensures.AddFaceExit.next next n (rw (← f.front, same, listed) (e (list_at words (13 * s.slots + cell.first) c.face))) (copied_next ws cell.head c vs₀ vs count next f) f.goes
          (record {
            chained = chained-kept (with_faces s n) words₁ (set words₁ (13 * s.slots + cell.first + c.face) x) lent (length-set words₁ _ x) g.chained front;
            behind = omega (arith, g.more, rd.behind);
            before = λ j l. far j (λ z. omega arith);
            after = λ j l. far j (λ z. omega arith);
            floats-kept = g.floats-kept;
            long-words = length-set words₁ _ x ∙ long;
            long-floats = long-floats;
          })

    pub face-added : (r : Refusable (ℕ × ℕ)) (i n x : ℕ) → PlaceFaceExit d ps cell s words words₁ floats floats' (take count vs) r → r ≡ Ok (i, n) → x ≡ i
        → length words₁ ≡ length words → length floats' ≡ length floats
        → AddFaceExit d ps ws cell s words (set words₁ (13 * s.slots + cell.first + c.face) x) floats floats' c (Ok (next, n))
    face-added r i n x (Parts.PlaceFaceExit.placed j m e g) q ex lw lf =
        let a : j ≡ i = (ok-pair q).0 in
        let b : m ≡ n = (ok-pair q).1 in
        face-next i n x ex (rw (a, b) at e) (rw (a, b) at g) lw lf
    face-added r i n x (Parts.PlaceFaceExit.refusing j e) q ex lw lf = absurd (let z : ◌≡◌ {A = ℕ} 0 1 = cc in omega arith)

-- the number of a face is a word
pub face-number : (d : ℕ) (ps : List Vec3) (cell : NewCell) (s : Sizes) (words words₁ : List ℕ) (floats floats' : List Float) (vertices : List ℕ) (r : Refusable (ℕ × ℕ)) (i n : ℕ)
    → PlaceFaceExit d ps cell s words words₁ floats floats' vertices r → r ≡ Ok (i, n) → s.faces < s.slots → s.slots ≤ 1048576 → i < 4294967296
face-number d ps cell s words words₁ floats floats' vertices r i n (Parts.PlaceFaceExit.placed j m e g) q few slots =
    let a : j ≡ i = (ok-pair q).0 in omega (arith, g.number, g.more)
face-number d ps cell s words words₁ floats floats' vertices r i n (Parts.PlaceFaceExit.refusing j e) q few slots = absurd (let z : ◌≡◌ {A = ℕ} 0 1 = cc in omega arith)

-- ---- `add_faces`

-- the faces of the cell before c are added; what is left, added to them, gives the whole
pub record Going (d : ℕ) (ps : List Vec3) (ws : List ℕ) (cell : NewCell) (s : Sizes) (words₀ words : List ℕ) (floats₀ floats : List Float) (n : ℕ) (c : FaceCursor) : Type 0 where
  pub at-face : AtFace ws cell.head c
  pub face : c.face ≤ cell.head.faces
  pub listed : ListGrowth s words₀ words floats₀ floats cell.first c.face n
  pub rest : steps (add_face_of d ps cell.number cell.reference) (cell_faces_in (with_faces s n) words floats cell.first c.face) (drop c.face (faces_of (definition_at ws cell.head.at)))
      ≡ add_faces d ps ws cell (faces_in s words₀ floats₀)

module _ (d : ℕ) (ps : List Vec3) (ws : List ℕ) (cell : NewCell) (s : Sizes) (words₀ : List ℕ) (floats₀ : List Float)
    (rd : AddFacesEntry ws s words₀ floats₀ cell) where
  pub going_start : (c : FaceCursor) → (c.face ≡ 0) × (c.at ≡ cell.head.first) → Going d ps ws cell s words₀ words₀ floats₀ floats₀ s.faces c
  unfolding list_at tab
  going_start c e =
      record {
        at-face = at_first ws cell.head c rd.headed e.0 e.1;
        face = omega arith;
        listed =
            record {
              chained = rd.chained;
              behind = omega (arith, rd.behind);
              before = λ j l. refl;
              after = λ j l. refl;
              floats-kept = refl;
              long-words = refl;
              long-floats = refl;
            };
        rest = rw e.0;
      }

  module _ (words : List ℕ) (floats : List Float) (n : ℕ) (c : FaceCursor) (g : Going d ps ws cell s words₀ words floats₀ floats n c) where
    pub going-ready : c.face < cell.head.faces → AddFaceEntry ws (with_faces s n) words floats cell c
    going-ready more =
        let many : n ≤ s.slots = omega (arith, g.listed.behind, rd.room) in
        record {
          at-face = g.at-face;
          face = more;
          lent-words = lent-sized s words₀ words n rd.lent-words g.listed.long-words many;
          lent-floats = lent-floats-sized s floats₀ floats n rd.lent-floats g.listed.long-floats many;
          chained = g.listed.chained;
          behind = g.listed.behind;
          room = rd.room;
          cells-few = rd.cells-few;
        }

    module _ (more : c.face < cell.head.faces) (words' : List ℕ) (floats' : List Float) (r : Refusable (FaceCursor × ℕ))
        (a : AddFaceExit d ps ws cell (with_faces s n) words words' floats floats' c r) where
      there : c.face < length (faces_of (definition_at ws cell.head.at))
      there = omega (arith, (head-faces ws cell.head rd.headed).all)

      pub going-refused : (k : Refusal) → r ≡ Err k → AddFacesExit d ps ws cell s words₀ words' floats₀ floats' (Err k)
      unfolding face_at
      going-refused k q = by r a q
        where
          by : (r : Refusable (FaceCursor × ℕ)) → AddFaceExit d ps ws cell (with_faces s n) words words' floats floats' c r → r ≡ Err k
              → AddFacesExit d ps ws cell s words₀ words' floats₀ floats' (Err k)
          by r (Ensures.AddFaceExit.next q' m' e f p l) q = absurd (let z : ◌≡◌ {A = ℕ} 0 1 = cc in omega arith)
          by r (Ensures.AddFaceExit.refusing j e) q =
              let z : j ≡ k = cc in
              Ensures.AddFacesExit.refusing k (sym g.rest ∙ steps-refused (faces_of (definition_at ws cell.head.at)) c.face [] there (add_face_of d ps cell.number cell.reference) _ k (rw z at e))

      pub going_next : (q : FaceCursor) (m : ℕ) → r ≡ Ok (q, m) → Going d ps ws cell s words₀ words' floats₀ floats' m q
      unfolding face_at
      going_next q m er = by r a er
        where
          by : (r : Refusable (FaceCursor × ℕ)) → AddFaceExit d ps ws cell (with_faces s n) words words' floats floats' c r → r ≡ Ok (q, m)
              → Going d ps ws cell s words₀ words' floats₀ floats' m q
          by r (Ensures.AddFaceExit.refusing j e) er = absurd (let z : ◌≡◌ {A = ℕ} 0 1 = cc in omega arith)
          by r (Ensures.AddFaceExit.next q' m' e f p l) er =
              let zq : q' ≡ q = (ok-pair er).0 in
              let zm : m' ≡ m = (ok-pair er).1 in
              let f' : q.face ≡ c.face + 1 = rw zq at f in
              let l' : ListGrowth (with_faces s n) words words' floats floats' (cell.first + c.face) 1 m = rw zm at l in
              record {
                at-face = rw zq at p;
                face = omega arith;
                listed =
                    record {
                      chained = l'.chained;
                      behind = omega (arith, l'.behind);
                      before = λ j b. l'.before j (omega arith) ∙ g.listed.before j b;
                      after = λ j b. l'.after j (omega arith) ∙ g.listed.after j (omega arith);
                      floats-kept = l'.floats-kept ∙ g.listed.floats-kept;
                      long-words = l'.long-words ∙ g.listed.long-words;
                      long-floats = l'.long-floats ∙ g.listed.long-floats;
                    };
                rest =
                    rw f' (sym (steps_next (faces_of (definition_at ws cell.head.at)) c.face [] there (add_face_of d ps cell.number cell.reference) _ _ (rw zm at e)) ∙ g.rest);
              }

      pub going_face : (q : FaceCursor) (m : ℕ) → r ≡ Ok (q, m) → q.face ≡ c.face + 1
      going_face q m er = by r a er
        where
          by : (r : Refusable (FaceCursor × ℕ)) → AddFaceExit d ps ws cell (with_faces s n) words words' floats floats' c r → r ≡ Ok (q, m) → q.face ≡ c.face + 1
          by r (Ensures.AddFaceExit.refusing j e) er = absurd (let z : ◌≡◌ {A = ℕ} 0 1 = cc in omega arith)
          by r (Ensures.AddFaceExit.next q' m' e f p l) er = let zq : q' ≡ q = (ok-pair er).0 in rw zq at f

    pub going_done : cell.head.faces ≤ c.face → AddFacesExit d ps ws cell s words₀ words floats₀ floats (Ok n)
    unfolding steps
    going_done end =
        let z : c.face ≡ cell.head.faces = omega (arith, g.face) in
        let w = rw (drop_of_length-le (faces_of (definition_at ws cell.head.at)) {i = c.face} (omega (arith, (head-faces ws cell.head rd.headed).all)), steps) at g.rest in
        Ensures.AddFacesExit.added n (rw z at (sym w)) (rw z at g.listed)
