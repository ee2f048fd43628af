-- The faces of a record, by number and by point. Assumes nothing.
use Prim.Native.Nat.{ℕ, zero, suc, ◌+◌, ◌≤◌, ◌<◌}
use native.Mathlib.Numerals.{add-one}
use native.Mathlib.Omega.{arith}
use mathlib.Core.Path.{◌≡◌, refl, ap, ap₂, sym, ◌∙◌}
use mathlib.Core.Bool.{Bool, true, false, cond}
use mathlib.Core.List.{List, [], ◌∷◌, ◌++◌, map, append_assoc}
use lib.Dec.{ltb, eqb}
use lib.ListN.{length, get_or, take, drop, set, length-drop, length-append}
use lib.Seq.{length-take-le, take_all, take-suc, take_at, set_at}
use borrow.Author.Tests.{ltb-true, eq-eqb, ne_eqb}
use Rattle.arith.specs.Records.{part, puts}
use Rattle.arith.specs.Lists.{all_of, Side, sides, after}
use Rattle.arith.proofs.All.{All, all_get_or, all_more}
use Rattle.arith.proofs.ListLaws.{left_at, length-sides, sides-at}
use Rattle.arith.proofs.RoundLaws.{after_less}
use Rattle.arith.proofs.RecordLaws.{get_or_part}
use Rattle.case_definitions.specs.Faces.{Definition, polygon, solid, polyhedron, tetrahedron, hexahedron, prism, pyramid, ends, picked, faces_of, face_count}
use Rattle.case_definitions.specs.Definitions.{Taken, face_lists}
use Rattle.case_definitions.specs.Ensures.{first_of, head_of, step_at, read_of, definition_at, face_at, HeadAt}
use Rattle.case_faces.specs.Ensures.{face_from, AtFace, next_face, CopyFaceExit, table_of, places_of}
use Rattle.case_definitions.specs.declared.Head.{Head}
use Rattle.case_faces.specs.declared.Copied.{Copied}
use Rattle.case_faces.specs.declared.Places.{Places}
use Rattle.case_faces.specs.declared.Places.TheVariants.{Three, Four}
use Rattle.case_faces.specs.declared.FaceCursor.{FaceCursor}
use Rattle.case_definitions.specs.declared.Cursor.{Cursor}
use Rattle.case_definitions.proofs.WalkLaws.{Lists, face-first, faces-read}
use Rattle.case_definitions.proofs.RecordLaws.{IsSolid, is-tetrahedron, is-hexahedron, is-prism, is-pyramid, RecordCase, a-polygon, a-solid, a-polyhedron, record-case, StepsTo, steps-to}
use Rattle.std.specs.Prelude.{Ok}

-- ---- what a head tells, kind by kind

-- a polygon's point numbers
pub record PolygonHead (ws : List ℕ) (h : Head) : Type 0 where
  pub read : definition_at ws h.at ≡ polygon (take h.faces (drop h.first ws))
  pub room : h.first + h.faces ≤ length ws

-- a solid's table and point numbers
pub record SolidHead (ws : List ℕ) (h : Head) : Type 0 where
  pub table : List (List ℕ)
  pub points : ℕ
  pub is : IsSolid h.kind table points
  pub read : definition_at ws h.at ≡ solid table (take points (drop h.first ws))
  pub all : h.faces ≡ length table
  pub room : h.first + points ≤ length ws

-- a polyhedron's faces
pub record PolyhedronHead (ws : List ℕ) (h : Head) : Type 0 where
  pub lists : Taken (List (List ℕ))
  pub list : face_lists h.faces (drop h.first ws) ≡ Ok lists
  pub read : definition_at ws h.at ≡ polyhedron lists.read
  pub room : h.first ≤ length ws

pub data HeadCase (ws : List ℕ) (h : Head) : Type 0 where
  polygon-head : h.kind ≡ 0 → PolygonHead ws h → HeadCase ws h
  solid-head : 1 ≤ h.kind → h.kind ≤ 4 → SolidHead ws h → HeadCase ws h
  polyhedron-head : h.kind ≡ 5 → PolyhedronHead ws h → HeadCase ws h

solid-low : (kind : ℕ) (table : List (List ℕ)) (n : ℕ) → IsSolid kind table n → 1 ≤ kind
solid-low kind table n is-tetrahedron = omega arith
solid-low kind table n is-hexahedron = omega arith
solid-low kind table n is-prism = omega arith
solid-low kind table n is-pyramid = omega arith

solid-high : (kind : ℕ) (table : List (List ℕ)) (n : ℕ) → IsSolid kind table n → kind ≤ 4
solid-high kind table n is-tetrahedron = omega arith
solid-high kind table n is-hexahedron = omega arith
solid-high kind table n is-prism = omega arith
solid-high kind table n is-pyramid = omega arith

module _ (ws : List ℕ) (h : Head) (g : HeadAt ws h) where
  s : StepsTo ws h.at h g.next.at
  s = steps-to ws h.at h g.next (sym g.step)

  taken : Taken Definition
  taken = record { read = s.d; left = drop g.next.at ws }

  pub head-case : HeadCase ws h
  unfolding head_of face_count first_of read_of definition_at taken
  head-case = by (record-case ws h.at taken s.read)
    where
      kind : h.kind ≡ get_or ws h.at 0
      kind = ap (λ x. x.kind) s.head

      faces : h.faces ≡ face_count s.d
      faces = ap (λ x. x.faces) s.head

      first : h.first ≡ first_of h.at s.d
      first = ap (λ x. x.first) s.head

      got : definition_at ws h.at ≡ s.d
      got = ap read_of s.read

      by : RecordCase ws h.at taken → HeadCase ws h
      by (a-polygon n k l m) =
          let d : s.d ≡ polygon (take n (drop (h.at + 2) ws)) = ap (λ x. x.read) m in
          let r = l.room in
          let c : length (take n (drop (h.at + 2) ws)) ≡ n = length-take-le n (drop (h.at + 2) ws) (omega (arith, length-drop (h.at + 2) ws)) in
          let f : h.faces ≡ n = faces ∙ ap face_count d ∙ c in
          let p : h.first ≡ h.at + 2 = first ∙ ap (first_of h.at) d in
          polygon-head (kind ∙ k) (record { read = rw (f, p) (got ∙ d); room = omega arith })
      by (a-solid kd table n k i r m) =
          let d : s.d ≡ solid table (take n (drop (h.at + 1) ws)) = ap (λ x. x.read) m in
          let e : h.kind ≡ kd = kind ∙ k in
          let p : h.first ≡ h.at + 1 = first ∙ ap (first_of h.at) d in
          let low = solid-low kd table n i in
          let high = solid-high kd table n i in
          solid-head (omega arith) (omega arith)
          (record { table = table; points = n; is = rw e i; read = rw p (got ∙ d); all = faces ∙ ap face_count d; room = omega arith })
      by (a-polyhedron n t k r c few l m) =
          let d : s.d ≡ polyhedron t.read = ap (λ x. x.read) m in
          let q = faces-read ws n (h.at + 2) t r l in
          let f : h.faces ≡ n = faces ∙ ap face_count d ∙ q.all in
          let p : h.first ≡ h.at + 2 = first ∙ ap (first_of h.at) d in
          polyhedron-head (kind ∙ k) (record { lists = t; list = rw (f, p) l; read = got ∙ d; room = omega arith })

-- ---- the faces of each kind

get_or_map : {A B : Type 0} (f : A → B) (l : List A) (k : ℕ) (d : A) (e : B) → k < length l → get_or (map f l) k e ≡ f (get_or l k d)
get_or_map f [] k d e h = absurd (omega arith)
get_or_map f (a ∷ l) zero d e h = refl
get_or_map f (a ∷ l) (suc k) d e h = get_or_map f l k d e (omega arith)

-- the numbers of side k
pub record PolygonFace (ws : List ℕ) (h : Head) (k : ℕ) : Type 0 where
  pub same : face_at ws h.at k ≡ get_or ws (h.first + k) 0 ∷ get_or ws (h.first + after h.faces k) 0 ∷ []
  pub room : (i : ℕ) → i < h.faces → h.first + i < length ws

polygon-face : (ws : List ℕ) (h : Head) (k : ℕ) → PolygonHead ws h → k < h.faces → PolygonFace ws h k
unfolding face_at faces_of ends
polygon-face ws h k p b = record { same = same; room = λ i m. omega (arith, p.room) }
  where
    l : List ℕ
    l = take h.faces (drop h.first ws)

    n : length l ≡ h.faces
    n = length-take-le h.faces (drop h.first ws) (omega (arith, p.room, length-drop h.first ws))

    side : Side ℕ
    side = record { from = get_or l k 0; to = get_or l (after h.faces k) 0 }

    same : face_at ws h.at k ≡ get_or ws (h.first + k) 0 ∷ get_or ws (h.first + after h.faces k) 0 ∷ []
    same =
        let i : k < length (sides l) = omega (arith, n, length-sides l) in
        let a : after h.faces k < h.faces = after_less h.faces k b in
        rw (
          p.read,
          get_or_map ends (sides l) k side [] i,
          sides-at l k 0 side (omega (arith, n)),
          n,
          get_or_part ws h.first h.faces k 0 b,
          get_or_part ws h.first h.faces (after h.faces k) 0 a,
        )

-- the numbers of a solid's face k: those at its places
pub record SolidFace (ws : List ℕ) (h : Head) (k : ℕ) : Type 0 where
  pub face : k < length (table_of h.kind)
  pub same : face_at ws h.at k ≡ map (λ i. get_or ws (h.first + i) 0) (get_or (table_of h.kind) k [])
  pub room : All (λ i. h.first + i < length ws) (get_or (table_of h.kind) k [])

-- places of a solid of n points
placed : ℕ → List ℕ → Bool
placed n l = all_of (λ i. ltb i n) l

-- a solid's table goes by its kind, and its places are those of its points
record Tabled (kind : ℕ) (table : List (List ℕ)) (n : ℕ) : Type 0 where
  same : table ≡ table_of kind
  inside : all_of (placed n) table ≡ true

tabled-kind : (kind : ℕ) (table : List (List ℕ)) (n : ℕ) → IsSolid kind table n → Tabled kind table n
unfolding table_of tetrahedron hexahedron prism pyramid placed all_of
tabled-kind kind table n is-tetrahedron = record { same = refl; inside = refl }
tabled-kind kind table n is-hexahedron = record { same = refl; inside = refl }
tabled-kind kind table n is-prism = record { same = refl; inside = refl }
tabled-kind kind table n is-pyramid = record { same = refl; inside = refl }

all_pass : {A : Type 0} (p : A → Bool) (l : List A) → all_of p l ≡ true → All (λ a. p a ≡ true) l
unfolding all_of
all_pass p [] e = tt
all_pass p (a ∷ l) e = by (p a) refl (all_pass p l) e
  where
    by : (t : Bool) → p a ≡ t → (all_of p l ≡ true → All (λ a. p a ≡ true) l) → elim t [ true ↦ all_of p l | false ↦ false ] ≡ true → All (λ a. p a ≡ true) (a ∷ l)
    by true q r e = (q, r e)
    by false q r e = absurd (let z : ◌≡◌ {A = ℕ} 0 1 = cc in omega arith)

row-placed : (n : ℕ) (table : List (List ℕ)) (k : ℕ) → all_of (placed n) table ≡ true → All (λ i. i < n) (get_or table k [])
unfolding placed all_of
row-placed n table k e =
    all_more (λ i. ltb i n ≡ true) (λ i. i < n) (λ i t. ltb-true i n t) (get_or table k [])
    (all_pass (λ i. ltb i n) (get_or table k []) (all_get_or (λ l. placed n l ≡ true) table k [] refl (all_pass (placed n) table e)))

-- the first n words from `first` on, at places below n
picked-at : (ws : List ℕ) (first n : ℕ) (l : List ℕ) → All (λ i. i < n) l → picked (take n (drop first ws)) l ≡ map (λ i. get_or ws (first + i) 0) l
unfolding picked
picked-at ws first n [] h = refl
picked-at ws first n (i ∷ l) h = ap₂ ◌∷◌ (get_or_part ws first n i 0 h.0) (picked-at ws first n l h.1)

solid-face : (ws : List ℕ) (h : Head) (k : ℕ) → SolidHead ws h → k < h.faces → SolidFace ws h k
unfolding face_at faces_of
solid-face ws h k p b =
    let t = tabled-kind h.kind p.table p.points p.is in
    let i = row-placed p.points p.table k t.inside in
    let l : List ℕ = take p.points (drop h.first ws) in
    let same : face_at ws h.at k ≡ map (λ i. get_or ws (h.first + i) 0) (get_or p.table k []) =
    rw (p.read, get_or_map (picked l) p.table k [] [] (omega (arith, p.all))) (picked-at ws h.first p.points (get_or p.table k []) i) in
    record {
      face = rw (← t.same) (omega (arith, p.all));
      same = rw (← t.same) same;
      room = rw (← t.same) (all_more (λ i. i < p.points) (λ i. h.first + i < length ws) (λ i m. omega (arith, p.room)) (get_or p.table k []) i);
    }

-- the numbers of a polyhedron's face k, which starts at `at`
pub record PolyhedronFace (ws : List ℕ) (h : Head) (k at : ℕ) : Type 0 where
  pub count : get_or ws at 0 ≡ length (face_at ws h.at k)
  pub few : get_or ws at 0 ≤ 8
  pub same : face_at ws h.at k ≡ part ws (at + 1) (get_or ws at 0)
  pub room : at + 1 + get_or ws at 0 ≤ length ws

face-zero : (ws : List ℕ) (p : ℕ) → face_from ws p zero ≡ p
unfolding face_from
face-zero ws p = refl

-- a later face starts behind the first
face-after : (ws : List ℕ) (p k : ℕ) → face_from ws p (suc k) ≡ face_from ws (p + 1 + get_or ws p 0) k
unfolding face_from
face-after ws p zero = refl
face-after ws p (suc k) = rw (face-after ws p k)

record FaceIn (ws : List ℕ) (w : Taken (List (List ℕ))) (k at : ℕ) : Type 0 where
  lists : Lists ws at 8 (get_or ws at 0)
  same : get_or w.read k [] ≡ take (get_or ws at 0) (drop (at + 1) ws)

face-in : (ws : List ℕ) (n p : ℕ) (w : Taken (List (List ℕ))) → face_lists n (drop p ws) ≡ Ok w → (k : ℕ) → k < n → FaceIn ws w k (face_from ws p k)
face-in ws zero p w e k b = absurd (omega arith)
face-in ws (suc n) p w e zero b =
    let f = face-first ws n p w e in
    let c = f.first.count in
    let m : get_or w.read 0 [] ≡ take f.count (drop (p + 1) ws) = ap (λ t. get_or t.read 0 []) (sym f.same) in
    rw (face-zero ws p) (record { lists = rw c at f.first; same = rw c at m })
face-in ws (suc n) p w e (suc k) b =
    let f = face-first ws n p w e in
    let c = f.first.count in
    let r = face-in ws n (p + 1 + f.count) f.rest f.more k (omega arith) in
    let q : face_from ws (p + 1 + f.count) k ≡ face_from ws p (suc k) = ap (λ x. face_from ws (p + 1 + x) k) c ∙ sym (face-after ws p k) in
    let m : get_or w.read (suc k) [] ≡ get_or f.rest.read k [] = ap (λ t. get_or t.read (suc k) []) (sym f.same) in
    rw (← q) (record { lists = r.lists; same = m ∙ r.same })

pub polyhedron-face : (ws : List ℕ) (h : Head) (k at : ℕ) → PolyhedronHead ws h → k < h.faces → at ≡ face_from ws h.first k → PolyhedronFace ws h k at
unfolding face_at faces_of
polyhedron-face ws h k at p b e =
    record {
      count = sym (ap length same ∙ length-take-le n (drop (at + 1) ws) (omega (arith, i.lists.room, length-drop (at + 1) ws)));
      few = i.lists.few;
      same = same;
      room = i.lists.room;
    }
  where
    n : ℕ
    n = get_or ws at 0

    i : FaceIn ws p.lists k at
    i = rw e (face-in ws h.faces h.first p.lists p.list k b)

    same : face_at ws h.at k ≡ take (get_or ws at 0) (drop (at + 1) ws)
    same = rw p.read i.same

-- ---- the face at a cursor, as the code asks for it

module _ (ws : List ℕ) (h : Head) (c : FaceCursor) (a : AtFace ws h c) (b : c.face < h.faces) where
  -- a record has one of the six kinds
  pub kind-few : h.kind ≤ 5
  kind-few = by (head-case ws h a.headed)
    where
      by : HeadCase ws h → h.kind ≤ 5
      by (polygon-head k p) = omega arith
      by (solid-head low high p) = omega arith
      by (polyhedron-head k p) = omega arith

  pub side-of-polygon : h.kind ≡ 0 → PolygonFace ws h c.face
  side-of-polygon e = by (head-case ws h a.headed)
    where
      by : HeadCase ws h → PolygonFace ws h c.face
      by (polygon-head k p) = polygon-face ws h c.face p b
      by (solid-head low high p) = absurd (omega arith)
      by (polyhedron-head k p) = absurd (omega arith)

  pub face-of-solid : 1 ≤ h.kind → h.kind ≤ 4 → SolidFace ws h c.face
  face-of-solid n m = by (head-case ws h a.headed)
    where
      by : HeadCase ws h → SolidFace ws h c.face
      by (polygon-head k p) = absurd (omega arith)
      by (solid-head low high p) = solid-face ws h c.face p b
      by (polyhedron-head k p) = absurd (omega arith)

  pub face-of-polyhedron : h.kind ≡ 5 → PolyhedronFace ws h c.face c.at
  face-of-polyhedron e = by (head-case ws h a.headed)
    where
      by : HeadCase ws h → PolyhedronFace ws h c.face c.at
      by (polygon-head k p) = absurd (omega arith)
      by (solid-head low high p) = absurd (omega arith)
      by (polyhedron-head k p) = polyhedron-face ws h c.face c.at p b (a.place e)

  -- a solid of this kind has so many faces
  pub solid-few : (kind n : ℕ) → h.kind ≡ kind → 1 ≤ kind → kind ≤ 4 → length (table_of kind) ≡ n → c.face < n
  solid-few kind n e low high q = let f = rw e at (face-of-solid (omega arith) (omega arith)).face in omega arith

  -- the next face
  pub face-next : (n : ℕ) → n ≡ length (face_at ws h.at c.face) → (next : FaceCursor) → next ≡ next_face h c n → AtFace ws h next
  unfolding face_from next_face
  face-next n e next f = rw f (record { headed = a.headed; place = place })
    where
      place : h.kind ≡ 5 → cond (eqb h.kind 5) (c.at + 1 + n) c.at ≡ face_from ws h.first (c.face + 1)
      place k =
          let p = face-of-polyhedron k in
          rw (eq-eqb h.kind 5 k, add-one c.face, ← a.place k) (ap (λ x. c.at + 1 + x) (e ∙ sym p.count))

-- the head of a step is a right record's, and its first face starts where the head says
pub headed : (ws : List ℕ) (at : ℕ) (h : Head) (n : Cursor) → Ok (h, n) ≡ step_at ws at → HeadAt ws h
unfolding head_of
headed ws at h n e =
    let s = steps-to ws at h n e in
    let k : h.at ≡ at = ap (λ x. x.at) s.head in
    record { next = n; step = ap (step_at ws) k ∙ sym e }

pub at_first : (ws : List ℕ) (h : Head) (c : FaceCursor) → HeadAt ws h → c.face ≡ 0 → c.at ≡ h.first → AtFace ws h c
at_first ws h c g f e = record { headed = g; place = λ k. rw (f, face-zero ws h.first) e }

-- ---- copying

module _ (out₀ f : List ℕ) where
  pub copy-next : (out : List ℕ) (j x : ℕ) → out ≡ take j f ++ drop j out₀ → j < length out₀ → j < length f → x ≡ get_or f j 0 →
      set out j x ≡ take (j + 1) f ++ drop (j + 1) out₀
  copy-next out j x e a b g =
      let t : take (j + 1) f ≡ take j f ++ (get_or f j 0 ∷ []) = rw (add-one j, take-suc f j 0 b) in
      let p : take (j + 1) f ++ drop (j + 1) out₀ ≡ take j f ++ get_or f j 0 ∷ drop (j + 1) out₀ =
      rw t (append_assoc (take j f) (get_or f j 0 ∷ []) (drop (j + 1) out₀)) in
      rw (e, left_at out₀ j 0 a, set_at (take j f) (get_or out₀ j 0) (drop (j + 1) out₀) x j (length-take-le j f (omega arith)), g) (sym p)

  module _ (out : List ℕ) (j n : ℕ) (e : out ≡ take j f ++ drop j out₀) (a : n ≡ length f) (b : j ≤ n) (d : n ≤ j) where
    pub copy-end : out ≡ f ++ drop n out₀
    copy-end = let z : j ≡ n = omega arith in rw z at e ∙ ap (λ l. l ++ drop n out₀) (take_all n f (omega arith))

-- two, three and four stores at the front
front-2 : (l : List ℕ) (x y : ℕ) → length l ≡ 8 → set (set l 0 x) 1 y ≡ x ∷ y ∷ drop 2 l
front-2 [] x y h = absurd (omega arith)
front-2 (a ∷ []) x y h = absurd (omega arith)
front-2 (a ∷ b ∷ l) x y h = refl

front-3 : (l : List ℕ) (x y z : ℕ) → length l ≡ 8 → set (set (set l 0 x) 1 y) 2 z ≡ x ∷ y ∷ z ∷ drop 3 l
front-3 [] x y z h = absurd (omega arith)
front-3 (a ∷ []) x y z h = absurd (omega arith)
front-3 (a ∷ b ∷ []) x y z h = absurd (omega arith)
front-3 (a ∷ b ∷ c ∷ l) x y z h = refl

front-4 : (l : List ℕ) (x y z w : ℕ) → length l ≡ 8 → set (set (set (set l 0 x) 1 y) 2 z) 3 w ≡ x ∷ y ∷ z ∷ w ∷ drop 4 l
front-4 [] x y z w h = absurd (omega arith)
front-4 (a ∷ []) x y z w h = absurd (omega arith)
front-4 (a ∷ b ∷ []) x y z w h = absurd (omega arith)
front-4 (a ∷ b ∷ c ∷ []) x y z w h = absurd (omega arith)
front-4 (a ∷ b ∷ c ∷ d ∷ l) x y z w h = refl

module _ (ws : List ℕ) (h : Head) (c : FaceCursor) (a : AtFace ws h c) (b : c.face < h.faces) (out₀ : List ℕ) (m : length out₀ ≡ 8) where
  -- the face stands at the front
  pub face-copied : (f out : List ℕ) (n : ℕ) (next : FaceCursor) → face_at ws h.at c.face ≡ f → n ≡ length f → n ≤ 8 → out ≡ f ++ drop n out₀
      → next ≡ next_face h c n → CopyFaceExit ws h c out₀ out n next
  face-copied f out n next s e k w t =
      let g : n ≡ length (face_at ws h.at c.face) = e ∙ ap length (sym s) in
      let l : length out ≡ length f + length (drop n out₀) = ap length w ∙ length-append f (drop n out₀) in
      record {
        copied = w ∙ ap (λ x. x ++ drop n out₀) (sym s);
        front = ap (take n) w ∙ take_at f (drop n out₀) n (sym e) ∙ sym s;
        counted = g;
        small = k;
        eight = omega (arith, length-drop n out₀);
        follows = t;
        goes = face-next ws h c a b n g next t;
      }

  -- a record that is no polyhedron
  flat-next : (n : ℕ) → h.kind ≤ 4 → record { face = c.face + 1; at = c.at } ≡ next_face h c n
  unfolding next_face
  flat-next n k = rw (ne_eqb h.kind 5 (λ e. omega arith))

  module _ (n : ℕ) (r : Copied) (e : r ≡ record { count = n; next = record { face = c.face + 1; at = c.at } }) where
    flat-copied : (f out : List ℕ) → h.kind ≤ 4 → face_at ws h.at c.face ≡ f → n ≡ length f → n ≤ 8 → out ≡ f ++ drop n out₀ → CopyFaceExit ws h c out₀ out r.count r.next
    flat-copied f out k s l d w = rw e (face-copied f out n (record { face = c.face + 1; at = c.at }) s l d w (flat-next n k))

  pub side-copied : (x y k : ℕ) (r : Copied) → h.kind ≡ 0 → x ≡ get_or ws (h.first + c.face) 0 → k ≡ after h.faces c.face → y ≡ get_or ws (h.first + k) 0
      → r ≡ record { count = 2; next = record { face = c.face + 1; at = c.at } } → CopyFaceExit ws h c out₀ (set (set out₀ 0 x) 1 y) r.count r.next
  side-copied x y k r z p q t e =
      let f = side-of-polygon ws h c a b z in
      let same : face_at ws h.at c.face ≡ x ∷ y ∷ [] = rw (p, t, q) f.same in
      flat-copied 2 r e (x ∷ y ∷ []) (set (set out₀ 0 x) 1 y) (omega arith) same refl (omega arith) (front-2 out₀ x y m)

  -- what `copy_places` asks
  pub solid-ready : (kind : ℕ) → h.kind ≡ kind → 1 ≤ kind → kind ≤ 4 → (p : Places) → places_of p ≡ get_or (table_of kind) c.face []
      → AtFace ws h c × (c.face < h.faces) × (length out₀ ≡ 8) × (1 ≤ h.kind) × (h.kind ≤ 4) × (places_of p ≡ get_or (table_of h.kind) c.face [])
  solid-ready kind e low high p q = (a, b, m, omega arith, omega arith, rw e q)

  pub list_copied : (n : ℕ) (out : List ℕ) (j : ℕ) → h.kind ≡ 5 → n ≡ get_or ws c.at 0 → out ≡ take j (part ws (c.at + 1) n) ++ drop j out₀ → j ≤ n → n ≤ j
      → CopyFaceExit ws h c out₀ out n (record { face = c.face + 1; at = c.at + 1 + n })
  unfolding next_face
  list_copied n out j k e w u v =
      let p = face-of-polyhedron ws h c a b k in
      let same : face_at ws h.at c.face ≡ part ws (c.at + 1) n = rw e p.same in
      let l : n ≡ length (part ws (c.at + 1) n) = e ∙ p.count ∙ ap length same in
      face-copied (part ws (c.at + 1) n) out n (record { face = c.face + 1; at = c.at + 1 + n }) same l (omega (arith, p.few))
      (copy-end out₀ (part ws (c.at + 1) n) out j n w l u v) (rw (eq-eqb h.kind 5 k))

  module _ (low : 1 ≤ h.kind) (high : h.kind ≤ 4) (p : Places) (q : places_of p ≡ get_or (table_of h.kind) c.face []) where
    solid-room : All (λ i. h.first + i < length ws) (places_of p)
    solid-room = rw q (face-of-solid ws h c a b low high).room

    -- the places are the solid's
    pub three-room : (i j k : ℕ) → p ≡ Three i j k → (h.first + i < length ws) × (h.first + j < length ws) × (h.first + k < length ws) × (length out₀ ≡ 8)
    unfolding places_of
    three-room i j k t = let n = rw t at solid-room in (n.0, n.1.0, n.1.1.0, m)

    pub four-room : (i j k l : ℕ) → p ≡ Four i j k l → (h.first + i < length ws) × (h.first + j < length ws) × (h.first + k < length ws) × (length out₀ ≡ 8)
    unfolding places_of
    four-room i j k l t = let n = rw t at solid-room in (n.0, n.1.0, n.1.1.0, m)

    pub last-room : (i j k l : ℕ) → p ≡ Four i j k l → h.first + l < length ws
    unfolding places_of
    last-room i j k l t = let n = rw t at solid-room in n.1.1.1.0

    solid-same : face_at ws h.at c.face ≡ map (λ i. get_or ws (h.first + i) 0) (places_of p)
    solid-same = rw q (face-of-solid ws h c a b low high).same

    module _ (i j k : ℕ) (out : List ℕ) (w : out ≡ puts out₀ 0 (get_or ws (h.first + i) 0 ∷ get_or ws (h.first + j) 0 ∷ get_or ws (h.first + k) 0 ∷ [])) (r : Copied) where
      pub three-copied : p ≡ Three i j k → r ≡ record { count = 3; next = record { face = c.face + 1; at = c.at } } → CopyFaceExit ws h c out₀ out r.count r.next
      unfolding places_of
      three-copied t e =
          flat-copied 3 r e (get_or ws (h.first + i) 0 ∷ get_or ws (h.first + j) 0 ∷ get_or ws (h.first + k) 0 ∷ []) out high (rw t at solid-same) refl (omega arith)
          (w ∙ front-3 out₀ _ _ _ m)

      pub four-copied : (l x : ℕ) → p ≡ Four i j k l → x ≡ get_or ws (h.first + l) 0 → r ≡ record { count = 4; next = record { face = c.face + 1; at = c.at } }
          → CopyFaceExit ws h c out₀ (set out 3 x) r.count r.next
      unfolding places_of
      four-copied l x t g e =
          flat-copied 4 r e (get_or ws (h.first + i) 0 ∷ get_or ws (h.first + j) 0 ∷ get_or ws (h.first + k) 0 ∷ get_or ws (h.first + l) 0 ∷ []) (set out 3 x) high
          (rw t at solid-same) refl (omega arith) (rw (w, g) (front-4 out₀ _ _ _ _ m))

pub next-number : (h : Head) (c : FaceCursor) (n : ℕ) (next : FaceCursor) → next ≡ next_face h c n → next.face ≡ c.face + 1
unfolding next_face
next-number h c n next e = ap (λ x. x.face) e
