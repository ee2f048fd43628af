-- Refusals 11 and 12, and the distinct point numbers of a record: one turn and the end of each loop. Assumes nothing.
use Prim.Native.Nat.{ℕ, ◌+◌, ◌-◌, ◌*◌, ◌≤◌, ◌<◌}
use native.Mathlib.Omega.{arith}
use mathlib.Core.Path.{◌≡◌, refl, ap, sym, ◌∙◌}
use mathlib.Core.Bool.{Bool, true, false, not, ◌||◌}
use mathlib.Core.List.{List, [], ◌∷◌, ◌++◌}
use lib.Dec.{leb, ltb, eqb}
use lib.ListN.{length, get_or, take, drop, length-drop, drop_of_length-le}
use lib.Seq.{length-take-le}
use borrow.Author.Tests.{eq-eqb, ne_eqb}
use Rattle.arith.specs.Lists.{fold, any_of, flatten}
use Rattle.arith.specs.declared.Vec3.{Vec3}
use Rattle.arith.proofs.ListLaws.{left_at}
use Rattle.reading.specs.Result.{Refusable, ◌>>=◌, refuse, steps}
use Rattle.case_definitions.specs.Faces.{Definition, faces_of}
use Rattle.case_definitions.specs.Ensures.{definition_at, face_at, HeadAt}
use Rattle.case_faces.specs.Ensures.{AtFace, next_face, CopyFaceExit}
use Rattle.case_definitions.specs.declared.Head.{Head}
use Rattle.case_faces.specs.declared.FaceCursor.{FaceCursor}
use Rattle.case_faces.proofs.FaceLaws.{PolygonHead, HeadCase, polygon-head, solid-head, polyhedron-head, head-case, at_first}
use Rattle.case_definitions.proofs.Walking.{head-faces}
use Rattle.mesh_averages.specs.Averages.{average}
use Rattle.mesh_numbers.specs.Numbers.{insert_new, rising, insert_below, numbers_in}
use Rattle.mesh_numbers.specs.Ensures.{CollectFaceExit}
use Rattle.mesh_points.specs.Collect.{wrong_kind, missing, reference_of, checked}
use Rattle.std.specs.Prelude.{Some, None, Ok, Err}
use Rattle.std.specs.declared.option.Option.{Option}
use Rattle.refusal.specs.declared.Refusal.TheVariants.{WrongKind, NoSuchPoint}

-- ---- refusal 11

module _ (d : ℕ) (ws : List ℕ) (h : Head) (g : HeadAt ws h) where
  polygon-long : PolygonHead ws h → length (take h.faces (drop h.first ws)) ≡ h.faces
  polygon-long p = length-take-le h.faces (drop h.first ws) (omega (arith, p.room, length-drop h.first ws))

  is-polygon : h.kind ≡ 0 → wrong_kind d (definition_at ws h.at) ≡ (not (eqb d 2) || ltb h.faces 3)
  unfolding wrong_kind
  is-polygon e = by (head-case ws h g)
    where
      by : HeadCase ws h → wrong_kind d (definition_at ws h.at) ≡ (not (eqb d 2) || ltb h.faces 3)
      by (polygon-head k p) = rw (p.read, polygon-long p)
      by (solid-head low high p) = absurd (omega arith)
      by (polyhedron-head k p) = absurd (omega arith)

  pub polygon-in-3d : h.kind ≡ 0 → (d ≡ 2 → ⊥) → not (eqb d 2) ≡ wrong_kind d (definition_at ws h.at)
  polygon-in-3d e n = rw (is-polygon e, ne_eqb d 2 n)

  pub polygon-test : h.kind ≡ 0 → d ≡ 2 → ltb h.faces 3 ≡ wrong_kind d (definition_at ws h.at)
  polygon-test e n = sym (is-polygon e ∙ rw (eq-eqb d 2 n))

  is-polyhedron : h.kind ≡ 5 → wrong_kind d (definition_at ws h.at) ≡ (not (eqb d 3) || ltb h.faces 4)
  unfolding wrong_kind faces_of
  is-polyhedron e = by (head-case ws h g)
    where
      by : HeadCase ws h → wrong_kind d (definition_at ws h.at) ≡ (not (eqb d 3) || ltb h.faces 4)
      by (polygon-head k p) = absurd (omega arith)
      by (solid-head low high p) = absurd (omega arith)
      by (polyhedron-head k p) = let f = (head-faces ws h g).all in rw (f, p.read)

  pub polyhedron-in-2d : h.kind ≡ 5 → (d ≡ 3 → ⊥) → not (eqb d 3) ≡ wrong_kind d (definition_at ws h.at)
  polyhedron-in-2d e n = rw (is-polyhedron e, ne_eqb d 3 n)

  pub polyhedron-test : h.kind ≡ 5 → d ≡ 3 → ltb h.faces 4 ≡ wrong_kind d (definition_at ws h.at)
  polyhedron-test e n = sym (is-polyhedron e ∙ rw (eq-eqb d 3 n))

  pub solid-test : 1 ≤ h.kind → h.kind ≤ 4 → not (eqb d 3) ≡ wrong_kind d (definition_at ws h.at)
  unfolding wrong_kind
  solid-test low high = by (head-case ws h g)
    where
      by : HeadCase ws h → not (eqb d 3) ≡ wrong_kind d (definition_at ws h.at)
      by (polygon-head k p) = absurd (omega arith)
      by (solid-head l u p) = rw p.read
      by (polyhedron-head k p) = absurd (omega arith)

  -- every record's kind is known
  pub known-kind : h.kind ≤ 5
  known-kind = by (head-case ws h g)
    where
      by : HeadCase ws h → h.kind ≤ 5
      by (polygon-head k p) = omega arith
      by (solid-head low high p) = omega arith
      by (polyhedron-head k p) = omega arith

-- ---- the faces of a record, one after another

steps-append : {A B : Type 0} (f : B → A → Refusable B) (s : B) (l k : List A) → steps f s (l ++ k) ≡ (steps f s l >>= λ t. steps f t k)
unfolding steps ◌>>=◌
steps-append f s [] k = refl
steps-append {A} {B} f s (a ∷ l) k = by (f s a) (λ t. steps-append f t l k)
  where
    by : (r : Refusable B) → ((t : B) → steps f t (l ++ k) ≡ (steps f t l >>= λ u. steps f u k)) → (r >>= λ t. steps f t (l ++ k)) ≡ ((r >>= λ t. steps f t l) >>= λ t. steps f t k)
    by (Err n) next = refl
    by (Ok t) next = next t

-- the numbers that were copied are all lent, and the next face follows
module _ (ws : List ℕ) (h : Head) (c : FaceCursor) (vs₀ vs : List ℕ) (count : ℕ) (next : FaceCursor) (f : CopyFaceExit ws h c vs₀ vs count next) where
  pub copied-count : count ≡ length (take count vs)
  copied-count = f.counted ∙ sym (ap length f.front)

  pub copied_next : next.face ≡ c.face + 1
  unfolding next_face
  copied_next = ap (λ (x : FaceCursor). x.face) f.follows

  pub copied-less : c.face < h.faces → h.faces - next.face < h.faces - c.face
  copied-less more = let goes = copied_next in omega arith

-- what is left of the faces from c on, put into the numbers so far, gives the whole
pub record Uniting (ws : List ℕ) (h : Head) (points : ℕ) (out₀ out : List ℕ) (n : ℕ) (c : FaceCursor) : Type 0 where
  pub at-face : AtFace ws h c
  pub face : c.face ≤ h.faces
  pub long : length out ≡ length out₀
  pub few : n ≤ 8 * c.face
  pub rest : steps (insert_below points) (take n out) (flatten (drop c.face (faces_of (definition_at ws h.at))))
      ≡ steps (insert_below points) [] (flatten (faces_of (definition_at ws h.at)))

pub unite-start : (ws : List ℕ) (h : Head) (points : ℕ) (out : List ℕ) (c : FaceCursor) → HeadAt ws h → (c.face ≡ 0) × (c.at ≡ h.first) → Uniting ws h points out out 0 c
unite-start ws h points out c g e =
    record {
      at-face = at_first ws h c g e.0 e.1;
      face = omega arith;
      long = refl;
      few = omega arith;
      rest = rw e.0;
    }

module _ (ws : List ℕ) (h : Head) (points : ℕ) (out₀ out : List ℕ) (n : ℕ) (c : FaceCursor) (u : Uniting ws h points out₀ out n c) (more : c.face < h.faces) where
  abbrev faces : List (List ℕ)
  faces = faces_of (definition_at ws h.at)

  there : c.face < length faces
  there = omega (arith, (head-faces ws h u.at-face.headed).all)

  pub unite-room : (vs₀ vs : List ℕ) (count : ℕ) (next : FaceCursor) → 192 ≤ length out₀ → CopyFaceExit ws h c vs₀ vs count next → n + length (take count vs) ≤ length out
  unite-room vs₀ vs count next room f =
      let l : length (take count vs) ≡ count = ap length f.front ∙ sym f.counted in
      omega (arith, u.long, u.few, f.small, (head-faces ws h u.at-face.headed).few)

  module _ (vs₀ vs : List ℕ) (count : ℕ) (next : FaceCursor) (f : CopyFaceExit ws h c vs₀ vs count next) (out' : List ℕ) (r : Option ℕ)
      (got : CollectFaceExit points (take n out) (take count vs) out' (n + length (take count vs)) r) where
    one-face : steps (insert_below points) (take n out) (flatten (drop c.face faces)) ≡ (numbers_in out' r >>= λ t. steps (insert_below points) t (flatten (drop (c.face + 1) faces)))
    unfolding flatten face_at
    one-face =
        rw (left_at faces c.face [] there)
        (steps-append (insert_below points) (take n out) (get_or faces c.face []) (flatten (drop (c.face + 1) faces))
        ∙ rw (← f.front, ← got.same))

    pub unite-turn : (m : ℕ) → r ≡ Some m → length out' ≡ length out → Uniting ws h points out₀ out' m next
    unfolding numbers_in ◌>>=◌
    unite-turn m e long =
        let l : length (take count vs) ≡ count = ap length f.front ∙ sym f.counted in
        let few : m ≤ n + length (take count vs) = rw e at got.few in
        let goes = copied_next ws h c vs₀ vs count next f in
        record {
          at-face = f.goes;
          face = omega arith;
          long = long ∙ u.long;
          few = omega (arith, f.small, u.few);
          rest = rw goes (sym (rw e at one-face) ∙ u.rest);
        }

    pub unite-missing : (out'' : List ℕ) → r ≡ None → CollectFaceExit points [] (flatten faces) out'' 192 None
    unfolding numbers_in ◌>>=◌
    unite-missing out'' e = record { same = sym (rw e at one-face) ∙ u.rest; few = omega arith }

pub unite-done : (ws : List ℕ) (h : Head) (points : ℕ) (out₀ out : List ℕ) (n : ℕ) (c : FaceCursor) → Uniting ws h points out₀ out n c → h.faces ≤ c.face
    → CollectFaceExit points [] (flatten (faces_of (definition_at ws h.at))) out 192 (Some n)
unfolding numbers_in steps flatten
unite-done ws h points out₀ out n c u end =
    let f = head-faces ws h u.at-face.headed in
    record {
      same = rw (drop_of_length-le (faces_of (definition_at ws h.at)) {i = c.face} (omega (arith, f.all)), flatten, steps) at u.rest;
      few = omega (arith, f.few, u.few, u.face);
    }

-- ---- refusal 12, and the average

below_all : (points : ℕ) (l xs : List ℕ) → steps (insert_below points) l xs ≡ (refuse NoSuchPoint (any_of (leb points) xs) >>= λ _. Ok (fold insert_new l xs))
unfolding steps insert_below any_of fold ◌>>=◌ refuse
below_all points l [] = refl
below_all points l (x ∷ xs) = by (leb points x) refl (below_all points (insert_new l x) xs)
  where
    by : (t : Bool) → leb points x ≡ t → steps (insert_below points) (insert_new l x) xs ≡ (refuse NoSuchPoint (any_of (leb points) xs) >>= λ _. Ok (fold insert_new (insert_new l x) xs))
        → (insert_below points l x >>= λ k. steps (insert_below points) k xs) ≡ (refuse NoSuchPoint (any_of (leb points) (x ∷ xs)) >>= λ _. Ok (fold insert_new (insert_new l x) xs))
    by true e next = rw (e, any_of)
    by false e next = rw (e, any_of) next

module _ (d : ℕ) (ps : List Vec3) (def : Definition) (t : Bool) (et : t ≡ wrong_kind d def) where
  pub checked-kind : t ≡ true → (Err WrongKind) ≡ checked d ps def
  unfolding checked refuse ◌>>=◌
  checked-kind e = rw (← et, e)

  module _ (right : t ≡ false) (points : ℕ) (out : List ℕ) (r : Option ℕ) (long : length ps ≡ points)
      (got : CollectFaceExit points [] (flatten (faces_of def)) out 192 r) where
    all_of : numbers_in out r ≡ (refuse NoSuchPoint (missing ps def) >>= λ _. Ok (rising (flatten (faces_of def))))
    unfolding missing rising
    all_of = got.same ∙ below_all points [] (flatten (faces_of def)) ∙ rw long

    pub checked-missing : r ≡ None → (Err NoSuchPoint) ≡ checked d ps def
    unfolding checked numbers_in refuse ◌>>=◌
    checked-missing e = by (missing ps def) refl
      where
        by : (m : Bool) → missing ps def ≡ m → Err NoSuchPoint ≡ (refuse WrongKind (wrong_kind d def) >>= λ _. refuse NoSuchPoint (missing ps def) >>= λ _. Ok (reference_of ps def))
        by true q = rw (← et, right, q)
        by false q = absurd (let h = rw (e, q) at all_of in let z : ◌≡◌ {A = ℕ} 0 1 = cc in omega arith)

    pub checked-point : (n : ℕ) (v : Vec3) → r ≡ Some n → v ≡ average ps (take n out) → (Ok v) ≡ checked d ps def
    unfolding checked numbers_in refuse ◌>>=◌ reference_of
    checked-point n v e ev = by (missing ps def) refl
      where
        by : (m : Bool) → missing ps def ≡ m → Ok v ≡ (refuse WrongKind (wrong_kind d def) >>= λ _. refuse NoSuchPoint (missing ps def) >>= λ _. Ok (average ps (rising (flatten (faces_of def)))))
        by true q = absurd (let h = rw (e, q) at all_of in let z : ◌≡◌ {A = ℕ} 0 1 = cc in omega arith)
        by false q =
            let h = rw (e, q) at all_of in
            let w : take n out ≡ rising (flatten (faces_of def)) = cc in
            rw (← et, right, q, ev, w)
