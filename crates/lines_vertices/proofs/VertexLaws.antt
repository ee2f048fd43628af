-- The vertices of a polygon are at most as many as its numbers: each side after the first begins at a number whose point is there already, and the
-- last one ends at one. Assumes nothing.
use Prim.Native.Nat.{ℕ, zero, suc, ◌+◌, ◌*◌, ◌≤◌, ◌<◌}
use native.Mathlib.Omega.{arith}
use mathlib.Core.Path.{◌≡◌, refl, sym, ap, ◌∙◌}
use mathlib.Core.Logic.{◌⊎◌, inl, inr}
use mathlib.Core.Bool.{Bool, true, false, cond, ◌&&◌}
use mathlib.Core.List.{List, [], ◌∷◌, ◌++◌, map}
use borrow.Author.Tests.{eq-eqb, ltb-false}
use lib.Dec.{ltb}
use lib.Ieee.{Float, nan, inf, fin, eq, up, down, of_bits}
use lib.ListN.{length, get_or, length-map, length-append, get_or-eq_default}
use Rattle.arith.specs.F64.{finite}
use Rattle.arith.specs.Lists.{fold, any_of, all_of, add_new, insert_before, sort, sorted, Side, sides_with, sides}
use Rattle.arith.specs.Vec.{origin, each3}
use Rattle.arith.specs.declared.Vec3.{Vec3}
use Rattle.arith.specs.declared.Vec2.{Vec2}
use Rattle.arith.proofs.All.{All}
use Rattle.arith.proofs.ListLaws.{length-sides}
use Rattle.arith.proofs.RecordLaws.{lt-or-ge}
use Rattle.mesh_area.specs.Tables.{Cell, Mesh, point_at, face_at, no_face, no_cell, cell_at}
use Rattle.case_definitions.specs.Faces.{Definition, polygon, solid, polyhedron, ends, faces_of}
use Rattle.mesh_points.specs.Collect.{wrong_kind}
use Rattle.mesh_cells.specs.Cells.{PartialCell, PartialMesh, partial_mesh}
use Rattle.lines_locate.specs.Locate.{xy_of}
use Rattle.lines_field.specs.Vertices.{alike, add_vertex, add_vertices, cell_vertices}
use Rattle.lines_field.specs.Ensures.{VertexLimit}
use Rattle.lines_vertices.proofs.Shapes.{key_in, Naming, Named, Over}
use Rattle.lines_vertices.proofs.TableLaws.{all-at, AllFaces}
use Rattle.lines_vertices.proofs.CellLaws.{cells-named, all_two}
use Rattle.std.specs.Prelude.{Ok}

-- ---- a list that grows only by what is new

any_append : {A : Type 0} (p : A → Bool) (l k : List A) → any_of p l ≡ true → any_of p (l ++ k) ≡ true
unfolding any_of
any_append p [] k e = absurd (let z : ◌≡◌ {A = ℕ} 0 1 = cc in omega arith)
any_append p (a ∷ l) k e = by (p a) (any_append p l k) e
  where
    by : (t : Bool) → (any_of p l ≡ true → any_of p (l ++ k) ≡ true) → elim t [ true ↦ true | false ↦ any_of p l ] ≡ true → elim t [ true ↦ true | false ↦ any_of p (l ++ k) ] ≡ true
    by true r e = refl
    by false r e = r e

any_last : {A : Type 0} (p : A → Bool) (l : List A) (a : A) → p a ≡ true → any_of p (l ++ a ∷ []) ≡ true
unfolding any_of
any_last p [] a e = rw (e, any_of)
any_last p (b ∷ l) a e = by (p b) (any_last p l a e)
  where
    by : (t : Bool) → any_of p (l ++ a ∷ []) ≡ true → elim t [ true ↦ true | false ↦ any_of p (l ++ a ∷ []) ] ≡ true
    by true r = refl
    by false r = r

module _ {A : Type 0} (like : A → A → Bool) where
  -- what is there is not added
  new-there : (l : List A) (a : A) → any_of (like a) l ≡ true → add_new like l a ≡ l
  unfolding add_new
  new-there l a e = rw e

  -- what was added is there
  new-here : (l : List A) (a : A) → like a a ≡ true → any_of (like a) (add_new like l a) ≡ true
  unfolding add_new
  new-here l a e = by (any_of (like a) l) refl
    where
      by : (t : Bool) → any_of (like a) l ≡ t → any_of (like a) (cond t l (l ++ a ∷ [])) ≡ true
      by true q = q
      by false q = any_last (like a) l a e

  -- what was there stays
  new-stays : (p : A → Bool) (l : List A) (a : A) → any_of p l ≡ true → any_of p (add_new like l a) ≡ true
  unfolding add_new
  new-stays p l a e = by (any_of (like a) l)
    where
      by : (t : Bool) → any_of p (cond t l (l ++ a ∷ [])) ≡ true
      by true = e
      by false = any_append p l (a ∷ []) e

  -- at most one more
  new-one : (l : List A) (a : A) → length (add_new like l a) ≤ length l + 1
  unfolding add_new
  new-one l a = by (any_of (like a) l)
    where
      by : (t : Bool) → length (cond t l (l ++ a ∷ [])) ≤ length l + 1
      by true = omega arith
      by false = omega (arith, length-append l (a ∷ []))

-- ---- a finite point is like itself

both : (a b : Bool) → a && b ≡ true → (a ≡ true) × (b ≡ true)
both true true e = (refl, refl)
both true false e = (refl, e)
both false b e = absurd (let z : ◌≡◌ {A = ℕ} 0 1 = cc in omega arith)

equals-self : (x : Float) → finite x ≡ true → eq x x ≡ true
unfolding finite eq
equals-self nan e = e
equals-self (inf s) e = absurd (let z : ◌≡◌ {A = ℕ} 0 1 = cc in omega arith)
equals-self (fin true m e) h = rw (eq-eqb (m * up e * down e) (m * up e * down e) refl)
equals-self (fin false m e) h = rw (eq-eqb (m * up e * down e) (m * up e * down e) refl)

alike_self : (p : Vec3) → each3 finite p ≡ true → alike (xy_of p) (xy_of p) ≡ true
unfolding each3 alike xy_of
alike_self p e =
    let a = both _ _ e in
    let b = both _ _ a.1 in
    rw (equals-self p.x a.0, equals-self p.y b.0)

all-finite : (p : Vec3 → Bool) (l : List Vec3) (i : ℕ) (d : Vec3) → p d ≡ true → all_of p l ≡ true → p (get_or l i d) ≡ true
unfolding all_of
all-finite p [] i d h e = h
all-finite p (a ∷ l) i d h e = by (p a) refl i (λ j r. all-finite p l j d h r) e
  where
    by : (t : Bool) → p a ≡ t → (i : ℕ) → ((j : ℕ) → all_of p l ≡ true → p (get_or l j d) ≡ true) → elim t [ true ↦ all_of p l | false ↦ false ] ≡ true
        → p (get_or (a ∷ l) i d) ≡ true
    by true q zero r e = q
    by true q (suc i) r e = r i e
    by false q i r e = absurd (let z : ◌≡◌ {A = ℕ} 0 1 = cc in omega arith)

origin-finite : each3 finite origin ≡ true
unfolding each3 finite of_bits
origin-finite = refl

pub points-alike : (ps : List Vec3) (i : ℕ) → all_of (each3 finite) ps ≡ true → alike (xy_of (point_at ps i)) (xy_of (point_at ps i)) ≡ true
unfolding point_at
points-alike ps i e = alike_self (get_or ps i origin) (all-finite (each3 finite) ps i origin origin-finite e)

-- ---- two vertices with the key of a side

Either : List ℕ → ℕ → ℕ → Type 0
Either v a b = (v ≡ a ∷ b ∷ []) ⊎ (v ≡ b ∷ a ∷ [])

sorted-two : (a b : ℕ) → Either (sorted (a ∷ b ∷ [])) a b
unfolding sorted sort fold insert_before Either
sorted-two a b = by (ltb b a)
  where
    by : (t : Bool) → Either (elim t [ true ↦ b ∷ a ∷ [] | false ↦ a ∷ b ∷ [] ]) a b
    by true = inr refl
    by false = inl refl

either-two : (v : List ℕ) (a b : ℕ) → length v ≡ 2 → sorted v ≡ sorted (a ∷ b ∷ []) → Either v a b
unfolding Either
either-two [] a b n e = absurd (omega arith)
either-two (x ∷ []) a b n e = absurd (omega arith)
either-two (x ∷ y ∷ []) a b n e = by (sorted-two x y) (sorted-two a b)
  where
    by : Either (sorted (x ∷ y ∷ [])) x y → Either (sorted (a ∷ b ∷ [])) a b → Either (x ∷ y ∷ []) a b
    by (inl p) (inl q) = inl (sym p ∙ e ∙ q)
    by (inl p) (inr q) = inr (sym p ∙ e ∙ q)
    by (inr p) (inl q) = let w : y ∷ x ∷ [] ≡ a ∷ b ∷ [] = sym p ∙ e ∙ q in inr (cc)
    by (inr p) (inr q) = let w : y ∷ x ∷ [] ≡ b ∷ a ∷ [] = sym p ∙ e ∙ q in inl (cc)
either-two (x ∷ y ∷ z ∷ v) a b n e = absurd (omega arith)

-- ---- the vertices that a side adds

-- the point of this number is among the vertices
abbrev Has : Mesh → List Vec2 → ℕ → Type 0
Has m l p = any_of (alike (xy_of (point_at m.points p))) l ≡ true

-- what a face that is the side from a to b does to the vertices
record Adds (m : Mesh) (f a b : ℕ) : Type 0 where
  start : (l : List Vec2) → Has m (add_vertices m l f) a
  end : (l : List Vec2) → Has m (add_vertices m l f) b
  stays : (l : List Vec2) (p : ℕ) → Has m l p → Has m (add_vertices m l f) p
  two : (l : List Vec2) → length (add_vertices m l f) ≤ length l + 2
  one : (l : List Vec2) → Has m l a → length (add_vertices m l f) ≤ length l + 1
  none : (l : List Vec2) → Has m l a → Has m l b → length (add_vertices m l f) ≤ length l

module _ (m : Mesh) (whole : all_of (each3 finite) m.points ≡ true) where
  vertex-here : (l : List Vec2) (p : ℕ) → Has m (add_vertex m l p) p
  unfolding add_vertex
  vertex-here l p = new-here alike l (xy_of (point_at m.points p)) (points-alike m.points p whole)

  vertex-stays : (l : List Vec2) (p q : ℕ) → Has m l p → Has m (add_vertex m l q) p
  unfolding add_vertex
  vertex-stays l p q h = new-stays alike (alike (xy_of (point_at m.points p))) l (xy_of (point_at m.points q)) h

  vertex-there : (l : List Vec2) (p : ℕ) → Has m l p → add_vertex m l p ≡ l
  unfolding add_vertex
  vertex-there l p h = new-there alike l (xy_of (point_at m.points p)) h

  vertex-one : (l : List Vec2) (p : ℕ) → length (add_vertex m l p) ≤ length l + 1
  unfolding add_vertex
  vertex-one l p = new-one alike l (xy_of (point_at m.points p))

  -- in either order
  vertices-two : (f x y : ℕ) → (face_at m.faces f).vertices ≡ x ∷ y ∷ [] → (l : List Vec2) → add_vertices m l f ≡ add_vertex m (add_vertex m l x) y
  unfolding add_vertices fold
  vertices-two f x y e l = rw e

  adds : (f a b : ℕ) → Either (face_at m.faces f).vertices a b → Adds m f a b
  unfolding Either
  adds f a b (inl e) =
      let w = vertices-two f a b e in
      record {
        start = λ l. rw (w l) (vertex-stays (add_vertex m l a) a b (vertex-here l a));
        end = λ l. rw (w l) (vertex-here (add_vertex m l a) b);
        stays = λ l p h. rw (w l) (vertex-stays (add_vertex m l a) p b (vertex-stays l p a h));
        two = λ l. rw (w l) (omega (arith, vertex-one (add_vertex m l a) b, vertex-one l a));
        one = λ l h. rw (w l, vertex-there l a h) (vertex-one l b);
        none = λ l h g. rw (w l, vertex-there l a h, vertex-there l b g) (omega arith);
      }
  adds f a b (inr e) =
      let w = vertices-two f b a e in
      record {
        start = λ l. rw (w l) (vertex-here (add_vertex m l b) a);
        end = λ l. rw (w l) (vertex-stays (add_vertex m l b) b a (vertex-here l b));
        stays = λ l p h. rw (w l) (vertex-stays (add_vertex m l b) p a (vertex-stays l p b h));
        two = λ l. rw (w l) (omega (arith, vertex-one (add_vertex m l b) a, vertex-one l b));
        one = λ l h. rw (w l, vertex-there (add_vertex m l b) a (vertex-stays l a b h)) (vertex-one l b);
        none = λ l h g. rw (w l, vertex-there l b g, vertex-there l a h) (omega arith);
      }

-- ---- the sides in a row

-- each face of a cell is a side
abbrev AddsAll : Mesh → List ℕ → List (Side ℕ) → Type 0
AddsAll m [] [] = Unit
AddsAll m [] (s ∷ ss) = ⊥
AddsAll m (f ∷ fs) [] = ⊥
AddsAll m (f ∷ fs) (s ∷ ss) = Adds m f s.from s.to × AddsAll m fs ss

-- from a number that is there, through k, to one that is there
chain : (m : Mesh) (k : List ℕ) (a z : ℕ) (fs : List ℕ) (l : List Vec2) → AddsAll m fs (sides_with (a ∷ k) (k ++ z ∷ [])) → Has m l a → Has m l z
    → length (fold (add_vertices m) l fs) ≤ length l + length k
unfolding sides_with fold
chain m [] a z [] l r h g = absurd r
chain m [] a z (f ∷ []) l r h g = omega (arith, r.0.none l h g)
chain m [] a z (f ∷ e ∷ fs) l r h g = absurd r.1
chain m (b ∷ k) a z [] l r h g = absurd r
chain m (b ∷ k) a z (f ∷ fs) l r h g =
    let s = r.0 in
    let n = chain m k b z fs (add_vertices m l f) r.1 (s.end l) (s.stays l z g) in
    omega (arith, s.one l h)

-- all round
round : (m : Mesh) (l fs : List ℕ) → 2 ≤ length l → AddsAll m fs (sides l) → length (fold (add_vertices m) [] fs) ≤ length l
unfolding sides sides_with fold
round m [] fs n r = absurd (omega arith)
round m (a ∷ []) fs n r = absurd (omega arith)
round m (a ∷ b ∷ k) [] n r = absurd r
round m (a ∷ b ∷ k) (f ∷ fs) n r =
    let s = r.0 in
    let c = chain m k b a fs (add_vertices m [] f) r.1 (s.end []) (s.start []) in
    omega (arith, s.two [])

-- ---- the polygon of a cell

adds-all : (m : Mesh) → all_of (each3 finite) m.points ≡ true → AllFaces (λ v. length v ≡ 2) m.faces → (fs : List ℕ) (ss : List (Side ℕ))
    → All (λ n. n < length m.faces) fs → map (key_in m.faces) fs ≡ map sorted (map ends ss) → AddsAll m fs ss
unfolding ends key_in face_at
adds-all m whole two [] [] b e = tt
adds-all m whole two [] (s ∷ ss) b e = let n : 0 ≡ suc (length (map sorted (map ends ss))) = ap length e in omega arith
adds-all m whole two (f ∷ fs) [] b e = let n : suc (length (map (key_in m.faces) fs)) ≡ 0 = ap length e in omega arith
adds-all m whole two (f ∷ fs) (s ∷ ss) b e =
    let key : sorted (get_or m.faces f no_face).vertices ≡ sorted (s.from ∷ s.to ∷ []) = cc in
    let rest : map (key_in m.faces) fs ≡ map sorted (map ends ss) = cc in
    let n : length (get_or m.faces f no_face).vertices ≡ 2 = all-at (λ f. length f.vertices ≡ 2) m.faces f no_face b.0 two in
    (adds m whole f s.from s.to (either-two (get_or m.faces f no_face).vertices s.from s.to n key), adds-all m whole two fs ss b.1 rest)

-- at most as many vertices as sides
cell-vertices : (m : Mesh) → all_of (each3 finite) m.points ≡ true → AllFaces (λ v. length v ≡ 2) m.faces → (def : Definition) (fs : List ℕ) → wrong_kind 2 def ≡ false
    → Naming m.faces fs (faces_of def) → length (fold (add_vertices m) [] fs) ≤ length (faces_of def)
unfolding wrong_kind faces_of
cell-vertices m whole two (polygon l) fs k n =
    let long : 3 ≤ length l = ltb-false (length l) 3 k in
    let r = round m l fs (omega arith) (adds-all m whole two fs (sides l) n.below n.keys) in
    omega (arith, length-map (sides l) ends, length-sides l)
cell-vertices m whole two (solid places l) fs k n = absurd (let z : ◌≡◌ {A = ℕ} 0 1 = cc in omega arith)
cell-vertices m whole two (polyhedron faces) fs k n = absurd (let z : ◌≡◌ {A = ℕ} 0 1 = cc in omega arith)

past : (cells : List Cell) (i : ℕ) → length cells ≤ i → cell_at cells i ≡ no_cell
unfolding cell_at
past cells i b = get_or-eq_default cells no_cell b

-- the vertices of one cell
pub vertices-of-cell : (d : ℕ) (ps : List Vec3) (defs : List Definition) (t : PartialMesh) (m : Mesh) (c : Cell) (i : ℕ) (none : PartialCell) → d ≡ 2 → partial_mesh d ps defs ≡ Ok t
    → all_of (each3 finite) ps ≡ true → m.points ≡ ps → m.faces ≡ t.faces → i < length t.cells → c.faces ≡ (get_or t.cells i none).faces
    → length (cell_vertices m c) ≤ length (faces_of (get_or t.cells i none).definition)
unfolding cell_vertices
vertices-of-cell d ps defs t m c i none two e whole points faces b own =
    let n = all-at (Named d t.faces) t.cells i none b (cells-named d ps defs t e) in
    let pairs : AllFaces (λ v. length v ≡ 2) m.faces = rw faces (all_two d ps defs t two e) in
    let right : all_of (each3 finite) m.points ≡ true = rw points whole in
    let kind : wrong_kind 2 (get_or t.cells i none).definition ≡ false = rw two at n.kind in
    let naming : Naming m.faces (get_or t.cells i none).faces (faces_of (get_or t.cells i none).definition) = rw faces n.faces in
    rw own (cell-vertices m right pairs (get_or t.cells i none).definition (get_or t.cells i none).faces kind naming)

-- a cell that is not there has no vertex
no-vertices : (m : Mesh) → length (cell_vertices m no_cell) ≡ 0
unfolding cell_vertices fold
no-vertices m = refl

-- "0 has a count (at most 24)": so has its polygon
pub few-polygon-vertices : (d : ℕ) (ps : List Vec3) (defs : List Definition) (t : PartialMesh) (m : Mesh) (none : PartialCell) → d ≡ 2 → partial_mesh d ps defs ≡ Ok t
    → all_of (each3 finite) ps ≡ true → ((i : ℕ) → i < length t.cells → length (faces_of (get_or t.cells i none).definition) ≤ 24) → Over ps t none m → VertexLimit m
few-polygon-vertices d ps defs t m none two e whole few o = record { vertices = λ i. by i (lt-or-ge i (length t.cells)) }
  where
    by : (i : ℕ) → (i < length t.cells) ⊎ (length t.cells ≤ i) → length (cell_vertices m (cell_at m.cells i)) ≤ 24
    by i (inl b) =
        let h = vertices-of-cell d ps defs t m (cell_at m.cells i) i none two e whole o.points o.faces b (o.numbers i b) in omega (arith, few i b)
    by i (inr b) = rw (past m.cells i (omega (arith, o.count))) (omega (arith, no-vertices m))
