-- One face more: it has the vertices of the definition's face, as they stand or turned, and no other face changes its own. Assumes nothing.
use Prim.Native.Nat.{ℕ, zero, suc, ◌-◌, ◌≤◌, ◌<◌}
use native.Mathlib.Decide.{ℕ_discrete}
use native.Mathlib.Omega.{arith}
use mathlib.Core.Path.{◌≡◌, refl, sym, ap, ◌∙◌}
use mathlib.Core.Bool.{Bool, true, false, cond}
use mathlib.Core.List.{List, [], ◌∷◌, ◌++◌, reverse}
use lib.ListN.{length, get_or, set, length-append, length-set, length-reverse, get_or-append}
use lib.Seq.{get_or-set_same, get_or-set_other, get_or-append_seam}
use Rattle.arith.specs.Lists.{first_from, sorted}
use Rattle.arith.specs.declared.Vec3.{Vec3}
use Rattle.arith.proofs.All.{All, all_append, all_set}
use Rattle.reading.specs.Result.{Refusable}
use Rattle.reading.proofs.ResultLaws.{bound}
use Rattle.mesh_area.specs.Tables.{Face, face_at, no_face}
use Rattle.mesh_geometry.specs.Faces.{enough, face_area_vector, Oriented, face_with, measured, inward, turned_if, oriented_face}
use Rattle.mesh_keys.proofs.OrderLaws.{sorted-reverse}
use Rattle.mesh_keys.proofs.KeyLaws.{same_true}
use Rattle.mesh_geometry.specs.declared.FaceGeometry.{FaceGeometry}
use Rattle.mesh_faces.specs.Table.{has_key, face_with_key, new_face, with_neighbour, joining, settled, use_face, NumberedFace, numbered_face, add_face}
use Rattle.mesh_faces.proofs.AnswerLaws.{first_below}
use Rattle.lines_vertices.proofs.Shapes.{key_in, Turned, Later, Placing}
use Rattle.std.specs.Prelude.{Some, None, Ok, Err}
use Rattle.std.specs.declared.option.Option.{Option}
use Rattle.refusal.specs.declared.Refusal.{Refusal}
use Rattle.refusal.specs.declared.Refusal.TheVariants.{DegenerateFace}

-- ---- the vertices of a face that is turned outward

-- a choice that was not refused
chosen : {A : Type 0} (t : Bool) (r : Refusable A) (n : Refusal) (a : A) → cond t r (Err n) ≡ Ok a → t ≡ true
chosen true r n a e = refl
chosen false r n a e = absurd (let z : ◌≡◌ {A = ℕ} 0 1 = cc in omega arith)

-- what is measured has its own vertices, and enough of them
record Measures (d : ℕ) (l : List ℕ) (o : Oriented) : Type 0 where
  same : o.vertices ≡ l
  many : enough d l ≡ true

measures : (d : ℕ) (ps : List Vec3) (l : List ℕ) (o : Oriented) → measured d ps l ≡ Ok o → Measures d l o
unfolding measured face_area_vector face_with
measures d ps l o e =
    let b = bound _ _ _ e in
    let w : face_with ps l b.value ≡ o = cc b.then in
    record { same = ap (λ (f : Oriented). f.vertices) (sym w); many = chosen (enough d l) _ DegenerateFace _ b.had }

pub turned : (d : ℕ) (ps : List Vec3) (reference : Vec3) (l : List ℕ) (o : Oriented) → oriented_face d ps reference l ≡ Ok o → Turned d l o.vertices
unfolding oriented_face turned_if
turned d ps reference l o e =
    let b = bound _ _ _ e in by (measures d ps l b.value b.had) (inward reference b.value) b.then
  where
    by : {f : Oriented} → Measures d l f → (t : Bool) → turned_if t d ps f ≡ Ok o → Turned d l o.vertices
    by {f} m true q =
        let n = measures d ps (reverse f.vertices) o q in
        let r : o.vertices ≡ reverse l = n.same ∙ ap reverse m.same in
        record {
          key = ap sorted r ∙ sorted-reverse l;
          long = ap length r ∙ length-reverse l;
          many = ap (enough d) n.same ∙ n.many;
        }
    by {f} m false q =
        let w : f ≡ o = cc in
        let r : o.vertices ≡ l = ap (λ (f : Oriented). f.vertices) (sym w) ∙ m.same in
        record { key = ap sorted r; long = ap length r; many = ap (enough d) r ∙ m.many }

-- ---- the table

-- the element that is found passes
record Passes {A : Type 0} (p : A → Bool) (k : ℕ) (l : List A) (i : ℕ) (d : A) : Type 0 where
  low : k ≤ i
  passes : p (get_or l (i - k) d) ≡ true

first_passes : {A : Type 0} (p : A → Bool) (k : ℕ) (l : List A) (i : ℕ) (d : A) → first_from p k l ≡ Some i → Passes p k l i d
unfolding first_from
first_passes p k [] i d e = absurd (let z : ◌≡◌ {A = ℕ} 0 1 = cc in omega arith)
first_passes p k (a ∷ l) i d e = by (p a) refl (first_passes p (suc k) l i d) e
  where
    by : (t : Bool) → p a ≡ t → (first_from p (suc k) l ≡ Some i → Passes p (suc k) l i d) → elim t [ true ↦ Some k | false ↦ first_from p (suc k) l ] ≡ Some i
        → Passes p k (a ∷ l) i d
    by true q r e =
        let w : k ≡ i = cc in
        let z : i - k ≡ 0 = omega arith in
        record { low = omega arith; passes = rw z q }
    by false q r e =
        let h = r e in
        let w = h.low in
        let z : i - k ≡ suc (i - suc k) = omega arith in
        record { low = omega arith; passes = rw z h.passes }

pub later-self : (fs : List Face) → Later fs fs
later-self fs = record { more = omega arith; stays = λ i b. refl }

pub later_more : (fs gs hs : List Face) → Later fs gs → Later gs hs → Later fs hs
later_more fs gs hs a b =
    record { more = omega (arith, a.more, b.more); stays = λ i h. b.stays i (omega (arith, a.more)) ∙ a.stays i h }

-- a new face
placing-new : (fs : List Face) (f : Face) → Placing fs (fs ++ f ∷ []) f.vertices (length fs)
unfolding key_in face_at
placing-new fs f =
    let n = length-append fs (f ∷ []) in
    record {
      later = record { more = omega arith; stays = λ i h. ap (λ (g : Face). g.vertices) (get_or-append fs (f ∷ []) no_face i h) };
      below = omega arith;
      key = ap (λ (g : Face). sorted g.vertices) (get_or-append_seam fs f [] no_face);
    }

-- a face that is there gets its second cell
joined_same : (cell : ℕ) (fs : List Face) (i : ℕ) → i < length fs → (j : ℕ) → (face_at (set fs i (with_neighbour cell (face_at fs i))) j).vertices ≡ (face_at fs j).vertices
unfolding face_at with_neighbour
joined_same cell fs i h j = by (ℕ_discrete j i)
  where
    by : Dec (j ≡ i) → (get_or (set fs i (with_neighbour cell (get_or fs i no_face))) j no_face).vertices ≡ (get_or fs j no_face).vertices
    by (yes e) = rw (e, get_or-set_same fs i (with_neighbour cell (get_or fs i no_face)) no_face h)
    by (no ne) = rw (get_or-set_other fs i j (with_neighbour cell (get_or fs i no_face)) no_face ne)

placing-joined : (cell : ℕ) (fs : List Face) (i : ℕ) (v : List ℕ) → i < length fs → key_in fs i ≡ sorted v → Placing fs (set fs i (with_neighbour cell (face_at fs i))) v i
unfolding key_in
placing-joined cell fs i v h e =
    let n = length-set fs i (with_neighbour cell (face_at fs i)) in
    record {
      later = record { more = omega arith; stays = λ j b. joined_same cell fs i h j };
      below = omega arith;
      key = ap sorted (joined_same cell fs i h i) ∙ e;
    }

-- an element that is there
pub all-at : {A : Type 0} (P : A → Type 0) (l : List A) (i : ℕ) (d : A) → i < length l → All P l → P (get_or l i d)
all-at P [] i d b h = absurd (omega arith)
all-at P (a ∷ l) zero d b h = h.0
all-at P (a ∷ l) (suc i) d b h = all-at P l i d (omega arith) h.1

-- the face that the lookup finds
record Finds (key : List ℕ) (fs : List Face) (i : ℕ) : Type 0 where
  below : i < length fs
  same : key_in fs i ≡ key

finds : (key : List ℕ) (fs : List Face) (i : ℕ) → face_with_key key fs ≡ Some i → Finds key fs i
unfolding face_with_key has_key key_in face_at
finds key fs i e =
    let b = first_below (has_key key) 0 fs i e in
    let z : i - 0 ≡ i = omega arith in
    record { below = omega arith; same = same_true _ _ (rw z at (first_passes (has_key key) 0 fs i no_face e).passes) }

-- every face of a table has vertices with the property
abbrev pub AllFaces : (List ℕ → Type 0) → List Face → Type 0
AllFaces P fs = All (λ f. P f.vertices) fs

module _ (cell : ℕ) (v : List ℕ) (m : FaceGeometry) (fs : List Face) (p : NumberedFace) where
  Places : Refusable NumberedFace → Type 0
  Places r = r ≡ Ok p → Placing fs p.faces v p.number

  joins : (n : Option ℕ) (i : ℕ) → Finds (sorted v) fs i → Places (numbered_face (joining n cell fs i).answer (joining n cell fs i).faces)
  unfolding joining numbered_face Places
  joins None i f e =
      let w : record { faces = set fs i (with_neighbour cell (face_at fs i)); number = i } ≡ p = cc in
      rw (← w) (placing-joined cell fs i v f.below f.same)
  joins (Some n) i f e = absurd (let z : ◌≡◌ {A = ℕ} 0 1 = cc in omega arith)

  settles : (r : Option ℕ) → face_with_key (sorted v) fs ≡ r → Places (numbered_face (settled r cell v m fs).answer (settled r cell v m fs).faces)
  unfolding settled numbered_face Places new_face
  settles None q e =
      let w : record { faces = fs ++ new_face cell v m ∷ []; number = length fs } ≡ p = cc in
      rw (← w) (placing-new fs (new_face cell v m))
  settles (Some i) q e = joins (face_at fs i).neighbour i (finds (sorted v) fs i q) e

  pub placing : add_face cell v m fs ≡ Ok p → Placing fs p.faces v p.number
  unfolding add_face use_face Places
  placing e = settles (face_with_key (sorted v) fs) refl e

  module _ (P : List ℕ → Type 0) (new : P v) (old : AllFaces P fs) where
    Passing : Refusable NumberedFace → Type 0
    Passing r = r ≡ Ok p → AllFaces P p.faces

    joins-all : (n : Option ℕ) (i : ℕ) → i < length fs → Passing (numbered_face (joining n cell fs i).answer (joining n cell fs i).faces)
    unfolding joining numbered_face Passing with_neighbour face_at
    joins-all None i b e =
        let w : record { faces = set fs i (with_neighbour cell (face_at fs i)); number = i } ≡ p = cc in
        rw (← w) (all_set (λ f. P f.vertices) fs i (with_neighbour cell (face_at fs i)) (all-at (λ f. P f.vertices) fs i no_face b old) old)
    joins-all (Some n) i b e = absurd (let z : ◌≡◌ {A = ℕ} 0 1 = cc in omega arith)

    settles-all : (r : Option ℕ) → face_with_key (sorted v) fs ≡ r → Passing (numbered_face (settled r cell v m fs).answer (settled r cell v m fs).faces)
    unfolding settled numbered_face Passing new_face
    settles-all None q e =
        let w : record { faces = fs ++ new_face cell v m ∷ []; number = length fs } ≡ p = cc in
        rw (← w) (all_append (λ f. P f.vertices) fs (new_face cell v m ∷ []) old (new, tt))
    settles-all (Some i) q e = joins-all (face_at fs i).neighbour i (finds (sorted v) fs i q).below e

    pub placing-all : add_face cell v m fs ≡ Ok p → AllFaces P p.faces
    unfolding add_face use_face Passing
    placing-all e = settles-all (face_with_key (sorted v) fs) refl e
