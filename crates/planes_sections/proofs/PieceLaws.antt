-- The piece of a cell: by its points, by its signs, and whatever the area's measures are. Assumes nothing.
use Prim.Native.Nat.{ℕ, ◌≤◌, ◌<◌}
use native.Mathlib.Omega.{arith}
use mathlib.Core.Path.{◌≡◌, refl, ap, sym, ◌∙◌, fun_ext}
use mathlib.Core.Logic.{⊎_elim, ◌⊎◌, inl, inr}
use mathlib.Core.Bool.{Bool, true, false, cond, ◌&&◌, ◌||◌, true≢false}
use mathlib.Core.List.{List, [], ◌∷◌, ◌++◌}
use lib.ListN.{length, drop}
use lib.Ieee.{Float}
use borrow.Author.Tests.{lt-leb, le-leb}
use Rattle.arith.specs.Lists.{fold, any_of, only, sort, sides_with, sides, windows}
use Rattle.arith.specs.Records.{tab}
use Rattle.arith.specs.declared.Vec3.{Vec3}
use Rattle.arith.proofs.All.{All, all_append}
use Rattle.arith.proofs.RecordLaws.{lt-or-ge}
use Rattle.mesh_area.specs.declared.Sizes.{Sizes}
use Rattle.mesh_area.specs.Tables.{Mesh, Face, Cell, point_at, face_at, cell_at}
use Rattle.mesh_area.specs.Layout.{mesh_in, faces_in, cells_in, face_in, cell_in, mesh_words, mesh_floats, points_in}
use Rattle.mesh_area.proofs.LayoutLaws.{face-in, face-out, cell-in, cell-out}
use Rattle.planes_cut.specs.declared.Cut.{Cut}
use Rattle.planes_cut.specs.declared.Signs.{Signs}
use Rattle.planes_crossings.proofs.HeldLaws.{held-left, length-held, rest-same, rest-as}
use Rattle.planes_cut.specs.Cut.{near, below, above}
use Rattle.planes_crossings.specs.Crossings.{rises, parted, add_end, add_between, add_crossing, on_plane, foreign, add_side, add_face, crossings}
use Rattle.planes_sections.specs.Intersect.{earlier_on, add_area, area_of, section_centre, wide, piece_about, piece_of}
use Rattle.planes_crossings.specs.Ensures.{slice_points, point_in, SlicesKept, MeshLimits}
use Rattle.planes_cut.specs.Ensures.{sign_with, add_sign, face_signs, signs_of, no_signs, may_meet, bare}
use Rattle.planes_sections.specs.Ensures.{piece_in, vertices_of, arranged_about, arranged_of, FrontPoints, PieceAboutExit, PieceOfExit}
use Rattle.std.specs.Prelude.{Some, None}
use Rattle.std.specs.declared.option.Option.{Option}

-- ---- the area of a polygon, from the first point

pub area-start : (x y z : List Float) (n : ℕ) (o : Vec3) → 1 ≤ n → o ≡ point_in x y z 0 →
    fold (add_area o) (Rattle.arith.specs.F64.0·0) (windows (drop 1 (slice_points x y z n))) ≡ area_of (slice_points x y z n)
unfolding area_of
area-start x y z n o h e =
    rw e (sym (ap area_of (held-left x y z n 0 (omega arith)).left))

-- ---- the piece of some points

pub laid_nil : (x y z : List Float) → FrontPoints [] x y z x y z
unfolding slice_points tab
laid_nil x y z = record { list = refl; rest = rest-same }

laid-first : {l : List Vec3} {x y z x' y' z' : List Float} (n : ℕ) → slice_points x' y' z' n ≡ l → SlicesKept x y z x' y' z' n → FrontPoints l x y z x' y' z'
laid-first {l} {x} {y} {z} {x'} {y'} {z'} n e h =
    let k : n ≡ length l = sym (length-held x' y' z' n) ∙ ap length e in
    record { list = rw k at e; rest = rest-as k h }

module _ (c : Cut) (l : List Vec3) (n : ℕ) (len : n ≡ length l) where
  pub piece-few : (x y z : List Float) → n < 3 → PieceAboutExit c l None x y z x y z
  unfolding piece_about arranged_about piece_in only vertices_of
  piece-few x y z h =
      record {
        piece = λ cell. rw (← len, lt-leb 3 n h);
        few = omega arith;
        full = tt;
        laid = rw (← len, lt-leb 3 n h) (laid_nil x y z);
      }

  module _ {x₀ y₀ z₀ x y z : List Float} (centre : Vec3) (ec : centre ≡ section_centre l) (el : slice_points x y z n ≡ sort (earlier_on c.plane centre) l) (er : SlicesKept x₀ y₀ z₀ x y z n)
      (three : 3 ≤ n) (t : Bool) (et : t ≡ wide c (slice_points x y z n)) where
    laid-all : FrontPoints (arranged_about c l) x₀ y₀ z₀ x y z
    unfolding arranged_about
    laid-all = rw (← len, le-leb 3 n three, ← ec) (laid-first n el er)

    pub piece-wide : t ≡ true → n ≤ 192 → PieceAboutExit c l (Some (centre, n)) x₀ y₀ z₀ x y z
    unfolding piece_about piece_in only vertices_of
    piece-wide h b =
        record {
          piece = λ cell. rw (← ec, ← el, ← len, le-leb 3 n three, sym et ∙ h);
          few = b;
          full = three;
          laid = laid-all;
        }

    pub piece-flat : t ≡ false → PieceAboutExit c l None x₀ y₀ z₀ x y z
    unfolding piece_about piece_in only vertices_of
    piece-flat h =
        record {
          piece = λ cell. rw (← ec, ← el, ← len, le-leb 3 n three, sym et ∙ h);
          few = omega arith;
          full = tt;
          laid = laid-all;
        }

-- ---- the piece of a cell

module _ (m : Mesh) (c : Cut) (cell : ℕ) where
  pub piece-foreign : (x y z : List Float) (t : Bool) → t ≡ any_of (foreign m c cell) (cell_at m.cells cell).faces → t ≡ true → PieceOfExit m c cell None x y z x y z
  unfolding piece_of arranged_of piece_in vertices_of
  piece-foreign x y z t e h = record { piece = rw (sym e ∙ h); few = omega arith; full = tt; laid = rw (sym e ∙ h) (laid_nil x y z) }

  pub piece-met : {x₀ y₀ z₀ x y z : List Float} (t : Bool) (l : List Vec3) (r : Option (Vec3 × ℕ)) → t ≡ any_of (foreign m c cell) (cell_at m.cells cell).faces → t ≡ false →
      l ≡ crossings m c (cell_at m.cells cell).faces → PieceAboutExit c l r x₀ y₀ z₀ x y z → PieceOfExit m c cell r x₀ y₀ z₀ x y z
  unfolding piece_of arranged_of
  piece-met t l r e h el p =
      record { piece = rw (sym e ∙ h, ← el) (p.piece cell); few = p.few; full = p.full; laid = rw (sym e ∙ h, ← el) p.laid }

-- ---- by its signs

or-false : (a b : Bool) → (a || b) ≡ false → (a ≡ false) × (b ≡ false)
or-false true b e = absurd (true≢false e)
or-false false b e = (refl, e)

and-false : (a b : Bool) → (a && b) ≡ false → (a ≡ false) ⊎ (b ≡ false)
and-false true b e = inr e
and-false false b e = inl refl

and_none : (a : Bool) → (a && false) ≡ false
and_none true = refl
and_none false = refl

-- a flag that is clear after all elements was clear before each
flag-clear : {A : Type 0} (f : Signs → A → Signs) (flag : Signs → Bool) (P : A → Type 0) → ((g : Signs) (a : A) → flag (f g a) ≡ false → (flag g ≡ false) × P a) →
    (g : Signs) (l : List A) → flag (fold f g l) ≡ false → (flag g ≡ false) × All P l
unfolding fold
flag-clear f flag P h g [] e = (e, tt)
flag-clear f flag P h g (a ∷ l) e =
    let r = flag-clear f flag P h (f g a) l e in
    let q = h g a r.0 in
    (q.0, (q.1, r.1))

all_both : {A : Type 0} (P Q : A → Type 0) (l : List A) → All P l → All Q l → All (λ a. P a × Q a) l
all_both P Q [] p q = tt
all_both P Q (a ∷ l) p q = ((p.0, q.0), all_both P Q l p.1 q.1)

all-sides_with : {A : Type 0} (P : A → Type 0) (l k : List A) → All P l → All P k → All (λ s. P s.from × P s.to) (sides_with l k)
unfolding sides_with
all-sides_with P [] k p q = tt
all-sides_with P (a ∷ l) [] p q = tt
all-sides_with P (a ∷ l) (b ∷ k) p q = ((p.0, q.0), all-sides_with P l k p.1 q.1)

all-sides : {A : Type 0} (P : A → Type 0) (l : List A) → All P l → All (λ s. P s.from × P s.to) (sides l)
unfolding sides
all-sides P [] p = tt
all-sides P (a ∷ l) p = all-sides_with P (a ∷ l) (l ++ a ∷ []) p (all_append P l (a ∷ []) p.1 (p.0, tt))

fold_stays : {A B : Type 0} (f : B → A → B) (s : B) (P : A → Type 0) → ((a : A) → P a → f s a ≡ s) → (l : List A) → All P l → fold f s l ≡ s
unfolding fold
fold_stays f s P h [] p = refl
fold_stays f s P h (a ∷ l) p = ap (λ t. fold f t l) (h a p.0) ∙ fold_stays f s P h l p.1

module _ (m : Mesh) (c : Cut) where
  -- no point of a face passes a test
  abbrev Without : (Vec3 → Type 0) → ℕ → Type 0
  Without Q f = All (λ v. Q (point_at m.points v)) (face_at m.faces f).vertices

  signs-clear : (flag : Signs → Bool) (test : Vec3 → Bool) → ((g : Signs) (p : Vec3) → flag (sign_with c g p) ≡ (flag g || test p)) →
      (g : Signs) (fs : List ℕ) → flag (fold (face_signs m c) g fs) ≡ false → (flag g ≡ false) × All (Without (λ p. test p ≡ false)) fs
  signs-clear flag test h g fs e =
      flag-clear (face_signs m c) flag (Without (λ p. test p ≡ false))
      (λ g f. unfold face_signs in flag-clear (add_sign m c) flag (λ v. test (point_at m.points v) ≡ false)
      (λ g v w. unfold add_sign in or-false (flag g) (test (point_at m.points v)) (sym (h g (point_at m.points v)) ∙ w)) g (face_at m.faces f).vertices)
      g fs e

  -- what no side meets
  none-met : (Q : Vec3 → Type 0) → ((a b : Vec3) (l : List Vec3) → Q a → Q b → add_crossing c l a b ≡ l) → (fs : List ℕ) → All (Without Q) fs → crossings m c fs ≡ []
  unfolding crossings add_face add_side
  none-met Q h fs p =
      fold_stays (add_face m c) [] (Without Q)
      (λ f q. fold_stays (add_side m c) [] (λ s. Q (point_at m.points s.from) × Q (point_at m.points s.to))
      (λ s w. h (point_at m.points s.from) (point_at m.points s.to) [] w.0 w.1)
      (sides (face_at m.faces f).vertices) (all-sides (λ v. Q (point_at m.points v)) (face_at m.faces f).vertices q))
      fs p

  all_without : (P Q : Vec3 → Type 0) (fs : List ℕ) → All (Without P) fs → All (Without Q) fs → All (Without (λ p. P p × Q p)) fs
  all_without P Q [] p q = tt
  all_without P Q (f ∷ fs) p q =
      (all_both (λ v. P (point_at m.points v)) (λ v. Q (point_at m.points v)) (face_at m.faces f).vertices p.0 q.0, all_without P Q fs p.1 q.1)

  not-below : (a b : Vec3) (l : List Vec3) → (near c a ≡ false) × (below c a ≡ false) → (near c b ≡ false) × (below c b ≡ false) → add_crossing c l a b ≡ l
  unfolding add_crossing add_end add_between parted rises
  not-below a b l p q = rw (p.0, p.1, q.1)

  not-above : (a b : Vec3) (l : List Vec3) → (near c a ≡ false) × (above c a ≡ false) → (near c b ≡ false) × (above c b ≡ false) → add_crossing c l a b ≡ l
  unfolding add_crossing add_end add_between parted rises
  not-above a b l p q = rw (p.0, p.1, q.1, and_none (below c a), and_none (below c b))

  -- a cell all of whose points lie beyond the tolerance on one side has no piece
  pub unmet : (cell : ℕ) → may_meet (signs_of m c cell) ≡ false → crossings m c (cell_at m.cells cell).faces ≡ []
  unfolding may_meet signs_of
  unmet cell e =
      let fs = (cell_at m.cells cell).faces in
      let r = or-false (fold (face_signs m c) no_signs fs).near _ e in
      let n = signs-clear (λ g. g.near) (near c) (λ g p. unfold sign_with in refl) no_signs fs r.0 in
      ⊎_elim
      (λ b. none-met (λ p. (near c p ≡ false) × (below c p ≡ false)) not-below fs (all_without (λ p. near c p ≡ false) (λ p. below c p ≡ false) fs n.1 (signs-clear (λ g. g.below) (below c) (λ g p. unfold sign_with in refl) no_signs fs b).1))
      (λ a. none-met (λ p. (near c p ≡ false) × (above c p ≡ false)) not-above fs (all_without (λ p. near c p ≡ false) (λ p. above c p ≡ false) fs n.1 (signs-clear (λ g. g.above) (above c) (λ g p. unfold sign_with in refl) no_signs fs a).1))
      (and-false (fold (face_signs m c) no_signs fs).below (fold (face_signs m c) no_signs fs).above r.1)

  pub piece-unmet : (cell : ℕ) (x y z : List Float) (t : Bool) → t ≡ may_meet (signs_of m c cell) → t ≡ false → PieceOfExit m c cell None x y z x y z
  unfolding piece_of piece_about arranged_of arranged_about piece_in only vertices_of
  piece-unmet cell x y z t e h =
      record {
        piece = rw (unmet cell (sym e ∙ h)) (sym (by (any_of (foreign m c cell) (cell_at m.cells cell).faces)));
        few = omega arith;
        full = tt;
        laid = rw (unmet cell (sym e ∙ h), by (any_of (foreign m c cell) (cell_at m.cells cell).faces)) (laid_nil x y z);
      }
    where
      by : {A : Type 0} (b : Bool) → cond {A = List A} b [] [] ≡ []
      by true = refl
      by false = refl

-- ---- the measures of faces and cells do not matter

module _ (points : List Vec3) (s : Sizes) (words : List ℕ) (floats : List Float) where
  same-face : {A : Type 0} (look : Face → A) → ((w : List ℕ) (a b : List Float) (f : ℕ) → look (face_in w a f) ≡ look (face_in w b f)) →
      (f : ℕ) → look (face_at (faces_in s words floats) f) ≡ look (face_at (faces_in s words []) f)
  same-face look h f =
      ⊎_elim
      (λ l. ap look (face-in s words floats f l) ∙ h (mesh_words s words) (mesh_floats s floats) (mesh_floats s []) f ∙ sym (ap look (face-in s words [] f l)))
      (λ g. ap look (face-out s words floats f g) ∙ sym (ap look (face-out s words [] f g)))
      (lt-or-ge f s.faces)

  same-faces : (i : ℕ) → (cell_at (cells_in s words floats) i).faces ≡ (cell_at (cells_in s words []) i).faces
  unfolding cell_in
  same-faces i =
      ⊎_elim
      (λ l. ap (λ (k : Cell). k.faces) (cell-in s words floats i l) ∙ sym (ap (λ (k : Cell). k.faces) (cell-in s words [] i l)))
      (λ g. ap (λ (k : Cell). k.faces) (cell-out s words floats i g) ∙ sym (ap (λ (k : Cell). k.faces) (cell-out s words [] i g)))
      (lt-or-ge i s.cells)

  same-vertices : (f : ℕ) → (face_at (faces_in s words floats) f).vertices ≡ (face_at (faces_in s words []) f).vertices
  same-vertices f = same-face (λ k. k.vertices) (λ w a b f. unfold face_in in refl) f

  module _ (c : Cut) where
    same-foreign : (cell : ℕ) → foreign (mesh_in points s words floats) c cell ≡ foreign (mesh_in points s words []) c cell
    unfolding mesh_in foreign on_plane
    same-foreign cell =
        fun_ext λ f. rw (same-vertices f, same-face (λ k. k.owner) (λ w a b f. unfold face_in in refl) f, same-face (λ k. k.neighbour) (λ w a b f. unfold face_in in refl) f)

    same-add_face : add_face (mesh_in points s words floats) c ≡ add_face (mesh_in points s words []) c
    unfolding mesh_in add_face add_side
    same-add_face = fun_ext λ l. fun_ext λ f. rw (same-vertices f)

    pub same-piece : (cell : ℕ) →
        piece_of (mesh_in points s words floats) c cell (cell_at (mesh_in points s words floats).cells cell)
        ≡ piece_of (mesh_in points s words []) c cell (cell_at (mesh_in points s words []).cells cell)
    unfolding piece_of crossings
    same-piece cell = rw (same-foreign cell, same-add_face) (unfold mesh_in in rw (same-faces cell))

    pub same-arranged : (cell : ℕ) →
        arranged_of (mesh_in points s words floats) c cell (cell_at (mesh_in points s words floats).cells cell)
        ≡ arranged_of (mesh_in points s words []) c cell (cell_at (mesh_in points s words []).cells cell)
    unfolding arranged_of crossings
    same-arranged cell = rw (same-foreign cell, same-add_face) (unfold mesh_in in rw (same-faces cell))

  pub same-bounds : MeshLimits (mesh_in points s words floats) → MeshLimits (mesh_in points s words [])
  unfolding mesh_in
  same-bounds b =
      record {
        few-faces = λ i. rw (← same-faces i) (b.few-faces i);
        few-vertices = λ f. rw (← same-vertices f) (b.few-vertices f);
      }

pub pieced-any : (case : List ℕ) (n : ℕ) (s : Sizes) (words : List ℕ) (c : Cut) (cell : ℕ) (r : Option (Vec3 × ℕ)) {x y z x' y' z' : List Float} → PieceOfExit (bare case n s words) c cell r x y z x' y' z' →
    (floats : List Float) → PieceOfExit (mesh_in (points_in case n) s words floats) c cell r x y z x' y' z'
unfolding bare
pieced-any case n s words c cell r p floats =
    record {
      piece = p.piece ∙ sym (same-piece (points_in case n) s words floats c cell);
      few = p.few;
      full = p.full;
      laid = rw (same-arranged (points_in case n) s words floats c cell) p.laid;
    }
