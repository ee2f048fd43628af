-- One turn of the loops that collect a cell's points. Assumes nothing.
use Prim.Native.Nat.{ℕ, ◌+◌, ◌-◌, ◌≤◌, ◌<◌}
use native.Mathlib.Omega.{arith}
use mathlib.Core.Path.{◌≡◌, refl, sym, ap, ap₂, ◌∙◌, fun_ext}
use mathlib.Core.Logic.{⊎_elim}
use mathlib.Core.Bool.{Bool, true, false, cond}
use mathlib.Core.List.{List, [], ◌∷◌, ◌++◌}
use lib.ListN.{length, get_or, drop, set, length-append}
use lib.Seq.{get_or-set_same, get_or-set_other, drop-set-lt, drop-drop}
use lib.Ieee.{Float, nan}
use Rattle.arith.specs.Lists.{fold, any_of, add_new}
use Rattle.arith.specs.Records.{tab}
use Rattle.arith.specs.Vec.{pair}
use Rattle.arith.specs.declared.Vec2.{Vec2}
use Rattle.arith.specs.declared.Vec3.{Vec3}
use Rattle.arith.proofs.ListLaws.{foldl-next, any_here, any_next}
use Rattle.arith.proofs.RecordLaws.{length-tab, get_or-tab, tab-next, tab-same, drop-end, lt-or-ge}
use Rattle.mesh_area.specs.declared.Sizes.{Sizes}
use Rattle.mesh_area.specs.Tables.{Mesh, point_at, face_at, cell_at}
use Rattle.mesh_area.specs.Layout.{faces_in, cells_in, mesh_in, face_in, cell_in}
use Rattle.mesh_area.proofs.LayoutLaws.{face-in, face-out, cell-in, cell-out}
use Rattle.lines_locate.specs.Locate.{xy_of}
use Rattle.lines_field.specs.Vertices.{alike, add_vertex, add_vertices, cell_vertices}
use Rattle.lines_field.specs.Ensures.{vertices_in, VerticesExit}

-- ---- the points collected so far

pub length-vertices : (xs ys : List Float) (n : ℕ) → length (vertices_in xs ys n) ≡ n
unfolding vertices_in
length-vertices xs ys n = length-tab (λ k. pair (get_or xs k nan) (get_or ys k nan)) n

pub vertex-at : (xs ys : List Float) (n k : ℕ) (d : Vec2) → k < n → get_or (vertices_in xs ys n) k d ≡ pair (get_or xs k nan) (get_or ys k nan)
unfolding vertices_in
vertex-at xs ys n k d h = get_or-tab (λ k. pair (get_or xs k nan) (get_or ys k nan)) n k d h

module _ (xs ys : List Float) (n k : ℕ) (p : Vec2) (r : Bool) (inv : any_of (alike p) (drop k (vertices_in xs ys n)) ≡ r) where
  abbrev here : Vec2
  here = pair (get_or xs k nan) (get_or ys k nan)

  in-range : k < n → k < length (vertices_in xs ys n)
  in-range h = rw (length-vertices xs ys n) h

  pub contains-here : (t : Bool) → k < n → t ≡ alike p (pair (get_or xs k nan) (get_or ys k nan)) → t ≡ true → true ≡ r
  contains-here t h e w =
      sym (any_here (vertices_in xs ys n) k here (in-range h) (alike p) (rw (vertex-at xs ys n k here h) (sym e ∙ w))) ∙ inv

  pub contains-next : (t : Bool) → k < n → t ≡ alike p (pair (get_or xs k nan) (get_or ys k nan)) → t ≡ false → any_of (alike p) (drop (k + 1) (vertices_in xs ys n)) ≡ r
  contains-next t h e w =
      sym (any_next (vertices_in xs ys n) k here (in-range h) (alike p) (rw (vertex-at xs ys n k here h) (sym e ∙ w))) ∙ inv

  pub contains-end : n ≤ k → false ≡ r
  unfolding any_of
  contains-end h =
      let none : drop k (vertices_in xs ys n) ≡ [] = drop-end (vertices_in xs ys n) k (rw (length-vertices xs ys n) h) in
      rw none at inv

-- ---- one more point

module _ (xs ys : List Float) (n : ℕ) (p : Vec2) (t : Bool) (e : t ≡ any_of (alike p) (vertices_in xs ys n)) where
  pub push-had : t ≡ true → vertices_in xs ys n ≡ add_new alike (vertices_in xs ys n) p
  unfolding add_new
  push-had w = rw (sym e ∙ w)

  as-new : t ≡ false → add_new alike (vertices_in xs ys n) p ≡ vertices_in xs ys n ++ p ∷ []
  unfolding add_new
  as-new w = rw (sym e ∙ w)

  pub push-fits : t ≡ false → length (add_new alike (vertices_in xs ys n) p) ≤ 24 → n < 24
  push-fits w h = omega (arith, rw (as-new w, length-append (vertices_in xs ys n) (p ∷ []), length-vertices xs ys n) at h)

  push-new : t ≡ false → n < length xs → n < length ys → vertices_in (set xs n p.x) (set ys n p.y) (n + 1) ≡ add_new alike (vertices_in xs ys n) p
  push-new w lx ly = rw (as-new w) (unfold vertices_in in step)
    where
      pairs : List Float → List Float → ℕ → Vec2
      pairs a b k = pair (get_or a k nan) (get_or b k nan)

      step : tab (λ k. pair (get_or (set xs n p.x) k nan) (get_or (set ys n p.y) k nan)) (n + 1) ≡ tab (λ k. pair (get_or xs k nan) (get_or ys k nan)) n ++ p ∷ []
      step =
          tab-next (λ k. pair (get_or (set xs n p.x) k nan) (get_or (set ys n p.y) k nan)) n
          ∙ ap₂ (λ (a : List Vec2) (b : Vec2). a ++ b ∷ [])
          (tab-same (λ k. pair (get_or (set xs n p.x) k nan) (get_or (set ys n p.y) k nan)) (λ k. pair (get_or xs k nan) (get_or ys k nan)) n
          (λ k h. let ne : k ≡ n → ⊥ = λ q. omega arith in ap₂ pair (get_or-set_other xs n k p.x nan ne) (get_or-set_other ys n k p.y nan ne)))
          (ap₂ pair (get_or-set_same xs n p.x nan lx) (get_or-set_same ys n p.y nan ly))

  pub pushed : t ≡ false → n < 24 → n < length xs → n < length ys → VerticesExit (add_new alike (vertices_in xs ys n) p) xs (set xs n p.x) ys (set ys n p.y) (n + 1)
  pushed w few lx ly =
      record {
        points = push-new w lx ly;
        few = omega arith;
        xs-behind = drop-set-lt (n + 1) xs n p.x (omega arith);
        ys-behind = drop-set-lt (n + 1) ys n p.y (omega arith);
      }

-- what stood behind the first n still stands behind the first n'
pub behind_more : (l₀ l l' : List Float) (n n' : ℕ) → n ≤ n' → drop n l ≡ drop n l₀ → drop n' l' ≡ drop n' l → drop n' l' ≡ drop n' l₀
behind_more l₀ l l' n n' h e e' =
    let more : n + (n' - n) ≡ n' = omega arith in
    e' ∙ simp (drop-drop, more) at (ap (drop (n' - n)) e)

-- ---- lists that only grow

grows : (l : List Vec2) (p : Vec2) → length l ≤ length (add_new alike l p)
unfolding add_new
grows l p = by (any_of (alike p) l)
  where
    by : (t : Bool) → length l ≤ length (cond t l (l ++ p ∷ []))
    by true = omega arith
    by false = omega (arith, length-append l (p ∷ []))

foldl-grows : (g : List Vec2 → ℕ → List Vec2) → ((l : List Vec2) (i : ℕ) → length l ≤ length (g l i)) → (s : List Vec2) (l : List ℕ) → length s ≤ length (fold g s l)
unfolding fold
foldl-grows g h s [] = omega arith
foldl-grows g h s (i ∷ l) = omega (arith, h s i, foldl-grows g h (g s i) l)

module _ (g : List Vec2 → ℕ → List Vec2) (l : List ℕ) (k : ℕ) (s r : List Vec2) (inv : fold g s (drop k l) ≡ r) where
  fold-turn : k < length l → fold g (g s (get_or l k 0)) (drop (k + 1) l) ≡ r
  fold-turn h = sym (foldl-next l k 0 h g s) ∙ inv

  fold-fits : ((l : List Vec2) (i : ℕ) → length l ≤ length (g l i)) → k < length l → length r ≤ 24 → length (g s (get_or l k 0)) ≤ 24
  fold-fits grow h few =
      omega (arith, rw (fold-turn h) at (foldl-grows g grow (g s (get_or l k 0)) (drop (k + 1) l)))

  fold_end : length l ≤ k → s ≡ r
  unfolding fold
  fold_end h = let none : drop k l ≡ [] = drop-end l k h in rw none at inv

-- ---- the points of a face, and of a cell

module _ (ps : List Vec3) (s : Sizes) (w : List ℕ) where
  abbrev m : Mesh
  m = mesh_in ps s w []

  point-grows : (l : List Vec2) (i : ℕ) → length l ≤ length (add_vertex m l i)
  unfolding add_vertex
  point-grows l i = grows l (xy_of (point_at m.points i))

  face-grows : (l : List Vec2) (f : ℕ) → length l ≤ length (add_vertices m l f)
  unfolding add_vertices
  face-grows l f = foldl-grows (add_vertex m) point-grows l (face_at m.faces f).vertices

  module _ (f k count : ℕ) (l r : List Vec2) (long : count ≡ length (face_at (faces_in s w []) f).vertices)
      (inv : fold (add_vertex m) l (drop k (face_at (faces_in s w []) f).vertices) ≡ r) where
    module _ (v : ℕ) (p : Vec2) (more : k < count) (ev : v ≡ get_or (face_at (faces_in s w []) f).vertices k 0) (ep : p ≡ xy_of (point_at ps v)) where
      same_point : add_vertex m l (get_or (face_at (faces_in s w []) f).vertices k 0) ≡ add_new alike l p
      unfolding add_vertex mesh_in
      same_point = rw (ep, ev)

      pub face-fits : length r ≤ 24 → length (add_new alike l p) ≤ 24
      face-fits few = rw same_point at (fold-fits (add_vertex m) (face_at (faces_in s w []) f).vertices k l r inv point-grows (rw (← long) more) few)

      pub face-turn : (l' : List Vec2) → l' ≡ add_new alike l p → fold (add_vertex m) l' (drop (k + 1) (face_at (faces_in s w []) f).vertices) ≡ r
      face-turn l' e = rw (e, ← same_point) (fold-turn (add_vertex m) (face_at (faces_in s w []) f).vertices k l r inv (rw (← long) more))

    pub face-end : count ≤ k → l ≡ r
    face-end h = fold_end (add_vertex m) (face_at (faces_in s w []) f).vertices k l r inv (rw (← long) h)

  pub face-start : (l : List Vec2) (f : ℕ) → fold (add_vertex m) l (face_at (faces_in s w []) f).vertices ≡ add_vertices m l f
  unfolding add_vertices mesh_in
  face-start l f = refl

  module _ (i k count : ℕ) (l r : List Vec2) (long : count ≡ length (cell_at (cells_in s w []) i).faces)
      (inv : fold (add_vertices m) l (drop k (cell_at (cells_in s w []) i).faces) ≡ r) where
    module _ (f : ℕ) (more : k < count) (ef : f ≡ get_or (cell_at (cells_in s w []) i).faces k 0) where
      pub cell-fits : length r ≤ 24 → length (add_vertices m l f) ≤ 24
      cell-fits few = rw ef (fold-fits (add_vertices m) (cell_at (cells_in s w []) i).faces k l r inv face-grows (rw (← long) more) few)

      pub cell-turn : (l' : List Vec2) → l' ≡ add_vertices m l f → fold (add_vertices m) l' (drop (k + 1) (cell_at (cells_in s w []) i).faces) ≡ r
      cell-turn l' e = rw (e, ef) (fold-turn (add_vertices m) (cell_at (cells_in s w []) i).faces k l r inv (rw (← long) more))

    pub cell-end : count ≤ k → l ≡ r
    cell-end h = fold_end (add_vertices m) (cell_at (cells_in s w []) i).faces k l r inv (rw (← long) h)

  pub cell-start : (xs ys : List Float) (i : ℕ) → fold (add_vertices m) (vertices_in xs ys 0) (cell_at (cells_in s w []) i).faces ≡ cell_vertices m (cell_at (cells_in s w []) i)
  unfolding cell_vertices vertices_in tab
  cell-start xs ys i = refl

-- ---- the floats of the area do not matter to a cell's points

module _ (ps : List Vec3) (s : Sizes) (w : List ℕ) (f : List Float) where
  vertices-any : (k : ℕ) → (face_at (faces_in s w f) k).vertices ≡ (face_at (faces_in s w []) k).vertices
  vertices-any k =
      ⊎_elim
      (λ h. rw (face-in s w f k h, face-in s w [] k h) (unfold face_in in refl))
      (λ h. rw (face-out s w f k h, face-out s w [] k h))
      (lt-or-ge k s.faces)

  faces-any : (i : ℕ) → (cell_at (cells_in s w f) i).faces ≡ (cell_at (cells_in s w []) i).faces
  faces-any i =
      ⊎_elim
      (λ h. rw (cell-in s w f i h, cell-in s w [] i h) (unfold cell_in in refl))
      (λ h. rw (cell-out s w f i h, cell-out s w [] i h))
      (lt-or-ge i s.cells)

  add-vertices-any : add_vertices (mesh_in ps s w f) ≡ add_vertices (mesh_in ps s w [])
  unfolding add_vertices add_vertex mesh_in
  add-vertices-any = fun_ext (λ l. fun_ext (λ k. ap (fold (λ a i. add_new alike a (xy_of (point_at ps i))) l) (vertices-any k)))

  pub cell-vertices-any : (i : ℕ) → cell_vertices (mesh_in ps s w f) (cell_at (cells_in s w f) i) ≡ cell_vertices (mesh_in ps s w []) (cell_at (cells_in s w []) i)
  unfolding cell_vertices
  cell-vertices-any i = rw (faces-any i, add-vertices-any)
