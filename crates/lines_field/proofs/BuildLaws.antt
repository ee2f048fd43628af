-- The polygons of all cells, and the field. Assumes nothing.
use Prim.Native.Nat.{ℕ, ◌+◌, ◌*◌, ◌≤◌, ◌<◌, min}
use native.Mathlib.Nat.{le_antisymm}
use native.Mathlib.Omega.{arith}
use mathlib.Core.Path.{◌≡◌, refl, sym, ap, ap₂, ◌∙◌, subst}
use mathlib.Core.List.{List, [], ◌∷◌, ◌++◌, map}
use lib.ListN.{length, get_or, take, set}
use lib.Seq.{get_or-set_same, take-set-le, take-take}
use lib.Ieee.{Float, nan}
use Rattle.arith.specs.Lists.{sort, flatten}
use Rattle.arith.specs.Records.{tab}
use Rattle.arith.specs.declared.Vec2.{Vec2}
use Rattle.arith.specs.declared.Vec3.{Vec3}
use Rattle.arith.proofs.RecordLaws.{tab-next, tab-same, same-below}
use Rattle.reading.specs.Result.{◌>>=◌, Refusable}
use Rattle.mesh_area.specs.declared.Sizes.{Sizes}
use Rattle.mesh_area.specs.Tables.{cell_at}
use Rattle.mesh_area.specs.Layout.{LentWords, LentFloats, words_end, floats_end, mesh_words, mesh_floats, cell_in, cells_in, mesh_in}
use Rattle.mesh_area.proofs.LayoutLaws.{cell-in, mesh-same, length-cells_in}
use Rattle.lines_locate.specs.declared.Box.{Box}
use Rattle.lines_locate.specs.declared.Bin.{Bin}
use Rattle.lines_locate.specs.declared.Grid.{Grid}
use Rattle.lines_field.specs.Vertices.{turns_about, cell_vertices, polygon_of}
use Rattle.lines_field.specs.Bounds.{bounds_of}
use Rattle.lines_field.specs.Bins.{bin_counts, listed_in}
use Rattle.lines_field.specs.Ensures.{VertexLimit, polygons_in, vertex_in, vertices_in, PolygonExit, PutPolygonExit, MeshKept, FromDatasetExit}
use Rattle.lines_field.specs.Field.{polygons_of, grid_for, grid_of, field_of}
use Rattle.lines_locate.specs.Layout.{words_at, floats_at, count_in, polygon_in, cell_polygons_in, field_in}
use Rattle.lines_locate.specs.Ensures.{LocateCellEntry}
use Rattle.lines_polygon.specs.Vertices.{pair_from, pairs_from}
use Rattle.lines_field.proofs.VertexLaws.{cell-vertices-any}
use Rattle.lines_field.proofs.GridLaws.{map-tab}
use Rattle.std.specs.Prelude.{Ok, Err}
use Rattle.refusal.specs.declared.Refusal.{Refusal}

-- ---- one cell

pub store-polygon : (polygon : List Vec2) (s : Sizes) (w : List ℕ) (f f' : List Float) (i at wat n : ℕ) → at ≡ floats_at s i → wat ≡ words_at s i → pairs_from f' at n ≡ polygon
    → take at f' ≡ take at f → n ≤ 24 → words_at s i + 4 < length w → PutPolygonExit polygon s w (set w (wat + 4) n) f f' i
store-polygon polygon s w f f' i at wat n ea ew e t few room =
    rw ew
    (record {
      here = unfold polygon_in count_in in rw (get_or-set_same w (words_at s i + 4) n 0 room, least) (rw ea at e);
      words = take-set-le (words_at s i) w (words_at s i + 4) n (omega arith);
      floats = rw ea at t;
    })
  where
    least : min n 24 ≡ n
    least = omega arith

module _ (ps : List Vec3) (s : Sizes) (w : List ℕ) (f : List Float) (i : ℕ) where
  pub few-polygon-vertices : length (cell_vertices (mesh_in ps s w f) (cell_at (cells_in s w f) i)) ≤ 24 → length (cell_vertices (mesh_in ps s w []) (cell_at (cells_in s w []) i)) ≤ 24
  few-polygon-vertices h = rw (← (cell-vertices-any ps s w f i)) h

  pub placed : (xs ys : List Float) (places : List ℕ) (n : ℕ) (centre : Vec3) → vertices_in xs ys n ≡ cell_vertices (mesh_in ps s w []) (cell_at (cells_in s w []) i)
      → centre ≡ (cell_at (cells_in s w f) i).centre → map (vertex_in xs ys) (take n places) ≡ sort (turns_about centre) (vertices_in xs ys n) → ((k : ℕ) → k < n → get_or places k 0 < n) → n ≤ 24
      → PolygonExit (polygon_of (mesh_in ps s w f) (cell_at (cells_in s w f) i)) xs ys places n
  placed xs ys places n centre e ec h b few =
      record {
        points = h ∙ (unfold polygon_of in ap₂ (λ (c : Vec3) (l : List Vec2). sort (turns_about c) l) ec (e ∙ sym (cell-vertices-any ps s w f i)));
        below = b;
        few = few;
      }

-- ---- all cells

polygon-same : (s : Sizes) (w w' : List ℕ) (f f' : List Float) (i j : ℕ) → take (words_at s i) w' ≡ take (words_at s i) w → take (floats_at s i) f' ≡ take (floats_at s i) f → j < i
    → polygon_in s w' f' j ≡ polygon_in s w f j
unfolding polygon_in count_in pairs_from pair_from
polygon-same s w w' f f' i j ew ef h =
    rw (same-below w w' (words_at s i) (words_at s j + 4) 0 ew (omega arith))
    (tab-same _ _ (min (get_or w (words_at s j + 4) 0) 24)
    (λ k b. rw (same-below f f' (floats_at s i) (floats_at s j + 2 * k) nan ef (low k b), same-below f f' (floats_at s i) (floats_at s j + 2 * k + 1) nan ef (high k b))))
  where
    low : (k : ℕ) → k < min (get_or w (words_at s j + 4) 0) 24 → floats_at s j + 2 * k < floats_at s i
    low k b = omega arith

    high : (k : ℕ) → k < min (get_or w (words_at s j + 4) 0) 24 → floats_at s j + 2 * k + 1 < floats_at s i
    high k b = omega arith

-- the polygons below i stand in the area, and the mesh is as it was
pub record Building (ps : List Vec3) (s : Sizes) (w₀ w : List ℕ) (f₀ f : List Float) (i : ℕ) : Type 0 where
  pub within : i ≤ s.cells
  pub long-words : length w ≡ length w₀
  pub long-floats : length f ≡ length f₀
  pub done : tab (polygon_in s w f) i ≡ tab (λ j. polygon_of (mesh_in ps s w₀ f₀) (cell_at (cells_in s w₀ f₀) j)) i
  pub words : take (words_end s) w ≡ take (words_end s) w₀
  pub floats : take (floats_end s) f ≡ take (floats_end s) f₀

cells_are : (ps : List Vec3) (s : Sizes) (w : List ℕ) (f : List Float) → (mesh_in ps s w f).cells ≡ tab (cell_in (mesh_words s w) (mesh_floats s f) s.slots) s.cells
unfolding mesh_in cells_in
cells_are ps s w f = refl

polygons-are : (s : Sizes) (w : List ℕ) (f : List Float) → polygons_in s w f ≡ tab (polygon_in s w f) s.cells
unfolding polygons_in
polygons-are s w f = refl

polygons-tab : (ps : List Vec3) (s : Sizes) (w : List ℕ) (f : List Float) → polygons_of (mesh_in ps s w f) ≡ tab (λ j. polygon_of (mesh_in ps s w f) (cell_at (cells_in s w f) j)) s.cells
unfolding polygons_of
polygons-tab ps s w f =
    ap (map (polygon_of (mesh_in ps s w f))) (cells_are ps s w f)
    ∙ map-tab (polygon_of (mesh_in ps s w f)) (cell_in (mesh_words s w) (mesh_floats s f) s.slots) s.cells
    ∙ tab-same (λ j. polygon_of (mesh_in ps s w f) (cell_in (mesh_words s w) (mesh_floats s f) s.slots j)) _ s.cells (λ j l. ap (polygon_of (mesh_in ps s w f)) (sym (cell-in s w f j l)))

module _ (ps : List Vec3) (s : Sizes) (w₀ w : List ℕ) (f₀ f : List Float) where
  cells_same : take (words_end s) w ≡ take (words_end s) w₀ → take (floats_end s) f ≡ take (floats_end s) f₀ → cells_in s w f ≡ cells_in s w₀ f₀
  unfolding cells_in mesh_words mesh_floats
  cells_same ew ef = rw (ew, ef)

  pub building-fits : (i : ℕ) → Building ps s w₀ w f₀ f i → VertexLimit (mesh_in ps s w₀ f₀) → length (cell_vertices (mesh_in ps s w f) (cell_at (cells_in s w f) i)) ≤ 24
  building-fits i b few = rw (mesh-same ps s w₀ w f₀ f b.words b.floats, cells_same b.words b.floats) (unfold mesh_in in few.vertices i)

  pub building-turn : (w' : List ℕ) (f' : List Float) (i : ℕ) → Building ps s w₀ w f₀ f i → i < s.cells → length w' ≡ length w → length f' ≡ length f
      → PutPolygonExit (polygon_of (mesh_in ps s w f) (cell_at (cells_in s w f) i)) s w w' f f' i → Building ps s w₀ w' f₀ f' (i + 1)
  building-turn w' f' i b h lw lf d =
      record {
        within = omega arith;
        long-words = lw ∙ b.long-words;
        long-floats = lf ∙ b.long-floats;
        done =
            tab-next (polygon_in s w' f') i
            ∙ ap₂ (λ (x : List (List Vec2)) (y : List Vec2). x ++ y ∷ [])
            (tab-same (polygon_in s w' f') (polygon_in s w f) i (λ k l. polygon-same s w w' f f' i k d.words d.floats l) ∙ b.done)
            (d.here ∙ rw (mesh-same ps s w₀ w f₀ f b.words b.floats, cells_same b.words b.floats))
            ∙ sym (tab-next (λ j. polygon_of (mesh_in ps s w₀ f₀) (cell_at (cells_in s w₀ f₀) j)) i);
        words =
            let less : words_end s ≤ words_at s i = omega arith in
            sym (take-take (words_end s) (words_at s i) w' less) ∙ ap (take (words_end s)) d.words ∙ take-take (words_end s) (words_at s i) w less ∙ b.words;
        floats =
            let less : floats_end s ≤ floats_at s i = omega arith in
            sym (take-take (floats_end s) (floats_at s i) f' less) ∙ ap (take (floats_end s)) d.floats ∙ take-take (floats_end s) (floats_at s i) f less ∙ b.floats;
      }

  pub building-end : (i : ℕ) → Building ps s w₀ w f₀ f i → s.cells ≤ i → (polygons_in s w f ≡ polygons_of (mesh_in ps s w₀ f₀)) × MeshKept s w₀ w f₀ f
  building-end i b h =
      let e : i ≡ s.cells = le_antisymm b.within h in
      let d : tab (polygon_in s w f) s.cells ≡ tab (λ j. polygon_of (mesh_in ps s w₀ f₀) (cell_at (cells_in s w₀ f₀) j)) s.cells =
      subst (λ (n : ℕ). tab (polygon_in s w f) n ≡ tab (λ j. polygon_of (mesh_in ps s w₀ f₀) (cell_at (cells_in s w₀ f₀) j)) n) e b.done in
      (polygons-are s w f ∙ d ∙ sym (polygons-tab ps s w₀ f₀), record { words = b.words; floats = b.floats })

pub building-start : (ps : List Vec3) (s : Sizes) (w : List ℕ) (f : List Float) → Building ps s w w f f 0
unfolding tab
building-start ps s w f = record { within = omega arith; long-words = refl; long-floats = refl; done = refl; words = refl; floats = refl }

-- ---- the field

pub lent-words : (s : Sizes) (w w' : List ℕ) → LentWords s w → length w' ≡ length w → LentWords s w'
lent-words s w w' l e = record { few-slots = l.few-slots; few-faces = l.few-faces; few-cells = l.few-cells; long = rw e l.long }

pub lent-floats : (s : Sizes) (f f' : List Float) → LentFloats s f → length f' ≡ length f → LentFloats s f'
lent-floats s f f' l e = record { few-slots = l.few-slots; few-faces = l.few-faces; few-cells = l.few-cells; long = rw e l.long }

module _ (ps : List Vec3) (s : Sizes) (w₀ w : List ℕ) (f₀ f : List Float) (b : Box) (n : Bin) (r : Refusable Grid)
    (polygons : polygons_in s w f ≡ polygons_of (mesh_in ps s w₀ f₀)) (kept : MeshKept s w₀ w f₀ f) (eb : b ≡ bounds_of (flatten (polygons_in s w f))) (en : n ≡ bin_counts s.cells b)
    (grid : r ≡ grid_for b n) where
  result : r ≡ grid_of s.cells (polygons_of (mesh_in ps s w₀ f₀))
  unfolding grid_of
  result = grid ∙ rw (en, eb, polygons)

  pub refused-field : (k : Refusal) → r ≡ Err k → FromDatasetExit (mesh_in ps s w₀ f₀) s w f r × MeshKept s w₀ w f₀ f
  refused-field k e =
      (record { result = result; field = λ g q. absurd (never g q); searchable = λ g q. absurd (never g q) }, kept)
    where
      never : (g : Grid) → r ≡ Ok g → ⊥
      never g q = let z : ◌≡◌ {A = ℕ} 0 1 = cc in omega arith

  pub made-field : (g : Grid) (w' : List ℕ) → r ≡ Ok g → cell_polygons_in s w' f ≡ map (listed_in g) (polygons_in s w f) → take (words_end s) w' ≡ take (words_end s) w → LocateCellEntry g s w' f
      → FromDatasetExit (mesh_in ps s w₀ f₀) s w' f (Ok g) × MeshKept s w₀ w' f₀ f
  made-field g w' e l t se =
      let tw : take (words_end s) w' ≡ take (words_end s) w₀ = t ∙ kept.words in
      rw (← e)
      (record { result = result; field = λ g' q. let i : g ≡ g' = cc in rw (← i) (whole tw); searchable = λ g' q. let i : g ≡ g' = cc in rw (← i) se }, record { words = tw; floats = kept.floats })
    where
      made : grid_of (length (mesh_in ps s w₀ f₀).cells) (polygons_of (mesh_in ps s w₀ f₀)) ≡ Ok g
      made = unfold mesh_in in rw (length-cells_in s w₀ f₀) (sym result ∙ e)

      whole : take (words_end s) w' ≡ take (words_end s) w₀ → field_of (mesh_in ps s w₀ f₀) ≡ Ok (field_in g s w' f)
      whole tw =
          unfold field_of in rw made
          (unfold ◌>>=◌ in unfold field_in in rw (l, polygons, cells_same ps s w₀ w' f₀ f tw kept.floats) (unfold mesh_in in refl))
