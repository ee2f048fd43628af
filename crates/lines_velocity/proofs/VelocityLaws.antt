-- How the promises of the parts of a velocity make its own. Assumes nothing.
use Prim.Native.Nat.{ℕ, ◌+◌, ◌≤◌, ◌<◌}
use native.Mathlib.Omega.{arith}
use mathlib.Core.Path.{◌≡◌, refl, sym, ◌∙◌}
use mathlib.Core.Bool.{Bool, true, false}
use mathlib.Core.List.{List, [], ◌∷◌}
use lib.ListN.{length, get_or, drop}
use lib.Ieee.{Float}
use Rattle.arith.specs.F64.{◌≺◌, finite, nearer}
use Rattle.arith.specs.Lists.{fold}
use Rattle.arith.specs.Vec.{minus, over, norm}
use Rattle.arith.specs.declared.Vec3.{Vec3}
use Rattle.arith.proofs.ListLaws.{foldl-next}
use Rattle.arith.proofs.RecordLaws.{drop-end}
use Rattle.reading.specs.declared.Values.{Values}
use Rattle.reading.specs.Asks.{Asks, give, ask, ◌>>=◌}
use Rattle.reading.specs.Served.{Served}
use Rattle.reading.proofs.ServedLaws.{served-give, served-then}
use Rattle.mesh_area.specs.Tables.{Cell, cell_at}
use Rattle.mesh_area.specs.Layout.{cells_in}
use Rattle.lines_locate.specs.Field.{StreamlineField, searching, zoned, staying}
use Rattle.lines_locate.specs.Layout.{field_in}
use Rattle.lines_velocity.specs.declared.Tracer.{Tracer}
use Rattle.lines_velocity.specs.Velocity.{locate_in, centre_of, neighbours_of, distance_squared, nearer_of, nearest_of, blended, apart, beside_if, beside, beside_nearest, toward, velocity_in, velocity_where, velocity_at, from, unit}
use Rattle.lines_velocity.specs.Ensures.{tracer_field}
use Rattle.std.specs.Prelude.{Some, None}
use Rattle.std.specs.declared.option.Option.{Option}

-- ---- what was found, and what was not

module _ {t : Asks (Option Vec3)} {f : ℕ → Values} {m m' : List ℕ} {r : Option Vec3} (h : Vec3 → Asks (Option Vec3)) where
  pub served-lost : Served t f m m' r → r ≡ None → Served (t >>= from h) f m m' None
  unfolding from
  served-lost s e = served-then (from h) (rw e at s) served-give

  pub served-found : {m'' : List ℕ} {v : Vec3} {a : Option Vec3} → Served t f m m' r → r ≡ Some v → Served (h v) f m' m'' a → Served (t >>= from h) f m m'' a
  unfolding from
  served-found s e u = served-then (from h) (rw e at s) u

-- ---- the nearest neighbour

module _ (cells : List Cell) (p : Vec3) where
  module _ (best i : ℕ) (d e : Float) (t : Bool) (ed : d ≡ distance_squared cells p i) (ee : e ≡ distance_squared cells p best) (et : t ≡ nearer d e) where
    pub nearer-taken : t ≡ true → i ≡ nearer_of cells p best i
    unfolding nearer_of
    nearer-taken h = rw (← ed, ← ee, ← et, h)

    pub nearer-left : t ≡ false → best ≡ nearer_of cells p best i
    unfolding nearer_of
    nearer-left h = rw (← ed, ← ee, ← et, h)

  module _ (i k count best : ℕ) (r : ℕ) (long : count ≡ length (cell_at cells i).neighbours)
      (inv : fold (nearer_of cells p) best (drop k (neighbours_of cells i)) ≡ r) where
    pub nearest-turn : (v best' : ℕ) → k < count → v ≡ get_or (cell_at cells i).neighbours k 0 → best' ≡ nearer_of cells p best v
        → fold (nearer_of cells p) best' (drop (k + 1) (neighbours_of cells i)) ≡ r
    unfolding neighbours_of
    nearest-turn v best' h ev eb =
        rw (eb, ev) (sym (foldl-next (cell_at cells i).neighbours k 0 (rw (← long) h) (nearer_of cells p) best) ∙ inv)

    pub nearest-end : count ≤ k → best ≡ r
    unfolding fold neighbours_of
    nearest-end h =
        let none : drop k (cell_at cells i).neighbours ≡ [] = drop-end (cell_at cells i).neighbours k (rw (← long) h) in
        rw none at inv

-- ---- the blend

module _ (t : Tracer) (case w : List ℕ) (f : List Float) (v : ℕ → Values) (m : List ℕ) (p : Vec3) (i : ℕ) (base : Vec3) where
  module _ (k : ℕ) (ci ck offset : Vec3) (a : Bool) (ei : ci ≡ (cell_at (cells_in t.sizes w f) i).centre) (ek : ck ≡ (cell_at (cells_in t.sizes w f) k).centre)
      (eo : offset ≡ minus ck ci) (ea : a ≡ apart offset) where
    here : ci ≡ centre_of (tracer_field t case w f).cells i
    unfolding centre_of tracer_field staying zoned searching field_in
    here = ei

    there : offset ≡ minus (centre_of (tracer_field t case w f).cells k) (centre_of (tracer_field t case w f).cells i)
    unfolding centre_of tracer_field staying zoned searching field_in
    there = eo ∙ rw (ek, ei)

    pub beside-not : a ≡ false → Served (beside (tracer_field t case w f) p i base k) v m m base
    unfolding beside beside_if
    beside-not e = rw (← there, ← ea, e) served-give

    pub beside-read : {m' : List ℕ} {u : Values} {r : Vec3} → a ≡ true → Served (ask k give) v m m' u → r ≡ blended p ci offset base u.velocity
        → Served (beside (tracer_field t case w f) p i base k) v m m' r
    unfolding beside beside_if
    beside-read e s er =
        rw (← there, ← ea, e)
        (rw (er, here, there)
        (served-then (λ x. give (blended p (centre_of (tracer_field t case w f).cells i) (minus (centre_of (tracer_field t case w f).cells k) (centre_of (tracer_field t case w f).cells i)) base x.velocity)) s served-give))

  pub toward-none : (count : ℕ) → count ≡ length (cell_at (cells_in t.sizes w f) i).neighbours → count ≡ 0 → Served (toward (tracer_field t case w f) p i base) v m m base
  unfolding toward neighbours_of tracer_field staying zoned searching field_in
  toward-none count e z = by (cell_at (cells_in t.sizes w f) i).neighbours (sym e ∙ z)
    where
      by : (l : List ℕ) → length l ≡ 0 → Served (beside_nearest (tracer_field t case w f) p i base l) v m m base
      by [] q = unfold beside_nearest in served-give
      by (x ∷ l) q = absurd (omega arith)

  pub toward-some : {m' : List ℕ} {r : Vec3} (count k : ℕ) → count ≡ length (cell_at (cells_in t.sizes w f) i).neighbours → (count ≡ 0 → ⊥)
      → k ≡ nearest_of (cells_in t.sizes w f) p (neighbours_of (cells_in t.sizes w f) i)
      → Served (beside (tracer_field t case w f) p i base k) v m m' r → Served (toward (tracer_field t case w f) p i base) v m m' r
  unfolding toward neighbours_of tracer_field staying zoned searching field_in
  toward-some {m'} {r} count k e z ek d = by (cell_at (cells_in t.sizes w f) i).neighbours (λ q. z (e ∙ q)) (rw ek at d)
    where
      by : (l : List ℕ) → (length l ≡ 0 → ⊥) → Served (beside (tracer_field t case w f) p i base (nearest_of (tracer_field t case w f).cells p l)) v m m' r
          → Served (beside_nearest (tracer_field t case w f) p i base l) v m m' r
      by [] q x = absurd (q refl)
      by (n ∷ l) q x = unfold beside_nearest in x

-- ---- the velocity

module _ (F : StreamlineField) (v : ℕ → Values) (m : List ℕ) (p : Vec3) where
  pub velocity-in : {m' m'' : List ℕ} {u : Values} {r : Vec3} (i : ℕ) → Served (ask i give) v m m' u → Served (toward F p i u.velocity) v m' m'' r
      → Served (velocity_in F p i) v m m'' r
  unfolding velocity_in
  velocity-in i s t = served-then (λ x. toward F p i x.velocity) s t

  pub velocity-nowhere : {r : Option ℕ} → r ≡ locate_in F p → r ≡ None → Served (velocity_at F p) v m m None
  unfolding velocity_at velocity_where
  velocity-nowhere e n = rw (sym e ∙ n) served-give

  pub velocity-here : {m' : List ℕ} {r : Option ℕ} {u : Vec3} (i : ℕ) → r ≡ locate_in F p → r ≡ Some i → Served (velocity_in F p i) v m m' u → Served (velocity_at F p) v m m' (Some u)
  unfolding velocity_at velocity_where
  velocity-here i e n s = rw (sym e ∙ n) (served-then (λ x. give (Some x)) s served-give)

-- ---- the direction of a velocity, by the tests of its speed

module _ (still speed : Float) (v : Vec3) (is_finite : Bool) (es : speed ≡ norm v) (ef : is_finite ≡ finite speed) where
  pub unit-moving : (u : Vec3) → u ≡ over v speed → is_finite ≡ true → (still ≺ speed) ≡ true → Some u ≡ unit still v
  unfolding unit
  unit-moving u e h k = rw (← es, ← ef, h, k, e)

  pub unit-still : is_finite ≡ true → (still ≺ speed) ≡ false → None ≡ unit still v
  unfolding unit
  unit-still h k = rw (← es, ← ef, h, k)

  pub unit-endless : is_finite ≡ false → None ≡ unit still v
  unfolding unit
  unit-endless h = rw (← es, ← ef, h)
