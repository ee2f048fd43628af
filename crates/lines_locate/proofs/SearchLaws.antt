-- Wherever the bins find a cell, all cells give that one or a lower one. Assumes nothing.
use Prim.Native.Nat.{ℕ, suc, ◌≤◌}
use native.Mathlib.Nat.{le_refl}
use native.Mathlib.Omega.{arith}
use mathlib.Core.Path.{◌≡◌, refl, sym, ◌∙◌}
use mathlib.Core.Bool.{Bool, true, false, ◌&&◌, true≢false}
use mathlib.Core.List.{List, [], ◌∷◌}
use Rattle.arith.specs.F64.{finite}
use Rattle.arith.specs.Lists.{first_from}
use Rattle.arith.specs.declared.Vec2.{Vec2}
use Rattle.arith.specs.declared.Vec3.{Vec3}
use Rattle.lines_polygon.specs.Contains.{contains}
use Rattle.lines_polygon.proofs.LimitLaws.{both}
use Rattle.lines_locate.specs.declared.Bin.{Bin}
use Rattle.lines_locate.specs.declared.Grid.{Grid}
use Rattle.lines_locate.specs.declared.Search.{Search}
use Rattle.lines_locate.specs.declared.Search.TheVariants.{Bins, All}
use Rattle.lines_locate.specs.Bins.{CellPolygon, bin_for, is_listed}
use Rattle.lines_locate.specs.Locate.{is_searched, holds, locate_where, locate, xy_of, AtOrBelow}
use Rattle.std.specs.Prelude.{Some}
use Rattle.std.specs.declared.option.Option.{Option}

-- ---- the first of a list that passes a test that asks for less

module _ {A : Type 0} where
  no-earlier : (r : A → Bool) (k i : ℕ) (l : List A) → k ≤ i → AtOrBelow (Some k) (first_from r i l)
  unfolding first_from AtOrBelow
  no-earlier r k i [] h = tt
  no-earlier r k i (a ∷ l) h = by (r a) (no-earlier r k (suc i) l (omega arith))
    where
      by : (t : Bool) → AtOrBelow (Some k) (first_from r (suc i) l) → AtOrBelow (Some k) (elim t as (λ _. Option ℕ) [ true ↦ Some i | false ↦ first_from r (suc i) l ])
      by true n = h
      by false n = n

  sooner : (p r : A → Bool) → ((a : A) → r a ≡ true → p a ≡ true) → (i : ℕ) (l : List A) → AtOrBelow (first_from p i l) (first_from r i l)
  unfolding first_from AtOrBelow
  sooner p r h i [] = tt
  sooner p r h i (a ∷ l) = by (p a) refl (r a) refl (sooner p r h (suc i) l)
    where
      by : (t : Bool) → p a ≡ t → (u : Bool) → r a ≡ u → AtOrBelow (first_from p (suc i) l) (first_from r (suc i) l)
          → AtOrBelow (elim t as (λ _. Option ℕ) [ true ↦ Some i | false ↦ first_from p (suc i) l ]) (elim u as (λ _. Option ℕ) [ true ↦ Some i | false ↦ first_from r (suc i) l ])
      by true e true f n = le_refl i
      by true e false f n = no-earlier r i (suc i) l (omega arith)
      by false e true f n = absurd (true≢false (sym (h a f) ∙ e))
      by false e false f n = n

-- ---- a cell that the bins hold the point in

any-search : (search : Search) (b : Bin) (q : Vec2) (c : CellPolygon) → holds Bins b q c ≡ true → holds search b q c ≡ true
unfolding holds is_searched
any-search Bins b q c e = e
any-search All b q c e = (both (is_listed b c) (contains q c.polygon) e).1

pub bins-bettered : (search : Search) (g : Grid) (cells : List CellPolygon) (p : Vec3) → AtOrBelow (locate search g cells p) (locate Bins g cells p)
unfolding locate locate_where
bins-bettered search g cells p = by (finite p.x && finite p.y)
  where
    by : (t : Bool) → AtOrBelow (locate_where t search g cells (xy_of p)) (locate_where t Bins g cells (xy_of p))
    by true =
        sooner (holds search (bin_for g (xy_of p)) (xy_of p)) (holds Bins (bin_for g (xy_of p)) (xy_of p)) (any-search search (bin_for g (xy_of p)) (xy_of p)) 0 cells
    by false = unfold AtOrBelow in tt
