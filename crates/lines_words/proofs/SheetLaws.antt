-- Two points of a sheet compared as the code does it. Assumes nothing.
use mathlib.Core.Path.{◌≡◌}
use lib.Dec.{eqb}
use mir.Syntax.{w64}
use mir.Val.{SFits, of_z}
use borrow.Author.Tests.{eq-eqb, ne_eqb}
use Rattle.lines_millimetres.proofs.WordLaws.{words_same}
use Rattle.lines_words.specs.Sheet.{is_same}
use Rattle.lines_words.specs.declared.SheetPoint.{SheetPoint}

module _ (a b : SheetPoint) (f : SFits w64 a.x) (g : SFits w64 b.x) where
  pub same-on : SFits w64 a.y → SFits w64 b.y → of_z w64 a.x ≡ of_z w64 b.x → eqb (of_z w64 a.y) (of_z w64 b.y) ≡ is_same a b
  unfolding is_same
  same-on h k e = rw (words_same a.y b.y h k, ← words_same a.x b.x f g, eq-eqb _ _ e)

  pub same-off : (of_z w64 a.x ≡ of_z w64 b.x → ⊥) → eqb (of_z w64 a.x) (of_z w64 b.x) ≡ is_same a b
  unfolding is_same
  same-off n = rw (← words_same a.x b.x f g, ne_eqb _ _ n)
