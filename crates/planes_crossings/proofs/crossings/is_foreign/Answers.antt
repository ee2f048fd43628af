use mathlib.Core.Path.{ap, sym, ◌∙◌}
use mathlib.Core.Bool.{not}
use mathlib.Core.List.{[]}
use borrow.Author.Tests.{eq-eqb}
use Rattle.mesh_area.specs.Layout.{mesh_in}
use Rattle.planes_crossings.specs.Crossings.{shared}
use Rattle.planes_cut.specs.Ensures.{bare}
use Rattle.planes_crossings.proofs.SideLaws.{foreign-alone, foreign-owned, foreign-other}
use Rattle.planes_crossings.proofs.crossings.is_foreign.Goals as goal

pub returns-then-owner_of-cell : goal.returns-then-owner_of-cell
unfolding bare mesh_in shared
returns-then-owner_of-cell c = c.on_plane.ensures ∙ foreign-other _ _ _ _ (ap shared (sym (c.neighbour_of-other.ensures []) ∙ c.in-Some.is)) (λ e. c.if-owner_of-cell.true (c.owner_of.ensures.0 [] ∙ e))

pub returns-else-owner_of-cell : goal.returns-else-owner_of-cell
unfolding bare mesh_in
returns-else-owner_of-cell c = ap not (eq-eqb _ _ c.if-owner_of-cell.false) ∙ foreign-owned _ _ _ _ (sym (c.owner_of.ensures.0 []) ∙ c.if-owner_of-cell.false)

pub returns-in-None : goal.returns-in-None
unfolding bare mesh_in shared
returns-in-None c = foreign-alone _ _ _ _ (ap shared (sym (c.neighbour_of-other.ensures []) ∙ c.in-None.is))
