use mathlib.Core.Path.{sym, ◌∙◌}
use Rattle.mesh.proofs.Laws.{join-16, joined-17, joined-mesh, barred}
use borrow.Author.Rules.{rules}
use Rattle.mesh.proofs.join.Goals as goal

pub returns-then-any_misplaced : goal.returns-then-any_misplaced
returns-then-any_misplaced c = λ ps. barred (join-16 ps _ _ (sym c.any_misplaced.ensures ∙ c.if-any_misplaced.true))

pub returns-then-ensure_connected : goal.returns-then-ensure_connected
returns-then-ensure_connected c = λ ps. joined-mesh ps _ _ _ _ _ _ c.fill_neighbours.ensures c.ensure_connected.ensures (sym c.any_misplaced.ensures ∙ c.if-any_misplaced.false) c.if-ensure_connected.true c.requires.lent-words c.requires.lent-floats (search rules)

pub returns-else-ensure_connected : goal.returns-else-ensure_connected
returns-else-ensure_connected c = λ ps. joined-17 ps _ _ _ _ _ _ c.fill_neighbours.ensures c.ensure_connected.ensures (sym c.any_misplaced.ensures ∙ c.if-any_misplaced.false) c.if-ensure_connected.false
