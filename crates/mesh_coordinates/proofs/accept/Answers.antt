use mathlib.Core.Path.{sym, ◌∙◌}
use Rattle.mesh_coordinates.proofs.Laws.{accept-8, accept-9, accept-10, accept-all}
use Rattle.mesh_coordinates.proofs.accept.Goals as goal

pub returns-then-n-eq0 : goal.returns-then-n-eq0
returns-then-n-eq0 c = λ defs e. accept-8 _ defs (e ∙ c.if-n-eq0.true)

pub returns-then-not-all_finite : goal.returns-then-not-all_finite
returns-then-not-all_finite c = λ defs e. accept-9 _ defs (λ z. c.if-n-eq0.false (sym e ∙ z)) (sym c.all_finite.ensures ∙ c.if-not-all_finite.true)

pub returns-then-not-all_within : goal.returns-then-not-all_within
returns-then-not-all_within c = λ defs e. accept-10 _ defs (λ z. c.if-n-eq0.false (sym e ∙ z)) (sym c.all_finite.ensures ∙ c.if-not-all_finite.false) (sym c.all_within.ensures ∙ c.if-not-all_within.true)

pub returns : goal.returns
returns c = λ defs e. accept-all _ defs (λ z. c.if-n-eq0.false (sym e ∙ z)) (sym c.all_finite.ensures ∙ c.if-not-all_finite.false) (sym c.all_within.ensures ∙ c.if-not-all_within.false)
