use mathlib.Core.Path.{sym, ◌∙◌}
use borrow.Author.Tests.{lt-ltb, le-ltb}
use Rattle.job_requests.specs.Requests.{by_code}
use Rattle.job_requests.proofs.by_code.Goals as goal

pub returns-then-code-gt12 : goal.returns-then-code-gt12
unfolding by_code
returns-then-code-gt12 c = rw (lt-ltb _ _ c.if-code-gt12.true, ← c.search_of-search.ensures) c.streamline.ensures

pub returns-then-is_planar : goal.returns-then-is_planar
unfolding by_code
returns-then-is_planar c = rw (le-ltb _ _ c.if-code-gt12.false, sym c.is_planar.ensures ∙ c.if-is_planar.true) c.planar.ensures

pub returns : goal.returns
unfolding by_code
returns c =
    rw (le-ltb _ _ c.if-code-gt12.false, sym c.is_planar.ensures ∙ c.if-is_planar.false, ← c.plain_code.ensures, ← c.search_of-search.ensures)
    c.over_field.ensures
