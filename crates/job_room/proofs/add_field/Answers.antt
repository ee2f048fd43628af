use native.Mathlib.Omega.{arith}
use Rattle.std.proofs.lemmas.Result.{err_from_is_err_and}
use Rattle.case_file.proofs.TrailerLaws.{opens}
use Rattle.job_room.proofs.StepLaws.{add-field-solid, add-field-refused, add-field-flat}
use borrow.Author.Rules.{rules}
use Rattle.job_room.proofs.add_field.Goals as goal

pub returns-then-n-ne2 : goal.returns-then-n-ne2
returns-then-n-ne2 c = add-field-solid _ _ _ _ _ c.requires c.if-n-ne2.true

pub from_dataset-requires : goal.from_dataset-requires
from_dataset-requires c =
    let o = opens _ _ c.requires.opens in
    record { points_le_most_points = (o.points, omega (arith, o.whole), c.requires.lent-words, c.requires.lent-floats); vertex_limit = c.requires.few c.if-n-ne2.false }

pub returns-in_err-grid : goal.returns-in_err-grid
returns-in_err-grid c =
    let p = err_from_is_err_and c.from_residual.result c.from_residual.ensures.1 in
    rw (p.1, p.2) (add-field-refused _ _ _ _ _ c.requires c.if-n-ne2.false _ _ _ c.from_dataset.ensures.0 _ c.in_err-grid.was)

pub returns : goal.returns
returns c =
    add-field-flat _ _ _ _ _ c.requires c.if-n-ne2.false _ _ _ c.from_dataset.ensures.0 _ c.in_ok-grid.was
    (search rules) (search rules)
