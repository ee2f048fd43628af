use native.Mathlib.Omega.{arith}
use mathlib.Core.Path.{◌≡◌}
use mathlib.Core.List.{[]}
use Rattle.std.specs.Prelude.{Some, None}
use Rattle.std.proofs.lemmas.Result.{err_from_is_err_and}
use Rattle.refusal.specs.declared.Refusal.TheVariants.{FluxNotFinite}
use Rattle.planes.proofs.ReplyLaws.{statistics-refused, statistics-put, statistics-none}
use Rattle.planes.proofs.codes.end_statistics.Goals as goal

pub returns-in_err-t : goal.returns-in_err-t
returns-in_err-t c =
    let p = err_from_is_err_and c.from_residual.result c.from_residual.ensures.1 in
    let none : c.args.r ≡ None = grind arith in
    let refusal : c.in_err-t.field-0.0 ≡ FluxNotFinite = grind arith in
    rw (p.1, p.2, refusal) (statistics-none _ [] _ none)

pub returns-then-is_empty : goal.returns-then-is_empty
returns-then-is_empty c =
    let some : c.args.r ≡ Some c.in_ok-t.t = grind arith in
    statistics-refused _ [] _ _ _ some c.is_empty.ensures c.if-is_empty.true

pub returns : goal.returns
returns c =
    let some : c.args.r ≡ Some c.in_ok-t.t = grind arith in
    statistics-put _ _ _ _ _ some c.is_empty.ensures c.if-is_empty.false c.put_statistics.ensures
