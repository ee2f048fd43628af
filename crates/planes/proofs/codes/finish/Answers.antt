use native.Mathlib.Omega.{arith}
use mathlib.Core.Path.{◌≡◌}
use mathlib.Core.List.{[]}
use Rattle.std.specs.Prelude.{Some, None}
use Rattle.std.proofs.lemmas.Result.{err_from_is_err_and}
use Rattle.refusal.specs.declared.Refusal.TheVariants.{SampleNotFinite}
use Rattle.planes.proofs.ReplyLaws.{close-section, close-statistics, close-integrals, close-probe, close-bad}
use Rattle.planes.proofs.codes.finish.Goals as goal

pub returns-in_err-t : goal.returns-in_err-t
returns-in_err-t c =
    let p = err_from_is_err_and c.from_residual.result c.from_residual.ensures.1 in
    let none : c.args.r ≡ None = grind arith in
    let refusal : c.in_err-t.field-0.0 ≡ SampleNotFinite = grind arith in
    rw (p.1, p.2, refusal) (close-bad _ [] _ none)

pub returns-in-Section : goal.returns-in-Section
returns-in-Section c =
    let some : c.args.r ≡ Some c.in_ok-t.t = grind arith in
    close-section _ _ _ _ some _ _ c.in-Section.is c.put.ensures

pub returns-in-Statistics : goal.returns-in-Statistics
returns-in-Statistics c =
    let some : c.args.r ≡ Some c.in_ok-t.t = grind arith in
    close-statistics _ _ _ _ some _ _ _ c.in-Statistics.is c.end_statistics.ensures

pub returns-in-Integrals : goal.returns-in-Integrals
returns-in-Integrals c =
    let some : c.args.r ≡ Some c.in_ok-t.t = grind arith in
    close-integrals _ _ _ _ some _ _ c.in-Integrals.is c.end_integrals.ensures

pub returns-in-Probe : goal.returns-in-Probe
returns-in-Probe c =
    let some : c.args.r ≡ Some c.in_ok-t.t = grind arith in
    close-probe _ _ _ _ some _ _ c.in-Probe.is c.put_probed.ensures
