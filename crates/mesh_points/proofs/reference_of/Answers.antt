use native.Mathlib.Omega.{arith}
use mathlib.Core.Path.{◌≡◌}
use Rattle.std.specs.Prelude.{Some, None}
use Rattle.std.proofs.lemmas.Result.{err_from_is_err_and}
use Rattle.refusal.specs.declared.Refusal.TheVariants.{NoSuchPoint}
use Rattle.mesh_area.proofs.LayoutLaws.{length-points}
use Rattle.mesh_points.proofs.CollectLaws.{checked-kind, checked-missing, checked-point}
use Rattle.mesh_points.proofs.reference_of.Goals as goal

pub returns-then-wrong_kind : goal.returns-then-wrong_kind
returns-then-wrong_kind c = checked-kind _ _ _ _ (c.wrong_kind.ensures _ c.requires.0) c.if-wrong_kind.true

pub returns-in_err-n : goal.returns-in_err-n
returns-in_err-n c =
    let p = err_from_is_err_and c.from_residual.result c.from_residual.ensures.1 in
    let none : c.unique_vertices.result ≡ None = grind arith in
    let missing : c.in_err-n.field-0.0 ≡ NoSuchPoint = grind arith in
    rw (p.1, p.2, missing) (checked-missing _ _ _ _ (c.wrong_kind.ensures _ c.requires.0) c.if-wrong_kind.false _ _ _ (length-points _ _) c.unique_vertices.ensures none)

pub returns : goal.returns
returns c =
    let some : c.unique_vertices.result ≡ Some c.in_ok-n.n = grind arith in
    checked-point _ _ _ _ (c.wrong_kind.ensures _ c.requires.0) c.if-wrong_kind.false _ _ _ (length-points _ _) c.unique_vertices.ensures _ _ some c.average_point.ensures
