use Rattle.std.proofs.lemmas.Result.{err_from_is_err_and}
use Rattle.case_writer.proofs.FileLaws.{slice-bits, checked-sized, write-wrong, write-right}
use Rattle.case_writer.proofs.write_case.Goals as goal

pub put_file-requires : goal.put_file-requires
put_file-requires c = checked-sized _ c.in_ok-check.ensures

pub returns-in_err-check : goal.returns-in_err-check
returns-in_err-check c =
    let p = err_from_is_err_and c.from_residual.result c.from_residual.ensures.1 in
    rw (p.1, p.2)
    (write-wrong _ (slice-bits _ c.args.points.now c.args.words.now c.args.velocities.now c.args.pressures.now c.args.zones.now c.type_inv.points c.type_inv.words c.type_inv.velocities c.type_inv.pressures c.type_inv.zones) _ _ c.in_err-check.ensures)

pub returns : goal.returns
returns c =
    write-right _ (slice-bits _ c.args.points.now c.args.words.now c.args.velocities.now c.args.pressures.now c.args.zones.now c.type_inv.points c.type_inv.words c.type_inv.velocities c.type_inv.pressures c.type_inv.zones) _ _ _ c.in_ok-check.ensures c.put_file.ensures
