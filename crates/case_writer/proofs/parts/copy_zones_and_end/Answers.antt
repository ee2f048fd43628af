use native.Mathlib.Omega.{arith}
use mathlib.Core.Path.{◌∙◌, sym}
use Rattle.case_file.specs.Trailer.{zones_from}
use Rattle.case_writer.proofs.PartLaws.{end_fits, tail-first, tail-second, zones-count, copied_at}
use Rattle.case_writer.proofs.parts.copy_zones_and_end.Goals as goal
use Rattle.case_writer.proofs.parts.copy_zones_and_end.Goals.{then-to-eq2, else-to-eq2}

pub copy_zones-requires : goal.copy_zones-requires
unfolding zones_from
copy_zones-requires c =
    let p = c.requires in
    (p.opens, omega (arith, end_fits _ c.args.out.now c.if-to-eq2.true p.end, p.points, p.words, p.cells))

pub returns : goal.returns
returns c =
    let p = c.requires in
    let k = zones-count _ _ p.opens ∙ sym p.cells in
    elim c.if-to-eq2.branch [
      | then-to-eq2 w ↦ tail-second _ _ _ w.if-to-eq2.true k p.end (copied_at _ _ _ p (w.out-is ∙ w.copy_zones.ensures)) c.put_end.ensures
      | else-to-eq2 w ↦ tail-first _ _ _ w.if-to-eq2.false (rw w.out-is at c.put_end.ensures)
    ]
