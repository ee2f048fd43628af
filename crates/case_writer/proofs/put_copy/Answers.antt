use borrow.Author.Rules.{rules}
use native.Mathlib.Omega.{arith}
use mathlib.Core.Path.{refl}
use Rattle.case_file.specs.Trailer.{zones_from}
use Rattle.case_contents.specs.Contents.{with_edition}
use Rattle.case_writer.proofs.FileLaws.{slice-bytes, file-short, file-there, copy-sized, to-sized, from-sized, to-trailer, case-room, out-room, front-copied, rest-stored}
use Rattle.case_writer.proofs.put_copy.Goals as goal

pub file_length-length-requires : goal.file_length-length-requires
unfolding with_edition
file_length-length-requires c = to-sized _ _ _ c.requires

pub returns-then-out-length : goal.returns-then-out-length
unfolding with_edition
returns-then-out-length c =
    let p = c.requires in
    file-short _ (copy-sized _ _ _ p) _ _ (to-trailer _ _ _ p _ c.file_length-length.ensures) c.if-out-length.true

pub overflow_mul-n : goal.overflow_mul-n
overflow_mul-n c = let s = from-sized _ _ _ c.requires in search rules

pub overflow_mul-n-2 : goal.overflow_mul-n-2
overflow_mul-n-2 c = let s = from-sized _ _ _ c.requires in search rules

pub overflow_add-n : goal.overflow_add-n
overflow_add-n c = let s = from-sized _ _ _ c.requires in search rules

pub overflow_mul-n-3 : goal.overflow_mul-n-3
overflow_mul-n-3 c = let s = from-sized _ _ _ c.requires in search rules

pub overflow_add-n-2 : goal.overflow_add-n-2
overflow_add-n-2 c = let s = from-sized _ _ _ c.requires in search rules

pub copy-requires : goal.copy-requires
unfolding with_edition zones_from
copy-requires c =
    let p = c.requires in
    (case-room _ _ _ p, out-room _ _ _ p c.args.out.now _ c.file_length-length.ensures c.if-out-length.false)

pub copy_zones_and_end-requires : goal.copy_zones_and_end-requires
unfolding with_edition
copy_zones_and_end-requires c =
    let p = c.requires in
    record { opens = p.opens; end = record { sized = to-sized _ _ _ p; fits = omega (arith, c.file_length-length.ensures, c.if-out-length.false) }; points = refl; words = refl; cells = refl }

pub returns : goal.returns
unfolding with_edition zones_from
returns c =
    let p = c.requires in
    file-there _ (copy-sized _ _ _ p) _ _ (to-trailer _ _ _ p _ c.file_length-length.ensures) c.if-out-length.false _ (front-copied _ _ _ p (slice-bytes c.args.case.now c.type_inv.case))
    c.copy.ensures
    (rest-stored _ _ _ p _ c.copy_zones_and_end.ensures)
