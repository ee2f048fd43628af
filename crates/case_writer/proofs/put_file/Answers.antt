use mathlib.Core.Path.{refl}
use Rattle.case_writer.proofs.FileLaws.{file-short, front-room, file-there}
use Rattle.case_writer.proofs.put_file.Goals as goal

pub returns-then-out-length : goal.returns-then-out-length
returns-then-out-length c = file-short _ c.requires _ _ c.file_length-length.ensures c.if-out-length.true

pub put_fields-requires : goal.put_fields-requires
put_fields-requires c =
    let p = c.requires in
    record { sized = p; fits = front-room _ p c.args.out.now _ c.file_length-length.ensures c.if-out-length.false }

pub returns : goal.returns
returns c =
    file-there _ c.requires _ _ c.file_length-length.ensures c.if-out-length.false _ refl c.put_fields.ensures
    c.put_zones_and_end.ensures
