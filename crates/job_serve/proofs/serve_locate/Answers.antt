use Rattle.lines_velocity.proofs.TracerLaws.{searching-field, searching-locates}
use Rattle.job_serve.proofs.Laws.{locate-reply}
use Rattle.job_serve.proofs.serve_locate.Goals as goal

pub locate-requires : goal.locate-requires
locate-requires c = searching-locates _ _ _ _ _ c.searching-tracer.ensures c.requires

pub returns : goal.returns
returns c =
    λ case f m.
    locate-reply _ _ _ _ _ (searching-field _ _ _ _ _ c.searching-tracer.ensures case) (c.locate.ensures.by_index case) c.put_located.ensures
