use Rattle.lines_velocity.proofs.TracerLaws.{searching-field, searching-traces}
use Rattle.job_serve.proofs.Laws.{velocity-reply}
use Rattle.job_serve.proofs.serve_velocity.Goals as goal

pub velocity_at-v-requires : goal.velocity_at-v-requires
velocity_at-v-requires c = searching-traces _ _ _ _ _ c.searching-tracer.ensures c.requires

pub returns : goal.returns
returns c =
    velocity-reply _ _ _ _ _ (searching-field _ _ _ _ _ c.searching-tracer.ensures _) c.velocity_at-v.ensures c.put_velocity.ensures
