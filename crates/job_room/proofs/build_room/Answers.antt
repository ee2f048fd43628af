use Rattle.std.proofs.lemmas.Result.{err_from_is_err_and}
use Rattle.job_room.proofs.StepLaws.{built-refused, built-room, field-ready, prepared-as}
use Rattle.job_room.proofs.build_room.Goals as goal

pub add_field-requires : goal.add_field-requires
add_field-requires c =
    field-ready _ _ c.requires.defs _ _ _ _ (c.build.ensures c.requires.defs c.requires.right) _ c.in_ok-s.was c.requires.opens c.requires.right

pub returns-in_err-s : goal.returns-in_err-s
returns-in_err-s c =
    let p = err_from_is_err_and c.from_residual.result c.from_residual.ensures.1 in
    rw (p.1, p.2) (λ defs e. built-refused _ _ defs _ _ _ _ (c.build.ensures defs e) _ c.in_err-s.was)

pub returns : goal.returns
returns c = λ defs e. prepared-as (built-room _ _ defs _ _ _ _ (c.build.ensures defs e) _ c.in_ok-s.was) c.add_field.ensures
