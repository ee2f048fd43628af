use Rattle.case_definitions.proofs.AlikeLaws.{run_none}
use Rattle.case_records.proofs.RunLaws.{run-within}
use Rattle.case_records.proofs.run_after.Goals as goal

pub returns-then-wait-gt0 : goal.returns-then-wait-gt0
returns-then-wait-gt0 c = run_none _ _ _ _ _ (run-within c.args.words.now c.args.from _ c.requires)
