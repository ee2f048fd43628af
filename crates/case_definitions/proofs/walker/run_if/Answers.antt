use Rattle.case_file.specs.Trailer.{words_in}
use Rattle.case_definitions.proofs.AlikeLaws.{head-ends, run_none}
use Rattle.case_definitions.proofs.walker.run_if.Goals as goal

-- `case_definitions::walker::run_if` meets its contract. Assumes nothing.
pub returns-then-wait-gt0 : goal.returns-then-wait-gt0
returns-then-wait-gt0 c = run_none _ _ _ _ _ (head-ends (words_in c.args.words.now) c.args.h c.args.at c.requires).within
