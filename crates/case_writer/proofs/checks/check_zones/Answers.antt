use Rattle.case_writer.proofs.CheckLaws.{some-above, none_above, zones-45, zones-second, zones-46, zones-none}
use Rattle.case_writer.proofs.checks.check_zones.Goals as goal
use Rattle.case_writer.proofs.checks.check_zones.Goals.{else-edition-eq1-via-then-edition-eq1+else-most-gt0, else-edition-eq1-via-else-edition-eq1}

pub returns-then-most-gt255 : goal.returns-then-most-gt255
returns-then-most-gt255 c = zones-45 _ _ (some-above _ 255 _ c.largest_of-most.ensures c.if-most-gt255.true)

pub returns-then-most-gt0 : goal.returns-then-most-gt0
returns-then-most-gt0 c =
    zones-46 _ _ (none_above _ 255 _ c.largest_of-most.ensures c.if-most-gt255.false) c.if-edition-eq1.true
    (some-above _ 0 _ c.largest_of-most.ensures c.if-most-gt0.true)

pub returns : goal.returns
returns c =
    let a = none_above _ 255 _ c.largest_of-most.ensures c.if-most-gt255.false in
    elim c.else-edition-eq1.branch [
      | else-edition-eq1-via-then-edition-eq1+else-most-gt0 w ↦
          zones-none _ _ a w.if-edition-eq1.true (none_above _ 0 _ c.largest_of-most.ensures w.if-most-gt0.false)
      | else-edition-eq1-via-else-edition-eq1 w ↦ zones-second _ _ a w.if-edition-eq1.false
    ]
