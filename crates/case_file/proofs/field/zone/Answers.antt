use mathlib.Core.Path.{sym, ◌∙◌}
use native.Mathlib.Omega.{arith}
use Rattle.case_file.proofs.ZoneLaws.{zone-there, zone-fits, zone-first, zone-none}
use Rattle.case_file.proofs.TrailerLaws.{opens}
use Rattle.case_file.proofs.field.zone.Goals as goal
use Rattle.case_file.proofs.field.zone.Goals.{then-n-ne2-via-then-n-ne2, then-n-ne2-via-else-n-ne2+then-n-i}

pub returns-then-n-ne2 : goal.returns-then-n-ne2
returns-then-n-ne2 c = elim c.then-n-ne2.branch [
  | then-n-ne2-via-then-n-ne2 w ↦ sym (zone-first _ _ c.requires _ w.if-n-ne2.true)
  | then-n-ne2-via-else-n-ne2+then-n-i w ↦ sym (zone-none _ _ c.requires _ w.if-n-ne2.false w.if-n-i.true)
]

pub overflow_mul-zones : goal.overflow_mul-zones
overflow_mul-zones c = omega (arith, (opens _ _ c.requires).whole)

pub overflow_mul-zones-2 : goal.overflow_mul-zones-2
overflow_mul-zones-2 c = omega (arith, (opens _ _ c.requires).whole)

pub overflow_add-zones : goal.overflow_add-zones
overflow_add-zones c = omega (arith, (opens _ _ c.requires).whole)

pub overflow_mul-zones-3 : goal.overflow_mul-zones-3
overflow_mul-zones-3 c = omega (arith, (opens _ _ c.requires).whole)

pub overflow_add-zones-2 : goal.overflow_add-zones-2
overflow_add-zones-2 c = omega (arith, (opens _ _ c.requires).whole)

pub overflow_mul-i : goal.overflow_mul-i
overflow_mul-i c = omega (arith, (opens _ _ c.requires).cells, zone-fits _ _ c.requires _ c.if-n-ne2.false c.if-n-i.false)

pub overflow_add-zones-3 : goal.overflow_add-zones-3
overflow_add-zones-3 c = omega (arith, (opens _ _ c.requires).cells, zone-fits _ _ c.requires _ c.if-n-ne2.false c.if-n-i.false)

pub word_at-requires : goal.word_at-requires
word_at-requires c = omega (arith, (opens _ _ c.requires).cells, zone-fits _ _ c.requires _ c.if-n-ne2.false c.if-n-i.false)

pub returns : goal.returns
returns c = c.word_at.ensures ∙ sym (zone-there _ _ c.requires _ c.if-n-ne2.false c.if-n-i.false)
