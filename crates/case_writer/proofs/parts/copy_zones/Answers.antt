use borrow.Author.Rules.{rules}
use mathlib.Core.Path.{sym, ◌∙◌}
use Rattle.arith_bytes.proofs.StoreLaws.{listing-room, listing-wide, listing-ends}
use Rattle.case_file.specs.Trailer.{zones_from}
use Rattle.case_file.proofs.TrailerLaws.{opens}
use Rattle.case_file.proofs.ZoneLaws.{get_or-zones}
use Rattle.case_writer.proofs.PartLaws.{zones-count, zones-room}
use Rattle.case_writer.proofs.parts.copy_zones.Goals as goal

pub overflow_mul-at : goal.overflow_mul-at
overflow_mul-at c = let o = opens _ _ c.requires.0 in search rules

pub overflow_mul-at-2 : goal.overflow_mul-at-2
overflow_mul-at-2 c = let o = opens _ _ c.requires.0 in search rules

pub overflow_add-at : goal.overflow_add-at
overflow_add-at c = let o = opens _ _ c.requires.0 in search rules

pub overflow_mul-at-3 : goal.overflow_mul-at-3
overflow_mul-at-3 c = let o = opens _ _ c.requires.0 in search rules

pub overflow_add-at-2 : goal.overflow_add-at-2
overflow_add-at-2 c = let o = opens _ _ c.requires.0 in search rules

pub overflow_add-at-in-loop-i : goal.overflow_add-at-in-loop-i
overflow_add-at-in-loop-i c = let o = opens _ _ c.requires.0 in search rules

pub put_number-requires : goal.put_number-requires
put_number-requires c =
    let k = zones-count _ _ c.requires.0 in
    listing-room c.loop-i.invariant (zones-room _ _ _ c.requires.0 c.requires.1) (rw k c.loop-i-test.true)

pub loop-i-preserved : goal.loop-i-preserved
loop-i-preserved c =
    let k = zones-count _ _ c.requires.0 in
    listing-wide c.loop-i.invariant (zones-room _ _ _ c.requires.0 c.requires.1) _ (rw k c.loop-i-test.true)
    (c.from.ensures ∙ c.zone.ensures ∙ sym (get_or-zones _ _))
    c.put_number.ensures

pub returns : goal.returns
unfolding zones_from
returns c =
    let k = zones-count _ _ c.requires.0 in
    listing-ends c.loop-i.invariant (zones-room _ _ _ c.requires.0 c.requires.1) (rw k c.loop-i-test.false)
