use mathlib.Core.Path.{ap, sym, ◌∙◌}
use Rattle.arith_angles.specs.Sort.{sorted_places}
use Rattle.planes_crossings.proofs.HeldLaws.{holds_as, rest-as}
use Rattle.planes_sections.proofs.AngleLaws.{sorted-within, arranged}
use Rattle.planes_pieces.proofs.arrange.arrange_by.Goals as goal

pub gather-requires : goal.gather-requires
gather-requires c =
    (sorted-within _ _ _ _ _ _ _ (holds_as (sym c.angles_of.auto.quarters) c.requires.slice_lengths.0) c.sort_by_angle.ensures.places_after, holds_as (sym (c.sort_by_angle.auto.places ∙ c.requires.slopes_len.1)) c.requires.slice_lengths.1)

pub returns : goal.returns
returns c =
    (arranged _ _ _ _ _ _ _ _ _ _ _ _ c.angles_of.ensures (c.sort_by_angle.ensures.places_after ∙ ap (λ k. sorted_places c.angles_of.new.quarters c.angles_of.new.slopes k) c.angles_of.auto.quarters) (c.sort_by_angle.auto.places ∙ c.requires.slopes_len.1) c.gather.ensures.0, rest-as (c.sort_by_angle.auto.places ∙ c.requires.slopes_len.1) c.gather.ensures.1)
