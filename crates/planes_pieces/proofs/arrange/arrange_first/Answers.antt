use mathlib.Core.Path.{sym, ◌∙◌}
use lib.Seq.{length-take-le}
use Rattle.planes_crossings.proofs.HeldLaws.{holds_as}
use Rattle.planes_pieces.proofs.arrange.arrange_first.Goals as goal

pub slice_bounds-arrange_by-end-2 : goal.slice_bounds-arrange_by-end-2
slice_bounds-arrange_by-end-2 c = sym (length-take-le c.args.n c.args.quarters.now c.requires.n_in_bounds.0)

pub slice_bounds-arrange_by-end-4 : goal.slice_bounds-arrange_by-end-4
slice_bounds-arrange_by-end-4 c = sym (length-take-le c.args.n c.args.slopes.now c.requires.n_in_bounds.1)

pub slice_bounds-arrange_by-end-6 : goal.slice_bounds-arrange_by-end-6
slice_bounds-arrange_by-end-6 c = sym (length-take-le c.args.n c.args.places.now c.requires.n_in_bounds.2)

pub arrange_by-requires : goal.arrange_by-requires
arrange_by-requires c =
    let a = c.args in
    let q = sym (length-take-le a.n a.quarters.now c.requires.n_in_bounds.0) in
    record { slice_lengths = (holds_as q c.requires.slice_lengths.0, holds_as q c.requires.slice_lengths.1); slopes_len = (length-take-le a.n a.slopes.now c.requires.n_in_bounds.1 ∙ q, length-take-le a.n a.places.now c.requires.n_in_bounds.2 ∙ q) }

pub returns : goal.returns
returns c =
    let a = c.args in
    rw (length-take-le a.n a.quarters.now c.requires.n_in_bounds.0) at c.arrange_by.ensures
