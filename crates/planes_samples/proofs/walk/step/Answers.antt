use native.Mathlib.Omega.{arith}
use mathlib.Core.List.{[]}
use Rattle.planes_cut.specs.Ensures.{bare}
use Rattle.planes_samples.proofs.StepLaws.{step_of, step-empty, piece-few, piece-full, holds-first}
use Rattle.planes_samples.proofs.walk.step.Goals as goal

pub take_sample-requires : goal.take_sample-requires
take_sample-requires c =
    let p = c.piece_of-piece.ensures [] in
    let few = piece-few p _ _ c.in-Some.is in
    let full = piece-full p _ _ c.in-Some.is in
    record { case_value = c.requires.sample_entry.0.is_open; slice_lengths = (holds-first few (record { in-x = omega (arith, c.piece_of-piece.auto.x, c.requires.slice_lengths.0.in-x); in-y = omega (arith, c.piece_of-piece.auto.y, c.requires.slice_lengths.0.in-y); in-z = omega (arith, c.piece_of-piece.auto.z, c.requires.slice_lengths.0.in-z) }), omega arith, few, c.requires.slice_lengths.1) }

pub returns-in-Some : goal.returns-in-Some
unfolding bare
returns-in-Some c = step_of _ _ _ _ _ _ _ _ _ _ _ (c.piece_of-piece.ensures []) _ _ _ _ _ c.in-Some.is c.take_sample.ensures

pub returns-in-None : goal.returns-in-None
unfolding bare
returns-in-None c = step-empty _ _ _ _ _ _ _ _ _ _ _ (c.piece_of-piece.ensures []) c.in-None.is
