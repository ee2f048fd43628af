use native.Mathlib.Omega.{arith}
use Rattle.planes_samples.proofs.StepLaws.{streamed-any}
use borrow.Author.Rules.{rules}
use Rattle.planes_samples.proofs.walk.sample_all.Goals as goal

pub sample_each-requires : goal.sample_each-requires
sample_each-requires c =
    record { sample_entry = (c.requires.0, omega (arith, c.requires.0.lent.long-words.few-cells)); slice_lengths = (record { in-x = search rules; in-y = search rules; in-z = search rules }, c.requires.1) }

pub returns : goal.returns
returns c = streamed-any _ _ _ _ _ _ _ _ _ _ _ _ _ c.cut_of-cut.ensures c.sample_each.ensures
