use native.Mathlib.Omega.{arith}
use mathlib.Core.Path.{refl}
use Rattle.planes_sums.proofs.AccumulatorLaws.{section-size, statistics-size, section-added, statistics-added, integrals-added, probe-added}
use borrow.Author.Rules.{rules}
use Rattle.planes_sums.proofs.keep.add.Goals as goal

pub put_sample-requires : goal.put_sample-requires
put_sample-requires c = (search rules, search rules, omega (arith, section-size _ _ _ c.in-Section.is c.requires.3))

pub overflow_add-result : goal.overflow_add-result
overflow_add-result c = omega (arith, section-size _ _ _ c.in-Section.is c.requires.3)

pub overflow_add-result-in-Section : goal.overflow_add-result-in-Section
overflow_add-result-in-Section c = omega (arith, section-size _ _ _ c.in-Section.is c.requires.3)

pub overflow_add-result-in-Section-2 : goal.overflow_add-result-in-Section-2
overflow_add-result-in-Section-2 c = omega (arith, section-size _ _ _ c.in-Section.is c.requires.3)

pub add_summed-requires : goal.add_summed-requires
add_summed-requires c = (search rules, search rules, omega (arith, statistics-size _ _ _ c.in-Statistics.is c.requires.3))

pub returns-in-Section : goal.returns-in-Section
returns-in-Section c = section-added _ _ _ _ _ _ _ _ _ _ _ _ _ c.in-Section.is c.put_sample.ensures

pub returns-in-Statistics : goal.returns-in-Statistics
returns-in-Statistics c = statistics-added _ _ _ _ _ _ _ _ _ _ _ _ _ _ c.in-Statistics.is (c.add_summed.ensures _ _) refl

pub returns-in-Integrals : goal.returns-in-Integrals
returns-in-Integrals c = integrals-added _ _ _ _ _ _ _ _ _ _ _ _ _ c.in-Integrals.is (c.add_weighed.ensures _ _) refl

pub returns-in-Probe : goal.returns-in-Probe
returns-in-Probe c = probe-added _ _ _ _ _ _ _ _ _ _ _ _ _ _ c.in-Probe.is (c.add_probed.ensures _) refl
