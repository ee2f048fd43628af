use Rattle.lines.proofs.JobLaws.{lines-begun, lines-turned, lines-ended, lines-written, written-words, words_more, seed-locates}
use lib.ListN.{length-append}
use mathlib.Core.List.{[], ◌++◌}
use mathlib.Core.Path.{refl}
use native.Mathlib.Omega.{arith}
use Rattle.lines.proofs.rakes.trace_all.Goals as goal

pub loop-i-init : goal.loop-i-init
loop-i-init c = record { done = []; as_many = refl; few = omega arith; stand = refl; locate = c.requires.rake_value; going = lines-begun _ _ _ }

pub trace-more-requires : goal.trace-more-requires
trace-more-requires c =
    let entry = c.requires in
    let i = c.loop-i.invariant in record {
      tracer_entry = entry.tracer_entry;
      at_bound = rw c.pen_at-pen.ensures (omega (arith, i.few, entry.le_count), refl, entry.le_count.2);
      seed_value = (seed-locates _ _ _ _ i.locate c.loop-i-test.true c.seed_at-seed.ensures).0;
    }

pub loop-i-preserved : goal.loop-i-preserved
loop-i-preserved c =
    let i = c.loop-i.invariant in
    let t = rw c.pen_at-pen.ensures at c.trace-more.ensures in
    let below = c.loop-i-test.true in
    let seed = c.seed_at-seed.ensures in
    record {
      done = i.done ++ written-words t.0;
      as_many = rw length-append (omega (arith, t.0.count));
      few = omega (arith, t.1);
      stand = words_more _ _ _ i.done _ _ i.as_many i.stand t.0;
      locate = (seed-locates _ _ _ _ i.locate below seed).1;
      going = lines-turned _ _ _ i.done _ i.going _ below seed t.0;
    }

pub returns : goal.returns
returns c =
    let i = c.loop-i.invariant in
    (lines-written (lines-ended _ _ _ i.done _ i.going c.loop-i-test.false) i.stand i.as_many, omega (arith, i.few, c.requires.le_count))
