use Rattle.lines_field.specs.Bins.{bin_counts}
use Rattle.lines_field.proofs.bins.bin_counts.Goals as goal

pub returns : goal.returns
unfolding bin_counts
returns c = record { counts = rw (c.bin_count-y.ensures.0, c.bin_count-x.ensures.0, c.aspect-ratio.ensures, c.max-count.ensures); wide = c.bin_count-x.ensures.1; high = c.bin_count-y.ensures.1 }
