use mathlib.Core.Path.{sym, ◌∙◌}
use Rattle.lines_locate.specs.Bins.{is_listed}
use Rattle.lines_locate.specs.Layout.{cell_polygon_in}
use Rattle.lines_locate.proofs.is_listed.Goals as goal

pub returns-then-reaches : goal.returns-then-reaches
unfolding is_listed cell_polygon_in
returns-then-reaches c = λ floats. rw (sym c.words_at-at.ensures, sym c.bin_at-first.ensures, sym c.bin_at-last.ensures, sym c.reaches.ensures ∙ c.if-reaches.true) c.reaches-then-reaches.ensures

pub returns-else-reaches : goal.returns-else-reaches
unfolding is_listed cell_polygon_in
returns-else-reaches c = λ floats. rw (sym c.words_at-at.ensures, sym c.bin_at-first.ensures, sym c.bin_at-last.ensures, sym c.reaches.ensures, c.if-reaches.false)
