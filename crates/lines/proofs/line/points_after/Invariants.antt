use Rattle.lines.proofs.LineLaws.{left}
use Rattle.lines_words.specs.Pen.{next_word, words_along, pen_along}
use Rattle.lines.specs.Line.{line_from}
use Rattle.lines_velocity.specs.Ensures.{tracer_field}
use Rattle.case_file.specs.Field.{values_of}
use Rattle.reading.proofs.Going.{Going}
use Rattle.arith.specs.declared.Vec3.{Vec3}
use Rattle.arith.specs.F64.{0·0}
use lib.Seq.{sets}
use mathlib.Core.List.{List}
use mathlib.Core.Path.{◌≡◌}
use Prim.Native.Nat.{◌≤◌, ◌-◌, ◌+◌}
use Rattle.lines.proofs.line.points_after.Given as goal

abbrev pub invariant-loop : goal.invariant-loop
invariant-loop l = record { done : List Vec3; few : l.pen.count ≤ l.counter + 1; place : l.pen.at ≡ l.initial.pen.at; written : l.out ≡ sets l.initial.out (next_word l.initial.pen) (words_along l.initial.pen done); drawn-by : l.pen ≡ pen_along l.initial.pen done; going : Going (line_from (tracer_field l.t l.case l.words l.floats) l.options l.h l.most l.initial.p 0·0) (values_of l.case) l.initial.marks (left (tracer_field l.t l.case l.words l.floats) l.options l.h done (l.most - l.counter) l.p l.total) l.marks }
