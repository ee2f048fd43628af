use native.Mathlib.Omega.{arith}
use lib.ListN.{length-set}
use Rattle.lines_field.proofs.bins.put_cell.Goals as goal

pub bounds-words-at-2 : goal.bounds-words-at-2
bounds-words-at-2 c = simp length-set (omega arith)

pub bounds-words-at-3 : goal.bounds-words-at-3
bounds-words-at-3 c = simp length-set (omega arith)

pub bounds-words-at-4 : goal.bounds-words-at-4
bounds-words-at-4 c = simp length-set (omega arith)

pub bounds-words-at-5 : goal.bounds-words-at-5
bounds-words-at-5 c = simp length-set (omega arith)

pub bounds-words-at-6 : goal.bounds-words-at-6
bounds-words-at-6 c = simp length-set (omega arith)

pub bounds-words-at-7 : goal.bounds-words-at-7
bounds-words-at-7 c = simp length-set (omega arith)

pub returns : goal.returns
returns c = rw (← c.bin_word.ensures, ← c.bin_word-2.ensures)
