use borrow.Author.Rules.{rules}
use native.Mathlib.Omega.{arith}
use Rattle.case_definitions.proofs.WalkLaws.{polygon-reads, polyhedron-reads, solid-1, solid-2, solid-3, solid-4}
use Rattle.case_records.proofs.EndLaws.{record-none, record-unknown, record-made}
use Rattle.case_records.proofs.record_end.Goals as goal

-- `case_records::record_end` meets its contract. Assumes nothing.
pub returns-then-words-at : goal.returns-then-words-at
returns-then-words-at c = search (record-none, rules)

pub returns-in-0 : goal.returns-in-0
returns-in-0 c = record-made _ _ _ _ _ (polygon-reads _ c.args.at (search rules)) c.list_end.ensures

pub returns-in-1 : goal.returns-in-1
returns-in-1 c = record-made _ _ _ _ _ (solid-1 _ c.args.at (search rules)).reads c.numbers_end.ensures

pub returns-in-2 : goal.returns-in-2
returns-in-2 c = record-made _ _ _ _ _ (solid-2 _ c.args.at (search rules)).reads c.numbers_end-in-2.ensures

pub returns-in-3 : goal.returns-in-3
returns-in-3 c = record-made _ _ _ _ _ (solid-3 _ c.args.at (search rules)).reads c.numbers_end-in-3.ensures

pub returns-in-4 : goal.returns-in-4
returns-in-4 c = record-made _ _ _ _ _ (solid-4 _ c.args.at (search rules)).reads c.numbers_end-in-4.ensures

pub returns-in-5 : goal.returns-in-5
returns-in-5 c = record-made _ _ _ _ _ (polyhedron-reads _ c.args.at (search rules)) c.faces_end.ensures

pub returns-in-6-to-4294967295 : goal.returns-in-6-to-4294967295
returns-in-6-to-4294967295 c = record-unknown c.args.words.now c.args.at (omega arith) (omega arith)
