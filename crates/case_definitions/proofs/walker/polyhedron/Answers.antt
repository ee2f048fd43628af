use native.Mathlib.Omega.{arith}
use Rattle.std.proofs.lemmas.Result.{err_from_is_err_and}
use Rattle.case_definitions.proofs.WalkLaws.{polyhedron-none, polyhedron-over, polyhedron-short, polyhedron-there}
use Rattle.case_file.specs.Trailer.{words_in}
use Rattle.case_definitions.proofs.walker.polyhedron.Goals as goal

pub returns-then-all-at : goal.returns-then-all-at
returns-then-all-at c = polyhedron-none _ _ c.requires (omega arith)

pub returns-then-n-gt24 : goal.returns-then-n-gt24
returns-then-n-gt24 c = polyhedron-over _ _ c.requires _ (omega arith) c.word_at-n.ensures c.if-n-gt24.true

pub returns-in_err-next : goal.returns-in_err-next
returns-in_err-next c =
    let p = err_from_is_err_and c.from_residual.result c.from_residual.ensures.1 in
    rw (p.1, p.2)
    (polyhedron-short (words_in c.args.words.now) c.args.at c.requires _ (omega arith) c.word_at-n.ensures c.if-n-gt24.false _ c.in_err-next.ensures)

pub returns : goal.returns
returns c =
    polyhedron-there (words_in c.args.words.now) c.args.at c.requires _ (omega arith) c.word_at-n.ensures
    c.if-n-gt24.false _ c.in_ok-next.ensures
