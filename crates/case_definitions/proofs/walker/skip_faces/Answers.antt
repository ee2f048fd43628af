use Prim.Native.Nat.{◌+◌}
use mathlib.Core.Path.{◌≡◌, sym, ◌∙◌}
use native.Mathlib.Omega.{arith}
use Rattle.std.specs.Prelude.{Some}
use Rattle.std.proofs.lemmas.Result.{err_from_is_err_and}
use Rattle.case_file.proofs.ReadLaws.{length-words_in}
use Rattle.case_definitions.proofs.WalkLaws.{Lists, count-of, no-count, skip-bad, skip-next, skip-end, list_count}
use Rattle.case_definitions.specs.Ensures.{list_at}
use Rattle.case_file.specs.Trailer.{words_in}
use Rattle.case_definitions.proofs.walker.skip_faces.Goals as goal

-- the count that was found
found : (c : goal.In_ok-count) → Some c.in_ok-count.count ≡ list_at (words_in c.args.words.now) c.loop.at 8
found c = count-of _ _ _ _ c.list_at.ensures c.ok_or.ensures.value c.in_ok-count.was

-- the list that was found
there : (c : goal.In_ok-count) → Lists (words_in c.args.words.now) c.loop.at 8 c.in_ok-count.count
there c = list_count (words_in c.args.words.now) c.loop.at 8 c.in_ok-count.count (found c)

pub returns-in_err-count : goal.returns-in_err-count
returns-in_err-count c =
    let p = err_from_is_err_and c.from_residual.result c.from_residual.ensures.1 in
    let q = no-count _ _ _ _ c.list_at.ensures c.ok_or.ensures.value c.in_err-count.was in
    rw (p.1, p.2, q.0)
    (skip-bad (words_in c.args.words.now) c.args.n c.loop.counter c.loop.at c.loop-test.true q.1 ∙ c.loop.invariant.1)

pub overflow_add-at : goal.overflow_add-at
overflow_add-at c = omega (arith, (there c).room, length-words_in c.args.words.now)

pub overflow_add-at-in-loop : goal.overflow_add-at-in-loop
overflow_add-at-in-loop c = omega (arith, (there c).room, length-words_in c.args.words.now)

pub loop-preserved : goal.loop-preserved
loop-preserved c =
    let e : c.loop.at + (1 + c.in_ok-count.count) ≡ c.loop.at + 1 + c.in_ok-count.count = omega arith in
    rw e (
      (there c).room,
      sym
          (skip-next (words_in c.args.words.now) c.args.n c.loop.counter c.loop.at c.in_ok-count.count
          c.loop-test.true (found c))
          ∙ c.loop.invariant.1,
    )

pub returns : goal.returns
returns c = skip-end _ _ _ _ c.loop-test.false c.loop.invariant.0 ∙ c.loop.invariant.1
