use Prim.Native.Nat.{◌+◌}
use mathlib.Core.Path.{◌≡◌}
use native.Mathlib.Omega.{arith}
use Rattle.std.specs.Prelude.{Some}
use Rattle.std.proofs.lemmas.Result.{err_from_is_err_and}
use Rattle.case_definitions.proofs.WalkLaws.{count-of, no-count, list_count, polygon-bad, polygon-there}
use Rattle.case_definitions.specs.Ensures.{list_at}
use Rattle.case_file.specs.Trailer.{words_in}
use Rattle.case_definitions.proofs.walker.polygon.Goals as goal

-- the count that was found
there : (c : goal.In_ok-n) → Some c.in_ok-n.n ≡ list_at (words_in c.args.words.now) (c.args.at + 1) 24
there c = count-of _ _ _ _ c.list_at.ensures c.ok_or.ensures.value c.in_ok-n.was

pub returns-in_err-n : goal.returns-in_err-n
returns-in_err-n c =
    let p = err_from_is_err_and c.from_residual.result c.from_residual.ensures.1 in
    let q = no-count _ _ _ _ c.list_at.ensures c.ok_or.ensures.value c.in_err-n.was in
    rw (p.1, p.2, q.0) (polygon-bad _ _ c.requires q.1)

pub overflow_add-result-3 : goal.overflow_add-result-3
overflow_add-result-3 c =
    omega (arith, (list_count (words_in c.args.words.now) (c.args.at + 1) 24 c.in_ok-n.n (there c)).few)

pub returns : goal.returns
returns c = polygon-there _ _ c.requires _ (there c)
