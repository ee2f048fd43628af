use mathlib.Core.Path.{refl, ◌∙◌}
use Prim.Native.Nat.{◌-◌}
use lib.Dec.{ltb}
use borrow.Author.Rules.{rules}
use borrow.Author.Tests.{tests}
use Rattle.std.proofs.lemmas.Iterator.{YieldsList-from_range}
use Rattle.std.proofs.lemmas.Iterator.Search.{any_from_yields_List}
use Rattle.job_requests.specs.Requests.{words_at, number}
use Rattle.job_requests.proofs.Laws.{set_by_number}
use Rattle.job_requests.proofs.any_set.Goals as goal

pub returns : goal.returns
returns c =
    let a = c.args in
    any_from_yields_List (λ i. ltb 0 (number (words_at a.bytes.now a.at) i)) _ _ c.any.result c.any.ensures.ran
    (YieldsList-from_range a.k 16 (16 - a.k) refl refl)
    (λ x b q h. search (rules, tests))
    ∙ set_by_number a.bytes.now a.at a.k
