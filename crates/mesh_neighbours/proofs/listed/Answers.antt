use mathlib.Core.Path.{◌∙◌}
use Prim.Native.Nat.{◌+◌, ◌-◌}
use lib.Dec.{eqb}
use lib.ListN.{take, drop}
use borrow.Author.Rules.{rules}
use borrow.Author.Tests.{tests}
use Rattle.std.proofs.lemmas.Iterator.{YieldsList-from_slice}
use Rattle.std.proofs.lemmas.Iterator.Search.{any_from_yields_List}
use Rattle.mesh_neighbours.proofs.NeighbourLaws.{any_listed}
use Rattle.mesh_neighbours.proofs.listed.Goals as goal

pub returns : goal.returns
returns c =
    let a = c.args in
    any_from_yields_List (eqb a.d) _ _ c.any.result c.any.ensures.ran
    (YieldsList-from_slice (take (a.at + a.n - a.at) (drop a.at a.words.now)) cc)
    (λ x b q k. search (rules, tests))
    ∙ any_listed a.words.now a.at a.n (eqb a.d) c.requires.0
