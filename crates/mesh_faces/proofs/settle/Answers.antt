use Rattle.mesh_faces.proofs.TableLaws.{is-new, is-second, is-third}
use borrow.Author.Rules.{rules}
use Rattle.mesh_faces.proofs.settle.Goals as goal

pub returns-then-at-eq0 : goal.returns-then-at-eq0
returns-then-at-eq0 c =
    is-new _ _ _ _ _ _ _ _ _ _ c.find-at.ensures.0 c.if-at-eq0.true c.requires.space c.add.ensures

pub returns-then-neighbour_word-eq0 : goal.returns-then-neighbour_word-eq0
returns-then-neighbour_word-eq0 c =
    is-second _ _ _ _ _ _ _ _ c.find-at.ensures.0 c.if-at-eq0.false c.find-at.ensures.1 c.requires _ _ c.neighbour_word.ensures c.if-neighbour_word-eq0.true c.store_neighbour.ensures (search rules)

pub returns : goal.returns
returns c =
    is-third _ _ _ _ _ _ _ _ c.find-at.ensures.0 c.if-at-eq0.false c.find-at.ensures.1 c.requires _ c.neighbour_word.ensures c.if-neighbour_word-eq0.false
