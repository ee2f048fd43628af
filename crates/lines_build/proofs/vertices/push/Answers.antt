use Rattle.lines_field.proofs.VertexLaws.{push-had, push-fits, pushed}
use mathlib.Core.Path.{refl}
use native.Mathlib.Omega.{arith}
use borrow.Author.Rules.{rules}
use Rattle.lines_build.proofs.vertices.push.Goals as goal

pub returns-then-contains : goal.returns-then-contains
returns-then-contains c = (
  record {
    points = push-had _ _ _ _ _ c.contains.ensures c.if-contains.true;
    few = search rules;
    xs-behind = refl;
    ys-behind = refl;
  },
  search rules,
)

pub bounds-xs-n : goal.bounds-xs-n
bounds-xs-n c = omega (arith, push-fits _ _ _ _ _ c.contains.ensures c.if-contains.false c.requires.p_len_bound)

pub bounds-ys-n : goal.bounds-ys-n
bounds-ys-n c = omega (arith, push-fits _ _ _ _ _ c.contains.ensures c.if-contains.false c.requires.p_len_bound)

pub returns : goal.returns
returns c =
    let h = push-fits _ _ _ _ _ c.contains.ensures c.if-contains.false c.requires.p_len_bound in
    (pushed _ _ _ _ _ c.contains.ensures c.if-contains.false h (omega arith) (omega arith), omega arith)
