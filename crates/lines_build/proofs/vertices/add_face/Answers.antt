use Rattle.lines_field.proofs.VertexLaws.{behind_more, face-start, face-fits, face-turn, face-end}
use mathlib.Core.List.{[]}
use mathlib.Core.Path.{refl}
use borrow.Author.Rules.{rules}
use Rattle.lines_build.proofs.vertices.add_face.Goals as goal

pub loop-k-init : goal.loop-k-init
loop-k-init c = (search rules, face-start _ _ _ _ _, refl, refl, search rules)

pub push-n-requires : goal.push-n-requires
push-n-requires c = record { n_bound = search rules; p_len_bound = face-fits _ _ _ _ _ _ _ _ (c.vertex_count-count.ensures.0 []) c.loop-k.invariant.1 _ _ c.loop-k-test.true (c.vertex.ensures.0 []) c.xy_at-p.ensures c.requires.f_len_bound }

pub loop-k-preserved : goal.loop-k-preserved
loop-k-preserved c =
    let i = c.loop-k.invariant in
    let p = c.push-n.ensures in (
      search rules,
      face-turn _ _ _ _ _ _ _ _ (c.vertex_count-count.ensures.0 []) i.1 _ _ c.loop-k-test.true (c.vertex.ensures.0 []) c.xy_at-p.ensures _ p.0.points,
      behind_more _ _ _ _ _ p.1 i.2 p.0.xs-behind,
      behind_more _ _ _ _ _ p.1 i.3 p.0.ys-behind,
      search rules,
    )

pub returns : goal.returns
returns c = (
  record {
    points = face-end _ _ _ _ _ _ _ _ (c.vertex_count-count.ensures.0 []) c.loop-k.invariant.1 c.loop-k-test.false;
    few = search rules;
    xs-behind = c.loop-k.invariant.2;
    ys-behind = c.loop-k.invariant.3;
  },
  search rules,
)
