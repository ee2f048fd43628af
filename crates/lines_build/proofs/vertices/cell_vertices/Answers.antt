use Rattle.lines_field.proofs.VertexLaws.{behind_more, cell-start, cell-fits, cell-turn, cell-end}
use mathlib.Core.List.{[]}
use mathlib.Core.Path.{refl}
use borrow.Author.Rules.{rules}
use Rattle.lines_build.proofs.vertices.cell_vertices.Goals as goal

pub loop-k-init : goal.loop-k-init
loop-k-init c = (search rules, cell-start _ _ _ _ _ _, refl, refl)

pub add_face-n-requires : goal.add_face-n-requires
add_face-n-requires c = record { points_le_most_points = search rules; f_len_bound = cell-fits _ _ _ _ _ _ _ _ (c.face_count-count.ensures.0 []) c.loop-k.invariant.1 _ c.loop-k-test.true (c.cell_face-f.ensures.0 []) c.requires.i_len_bound }

pub loop-k-preserved : goal.loop-k-preserved
loop-k-preserved c =
    let i = c.loop-k.invariant in
    let f = c.add_face-n.ensures in (
      search rules,
      cell-turn _ _ _ _ _ _ _ _ (c.face_count-count.ensures.0 []) i.1 _ c.loop-k-test.true (c.cell_face-f.ensures.0 []) _ f.0.points,
      behind_more _ _ _ _ _ f.1 i.2 f.0.xs-behind,
      behind_more _ _ _ _ _ f.1 i.3 f.0.ys-behind,
    )

pub returns : goal.returns
returns c =
    record {
      points = cell-end _ _ _ _ _ _ _ _ (c.face_count-count.ensures.0 []) c.loop-k.invariant.1 c.loop-k-test.false;
      few = search rules;
      xs-behind = c.loop-k.invariant.2;
      ys-behind = c.loop-k.invariant.3;
    }
