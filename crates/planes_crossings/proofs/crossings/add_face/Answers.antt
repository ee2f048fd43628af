use native.Mathlib.Omega.{arith}
use mathlib.Core.Path.{refl, ap, ◌∙◌}
use mathlib.Core.List.{[]}
use Rattle.planes_crossings.specs.Crossings.{add_face}
use Rattle.planes_cut.specs.Ensures.{face_vertex}
use Rattle.planes_cut.proofs.Turns.{fold_done}
use Rattle.planes_crossings.proofs.HeldLaws.{rest-same, rest_then}
use Rattle.planes_crossings.proofs.SideLaws.{sides-left, sides-past, count-vertices, few-vertices, side-added, after-within, listed-as, listed-turn}
use borrow.Author.Rules.{rules}
use Rattle.planes_crossings.proofs.crossings.add_face.Goals as goal

pub loop-k-init : goal.loop-k-init
unfolding add_face
loop-k-init c = (search rules, search rules, rest-same, c.end_at-a.ensures.1, λ h. c.end_at-a.ensures.0, refl)

pub add_crossing-n-requires : goal.add_crossing-n-requires
add_crossing-n-requires c =
    let a = c.args in
    let i = c.loop-k.invariant in
    let h = c.requires.mesh_lent.1 in
    let few = few-vertices a.case.now a.points a.s a.words.now a.f c.vertex_count-count.result (c.vertex_count-count.ensures.0 []) c.requires.f_len_bound in
    let test = c.loop-k-test.true in
    (i.3, c.end_at-b.ensures.1, record { in-x = omega arith; in-y = omega arith; in-z = omega arith })

pub loop-k-preserved : goal.loop-k-preserved
loop-k-preserved c =
    let a = c.args in
    let i = c.loop-k.invariant in
    let k = c.loop-k.k in
    let n = c.vertex_count-count.result in
    let e = c.vertex_count-count.ensures.0 [] in
    let t = c.loop-k-test.true in
    let next = c.next_of.ensures.0 in
    let b = c.end_at-b.ensures in
    let added = c.add_crossing-n.ensures in
    let g = sides-left a.case.now a.points a.s a.words.now a.f n e k t in
    (omega (arith, added.few), omega (arith, added.more), rest_then added.more i.2 added.rest, b.1, (λ h. b.0 ∙ ap (face_vertex _ a.f) (next ∙ after-within n k h)), listed-turn g _ _ _ i.5 (listed-as (side-added _ _ _ _ _ _ _ _ _ (i.4 t) b.0 next (count-vertices a.case.now a.points a.s a.words.now a.f n e)) added))

pub returns : goal.returns
returns c =
    let a = c.args in
    let i = c.loop-k.invariant in
    let few = few-vertices a.case.now a.points a.s a.words.now a.f c.vertex_count-count.result (c.vertex_count-count.ensures.0 []) c.requires.f_len_bound in
    record { list = fold_done (sides-past a.case.now a.points a.s a.words.now a.f c.vertex_count-count.result (c.vertex_count-count.ensures.0 []) c.loop-k.k c.loop-k-test.false) _ _ i.5; more = i.1; few = omega arith; rest = i.2 }
