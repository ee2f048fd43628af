use Prim.Native.Nat.{◌+◌}
use lib.ListN.{length, length-set}
use mathlib.Core.Path.{◌≡◌, refl, sym, ◌∙◌}
use native.Mathlib.Omega.{arith}
use Rattle.arith.specs.Records.{part}
use Rattle.arith.proofs.RecordLaws.{get_or_part, length_part}
use Rattle.case_file.proofs.ReadLaws.{length-words_in}
use Rattle.case_file.specs.Trailer.{words_in}
use Rattle.case_faces.proofs.FaceLaws.{face-of-polyhedron, copy-next, list_copied}
use Rattle.case_faces.proofs.copy_list.Goals as goal

pub word-count-requires : goal.word-count-requires
word-count-requires c =
    let p = c.requires in
    let f = face-of-polyhedron (words_in c.args.words.now) c.args.h c.args.c p.0 p.1 p.3 in
    omega (arith, f.room)

pub loop-j-init : goal.loop-j-init
loop-j-init c =
    let p = c.requires in
    let f = face-of-polyhedron (words_in c.args.words.now) c.args.h c.args.c p.0 p.1 p.3 in
    (omega (arith, c.word-count.ensures, f.few), p.2, p.2, omega (arith, c.word-count.ensures, f.room), refl)

pub overflow_add-c : goal.overflow_add-c
overflow_add-c c = omega (arith, length-words_in c.args.words.now)

pub overflow_add-c-in-loop-j : goal.overflow_add-c-in-loop-j
overflow_add-c-in-loop-j c = omega (arith, length-words_in c.args.words.now)

pub loop-j-preserved : goal.loop-j-preserved
loop-j-preserved c =
    let a = c.args in
    let l = c.loop-j in
    let n = c.word-count.result in
    let ws = words_in a.words.now in
    let f = part ws (a.c.at + 1) n in
    let k : length f ≡ n = length_part ws (a.c.at + 1) n l.invariant.3 in (
      l.invariant.0,
      l.invariant.1,
      simp length-set (omega arith),
      l.invariant.3,
      copy-next a.out.now f l.out l.j c.word.result l.invariant.4 (omega arith) (omega arith)
          (c.word.ensures ∙ sym (get_or_part ws (a.c.at + 1) n l.j 0 (omega arith))),
    )

pub overflow_add-result-2 : goal.overflow_add-result-2
overflow_add-result-2 c = omega (arith, length-words_in c.args.words.now)

pub overflow_add-result-3 : goal.overflow_add-result-3
overflow_add-result-3 c = omega (arith, length-words_in c.args.words.now)

pub returns : goal.returns
returns c =
    let p = c.requires in
    let l = c.loop-j in
    list_copied _ _ _ p.0 p.1 _ p.2 _ l.out l.j p.3 c.word-count.ensures l.invariant.4 (omega arith) (omega arith)
