use Rattle.std.proofs.Common.{◌≡◌, refl, ◌∙◌, sym, ap, arith, [], length, drop}
use Rattle.arith.specs.Lists.{fold}
use Rattle.arith.proofs.ListLaws.{foldl-next}
use Rattle.arith.proofs.RecordLaws.{drop-end}
use Rattle.test_stored.specs.Fnv.{hash_byte}
use Rattle.test_stored.proofs.FnvLaws.{word_bytes}
use Rattle.test_stored.proofs.fnv.word.Goals as goal

pub loop-b-init : goal.loop-b-init
loop-b-init c = refl

pub loop-b-preserved : goal.loop-b-preserved
loop-b-preserved c =
    let l = c.loop-b in
    let n : length c.to_le_bytes-b-items.result ≡ 8 = ap length c.to_le_bytes-b-items.ensures in
    rw c.byte-hash.ensures (sym (foldl-next c.to_le_bytes-b-items.result l.b-index 0 (omega arith) hash_byte l.hash) ∙ l.invariant)

pub returns : goal.returns
unfolding fold
returns c =
    let l = c.loop-b in
    let n : length c.to_le_bytes-b-items.result ≡ 8 = ap length c.to_le_bytes-b-items.ensures in
    let none : drop l.b-index c.to_le_bytes-b-items.result ≡ [] = drop-end _ l.b-index (omega arith) in
    rw none at l.invariant ∙ ap (fold hash_byte c.args.h) c.to_le_bytes-b-items.ensures ∙ word_bytes c.args.h c.args.x
