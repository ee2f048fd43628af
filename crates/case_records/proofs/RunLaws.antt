-- Records that look alike, over the answers of `record_end`. Assumes nothing.
use Prim.Native.Nat.{ℕ, ◌+◌, ◌-◌, ◌*◌, ◌≤◌, ◌<◌}
use native.Mathlib.Omega.{arith}
use mathlib.Core.Path.{◌≡◌, refl, ap, sym, ◌∙◌}
use mathlib.Core.List.{List, ◌++◌}
use lib.ListN.{length, get_or, drop, length-drop}
use Rattle.reading.specs.Result.{Refusable, ◌>>=◌}
use Rattle.case_definitions.specs.Faces.{Definition, face_count}
use Rattle.case_definitions.specs.Definitions.{definition, definitions}
use Rattle.case_definitions.specs.Ensures.{skipped, read_of, definition_at, Looks, RunExit}
use Rattle.case_definitions.proofs.RecordLaws.{definition-read}
use Rattle.case_definitions.proofs.AlikeLaws.{Ends, alike, Running, running-starts, running-next}
use Rattle.case_records.specs.Ensures.{checked}
use Rattle.case_records.proofs.EndLaws.{record-told}
use Rattle.std.specs.Prelude.{Ok, Err}

-- ---- run

module _ (ws : List ℕ) (from at : ℕ) (e : Ok at ≡ skipped ws (definition (drop from ws))) where
  ends-told : Ends ws from at (definition_at ws from)
  unfolding definition_at read_of
  ends-told =
      let r = record-told ws from at e in
      record { read = rw r.read; within = r.within }

  pub run-within : at ≤ length ws
  run-within = ends-told.within

  module _ (left : ℕ) where
    pub run-starts : Running ws from at left (face_count (definition_at ws from)) at 0
    run-starts = running-starts ws from at left (face_count (definition_at ws from)) run-within

    pub run-next : (p k : ℕ) → get_or ws from 0 ≤ 4 → from ≤ at → k < left → Looks ws from (at - from) p → Running ws from at left (face_count (definition_at ws from)) p k →
        Running ws from at left (face_count (definition_at ws from)) (p + (at - from)) (k + 1)
    run-next p k few b h l r =
        let q : from + (at - from) ≡ at = omega arith in
        let a = alike ws from (at - from) p (definition_at ws from) few (rw q ends-told) l in
        running-next ws from at left (face_count (definition_at ws from)) p k r h a

-- ---- walk

checked-run : (l : List Definition) (t : Refusable (List Definition)) → checked (t >>= λ ds. Ok (l ++ ds)) ≡ checked t
unfolding ◌>>=◌ checked
checked-run l (Err n) = refl
checked-run l (Ok ds) = refl

pub walk-run : (ws : List ℕ) (cells i at next faces k : ℕ) (whole : Refusable (Unit {0})) → i < cells → checked (definitions (cells - (i + 1)) (drop next ws)) ≡ whole →
    RunExit ws at next (cells - i - 1) faces k → checked (definitions (cells - (i + (k + 1))) (drop (next + k * (next - at)) ws)) ≡ whole
walk-run ws cells i at next faces k whole h e r =
    let f = r.few in
    let m : cells - (i + 1) ≡ k + (cells - (i + (k + 1))) = omega arith in
    sym (checked-run r.read (definitions (cells - (i + (k + 1))) (drop (next + k * (next - at)) ws)))
    ∙ ap checked (sym (r.rest (cells - (i + (k + 1)))))
    ∙ rw m at e

-- a record ends behind its start
pub run_past : (ws : List ℕ) (at q : ℕ) → Ok q ≡ skipped ws (definition (drop at ws)) → at ≤ q
run_past ws at q e =
    let t = ends-told ws at q e in
    let r = definition-read ws at _ t.read in
    let l : length (drop q ws) ≡ length (drop r.end ws) = ap length r.left in
    omega (arith, r.past, r.within, t.within, length-drop q ws, length-drop r.end ws)
