-- How the promises of a function's parts make its own. Assumes nothing.
use Prim.Native.Nat.{ℕ}
use mathlib.Core.Path.{refl, ap, sym, ◌∙◌}
use mathlib.Core.List.{List}
use Rattle.reading.specs.declared.Values.{Values}
use Rattle.reading.specs.Asks.{Asks, give, run, reads, ◌>>=◌}
use Rattle.reading.specs.Marks.{mark_all}
use Rattle.reading.specs.Served.{Served}
use Rattle.reading.proofs.Going.{Going}
use Rattle.reading.proofs.AsksLaws.{run_bind, reads-bind}
use Rattle.reading.proofs.MarksLaws.{mark_all-append}

module _ {A : Type 0} {whole : Asks A} {f : ℕ → Values} {m₀ : List ℕ} where
  -- a part was served
  pub going-part : {B : Type 0} {t : Asks B} (h : B → Asks A) {m m' : List ℕ} {r : B} →
      Going whole f m₀ (t >>= h) m → Served t f m m' r → Going whole f m₀ (h r) m'
  going-part {t} h {m} g s =
      record {
        answer = ap (λ x. run (h x) f) s.answer ∙ sym (run_bind t h f) ∙ g.answer;
        marks =
            rw (s.answer, s.marks)
            (sym (mark_all-append m (reads t f) (reads (h (run t f)) f)) ∙ ap (mark_all m) (sym (reads-bind t h f)) ∙ g.marks);
      }

  -- nothing is left to do
  pub going_end : {m : List ℕ} {a : A} → Going whole f m₀ (give a) m → Served whole f m₀ m a
  going_end g = record { answer = g.answer; marks = g.marks }

  -- what is left is a last part
  pub going-last : {t : Asks A} {m m' : List ℕ} {a : A} → Going whole f m₀ t m → Served t f m m' a → Served whole f m₀ m' a
  going-last g s = record { answer = s.answer ∙ g.answer; marks = s.marks ∙ g.marks }

-- at the start
pub going_start : {A : Type 0} (t : Asks A) (f : ℕ → Values) (m : List ℕ) → Going t f m t m
going_start t f m = record { answer = refl; marks = refl }

module _ {A : Type 0} {f : ℕ → Values} where
  -- an answer that needs no cell
  pub served-give : {a : A} {m : List ℕ} → Served (give a) f m m a
  served-give = record { answer = refl; marks = refl }

  -- one part after another
  pub served-then : {B : Type 0} {t : Asks B} (h : B → Asks A) {m m' m'' : List ℕ} {b : B} {a : A} →
      Served t f m m' b → Served (h b) f m' m'' a → Served (t >>= h) f m m'' a
  served-then {t} h {m} s r = going-last (going-part h (going_start (t >>= h) f m) s) r
