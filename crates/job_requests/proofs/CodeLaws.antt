-- The table of codes, row by row. Assumes nothing.
use Prim.Native.Nat.{ℕ, zero, suc, ◌≤◌, ◌<◌}
use native.Mathlib.Omega.{arith}
use mathlib.Core.Path.{◌≡◌, ap, sym, ◌∙◌}
use mathlib.Core.Logic.{◌⊎◌, inl, inr, ◌≢◌}
use lib.ListN.{get_or-eq_default}
use Rattle.arith.proofs.RecordLaws.{lt-or-ge}
use Rattle.job_requests.specs.declared.Code.{Code}
use Rattle.job_requests.specs.Codes.{row, unknown, codes, code_of}

-- a row of the table, whose lines start where the 16 words hold them
abbrev pub Row : ℕ → Code → Type 0
Row code r = (r ≡ code_of code) × (r.line < 12)

-- code is none of 1 to n
abbrev pub Passed : ℕ → ℕ → Type 0
Passed code zero = Unit
Passed code (suc n) = Passed code n × (code ≢ suc n)

above : (code n : ℕ) → Passed code n → 1 ≤ code → suc n ≤ code
above code zero p l = l
above code (suc n) p l = let k = above code n p.0 l in let d = p.1 in omega arith

module _ (code : ℕ) {r : Code} where
  row_by : {s : Code} → s.line < 12 → s ≡ code_of code → r ≡ s → Row code r
  row_by l e h = (h ∙ e, rw h l)

  pub row_is : (n : ℕ) {s : Code} → s.line < 12 → s ≡ code_of n → code ≡ n → r ≡ s → Row code r
  row_is n l e k h = row_by l (e ∙ ap code_of (sym k)) h

  -- no code: 0, and from 15 on
  pub row-unknown : Passed code 14 → r ≡ row 0 0 0 → Row code r
  unfolding code_of codes unknown row
  row-unknown h e = row_by (omega arith) (by (lt-or-ge code 1)) e
    where
      by : (code < 1) ⊎ (1 ≤ code) → unknown ≡ code_of code
      by (inl l) = let z : code ≡ 0 = omega arith in ap code_of (sym z)
      by (inr l) = sym (get_or-eq_default codes unknown (above code 14 h l))
