-- Laws of the ends of the exported functions. Assumes nothing.
use Prim.Native.Nat.{ℕ}
use mathlib.Core.Path.{◌≡◌, ap, subst, ◌∙◌}
use mathlib.Core.List.{List}
use lib.ListN.{length}
use Rattle.reading.specs.Result.{Refusable}
use Rattle.case_contents.specs.Contents.{Contents}
use Rattle.case_contents.specs.Refusals.{written, converted}
use Rattle.case_contents.specs.Promise.{WritePromise, ConvertPromise}
use Rattle.capi_values.specs.declared.WrittenFile.{WrittenFile}
use Rattle.capi_values.specs.Convert.{file_told}
use Rattle.job_promise.specs.Promise.{JobPromise}

pub number-promised : {case requests : List ℕ} {words floats : ℕ} {answers marks answers' marks' : List ℕ} {n r : ℕ}
    → JobPromise case requests words floats answers marks (record { result = n; answers = answers'; marks = marks' }) → r ≡ n
    → JobPromise case requests words floats answers marks (record { result = r; answers = answers'; marks = marks' })
number-promised p e = rw e p

-- ---- the answer of the writer and of the converter, told by its number and its length

pub written-told : (c : Contents) (before after : List ℕ) (w : Refusable ℕ) {r : WrittenFile} → WritePromise c before after (w) → r ≡ file_told (w) →
    (r ≡ file_told (written c (length before))) × WritePromise c before after (written c (length before))
written-told c before after w p e = (e ∙ ap file_told p.answer, subst (λ (a : Refusable ℕ). WritePromise c before after a) p.answer p)

pub converted-told : (d : ℕ) (file before after : List ℕ) (w : Refusable ℕ) {r : WrittenFile} → ConvertPromise d file before after (w) → r ≡ file_told (w) →
    (r ≡ file_told (converted d file (length before))) × ConvertPromise d file before after (converted d file (length before))
converted-told d file before after w p e = (e ∙ ap file_told p.answer, subst (λ (a : Refusable ℕ). ConvertPromise d file before after a) p.answer p)
