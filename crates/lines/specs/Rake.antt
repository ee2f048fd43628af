-- `integrate_rake`: a line from each of the seeds between two points, with the refusals 34 and 35.
use Rattle.std.specs.Prelude.{ℕ, ◌-◌, not, List, [], ◌∷◌, ◌++◌, Ok}
use Rattle.arith.specs.F64.{◌⊘◌, ofℕ}
use Rattle.arith.specs.Lists.{any_of}
use Rattle.arith.specs.Records.{tab}
use Rattle.arith.specs.Vec.{plus, minus, times}
use Rattle.arith.specs.declared.Vec3.{Vec3}
use Rattle.reading.specs.Asks.{Asks, give, ◌>>=◌}
use Rattle.reading.specs.Result as result
use Rattle.reading.specs.Result.{Refusable, refuse}
use Rattle.lines_locate.specs.Field.{StreamlineField}
use Rattle.lines_words.specs.declared.Style.TheVariants.{Points}
use Rattle.lines.specs.declared.Rake.{Rake}
use Rattle.lines.specs.declared.StreamlineSettings.{StreamlineSettings}
use Rattle.lines.specs.Line.{line_answer, are_accepted, nowhere}
use Rattle.refusal.specs.declared.Refusal.TheVariants.{WrongOptions, SeedNowhere}

-- `start + (end - start) * t`, seed i of count
unfoldable pub seed_at : Rake → ℕ → Vec3
seed_at r i = plus r.start (times (minus r.end r.start) (ofℕ i ⊘ ofℕ (r.count - 1)))

-- all of them, from start to end
unfoldable pub seeds : Rake → List Vec3
seeds r = tab (seed_at r) r.count

-- the words of one line after another: "each line as in 3"
unfoldable pub lines_words : StreamlineField → StreamlineSettings → List Vec3 → Asks (List ℕ)
lines_words f s [] = give []
lines_words f s (p ∷ ps) = line_answer f Points s p >>= λ l. lines_words f s ps >>= λ ws. give (l ++ ws)

-- "4: line count, each line as in 3"; "35 seed (of a rake: any seed) locates nowhere"
unfoldable pub integrate_rake : StreamlineField → Rake → StreamlineSettings → Refusable (Asks (List ℕ))
integrate_rake f r s =
    result.◌>>=◌ (refuse WrongOptions (not (are_accepted s.options))) (λ _.
    result.◌>>=◌ (refuse SeedNowhere (any_of (nowhere f) (seeds r))) (λ _.
    Ok (lines_words f s (seeds r) >>= λ ws. give (r.count ∷ ws))))
