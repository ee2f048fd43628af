-- The contract of `walk`.
use Rattle.reading.specs.Result.{Refusable}
use Rattle.std.specs.Prelude.{Ok, Err}

-- whether something is refused
unfoldable pub checked : {A : Type 0} → Refusable A → Refusable (Unit {0})
checked (Err r) = Err r
checked (Ok a) = (Ok tt)
