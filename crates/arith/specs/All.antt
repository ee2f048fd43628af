-- A property of a whole list.
use Rattle.std.specs.Prelude.{List, [], ◌∷◌}

-- each element has it
abbrev pub All : {A : Type 0} → (A → Type 0) → List A → Type 0
All P [] = Unit
All P (a ∷ l) = P a × All P l
