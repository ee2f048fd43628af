-- "Refused jobs (1 to 19) give only the number": a value, or a refusal.
use Rattle.std.specs.Prelude.{Bool, true, false, List, [], ◌∷◌, Ok, Err}
use Rattle.std.specs.declared.result.Result.{Result}
use Rattle.refusal.specs.declared.Refusal.{Refusal}

-- a value, or why there is none
abbrev pub Refusable : Type 0 → Type 0
Refusable A = Result A Refusal

-- goes on with a value; a refusal stays
infixl 20 ◌>>=◌
unfoldable pub ◌>>=◌ : {A B : Type 0} → Refusable A → (A → Refusable B) → Refusable B
◌>>=◌ (Err r) h = Err r
◌>>=◌ (Ok a) h = h a

-- refusal r where the test holds; "Checked in rising order"
unfoldable pub refuse : Refusal → Bool → Refusable (Unit {0})
refuse r true = Err r
refuse r false = Ok tt

-- the state after each element in turn, or the first refusal
unfoldable pub steps : {A B : Type 0} → (B → A → Refusable B) → B → List A → Refusable B
steps f s [] = Ok s
steps f s (a ∷ l) = f s a >>= λ t. steps f t l

-- each element's value, or the first refusal: "cell by cell"
unfoldable pub map_all : {A B : Type 0} → (A → Refusable B) → List A → Refusable (List B)
map_all f [] = Ok []
map_all f (a ∷ l) = f a >>= λ b. map_all f l >>= λ bs. Ok (b ∷ bs)
