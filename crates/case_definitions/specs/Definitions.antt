-- "The definition words are read through one walker, cell after cell."
-- `Taken`: what was read, and what is left.
-- `numbers`, `counted`, `face_lists`: runs of words.
-- `made`, `kinds`, `definition`: one record.
-- `definitions`: all of them, or refusal 3.
use Rattle.std.specs.Prelude.{ℕ, zero, suc, true, false, cond, List, [], ◌∷◌, leb, length, get_or, take, drop, Ok, Err}
use Rattle.reading.specs.Result.{Refusable, ◌>>=◌}
use Rattle.case_definitions.specs.Faces.{Definition, polygon, solid, polyhedron, tetrahedron, hexahedron, prism, pyramid}
use Rattle.refusal.specs.declared.Refusal.TheVariants.{WrongDefinitions}

-- what was read, and what is left
pub record Taken (A : Type 0) : Type 0 where
  pub read : A
  pub left : List ℕ

-- n words, if there are so many
unfoldable pub numbers : ℕ → List ℕ → Refusable (Taken (List ℕ))
numbers n ws = cond (leb n (length ws)) (Ok (record { read = take n ws; left = drop n ws })) (Err WrongDefinitions)

-- a count of at most `limit`, and what it counts: "a count (at most 24), then its numbers"
unfoldable pub counted : {A : Type 0} → ℕ → (ℕ → List ℕ → Refusable (Taken A)) → List ℕ → Refusable (Taken A)
counted limit rest [] = Err WrongDefinitions
counted limit rest (n ∷ ws) = elim (leb n limit) [ false ↦ Err WrongDefinitions | true ↦ rest n ws ]

-- "per face a count (at most 8) and its numbers"
unfoldable pub face_lists : ℕ → List ℕ → Refusable (Taken (List (List ℕ)))
face_lists zero ws = Ok (record { read = []; left = ws })
face_lists (suc n) ws =
    counted 8 numbers ws >>= λ f. face_lists n f.left >>= λ fs. Ok (record { read = f.read ∷ fs.read; left = fs.left })

-- what was read, made into a definition
unfoldable pub made : {A : Type 0} → (A → Definition) → Refusable (Taken A) → Refusable (Taken Definition)
made f r = r >>= λ w. Ok (record { read = f w.read; left = w.left })

-- "The kind word is 0 polygon, 1 tetrahedron, 2 hexahedron, 3 prism, 4 pyramid, 5 polyhedron."
unfoldable pub kinds : List (List ℕ → Refusable (Taken Definition))
kinds =
    (λ ws. made polygon (counted 24 numbers ws))
    ∷ (λ ws. made (solid tetrahedron) (numbers 4 ws))
    ∷ (λ ws. made (solid hexahedron) (numbers 8 ws))
    ∷ (λ ws. made (solid prism) (numbers 6 ws))
    ∷ (λ ws. made (solid pyramid) (numbers 5 ws))
    ∷ (λ ws. made polyhedron (counted 24 face_lists ws))
    ∷ []

-- one record: "The kind word", then what the kind has
unfoldable pub definition : List ℕ → Refusable (Taken Definition)
definition [] = Err WrongDefinitions
definition (k ∷ ws) = get_or kinds k (λ ws. Err WrongDefinitions) ws

-- refusal 3: "unknown kind, inner count over its limit, or the words are not exactly C records"
unfoldable pub definitions : ℕ → List ℕ → Refusable (List Definition)
definitions zero [] = Ok []
definitions zero (w ∷ ws) = Err WrongDefinitions
definitions (suc n) ws = definition ws >>= λ d. definitions n d.left >>= λ ds. Ok (d.read ∷ ds)
