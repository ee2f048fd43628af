-- How many faces the definitions of a case have, and how many numbers each face has. Assumes nothing.
use Prim.Native.Nat.{ℕ, zero, suc, ◌+◌, ◌≤◌}
use native.Mathlib.Omega.{arith}
use mathlib.Core.Path.{◌≡◌}
use mathlib.Core.List.{List, [], ◌∷◌, map}
use lib.ListN.{length, take, drop, length-map, length-take}
use Rattle.arith.specs.Lists.{Side, sides}
use Rattle.arith.proofs.All.{All}
use Rattle.arith.proofs.ListLaws.{length-sides}
use Rattle.reading.proofs.ResultLaws.{bound}
use Rattle.case_definitions.specs.Faces.{Definition, solid, tetrahedron, hexahedron, prism, pyramid, ends, picked, faces_of}
use Rattle.case_definitions.specs.Definitions.{Taken, face_lists, definition, definitions}
use Rattle.case_definitions.proofs.WalkLaws.{face-first, faces-read}
use Rattle.case_definitions.proofs.RecordLaws.{IsSolid, is-tetrahedron, is-hexahedron, is-prism, is-pyramid, RecordCase, a-polygon, a-solid, a-polyhedron, record-case}
use Rattle.lines_vertices.proofs.Shapes.{Limited}
use Rattle.std.specs.Prelude.{Ok}

-- a side has two numbers
sides-short : (ss : List (Side ℕ)) → All (λ l. length l ≤ 8) (map ends ss)
unfolding ends
sides-short [] = tt
sides-short (s ∷ ss) = (omega arith, sides-short ss)

-- a face of a table has as many numbers as places
solid-limited : (kind : ℕ) (places : List (List ℕ)) (n : ℕ) (l : List ℕ) → IsSolid kind places n → Limited (solid places l)
unfolding faces_of picked tetrahedron hexahedron prism pyramid
solid-limited kind places n l is-tetrahedron = record { faces = omega arith; numbers = (omega arith, (omega arith, (omega arith, (omega arith, tt)))) }
solid-limited kind places n l is-hexahedron = record { faces = omega arith; numbers = (omega arith, (omega arith, (omega arith, (omega arith, (omega arith, (omega arith, tt)))))) }
solid-limited kind places n l is-prism = record { faces = omega arith; numbers = (omega arith, (omega arith, (omega arith, (omega arith, (omega arith, tt))))) }
solid-limited kind places n l is-pyramid = record { faces = omega arith; numbers = (omega arith, (omega arith, (omega arith, (omega arith, (omega arith, tt))))) }

-- a polyhedron's lists
lists-short : (ws : List ℕ) (n p : ℕ) (w : Taken (List (List ℕ))) → face_lists n (drop p ws) ≡ Ok w → All (λ l. length l ≤ 8) w.read
unfolding face_lists
lists-short ws zero p w e = let m : record { read = []; left = drop p ws } ≡ w = cc in rw (← m) tt
lists-short ws (suc n) p w e =
    let f = face-first ws n p w e in
    rw (← f.same) (omega (arith, f.first.few, length-take f.count (drop (p + 1) ws)), lists-short ws n (p + 1 + f.count) f.rest f.more)

limited : (ws : List ℕ) (w : Taken Definition) → definition ws ≡ Ok w → Limited w.read
unfolding faces_of
limited ws w e = by (record-case ws 0 w e)
  where
    by : RecordCase ws 0 w → Limited w.read
    by (a-polygon n k l m) =
        let t : List ℕ = take n (drop (0 + 2) ws) in
        rw m (record { faces = omega (arith, l.few, length-map (sides t) ends, length-sides t, length-take n (drop (0 + 2) ws)); numbers = sides-short (sides t) })
    by (a-solid kind places n k i r m) = rw m (solid-limited kind places n (take n (drop (0 + 1) ws)) i)
    by (a-polyhedron n f k r c few l m) =
        rw m (record { faces = omega (arith, (faces-read ws n (0 + 2) f r l).all); numbers = lists-short ws n (0 + 2) f l })

-- the definitions of a case
pub all-limited : (n : ℕ) (ws : List ℕ) (defs : List Definition) → definitions n ws ≡ Ok defs → All Limited defs
unfolding definitions
all-limited zero [] defs e = let w : [] ≡ defs = cc in rw (← w) tt
all-limited zero (x ∷ ws) defs e = absurd (let z : ◌≡◌ {A = ℕ} 0 1 = cc in omega arith)
all-limited (suc n) ws defs e =
    let b = bound _ _ _ e in
    let c = bound _ _ _ b.then in
    let w : b.value.read ∷ c.value ≡ defs = cc c.then in
    rw (← w) (limited ws b.value b.had, all-limited n b.value.left c.value c.had)
