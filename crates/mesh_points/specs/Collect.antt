-- What `from_cells` asks of a cell before its faces: refusals 11 and 12, and the average of its points.
use Rattle.std.specs.Prelude.{ℕ, Bool, not, ◌||◌, List, leb, ltb, eqb, length, Ok, Err}
use Rattle.arith.specs.Lists.{any_of, flatten}
use Rattle.arith.specs.declared.Vec3.{Vec3}
use Rattle.reading.specs.Result.{Refusable, ◌>>=◌, refuse}
use Rattle.case_definitions.specs.Faces.{Definition, polygon, solid, polyhedron, faces_of}
use Rattle.mesh_averages.specs.Averages.{average}
use Rattle.mesh_numbers.specs.Numbers.{rising}
use Rattle.refusal.specs.declared.Refusal.TheVariants.{WrongKind, NoSuchPoint}

-- refusal 11: "polygon under 3 points, polyhedron under 4 faces, kind against dimension"
unfoldable pub wrong_kind : ℕ → Definition → Bool
wrong_kind d (polygon l) = not (eqb d 2) || ltb (length l) 3
wrong_kind d (solid places l) = not (eqb d 3)
wrong_kind d (polyhedron faces) = not (eqb d 3) || ltb (length faces) 4

-- refusal 12: "point number not below P"
unfoldable pub missing : List Vec3 → Definition → Bool
missing ps def = any_of (leb (length ps)) (flatten (faces_of def))

-- "its cell averages in rising point order", over distinct numbers
unfoldable pub reference_of : List Vec3 → Definition → Vec3
reference_of ps def = average ps (rising (flatten (faces_of def)))

-- refusals 11 and 12 of a cell, or the average of its points
unfoldable pub checked : ℕ → List Vec3 → Definition → Refusable Vec3
checked d ps def = refuse WrongKind (wrong_kind d def) >>= λ _. refuse NoSuchPoint (missing ps def) >>= λ _. Ok (reference_of ps def)

-- what each case of the answer stands for
