-- The words of points and values, each float by its bits.
use Rattle.std.specs.Prelude.{ℕ, List, [], ◌∷◌, ◌++◌}
use Rattle.arith.specs.F64.{word}
use Rattle.arith.specs.declared.Vec3.{Vec3}
use Rattle.reading.specs.declared.Values.{Values}

-- a point
unfoldable pub vec_words : Vec3 → List ℕ
vec_words p = word p.x ∷ word p.y ∷ word p.z ∷ []

-- points, one after another
unfoldable pub point_words : List Vec3 → List ℕ
point_words [] = []
point_words (p ∷ l) = vec_words p ++ point_words l

-- "velocity, pressure"
unfoldable pub values_words : Values → List ℕ
values_words v = vec_words v.velocity ++ word v.pressure ∷ []
