-- "Vec3 as a struct of three floats": sums and products in the Rust's order, each rounded once.
-- `vec`, `pair`, `origin`: a vector and a pair by their coordinates, and the zero vector.
-- `plus`, `minus`, `times`, `over`: sum and difference, and a vector times or over a number.
-- `dot`, `norm_squared`, `norm`, `cross`: the products and the length.
-- `each3`: all three coordinates pass.
use Rattle.std.specs.Prelude.{Bool, ◌&&◌, Float}
use Rattle.arith.specs.F64.{◌⊕◌, ◌⊖◌, ◌⊗◌, ◌⊘◌, 0·0}
use Rattle.arith_root.specs.Root.{root}
use Rattle.arith.specs.declared.Vec3.{Vec3}
use Rattle.arith.specs.declared.Vec2.{Vec2}

-- a vector by its coordinates
abbrev pub vec : Float → Float → Float → Vec3
vec x y z = record { x = x; y = y; z = z }

-- a pair by its coordinates
abbrev pub pair : Float → Float → Vec2
pair x y = record { x = x; y = y }

-- `Vec3::ZERO`
abbrev pub origin : Vec3
origin = vec 0·0 0·0 0·0

-- `a + b`
unfoldable pub plus : Vec3 → Vec3 → Vec3
plus a b = vec (a.x ⊕ b.x) (a.y ⊕ b.y) (a.z ⊕ b.z)

-- `a - b`
unfoldable pub minus : Vec3 → Vec3 → Vec3
minus a b = vec (a.x ⊖ b.x) (a.y ⊖ b.y) (a.z ⊖ b.z)

-- `a * t`
unfoldable pub times : Vec3 → Float → Vec3
times a t = vec (a.x ⊗ t) (a.y ⊗ t) (a.z ⊗ t)

-- `a / t`
unfoldable pub over : Vec3 → Float → Vec3
over a t = vec (a.x ⊘ t) (a.y ⊘ t) (a.z ⊘ t)

-- `a.dot(b)`
unfoldable pub dot : Vec3 → Vec3 → Float
dot a b = a.x ⊗ b.x ⊕ a.y ⊗ b.y ⊕ a.z ⊗ b.z

-- `a.norm_squared()`
unfoldable pub norm_squared : Vec3 → Float
norm_squared a = dot a a

-- `a.norm()`
unfoldable pub norm : Vec3 → Float
norm a = root (norm_squared a)

-- `a.cross(b)`
unfoldable pub cross : Vec3 → Vec3 → Vec3
cross a b = vec (a.y ⊗ b.z ⊖ a.z ⊗ b.y) (a.z ⊗ b.x ⊖ a.x ⊗ b.z) (a.x ⊗ b.y ⊖ a.y ⊗ b.x)

-- all three coordinates pass
unfoldable pub each3 : (Float → Bool) → Vec3 → Bool
each3 p a = p a.x && (p a.y && p a.z)
