-- `velocity_at` and `direction_at`: the located cell's velocity, blended toward the nearest neighbour's.
-- `located_in`, `locate_in`: the cell of a point, with its position and alone. `centre_of`, `neighbours_of`: a cell's centre and its neighbours.
-- `distance_squared`, `nearer_of`, `nearest_of`: the nearest of some cells.
-- `blended`, `apart`, `beside_if`, `beside`, `beside_nearest`, `toward`: a cell's velocity, blended toward that of a neighbour.
-- `velocity_in`, `velocity_where`, `velocity_at`: the velocity at a point.
-- `from`: what goes on from a vector, where there is one. `unit`, `direction_at`: the direction at a point.
use Rattle.std.specs.Prelude.{ℕ, Bool, true, false, not, cond, ◌&&◌, List, [], ◌∷◌, get_or, drop, Float, Some, None}
use Rattle.arith.specs.F64.{◌⊘◌, ◌≺◌, ◌≼◌, 2^-52, finite, clamp, nearer}
use Rattle.arith.specs.Lists.{fold}
use Rattle.arith.specs.Vec.{plus, minus, times, over, dot, norm_squared, norm}
use Rattle.arith.specs.declared.Vec3.{Vec3}
use Rattle.reading.specs.Asks.{Asks, give, ask, ◌>>=◌}
use Rattle.mesh_area.specs.Tables.{Cell, cell_at}
use Rattle.lines_locate.specs.declared.Located.{Located}
use Rattle.lines_locate.specs.Locate.{locate, located}
use Rattle.lines_locate.specs.Field.{StreamlineField}
use Rattle.std.specs.declared.option.Option.{Option}

-- `locate_cell`, with where the point lies to the cell's polygon
unfoldable pub located_in : StreamlineField → Vec3 → Located
located_in f p = located f.search f.grid f.polygons p

-- `locate_cell`
unfoldable pub locate_in : StreamlineField → Vec3 → Option ℕ
locate_in f p = locate f.search f.grid f.polygons p

-- the centre of a cell
unfoldable pub centre_of : List Cell → ℕ → Vec3
centre_of cells i = (cell_at cells i).centre

-- its neighbours, "in face order"
unfoldable pub neighbours_of : List Cell → ℕ → List ℕ
neighbours_of cells i = (cell_at cells i).neighbours

-- the squared distance of a cell's centre from p
unfoldable pub distance_squared : List Cell → Vec3 → ℕ → Float
distance_squared cells p i = norm_squared (minus p (centre_of cells i))

-- "first of equal distances"
unfoldable pub nearer_of : List Cell → Vec3 → ℕ → ℕ → ℕ
nearer_of cells p best i = cond (nearer (distance_squared cells p i) (distance_squared cells p best)) i best

-- the nearest of some cells, of which there is one
unfoldable pub nearest_of : List Cell → Vec3 → List ℕ → ℕ
nearest_of cells p l = fold (nearer_of cells p) (get_or l 0 0) (drop 1 l)

-- from `base` toward `there`, by the fraction of p on the way from the centre along the offset
unfoldable pub blended : Vec3 → Vec3 → Vec3 → Vec3 → Vec3 → Vec3
blended p centre offset base there = plus base (times (minus there base) (clamp (dot (minus p centre) offset ⊘ norm_squared offset)))

-- "squared centre distance finite and above 2^-52"
unfoldable pub apart : Vec3 → Bool
apart offset = finite (norm_squared offset) && not (norm_squared offset ≼ 2^-52)

-- "also the nearest one's, even at fraction 0"
unfoldable pub beside_if : Bool → StreamlineField → Vec3 → ℕ → Vec3 → ℕ → Asks Vec3
beside_if false f p i base k = give base
beside_if true f p i base k = ask k give >>= λ v. give (blended p (centre_of f.cells i) (minus (centre_of f.cells k) (centre_of f.cells i)) base v.velocity)

-- the blend of cell i's velocity with that of neighbour k
unfoldable pub beside : StreamlineField → Vec3 → ℕ → Vec3 → ℕ → Asks Vec3
beside f p i base k = beside_if (apart (minus (centre_of f.cells k) (centre_of f.cells i))) f p i base k

-- "with neighbours (in face order, first of equal distances)"
unfoldable pub beside_nearest : StreamlineField → Vec3 → ℕ → Vec3 → List ℕ → Asks Vec3
beside_nearest f p i base [] = give base
beside_nearest f p i base (n ∷ ns) = beside f p i base (nearest_of f.cells p (n ∷ ns))

-- cell i's velocity, blended with that of its nearest neighbour, if it has one
unfoldable pub toward : StreamlineField → Vec3 → ℕ → Vec3 → Asks Vec3
toward f p i base = beside_nearest f p i base (neighbours_of f.cells i)

-- "Velocity reads the located cell"
unfoldable pub velocity_in : StreamlineField → Vec3 → ℕ → Asks Vec3
velocity_in f p i = ask i give >>= λ v. toward f p i v.velocity

-- the velocity in the cell that was found, or nowhere
unfoldable pub velocity_where : StreamlineField → Vec3 → Option ℕ → Asks (Option Vec3)
velocity_where f p None = give None
velocity_where f p (Some i) = velocity_in f p i >>= λ v. give (Some v)

-- "Velocity reads the located cell"; "nothing where its point locates nowhere"
unfoldable pub velocity_at : StreamlineField → Vec3 → Asks (Option Vec3)
velocity_at f p = velocity_where f p (locate_in f p)

-- goes on from what was found; ends where there is nothing
unfoldable pub from : (Vec3 → Asks (Option Vec3)) → Option Vec3 → Asks (Option Vec3)
from h (Some p) = h p
from h None = give None

-- the unit vector of a velocity: "Equal to stagnation_speed ends"
unfoldable pub unit : Float → Vec3 → Option Vec3
unit stagnation v = cond (finite (norm v) && (stagnation ≺ norm v)) (Some (over v (norm v))) None

-- `direction_at`
unfoldable pub direction_at : StreamlineField → Float → Vec3 → Asks (Option Vec3)
direction_at f stagnation p = velocity_at f p >>= from (λ v. give (unit stagnation v))
