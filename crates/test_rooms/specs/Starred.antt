-- The twelve starred rooms of 01 as one table. Each row but the two roots is a whole job by `outcome`, from case bytes to answer words and marks.
use Rattle.std.specs.Prelude.{ℕ, ◌^◌, ◌-◌, ◌≡◌, refl, List, [], ◌∷◌, ◌++◌, map, Float}
use Rattle.arith.specs.F64.{float, word, 0·0, 0·5, 1·0, 2·0, 3·0}
use Rattle.arith_root.specs.Root.{root}
use Rattle.arith.specs.Lists.{flatten}
use Rattle.arith.specs.Vec.{vec}
use Rattle.arith.specs.declared.Vec3.{Vec3}
use Rattle.answers.specs.Words.{vec_words}
use Rattle.test_rooms.specs.Computing.{computing}
use Rattle.test_rooms.specs.Printed.{bytes, bytes_from, lends}
use Rattle.test_rooms.specs.OnePass.{ran, below, seen, one_pass, due, by-computing}
use Rattle.test_rooms.specs.Files.{case_file, request, told, Gives, Computed}

-- a quarter
abbrev 0·25 : Float
0·25 = float 0x3fd0000000000000

-- three quarters
abbrev 0·75 : Float
0·75 = float 0x3fe8000000000000

-- one and a half
abbrev 1·5 : Float
1·5 = float 0x3ff8000000000000

-- "Pair: points (0,0) (1,0) (2,0) (0,1) (1,1) (2,1), heights 0; polygons 0 1 4 3 and 1 2 5 4; velocities (1,0,0), (3,0,0), pressures 0."
unfoldable pub pair : List ℕ
pair =
    case_file 2
    (vec 0·0 0·0 0·0 ∷ vec 1·0 0·0 0·0 ∷ vec 2·0 0·0 0·0 ∷ vec 0·0 1·0 0·0 ∷ vec 1·0 1·0 0·0 ∷ vec 2·0 1·0 0·0 ∷ [])
    (0 ∷ 4 ∷ 0 ∷ 1 ∷ 4 ∷ 3 ∷ 0 ∷ 4 ∷ 1 ∷ 2 ∷ 5 ∷ 4 ∷ [])
    (vec 1·0 0·0 0·0 ∷ vec 3·0 0·0 0·0 ∷ [])
    (0·0 ∷ 0·0 ∷ [])

-- the corners of a unit square at a height
unfoldable pub square : Float → List Vec3
square h = vec 0·0 0·0 h ∷ vec 1·0 0·0 h ∷ vec 1·0 1·0 h ∷ vec 0·0 1·0 h ∷ []

-- "Unit cube, velocity (0,0,2), pressure 3"
unfoldable pub cube : List ℕ
cube = case_file 3 (square 0·0 ++ square 1·0) (2 ∷ 0 ∷ 1 ∷ 2 ∷ 3 ∷ 4 ∷ 5 ∷ 6 ∷ 7 ∷ []) (vec 0·0 0·0 2·0 ∷ []) (3·0 ∷ [])

-- "Cube 1 stacked on cube 0"
unfoldable pub stack : List ℕ
stack =
    case_file 3 (square 0·0 ++ (square 1·0 ++ square 2·0))
    (2 ∷ 0 ∷ 1 ∷ 2 ∷ 3 ∷ 4 ∷ 5 ∷ 6 ∷ 7 ∷ 2 ∷ 4 ∷ 5 ∷ 6 ∷ 7 ∷ 8 ∷ 9 ∷ 10 ∷ 11 ∷ [])
    (vec 0·0 0·0 2·0 ∷ vec 0·0 0·0 2·0 ∷ [])
    (3·0 ∷ 3·0 ∷ [])

-- locate (x, 0.5)
unfoldable pub locate : Float → List ℕ
locate x = 1 ∷ vec_words (vec x 0·5 0·0)

-- velocity at (x, 0.5)
unfoldable pub velocity : Float → List ℕ
velocity x = 2 ∷ vec_words (vec x 0·5 0·0)

-- "Line from (0.25,0.5), forward, step 0.25, 10 steps, .. length 0.5"
unfoldable pub streamline : Float → List ℕ
streamline stagnation = 3 ∷ (vec_words (vec 0·25 0·5 0·0) ++ 0 ∷ word 0·25 ∷ 10 ∷ word 0·5 ∷ word stagnation ∷ [])

-- "plane z = .., u along X, v along Y"
unfoldable pub level : ℕ → Float → List ℕ
level code h = code ∷ (vec_words (vec 0·0 0·0 h) ++ (vec_words (vec 1·0 0·0 0·0) ++ vec_words (vec 0·0 1·0 0·0)))

-- all that the table computes with
unfoldable pub opening : Unit {0}
unfolding computing case_file request told bytes bytes_from lends ran below seen one_pass due pair square cube stack locate velocity streamline level
opening = tt

-- the rows; `Row` says of a case, a request, the answer words and the cells read that the job gives
-- these. Behind the cell of a locate stands 02's "0 none, 1 edge, 2 inside": x = 1 is a side of the
-- first square
pub record Rooms (Row : List ℕ → List ℕ → List ℕ → List ℕ → Type 0) : Type 0 where
  pub inside-first : Row pair (locate 0·5) (0 ∷ 2 ∷ []) []
  pub on-the-wall : Row pair (locate 1·0) (0 ∷ 1 ∷ []) []
  pub inside-second : Row pair (locate 1·5) ((2 ^ 64 - 1) ∷ 0 ∷ []) []
  pub at-the-end : Row pair (locate 2·0) ((2 ^ 64 - 1) ∷ 0 ∷ []) []
  pub blended : Row pair (velocity 0·75) (1 ∷ vec_words (vec 1·5 0·0 0·0)) (0 ∷ 1 ∷ [])
  pub unblended : Row pair (velocity 0·25) (1 ∷ vec_words (vec 1·0 0·0 0·0)) (0 ∷ 1 ∷ [])
  pub line :
      Row pair (streamline 0·0)
      (3 ∷ (vec_words (vec 0·25 0·5 0·0) ++ (vec_words (vec 0·5 0·5 0·0) ++ vec_words (vec 0·75 0·5 0·0))))
      (0 ∷ 1 ∷ [])
  pub seed-alone : Row pair (streamline 1·0) (1 ∷ vec_words (vec 0·25 0·5 0·0)) (0 ∷ 1 ∷ [])
  pub cube-integrals : Row cube (level 7 0·5) (word 1·0 ∷ word 3·0 ∷ word 2·0 ∷ word 2·0 ∷ []) (0 ∷ [])
  -- one polygon: cell 0, four vertices, their centre, the vertices, velocity and pressure
  pub stack-section :
      Row stack (level 5 1·0)
      (1 ∷ 0 ∷ 4 ∷ (vec_words (vec 0·5 0·5 1·0) ++ (flatten (map vec_words (square 1·0)) ++ (vec_words (vec 0·0 0·0 2·0) ++ word 3·0 ∷ []))))
      (0 ∷ [])
  pub root-of-two : word (root 2·0) ≡ 0x3ff6a09e667f3bcd
  pub root-of-least : word (root (float 1)) ≡ 0x1e60000000000000

-- the table
abbrev pub Starred : Type 0
Starred = Rooms Gives

-- each row computed in one pass
computed : Rooms Computed
unfolding opening
computed =
    record {
      inside-first = record { pass = refl };
      on-the-wall = record { pass = refl };
      inside-second = record { pass = refl };
      at-the-end = record { pass = refl };
      blended = record { pass = refl };
      unblended = record { pass = refl };
      line = record { pass = refl };
      seed-alone = record { pass = refl };
      cube-integrals = record { pass = refl };
      stack-section = record { pass = refl };
      root-of-two = refl;
      root-of-least = refl;
    }

-- the table holds
pub starred : Starred
starred =
    record {
      inside-first = by-computing computed.inside-first;
      on-the-wall = by-computing computed.on-the-wall;
      inside-second = by-computing computed.inside-second;
      at-the-end = by-computing computed.at-the-end;
      blended = by-computing computed.blended;
      unblended = by-computing computed.unblended;
      line = by-computing computed.line;
      seed-alone = by-computing computed.seed-alone;
      cube-integrals = by-computing computed.cube-integrals;
      stack-section = by-computing computed.stack-section;
      root-of-two = computed.root-of-two;
      root-of-least = computed.root-of-least;
    }
