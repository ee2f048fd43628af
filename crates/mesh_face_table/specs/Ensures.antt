-- The contracts of `walk` and `find`: what the search for a face needs.
use Rattle.std.specs.Prelude.{ℕ, ◌<◌, ◌≤◌, List, length}
use Rattle.mesh_face_table.specs.Chains.{Chains}

-- what a search needs
pub record FindEntry (w : List ℕ) (slots n : ℕ) (key : List ℕ) : Type 0 where
  pub chains : Chains w slots n
  pub some : 0 < slots
  pub short : length key ≤ 8
