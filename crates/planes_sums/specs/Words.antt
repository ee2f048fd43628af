-- The words of a sample.
use Rattle.std.specs.Prelude.{ℕ, List, ◌∷◌, ◌++◌, length}
use Rattle.answers.specs.Words.{vec_words, point_words, values_words}
use Rattle.planes_sums.specs.Sample.{Sample}

-- "cell, vertex count, centre, vertices, velocity, pressure"
unfoldable pub sample_words : Sample → List ℕ
sample_words s =
    s.geometry.cell
    ∷ length s.geometry.polygon
    ∷ (vec_words s.geometry.centre ++ (point_words s.geometry.polygon ++ values_words s.values))
