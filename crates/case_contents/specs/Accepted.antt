-- Files that a reader accepts, and contents of the right sizes.
-- `Accepted`: none of a reader's refusals is due. `Sized`: neither 1 nor 2 of a writer's.
use Rattle.std.specs.Prelude.{ℕ, ◌*◌, ◌<◌, ◌≤◌, ◌≡◌, true, List, length, Ok}
use Rattle.arith.specs.All.{All}
use Rattle.arith.specs.Limits.{most_points, most_cells, most_words}
use Rattle.case_file.specs.declared.Counts.{Counts}
use Rattle.case_file.specs.Trailer.{is_dimension}
use Rattle.case_survey.specs.Survey.{CaseSurvey, survey_of}
use Rattle.case_contents.specs.Contents.{Contents}
use Rattle.case_contents.specs.Refusals.{is_edition}

-- a file of bytes that gives none of 1, 2, 3 and 45
pub record Accepted (file : List ℕ) : Type 0 where
  pub bytes : All (λ b. b < 256) file
  pub survey : CaseSurvey
  pub accepted : survey_of file ≡ Ok survey

-- counts of a file that can be written
pub record SizedCounts (n : Counts) : Type 0 where
  pub dimension : is_dimension n.dimension ≡ true
  pub edition : is_edition n.edition ≡ true
  pub points : n.points ≤ most_points
  pub words : n.words ≤ most_words
  pub cells : n.cells ≤ most_cells

-- each part is as long as its count says
pub record Sized (c : Contents) : Type 0 where
  pub counts : SizedCounts c.counts
  pub points : length c.points ≡ 3 * c.counts.points
  pub words : length c.words ≡ c.counts.words
  pub velocities : length c.velocities ≡ 3 * c.counts.cells
  pub pressures : length c.pressures ≡ c.counts.cells
  pub zones : length c.zones ≡ c.counts.cells
