use mathlib.Core.Path.{◌∙◌}
use borrow.Author.Tests.{lt-ltb}
use Rattle.mesh.proofs.Laws.{short-words, short-floats}
use Rattle.mesh.proofs.is_short.Goals as goal

pub returns-then-words-faces : goal.returns-then-words-faces
returns-then-words-faces c =
    λ defs e. lt-ltb _ _ c.if-words-faces.true ∙ short-words _ _ _ _ c.if-words-faces.true defs e

pub returns-else-words-faces : goal.returns-else-words-faces
returns-else-words-faces c = short-floats _ _ _ _ c.if-words-faces.false
