use mathlib.Core.Path.{refl, ◌∙◌}
use native.Mathlib.Nat.{sub-zero}
use borrow.Author.Rules.{rules}
use borrow.Author.Tests.{tests}
use Rattle.std.proofs.lemmas.Iterator.{YieldsList-from_range}
use Rattle.std.proofs.lemmas.Iterator.Search.{any_from_yields_List}
use Rattle.mesh_area.specs.Tables.{face_at}
use Rattle.mesh_area.specs.Layout.{faces_in, cells_in}
use Rattle.mesh_orientation.specs.Orientation.{misplaced}
use Rattle.mesh_orientation.proofs.Laws.{faces_by_number}
use Rattle.mesh_orientation.proofs.any_misplaced.Goals as goal

pub returns : goal.returns
returns c =
    let a = c.args in
    let p = misplaced (cells_in a.s a.words.now a.floats.now) in
    any_from_yields_List (λ f. p (face_at (faces_in a.s a.words.now a.floats.now) f)) _ _ c.any.result c.any.ensures.ran
    (YieldsList-from_range 0 a.s.faces a.s.faces refl (sub-zero a.s.faces))
    (λ x b q k. search (rules, tests))
    ∙ faces_by_number a.s a.words.now a.floats.now p
