use Prim.Native.Nat.{ℕ}
use mathlib.Core.Path.{sym, ap, ◌∙◌}
use Rattle.arith.specs.declared.Vec3.{Vec3}
use Rattle.mesh_area.specs.Tables.{cell_at}
use Rattle.mesh_area.specs.Layout.{cells_in}
use Rattle.mesh_orientation.specs.Orientation.{behind}
use Rattle.mesh_orientation.proofs.Laws.{owner-behind, alone, between}
use Rattle.mesh_orientation.proofs.is_misplaced.Goals as goal

pub returns-then-behind : goal.returns-then-behind
returns-then-behind c =
    let a = c.args in
    let words = a.words.now in
    let floats = a.floats.now in
    let centre = c.face_centre-centre.ensures words in
    let normal = c.face_normal-normal.ensures words in
    let owner = c.centre_of.ensures words ∙ ap (λ (o : ℕ). (cell_at (cells_in a.s words floats) o).centre) (c.owner_of-owner.ensures.0 floats) in
    c.if-behind.true ∙ owner-behind (cells_in a.s words floats) _ _ _ _ centre normal owner (sym c.behind.ensures ∙ c.if-behind.true)

pub returns-in-None : goal.returns-in-None
returns-in-None c =
    let a = c.args in
    let words = a.words.now in
    let floats = a.floats.now in
    let centre = c.face_centre-centre.ensures words in
    let normal = c.face_normal-normal.ensures words in
    let owner = c.centre_of.ensures words ∙ ap (λ (o : ℕ). (cell_at (cells_in a.s words floats) o).centre) (c.owner_of-owner.ensures.0 floats) in
    alone (cells_in a.s words floats) _ _ _ _ centre normal owner (sym c.behind.ensures ∙ c.if-behind.false) (sym (c.in-None.ensures floats))

pub returns-in-Some : goal.returns-in-Some
returns-in-Some c =
    let a = c.args in
    let words = a.words.now in
    let floats = a.floats.now in
    let centre = c.face_centre-centre.ensures words in
    let normal = c.face_normal-normal.ensures words in
    let owner = c.centre_of.ensures words ∙ ap (λ (o : ℕ). (cell_at (cells_in a.s words floats) o).centre) (c.owner_of-owner.ensures.0 floats) in
    between (cells_in a.s words floats) _ _ _ _ centre normal owner _ _ (sym c.behind.ensures ∙ c.if-behind.false) (sym (c.in-Some.ensures floats)) (c.behind-in-Some.ensures ∙ ap (λ (p : Vec3). behind p c.face_centre-centre.result c.face_normal-normal.result) (c.centre_of-in-Some.ensures words))
