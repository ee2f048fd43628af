use borrow.Author.Tests.{eq-eqb, ne_eqb, le-leb, lt-leb}
use Rattle.mesh_geometry.specs.Faces.{face_area_vector, area_vector, vector_in, enough}
use Rattle.mesh_geometry.specs.Ensures.{vector_of}
use Rattle.mesh_geometry.proofs.face_area_vector.Goals as goal

pub returns-then-vertices-eq2 : goal.returns-then-vertices-eq2
unfolding face_area_vector area_vector enough
returns-then-vertices-eq2 c = rw (c.long_enough.ensures, c.turned_edge.ensures, eq-eqb _ _ c.if-dimension-eq2.true, eq-eqb _ _ c.if-vertices-eq2.true)

pub returns-then-dimension-eq2 : goal.returns-then-dimension-eq2
unfolding face_area_vector enough vector_of
returns-then-dimension-eq2 c = rw (eq-eqb _ _ c.if-dimension-eq2.true, ne_eqb _ _ c.if-vertices-eq2.false)

pub returns-then-vertices-lt3 : goal.returns-then-vertices-lt3
unfolding face_area_vector enough vector_of
returns-then-vertices-lt3 c = rw (ne_eqb _ _ c.if-dimension-eq2.false, lt-leb _ _ c.if-vertices-lt3.true)

pub returns : goal.returns
unfolding face_area_vector area_vector enough vector_in
returns c =
    rw (c.long_enough-2.ensures, c.scale.ensures, c.twice_area.ensures, ne_eqb _ _ c.if-dimension-eq2.false, le-leb _ _ c.if-vertices-lt3.false)
