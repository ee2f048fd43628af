use Rattle.mesh_volumes.specs.Geometry.{tetrahedron_volume}
use mathlib.Core.Path.{refl}
use Rattle.mesh_volumes.proofs.tetrahedron_volume.Goals as goal

pub returns : goal.returns
unfolding tetrahedron_volume
returns c = rw (c.dot.ensures, c.cross.ensures, c.sub-3.ensures, c.sub-2.ensures, c.sub.ensures) refl
