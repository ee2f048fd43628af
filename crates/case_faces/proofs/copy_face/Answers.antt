use mathlib.Core.Path.{refl}
use native.Mathlib.Omega.{arith}
use Rattle.case_definitions.specs.Faces.{tetrahedron, hexahedron, prism, pyramid}
use Rattle.case_faces.specs.Ensures.{table_of}
use Rattle.case_faces.proofs.FaceLaws.{kind-few, solid-few, solid-ready}
use Rattle.case_faces.proofs.copy_face.Goals as goal

-- `case_faces::copy_face` meets its contract. Assumes nothing.
pub tetrahedron-requires : goal.tetrahedron-requires
unfolding table_of tetrahedron
tetrahedron-requires c = let p = c.requires in solid-few _ _ _ p.0 p.1 1 4 c.in-1.is (omega arith) (omega arith) refl

pub copy_places-requires : goal.copy_places-requires
unfolding table_of
copy_places-requires c =
    let p = c.requires in
    solid-ready _ _ _ p.0 p.1 c.args.out.now p.2 1 c.in-1.is (omega arith) (omega arith) _ c.tetrahedron.ensures

pub hexahedron-requires : goal.hexahedron-requires
unfolding table_of hexahedron
hexahedron-requires c = let p = c.requires in solid-few _ _ _ p.0 p.1 2 6 c.in-2.is (omega arith) (omega arith) refl

pub copy_places-requires-in-2 : goal.copy_places-requires-in-2
unfolding table_of
copy_places-requires-in-2 c =
    let p = c.requires in
    solid-ready _ _ _ p.0 p.1 c.args.out.now p.2 2 c.in-2.is (omega arith) (omega arith) _ c.hexahedron.ensures

pub prism-requires : goal.prism-requires
unfolding table_of prism
prism-requires c = let p = c.requires in solid-few _ _ _ p.0 p.1 3 5 c.in-3.is (omega arith) (omega arith) refl

pub copy_places-requires-in-3 : goal.copy_places-requires-in-3
unfolding table_of
copy_places-requires-in-3 c =
    let p = c.requires in
    solid-ready _ _ _ p.0 p.1 c.args.out.now p.2 3 c.in-3.is (omega arith) (omega arith) _ c.prism.ensures

pub pyramid-requires : goal.pyramid-requires
unfolding table_of pyramid
pyramid-requires c = let p = c.requires in solid-few _ _ _ p.0 p.1 4 5 c.in-4.is (omega arith) (omega arith) refl

pub copy_places-requires-in-4 : goal.copy_places-requires-in-4
unfolding table_of
copy_places-requires-in-4 c =
    let p = c.requires in
    solid-ready _ _ _ p.0 p.1 c.args.out.now p.2 4 c.in-4.is (omega arith) (omega arith) _ c.pyramid.ensures

pub returns-in-6-to-4294967295 : goal.returns-in-6-to-4294967295
returns-in-6-to-4294967295 c = let p = c.requires in absurd (omega (arith, kind-few _ _ _ p.0 p.1))
