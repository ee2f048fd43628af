use native.Mathlib.Omega.{arith}
use Rattle.mesh_cell_parts.proofs.PlaceLaws.{place-degenerate, place-new, place-second, place-third, usable}
use Rattle.mesh_cell_parts.proofs.place_face.Goals as goal

pub returns-in_default : goal.returns-in_default
returns-in_default c = place-degenerate _ _ _ _ _ _ _ _ _ c.oriented_face-turned.ensures c.in_default.is

pub use_face-added-requires : goal.use_face-added-requires
use_face-added-requires c = usable _ _ _ _ _ _ c.requires.0 c.oriented_face-turned.auto.vertices

pub overflow_add-result : goal.overflow_add-result
overflow_add-result c = let p = c.requires.0 in omega (arith, p.space, p.lent-words.few-slots)

pub returns-in-New : goal.returns-in-New
returns-in-New c = place-new _ _ _ _ _ _ _ _ _ c.oriented_face-turned.ensures _ c.in-Some.is _ _ _ c.use_face-added.ensures _ c.in-New.is

pub returns-in-Second : goal.returns-in-Second
returns-in-Second c = place-second _ _ _ _ _ _ _ _ _ c.oriented_face-turned.ensures _ c.in-Some.is _ _ _ c.use_face-added.ensures _ c.in-Second.is

pub returns-in-Third : goal.returns-in-Third
returns-in-Third c = place-third _ _ _ _ _ _ _ _ _ c.oriented_face-turned.ensures _ c.in-Some.is _ _ _ c.use_face-added.ensures c.in-Third.is
