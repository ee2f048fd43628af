-- The sum of the sides' cross products: one turn and the end of the loop. Assumes nothing.
use Prim.Native.Nat.{ℕ, ◌+◌, ◌≤◌, ◌<◌}
use mathlib.Core.Path.{◌≡◌, ap, sym, ◌∙◌}
use mathlib.Core.List.{List}
use lib.ListN.{length, get_or, drop}
use Rattle.arith.specs.Lists.{fold, Side, sides, after}
use Rattle.arith.specs.Vec.{plus, cross}
use Rattle.arith.specs.declared.Vec3.{Vec3}
use Rattle.arith.proofs.ListLaws.{foldl-next, length-sides, sides-at}
use Rattle.mesh_area.specs.Tables.{point_at}
use Rattle.mesh_averages.proofs.Laws.{fold_done}
use Rattle.mesh_geometry.specs.Faces.{add_cross}

pub cross-turn : (ps : List Vec3) (l : List ℕ) (i : ℕ) (s s' p r : Vec3) → fold (add_cross ps) s (drop i (sides l)) ≡ r → i < length l
    → p ≡ cross (point_at ps (get_or l i 0)) (point_at ps (get_or l (after (length l) i) 0)) → s' ≡ plus s p → fold (add_cross ps) s' (drop (i + 1) (sides l)) ≡ r
unfolding add_cross
cross-turn ps l i s s' p r inv more e t =
    let side : Side ℕ = record { from = get_or l i 0; to = get_or l (after (length l) i) 0 } in
    let next : fold (add_cross ps) s (drop i (sides l)) ≡ fold (add_cross ps) (add_cross ps s side) (drop (i + 1) (sides l)) =
    foldl-next (sides l) i side (rw (length-sides l) more) (add_cross ps) s
    ∙ ap (λ w. fold (add_cross ps) (add_cross ps s w) (drop (i + 1) (sides l))) (sides-at l i 0 side more)
    in
    rw (t, e) (sym next ∙ inv)

pub cross-done : (ps : List Vec3) (l : List ℕ) (i : ℕ) (s r : Vec3) → fold (add_cross ps) s (drop i (sides l)) ≡ r → length l ≤ i → s ≡ r
cross-done ps l i s r inv end = fold_done (add_cross ps) (sides l) i s r inv (rw (length-sides l) end)
