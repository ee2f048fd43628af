-- A length that is over the tolerance by its square alone. Assumes nothing.
use Prim.Native.Nat.{ℕ, zero, suc, ◌+◌, ◌*◌, ◌/◌, ◌^◌, ◌≤◌, ◌<◌}
use native.Mathlib.Omega.{arith}
use native.Mathlib.Nat.{le-div_iff_mul-le, not-le_of_lt, lt_of_not-le, le_of_suc-le-suc, le_of_lt, le_trans, add-le-add, le_refl, mul-le-mul, mul-le-mul_left, mul-le-mul_right, le_of_mul-le-mul_right, mul_comm, mul_assoc}
use mathlib.Core.Path.{◌≡◌, refl, sym, subst}
use mathlib.Core.Bool.{true, false, false≢true}
use lib.Dec.{T}
use lib.IntN.{ℤ, negsuc}
use lib.Ieee.{Float, nan, inf, fin, binary64, up, down, lt, fits, of_bits}
use lib.Ieee.Fits.{add-fits, down_pos}
use lib.Pow.{pow_pos}
use borrow.Author.Tests.{ltb-true, lt-ltb}
use Rattle.arith_root.specs.Root.{mag, root, plus, Nearest}
use Rattle.arith_root.proofs.Nearest.{root-nearest}
use Rattle.arith.specs.F64.{◌≺◌, ◌⊗◌, ◌⊕◌, 1e-12}
use Rattle.arith.specs.Vec.{dot, norm_squared, norm}
use Rattle.arith.specs.declared.Vec3.{Vec3}

-- the bound in the code
abbrev pub 1e-20 : Float
1e-20 = of_bits binary64 0x3bc79ca10c924223

-- 2 ^ -39 is above the tolerance, and its square below the bound
abbrev mark : Float
mark = fin false 1 (negsuc 38)

mark-size : mag mark ≡ 2 ^ 1035
unfolding mag
mark-size = refl

mark-fits : T (fits binary64 mark)
unfolding fits
mark-fits = tt

-- ---- a value a / d in units of 2 ^ -1074

many : (a d : ℕ) → 0 < d → d ≤ a * 2 ^ 78 → 2 ^ 996 ≤ a * 2 ^ 1074 / d
many a d z h =
    (le-div_iff_mul-le {k = d} {x = 2 ^ 996} {y = a * 2 ^ 1074} z).1 (subst (λ (x : ℕ). x ≤ a * 2 ^ 1074) (mul_comm d (2 ^ 996)) (subst (λ (x : ℕ). d * 2 ^ 996 ≤ x) (mul_assoc a (2 ^ 78) (2 ^ 996)) (mul-le-mul_right (2 ^ 996) h)))

large : (a d : ℕ) → 0 < d → 2 ^ 1035 ≤ a * 2 ^ 1074 / d → d ≤ a * 2 ^ 39
large a d z h =
    let k : 2 ^ 1035 * d ≤ a * 2 ^ 1074 = (le-div_iff_mul-le {k = d} {x = 2 ^ 1035} {y = a * 2 ^ 1074} z).0 h in
    le_of_mul-le-mul_right {m = d} {n = a * 2 ^ 39} {k = 2 ^ 1035} (subst (λ (x : ℕ). d * 2 ^ 1035 ≤ x) (sym (mul_assoc a (2 ^ 39) (2 ^ 1035))) (subst (λ (x : ℕ). x ≤ a * 2 ^ 1074) (mul_comm (2 ^ 1035) d) k)) (pow_pos 1035)

-- ---- the root of a square of 2 ^ -78 or more is 2 ^ -39 or more

root-large : (x r : Float) → Nearest x r → 2 ^ 996 ≤ mag x → 2 ^ 1035 ≤ mag r
root-large x r n h =
    le_of_suc-le-suc (lt_of_not-le (λ (g : mag r < 2 ^ 1035).
    let a : 4 * (mag x * 2 ^ 1074) < (2 ^ 1035 + mag r) * (2 ^ 1035 + mag r) =
    subst (λ (y : ℕ). 4 * (mag x * 2 ^ 1074) < (y + mag r) * (y + mag r)) mark-size (n.above mark mark-fits tt (subst (λ (y : ℕ). mag r < y) (sym mark-size) g))
    in
    let b : 2 ^ 1035 + mag r ≤ 2 ^ 1036 = add-le-add (le_refl (2 ^ 1035)) (le_of_lt g) in
    let c : 2 ^ 2072 ≤ 4 * (mag x * 2 ^ 1074) = mul-le-mul_left 4 (mul-le-mul_right (2 ^ 1074) h) in
    not-le_of_lt a (le_trans (mul-le-mul b b) c)))

-- ---- what the tests say

over-bound : (a d : ℕ) → 6646139978924579 * 1 * d < a * 2 ^ 119 → d ≤ a * 2 ^ 78
over-bound a d h =
    le_of_mul-le-mul_right {m = d} {n = a * 2 ^ 78} {k = 2 ^ 41} (subst (λ (x : ℕ). d * 2 ^ 41 ≤ x) (sym (mul_assoc a (2 ^ 78) (2 ^ 41))) (less (a * 2 ^ 119) h)) (pow_pos 41)
  where
    less : (n : ℕ) → 6646139978924579 * 1 * d < n → d * 2 ^ 41 ≤ n
    less n h = omega arith

over-tolerance : (a d : ℕ) → 0 < d → d ≤ a * 2 ^ 39 → 4951760157141521 * 1 * d < a * 2 ^ 92
over-tolerance a d z h = omega arith

none_over : (u d : ℕ) → 6646139978924579 * 1 * d < 0 * u * 2 ^ 119 → ⊥
none_over u d h = omega arith

large-over : (r : Float) → T (plus r) → 2 ^ 1035 ≤ mag r → (1e-12 ≺ r) ≡ true
unfolding lt of_bits mag
large-over nan p h = absurd p
large-over (inf s) p h = absurd p
large-over (fin true m e) p h = absurd p
large-over (fin false m e) p h = lt-ltb (4951760157141521 * 1 * down e) (m * up e * 2 ^ 92) (over-tolerance (m * up e) (down e) (down_pos e) (large (m * up e) (down e) (down_pos e) h))

bound-many : (m : ℕ) (e : ℤ) → (1e-20 ≺ fin false m e) ≡ true → 2 ^ 996 ≤ mag (fin false m e)
unfolding lt of_bits mag
bound-many m e h = many (m * up e) (down e) (down_pos e) (over-bound (m * up e) (down e) (ltb-true (6646139978924579 * 1 * down e) (m * up e * 2 ^ 119) h))

root_over : (x : Float) → T (fits binary64 x) → (1e-20 ≺ x) ≡ true → (1e-12 ≺ root x) ≡ true
unfolding lt of_bits root
root_over nan f h = absurd (false≢true h)
root_over (inf true) f h = absurd (false≢true h)
root_over (inf false) f h = refl
root_over (fin true m e) f h = absurd (false≢true h)
root_over (fin false zero e) f h = absurd (none_over (up e) (down e) (ltb-true (6646139978924579 * 1 * down e) (0 * up e * 2 ^ 119) h))
root_over (fin false (suc m) e) f h =
    let n = root-nearest m e f in
    large-over (root (fin false (suc m) e)) n.is-plus (root-large (fin false (suc m) e) (root (fin false (suc m) e)) n (bound-many (suc m) e h))

-- ---- of a vector

square-fits : (v : Vec3) → T (fits binary64 (norm_squared v))
unfolding norm_squared dot
square-fits v = add-fits binary64 (v.x ⊗ v.x ⊕ v.y ⊗ v.y) (v.z ⊗ v.z)

pub norm-over : (v : Vec3) (s : Float) → s ≡ norm_squared v → (1e-20 ≺ s) ≡ true → (1e-12 ≺ norm v) ≡ true
unfolding norm
norm-over v s e h = root_over (norm_squared v) (square-fits v) (subst (λ (x : Float). (1e-20 ≺ x) ≡ true) e h)
