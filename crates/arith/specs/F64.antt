-- Rust's f64 under short names: a circled sign is IEEE 754's operation on binary64, rounded once.
-- `◌⊕◌`, `◌⊖◌`, `◌⊗◌`, `◌⊘◌`: the operations. `◌≺◌`, `◌≼◌`, `◌≈◌`: the comparisons.
-- `float`, `word`: a float by its bits, and the bits of a float.
-- `0·0`, `0·5`, `1·0`, `-1·0`, `2·0`, `3·0`, `4·0`, `6·0`, `32·0`, `far`, `1e-12`, `1e-10`, `1e-8`, `1e-7`, `2^-52`, `+∞`, `-∞`: the constants.
-- `finite`, `abs`, `signed`, `fmin`, `fmax`, `clamp`, `nearer`: Rust's methods. `within`: a size of at most 1,048,576.
-- `ofℕ`, `floorℕ`, `ceilℕ`: a count as a float, and a float as a count.
use Rattle.std.specs.Prelude.{ℕ, ◌+◌, ◌-◌, ◌*◌, ◌/◌, ◌^◌, min, Bool, true, false, cond, not, ◌&&◌, ◌||◌, pos, from_bits, is_nan, to_bits, Float}
use Rattle.std.specs.Float.{nan, inf, fin, binary64}
use Rattle.std.specs.Float.Ieee.{add, sub, mul, div, lt, le, eq, of_int, to_unsigned, up, down}

infixl 65 ◌⊕◌ ◌⊖◌
infixl 70 ◌⊗◌ ◌⊘◌
infix 50 ◌≺◌ ◌≼◌ ◌≈◌
-- `a + b`
abbrev pub ◌⊕◌ : Float → Float → Float
◌⊕◌ a b = add binary64 a b

-- `a - b`
abbrev pub ◌⊖◌ : Float → Float → Float
◌⊖◌ a b = sub binary64 a b

-- `a * b`
abbrev pub ◌⊗◌ : Float → Float → Float
◌⊗◌ a b = mul binary64 a b

-- `a / b`
abbrev pub ◌⊘◌ : Float → Float → Float
◌⊘◌ a b = div binary64 a b

-- `a < b`: false beside a NaN
abbrev pub ◌≺◌ : Float → Float → Bool
◌≺◌ a b = lt a b

-- `a <= b`: false beside a NaN
abbrev pub ◌≼◌ : Float → Float → Bool
◌≼◌ a b = le a b

-- `a == b`: false beside a NaN
abbrev pub ◌≈◌ : Float → Float → Bool
◌≈◌ a b = eq a b

-- "a float is its 64 bits"
abbrev pub float : ℕ → Float
float n = from_bits binary64 n

-- its bits; "A NaN given back is 7ff8000000000000"
abbrev pub word : Float → ℕ
word a = to_bits binary64 a

-- ---- constants, by their bits as the compiler has them

-- 0, with the sign bit clear
abbrev pub 0·0 : Float
0·0 = float 0

-- a half
abbrev pub 0·5 : Float
0·5 = float 0x3fe0000000000000

-- 1
abbrev pub 1·0 : Float
1·0 = float 0x3ff0000000000000

-- -1
abbrev pub -1·0 : Float
-1·0 = float 0xbff0000000000000

-- 2
abbrev pub 2·0 : Float
2·0 = float 0x4000000000000000

-- 3
abbrev pub 3·0 : Float
3·0 = float 0x4008000000000000

-- 4
abbrev pub 4·0 : Float
4·0 = float 0x4010000000000000

-- 6
abbrev pub 6·0 : Float
6·0 = float 0x4018000000000000

-- 32
abbrev pub 32·0 : Float
32·0 = float 0x4040000000000000

-- "1,048,576"
abbrev pub far : Float
far = float 0x4130000000000000

-- "tolerance 1e-12"
abbrev pub 1e-12 : Float
1e-12 = float 0x3d719799812dea11

-- the Rust's 1e-10
abbrev pub 1e-10 : Float
1e-10 = float 0x3ddb7cdfd9d7bdbb

-- the Rust's 1e-8
abbrev pub 1e-8 : Float
1e-8 = float 0x3e45798ee2308c3a

-- the Rust's 1e-7
abbrev pub 1e-7 : Float
1e-7 = float 0x3e7ad7f29abcaf48

-- "2^-52", `f64::EPSILON`
abbrev pub 2^-52 : Float
2^-52 = float 0x3cb0000000000000

-- `f64::INFINITY`
abbrev pub +∞ : Float
+∞ = inf false

-- `f64::NEG_INFINITY`
abbrev pub -∞ : Float
-∞ = inf true

-- ---- Rust's methods

-- `f64::is_finite`
unfoldable pub finite : Float → Bool
finite nan = false
finite (inf s) = false
finite (fin s m e) = true

-- `f64::abs`
unfoldable pub abs : Float → Float
abs nan = nan
abs (inf s) = inf false
abs (fin s m e) = fin false m e

-- the sign bit, a zero's too; a NaN's counts as clear
unfoldable pub signed : Float → Bool
signed nan = false
signed (inf s) = s
signed (fin s m e) = s

-- `f64::min`: a NaN gives way; "Of equal values the first is kept"
unfoldable pub fmin : Float → Float → Float
fmin a b = cond (is_nan a || b ≺ a) b a

-- `f64::max`: likewise
unfoldable pub fmax : Float → Float → Float
fmax a b = cond (is_nan a || a ≺ b) b a

-- `x.clamp(0.0, 1.0)`: keeps -0 and NaN
unfoldable pub clamp : Float → Float
clamp a = cond (a ≺ 0·0) 0·0 (cond (1·0 ≺ a) 1·0 a)

-- `total_cmp` on distances: "any NaN orders above infinity"
unfoldable pub nearer : Float → Float → Bool
nearer a b = (a ≺ b) || (not (is_nan a) && is_nan b)

-- not "beyond 1,048,576 in size"
unfoldable pub within : Float → Bool
within a = abs a ≼ far

-- a count as a float
abbrev pub ofℕ : ℕ → Float
ofℕ n = of_int binary64 (pos n)

-- `a.floor() as usize`: a NaN and what lies below 0 give 0, what is too large the largest count
abbrev pub floorℕ : Float → ℕ
floorℕ a = to_unsigned 64 a

-- `a.ceil() as usize`: likewise
unfoldable pub ceilℕ : Float → ℕ
ceilℕ nan = 0
ceilℕ (inf s) = cond s 0 (2 ^ 64 - 1)
ceilℕ (fin s m e) = cond s 0 (min ((m * up e + (down e - 1)) / down e) (2 ^ 64 - 1))
