-- When the next digit of a root is 1.
use Prim.Native.Nat.{ℕ}
use mathlib.Core.Bool.{Bool}
use lib.Dec.{leb}

-- its step t is in what is left, z
abbrev pub takes : ℕ → ℕ → Bool
takes t z = leb t z
