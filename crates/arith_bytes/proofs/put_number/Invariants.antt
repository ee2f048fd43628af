use Prim.Native.Nat.{◌-◌}
use mathlib.Core.Path.{◌≡◌}
use mathlib.Core.List.{◌++◌}
use lib.ListN.{take}
use Rattle.arith_bytes.specs.Stored.{le_bytes}
use Rattle.arith_bytes.proofs.put_number.Given as goal

-- the bytes that are stored, and those that `left` has
abbrev pub invariant-loop-byte : goal.invariant-loop-byte
invariant-loop-byte l = take l.byte-index l.byte-items ++ le_bytes (l.size - l.byte-index) l.left ≡ le_bytes l.size l.w
