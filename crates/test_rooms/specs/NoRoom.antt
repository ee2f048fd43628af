-- Answers that do not fit: 44
use Rattle.std.specs.Prelude.{ℕ, refl, List, [], ◌∷◌, ◌++◌, Ok}
use Rattle.test_rooms.specs.Computing.{computing}
use Rattle.reading.specs.Result.{Refusable}
use Rattle.test_rooms.specs.Printed.{Printed, Known, bytes, bytes_from, lends}
use Rattle.test_rooms.specs.OnePass.{Computes, ran, below, seen, one_pass, due, by-computing}

-- the case
unfoldable pub file : List ℕ
file =
    bytes 8 (0 ∷ 0 ∷ 0 ∷ 0x3fe39b30e878987d ∷ 0 ∷ 0 ∷ 0 ∷ 0 ∷ 0x3fe15ea038a72ba4 ∷ 0 ∷ 0x3fd4f8416ab29cfe ∷ 0 ∷ 0x3fe39b30e878987d ∷ 0x3fd4f8416ab29cfe ∷ 0x3fd15ea038a72ba4 ∷ 0 ∷ 0x3fd4f8416ab29cfe ∷ 0x3fd15ea038a72ba4 ∷ 0 ∷ 0x3fd4f8416ab29cfe ∷ 0x3fe15ea038a72ba4 ∷ 0x3fe39b30e878987d ∷ 0x3fd4f8416ab29cfe ∷ 0x3fe15ea038a72ba4 ∷ 0x3fe39b30e878987d ∷ 0 ∷ 0x3fe15ea038a72ba4 ∷ 0 ∷ 0 ∷ 0x3fd15ea038a72ba4 ∷ 0x3fe39b30e878987d ∷ 0 ∷ 0x3fd15ea038a72ba4 ∷ 0x3fe39b30e878987d ∷ 0x3fd4f8416ab29cfe ∷ 0 ∷ [])
    ++ (bytes 4 (2 ∷ 0 ∷ 1 ∷ 0xb ∷ 3 ∷ 9 ∷ 0xa ∷ 4 ∷ 5 ∷ 5 ∷ 6 ∷ 4 ∷ 4 ∷ 0xa ∷ 8 ∷ 7 ∷ 4 ∷ 2 ∷ 6 ∷ 7 ∷ 8 ∷ 4 ∷ 4 ∷ 0xa ∷ 9 ∷ 5 ∷ 4 ∷ 2 ∷ 9 ∷ 5 ∷ 6 ∷ 5 ∷ 5 ∷ 6 ∷ 7 ∷ 7 ∷ 4 ∷ 4 ∷ 0xa ∷ 8 ∷ 2 ∷ 9 ∷ [])
    ++ (bytes 8 (0x3ff0000000000000 ∷ 0 ∷ 0x8000000000000000 ∷ 0x3ff0000000000000 ∷ 0 ∷ 0x8000000000000000 ∷ 0x4004950b4f1f3624 ∷ 0xbfe890c7e8be006c ∷ [])
    ++ bytes 4 (3 ∷ 0xc ∷ 0x2a ∷ 2 ∷ 0 ∷ 0x120 ∷ 0x1c8 ∷ 0x1f8 ∷ [])))

-- the requests
unfoldable pub requests : List ℕ
requests =
    bytes 8 (5 ∷ 0 ∷ 0x3fd4f8416ab29cfe ∷ 0x3fc15ea038a72ba4 ∷ 0 ∷ 0 ∷ 0xbff0000000000000 ∷ 0x3ff000001ad7f29b ∷ 0 ∷ 0 ∷ 0 ∷ 0 ∷ 0 ∷ 0 ∷ 0 ∷ 0 ∷ 6 ∷ 0xbfffcd4cd149eaf6 ∷ 0x4003bb54525f7b44 ∷ 0x3ff26ec2f08f6ae1 ∷ 0x3fe09dc529688722 ∷ 0xbfe81b4f7108c2f7 ∷ 0x3fd9d3e1e2f32c79 ∷ 0x3fe0987c76901027 ∷ 0xbfb8f9c73ce15b36 ∷ 0xbfeb2e7b69b7ecfc ∷ 3 ∷ 0 ∷ 0 ∷ 0 ∷ 0 ∷ 0 ∷ 7 ∷ 0 ∷ 0 ∷ 0x3fd15ea038a72ba4 ∷ 0x3fed420eea897846 ∷ 0 ∷ 0x3fd9eba0e0d899a5 ∷ 0x3fcf4c62ea380a3d ∷ 0x3fe982829ba7de67 ∷ 0xbfe1aa0bb2f07cff ∷ 0 ∷ 0 ∷ 0 ∷ 0 ∷ 0 ∷ 0xffffffffffffffff ∷ 0x100000001 ∷ 0 ∷ 0 ∷ 0x3fe15ea038a72ba4 ∷ 0xbfd3ad61e2f2ca6d ∷ 0xbfe91e3dc877fa23 ∷ 0x3fe1367a8fbac99c ∷ 0xbfe238ccc886d8f1 ∷ 0xbfd345942ff34530 ∷ 0xbfe87a0e49eee668 ∷ 3 ∷ 0 ∷ 0 ∷ 0 ∷ 0 ∷ 0 ∷ 6 ∷ 0 ∷ 0 ∷ 0 ∷ 0x3fe403f02dd39db8 ∷ 0x3fde9ef50aea1910 ∷ 0x3fe3b8f0fce13870 ∷ 0x3fd33fb4c0f402fc ∷ 0x3fe297bc0ac5c8de ∷ 0xbfe8336b5224f550 ∷ 3 ∷ 0 ∷ 0 ∷ 0 ∷ 0 ∷ 0 ∷ 5 ∷ 0 ∷ 0x3fd4f8416ab29cfe ∷ 0x3fe15ea038a72ba4 ∷ 0 ∷ 0 ∷ 0xbff0000000000000 ∷ 0 ∷ 0xbff0000000000000 ∷ 0 ∷ 0 ∷ 0 ∷ 0 ∷ 0 ∷ 0 ∷ 0 ∷ [])

-- what the job gives
unfoldable pub expected : Refusable Printed
expected =
    Ok
    (record {
      words = 0x24 ∷ 0 ∷ 0x24 ∷ 0 ∷ 0x1e ∷ 0 ∷ 0x1e ∷ 0 ∷ 0 ∷ 0xd ∷ 2 ∷ 0x3fcf9ed01c4517f1 ∷ 0 ∷ 0 ∷ 0 ∷ 0 ∷ 0xbfc6c3c9fe7ec876 ∷ 0 ∷ 0xbfc6c3c9fe7ec876 ∷ 0x3fc6c3c9fe7ec876 ∷ 1 ∷ 0 ∷ 0x3ff0000000000000 ∷ 0x2c ∷ 0 ∷ [];
      cells = 0 ∷ 1 ∷ [];
    })

-- computed in one pass
computed : Computes file requests (lends 16384 8192 16384 52) expected
unfolding computing file requests expected bytes bytes_from lends ran below seen one_pass due
computed = record { pass = refl }

-- for any answers and marks that are lent
pub same : Known file requests (lends 16384 8192 16384 52) expected
same = by-computing computed
