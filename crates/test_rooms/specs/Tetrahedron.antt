-- A tetrahedron: section, statistics and more
use Rattle.std.specs.Prelude.{ℕ, refl, List, [], ◌∷◌, ◌++◌, Ok}
use Rattle.test_rooms.specs.Computing.{computing}
use Rattle.reading.specs.Result.{Refusable}
use Rattle.test_rooms.specs.Printed.{Printed, Known, bytes, bytes_from, lends}
use Rattle.test_rooms.specs.OnePass.{Computes, ran, below, seen, one_pass, due, by-computing}

-- the case
unfoldable pub file : List ℕ
file =
    bytes 8 (0xc01d531bbc11e230 ∷ 0xbfc44ad9611dd500 ∷ 0x401cea5f27b5f6b0 ∷ 0xc01d531b5cfe6e50 ∷ 0xbfc44ad9611dd500 ∷ 0x401cea5f27b5f6b0 ∷ 0xc01d531bbc11e230 ∷ 0xbfc44acd7eaf58fe ∷ 0x401cea5f27b5f6b0 ∷ 0xc01d531b5cfe6e50 ∷ 0xbfc44acd7eaf58fe ∷ 0x408f79d4be4f6bed ∷ [])
    ++ (bytes 4 (1 ∷ 1 ∷ 0 ∷ 2 ∷ 3 ∷ [])
    ++ (bytes 8 (0x3feda2a69fcbd306 ∷ 0xbfe9c83bb464f182 ∷ 0xbfe0436d1282c85e ∷ 0x8000000000000000 ∷ [])
    ++ bytes 4 (3 ∷ 4 ∷ 5 ∷ 1 ∷ 0 ∷ 0x60 ∷ 0x74 ∷ 0x8c ∷ [])))

-- the requests
unfoldable pub requests : List ℕ
requests =
    bytes 8 (5 ∷ 0xc01d531b8c882840 ∷ 0xbfc44ad9611dd500 ∷ 0x401cea5f27b5f6b0 ∷ 0x3fd5be7960199c49 ∷ 0xbfecea23e085b741 ∷ 0x3fd0b3dfff8a8545 ∷ 0xbfe2ecb08cd5a011 ∷ 0x3f858b1b7d277780 ∷ 0x3fe9cd552d0c9aa4 ∷ 0 ∷ 0 ∷ 0 ∷ 0 ∷ 0 ∷ 0 ∷ 6 ∷ 0xc01d531b8c882840 ∷ 0xbfc44ad36fe696ff ∷ 0x407013a97c9ed7db ∷ 0xbff0000000000000 ∷ 0 ∷ 0 ∷ 0x8000000000000000 ∷ 0x3ff0000000000000 ∷ 0 ∷ 1 ∷ 0 ∷ 0 ∷ 0 ∷ 0 ∷ 0 ∷ 7 ∷ 0xc01d531b8c882840 ∷ 0xbfc44ad36fe696ff ∷ 0x407013a97c9ed7db ∷ 0x3fd34843fdbc6773 ∷ 0xbfe74cb64ee96d1a ∷ 0xbfe3b3bf7ae27a51 ∷ 0x3fee77e2458bcb9e ∷ 0x3fc8ed962d22fb8a ∷ 0x3fce2880ad2386c8 ∷ 0 ∷ 0 ∷ 0 ∷ 0 ∷ 0 ∷ 0 ∷ 6 ∷ 0xc01d531b8c882840 ∷ 0xbfc44ad9611dd500 ∷ 0x401cea5f27b5f6b0 ∷ 0x3fe3333333333333 ∷ 0x3fe999999999999a ∷ 0x8000000000000000 ∷ 0xbfe999999999999a ∷ 0x3fe3333333333333 ∷ 0 ∷ 3 ∷ 0 ∷ 0 ∷ 0 ∷ 0 ∷ 0 ∷ 8 ∷ 0xc01d531b5cfe6e50 ∷ 0xbfc44ad9611dd500 ∷ 0x401cea5f27b5f6b0 ∷ 0 ∷ 0xbff000001d872477 ∷ 0 ∷ 0 ∷ 0 ∷ 0xbff0000000000000 ∷ 0xc01d531b5cfe6e50 ∷ 0xbfc44ad504f991fb ∷ 0x401cea5f18976a70 ∷ 0 ∷ 0 ∷ 0 ∷ [])

-- what the job gives
unfoldable pub expected : Refusable Printed
expected =
    Ok
    (record {
      words = 0 ∷ 0x13 ∷ 1 ∷ 0 ∷ 3 ∷ 0xc01d531bac394ee0 ∷ 0xbfc44ad56af900ee ∷ 0x401cea5f3d8afcca ∷ 0xc01d531bbc11e230 ∷ 0xbfc44acd7eaf58fe ∷ 0x401cea5f27b5f6b0 ∷ 0xc01d531b8c882840 ∷ 0xbfc44ad9611dd500 ∷ 0x401cea5f27b5f6b0 ∷ 0xc01d531bbc11e22e ∷ 0xbfc44ad9611dd4ce ∷ 0x401cea5f69350900 ∷ 0x3feda2a69fcbd306 ∷ 0xbfe9c83bb464f182 ∷ 0xbfe0436d1282c85e ∷ 0x8000000000000000 ∷ 0 ∷ 0xd ∷ 1 ∷ 0x3d63dcafd502c99c ∷ 0x8000000000000000 ∷ 0x8000000000000000 ∷ 0 ∷ 0 ∷ 0x3d5430635bb7400b ∷ 0x3d5430635bb7400b ∷ 0 ∷ 0x3d5430635bb7400b ∷ 1 ∷ 0 ∷ 0x8000000000000000 ∷ 0 ∷ 4 ∷ 0x3d6a6a1b8422e6b4 ∷ 0 ∷ 0x3ff541d6e69cbc02 ∷ 0x3d3507b9ee7b9fc8 ∷ 0 ∷ 0xd ∷ 1 ∷ 0x3d71a7b8bd56d21e ∷ 0xbfe9c83bb464f182 ∷ 0xbfe9c83bb464f182 ∷ 0xbfe9c83bb464f182 ∷ 0xbd6c73030e9de0d4 ∷ 0xbd61f21f6df73738 ∷ 0 ∷ 0xbd61f21f6df73738 ∷ 0x3d61f21f6df73738 ∷ 1 ∷ 0xbfe9c83bb464f182 ∷ 0x3ff0000000000000 ∷ 0x24 ∷ 0 ∷ [];
      cells = 0 ∷ [];
    })

-- computed in one pass
computed : Computes file requests (lends 16384 8192 16384 8192) expected
unfolding computing file requests expected bytes bytes_from lends ran below seen one_pass due
computed = record { pass = refl }

-- for any answers and marks that are lent
pub same : Known file requests (lends 16384 8192 16384 8192) expected
same = by-computing computed
