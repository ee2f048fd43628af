-- The loop over the requests. Assumes nothing.
use Prim.Native.Nat.{ℕ, ◌+◌, ◌-◌, ◌*◌, ◌/◌, ◌≤◌, ◌<◌}
use native.Mathlib.Omega.{arith}
use mathlib.Core.Path.{◌≡◌, refl}
use mathlib.Core.List.{List}
use lib.ListN.{length}
use Rattle.reading.specs.declared.Values.{Values}
use Rattle.job_requests.specs.Requests.{words_at, requests_in}
use Rattle.job_requests.proofs.Laws.{requests-count, requests-at}
use Rattle.job_room.specs.Room.{Room}
use Rattle.job_promise.specs.List.{serve_all}
use Rattle.job_promise.specs.Ensures.{ServeAllExit, answer_to}
use Rattle.job_promise.proofs.ListLaws.{Along, along-start, along-next, along-end}

-- i requests of the bytes are answered, their words end at `at`
pub record Through (room : Room) (f : ℕ → Values) (m₀ o₀ bytes : List ℕ) (i at : ℕ) (m o : List ℕ) : Type 0 where
  pub along : Along room f m₀ (length o₀) (requests_in bytes) i at m o
  pub fits : at + 2 * (length bytes / 128 - i) ≤ length o₀
  pub below : i ≤ length bytes / 128
  pub long : length o ≡ length o₀
  pub marks-long : length m ≡ length m₀

-- request i lies within the bytes
pub in_bytes : (n i : ℕ) → i < n / 128 → 128 * i + 128 ≤ n
in_bytes n i h = omega arith

module _ (room : Room) (f : ℕ → Values) (m₀ o₀ bytes : List ℕ) where
  from-along : {i at : ℕ} {m o : List ℕ} → Along room f m₀ (length o₀) (requests_in bytes) i at m o → Through room f m₀ o₀ bytes i at m o
  from-along a =
      let n = requests-count bytes in
      record { along = a; fits = rw n at a.fits; below = rw n at a.below; long = a.long; marks-long = a.marks-long }

  pub through-start : 2 * (length bytes / 128) ≤ length o₀ → Through room f m₀ o₀ bytes 0 0 m₀ o₀
  through-start h = from-along (along-start room f m₀ (length o₀) (requests_in bytes) o₀ refl (omega (arith, requests-count bytes)))

  pub through-next : {i at later r : ℕ} {m m' o o' : List ℕ} → Through room f m₀ o₀ bytes i at m o → i < length bytes / 128 → later ≡ length bytes / 128 - i - 1
      → ServeAllExit (answer_to room (length o - at) later (words_at bytes (128 * i))) f m m' o o' at later r → Through room f m₀ o₀ bytes (i + 1) r m' o'
  through-next {i} {later = later} t h l s =
      let n = requests-count bytes in
      let before : i < length (requests_in bytes) = omega (arith, n) in
      let rest : later ≡ length (requests_in bytes) - i - 1 = omega (arith, n, l) in
      from-along (along-next room f m₀ (length o₀) (requests_in bytes) t.along before rest (rw (requests-at bytes i h) s))

  pub through-end : {i at : ℕ} {m o : List ℕ} → Through room f m₀ o₀ bytes i at m o → length bytes / 128 ≤ i → ServeAllExit (serve_all room (length o₀) (requests_in bytes)) f m₀ m o₀ o 0 0 at
  through-end t h = along-end room f m₀ (length o₀) (requests_in bytes) t.along (omega (arith, requests-count bytes)) refl

  -- what the next answer asks
  pub through-room : {i at : ℕ} {m o : List ℕ} (cells : ℕ) → Through room f m₀ o₀ bytes i at m o → i < length bytes / 128 → cells ≤ length m₀
      → (cells ≤ length m) × (128 * i + 128 ≤ length bytes) × (at + 2 + 2 * (length bytes / 128 - i - 1) ≤ length o)
  through-room {i} cells t h k = (omega (arith, t.marks-long), in_bytes (length bytes) i h, omega (arith, t.fits, t.long))
