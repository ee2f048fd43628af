-- The words of a request, one turn over its unused words, and what the refusals leave. Assumes nothing.
use Prim.Native.Nat.{ℕ, zero, suc, ◌+◌, ◌-◌, ◌*◌, ◌/◌, ◌<◌}
use native.Mathlib.Nat.{zero-add}
use native.Mathlib.Omega.{arith}
use mathlib.Core.Path.{◌≡◌, refl, ap, sym, ◌∙◌}
use mathlib.Core.Bool.{Bool, true, false, cond}
use mathlib.Core.List.{List, []}
use lib.Dec.{ltb, eqb}
use lib.ListN.{length, get_or, drop}
use borrow.Author.Tests.{ltb-false}
use Rattle.arith.specs.Bytes.{le64}
use Rattle.arith.specs.Lists.{any_of}
use Rattle.arith.proofs.ListLaws.{left_at}
use Rattle.std.specs.Prelude.{◌||◌}
use Rattle.std.specs.List.{list_any, range_with_len}
use Rattle.arith.proofs.RecordLaws.{drop-end}
use Rattle.case_file.proofs.ReadLaws.{length-read_all, get_or-read_all}
use Rattle.lines_locate.specs.declared.Search.{Search}
use Rattle.lines_millimetres.specs.declared.Rounding.TheVariants.{AwayFromZero}
use Rattle.lines_words.specs.declared.Style.{Style}
use Rattle.lines_words.specs.declared.Style.TheVariants.{Points, Sheet}
use Rattle.planes_cut.specs.declared.Plane.{Plane}
use Rattle.job_requests.specs.declared.Code.{Code}
use Rattle.job_requests.specs.declared.Request.{Request}
use Rattle.job_requests.specs.Codes.{code_of}
use Rattle.job_requests.specs.Requests.{words_at, requests_in, number, refuse_if, ill_formed, wrong_dimension, settings, streamline, rake_of, rake, over_field, plain_code, is_planar, plane_of, statistics, over_plane, planar, by_code, request_of}
use Rattle.job_requests.specs.declared.Request.TheVariants.{Refused}
use Rattle.job_requests.specs.Bounds.{Allowed}
use Rattle.refusal.specs.declared.Refusal.{Refusal}
use Rattle.refusal.specs.declared.Refusal.TheVariants.{IllFormed, NoSuchField, OtherDimension, TooFewSeeds, TooManySteps}
use Rattle.reading.specs.Result.{Refusable}
use Rattle.std.specs.Prelude.{Ok, Err}
use Rattle.planes_cut.specs.Plane.{validated}
use Rattle.job_requests.specs.Requests.{unless}

-- a test of the elements by their numbers, from i on, is the test of what is left at i
any_numbered : {A : Type 0} (p : A → Bool) (l : List A) (d : A) (i n : ℕ) → n ≡ length l - i
    → list_any (λ k. p (get_or l k d)) (range_with_len i n) ≡ any_of p (drop i l)
unfolding any_of
any_numbered p l d i zero e = rw (drop-end l i (omega arith), any_of)
any_numbered p l d i (suc n) e =
    let more : i < length l = omega arith in
    rw (left_at l i d more, any_of) (step (p (get_or l i d)) (any_numbered p l d (i + 1) n (omega arith)))
  where
    step : (b : Bool) {x y : Bool} → x ≡ y → (b || x) ≡ elim b [ true ↦ true | false ↦ y ]
    step true e = refl
    step false e = e

-- ---- the requests of the bytes, and the words of one

pub requests-count : (bytes : List ℕ) → length (requests_in bytes) ≡ length bytes / 128
unfolding requests_in
requests-count bytes = length-read_all (words_at bytes) 128 (length bytes / 128) 0

pub requests-at : (bytes : List ℕ) (i : ℕ) → i < length bytes / 128 → get_or (requests_in bytes) i [] ≡ words_at bytes (128 * i)
unfolding requests_in
requests-at bytes i h = get_or-read_all (words_at bytes) 128 (length bytes / 128) 0 i [] h ∙ ap (words_at bytes) (zero-add (128 * i))

module _ (bytes : List ℕ) (at : ℕ) where
  pub length-words : length (words_at bytes at) ≡ 16
  unfolding words_at
  length-words = length-read_all (le64 bytes) 8 16 at

  pub number_at : (k : ℕ) → k < 16 → number (words_at bytes at) k ≡ le64 bytes (at + 8 * k)
  unfolding words_at number
  number_at k h = get_or-read_all (le64 bytes) 8 16 at k 0 h

  -- ---- a word from some place on is not zero

  pub set_by_number : (k : ℕ) → list_any (λ i. ltb 0 (number (words_at bytes at) i)) (range_with_len k (16 - k)) ≡ any_of (ltb 0) (drop k (words_at bytes at))
  unfolding number
  set_by_number k = any_numbered (ltb 0) (words_at bytes at) 0 k (16 - k) (rw length-words)

-- ---- what the refusals leave

allowed-unless : (n : Refusal) (bad : Bool) (r : Request) → (bad ≡ false → Allowed r) → Allowed (refuse_if n bad r)
unfolding refuse_if Allowed
allowed-unless n true r h = tt
allowed-unless n false r h = h refl

allowed-either : (b : Bool) (r q : Request) → Allowed r → Allowed q → Allowed (cond b r q)
allowed-either true r q h k = h
allowed-either false r q h k = k

allowed-valid : (t : Refusable (Unit {0})) (r : Request) → Allowed r → Allowed (unless t r)
unfolding unless Allowed
allowed-valid (Err n) r h = tt
allowed-valid (Ok t) r h = h

module _ (r : List ℕ) where
  allowed-streamline : (k : ℕ) (style : Style) (search : Search) → Allowed (streamline r k style search)
  unfolding streamline Allowed
  allowed-streamline k style search = allowed-unless TooManySteps _ _ (ltb-false 65536 (settings r k).options.max_steps)

  allowed-rake : (k : ℕ) (search : Search) → Allowed (rake r k search)
  unfolding rake rake_of Allowed
  allowed-rake k search =
      allowed-unless TooFewSeeds _ _ (λ a. allowed-unless TooManySteps _ _ (λ b. allowed-unless TooManySteps _ _ (λ c.
      (ltb-false (number r 7) 2 a, ltb-false 64 (number r 7) b, ltb-false 65536 (settings r k).options.max_steps c))))

  allowed-field : (code k : ℕ) (search : Search) → Allowed (over_field r code k search)
  unfolding over_field Allowed
  allowed-field code k search =
      allowed-either (eqb code 1) _ _ tt (allowed-either (eqb code 2) _ _ tt
      (allowed-either (eqb code 3) _ _ (allowed-streamline k Points search) (allowed-rake k search)))

  allowed-over : (code : ℕ) (s : Plane) → Allowed (over_plane r code s)
  unfolding over_plane statistics Allowed
  allowed-over code s =
      allowed-either (eqb code 5) _ _ tt (allowed-either (eqb code 6) _ _ (allowed-unless NoSuchField _ _ (λ a. tt)) (allowed-either (eqb code 7) _ _ tt tt))

  allowed-planar : (code : ℕ) → Allowed (planar r code)
  unfolding planar
  allowed-planar code = allowed-valid (validated (plane_of r)) _ (allowed-over code (plane_of r))

  allowed-code : (code k : ℕ) → Allowed (by_code r code k)
  unfolding by_code
  allowed-code code k =
      allowed-either (ltb 12 code) _ _ (allowed-streamline k (Sheet AwayFromZero) _)
      (allowed-either (is_planar code) _ _ (allowed-planar code) (allowed-field (plain_code code) k _))

  allowed-request : (flat : Bool) → Allowed (request_of flat r)
  unfolding request_of
  allowed-request flat = allowed-unless IllFormed _ _ (λ a. allowed-unless OtherDimension _ _ (λ b. allowed-code (number r 0) _))

-- ---- refusals 30 and 31

module _ (r : List ℕ) (flat : Bool) where
  -- the request, which is allowed
  abbrev pub Is : Request → Type 0
  Is q = (q ≡ request_of flat r) × Allowed q

  whole : {q : Request} → q ≡ request_of flat r → Is q
  whole e = (e, rw e (allowed-request r flat))

  module _ {code : ℕ} {c : Code} {b : Bool} (f : code ≡ number r 0) (t : c ≡ code_of code) (e : b ≡ ill_formed r c) where
    row : code_of (number r 0) ≡ c
    row = sym (t ∙ ap code_of f)

    pub request-ill-formed : b ≡ true → Is (Refused IllFormed)
    unfolding request_of refuse_if
    request-ill-formed h = whole (rw (row, ← e, h))

    module _ {d : Bool} (h : b ≡ false) (g : d ≡ wrong_dimension flat c) where
      pub request-wrong-dimension : d ≡ true → Is (Refused OtherDimension)
      unfolding request_of refuse_if
      request-wrong-dimension k = whole (rw (row, ← e, h, ← g, k))

      pub request-by-code : {q : Request} → d ≡ false → q ≡ by_code r code c.line → Is q
      unfolding request_of refuse_if
      request-by-code k w = whole (rw (row, ← e, h, ← g, k, ← f) w)
