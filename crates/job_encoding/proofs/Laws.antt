-- The words that are stored are the request's, and a request alone is a list of one. Assumes nothing.
use Prim.Native.Nat.{ℕ, zero, suc, ◌+◌, ◌-◌, ◌≤◌}
use native.Mathlib.Omega.{arith}
use native.Mathlib.Numerals.{add-one, add-two, add-three, add-four}
use lib.Dec.{T}
use mathlib.Core.Path.{◌≡◌, ◌∙◌}
use mathlib.Core.List.{List, [], ◌∷◌, ◌++◌}
use lib.ListN.{length, set, replicate, length-append, length-replicate}
use lib.Seq.{sets}
use lib.Ieee.{Float, binary64, fits}
use lib.Ieee.Bits.{to_bits-lt}
use Rattle.arith.specs.F64.{word}
use Rattle.arith.specs.declared.Vec3.{Vec3}
use Rattle.arith.proofs.All.{All, all_append}
use Rattle.lines_locate.specs.declared.Search.{Search}
use Rattle.lines_step.specs.declared.StreamlineOptions.{StreamlineOptions}
use Rattle.lines.specs.declared.StreamlineDirection.{StreamlineDirection}
use Rattle.lines.specs.declared.StreamlineDirection.TheVariants.{Forward, Backward}
use Rattle.lines.specs.declared.StreamlineSettings.{StreamlineSettings}
use Rattle.lines.specs.declared.Rake.{Rake}
use Rattle.planes_cut.specs.declared.Plane.{Plane}
use Rattle.answers.specs.Words.{vec_words}
use Rattle.job_requests.specs.Requests.{requests_in}
use Rattle.job_requests.specs.Encode.{bytes_of}
use Rattle.job_requests.proofs.EncodeLaws.{Word, one-request}
use Rattle.job_encoding.specs.Single.{padded, code_by, sheet_code, direction_word, line_words, plane_words, locate_words, velocity_words, one_line_words, streamline_words, sheet_words, rake_words, section_words, statistics_words, integrals_words, probe_words}

-- ---- the words that are stored

-- 16 words, all zero but the code
abbrev coded : ℕ → List ℕ
coded code = set (replicate 16 0) 0 code

pub locate-stored : (p : Vec3) (search : Search) {code : ℕ} {ws : List ℕ} → code ≡ code_by search 1 → ws ≡ sets (coded code) 1 (vec_words p) → ws ≡ locate_words p search
unfolding locate_words padded vec_words
locate-stored p search k e = rw k at e

pub velocity-stored : (p : Vec3) (search : Search) {code : ℕ} {ws : List ℕ} → code ≡ code_by search 2 → ws ≡ sets (coded code) 1 (vec_words p) → ws ≡ velocity_words p search
unfolding velocity_words padded vec_words
velocity-stored p search k e = rw k at e

module _ (s : StreamlineSettings) where
  pub line-stored : (at : ℕ) {d b₁ b₂ b₃ : ℕ} (ws : List ℕ) {ws₁ ws₂ ws₃ ws₄ ws₅ : List ℕ} → d ≡ direction_word s.direction → ws₁ ≡ set ws at d
      → b₁ ≡ word s.options.step_size → ws₂ ≡ set ws₁ (at + 1) b₁ → ws₃ ≡ set ws₂ (at + 2) s.options.max_steps
      → b₂ ≡ word s.options.max_length → ws₄ ≡ set ws₃ (at + 3) b₂ → b₃ ≡ word s.options.stagnation_speed → ws₅ ≡ set ws₄ (at + 4) b₃
      → ws₅ ≡ sets ws at (line_words s)
  unfolding line_words
  line-stored at ws d e₁ b₁ e₂ e₃ b₂ e₄ b₃ e₅ = rw (e₅, b₃, e₄, b₂, e₃, e₂, b₁, e₁, d, add-one at, add-two at, add-three at, add-four at)

  pub one-line-stored : (code : ℕ) (seed : Vec3) {ws ws' : List ℕ} → ws ≡ sets (coded code) 1 (vec_words seed) → ws' ≡ sets ws 4 (line_words s) → ws' ≡ one_line_words code seed s
  unfolding one_line_words padded vec_words line_words
  one-line-stored code seed e f = rw e at f

  pub rake-stored : (r : Rake) (search : Search) {code : ℕ} {ws ws' ws'' : List ℕ} → code ≡ code_by search 4 → ws ≡ sets (coded code) 1 (vec_words r.start)
      → ws' ≡ sets ws 4 (vec_words r.end) → ws'' ≡ sets (set ws' 7 r.count) 8 (line_words s) → ws'' ≡ rake_words r s search
  unfolding rake_words padded vec_words line_words
  rake-stored r search k e f g = rw (f, e, k) at g

module _ (s : Plane) where
  pub section-stored : {ws : List ℕ} → ws ≡ sets (coded 5) 1 (plane_words s) → ws ≡ section_words s
  unfolding section_words padded plane_words vec_words
  section-stored e = e

  pub statistics-stored : (field : ℕ) {ws : List ℕ} → ws ≡ sets (coded 6) 1 (plane_words s) → set ws 10 field ≡ statistics_words s field
  unfolding statistics_words padded plane_words vec_words
  statistics-stored field e = rw e

  pub integrals-stored : {ws : List ℕ} → ws ≡ sets (coded 7) 1 (plane_words s) → ws ≡ integrals_words s
  unfolding integrals_words padded plane_words vec_words
  integrals-stored e = e

  pub probe-stored : (p : Vec3) {ws ws' : List ℕ} → ws ≡ sets (coded 8) 1 (plane_words s) → ws' ≡ sets ws 10 (vec_words p) → ws' ≡ probe_words s p
  unfolding probe_words padded plane_words vec_words
  probe-stored p e f = rw e at f

-- ---- floats of 64 bits, which every argument's are

abbrev pub F64 : Float → Type 0
F64 x = T (fits binary64 x)

pub record F64s (p : Vec3) : Type 0 where
  pub x : F64 p.x
  pub y : F64 p.y
  pub z : F64 p.z

-- those of a line's options, and its steps as a number of 64 bits
pub record OptionsHeld (o : StreamlineOptions) : Type 0 where
  pub step : F64 o.step_size
  pub steps : Word o.max_steps
  pub length : F64 o.max_length
  pub speed : F64 o.stagnation_speed

pub record PlaneHeld (s : Plane) : Type 0 where
  pub origin : F64s s.origin
  pub u : F64s s.u
  pub v : F64s s.v

pub word-is : (x : Float) → F64 x → Word (word x)
word-is x h = to_bits-lt binary64 x h

vec-words : (p : Vec3) → F64s p → All Word (vec_words p)
unfolding vec_words
vec-words p h = (word-is _ h.x, (word-is _ h.y, (word-is _ h.z, tt)))

direction-is : (d : StreamlineDirection) → Word (direction_word d)
unfolding direction_word
direction-is Forward = omega arith
direction-is Backward = omega arith

line-words : (s : StreamlineSettings) → OptionsHeld s.options → All Word (line_words s)
unfolding line_words
line-words s h = (direction-is s.direction, (word-is _ h.step, (h.steps, (word-is _ h.length, (word-is _ h.speed, tt)))))

plane-words : (s : Plane) → PlaneHeld s → All Word (plane_words s)
unfolding plane_words
plane-words s h =
    all_append Word (vec_words s.origin) (vec_words s.u ++ vec_words s.v) (vec-words s.origin h.origin)
    (all_append Word (vec_words s.u) (vec_words s.v) (vec-words s.u h.u) (vec-words s.v h.v))

-- ---- 16 words of 64 bits

pub record Whole (ws : List ℕ) : Type 0 where
  pub long : length ws ≡ 16
  pub words : All Word ws

zeros : (n : ℕ) → All Word (replicate n 0)
zeros zero = tt
zeros (suc n) = (omega arith, zeros n)

padded-whole : (ws : List ℕ) → length ws ≤ 16 → All Word ws → Whole (padded ws)
unfolding padded
padded-whole ws n h =
    record {
      long = length-append ws (replicate (16 - length ws) 0) ∙ omega (arith, length-replicate {A = ℕ} (16 - length ws) 0);
      words = all_append Word ws _ h (zeros (16 - length ws));
    }

code_is : (search : Search) (code : ℕ) → code ≤ 4 → Word (code_by search code)
unfolding code_by
code_is Search.Bins code h = omega arith
code_is Search.All code h = omega arith

sheet-code-is : (search : Search) → Word (sheet_code search)
unfolding sheet_code
sheet-code-is Search.Bins = omega arith
sheet-code-is Search.All = omega arith

pub locate-whole : (p : Vec3) (search : Search) → F64s p → Whole (locate_words p search)
unfolding locate_words vec_words
locate-whole p search h = padded-whole (code_by search 1 ∷ vec_words p) (omega arith) (code_is search 1 (omega arith), vec-words p h)

pub velocity-whole : (p : Vec3) (search : Search) → F64s p → Whole (velocity_words p search)
unfolding velocity_words vec_words
velocity-whole p search h = padded-whole (code_by search 2 ∷ vec_words p) (omega arith) (code_is search 2 (omega arith), vec-words p h)

-- the seeds of a rake
pub record RakeHeld (r : Rake) : Type 0 where
  pub start : F64s r.start
  pub end : F64s r.end
  pub count : Word r.count

module _ (s : StreamlineSettings) (l : OptionsHeld s.options) where
  pub one-line-whole : (code : ℕ) (seed : Vec3) → Word code → F64s seed → Whole (one_line_words code seed s)
  unfolding one_line_words vec_words line_words
  one-line-whole code seed w h =
      padded-whole (code ∷ (vec_words seed ++ line_words s)) (omega arith) (w, all_append Word (vec_words seed) (line_words s) (vec-words seed h) (line-words s l))

  pub rake-whole : (r : Rake) (search : Search) → RakeHeld r → Whole (rake_words r s search)
  unfolding rake_words vec_words line_words
  rake-whole r search h =
      let later : List ℕ = vec_words r.end ++ r.count ∷ line_words s in
      padded-whole (code_by search 4 ∷ (vec_words r.start ++ later)) (omega arith)
      (code_is search 4 (omega arith), all_append Word (vec_words r.start) later (vec-words r.start h.start) (all_append Word (vec_words r.end) (r.count ∷ line_words s) (vec-words r.end h.end) (h.count, line-words s l)))

module _ (s : Plane) (h : PlaneHeld s) where
  pub section-whole : Whole (section_words s)
  unfolding section_words plane_words vec_words
  section-whole = padded-whole (5 ∷ plane_words s) (omega arith) (omega arith, plane-words s h)

  pub statistics-whole : (field : ℕ) → Word field → Whole (statistics_words s field)
  unfolding statistics_words plane_words vec_words
  statistics-whole field n = padded-whole (6 ∷ (plane_words s ++ field ∷ [])) (omega arith) (omega arith, all_append Word (plane_words s) (field ∷ []) (plane-words s h) (n, tt))

  pub integrals-whole : Whole (integrals_words s)
  unfolding integrals_words plane_words vec_words
  integrals-whole = padded-whole (7 ∷ plane_words s) (omega arith) (omega arith, plane-words s h)

  pub probe-whole : (p : Vec3) → F64s p → Whole (probe_words s p)
  unfolding probe_words plane_words vec_words
  probe-whole p k = padded-whole (8 ∷ (plane_words s ++ vec_words p)) (omega arith) (omega arith, all_append Word (plane_words s) (vec_words p) (plane-words s h) (vec-words p k))

-- ---- "a request called alone is a list of one"

pub list-of-one : {ws : List ℕ} → Whole ws → requests_in (bytes_of ws) ≡ ws ∷ []
list-of-one {ws} w = one-request ws w.long w.words

-- the words are a list of one request, namely themselves
abbrev pub Alone : List ℕ → Type 0
Alone ws = requests_in (bytes_of ws) ≡ ws ∷ []

pub locate-alone : (p : Vec3) (search : Search) → F64s p → Alone (locate_words p search)
locate-alone p search h = list-of-one (locate-whole p search h)

pub velocity-alone : (p : Vec3) (search : Search) → F64s p → Alone (velocity_words p search)
velocity-alone p search h = list-of-one (velocity-whole p search h)

module _ (s : StreamlineSettings) (l : OptionsHeld s.options) where
  pub streamline-alone : (seed : Vec3) (search : Search) → F64s seed → Alone (streamline_words seed s search)
  streamline-alone seed search h = list-of-one (one-line-whole s l (code_by search 3) seed (code_is search 3 (omega arith)) h)

  pub sheet-alone : (seed : Vec3) (search : Search) → F64s seed → Alone (sheet_words seed s search)
  sheet-alone seed search h = list-of-one (one-line-whole s l (sheet_code search) seed (sheet-code-is search) h)

  pub rake-alone : (r : Rake) (search : Search) → RakeHeld r → Alone (rake_words r s search)
  rake-alone r search h = list-of-one (rake-whole s l r search h)

module _ (s : Plane) (h : PlaneHeld s) where
  pub section-alone : Alone (section_words s)
  section-alone = list-of-one (section-whole s h)

  pub statistics-alone : (field : ℕ) → Word field → Alone (statistics_words s field)
  statistics-alone field n = list-of-one (statistics-whole s h field n)

  pub integrals-alone : Alone (integrals_words s)
  integrals-alone = list-of-one (integrals-whole s h)

  pub probe-alone : (p : Vec3) → F64s p → Alone (probe_words s p)
  probe-alone p k = list-of-one (probe-whole s h p k)
