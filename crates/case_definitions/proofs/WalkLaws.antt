-- The words that are left, by position, and the ways out of the walker's functions. Assumes nothing.
use Prim.Native.Nat.{ℕ, zero, suc, ◌+◌, ◌-◌, ◌≤◌, ◌<◌}
use native.Mathlib.Omega.{arith}
use native.Mathlib.Decide.{dec_lt, dec_le}
use mathlib.Core.Path.{◌≡◌, refl, ap, sym, ◌∙◌}
use mathlib.Core.List.{List, [], ◌∷◌}
use lib.ListN.{length, get_or, take, drop, length-drop, drop_of_length-le, get_or-eq_default}
use lib.Seq.{length-take-le, drop-drop}
use borrow.Author.Tests.{le-leb, lt-leb}
use Rattle.arith.proofs.ListLaws.{left_at}
use Rattle.arith.proofs.RecordLaws.{left-suc}
use Rattle.reading.specs.Result.{Refusable, ◌>>=◌}
use Rattle.reading.proofs.ResultLaws.{bound}
use Rattle.case_definitions.specs.Faces.{Definition, polygon, solid, polyhedron, tetrahedron, hexahedron, prism, pyramid, face_count}
use Rattle.case_definitions.specs.Definitions.{Taken, numbers, counted, face_lists, made, kinds, definition}
use Rattle.case_definitions.specs.Ensures.{first_of, head_of, cursor_at, stepped, step_at, listed, list_at, skipped, KindAt, SolidAt}
use Rattle.std.specs.Prelude.{Option, Result, Some, None, Ok, Err, ok_or}
use Rattle.refusal.specs.declared.Refusal.{Refusal}
use Rattle.refusal.specs.declared.Refusal.TheVariants.{WrongDefinitions}

-- ---- counts and numbers at a position

module _ (ws : List ℕ) (p : ℕ) where
  pub numbers-there : (n : ℕ) → p + n ≤ length ws → numbers n (drop p ws) ≡ Ok (record { read = take n (drop p ws); left = drop (p + n) ws })
  unfolding numbers
  numbers-there n h = rw (le-leb n (length (drop p ws)) (omega (arith, length-drop p ws)), drop-drop n p ws)

  pub numbers-short : (n : ℕ) → length ws - p < n → numbers n (drop p ws) ≡ Err WrongDefinitions
  unfolding numbers
  numbers-short n h = rw (lt-leb n (length (drop p ws)) (omega (arith, length-drop p ws)))

  module _ {A : Type 0} (limit : ℕ) (rest : ℕ → List ℕ → Refusable (Taken A)) where
    pub counted_none : length ws ≤ p → counted limit rest (drop p ws) ≡ Err WrongDefinitions
    unfolding counted
    counted_none h = rw (drop_of_length-le ws h)

    module _ (more : p < length ws) where
      pub counted-over : limit < get_or ws p 0 → counted limit rest (drop p ws) ≡ Err WrongDefinitions
      unfolding counted
      counted-over h = rw (left_at ws p 0 more, lt-leb (get_or ws p 0) limit h, counted)

      pub counted-within : get_or ws p 0 ≤ limit → counted limit rest (drop p ws) ≡ rest (get_or ws p 0) (drop (p + 1) ws)
      unfolding counted
      counted-within h = rw (left_at ws p 0 more, le-leb (get_or ws p 0) limit h, counted)

-- ---- a missing count as a refusal

module _ (o l : Option ℕ) (r : Result ℕ Refusal) where
  pub count-of : (n : ℕ) → o ≡ l → r ≡ ok_or o WrongDefinitions → r ≡ Ok n → Some n ≡ l
  count-of n e f g = by o refl
    where
      by : (x : Option ℕ) → o ≡ x → Some n ≡ l
      by None h = cc
      by (Some k) h = cc

  pub no-count : (q : Refusal) → o ≡ l → r ≡ ok_or o WrongDefinitions → r ≡ Err q → (q ≡ WrongDefinitions) × (None ≡ l)
  no-count q e f g = by o refl
    where
      by : (x : Option ℕ) → o ≡ x → (q ≡ WrongDefinitions) × (None ≡ l)
      by None h = (cc, cc)
      by (Some k) h = (cc, cc)

-- n, at most `limit`, stands at p, and n numbers after it
pub record Lists (ws : List ℕ) (p limit n : ℕ) : Type 0 where
  pub read : counted limit numbers (drop p ws) ≡ Ok (record { read = take n (drop (p + 1) ws); left = drop (p + 1 + n) ws })
  pub count : n ≡ get_or ws p 0
  pub few : n ≤ limit
  pub room : p + 1 + n ≤ length ws

pub data ListCase (ws : List ℕ) (p limit : ℕ) : Type 0 where
  missing : counted limit numbers (drop p ws) ≡ Err WrongDefinitions → ListCase ws p limit
  there : (n : ℕ) → Lists ws p limit n → ListCase ws p limit

pub list-case : (ws : List ℕ) (p limit : ℕ) → ListCase ws p limit
list-case ws p limit = by (dec_lt p (length ws))
  where
    by-room : p < length ws → get_or ws p 0 ≤ limit → Dec (p + 1 + get_or ws p 0 ≤ length ws) → ListCase ws p limit
    by-room more few (yes room) =
        there (get_or ws p 0) (record { read = counted-within ws p limit numbers more few ∙ numbers-there ws (p + 1) (get_or ws p 0) room; count = refl; few = few; room = room })
    by-room more few (no short) = missing (counted-within ws p limit numbers more few ∙ numbers-short ws (p + 1) (get_or ws p 0) (omega arith))

    by-limit : p < length ws → Dec (get_or ws p 0 ≤ limit) → ListCase ws p limit
    by-limit more (yes few) = by-room more few (dec_le (p + 1 + get_or ws p 0) (length ws))
    by-limit more (no over) = missing (counted-over ws p limit numbers more (omega arith))

    by : Dec (p < length ws) → ListCase ws p limit
    by (yes more) = by-limit more (dec_le (get_or ws p 0) limit)
    by (no none) = missing (counted_none ws p limit numbers (omega arith))

-- ---- list_at

module _ (ws : List ℕ) (p limit : ℕ) where
  no-list : counted limit numbers (drop p ws) ≡ Err WrongDefinitions → None ≡ list_at ws p limit
  unfolding list_at listed
  no-list e = rw e

  a-list : (n : ℕ) → Lists ws p limit n → Some n ≡ list_at ws p limit
  unfolding list_at listed
  a-list n l =
      let e : length (take n (drop (p + 1) ws)) ≡ n = length-take-le n (drop (p + 1) ws) (omega (arith, l.room, length-drop (p + 1) ws)) in
      rw (l.read, e)

  pub list-none : length ws ≤ p → None ≡ list_at ws p limit
  list-none h = no-list (counted_none ws p limit numbers h)

  module _ (n : ℕ) (more : p < length ws) (e : n ≡ get_or ws p 0) where
    pub list_over : limit < n → None ≡ list_at ws p limit
    list_over h = no-list (counted-over ws p limit numbers more (omega arith))

    pub list-short : n ≤ limit → length ws - p - 1 < n → None ≡ list_at ws p limit
    list-short few h = no-list (counted-within ws p limit numbers more (omega arith) ∙ numbers-short ws (p + 1) (get_or ws p 0) (omega arith))

    pub list-there : n ≤ limit → n ≤ length ws - p - 1 → Some n ≡ list_at ws p limit
    list-there few h =
        a-list n
        (record {
          read =
              counted-within ws p limit numbers more (omega arith)
              ∙ rw (← e) (numbers-there ws (p + 1) n (omega arith));
          count = e;
          few = few;
          room = omega arith;
        })

  -- what the answer tells
  pub list-bad : None ≡ list_at ws p limit → counted limit numbers (drop p ws) ≡ Err WrongDefinitions
  list-bad e = by (list-case ws p limit)
    where
      by : ListCase ws p limit → counted limit numbers (drop p ws) ≡ Err WrongDefinitions
      by (missing m) = m
      by (there n l) = absurd (let w = a-list n l in let z : ◌≡◌ {A = ℕ} 0 1 = cc in omega arith)

  pub list_count : (n : ℕ) → Some n ≡ list_at ws p limit → Lists ws p limit n
  list_count n e = by (list-case ws p limit)
    where
      by : ListCase ws p limit → Lists ws p limit n
      by (missing m) = absurd (let w = no-list m in let z : ◌≡◌ {A = ℕ} 0 1 = cc in omega arith)
      by (there k l) = let w = a-list k l in let z : n ≡ k = cc in rw z l

-- ---- one record

pub cursor-at : (ws : List ℕ) (q : ℕ) → q ≤ length ws → cursor_at ws (drop q ws) ≡ record { at = q }
unfolding cursor_at
cursor-at ws q h = let e : length ws - length (drop q ws) ≡ q = omega (arith, length-drop q ws) in rw e

module _ (ws : List ℕ) (at : ℕ) where
  pub no_record : length ws ≤ at → definition (drop at ws) ≡ Err WrongDefinitions
  unfolding definition
  no_record h = rw (drop_of_length-le ws h)

  pub kind_at : (kind : ℕ) → at < length ws → get_or ws at 0 ≡ kind → definition (drop at ws) ≡ get_or kinds kind (λ l. Err WrongDefinitions) (drop (at + 1) ws)
  unfolding definition
  kind_at kind more e = rw (left_at ws at 0 more, e)

  pub step-wrong : (r : Refusal) → definition (drop at ws) ≡ Err r → Err r ≡ step_at ws at
  unfolding step_at stepped
  step-wrong r e = rw e

  step-record : (d : Definition) (q kind faces first : ℕ) → definition (drop at ws) ≡ Ok (record { read = d; left = drop q ws }) → q ≤ length ws →
      get_or ws at 0 ≡ kind → face_count d ≡ faces → first_of at d ≡ first →
      Ok ((record { kind = kind; faces = faces; at = at; first = first }), (record { at = q })) ≡ step_at ws at
  unfolding step_at stepped head_of
  step-record d q kind faces first e h k f g = rw (e, cursor-at ws q h, k, f, g)

  pub step_end : length ws ≤ at → Err WrongDefinitions ≡ step_at ws at
  step_end h = step-wrong WrongDefinitions (no_record h)

  pub step-unknown : at < length ws → 6 ≤ get_or ws at 0 → Err WrongDefinitions ≡ step_at ws at
  unfolding kinds
  step-unknown more h =
      step-wrong WrongDefinitions
      (kind_at (get_or ws at 0) more refl ∙ ap (λ k. k (drop (at + 1) ws)) (get_or-eq_default kinds (λ l. Err WrongDefinitions) h))

  -- ---- solid

  module _ (kind count faces : ℕ) (s : SolidAt ws at kind count faces) where
    pub solid-short : length ws - at - 1 < count → Err WrongDefinitions ≡ step_at ws at
    unfolding made ◌>>=◌
    solid-short h = step-wrong WrongDefinitions (s.reads ∙ rw (numbers-short ws (at + 1) count (omega arith)))

    pub solid-there : count ≤ length ws - at - 1 →
        Ok ((record { kind = kind; faces = faces; at = at; first = at + 1 }), (record { at = at + 1 + count })) ≡ step_at ws at
    unfolding made ◌>>=◌ face_count first_of
    solid-there h =
        step-record (solid s.places (take count (drop (at + 1) ws))) (at + 1 + count) kind faces (at + 1)
        (s.reads ∙ rw (numbers-there ws (at + 1) count (omega (arith, s.at-kind.there)))) (omega (arith, s.at-kind.there)) s.at-kind.same (sym s.all) refl

  pub solid-1 : KindAt ws at 1 → SolidAt ws at 1 4 4
  unfolding kinds tetrahedron
  solid-1 k = record { at-kind = k; places = tetrahedron; reads = kind_at 1 k.there k.same; all = refl; few = omega arith }

  pub solid-2 : KindAt ws at 2 → SolidAt ws at 2 8 6
  unfolding kinds hexahedron
  solid-2 k = record { at-kind = k; places = hexahedron; reads = kind_at 2 k.there k.same; all = refl; few = omega arith }

  pub solid-3 : KindAt ws at 3 → SolidAt ws at 3 6 5
  unfolding kinds prism
  solid-3 k = record { at-kind = k; places = prism; reads = kind_at 3 k.there k.same; all = refl; few = omega arith }

  pub solid-4 : KindAt ws at 4 → SolidAt ws at 4 5 5
  unfolding kinds pyramid
  solid-4 k = record { at-kind = k; places = pyramid; reads = kind_at 4 k.there k.same; all = refl; few = omega arith }

  -- ---- polygon

  module _ (k : KindAt ws at 0) where
    pub polygon-reads : definition (drop at ws) ≡ made polygon (counted 24 numbers (drop (at + 1) ws))
    unfolding kinds
    polygon-reads = kind_at 0 k.there k.same

    pub polygon-bad : None ≡ list_at ws (at + 1) 24 → Err WrongDefinitions ≡ step_at ws at
    unfolding made ◌>>=◌
    polygon-bad e = step-wrong WrongDefinitions (polygon-reads ∙ rw (list-bad ws (at + 1) 24 e))

    pub polygon-there : (n : ℕ) → Some n ≡ list_at ws (at + 1) 24 →
        Ok ((record { kind = 0; faces = n; at = at; first = at + 2 }), (record { at = at + 2 + n })) ≡ step_at ws at
    unfolding made ◌>>=◌ face_count first_of
    polygon-there n e =
        let l = list_count ws (at + 1) 24 n e in
        let q : at + 1 + 1 + n ≡ at + 2 + n = omega arith in
        step-record (polygon (take n (drop (at + 1 + 1) ws))) (at + 2 + n) 0 n (at + 2) (polygon-reads ∙ rw (l.read, q)) (omega (arith, l.room)) k.same
        (length-take-le n (drop (at + 1 + 1) ws) (omega (arith, l.room, length-drop (at + 1 + 1) ws))) refl

-- ---- the faces of a polyhedron

module _ (ws : List ℕ) where
  pub skipped-more : (f : List ℕ) (r : Refusable (Taken (List (List ℕ)))) →
      skipped ws (r >>= λ fs. Ok (record { read = f ∷ fs.read; left = fs.left })) ≡ skipped ws r
  unfolding ◌>>=◌ skipped
  skipped-more f (Err n) = refl
  skipped-more f (Ok fs) = refl

  module _ (n i at : ℕ) where
    pub skip-bad : i < n → None ≡ list_at ws at 8 → Err WrongDefinitions ≡ skipped ws (face_lists (n - i) (drop at ws))
    unfolding face_lists ◌>>=◌ skipped
    skip-bad h e = rw (left-suc n i h, list-bad ws at 8 e)

    pub skip-next : (k : ℕ) → i < n → Some k ≡ list_at ws at 8 →
        skipped ws (face_lists (n - i) (drop at ws)) ≡ skipped ws (face_lists (n - (i + 1)) (drop (at + 1 + k) ws))
    unfolding face_lists
    skip-next k h e =
        rw (left-suc n i h, (list_count ws at 8 k e).read)
        (unfold ◌>>=◌ in skipped-more (take k (drop (at + 1) ws)) (face_lists (n - (i + 1)) (drop (at + 1 + k) ws)))

    pub skip-end : n ≤ i → at ≤ length ws → Ok at ≡ skipped ws (face_lists (n - i) (drop at ws))
    unfolding face_lists skipped
    skip-end h b =
        let z : n - i ≡ 0 = omega arith in
        let e : length ws - length (drop at ws) ≡ at = omega (arith, length-drop at ws) in
        rw (z, e)

  -- what the answer tells
  pub skipped-short : {A : Type 0} (t : Refusable (Taken A)) (r : Refusal) → Err r ≡ skipped ws t → t ≡ Err r
  unfolding skipped
  skipped-short (Err n) r e = let w : r ≡ n = cc in rw w
  skipped-short (Ok t) r e = absurd (let z : ◌≡◌ {A = ℕ} 0 1 = cc in omega arith)

-- the first of some faces, and the rest
pub record FaceFirst (ws : List ℕ) (n p : ℕ) (w : Taken (List (List ℕ))) : Type 0 where
  pub count : ℕ
  pub first : Lists ws p 8 count
  pub rest : Taken (List (List ℕ))
  pub more : face_lists n (drop (p + 1 + count) ws) ≡ Ok rest
  pub same : record { read = take count (drop (p + 1) ws) ∷ rest.read; left = rest.left } ≡ w

pub face-first : (ws : List ℕ) (n p : ℕ) (w : Taken (List (List ℕ))) → face_lists (suc n) (drop p ws) ≡ Ok w → FaceFirst ws n p w
unfolding face_lists
face-first ws n p w e = by (list-case ws p 8)
  where
    by : ListCase ws p 8 → FaceFirst ws n p w
    by (missing m) = let b = bound _ _ _ e in absurd (let h = b.had in let z : ◌≡◌ {A = ℕ} 0 1 = cc in omega arith)
    by (there k l) =
        let b = bound _ _ _ e in
        let h = b.had in
        let g = l.read in
        let f : b.value ≡ record { read = take k (drop (p + 1) ws); left = drop (p + 1 + k) ws } = cc in
        let d = bound _ _ _ b.then in
        let v = d.then in
        record {
          count = k;
          first = l;
          rest = d.value;
          more = ap (λ t. face_lists n t.left) (sym f) ∙ d.had;
          same = ap (λ t. record { read = t.read ∷ d.value.read; left = d.value.left }) (sym f) ∙ (cc);
        }

-- as many faces as counted, and at least a word to a face; what is left is the end of the words
pub record FacesRead (ws : List ℕ) (n p : ℕ) (w : Taken (List (List ℕ))) : Type 0 where
  pub end : ℕ
  pub left : w.left ≡ drop end ws
  pub all : length w.read ≡ n
  pub past : p + n ≤ end
  pub within : end ≤ length ws

pub faces-read : (ws : List ℕ) (n p : ℕ) (w : Taken (List (List ℕ))) → p ≤ length ws → face_lists n (drop p ws) ≡ Ok w → FacesRead ws n p w
faces-read ws zero p w h e =
    let m : record { read = []; left = drop p ws } ≡ w = unfold face_lists in cc in
    record { end = p; left = sym (ap (λ t. t.left) m); all = sym (ap (λ t. length t.read) m); past = omega arith; within = h }
faces-read ws (suc n) p w h e =
    let f = face-first ws n p w e in
    let r = faces-read ws n (p + 1 + f.count) f.rest f.first.room f.more in
    record {
      end = r.end;
      left = sym (ap (λ t. t.left) f.same) ∙ r.left;
      all = sym (ap (λ t. length t.read) f.same) ∙ ap suc r.all;
      past = omega (arith, r.past);
      within = r.within;
    }

-- ---- polyhedron

module _ (ws : List ℕ) (at : ℕ) (k : KindAt ws at 5) where
  pub polyhedron-reads : definition (drop at ws) ≡ made polyhedron (counted 24 face_lists (drop (at + 1) ws))
  unfolding kinds
  polyhedron-reads = kind_at ws at 5 k.there k.same

  pub polyhedron-none : length ws ≤ at + 1 → Err WrongDefinitions ≡ step_at ws at
  unfolding made ◌>>=◌
  polyhedron-none h = step-wrong ws at WrongDefinitions (polyhedron-reads ∙ rw (counted_none ws (at + 1) 24 face_lists h))

  module _ (n : ℕ) (more : at + 1 < length ws) (e : n ≡ get_or ws (at + 1) 0) where
    pub polyhedron-over : 24 < n → Err WrongDefinitions ≡ step_at ws at
    unfolding made ◌>>=◌
    polyhedron-over h = step-wrong ws at WrongDefinitions (polyhedron-reads ∙ rw (counted-over ws (at + 1) 24 face_lists more (omega arith)))

    module _ (few : n ≤ 24) where
      faces-left : counted 24 face_lists (drop (at + 1) ws) ≡ face_lists n (drop (at + 2) ws)
      faces-left =
          let q : at + 1 + 1 ≡ at + 2 = omega arith in
          counted-within ws (at + 1) 24 face_lists more (omega arith) ∙ rw (← e, q)

      pub polyhedron-short : (r : Refusal) → Err r ≡ skipped ws (face_lists n (drop (at + 2) ws)) → Err r ≡ step_at ws at
      unfolding made ◌>>=◌
      polyhedron-short r h = step-wrong ws at r (polyhedron-reads ∙ rw (faces-left, skipped-short ws _ r h))

      pub polyhedron-there : (q : ℕ) → Ok q ≡ skipped ws (face_lists n (drop (at + 2) ws)) →
          Ok ((record { kind = 5; faces = n; at = at; first = at + 2 }), (record { at = q })) ≡ step_at ws at
      unfolding skipped made ◌>>=◌ face_count first_of
      polyhedron-there q h = by (face_lists n (drop (at + 2) ws)) refl
        where
          by : (t : Refusable (Taken (List (List ℕ)))) → face_lists n (drop (at + 2) ws) ≡ t →
              Ok ((record { kind = 5; faces = n; at = at; first = at + 2 }), (record { at = q })) ≡ step_at ws at
          by (Err r) g = absurd (let z : ◌≡◌ {A = ℕ} 0 1 = cc in omega arith)
          by (Ok w) g =
              let f = faces-read ws n (at + 2) w (omega arith) g in
              let b = f.within in
              let l : q ≡ length ws - length w.left = cc in
              let m : length w.left ≡ length (drop f.end ws) = ap length f.left in
              let v : q ≡ f.end = omega (arith, length-drop f.end ws) in
              let u : w.left ≡ drop q ws = f.left ∙ ap (λ e. drop e ws) (sym v) in
              step-record ws at (polyhedron w.read) q 5 n (at + 2)
              (polyhedron-reads ∙ rw (faces-left, g) (ap {B = Refusable (Taken Definition)} (λ l. Ok (record { read = polyhedron w.read; left = l })) u))
              (omega arith) k.same f.all refl
