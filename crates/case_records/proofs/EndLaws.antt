-- The position after what stands at a position, and one turn of the walk over a list of words. Assumes nothing.
use Prim.Native.Nat.{ℕ, ◌+◌, ◌-◌, ◌≤◌, ◌<◌}
use native.Mathlib.Omega.{arith}
use mathlib.Core.Path.{◌≡◌, refl, ap, sym, ◌∙◌}
use mathlib.Core.List.{List, ◌∷◌}
use lib.ListN.{length, get_or, take, drop, length-drop, drop_of_length-le}
use Rattle.arith.proofs.ListLaws.{left_at}
use Rattle.arith.proofs.RecordLaws.{left-suc}
use Rattle.reading.specs.Result.{Refusable, ◌>>=◌}
use Rattle.case_definitions.specs.Faces.{Definition}
use Rattle.case_definitions.specs.Definitions.{Taken, numbers, counted, face_lists, made, definition, definitions}
use Rattle.case_definitions.specs.Ensures.{skipped}
use Rattle.case_definitions.proofs.WalkLaws.{numbers-there, numbers-short, counted_none, counted-over, counted-within, ListCase, missing, there, list-case, no_record, step-unknown, skipped-more, skipped-short}
use Rattle.case_definitions.proofs.RecordLaws.{definition-read, steps-wrong}
use Rattle.case_records.specs.Ensures.{checked}
use Rattle.std.specs.Prelude.{Ok, Err}
use Rattle.refusal.specs.declared.Refusal.{Refusal}
use Rattle.refusal.specs.declared.Refusal.TheVariants.{WrongDefinitions}

-- ---- what gives an answer

short-of : {A : Type 0} (ws : List ℕ) (t : Refusable (Taken A)) (r : Refusal) → t ≡ Err r → Err r ≡ skipped ws t
unfolding skipped
short-of ws t r e = rw e

-- what was read ends at q
pub record Reaches {A : Type 0} (ws : List ℕ) (t : Refusable (Taken A)) (q : ℕ) : Type 0 where
  pub value : A
  pub read : t ≡ Ok (record { read = value; left = drop q ws })
  pub within : q ≤ length ws

to-of : {A : Type 0} (ws : List ℕ) (t : Refusable (Taken A)) (q : ℕ) → Reaches ws t q → Ok q ≡ skipped ws t
unfolding skipped
to-of ws t q r = let e : length ws - length (drop q ws) ≡ q = omega (arith, length-drop q ws, r.within) in rw (r.read, e)

-- ---- numbers_end

module _ (ws : List ℕ) (p : ℕ) where
  pub numbers-over : (n : ℕ) → length ws - p < n → Err WrongDefinitions ≡ skipped ws (numbers n (drop p ws))
  numbers-over n h = short-of ws _ WrongDefinitions (numbers-short ws p n h)

  pub numbers-to : (n : ℕ) → p ≤ length ws → n ≤ length ws - p → Ok (p + n) ≡ skipped ws (numbers n (drop p ws))
  numbers-to n b h =
      let room : p + n ≤ length ws = omega arith in
      to-of ws _ (p + n) (record { value = take n (drop p ws); read = numbers-there ws p n room; within = room })

  -- ---- list_end and faces_end: a count, and what it counts

  module _ {A : Type 0} (limit : ℕ) (rest : ℕ → List ℕ → Refusable (Taken A)) where
    pub count_none : length ws ≤ p → Err WrongDefinitions ≡ skipped ws (counted limit rest (drop p ws))
    count_none h = short-of ws _ WrongDefinitions (counted_none ws p limit rest h)

    module _ (n : ℕ) (more : p < length ws) (e : n ≡ get_or ws p 0) where
      pub count-over : limit < n → Err WrongDefinitions ≡ skipped ws (counted limit rest (drop p ws))
      count-over h = short-of ws _ WrongDefinitions (counted-over ws p limit rest more (omega arith))

      pub count-within : (s : Refusable ℕ) → n ≤ limit → s ≡ skipped ws (rest n (drop (p + 1) ws)) → s ≡ skipped ws (counted limit rest (drop p ws))
      count-within s h g = rw (counted-within ws p limit rest more (omega arith), ← e) g

-- ---- skip_faces

-- what the answer of `list_end` tells
list-told : (ws : List ℕ) (p limit q : ℕ) → Ok q ≡ skipped ws (counted limit numbers (drop p ws)) → Reaches ws (counted limit numbers (drop p ws)) q
list-told ws p limit q e = by (list-case ws p limit)
  where
    by : ListCase ws p limit → Reaches ws (counted limit numbers (drop p ws)) q
    by (missing m) = absurd (let s = short-of ws _ WrongDefinitions m in let z : ◌≡◌ {A = ℕ} 0 1 = cc in omega arith)
    by (there n l) =
        let r : Reaches ws (counted limit numbers (drop p ws)) (p + 1 + n) = record { value = take n (drop (p + 1) ws); read = l.read; within = l.room } in
        let s = to-of ws _ (p + 1 + n) r in
        let z : q ≡ p + 1 + n = cc in
        rw z r

module _ (ws : List ℕ) (n i at : ℕ) (s whole : Refusable ℕ) (more : i < n) (e : s ≡ skipped ws (counted 8 numbers (drop at ws)))
    (rest : skipped ws (face_lists (n - i) (drop at ws)) ≡ whole) where
  pub skip-short : (r : Refusal) → s ≡ Err r → Err r ≡ whole
  unfolding face_lists ◌>>=◌ skipped
  skip-short r h = rw (left-suc n i more, skipped-short ws (counted 8 numbers (drop at ws)) r (cc)) at rest

  module _ (q : ℕ) (h : s ≡ Ok q) where
    pub skip-within : q ≤ length ws
    skip-within = (list-told ws at 8 q (cc)).within

    pub skip-next : skipped ws (face_lists (n - (i + 1)) (drop q ws)) ≡ whole
    unfolding face_lists
    skip-next =
        let r = list-told ws at 8 q (cc) in
        sym (rw (left-suc n i more, r.read) (unfold ◌>>=◌ in skipped-more ws r.value (face_lists (n - (i + 1)) (drop q ws)))) ∙ rest

-- ---- record_end

-- a record ends where its numbers or its faces do
pub record-made : {A : Type 0} (ws : List ℕ) (f : A → Definition) (t : Refusable (Taken A)) (d : Refusable (Taken Definition)) (s : Refusable ℕ) →
    d ≡ made f t → s ≡ skipped ws t → s ≡ skipped ws d
unfolding made ◌>>=◌ skipped
record-made ws f (Err n) d s e h = rw e h
record-made ws f (Ok w) d s e h = rw e h

module _ (ws : List ℕ) (at : ℕ) where
  pub record-none : length ws ≤ at → Err WrongDefinitions ≡ skipped ws (definition (drop at ws))
  record-none h = short-of ws _ WrongDefinitions (no_record ws at h)

  pub record-unknown : at < length ws → 6 ≤ get_or ws at 0 → Err WrongDefinitions ≡ skipped ws (definition (drop at ws))
  record-unknown more h = short-of ws _ WrongDefinitions (steps-wrong ws at WrongDefinitions (step-unknown ws at more h))

  -- what the answer of `record_end` tells
  pub record-told : (q : ℕ) → Ok q ≡ skipped ws (definition (drop at ws)) → Reaches ws (definition (drop at ws)) q
  unfolding skipped
  record-told q e = by (definition (drop at ws)) refl
    where
      by : (t : Refusable (Taken Definition)) → definition (drop at ws) ≡ t → Reaches ws (definition (drop at ws)) q
      by (Err r) g = absurd (let z : ◌≡◌ {A = ℕ} 0 1 = cc in omega arith)
      by (Ok w) g =
          let r = definition-read ws at w g in
          let b = r.within in
          let z : q ≡ length ws - length w.left = cc in
          let m : length w.left ≡ length (drop r.end ws) = ap length r.left in
          let v : r.end ≡ q = omega (arith, length-drop r.end ws) in
          let u : w.left ≡ drop q ws = r.left ∙ ap (λ x. drop x ws) v in
          record { value = w.read; read = g ∙ ap {B = Refusable (Taken Definition)} (λ l. Ok (record { read = w.read; left = l })) u; within = omega arith }

-- ---- walk

checked-more : (d : Definition) (t : Refusable (List Definition)) → checked (t >>= λ ds. Ok (d ∷ ds)) ≡ checked t
unfolding ◌>>=◌ checked
checked-more d (Err n) = refl
checked-more d (Ok ds) = refl

module _ (ws : List ℕ) (cells i at : ℕ) (whole : Refusable (Unit {0})) (rest : checked (definitions (cells - i) (drop at ws)) ≡ whole) where
  module _ (s : Refusable ℕ) (more : i < cells) (e : s ≡ skipped ws (definition (drop at ws))) where
    pub walk-wrong : (r : Refusal) → s ≡ Err r → Err r ≡ whole
    unfolding definitions ◌>>=◌ checked
    walk-wrong r h = rw (left-suc cells i more, skipped-short ws (definition (drop at ws)) r (cc)) at rest

    module _ (q : ℕ) (h : s ≡ Ok q) where
      pub walk-within : q ≤ length ws
      walk-within = (record-told ws at q (cc)).within

      pub walk-next : checked (definitions (cells - (i + 1)) (drop q ws)) ≡ whole
      unfolding definitions ◌>>=◌
      walk-next =
          let r = record-told ws at q (cc) in
          sym (rw (left-suc cells i more, r.read) (checked-more r.value (definitions (cells - (i + 1)) (drop q ws)))) ∙ rest

  module _ (done : cells ≤ i) where
    pub walk-left : at < length ws → Err WrongDefinitions ≡ whole
    unfolding definitions checked
    walk-left h = let z : cells - i ≡ 0 = omega arith in rw (z, left_at ws at 0 h) at rest

    pub walk_end : length ws ≤ at → (Ok tt) ≡ whole
    unfolding definitions checked
    walk_end h = let z : cells - i ≡ 0 = omega arith in rw (z, drop_of_length-le ws h) at rest
