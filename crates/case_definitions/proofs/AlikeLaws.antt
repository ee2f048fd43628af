-- A record that looks like a right one is right, as long, and has as many faces; so is a run of them. Assumes nothing.
use Prim.Native.Nat.{ℕ, suc, ◌+◌, ◌-◌, ◌*◌, ◌≤◌, ◌<◌}
use native.Mathlib.Nat.{suc-mul, mul-suc, zero-mul, mul_comm, mul-le-mul_right}
use native.Mathlib.Omega.{arith}
use mathlib.Core.Path.{◌≡◌, refl, ap, sym, ◌∙◌}
use mathlib.Core.List.{List, [], ◌∷◌, ◌++◌, append_assoc}
use lib.ListN.{length, get_or, take, drop, length-drop, length-append}
use lib.Seq.{length-take-le}
use Rattle.arith.specs.All.{All}
use Rattle.arith.specs.Lists.{fold}
use Rattle.arith.proofs.All.{all_append}
use Rattle.reading.specs.Result.{Refusable, ◌>>=◌}
use Rattle.case_definitions.specs.Faces.{Definition, polygon, solid, face_count, add_face_count}
use Rattle.case_definitions.specs.Definitions.{numbers, counted, made, kinds, definition, definitions}
use Rattle.case_definitions.specs.Ensures.{head_of, step_at, HeadTo}
pub use Rattle.case_definitions.specs.Ensures.{Looks, RunExit}
use Rattle.case_definitions.specs.declared.Cursor.{Cursor}
use Rattle.case_definitions.specs.declared.Head.{Head}
use Rattle.case_definitions.proofs.WalkLaws.{numbers-there, counted-within, kind_at}
use Rattle.case_definitions.proofs.RecordLaws.{IsSolid, is-tetrahedron, is-hexahedron, is-prism, is-pyramid, RecordCase, a-polygon, a-solid, a-polyhedron, record-case, steps-to, walked_from, walk-next}
use Rattle.std.specs.Prelude.{Ok, Err}

-- d is the record from `at` to `next`
pub record Ends (ws : List ℕ) (at next : ℕ) (d : Definition) : Type 0 where
  pub read : definition (drop at ws) ≡ Ok (record { read = d; left = drop next ws })
  pub within : next ≤ length ws

-- a right record stands from p to `next`, with so many faces
pub record Alike (ws : List ℕ) (p next faces : ℕ) : Type 0 where
  pub d : Definition
  pub ends : Ends ws p next d
  pub same : face_count d ≡ faces

-- ---- one record

module _ (ws : List ℕ) (p : ℕ) where
  -- a polygon of n points
  pub polygon-at : (n : ℕ) → get_or ws p 0 ≡ 0 → n ≡ get_or ws (p + 1) 0 → n ≤ 24 → p + 2 + n ≤ length ws →
      definition (drop p ws) ≡ Ok (record { read = polygon (take n (drop (p + 2) ws)); left = drop (p + 2 + n) ws })
  unfolding kinds made ◌>>=◌
  polygon-at n k e few room =
      let q : p + 1 + 1 ≡ p + 2 = omega arith in
      let more : p + 1 < length ws = omega arith in
      let c : counted 24 numbers (drop (p + 1) ws) ≡ numbers n (drop (p + 2) ws) =
      counted-within ws (p + 1) 24 numbers more (omega arith) ∙ rw (← e, q) in
      kind_at ws p 0 (omega arith) k ∙ rw (c, numbers-there ws (p + 2) n room)

  -- a solid
  pub solid-at : (kind : ℕ) (places : List (List ℕ)) (n : ℕ) → IsSolid kind places n → get_or ws p 0 ≡ kind → p + 1 + n ≤ length ws →
      definition (drop p ws) ≡ Ok (record { read = solid places (take n (drop (p + 1) ws)); left = drop (p + 1 + n) ws })
  unfolding kinds made ◌>>=◌
  solid-at kind places n is-tetrahedron k room = kind_at ws p 1 (omega arith) k ∙ rw (numbers-there ws (p + 1) 4 room)
  solid-at kind places n is-hexahedron k room = kind_at ws p 2 (omega arith) k ∙ rw (numbers-there ws (p + 1) 8 room)
  solid-at kind places n is-prism k room = kind_at ws p 3 (omega arith) k ∙ rw (numbers-there ws (p + 1) 6 room)
  solid-at kind places n is-pyramid k room = kind_at ws p 4 (omega arith) k ∙ rw (numbers-there ws (p + 1) 5 room)

  polygon-alike : (n size : ℕ) → get_or ws p 0 ≡ 0 → n ≡ get_or ws (p + 1) 0 → n ≤ 24 → p + 2 + n ≤ length ws → size ≡ 2 + n → Alike ws p (p + size) n
  unfolding face_count
  polygon-alike n size k e few room z =
      let q : p + size ≡ p + 2 + n = omega arith in
      record {
        d = polygon (take n (drop (p + 2) ws));
        ends = record { read = rw q (polygon-at n k e few room); within = omega arith };
        same = length-take-le n (drop (p + 2) ws) (omega (arith, length-drop (p + 2) ws));
      }

  solid-alike : (kind : ℕ) (places : List (List ℕ)) (n size : ℕ) → IsSolid kind places n → get_or ws p 0 ≡ kind → p + 1 + n ≤ length ws → size ≡ 1 + n →
      Alike ws p (p + size) (length places)
  unfolding face_count
  solid-alike kind places n size s k room z =
      let q : p + size ≡ p + 1 + n = omega arith in
      record {
        d = solid places (take n (drop (p + 1) ws));
        ends = record { read = rw q (solid-at kind places n s k room); within = omega arith };
        same = refl;
      }

-- where the words that are left start
left-starts : (ws : List ℕ) (a b : ℕ) → a ≤ length ws → b ≤ length ws → drop a ws ≡ drop b ws → a ≡ b
left-starts ws a b h g e =
    let l : length (drop a ws) ≡ length (drop b ws) = ap length e in
    omega (arith, length-drop a ws, length-drop b ws)

pub alike : (ws : List ℕ) (from size p : ℕ) (d : Definition) → get_or ws from 0 ≤ 4 → Ends ws from (from + size) d → Looks ws from size p →
    Alike ws p (p + size) (face_count d)
unfolding face_count
alike ws from size p d few e l = by (record-case ws from (record { read = d; left = drop (from + size) ws }) e.read)
  where
    by : RecordCase ws from (record { read = d; left = drop (from + size) ws }) → Alike ws p (p + size) (face_count d)
    by (a-polygon n k g m) =
        let i = e.within in
        let r = g.room in
        let o = l.room in
        let z : from + size ≡ from + 2 + n = left-starts ws (from + size) (from + 2 + n) i (omega arith) (ap (λ t. t.left) m) in
        let f : d ≡ polygon (take n (drop (from + 2) ws)) = ap (λ t. t.read) m in
        let c : length (take n (drop (from + 2) ws)) ≡ n = length-take-le n (drop (from + 2) ws) (omega (arith, length-drop (from + 2) ws)) in
        let a = polygon-alike ws p n size (l.kind ∙ k) (g.count ∙ sym (l.count k)) g.few (omega arith) (omega arith) in
        rw (f, c) a
    by (a-solid kind places n k s room m) =
        let i = e.within in
        let o = l.room in
        let z : from + size ≡ from + 1 + n = left-starts ws (from + size) (from + 1 + n) i room (ap (λ t. t.left) m) in
        let f : d ≡ solid places (take n (drop (from + 1) ws)) = ap (λ t. t.read) m in
        rw f (solid-alike ws p kind places n size s (l.kind ∙ k) (omega arith) (omega arith))
    by (a-polyhedron n f k room c g h m) = absurd (omega arith)

-- ---- a run of records

-- k records were read from `at` on, each as long as the one from `from` to `at` and with as many faces; the next one is at p
pub record Running (ws : List ℕ) (from at left faces p k : ℕ) : Type 0 where
  pub few : k ≤ left
  pub place : p ≡ at + k * (at - from)
  pub within : p ≤ length ws
  pub read : List Definition
  pub long : length read ≡ k
  pub alike : All (λ d. face_count d ≡ faces) read
  pub rest : (m : ℕ) → definitions (k + m) (drop at ws) ≡ (definitions m (drop p ws) >>= λ ds. Ok (read ++ ds))

module _ (ws : List ℕ) (from at left faces : ℕ) where
  none_read : (r : Refusable (List Definition)) → r ≡ (r >>= λ ds. Ok ([] ++ ds))
  unfolding ◌>>=◌
  none_read (Err n) = refl
  none_read (Ok ds) = refl

  one_more : (l : List Definition) (d : Definition) (r : Refusable (List Definition)) →
      ((r >>= λ ds. Ok (d ∷ ds)) >>= λ ds. Ok (l ++ ds)) ≡ (r >>= λ ds. Ok ((l ++ d ∷ []) ++ ds))
  unfolding ◌>>=◌
  one_more l d (Err n) = refl
  one_more l d (Ok ds) = ap Ok (sym (append_assoc l (d ∷ []) ds))

  pub running-starts : at ≤ length ws → Running ws from at left faces at 0
  running-starts h =
      record {
        few = omega arith;
        place = let z : 0 * (at - from) ≡ 0 = zero-mul (at - from) in omega arith;
        within = h;
        read = [];
        long = refl;
        alike = tt;
        rest = λ m. let z : 0 + m ≡ m = omega arith in rw z (none_read (definitions m (drop at ws)));
      }

  module _ (p k : ℕ) (r : Running ws from at left faces p k) where
    more-rest : (d : Definition) (next : ℕ) → Ends ws p next d → (m : ℕ) →
        definitions (k + 1 + m) (drop at ws) ≡ (definitions m (drop next ws) >>= λ ds. Ok ((r.read ++ d ∷ []) ++ ds))
    unfolding definitions ◌>>=◌
    more-rest d next e m =
        let z : k + 1 + m ≡ k + suc m = omega arith in
        rw z (r.rest (suc m) ∙ rw e.read (one_more r.read d (definitions m (drop next ws))))

    pub running-next : k < left → Alike ws p (p + (at - from)) faces → Running ws from at left faces (p + (at - from)) (k + 1)
    running-next h a =
        let s : suc k * (at - from) ≡ k * (at - from) + (at - from) = suc-mul k (at - from) in
        let q : k + 1 ≡ suc k = omega arith in
        let e = r.place in
        let l = r.long in
        record {
          few = omega arith;
          place = rw (q, s) (omega arith);
          within = a.ends.within;
          read = r.read ++ a.d ∷ [];
          long = rw length-append (omega arith);
          alike = all_append (λ d. face_count d ≡ faces) r.read (a.d ∷ []) r.alike (a.same, tt);
          rest = more-rest a.d (p + (at - from)) a.ends;
        }

    pub running-ends : RunExit ws from at left faces k
    running-ends =
        let e = r.place in
        record {
          few = r.few;
          within = rw (← e) r.within;
          read = r.read;
          long = r.long;
          alike = r.alike;
          rest = λ m. rw (← e) (r.rest m);
        }

  pub run_none : at ≤ length ws → RunExit ws from at left faces 0
  run_none h = running-ends at 0 (running-starts h)

-- ---- what a head tells

solid-long : (kind : ℕ) (places : List (List ℕ)) (n : ℕ) → IsSolid kind places n → (1 ≤ kind) × (4 ≤ n)
solid-long kind places n is-tetrahedron = omega arith
solid-long kind places n is-hexahedron = omega arith
solid-long kind places n is-prism = omega arith
solid-long kind places n is-pyramid = omega arith

module _ (ws : List ℕ) (at next : ℕ) (d : Definition) (e : Ends ws at next d) where
  -- a record that is no polyhedron has at least two words
  two-words : get_or ws at 0 ≤ 4 → at + 2 ≤ next
  two-words few = by (record-case ws at (record { read = d; left = drop next ws }) e.read)
    where
      by : RecordCase ws at (record { read = d; left = drop next ws }) → at + 2 ≤ next
      by (a-polygon n k g m) =
          let r = g.room in
          let z : next ≡ at + 2 + n = left-starts ws next (at + 2 + n) e.within (omega arith) (ap (λ t. t.left) m) in
          omega arith
      by (a-solid kind places n k s room m) =
          let l = solid-long kind places n s in
          let z : next ≡ at + 1 + n = left-starts ws next (at + 1 + n) e.within room (ap (λ t. t.left) m) in
          omega arith
      by (a-polyhedron n f k room c g h m) = absurd (omega arith)

  -- a polygon has as many faces as its count says
  count-told : get_or ws at 0 ≡ 0 → face_count d ≡ get_or ws (at + 1) 0
  unfolding face_count
  count-told z = by (record-case ws at (record { read = d; left = drop next ws }) e.read)
    where
      by : RecordCase ws at (record { read = d; left = drop next ws }) → face_count d ≡ get_or ws (at + 1) 0
      by (a-polygon n k g m) =
          let r = g.room in
          let f : d ≡ polygon (take n (drop (at + 2) ws)) = ap (λ t. t.read) m in
          let c : length (take n (drop (at + 2) ws)) ≡ n = length-take-le n (drop (at + 2) ws) (omega (arith, length-drop (at + 2) ws)) in
          rw f (c ∙ g.count)
      by (a-solid kind places n k s room m) = let l = solid-long kind places n s in absurd (omega arith)
      by (a-polyhedron n f k room c g h m) = absurd (omega arith)

-- d is the record from h to `next`
pub record HeadEnds (ws : List ℕ) (h : Head) (next : ℕ) : Type 0 where
  pub d : Definition
  pub ends : Ends ws h.at next d
  pub kind : h.kind ≡ get_or ws h.at 0
  pub faces : h.faces ≡ face_count d
  pub past : h.at + h.faces < next
  pub within : next ≤ length ws
  pub count : h.kind ≡ 0 → h.faces ≡ get_or ws (h.at + 1) 0
  pub long : h.kind ≤ 4 → h.at + 2 ≤ next

pub head-ends : (ws : List ℕ) (h : Head) (next : ℕ) → HeadTo ws h next → HeadEnds ws h next
unfolding head_of
head-ends ws h next t =
    let s = steps-to ws h.at h (record { at = next }) (sym t.step) in
    let e : Ends ws h.at next s.d = record { read = s.read; within = s.within } in
    let k : h.kind ≡ get_or ws h.at 0 = ap (λ x. x.kind) s.head in
    let f : h.faces ≡ face_count s.d = ap (λ x. x.faces) s.head in
    record {
      d = s.d;
      ends = e;
      kind = k;
      faces = f;
      past = s.past;
      within = s.within;
      count = λ z. f ∙ count-told ws h.at next s.d e (sym k ∙ z);
      long = λ few. two-words ws h.at next s.d e (omega arith);
    }

pub head-to : (ws : List ℕ) (at : ℕ) (h : Head) (c : Cursor) → Ok (h, c) ≡ step_at ws at → HeadTo ws h c.at
unfolding head_of
head-to ws at h c e =
    let s = steps-to ws at h c e in
    let a : h.at ≡ at = ap (λ x. x.at) s.head in
    record { step = ap (step_at ws) a ∙ sym e }

-- ---- `looks_like` and the loop of `run`

module _ (ws : List ℕ) (h : Head) (at p : ℕ) (t : HeadTo ws h at) where
  pub looks-so : p + (at - h.at) ≤ length ws → get_or ws p 0 ≡ h.kind → (h.kind ≡ 0 → get_or ws (p + 1) 0 ≡ h.faces) → Looks ws h.at (at - h.at) p
  looks-so room k c =
      let e = head-ends ws h at t in
      let f = e.kind in
      record { room = room; kind = k ∙ f; count = λ z. c (f ∙ z) ∙ e.count (f ∙ z) }

  pub alike-head : h.kind ≤ 4 → Looks ws h.at (at - h.at) p → Alike ws p (p + (at - h.at)) h.faces
  alike-head few l =
      let e = head-ends ws h at t in
      let b = e.past in
      let f = e.faces in
      let k = e.kind in
      let q : h.at + (at - h.at) ≡ at = omega arith in
      rw f (alike ws h.at (at - h.at) p e.d (omega arith) (rw q e.ends) l)

-- ---- the turns of `walk`

-- records with f faces each
fold-alike : (f k : ℕ) (l ds : List Definition) → All (λ d. face_count d ≡ f) l → fold add_face_count k (l ++ ds) ≡ fold add_face_count (k + length l * f) ds
unfolding fold add_face_count
fold-alike f k [] ds a = let z : k + 0 * f ≡ k = omega (arith, zero-mul f) in rw z
fold-alike f k (d ∷ l) ds a =
    let e : face_count d ≡ f = a.0 in
    let z : k + face_count d + length l * f ≡ k + suc (length l) * f = omega (arith, suc-mul (length l) f) in
    fold-alike f (k + face_count d) l ds a.1 ∙ ap (λ x. fold add_face_count x ds) z

walked-alike : (f k : ℕ) (l : List Definition) (r : Refusable (List Definition)) → All (λ d. face_count d ≡ f) l →
    walked_from k (r >>= λ ds. Ok (l ++ ds)) ≡ walked_from (k + length l * f) r
unfolding ◌>>=◌ walked_from
walked-alike f k l (Err n) a = refl
walked-alike f k l (Ok ds) a = ap Ok (fold-alike f k l ds a)

pub run-walked : (ws : List ℕ) (from at left f r k m : ℕ) → RunExit ws from at left f r →
    walked_from k (definitions (r + m) (drop at ws)) ≡ walked_from (k + r * f) (definitions m (drop (at + r * (at - from)) ws))
run-walked ws from at left f r k m e =
    let l = e.long in
    ap (walked_from k) (e.rest m)
    ∙ walked-alike f k e.read (definitions m (drop (at + r * (at - from)) ws)) e.alike
    ∙ ap (λ x. walked_from (k + x * f) (definitions m (drop (at + r * (at - from)) ws))) l

-- past a record and k that look like it
pub record WalkOn (ws : List ℕ) (cells i at faces : ℕ) (h : Head) (next k : ℕ) : Type 0 where
  pub few : i + (k + 1) ≤ cells
  pub before : h.at ≤ next
  pub fit : at + h.faces * (k + 1) ≤ next + k * (next - h.at)
  pub within : next + k * (next - h.at) ≤ length ws
  pub goes : walked_from faces (definitions (cells - i) (drop at ws))
      ≡ walked_from (faces + h.faces * (k + 1)) (definitions (cells - (i + (k + 1))) (drop (next + k * (next - h.at)) ws))

pub walk-on : (ws : List ℕ) (cells i at faces : ℕ) (h : Head) (c : Cursor) (k : ℕ) → i < cells → Ok (h, c) ≡ step_at ws at →
    RunExit ws h.at c.at (cells - i - 1) h.faces k → WalkOn ws cells i at faces h c.at k
unfolding head_of
walk-on ws cells i at faces h c k more e r =
    let s = steps-to ws at h c e in
    let a : h.at ≡ at = ap (λ x. x.at) s.head in
    let b = s.past in
    let l = r.few in
    let g : h.faces * (k + 1) ≡ h.faces + k * h.faces = (let q : k + 1 ≡ suc k = omega arith in rw (q, mul-suc, mul_comm h.faces k) (omega arith)) in
    let u : h.faces * k ≤ (c.at - h.at) * k = mul-le-mul_right k (omega arith) in
    let v : h.faces * k ≡ k * h.faces = mul_comm h.faces k in
    let w : (c.at - h.at) * k ≡ k * (c.at - h.at) = mul_comm (c.at - h.at) k in
    let m : cells - (i + 1) ≡ k + (cells - (i + (k + 1))) = omega arith in
    let n : faces + h.faces + k * h.faces ≡ faces + h.faces * (k + 1) = omega arith in
    record {
      few = omega arith;
      before = omega arith;
      fit = omega arith;
      within = r.within;
      goes =
          walk-next ws cells i at faces h c more e
          ∙ rw m (run-walked ws h.at c.at (cells - i - 1) h.faces k (faces + h.faces) (cells - (i + (k + 1))) r)
          ∙ ap (λ x. walked_from x (definitions (cells - (i + (k + 1))) (drop (c.at + k * (c.at - h.at)) ws))) n;
    }
