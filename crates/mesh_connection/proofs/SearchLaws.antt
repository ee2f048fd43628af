-- The search for connection. Assumes nothing.
use mathlib.Core.Path.{◌≡◌, refl, sym, ap, ◌∙◌}
use mathlib.Core.Bool.{Bool, true, false}
use mathlib.Core.List.{List, []}
use mathlib.Core.Logic.{◌⊎◌, inl, inr}
use Prim.Native.Nat.{ℕ, suc, ◌+◌, ◌*◌, ◌<◌, ◌≤◌}
use native.Mathlib.Nat.{not-suc-le-zero}
use native.Mathlib.Decide.{ℕ_discrete}
use native.Mathlib.Numerals.{add-one}
use native.Mathlib.Omega.{arith}
use borrow.Author.Tests.{eq-eqb, eqb-true}
use lib.Dec.{eqb, lit≤}
use lib.Ieee.{Float}
use lib.ListN.{length, get_or, set, take, length-set}
use lib.Seq.{get_or-set_same, get_or-set_other, take-set-le}
use Rattle.arith.specs.Lists.{any_of}
use Rattle.mesh_area.specs.declared.Sizes.{Sizes}
use Rattle.mesh_area.specs.Tables.{Cell, cell_at}
use Rattle.mesh_area.specs.Layout.{cell_in, cells_in, mesh_words, words_end, LentWords}
use Rattle.mesh_area.proofs.LayoutLaws.{cell-in, cell-out, length-cells_in}
use Rattle.arith.proofs.RecordLaws.{lt-or-ge}
use Rattle.mesh_connection.specs.Connection.{connected_by, are_neighbours, connected_cells}
use Rattle.mesh_connection.specs.Ensures.{visited_in, queue_in, count_below, ClearExit, MarkExit, MeetExit, out, was, new, QueuePlace, ReachedPlace, SearchState, EnsureConnectedExit}
use Rattle.mesh_connection.proofs.Counting.{count_none, count_less, count-more, every-count, clash, below_suc}
use Rattle.mesh_connection.proofs.Rounds.{reached, reached-start, reached-step, reached-le, all-reached, connected-same, connected-few, any_at, any_some}

-- the neighbours of cell i, which stand in the words alone
abbrev pub neighbours_at : Sizes → List ℕ → ℕ → List ℕ
neighbours_at s w i = (cell_at (cells_in s w []) i).neighbours

-- ---- stores of flags and of places in the queue

elsewhere : (w : List ℕ) (at v j : ℕ) → (j ≡ at → ⊥) → get_or (set w at v) j 0 ≡ get_or w j 0
elsewhere w at v j ne = get_or-set_other w at j v 0 ne

pub marked : (w : List ℕ) (base d tail x : ℕ) → base + 2 * d + 2 ≤ length w → base + 2 * tail + 2 ≤ length w → x ≡ d
    → MarkExit w (set (set w (base + 2 * d) 1) (base + 2 * tail + 1) x) base d tail
marked w base d tail x hd ht ex =
    let w₁ = set w (base + 2 * d) 1 in
    record {
      seen = eq-eqb _ _ (elsewhere w₁ _ x _ (omega arith) ∙ get_or-set_same w _ 1 0 (omega arith));
      others = λ j ne. ap (λ (m : ℕ). eqb m 1) (elsewhere w₁ _ x _ (omega arith) ∙ elsewhere w _ 1 _ (λ e. ne (omega arith)));
      last = get_or-set_same w₁ _ x 0 (simp length-set (omega arith)) ∙ ex;
      queue = λ k ne. elsewhere w₁ _ x _ (λ e. ne (omega arith)) ∙ elsewhere w _ 1 _ (omega arith);
      kept = take-set-le base w₁ _ x (omega arith) ∙ take-set-le base w _ 1 (omega arith);
    }

pub clear-start : (w : List ℕ) (base : ℕ) → ClearExit w w base 0
clear-start w base = record { none = λ j h. absurd (not-suc-le-zero h); kept = refl }

pub clear-turn : (w₀ w : List ℕ) (base n i : ℕ) → ClearExit w₀ w base i → i < n → base + 2 * n ≤ length w₀ → length w ≡ length w₀
    → ClearExit w₀ (set w (base + 2 * i) 0) base (i + 1)
clear-turn w₀ w base n i cl more room long =
    record { none = λ j h. by j h (ℕ_discrete j i); kept = take-set-le base w _ 0 (omega arith) ∙ cl.kept }
  where
    by : (j : ℕ) → j < i + 1 → Dec (j ≡ i) → visited_in (set w (base + 2 * i) 0) base j ≡ false
    by j h (yes e) = rw (e, get_or-set_same w (base + 2 * i) 0 0 (omega arith))
    by j h (no ne) = ap (λ (m : ℕ). eqb m 1) (elsewhere w _ 0 _ (λ e. ne (omega arith))) ∙ cl.none j (omega arith)

pub clear-done : (w₀ w : List ℕ) (base n i : ℕ) → ClearExit w₀ w base i → i ≤ n → n ≤ i → ClearExit w₀ w base n
clear-done w₀ w base n i cl le ge = record { none = λ j h. cl.none j (omega arith); kept = cl.kept }

pub met-out : (w : List ℕ) (base n d tail : ℕ) → n ≤ d → MeetExit w w base n d tail tail
met-out w base n d tail h = out h refl refl

pub met-was : (w : List ℕ) (base n d tail : ℕ) (t : Bool) → t ≡ visited_in w base d → t ≡ true → MeetExit w w base n d tail tail
met-was w base n d tail t et v = was (sym et ∙ v) refl refl

pub met-new : (w w' : List ℕ) (base n d tail : ℕ) (t : Bool) → d < n → t ≡ visited_in w base d → t ≡ false → MarkExit w w' base d tail → MeetExit w w' base n d tail (tail + 1)
met-new w w' base n d tail t l et v mk = new l (sym et ∙ v) mk refl

pub new-room : (w : List ℕ) (base n d tail : ℕ) (t : Bool) → (d < n → visited_in w base d ≡ false → tail < n) → base + 2 * n ≤ length w → d < n → t ≡ visited_in w base d → t ≡ false
    → base + 2 * tail + 2 ≤ length w
new-room w base n d tail t h r l et v = let q = h l (sym et ∙ v) in omega arith

pub ruleset stores = (marked, clear-start, clear-turn, clear-done, met-out, met-was, met-new, new-room)

-- ---- the mesh's part stays

pub same-cells : (s : Sizes) (w w₀ : List ℕ) (floats : List Float) → take (words_end s) w ≡ take (words_end s) w₀ → cells_in s w floats ≡ cells_in s w₀ floats
unfolding cells_in mesh_words
same-cells s w w₀ floats e = rw e

-- ---- the start

pub search-start : (s : Sizes) (w w₁ w₂ : List ℕ) (base : ℕ) → base ≡ words_end s → 0 < s.cells → ClearExit w w₁ base s.cells → MarkExit w₁ w₂ base 0 0
    → SearchState s w w₂ base 0 1
search-start s w w₁ w₂ base eb some cl mk =
    let none : count_below (visited_in w₁ base) s.cells ≡ 0 = count_none _ s.cells cl.none in
    let one = count-more (visited_in w₁ base) (visited_in w₂ base) s.cells 0 some (cl.none 0 some) mk.seen mk.others in
    record {
      at-end = eb;
      some = some;
      kept = rw eb at (mk.kept ∙ cl.kept);
      order = omega arith;
      fits = omega arith;
      counted = omega arith;
      begun = mk.seen;
      queued = λ k h. first k (omega arith);
      placed = λ j h v. record { at = 0; low = lit≤ tt; here = mk.last ∙ sym (zero-only j h v (ℕ_discrete j 0)) };
      closed = λ k j h l e. absurd (not-suc-le-zero h);
    }
  where
    first : (k : ℕ) → k ≡ 0 → ReachedPlace w₂ base s.cells (are_neighbours (cells_in s w [])) k
    first k e =
        rw e
        (record {
          inside = rw mk.last some;
          seen = rw mk.last mk.seen;
          near = rw mk.last (reached-start (are_neighbours (cells_in s w [])) s.cells some);
        })

    zero-only : (j : ℕ) → j < s.cells → visited_in w₂ base j ≡ true → Dec (j ≡ 0) → j ≡ 0
    zero-only j h v (yes e) = e
    zero-only j h v (no ne) = absurd (clash (sym (cl.none j h) ∙ sym (mk.others j ne) ∙ v))

-- ---- the neighbours of the cell at head

-- neighbour m is one that the cell meets, and there is no other
pub meets-in : (cs : List Cell) (i m : ℕ) → m < length (cell_at cs i).neighbours → are_neighbours cs i (get_or (cell_at cs i).neighbours m 0) ≡ true
unfolding are_neighbours
meets-in cs i m h = any_at (eqb (get_or (cell_at cs i).neighbours m 0)) 0 (cell_at cs i).neighbours m h (eq-eqb (get_or (cell_at cs i).neighbours m 0) _ refl)

pub record Turning (s : Sizes) (w₀ w : List ℕ) (base head c end tail m : ℕ) : Type 0 where
  pub search : SearchState s w₀ w base head tail
  pub more : head < tail
  pub cell : c ≡ queue_in w base head
  pub at-end : end ≡ length (neighbours_at s w₀ c)
  pub passed : (k : ℕ) → k < m → get_or (neighbours_at s w₀ c) k 0 < s.cells → visited_in w base (get_or (neighbours_at s w₀ c) k 0) ≡ true
  pub fits : tail ≤ s.cells

pub queue-room : (s : Sizes) (w₀ w : List ℕ) (base head tail : ℕ) → SearchState s w₀ w base head tail → head < tail → LentWords s w → base + 2 * head + 1 < length w
queue-room s w₀ w base head tail t more lent = let e = t.at-end in let f = t.fits in let l = lent.long in omega arith

pub turn-start : (s : Sizes) (w : List ℕ) (base head tail c end : ℕ) → SearchState s w w base head tail → head < tail → c ≡ queue_in w base head
    → ((floats : List Float) → end ≡ length (cell_at (cells_in s w floats) c).neighbours) → Turning s w w base head c end tail 0
turn-start s w base head tail c end t more ec ee =
    record { search = t; more = more; cell = ec; at-end = ee []; passed = λ k h. absurd (not-suc-le-zero h); fits = t.fits }

module _ (s : Sizes) (w₀ w : List ℕ) (base head c end tail m : ℕ) (t : Turning s w₀ w base head c end tail m) where
  sr : SearchState s w₀ w base head tail
  sr = t.search

  pub turn-done : end ≤ m → SearchState s w₀ w base (head + 1) tail
  unfolding are_neighbours
  turn-done ge =
      record {
        at-end = sr.at-end;
        some = sr.some;
        kept = sr.kept;
        order = let a = t.more in omega arith;
        fits = sr.fits;
        counted = sr.counted;
        begun = sr.begun;
        queued = sr.queued;
        placed = sr.placed;
        closed = λ k j h l e. by k j (below_suc (rw (add-one head) at h)) l e;
      }
    where
      by : (k j : ℕ) → (k ≡ head) ⊎ (k < head) → j < s.cells → are_neighbours (cells_in s w₀ []) (queue_in w base k) j ≡ true → visited_in w base j ≡ true
      by k j (inl e) l q =
          let z : any_of (eqb j) (neighbours_at s w₀ c) ≡ true = rw (e, ← t.cell) at q in
          let p = any_some (eqb j) 0 (neighbours_at s w₀ c) z in
          let i : j ≡ get_or (neighbours_at s w₀ c) p.at 0 = eqb-true _ _ p.here in
          rw i (t.passed p.at (let o = p.low in let g = t.at-end in omega arith) (rw (← i) l))
      by k j (inr h) l q = sr.closed k j h l q

  module _ (l : m < end) (d : ℕ) (ed : (floats : List Float) → d ≡ get_or (cell_at (cells_in s w floats) c).neighbours m 0) where
    is-neighbour : d ≡ get_or (neighbours_at s w₀ c) m 0
    is-neighbour = rw (same-cells s w w₀ [] sr.kept) at (ed [])

    pub room-left : d < s.cells → visited_in w base d ≡ false → tail < s.cells
    room-left low v = let h = count_less (visited_in w base) s.cells d low v in let e = sr.counted in omega arith

    -- nothing changed
    turn-same : (d < s.cells → visited_in w base d ≡ true) → Turning s w₀ w base head c end tail (m + 1)
    turn-same v =
        record { search = sr; more = t.more; cell = t.cell; at-end = t.at-end; passed = λ k h. by k (below_suc (rw (add-one m) at h)); fits = t.fits }
      where
        by : (k : ℕ) → (k ≡ m) ⊎ (k < m) → get_or (neighbours_at s w₀ c) k 0 < s.cells → visited_in w base (get_or (neighbours_at s w₀ c) k 0) ≡ true
        by k (inl e) = rw (e, ← is-neighbour) v
        by k (inr h) = t.passed k h

    -- cell d is new
    module _ (w' : List ℕ) (low : d < s.cells) (v : visited_in w base d ≡ false) (mk : MarkExit w w' base d tail) where
      stays : (j : ℕ) → visited_in w base j ≡ true → visited_in w' base j ≡ true
      stays j q = by (ℕ_discrete j d)
        where
          by : Dec (j ≡ d) → visited_in w' base j ≡ true
          by (yes e) = rw e mk.seen
          by (no ne) = mk.others j ne ∙ q

      same_queue : (k : ℕ) → k < tail → queue_in w' base k ≡ queue_in w base k
      same_queue k h = mk.queue k (omega arith)

      -- it is one round further than the cell at head
      near : reached (are_neighbours (cells_in s w₀ [])) s.cells tail d ≡ true
      near =
          let hm : m < length (neighbours_at s w₀ (queue_in w base head)) = rw (← t.cell, ← t.at-end) l in
          let e : are_neighbours (cells_in s w₀ []) (queue_in w base head) d ≡ true = rw (is-neighbour, t.cell) (meets-in (cells_in s w₀ []) (queue_in w base head) m hm) in
          let q = sr.queued head t.more in
          reached-le (are_neighbours (cells_in s w₀ [])) s.cells (suc head) tail d t.more low
          (reached-step (are_neighbours (cells_in s w₀ [])) s.cells head (queue_in w base head) d q.inside low q.near e)

      queue-old : (k : ℕ) → k < tail → ReachedPlace w' base s.cells (are_neighbours (cells_in s w₀ [])) k
      queue-old k h =
          let q = sr.queued k h in
          record {
            inside = rw (same_queue k h) q.inside;
            seen = rw (same_queue k h) (stays _ q.seen);
            near = rw (same_queue k h) q.near;
          }

      queue-new : ReachedPlace w' base s.cells (are_neighbours (cells_in s w₀ [])) tail
      queue-new = record { inside = rw mk.last low; seen = rw mk.last mk.seen; near = rw mk.last near }

      turn-new : Turning s w₀ w' base head c end (tail + 1) (m + 1)
      turn-new =
          record {
            search =
                record {
                  at-end = sr.at-end;
                  some = sr.some;
                  kept = rw sr.at-end at mk.kept ∙ sr.kept;
                  order = let a = t.more in omega arith;
                  fits = let r = room-left low v in omega arith;
                  counted = let e = count-more (visited_in w base) (visited_in w' base) s.cells d low v mk.seen mk.others in let q = sr.counted in omega arith;
                  begun = stays 0 sr.begun;
                  queued = λ k h. queued k (below_suc (rw (add-one tail) at h));
                  placed = λ j h q. placed j h q (ℕ_discrete j d);
                  closed = λ k j h b q. stays j (sr.closed k j h b (rw (same_queue k (let o = sr.order in omega arith)) at q));
                };
            more = let a = t.more in omega arith;
            cell = t.cell ∙ sym (same_queue head t.more);
            at-end = t.at-end;
            passed = λ k h. passed k (below_suc (rw (add-one m) at h));
            fits = let r = room-left low v in omega arith;
          }
        where
          queued : (k : ℕ) → (k ≡ tail) ⊎ (k < tail) → ReachedPlace w' base s.cells (are_neighbours (cells_in s w₀ [])) k
          queued k (inl e) = rw e queue-new
          queued k (inr h) = queue-old k h

          placed : (j : ℕ) → j < s.cells → visited_in w' base j ≡ true → Dec (j ≡ d) → QueuePlace w' base (tail + 1) j
          placed j h q (yes e) = record { at = tail; low = omega arith; here = mk.last ∙ sym e }
          placed j h q (no ne) =
              let p = sr.placed j h (sym (mk.others j ne) ∙ q) in
              record { at = p.at; low = (let o = p.low in omega arith); here = same_queue p.at p.low ∙ p.here }

          passed : (k : ℕ) → (k ≡ m) ⊎ (k < m) → get_or (neighbours_at s w₀ c) k 0 < s.cells → visited_in w' base (get_or (neighbours_at s w₀ c) k 0) ≡ true
          passed k (inl e) b = rw (e, ← is-neighbour) mk.seen
          passed k (inr h) b = stays _ (t.passed k h b)

    pub turn_on : (w' : List ℕ) (r : ℕ) → MeetExit w w' base s.cells d tail r → Turning s w₀ w' base head c end r (m + 1)
    turn_on w' r (out h ew er) = rw (ew, er) (turn-same (λ g. absurd (omega arith)))
    turn_on w' r (was v ew er) = rw (ew, er) (turn-same (λ g. v))
    turn_on w' r (new low v mk er) = rw er (turn-new w' low v mk)

pub ruleset turns = (queue-room, turn-start, turn-done, room-left, turn_on)

-- ---- the whole

-- the cells are those of any state of the search
pub own-cells : (s : Sizes) (w w₀ : List ℕ) (base head tail : ℕ) → SearchState s w₀ w base head tail → SearchState s w w base head tail
own-cells s w w₀ base head tail t =
    let e = same-cells s w w₀ [] t.kept in
    record {
      at-end = t.at-end;
      some = t.some;
      kept = refl;
      order = t.order;
      fits = t.fits;
      counted = t.counted;
      begun = t.begun;
      queued = rw e t.queued;
      placed = t.placed;
      closed = rw e t.closed;
    }

pub first-cells : (s : Sizes) (w w₀ w' : List ℕ) (base head tail head' tail' : ℕ) → SearchState s w₀ w base head tail → SearchState s w w' base head' tail'
    → SearchState s w₀ w' base head' tail'
first-cells s w w₀ w' base head tail head' tail' t u =
    let e = same-cells s w w₀ [] t.kept in
    record {
      at-end = u.at-end;
      some = u.some;
      kept = u.kept ∙ t.kept;
      order = u.order;
      fits = u.fits;
      counted = u.counted;
      begun = u.begun;
      queued = rw e at u.queued;
      placed = u.placed;
      closed = rw e at u.closed;
    }

pub reach-done : (s : Sizes) (w₀ w : List ℕ) (base head tail : ℕ) → SearchState s w₀ w base head tail → tail ≤ head → SearchState s w₀ w base tail tail
reach-done s w₀ w base head tail t h = let e : head ≡ tail = (let o = t.order in omega arith) in rw e at t

-- all that is visited is reached, and all that is reached is visited
search-closed : (s : Sizes) (w₀ w : List ℕ) (base r : ℕ) → SearchState s w₀ w base r r → eqb r s.cells ≡ connected_by (are_neighbours (cells_in s w₀ [])) s.cells
search-closed s w₀ w base r t =
    rw t.counted (every-count (visited_in w base) s.cells ∙ all-reached (are_neighbours (cells_in s w₀ [])) s.cells (visited_in w base) t.begun closed near)
  where
    closed : (i j : ℕ) → i < s.cells → j < s.cells → visited_in w base i ≡ true → are_neighbours (cells_in s w₀ []) i j ≡ true → visited_in w base j ≡ true
    closed i j hi hj v e = let p = t.placed i hi v in t.closed p.at j p.low hj (rw p.here e)

    near : (j : ℕ) → j < s.cells → visited_in w base j ≡ true → reached (are_neighbours (cells_in s w₀ [])) s.cells s.cells j ≡ true
    near j h v =
        let p = t.placed j h v in
        let q = (t.queued p.at p.low).near in
        reached-le (are_neighbours (cells_in s w₀ [])) s.cells p.at s.cells j (let o = p.low in let f = t.fits in omega arith) h (rw p.here at q)

-- the neighbours stand in the words alone
pub same-neighbours : (s : Sizes) (w : List ℕ) (floats : List Float) (i : ℕ) → (cell_at (cells_in s w floats) i).neighbours ≡ (cell_at (cells_in s w []) i).neighbours
unfolding cell_in
same-neighbours s w floats i = by (lt-or-ge i s.cells)
  where
    by : (i < s.cells) ⊎ (s.cells ≤ i) → (cell_at (cells_in s w floats) i).neighbours ≡ (cell_at (cells_in s w []) i).neighbours
    by (inl h) = ap (λ (c : Cell). c.neighbours) (cell-in s w floats i h) ∙ sym (ap (λ (c : Cell). c.neighbours) (cell-in s w [] i h))
    by (inr h) = ap (λ (c : Cell). c.neighbours) (cell-out s w floats i h) ∙ sym (ap (λ (c : Cell). c.neighbours) (cell-out s w [] i h))

pub cells-connected : (s : Sizes) (w : List ℕ) (floats : List Float) → connected_cells (cells_in s w floats) ≡ connected_by (are_neighbours (cells_in s w [])) s.cells
unfolding connected_cells are_neighbours
cells-connected s w floats =
    rw (length-cells_in s w floats)
    (connected-same (are_neighbours (cells_in s w floats)) (are_neighbours (cells_in s w [])) s.cells (λ i j hi hj. ap (any_of (eqb j)) (same-neighbours s w floats i)))

pub search-done : (s : Sizes) (w w₁ w₂ : List ℕ) (base r : ℕ) → SearchState s w w₁ base 0 1 → SearchState s w₁ w₂ base r r → EnsureConnectedExit s w w₂ (eqb r s.cells)
search-done s w w₁ w₂ base r t u =
    let v = first-cells s w₁ w w₂ base 0 1 r r t u in
    record { result = λ floats. search-closed s w w₂ base r v ∙ sym (cells-connected s w floats); kept = v.kept }

pub search-few : (s : Sizes) (w : List ℕ) → s.cells ≤ 1 → EnsureConnectedExit s w w true
search-few s w h =
    record { result = λ floats. sym (cells-connected s w floats ∙ connected-few (are_neighbours (cells_in s w [])) s.cells h); kept = refl }

pub ruleset searches = (search-start, own-cells, first-cells, reach-done, search-done, search-few)
