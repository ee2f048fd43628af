-- Laws of the pool, of the chains and of the scan. Assumes nothing.
use mathlib.Core.Path.{◌≡◌, refl, sym, ap, ◌∙◌}
use mathlib.Core.Bool.{Bool, true, false, ◌&&◌}
use mathlib.Core.List.{List, ◌++◌}
use mathlib.Core.Logic.{◌≢◌, ◌⊎◌, inl, inr}
use Prim.Native.Nat.{ℕ, ◌+◌, ◌-◌, ◌*◌, ◌<◌, ◌≤◌}
use native.Mathlib.Nat.{lt_irrefl, le_refl}
use native.Mathlib.Decide.{ℕ_discrete}
use native.Mathlib.Omega.{arith}
use borrow.Author.Tests.{lt-ltb, le-ltb, le-leb, lt-leb, eq-eqb, ne_eqb}
use lib.Dec.{eqb, ltb, leb, lit≤}
use lib.ListN.{length, get_or, set, take, replicate, get_or-append}
use borrow.Rule.Slice.PartMut.{put_mid, post_of}
use Rattle.std.proofs.lemmas.List.{length-take-le, length-replicate, get_or-append_right, get_or-replicate}
use Rattle.std.proofs.lemmas.Slice.{take-put_mid_below}
use lib.Seq.{get_or-set_same, get_or-set_other, take-set-le}
use Rattle.arith.proofs.RecordLaws.{stride-le, lt-or-ge, same-below}
use Rattle.lines_bins.specs.Index.{range_word, reaches, in_bin, pool_place, pool_in, head_in, Same, Chain, none, node, passed, within}
use Rattle.lines_bins.specs.Ensures.{SetPoolExit, SetFlagExit, PushExit, Chains, BinRanges, BinIndex, ListCellExit, FillExit, BuildExit}

-- ---- the records

pub slots : (w w' : List ℕ) (base n : ℕ) → Same w w' base n → (i k : ℕ) → i < n → k < 8 → range_word w' base i k ≡ range_word w base i k
slots w w' base n s i k hi hk = same-below w w' (base + 8 * n) (base + 8 * i + k) 0 s (omega arith)

pub same-cells : (w w₁ w₂ : List ℕ) (base n : ℕ) → Same w w₁ base n → Same w₁ w₂ base n → Same w w₂ base n
same-cells w w₁ w₂ base n a b = b ∙ a

-- ---- the pool

pub pool-read : (w : List ℕ) (base n p r : ℕ) → r ≡ get_or w (base + 8 * n + 1 + p) 0 → r ≡ pool_in w base n p
unfolding pool_in
pool-read w base n p r e = e

apart : (base n p q : ℕ) → q ≢ p → pool_place base n q ≢ pool_place base n p
apart base n p q ne e = ne (omega arith)

pub pool-set : (w : List ℕ) (base n p v x : ℕ) → base + 88 * n ≤ length w → p < 72 * n → x ≡ v → SetPoolExit w (set w (pool_place base n p) x) base n p v
unfolding pool_in
pool-set w base n p v x room l e =
    record {
      here = get_or-set_same w (pool_place base n p) x 0 (omega arith) ∙ e;
      others = λ q ne. get_or-set_other w (pool_place base n p) (pool_place base n q) x 0 (apart base n p q ne);
      cells = take-set-le (base + 8 * n) w (pool_place base n p) x (omega arith);
    }

pub flag-set : (w : List ℕ) (base n x : ℕ) → base + 88 * n ≤ length w → 0 < n → SetFlagExit w (set w (base + 8 * n) x) base n x
unfolding pool_in
flag-set w base n x room some =
    record {
      here = get_or-set_same w (base + 8 * n) x 0 (omega arith);
      pool = λ q. get_or-set_other w (base + 8 * n) (pool_place base n q) x 0 (λ e. lt_irrefl (base + 8 * n) (omega arith));
      cells = take-set-le (base + 8 * n) w (base + 8 * n) x (le_refl (base + 8 * n));
    }

pub pushed : (w w₁ w₂ w₃ : List ℕ) (base n bin cell top old : ℕ) → old ≡ pool_in w base n bin → bin < top
    → SetPoolExit w w₁ base n top cell → SetPoolExit w₁ w₂ base n (top + 1) old → SetPoolExit w₂ w₃ base n bin top → PushExit w w₃ base n bin cell top
pushed w w₁ w₂ w₃ base n bin cell top old eo l a b c =
    record {
      node = c.others top (omega arith) ∙ b.others top (omega arith) ∙ a.here;
      next = c.others (top + 1) (omega arith) ∙ b.here ∙ eo;
      head = c.here;
      others = λ q ne h. c.others q ne ∙ b.others q (omega arith) ∙ a.others q (omega arith);
      cells = same-cells w w₂ w₃ base n (same-cells w w₁ w₂ base n a.cells b.cells) c.cells;
    }

pub ruleset pools = (pool-read, pool-set, flag-set, pushed)

-- ---- numbers of bins

pub bin-low : (nx ny x y : ℕ) → x < nx → y < ny → nx * y + x < nx * ny
bin-low nx ny x y hx hy = let s = stride-le nx hy in omega arith

bin-apart : (nx x y xx yy : ℕ) → x < nx → xx < nx → nx * y + x ≡ nx * yy + xx → (x ≡ xx) × (y ≡ yy)
bin-apart nx x y xx yy hx hxx e = by (lt-or-ge y yy) (lt-or-ge yy y)
  where
    by : (y < yy) ⊎ (yy ≤ y) → (yy < y) ⊎ (y ≤ yy) → (x ≡ xx) × (y ≡ yy)
    by (inl l) q = let s = stride-le nx l in absurd (omega arith)
    by (inr l) (inl g) = let s = stride-le nx g in absurd (omega arith)
    by (inr l) (inr g) =
        let q : y ≡ yy = omega arith in
        let p : nx * y ≡ nx * yy = ap (λ (m : ℕ). nx * m) q in
        (omega arith, q)

-- ---- tests

clash : false ≡ true → ⊥
clash q = let z : ◌≡◌ {A = ℕ} 0 1 = cc in omega arith

off-2 : (a b c : Bool) → b ≡ false → (a && b) && c ≡ false
off-2 true b c e = rw e
off-2 false b c e = refl

off-3 : (a c d : Bool) → c ≡ false → a && (c && d) ≡ false
off-3 true c d e = rw e
off-3 false c d e = refl

off-4 : (a c d : Bool) → d ≡ false → a && (c && d) ≡ false
off-4 true true d e = e
off-4 true false d e = refl
off-4 false c d e = refl

module _ (w : List ℕ) (base x y i : ℕ) where
  pub left-of : x < range_word w base i 0 → in_bin w base x y i ≡ false
  unfolding in_bin reaches
  left-of h = rw (lt-leb _ _ h)

  pub right_of : range_word w base i 2 < x → in_bin w base x y i ≡ false
  unfolding in_bin reaches
  right_of h = off-2 (leb (range_word w base i 0) x) _ _ (lt-leb _ _ h)

  pub under : y < range_word w base i 1 → in_bin w base x y i ≡ false
  unfolding in_bin reaches
  under h = off-3 (leb (range_word w base i 0) x && leb x (range_word w base i 2)) _ _ (lt-leb _ _ h)

  pub over : range_word w base i 3 < y → in_bin w base x y i ≡ false
  unfolding in_bin reaches
  over h = off-4 (leb (range_word w base i 0) x && leb x (range_word w base i 2)) (leb (range_word w base i 1) y) _ (lt-leb _ _ h)

  pub inside : range_word w base i 0 ≤ x → x ≤ range_word w base i 2 → range_word w base i 1 ≤ y → in_bin w base x y i ≡ leb y (range_word w base i 3)
  unfolding in_bin reaches
  inside a b c = rw (le-leb _ _ a, le-leb _ _ b, le-leb _ _ c)

  same_bin : (w' : List ℕ) (n : ℕ) → i < n → Same w w' base n → in_bin w' base x y i ≡ in_bin w base x y i
  unfolding in_bin reaches
  same_bin w' n h s =
      let e : (k : ℕ) → k < 8 → range_word w' base i k ≡ range_word w base i k = λ k l. slots w w' base n s i k h l in
      rw (e 0 (lit≤ tt), e 1 (lit≤ tt), e 2 (lit≤ tt), e 3 (lit≤ tt))

-- ---- one chain

module _ (w w' : List ℕ) (base heads top top' : ℕ) (r r' : ℕ → Bool) (n : ℕ) (grows : top ≤ top')
    (same : (p : ℕ) → heads ≤ p → p < top → pool_in w' base n p ≡ pool_in w base n p) (alike : (c : ℕ) → c < n → r' c ≡ r c) where
  chain-kept : {i h : ℕ} → Chain w base heads top r n i h → Chain w' base heads top' r' n i h
  chain-kept (none i h e f) = none i h e (λ c a b. alike c b ∙ f c a b)
  chain-kept (node i h c lo hi ec ic cn gap rc dn rest) =
      let e₀ : pool_in w' base n h ≡ pool_in w base n h = same h lo (omega arith) in
      let e₁ : pool_in w' base n (h + 1) ≡ pool_in w base n (h + 1) = same (h + 1) (omega arith) hi in
      node i h c lo (omega arith) (e₀ ∙ ec) ic cn (λ j a b. alike j (omega arith) ∙ gap j a b) (alike c cn ∙ rc) (rw e₁ dn) (rw e₁ (chain-kept rest))

module _ (w : List ℕ) (base heads top : ℕ) (r : ℕ → Bool) (n : ℕ) where
  -- a cell that is not listed
  chain-lower : {i h : ℕ} → Chain w base heads top r n (i + 1) h → r i ≡ false → Chain w base heads top r n i h
  chain-lower {i} (none k h e f) off = none i h e (λ c a b. by c a b (ℕ_discrete c i))
    where
      by : (c : ℕ) → i ≤ c → c < n → Dec (c ≡ i) → r c ≡ false
      by c a b (yes q) = rw q off
      by c a b (no ne) = f c (omega arith) b
  chain-lower {i} (node k h c lo hi ec ic cn gap rc dn rest) off =
      node i h c lo hi ec (omega arith) cn (λ j a b. by j a b (ℕ_discrete j i)) rc dn rest
    where
      by : (j : ℕ) → i ≤ j → j < c → Dec (j ≡ i) → r j ≡ false
      by j a b (yes q) = rw q off
      by j a b (no ne) = gap j (omega arith) b

  chain-below : {i h : ℕ} → Chain w base heads top r n i h → 0 < top → h < top
  chain-below (none i h e f) some = omega arith
  chain-below (node i h c lo hi ec ic cn gap rc dn rest) some = omega arith

-- ---- all chains

-- from a start to the next lower one, past a cell that is not in the bin
Next : (ℕ → Bool) → ℕ → ℕ → Type 0
Next r a b = (a ≡ b) ⊎ ((a ≡ b + 1) × (r b ≡ false))

restart : (w : List ℕ) (base n nx ny top : ℕ) (start start' : ℕ → ℕ → ℕ) → Chains w base n nx ny top start
    → ((x y : ℕ) → x < nx → y < ny → Next (in_bin w base x y) (start x y) (start' x y)) → Chains w base n nx ny top start'
unfolding Next
restart w base n nx ny top start start' cs h =
    record { chain = λ x y hx hy. by x y hx hy (h x y hx hy); above = cs.above; fits = cs.fits }
  where
    by : (x y : ℕ) → x < nx → y < ny → Next (in_bin w base x y) (start x y) (start' x y)
        → Chain w base (nx * ny) top (in_bin w base x y) n (start' x y) (head_in w base n nx x y)
    by x y hx hy (inl e) = rw e at (cs.chain x y hx hy)
    by x y hx hy (inr q) = chain-lower w base (nx * ny) top (in_bin w base x y) n (rw q.0 at (cs.chain x y hx hy)) q.1

-- one more node
chains-push : (w w' : List ℕ) (base n nx ny top i xx yy : ℕ) (start start' : ℕ → ℕ → ℕ) → Chains w base n nx ny top start → PushExit w w' base n (nx * yy + xx) i top
    → 0 < nx * ny → xx < nx → yy < ny → i < n → top + 2 ≤ 72 * n → in_bin w base xx yy i ≡ true → start xx yy ≡ i + 1 → start' xx yy ≡ i
    → ((x y : ℕ) → ((x ≡ xx) × (y ≡ yy) → ⊥) → start' x y ≡ start x y) → Chains w' base n nx ny (top + 2) start'
chains-push w w' base n nx ny top i xx yy start start' cs pu some hxx hyy hi room on e e' others =
    record {
      chain = λ x y hx hy. by x y hx hy (ℕ_discrete (nx * y + x) (nx * yy + xx));
      above = let a = cs.above in omega arith;
      fits = room;
    }
  where
    bin : nx * yy + xx < nx * ny
    bin = bin-low nx ny xx yy hxx hyy

    same : (p : ℕ) → nx * ny ≤ p → p < top → pool_in w' base n p ≡ pool_in w base n p
    same p lo hi = pu.others p (let b = bin in omega arith) hi

    kept : (x y : ℕ) {k h : ℕ} → Chain w base (nx * ny) top (in_bin w base x y) n k h → Chain w' base (nx * ny) (top + 2) (in_bin w' base x y) n k h
    kept x y c = chain-kept w w' base (nx * ny) top (top + 2) (in_bin w base x y) (in_bin w' base x y) n (omega arith) same (λ j l. same_bin w base x y j w' n l pu.cells) c

    old : Chain w base (nx * ny) top (in_bin w base xx yy) n (i + 1) (pool_in w base n (nx * yy + xx))
    old = rw e at (cs.chain xx yy hxx hyy)

    low : pool_in w base n (nx * yy + xx) < top
    low = chain-below w base (nx * ny) top (in_bin w base xx yy) n old (let a = cs.above in omega arith)

    fresh : Chain w' base (nx * ny) (top + 2) (in_bin w' base xx yy) n i top
    fresh =
        node i top i cs.above (omega arith) pu.node (le_refl i) hi (λ j a b. absurd (lt_irrefl i (omega arith)))
        (same_bin w base xx yy i w' n hi pu.cells ∙ on) (rw pu.next low) (rw pu.next (kept xx yy old))

    by : (x y : ℕ) → x < nx → y < ny → Dec (nx * y + x ≡ nx * yy + xx)
        → Chain w' base (nx * ny) (top + 2) (in_bin w' base x y) n (start' x y) (head_in w' base n nx x y)
    by x y hx hy (yes q) =
        let p = bin-apart nx x y xx yy hx hxx q in rw (p.0, p.1, e', pu.head) fresh
    by x y hx hy (no ne) =
        let h : nx * y + x < top = (let b = bin-low nx ny x y hx hy in let a = cs.above in omega arith) in
        rw (pu.others (nx * y + x) ne h, others x y (λ p. ne (rw (p.0, p.1)))) (kept x y (cs.chain x y hx hy))

-- ---- which bins were passed

module _ (i yy xx x y : ℕ) where
  within_in : (y < yy) ⊎ ((y ≡ yy) × (x < xx)) → within i yy xx x y ≡ i
  unfolding passed
  within_in (inl h) = rw (lt-ltb _ _ h)
  within_in (inr q) = let s : ltb y yy ≡ false = le-ltb y yy (let e = q.0 in omega arith) in rw (s, eq-eqb _ _ q.0, lt-ltb _ _ q.1)

  within-out : (yy < y) ⊎ ((y ≡ yy) × (xx ≤ x)) → within i yy xx x y ≡ i + 1
  unfolding passed
  within-out (inl h) =
      let s : ltb y yy ≡ false = le-ltb y yy (omega arith) in
      let t : eqb y yy ≡ false = ne_eqb y yy (λ e. lt_irrefl y (omega arith)) in
      rw (s, t)
  within-out (inr q) = let s : ltb y yy ≡ false = le-ltb y yy (let e = q.0 in omega arith) in rw (s, eq-eqb _ _ q.0, le-ltb _ _ q.1)

  side : ((y < yy) ⊎ ((y ≡ yy) × (x < xx))) ⊎ ((yy < y) ⊎ ((y ≡ yy) × (xx ≤ x)))
  side = by (lt-or-ge y yy) (lt-or-ge yy y) (lt-or-ge x xx)
    where
      by : (y < yy) ⊎ (yy ≤ y) → (yy < y) ⊎ (y ≤ yy) → (x < xx) ⊎ (xx ≤ x) → ((y < yy) ⊎ ((y ≡ yy) × (x < xx))) ⊎ ((yy < y) ⊎ ((y ≡ yy) × (xx ≤ x)))
      by (inl h) q r = inl (inl h)
      by (inr h) (inl g) r = inr (inl g)
      by (inr h) (inr g) (inl l) = inl (inr (omega arith, l))
      by (inr h) (inr g) (inr l) = inr (inr (omega arith, l))

row_in : (i yy x y : ℕ) → y < yy → within i yy 0 x y ≡ i
row_in i yy x y h = within_in i yy 0 x y (inl h)

row_out : (i yy x y : ℕ) → yy ≤ y → within i yy 0 x y ≡ i + 1
row_out i yy x y h = by (lt-or-ge yy y)
  where
    by : (yy < y) ⊎ (y ≤ yy) → within i yy 0 x y ≡ i + 1
    by (inl l) = within-out i yy 0 x y (inl l)
    by (inr g) = within-out i yy 0 x y (inr (omega arith, omega arith))

stay : (r : ℕ → Bool) (a b k : ℕ) → a ≡ k → b ≡ k → Next r a b
unfolding Next
stay r a b k ea eb = inl (ea ∙ sym eb)

down : (r : ℕ → Bool) (a b i : ℕ) → a ≡ i + 1 → b ≡ i → r i ≡ false → Next r a b
unfolding Next
down r a b i ea eb off = inr (rw eb ea, rw eb off)

-- ---- the same area with another pool

pub ranged-kept : (w w' : List ℕ) (base n nx ny : ℕ) → BinRanges w base n nx ny → Same w w' base n → length w' ≡ length w → BinRanges w' base n nx ny
ranged-kept w w' base n nx ny ra s long =
    record {
      some = ra.some;
      room = let r = ra.room in omega arith;
      few = ra.few;
      low = ra.low;
      wide = λ i h. rw (slots w w' base n s i 2 h (lit≤ tt)) (ra.wide i h);
      high = λ i h. rw (slots w w' base n s i 3 h (lit≤ tt)) (ra.high i h);
    }

same_self : (w : List ℕ) (base n : ℕ) → Same w w base n
same_self w base n = refl

-- ---- a row of bins

pub record Rowing (w₀ w : List ℕ) (base n nx ny i y x0 x1 x t : ℕ) : Type 0 where
  pub ranged : BinRanges w base n nx ny
  pub cells : Same w₀ w base n
  pub chains : Chains w base n nx ny t (within i y x)
  pub cell : i < n
  pub left : x0 ≡ range_word w base i 0
  pub right : x1 ≡ range_word w base i 2
  pub low : range_word w base i 1 ≤ y
  pub high : y ≤ range_word w base i 3
  pub from : x0 ≤ x
  pub narrow : x1 < nx
  pub short : y < ny

pub row-start : (w : List ℕ) (base n nx ny i y x0 x1 t : ℕ) → BinRanges w base n nx ny → Chains w base n nx ny t (within i y 0) → i < n → range_word w base i 1 ≤ y → y ≤ range_word w base i 3
    → x0 ≡ range_word w base i 0 → x1 ≡ range_word w base i 2 → Rowing w w base n nx ny i y x0 x1 x0 t
row-start w base n nx ny i y x0 x1 t ra cs hi lo hg el er =
    record {
      ranged = ra;
      cells = same_self w base n;
      chains = restart w base n nx ny t (within i y 0) (within i y x0) cs (λ x' y' hx hy. by x' y' (side i y x0 x' y'));
      cell = hi;
      left = el;
      right = er;
      low = lo;
      high = hg;
      from = le_refl x0;
      narrow = rw er (ra.wide i hi);
      short = let h = ra.high i hi in omega arith;
    }
  where
    by : (x' y' : ℕ) → ((y' < y) ⊎ ((y' ≡ y) × (x' < x0))) ⊎ ((y < y') ⊎ ((y' ≡ y) × (x0 ≤ x'))) → Next (in_bin w base x' y') (within i y 0 x' y') (within i y x0 x' y')
    by x' y' (inl (inl h)) = stay _ _ _ i (row_in i y x' y' h) (within_in i y x0 x' y' (inl h))
    by x' y' (inl (inr q)) =
        down _ _ _ i (row_out i y x' y' (let e = q.0 in omega arith)) (within_in i y x0 x' y' (inr q)) (left-of w base x' y' i (let l = q.1 in omega arith))
    by x' y' (inr (inl h)) = stay _ _ _ (i + 1) (row_out i y x' y' (omega arith)) (within-out i y x0 x' y' (inl h))
    by x' y' (inr (inr q)) = stay _ _ _ (i + 1) (row_out i y x' y' (let e = q.0 in omega arith)) (within-out i y x0 x' y' (inr q))

module _ (w₀ w : List ℕ) (base n nx ny i y x0 x1 x t : ℕ) (g : Rowing w₀ w base n nx ny i y x0 x1 x t) where
  pub row-turn : (w' : List ℕ) (b : ℕ) → x ≤ x1 → PushExit w w' base n b i t → b ≡ nx * y + x → 2 ≤ 72 * n - t → length w' ≡ length w
      → Rowing w₀ w' base n nx ny i y x0 x1 (x + 1) (t + 2)
  row-turn w' b le pu eb room long =
      let pu' : PushExit w w' base n (nx * y + x) i t = rw eb at pu in
      let s = pu.cells in
      record {
        ranged = ranged-kept w w' base n nx ny g.ranged s long;
        cells = same-cells w₀ w w' base n g.cells s;
        chains =
            chains-push w w' base n nx ny t i x y (within i y x) (within i y (x + 1)) g.chains pu' g.ranged.some
            (let a = g.narrow in omega arith) g.short g.cell (let f = g.chains.fits in omega arith)
            (inside w base x y i (let a = g.left in let c = g.from in omega arith) (let a = g.right in omega arith) g.low ∙ le-leb _ _ g.high)
            (within-out i y x x y (inr (refl, le_refl x)))
            (within_in i y (x + 1) x y (inr (refl, next x)))
            (λ x' y' ne. by x' y' ne (side i y x x' y'));
        cell = g.cell;
        left = g.left ∙ sym (slots w w' base n s i 0 g.cell (lit≤ tt));
        right = g.right ∙ sym (slots w w' base n s i 2 g.cell (lit≤ tt));
        low = rw (slots w w' base n s i 1 g.cell (lit≤ tt)) g.low;
        high = rw (slots w w' base n s i 3 g.cell (lit≤ tt)) g.high;
        from = let a = g.from in omega arith;
        narrow = g.narrow;
        short = g.short;
      }
    where
      next : (k : ℕ) → k < k + 1
      next k = omega arith

      by : (x' y' : ℕ) → ((x' ≡ x) × (y' ≡ y) → ⊥) → ((y' < y) ⊎ ((y' ≡ y) × (x' < x))) ⊎ ((y < y') ⊎ ((y' ≡ y) × (x ≤ x'))) → within i y (x + 1) x' y' ≡ within i y x x' y'
      by x' y' ne (inl (inl h)) = within_in i y (x + 1) x' y' (inl h) ∙ sym (within_in i y x x' y' (inl h))
      by x' y' ne (inl (inr q)) = within_in i y (x + 1) x' y' (inr (q.0, (let l = q.1 in omega arith))) ∙ sym (within_in i y x x' y' (inr q))
      by x' y' ne (inr (inl h)) = within-out i y (x + 1) x' y' (inl h) ∙ sym (within-out i y x x' y' (inl h))
      by x' y' ne (inr (inr q)) = within-out i y (x + 1) x' y' (inr (q.0, beyond (lt-or-ge x x'))) ∙ sym (within-out i y x x' y' (inr q))
        where
          beyond : (x < x') ⊎ (x' ≤ x) → x + 1 ≤ x'
          beyond (inl l) = omega arith
          beyond (inr l) = absurd (ne ((let k = q.1 in omega arith), q.0))

  pub row_done : x1 < x → ListCellExit w₀ w base n nx ny t (within i (y + 1) 0)
  row_done past =
      record {
        cells = g.cells;
        chains = λ nz. restart w base n nx ny t (within i y x) (within i (y + 1) 0) g.chains (λ x' y' hx hy. by x' y' (side i y x x' y'));
      }
    where
      by : (x' y' : ℕ) → ((y' < y) ⊎ ((y' ≡ y) × (x' < x))) ⊎ ((y < y') ⊎ ((y' ≡ y) × (x ≤ x'))) → Next (in_bin w base x' y') (within i y x x' y') (within i (y + 1) 0 x' y')
      by x' y' (inl (inl h)) = stay _ _ _ i (within_in i y x x' y' (inl h)) (row_in i (y + 1) x' y' (omega arith))
      by x' y' (inl (inr q)) = stay _ _ _ i (within_in i y x x' y' (inr q)) (row_in i (y + 1) x' y' (let e = q.0 in omega arith))
      by x' y' (inr (inl h)) = stay _ _ _ (i + 1) (within-out i y x x' y' (inl h)) (row_out i (y + 1) x' y' (omega arith))
      by x' y' (inr (inr q)) =
          down _ _ _ i (within-out i y x x' y' (inr q)) (row_in i (y + 1) x' y' (let e = q.0 in omega arith))
          (right_of w base x' y' i (let l = q.1 in let e = g.right in omega arith))

-- no room
pub row-full : (w₀ w : List ℕ) (base n nx ny : ℕ) (start : ℕ → ℕ → ℕ) → Same w₀ w base n → ListCellExit w₀ w base n nx ny 0 start
row-full w₀ w base n nx ny start s = record { cells = s; chains = λ nz. absurd (nz refl) }

pub ruleset rows = (row-start, row-turn, row_done, row-full)

-- ---- the rows of a cell

pub record Celling (w₀ w : List ℕ) (base n nx ny i y0 y1 y t : ℕ) : Type 0 where
  pub ranged : BinRanges w base n nx ny
  pub cells : Same w₀ w base n
  pub chains : Chains w base n nx ny t (within i y 0)
  pub cell : i < n
  pub bottom : y0 ≡ range_word w base i 1
  pub top : y1 ≡ range_word w base i 3
  pub from : y0 ≤ y

pub cell-start : (w : List ℕ) (base n nx ny i y0 y1 t : ℕ) → BinRanges w base n nx ny → Chains w base n nx ny t (λ x y. i + 1) → i < n → y0 ≡ range_word w base i 1 → y1 ≡ range_word w base i 3
    → Celling w w base n nx ny i y0 y1 y0 t
cell-start w base n nx ny i y0 y1 t ra cs hi eb et =
    record {
      ranged = ra;
      cells = same_self w base n;
      chains = restart w base n nx ny t (λ x y. i + 1) (within i y0 0) cs (λ x y hx hy. by x y (lt-or-ge y y0));
      cell = hi;
      bottom = eb;
      top = et;
      from = le_refl y0;
    }
  where
    by : (x y : ℕ) → (y < y0) ⊎ (y0 ≤ y) → Next (in_bin w base x y) (i + 1) (within i y0 0 x y)
    by x y (inl h) = down _ _ _ i refl (row_in i y0 x y h) (under w base x y i (omega arith))
    by x y (inr h) = stay _ _ _ (i + 1) refl (row_out i y0 x y h)

module _ (w₀ w : List ℕ) (base n nx ny i y0 y1 y t : ℕ) (g : Celling w₀ w base n nx ny i y0 y1 y t) where
  pub cell-low : range_word w base i 1 ≤ y
  cell-low = let a = g.bottom in let b = g.from in omega arith

  pub cell-high : y ≤ y1 → y ≤ range_word w base i 3
  cell-high h = let a = g.top in omega arith

  pub cell-turn : (w' : List ℕ) (r : ℕ) → ListCellExit w w' base n nx ny r (within i (y + 1) 0) → (r ≡ 0 → ⊥) → length w' ≡ length w
      → Celling w₀ w' base n nx ny i y0 y1 (y + 1) r
  cell-turn w' r gr nz long =
      record {
        ranged = ranged-kept w w' base n nx ny g.ranged gr.cells long;
        cells = same-cells w₀ w w' base n g.cells gr.cells;
        chains = gr.chains nz;
        cell = g.cell;
        bottom = g.bottom ∙ sym (slots w w' base n gr.cells i 1 g.cell (lit≤ tt));
        top = g.top ∙ sym (slots w w' base n gr.cells i 3 g.cell (lit≤ tt));
        from = let a = g.from in omega arith;
      }

  pub cell_full : (w' : List ℕ) (r : ℕ) (start start' : ℕ → ℕ → ℕ) → ListCellExit w w' base n nx ny r start → ListCellExit w₀ w' base n nx ny 0 start'
  cell_full w' r start start' gr = row-full w₀ w' base n nx ny start' (same-cells w₀ w w' base n g.cells gr.cells)

  pub cell-done : y1 < y → ListCellExit w₀ w base n nx ny t (λ x y. i)
  cell-done past =
      record {
        cells = g.cells;
        chains = λ nz. restart w base n nx ny t (within i y 0) (λ x y. i) g.chains (λ x' y' hx hy. by x' y' (lt-or-ge y' y));
      }
    where
      by : (x' y' : ℕ) → (y' < y) ⊎ (y ≤ y') → Next (in_bin w base x' y') (within i y 0 x' y') i
      by x' y' (inl h) = stay _ _ _ i (row_in i y x' y' h) refl
      by x' y' (inr h) = down _ _ _ i (row_out i y x' y' h) refl (over w base x' y' i (let e = g.top in omega arith))

pub ruleset cells = (cell-start, cell-low, cell-high, cell-turn, cell_full, cell-done)

-- ---- the whole index

-- zeros in the place of the heads
module _ (w ys : List ℕ) (base n nx ny k : ℕ) (room : base + 88 * n ≤ length w) (fits : nx * ny ≤ 72 * n) (many : k ≡ nx * ny) (e : ys ≡ replicate k 0) where
  zeroed : (p : ℕ) → p < nx * ny → pool_in (put_mid (base + 8 * n + 1) k w ys) base n p ≡ 0
  unfolding pool_in
  zeroed p l =
      let heads = base + 8 * n + 1 in
      let h : length (take heads w) ≡ heads = length-take-le heads w (omega arith) in
      get_or-append_right (take heads w) (ys ++ post_of heads k w) heads (heads + p) 0 h (omega arith)
      ∙ ap (λ (q : ℕ). get_or (ys ++ post_of heads k w) q 0) (omega arith)
      ∙ get_or-append ys (post_of heads k w) 0 p (rw (e, length-replicate) (omega arith))
      ∙ rw e (get_or-replicate k p 0 0 (omega arith))

  pub cleared : 0 < nx * ny → ListCellExit w (put_mid (base + 8 * n + 1) k w ys) base n nx ny (nx * ny) (λ x y. n)
  cleared some =
      record {
        cells = take-put_mid_below (base + 8 * n + 1) k w ys (base + 8 * n) (omega arith) (omega arith);
        chains =
            λ nz. record {
              chain = λ x y hx hy. none n _ (zeroed (nx * y + x) (bin-low nx ny x y hx hy)) (λ c a b. absurd (lt_irrefl n (omega arith)));
              above = le_refl (nx * ny);
              fits = fits;
            };
      }

pub record Building (w₀ w : List ℕ) (base n nx ny i t : ℕ) : Type 0 where
  pub ranged : BinRanges w base n nx ny
  pub cells : Same w₀ w base n
  pub chains : Chains w base n nx ny t (λ x y. i)

pub build-start : (w : List ℕ) (base n nx ny t : ℕ) → BinRanges w base n nx ny → Chains w base n nx ny t (λ x y. n) → Building w w base n nx ny n t
build-start w base n nx ny t ra cs = record { ranged = ra; cells = same_self w base n; chains = cs }

module _ (w₀ w : List ℕ) (base n nx ny i t : ℕ) (g : Building w₀ w base n nx ny i t) where
  pub build-ready : 0 < i → Chains w base n nx ny t (λ x y. i - 1 + 1)
  build-ready h = let e : i ≡ i - 1 + 1 = omega arith in rw e at g.chains

  pub build-turn : (w' : List ℕ) (r : ℕ) → ListCellExit w w' base n nx ny r (λ x y. i - 1) → (r ≡ 0 → ⊥) → length w' ≡ length w → Building w₀ w' base n nx ny (i - 1) r
  build-turn w' r gr nz long =
      record {
        ranged = ranged-kept w w' base n nx ny g.ranged gr.cells long;
        cells = same-cells w₀ w w' base n g.cells gr.cells;
        chains = gr.chains nz;
      }

  pub build-full : (w' : List ℕ) (r : ℕ) (start : ℕ → ℕ → ℕ) → ListCellExit w w' base n nx ny r start → FillExit w₀ w' base n nx ny false
  build-full w' r start gr = record { cells = same-cells w₀ w w' base n g.cells gr.cells; index = λ e. absurd (clash e) }

  pub build-done : i ≤ 0 → FillExit w₀ w base n nx ny true
  build-done h = let e : i ≡ 0 = omega arith in record { cells = g.cells; index = λ q. record { top = t; chains = rw e at g.chains } }

pub build-none : (w : List ℕ) (base n nx ny : ℕ) → FillExit w w base n nx ny false
build-none w base n nx ny = record { cells = same_self w base n; index = λ e. absurd (clash e) }

-- after the heads were cleared
pub fill-ranged : (w w₁ : List ℕ) (base n nx ny top : ℕ) (start : ℕ → ℕ → ℕ) → ListCellExit w w₁ base n nx ny top start → BinRanges w base n nx ny → length w₁ ≡ length w → BinRanges w₁ base n nx ny
fill-ranged w w₁ base n nx ny top start gr ra long = ranged-kept w w₁ base n nx ny ra gr.cells long

pub fill-chains : (w w₁ : List ℕ) (base n nx ny : ℕ) (start : ℕ → ℕ → ℕ) → ListCellExit w w₁ base n nx ny (nx * ny) start → BinRanges w base n nx ny → Chains w₁ base n nx ny (nx * ny) start
fill-chains w w₁ base n nx ny start gr ra = gr.chains (let s = ra.some in omega arith)

pub filled : (w w₁ w₂ : List ℕ) (base n nx ny top : ℕ) (start : ℕ → ℕ → ℕ) (r : Bool) → ListCellExit w w₁ base n nx ny top start → FillExit w₁ w₂ base n nx ny r → FillExit w w₂ base n nx ny r
filled w w₁ w₂ base n nx ny top start r gr bu = record { cells = same-cells w w₁ w₂ base n gr.cells bu.cells; index = bu.index }

-- the index under the word that says whether it stands
chain-flag : (w w' : List ℕ) (base heads top : ℕ) (r r' : ℕ → Bool) (n v : ℕ) → SetFlagExit w w' base n v → ((c : ℕ) → c < n → r' c ≡ r c) → {i h : ℕ} → Chain w base heads top r n i h
    → Chain w' base heads top r' n i h
chain-flag w w' base heads top r r' n v fl alike ch = chain-kept w w' base heads top top r r' n (le_refl top) (λ p a b. fl.pool p) alike ch

pub indexed-flag : (w w' : List ℕ) (base n nx ny v : ℕ) → SetFlagExit w w' base n v → BinIndex w base n nx ny → BinIndex w' base n nx ny
indexed-flag w w' base n nx ny v fl ix =
    record {
      top = ix.top;
      chains =
          record {
            chain =
                λ x y hx hy. rw (fl.pool (nx * y + x)) (chain-flag w w' base (nx * ny) ix.top (in_bin w base x y) (in_bin w' base x y) n v fl (λ c l. same_bin w base x y c w' n l fl.cells) (ix.chains.chain x y hx hy));
            above = ix.chains.above;
            fits = ix.chains.fits;
          };
    }

pub build-done-one : (w w₁ w₂ : List ℕ) (base n nx ny : ℕ) (r : Bool) → FillExit w w₁ base n nx ny r → r ≡ true → SetFlagExit w₁ w₂ base n 1 → BuildExit w w₂ base n nx ny
build-done-one w w₁ w₂ base n nx ny r fi e fl =
    record { cells = same-cells w w₁ w₂ base n fi.cells fl.cells; index = λ q. indexed-flag w₁ w₂ base n nx ny 1 fl (fi.index e) }

pub build-done-zero : (w w₁ w₂ : List ℕ) (base n nx ny : ℕ) (r : Bool) → FillExit w w₁ base n nx ny r → SetFlagExit w₁ w₂ base n 0 → BuildExit w w₂ base n nx ny
build-done-zero w w₁ w₂ base n nx ny r fi fl =
    record { cells = same-cells w w₁ w₂ base n fi.cells fl.cells; index = λ q. let z = fl.here in absurd (omega arith) }

pub ruleset builds = (build-start, build-ready, build-turn, build-full, build-done, build-none, fill-ranged, fill-chains, filled, build-done-one, build-done-zero)

-- ---- the search along a chain

-- the node that a chain starts with
pub record Opened (w : List ℕ) (base heads top : ℕ) (r : ℕ → Bool) (n i h : ℕ) : Type 0 where
  pub high : h + 1 < top
  pub from : i ≤ pool_in w base n h
  pub low : pool_in w base n h < n
  pub gap : (j : ℕ) → i ≤ j → j < pool_in w base n h → r j ≡ false
  pub on : r (pool_in w base n h) ≡ true
  pub falls : pool_in w base n (h + 1) < h
  pub rest : Chain w base heads top r n (pool_in w base n h + 1) (pool_in w base n (h + 1))

pub opened : {w : List ℕ} {base heads top : ℕ} {r : ℕ → Bool} {n i h : ℕ} → Chain w base heads top r n i h → (h ≡ 0 → ⊥) → Opened w base heads top r n i h
opened (none i h e f) nz = absurd (nz e)
opened (node i h c lo hi ec ic cn gap rc dn rest) nz =
    record { high = hi; from = rw ec ic; low = rw ec cn; gap = rw ec gap; on = rw ec rc; falls = dn; rest = rw ec rest }

pub closed : {w : List ℕ} {base heads top : ℕ} {r : ℕ → Bool} {n i h : ℕ} → 0 < heads → Chain w base heads top r n i h → h ≡ 0 → (c : ℕ) → i ≤ c → c < n → r c ≡ false
closed some (none i h e f) z = f
closed some (node i h c lo hi ec ic cn gap rc dn rest) z = absurd (omega arith)

pub heads-fit : (w : List ℕ) (base n nx ny b : ℕ) → BinIndex w base n nx ny → b < nx * ny → b < 72 * n
heads-fit w base n nx ny b ix l = let a = ix.chains.above in let f = ix.chains.fits in omega arith

pub few-heads : (w : List ℕ) (base n nx ny : ℕ) → BinIndex w base n nx ny → n ≤ 16384 → nx * ny ≤ 1179648
few-heads w base n nx ny ix few = let a = ix.chains.above in let b = ix.chains.fits in omega arith
