-- Demand 3 for any job that is a tree over what a case says outside its values. Assumes nothing.
use Prim.Native.Nat.{ℕ, ◌-◌, ◌≤◌, ◌<◌}
use native.Mathlib.Decide.{dec_lt}
use native.Mathlib.Omega.{arith}
use mathlib.Core.Path.{◌≡◌, refl, ap₂, ◌∙◌}
use mathlib.Core.List.{List, ◌++◌, Memᴰ}
use lib.ListN.{length, get_or, drop, replicate, length-append, length-replicate, length-drop, get_or-replicate, get_or-append}
use Rattle.reading.specs.declared.Values.{Values}
use Rattle.reading.specs.Result.{Refusable}
use Rattle.reading.specs.Asks.{Asks, reads}
use Rattle.reading.proofs.AsksLaws.{Same, agree}
use Rattle.reading.specs.Marks.{mark_all, cleared}
use Rattle.reading.proofs.MarksLaws.{marked, only-read, unread-keeps}
use Rattle.reading.specs.After.{After, done, Named}
use Rattle.std.specs.Prelude.{Ok, Err}

-- the cleared marks are as long as the marks, where those reach all cells
pub length-cleared : (n : ℕ) (m : List ℕ) → n ≤ length m → length (cleared n m) ≡ length m
length-cleared n m long = rw (length-append, length-replicate, length-drop) (omega arith)

-- One job over two fields that agree beyond its n cells, and on the cells that it marks over the first: it leaves the same.
module _ (n : ℕ) (o m : List ℕ) (f g : ℕ → Values) (beyond : (i : ℕ) → n ≤ i → f i ≡ g i) where
  pub same-done : (j : Refusable (Asks (List ℕ))) → (fit : (t : Asks (List ℕ)) → j ≡ Ok t → n ≤ length m) →
      ((i : ℕ) → Named (done j f n o m) n i → f i ≡ g i) → done j f n o m ≡ done j g n o m
  unfolding done Named
  same-done (Err r) fit h = refl
  same-done (Ok t) fit h = ap₂ made s.answer s.asked
    where
      made : List ℕ → List ℕ → After
      made a l = record { result = 0; answers = a ++ replicate (length o - length a) 0; marks = mark_all (cleared n m) l }

      long : n ≤ length m
      long = fit t refl

      in-range : (i : ℕ) → Memᴰ i (reads t f) → Dec (i < n) → f i ≡ g i
      in-range i w (yes b) = h i (refl, b, marked (cleared n m) (reads t f) i (omega (arith, long, length-cleared n m long)) w)
      in-range i w (no b) = beyond i (omega arith)

      s : Same (List ℕ) t f g
      s = agree t f g (λ i w. in-range i w (dec_lt i n))

-- "byte i < C becomes 1 if this job read cell i's values, else 0": in both directions.
module _ (n : ℕ) (o m : List ℕ) (long : n ≤ length m) (t : Asks (List ℕ)) (f : ℕ → Values) (i : ℕ) (b : i < n) where
  pub read-marked : Memᴰ i (reads t f) → get_or (done (Ok t) f n o m).marks i 0 ≡ 1
  unfolding done
  read-marked w = marked (cleared n m) (reads t f) i (omega (arith, length-cleared n m long)) w

  clear : get_or (cleared n m) i 0 ≡ 0
  clear = get_or-append (replicate n 0) (drop n m) 0 i (omega (arith, length-replicate {A = ℕ} n 0)) ∙ get_or-replicate n i 0 0 b

  pub marked-read : get_or (done (Ok t) f n o m).marks i 0 ≡ 1 → Memᴰ i (reads t f)
  unfolding done
  marked-read h = only-read (cleared n m) (reads t f) i clear h

  pub unread-clear : (Memᴰ i (reads t f) → ⊥) → get_or (done (Ok t) f n o m).marks i 0 ≡ 0
  unfolding done
  unread-clear h = unread-keeps (cleared n m) (reads t f) i h ∙ clear
