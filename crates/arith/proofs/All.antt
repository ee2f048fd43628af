-- Every element of a list has a property. Assumes nothing.
use Rattle.std.proofs.Common.{ℕ, zero, suc, Bool, true, false, cond, List, [], ◌∷◌, ◌++◌, get_or, set}
use Rattle.arith.specs.Lists.{fold, any_of, add_new}
pub use Rattle.arith.specs.All.{All}

module _ {A : Type 0} (P : A → Type 0) where
  pub all_append : (l k : List A) → All P l → All P k → All P (l ++ k)
  all_append [] k h g = g
  all_append (a ∷ l) k h g = (h.0, all_append l k h.1 g)

  pub all_get_or : (l : List A) (i : ℕ) (d : A) → P d → All P l → P (get_or l i d)
  all_get_or [] i d p h = p
  all_get_or (a ∷ l) zero d p h = h.0
  all_get_or (a ∷ l) (suc i) d p h = all_get_or l i d p h.1

  pub all_set : (l : List A) (i : ℕ) (b : A) → P b → All P l → All P (set l i b)
  all_set [] i b p h = tt
  all_set (a ∷ l) zero b p h = (p, h.1)
  all_set (a ∷ l) (suc i) b p h = (h.0, all_set l i b p h.1)

  pub all-add_new : (like : A → A → Bool) (l : List A) (a : A) → All P l → P a → All P (add_new like l a)
  unfolding add_new
  all-add_new like l a h p = by (any_of (like a) l)
    where
      by : (b : Bool) → All P (cond b l (l ++ a ∷ []))
      by true = h
      by false = all_append l (a ∷ []) h (p, tt)

-- a weaker property
pub all_more : {A : Type 0} (P Q : A → Type 0) → ((a : A) → P a → Q a) → (l : List A) → All P l → All Q l
all_more P Q f [] h = tt
all_more P Q f (a ∷ l) h = (f a h.0, all_more P Q f l h.1)

-- a property that each step keeps
pub foldl-keeps : {A B : Type 0} (P : B → Type 0) (f : B → A → B) (s : B) (l : List A) → P s → ((b : B) (a : A) → P b → P (f b a)) → P (fold f s l)
unfolding fold
foldl-keeps P f s [] h k = h
foldl-keeps P f s (a ∷ l) h k = foldl-keeps P f (f s a) l (k s a h) k
