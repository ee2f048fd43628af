-- Laws of trees. Assumes nothing.
use Prim.Native.Nat.{ℕ}
use mathlib.Core.Path.{◌≡◌, refl, ap, ◌∙◌, fun_ext}
use mathlib.Core.List.{List, ◌∷◌, ◌++◌, Memᴰ}
use Rattle.reading.specs.declared.Values.{Values}
use Rattle.reading.specs.Asks.{Asks, give, ask, run, reads, ◌>>=◌}

module _ {A B : Type 0} where
  pub run_bind : (t : Asks A) (h : A → Asks B) (f : ℕ → Values) → run (t >>= h) f ≡ run (h (run t f)) f
  unfolding ◌>>=◌
  run_bind (give a) h f = refl
  run_bind (ask i k) h f = run_bind (k (f i)) h f

  pub reads-bind : (t : Asks A) (h : A → Asks B) (f : ℕ → Values) → reads (t >>= h) f ≡ reads t f ++ reads (h (run t f)) f
  unfolding ◌>>=◌
  reads-bind (give a) h f = refl
  reads-bind (ask i k) h f = rw (reads-bind (k (f i)) h f)

pub bind_assoc : {A B C : Type 0} (t : Asks A) (h : A → Asks B) (l : B → Asks C) → (t >>= h) >>= l ≡ t >>= (λ a. h a >>= l)
unfolding ◌>>=◌
bind_assoc (give a) h l = refl
bind_assoc (ask i k) h l = ap (ask i) (fun_ext (λ v. bind_assoc (k v) h l))

pub bind-give : {A : Type 0} (t : Asks A) → t >>= give ≡ t
unfolding ◌>>=◌
bind-give (give a) = refl
bind-give (ask i k) = ap (ask i) (fun_ext (λ v. bind-give (k v)))

-- Two fields that agree on the cells that the first run asked: the same answer, and the same cells asked.
pub record Same (A : Type 0) (t : Asks A) (f g : ℕ → Values) : Type 0 where
  pub answer : run t f ≡ run t g
  pub asked : reads t f ≡ reads t g

pub agree : {A : Type 0} (t : Asks A) (f g : ℕ → Values) → ((i : ℕ) → Memᴰ i (reads t f) → f i ≡ g i) → Same A t f g
agree (give a) f g h = record { answer = refl; asked = refl }
agree (ask i k) f g h =
    let e : f i ≡ g i = h i (Memᴰ.head refl) in
    let r = agree (k (f i)) f g (λ j m. h j (Memᴰ.tail m)) in
    record {
      answer = r.answer ∙ ap (λ v. run (k v) g) e;
      asked = ap {B = List ℕ} (λ t. i ∷ t) (r.asked ∙ ap (λ v. reads (k v) g) e);
    }
