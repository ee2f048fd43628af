-- What lines read: only cells of the field. Assumes nothing.
use Prim.Native.Nat.{ℕ, zero, suc, ◌+◌, ◌<◌}
use native.Mathlib.Omega.{arith}
use mathlib.Core.Path.{◌≡◌, refl}
use mathlib.Core.Bool.{Bool, true, false, cond}
use mathlib.Core.List.{List, [], ◌∷◌}
use lib.ListN.{length}
use lib.Ieee.{Float}
use Rattle.arith.specs.F64.{◌⊕◌, 0·0, nearer}
use Rattle.arith.specs.Lists.{fold, first_from}
use Rattle.arith.specs.declared.Vec2.{Vec2}
use Rattle.arith.specs.declared.Vec3.{Vec3}
use Rattle.arith.proofs.All.{All}
use Rattle.reading.specs.Asks.{Asks, ◌>>=◌}
use Rattle.reading.specs.Result as result
use Rattle.reading.specs.Result.{refuse}
use Rattle.reading.proofs.Within.{Within, given, asked, within-bind}
use Rattle.lines_locate.specs.Locate.{locate_where, locate}
use Rattle.lines_locate.specs.Field.{StreamlineField, staying}
use Rattle.lines_velocity.specs.Velocity.{locate_in, neighbours_of, distance_squared, nearer_of, nearest_of, beside_if, beside, beside_nearest, toward, velocity_in, velocity_where, velocity_at, from, direction_at}
use Rattle.lines_step.specs.declared.Step.{Step}
use Rattle.lines_step.specs.declared.Step.TheVariants.{Next, Ended}
use Rattle.lines_step.specs.declared.StreamlineOptions.{StreamlineOptions}
use Rattle.lines_step.specs.RungeKutta.{fourth, third, second, runge_kutta}
use Rattle.lines_step.specs.Step.{rk4_step, step}
use Rattle.lines.specs.declared.Rake.{Rake}
use Rattle.lines_words.specs.declared.Style.{Style}
use Rattle.lines_words.specs.declared.Style.TheVariants.{Points}
use Rattle.lines.specs.declared.StreamlineSettings.{StreamlineSettings}
use Rattle.lines.specs.Line.{signed_step, onward, line_from, points_after, line, line_answer, integrate}
use Rattle.lines.specs.Rake.{lines_words, integrate_rake}
use Rattle.answers.specs.Ensures.{decided}
use Rattle.job_reads.proofs.Within.{Sound}
use Rattle.std.specs.Prelude.{Some, None, Ok, Err}
use Rattle.std.specs.declared.option.Option.{Option}
use Rattle.refusal.specs.declared.Refusal.{Refusal}
use Rattle.refusal.specs.declared.Refusal.TheVariants.{WrongOptions, SeedNowhere}

-- the first that passes is one of the list
first_below : {A : Type 0} (p : A → Bool) (k : ℕ) (l : List A) (i : ℕ) → first_from p k l ≡ Some i → i < k + length l
unfolding first_from
first_below p k [] i e = absurd (let z : ◌≡◌ {A = ℕ} 0 1 = cc in omega arith)
first_below p k (a ∷ l) i e = by (p a) (first_below p (suc k) l i) e
  where
    by : (t : Bool) → (first_from p (suc k) l ≡ Some i → i < suc k + length l) → elim t [ true ↦ Some k | false ↦ first_from p (suc k) l ] ≡ Some i → i < k + suc (length l)
    by true r e = let q : k ≡ i = cc in omega arith
    by false r e = let h = r e in omega arith

-- ---- the velocity at a point

module _ (n : ℕ) (f : StreamlineField) (sound : Sound n f) where
  where_below : (t : Bool) (q : Vec2) (i : ℕ) → locate_where t f.search f.grid f.polygons q ≡ Some i → i < n
  unfolding locate_where
  where_below false q i e = absurd (let z : ◌≡◌ {A = ℕ} 0 1 = cc in omega arith)
  where_below true q i e = let w = first_below _ 0 f.polygons i e in omega (arith, sound.few)

  located-below : (p : Vec3) (i : ℕ) → locate_in f p ≡ Some i → i < n
  unfolding locate_in locate
  located-below p i e = where_below _ _ i e

  nearer-below : (p : Vec3) (j k : ℕ) → j < n → k < n → nearer_of f.cells p j k < n
  unfolding nearer_of
  nearer-below p j k a b = by (nearer (distance_squared f.cells p k) (distance_squared f.cells p j))
    where
      by : (t : Bool) → cond t k j < n
      by true = b
      by false = a

  nearest-below : (p : Vec3) (k : ℕ) (ks : List ℕ) → k < n → All (λ j. j < n) ks → fold (nearer_of f.cells p) k ks < n
  unfolding fold
  nearest-below p k [] h g = h
  nearest-below p k (j ∷ ks) h g = nearest-below p (nearer_of f.cells p k j) ks (nearer-below p k j h g.0) g.1

  beside-within : (t : Bool) (p : Vec3) (i : ℕ) (base : Vec3) (k : ℕ) → k < n → Within n (beside_if t f p i base k)
  unfolding beside_if
  beside-within false p i base k h = given
  beside-within true p i base k h = within-bind (asked h (λ v. given)) (λ v. given)

  nearest-within : (p : Vec3) (i : ℕ) (base : Vec3) (ks : List ℕ) → All (λ k. k < n) ks → Within n (beside_nearest f p i base ks)
  unfolding beside_nearest beside nearest_of
  nearest-within p i base [] h = given
  nearest-within p i base (k ∷ ks) h = beside-within _ p i base _ (nearest-below p k ks h.0 h.1)

  velocity-in : (p : Vec3) (i : ℕ) → i < n → Within n (velocity_in f p i)
  unfolding velocity_in toward
  velocity-in p i h = within-bind (asked h (λ v. given)) (λ v. nearest-within p i v.velocity (neighbours_of f.cells i) (sound.near i))

  velocity-where : (p : Vec3) (r : Option ℕ) → locate_in f p ≡ r → Within n (velocity_where f p r)
  unfolding velocity_where
  velocity-where p None e = given
  velocity-where p (Some i) e = within-bind (velocity-in p i (located-below p i e)) (λ v. given)

  pub velocity-within : (p : Vec3) → Within n (velocity_at f p)
  unfolding velocity_at
  velocity-within p = velocity-where p (locate_in f p) refl

-- ---- a step

from-within : (n : ℕ) (h : Vec3 → Asks (Option Vec3)) → ((p : Vec3) → Within n (h p)) → (s : Option Vec3) → Within n (from h s)
unfolding from
from-within n h w (Some p) = w p
from-within n h w None = given

then-within : (n : ℕ) (t : Asks (Option Vec3)) (h : Vec3 → Asks (Option Vec3)) → Within n t → ((p : Vec3) → Within n (h p)) → Within n (t >>= from h)
then-within n t h w g = within-bind w (from-within n h g)

module _ (n : ℕ) (direction : Vec3 → Asks (Option Vec3)) (w : (q : Vec3) → Within n (direction q)) (h : Float) (p : Vec3) where
  fourth-within : (k1 k2 k3 : Vec3) → Within n (fourth direction h p k1 k2 k3)
  unfolding fourth
  fourth-within k1 k2 k3 = then-within n _ _ (w _) (λ k4. given)

  third-within : (k1 k2 : Vec3) → Within n (third direction h p k1 k2)
  unfolding third
  third-within k1 k2 = then-within n _ _ (w _) (fourth-within k1 k2)

  second-within : (k1 : Vec3) → Within n (second direction h p k1)
  unfolding second
  second-within k1 = then-within n _ _ (w _) (third-within k1)

  runge-kutta-within : Within n (runge_kutta direction h p)
  unfolding runge_kutta
  runge-kutta-within = then-within n _ _ (w p) second-within

-- ---- a line, and the lines of a rake

decided-within : (n : ℕ) (t : Asks (List ℕ)) → Within n t → Within n (decided (Ok t))
unfolding decided
decided-within n t w = within-bind w (λ ws. given)

refused-within : (n : ℕ) (k : Refusal) → Within n (decided (Err k))
unfolding decided
refused-within n k = given

-- after two refusals
unless-within : (n : ℕ) (j k : Refusal) (s t : Bool) (u : Asks (List ℕ)) → Within n u
    → Within n (decided (result.◌>>=◌ (refuse j s) (λ _. result.◌>>=◌ (refuse k t) (λ _. Ok u))))
unfolding refuse result.◌>>=◌
unless-within n j k true t u w = refused-within n j
unless-within n j k false true u w = refused-within n k
unless-within n j k false false u w = decided-within n u w

module _ (n : ℕ) (f : StreamlineField) (sound : Sound n f) where
  direction-within : (still : Float) (p : Vec3) → Within n (direction_at f still p)
  unfolding direction_at
  direction-within still p = then-within n _ _ (velocity-within n f sound p) (λ v. given)

  rk4-within : (still h : Float) (p : Vec3) → Within n (rk4_step f still h p)
  unfolding rk4_step
  rk4-within still h p = then-within n _ _ (runge-kutta-within n (direction_at f still) (direction-within still) h p) (λ q. given)

  step-within : (o : StreamlineOptions) (h : Float) (p : Vec3) (total : Float) → Within n (step f o h p total)
  unfolding step
  step-within o h p total = within-bind (rk4-within _ h p) (λ q. given)

  onward-within : (rest : Vec3 → Float → Asks (List Vec3)) → ((q : Vec3) (t : Float) → Within n (rest q t)) → (total : Float) (s : Step) → Within n (onward rest total s)
  unfolding onward
  onward-within rest w total Ended = given
  onward-within rest w total (Next q segment) = within-bind (w q (total ⊕ segment)) (λ l. given)

  line-from-within : (o : StreamlineOptions) (h : Float) (k : ℕ) (p : Vec3) (total : Float) → Within n (line_from f o h k p total)
  unfolding line_from
  line-from-within o h zero p total = given
  line-from-within o h (suc k) p total = within-bind (step-within o h p total) (onward-within (line_from f o h k) (line-from-within o h k) total)

-- the same field for a line that stays in a zone
staying-sound : (n : ℕ) (f : StreamlineField) → Sound n f → (home : ℕ) → Sound n (staying home f)
unfolding staying
staying-sound n f h home = record { few = h.few; near = h.near }

module _ (n : ℕ) (f : StreamlineField) (sound : Sound n f) where
  line-within : (s : StreamlineSettings) (seed : Vec3) → Within n (line f s seed)
  unfolding line points_after
  line-within s seed = within-bind (line-from-within n _ (staying-sound n f sound _) s.options (signed_step s) s.options.max_steps seed 0·0) (λ l. given)

  line-answer-within : (style : Style) (s : StreamlineSettings) (seed : Vec3) → Within n (line_answer f style s seed)
  unfolding line_answer
  line-answer-within style s seed = within-bind (line-within s seed) (λ l. given)

  lines-within : (s : StreamlineSettings) (ps : List Vec3) → Within n (lines_words f s ps)
  unfolding lines_words
  lines-within s [] = given
  lines-within s (p ∷ ps) = within-bind (line-answer-within Points s p) (λ l. within-bind (lines-within s ps) (λ ws. given))

  pub integrate-within : (p : Vec3) (s : StreamlineSettings) (style : Style) → Within n (decided (integrate f p s style))
  unfolding integrate
  integrate-within p s style = unless-within n WrongOptions SeedNowhere _ _ _ (line-answer-within style s p)

  pub rake-within : (r : Rake) (s : StreamlineSettings) → Within n (decided (integrate_rake f r s))
  unfolding integrate_rake
  rake-within r s = unless-within n WrongOptions SeedNowhere _ _ _ (within-bind (lines-within s _) (λ ws. given))
