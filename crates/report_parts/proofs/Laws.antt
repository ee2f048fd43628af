-- The text of a result, done or refused. Assumes nothing.
use Prim.Native.Nat.{ℕ}
use mathlib.Core.Path.{◌≡◌}
use mathlib.Core.List.{List}
use borrow.Author.Tests.{eq-eqb, ne_eqb}
use Rattle.listing.specs.Listing.{done_text, refused_text}
use Rattle.listing.specs.Ensures.{ListingExit}
use Rattle.report_parts.specs.Parts.{listing_text}

module _ (k : ℕ) (answers : List ℕ) (count : ℕ) (marks o o' : List ℕ) (r : ℕ) where
  pub text-done : k ≡ 0 → ListingExit (done_text answers count marks) o o' r → ListingExit (listing_text k answers count marks) o o' r
  unfolding listing_text
  text-done h t = rw (eq-eqb k 0 h) t

  pub text-refused : (k ≡ 0 → ⊥) → ListingExit (refused_text k) o o' r → ListingExit (listing_text k answers count marks) o o' r
  unfolding listing_text
  text-refused h t = rw (ne_eqb k 0 h) t
