-- What is known of the sums of a span, among all that are noted. Assumes nothing.
use Rattle.std.proofs.Common.{◌≡◌, ℕ, ◌+◌, ◌≤◌, ◌==◌, Bool, true, false, cond, List, [], ◌∷◌, length, slice_set, filter, All, sym, arith, eqb-true, eq-eqb}
use Rattle.std.proofs.lemmas.Bool.{true≢false}
use Rattle.std.proofs.lemmas.List.Elements.{All-nil, All-cons, All-head, All-tail, All-set, All-filter, filter_passes}
use Rattle.semiring.specs.Semirings.{Operations}
use Rattle.chart.specs.Cells.{Room}
use Rattle.chart.specs.Sums.{Later, KnownAt, Noted}
use Rattle.chart.specs.declared.span.Span.{Span}
use Rattle.chart.specs.declared.sums.Key.{Key}
use Rattle.chart.specs.declared.sums.Sum.{Sum}

-- what holds of each element that passes a test holds of all that a filter keeps, and the other way round
module _ {X : Type 0} (P : X → Type 0) (p : X → Bool) where
  abbrev Passing : X → Type 0
  Passing x = p x ≡ true → P x

  all_kept : (xs : List X) → All Passing xs → All P (filter p xs)
  all_kept xs h = λ i d lt. All-filter p Passing xs h i d lt (filter_passes p xs i d lt)

  first_and_rest : (b : Bool) (x : X) (kept : List X) → All P (cond b (x ∷ kept) kept) → (b ≡ true → P x) × All P kept
  first_and_rest true x kept h = (λ _. All-head P x kept h, All-tail P x kept h)
  first_and_rest false x kept h = (λ e. absurd (true≢false (sym e)), h)

  all_passing : (xs : List X) → All P (filter p xs) → All Passing xs
  all_passing [] h = All-nil Passing
  all_passing (x ∷ xs) h =
      let both = first_and_rest (p x) x (filter p xs) h in
      All-cons Passing x xs both.0 (all_passing xs both.1)

module _ {S : Type 0} (ops : Operations S) (span : Span) (xs : List S) where
  abbrev Right : Sum S → Type 0
  Right sum = KnownAt ops span xs sum.key sum.value

  -- a sum is that of its key, if it is of the span
  abbrev RightHere : Sum S → Type 0
  RightHere sum = sum.begin ≡ span.begin → Right sum

  abbrev is_here : Sum S → Bool
  is_here sum = sum.begin == span.begin

  pub noted_of : (sums : List (Sum S)) → Room span.cells span.end (length xs) → Later span.begin sums → All RightHere sums → Noted ops span xs sums
  noted_of sums room later each = record {
    later = later;
    here = record { room = room; each = all_kept Right is_here sums (λ i d lt here. each i d lt (eqb-true _ _ here)) };
  }

  pub noted_each : (sums : List (Sum S)) → Noted ops span xs sums → All RightHere sums
  noted_each sums noted = λ i d lt here. all_passing Right is_here sums noted.here.each i d lt (eq-eqb _ _ here)

  -- where all sums are of spans that begin later, none is of this one yet
  pub noted_later : (sums : List (Sum S)) → Room span.cells span.end (length xs) → Later (span.begin + 1) sums → Noted ops span xs sums
  noted_later sums room later =
      noted_of sums room (λ i d lt. omega (arith, later i d lt)) (λ i d lt here. absurd (omega (arith, here, later i d lt)))

  -- a sum of the span takes the place of another
  pub noted_set : (sums : List (Sum S)) (at : ℕ) (key : Key) (value : S) → KnownAt ops span xs key value
      → Noted ops span xs sums → Noted ops span xs (slice_set sums at record { key = key; begin = span.begin; value = value })
  noted_set sums at key value right noted =
      let sum : Sum S = record { key = key; begin = span.begin; value = value } in
      noted_of (slice_set sums at sum) noted.here.room
      (All-set (λ s. span.begin ≤ s.begin) sums at sum (omega arith) noted.later)
      (All-set RightHere sums at sum (λ _. right) (noted_each sums noted))
