-- The first number of a range that passes a test, and the first at which a closure gives something. Assumes nothing.
use Rattle.std.proofs.Common.{◌≡◌, ℕ, ◌+◌, ◌-◌, ◌<◌, ◌≤◌, true, false, Some, None, Option, ap, ◌∙◌, subst, arith, IsTrue, MatchOption, Bool, inl, inr}
use Rattle.std.proofs.lemmas.Bool.{cases_lt}
use Rattle.std.proofs.lemmas.Iterator.{first_from_Range}
use Rattle.std.proofs.iter.Yields.{nat_range_steps}
use Rattle.std.proofs.iter.runs.Sources.{range_listed}
use Rattle.std.specs.declared.ops.Range.{Range}
use Rattle.std.specs.Fn.{Called, CalledAt}
use Rattle.std.specs.Iterator.{FindsItem}
use Rattle.std.specs.Iterator.Runs.{SomeRun, Run, AllItemsGive, IsFirstToGive, CallKeepsClosure}
use Rattle.std.specs.Option.{option_map}
use Rattle.std.specs.Prelude.{IfSome, IsSomeAnd}
use denote.Param.Members.{Mut}
use denote.Ref.{Bor}
use Rattle.tree.specs.Steps.{FirstOf}

-- `find` over a range that has all numbers with P
pub found : {F : Type 0} {g : Mut F (Bor ℕ × Unit {0}) Bool} (P : ℕ → Type 0) (s u : Range ℕ) (f : F) (r : Option ℕ) → FindsItem nat_range_steps g s f r u
    → ((x : ℕ) (q : F) → CalledAt g f x true q → P x) → ((x : ℕ) (q : F) → CalledAt g f x false q → (q ≡ f) × (P x → ⊥)) → ((k : ℕ) → P k → (s.start ≤ k) × (k < s.end)) → FirstOf P r
found P s u f r ran hit miss inside = go r (first_from_Range s u f r P (λ k. P k → ⊥) ran hit miss)
  where
    go : (o : Option ℕ) → MatchOption o ((k : ℕ) → s.start ≤ k → k < s.end → P k → ⊥) (λ i. (s.start ≤ i) × (i < s.end) × P i × ((k : ℕ) → s.start ≤ k → k < i → P k → ⊥)) → FirstOf P o
    go None h = λ k p. h k (inside k p).0 (inside k p).1 p
    go (Some i) h = (h.2, λ k p. elim (cases_lt k i) [ inl before ↦ absurd (h.3 k (inside k p).0 before p) | inr late ↦ late ])

-- what holds of the item that is there holds of n, the number that it is
item_is : (P : ℕ → Type 0) (o : Option ℕ) (n : ℕ) → option_map (λ y. y) o ≡ Some n → IfSome o P → P n
item_is P None n e h = absurd (let z : ◌≡◌ {A = ℕ} 0 1 = cc in (let k : ⊥ = omega arith in k))
item_is P (Some x) n e h = let same : x ≡ n = cc in subst P same h

item_has : (P : ℕ → Type 0) (o : Option ℕ) (n : ℕ) → option_map (λ y. y) o ≡ Some n → IsSomeAnd o P → P n
item_has P None n e h = absurd h
item_has P (Some x) n e h = let same : x ≡ n = cc in subst P same h

-- `find_map` over a range
module _ {F B : Type 0} (g : Mut F (ℕ × Unit {0}) (Option B)) (f : F) (Yes : ℕ → B → Type 0) (No : ℕ → Type 0) (keeps : CallKeepsClosure g f)
    (some : (x : ℕ) (y : B) → Called g f (x, tt) (Some y) f → Yes x y) (none : (x : ℕ) → Called g f (x, tt) None f → No x) where
  abbrev pub Gives : Option B → Run nat_range_steps → Type 0
  Gives r p = MatchOption r (IsTrue p.whole × AllItemsGive p g f None) (λ y. (i : ℕ) × (i < p.len) × (p.len ≡ i + 1) × IsFirstToGive p g f (Some y) None i)

  pub first_mapped : (s : Range ℕ) (r : Option B) → SomeRun nat_range_steps s (Gives r)
      → MatchOption r ((k : ℕ) → s.start ≤ k → k < s.end → No k) (λ y. (i : ℕ) × (s.start ≤ i) × (i < s.end) × Yes i y × ((k : ℕ) → s.start ≤ k → k < i → No k))
  first_mapped s r run = go r run.2
    where
      p : Run nat_range_steps
      p = run.0

      listed : (p.len ≤ s.end - s.start) × (p.whole ≡ true → p.len ≡ s.end - s.start) × ((k : ℕ) → k < p.len → option_map (λ y. y) (p.at k) ≡ Some (s.start + k))
      listed =
          let t = range_listed p p.seen in
          let from : t.0 ≡ s.start = t.2 ∙ ap (λ (x : Range ℕ). x.start) run.1 in
          let to : t.1 ≡ s.end = t.3 ∙ ap (λ (x : Range ℕ). x.end) run.1 in
          subst (λ b. (p.len ≤ b - s.start) × (p.whole ≡ true → p.len ≡ b - s.start) × ((k : ℕ) → k < p.len → option_map (λ y. y) (p.at k) ≡ Some (s.start + k))) to
          (subst (λ a. (p.len ≤ t.1 - a) × (p.whole ≡ true → p.len ≡ t.1 - a) × ((k : ℕ) → k < p.len → option_map (λ y. y) (p.at k) ≡ Some (a + k))) from (t.4.0, t.4.1, t.4.3))

      -- what holds of each place's number below j, where the numbers go on to j
      none_below : (j : ℕ) → j ≤ p.len → ((k : ℕ) → k < j → No (s.start + k)) → (k : ℕ) → s.start ≤ k → k < s.start + j → No k
      none_below j fits h k low high = subst No {x = s.start + (k - s.start)} {y = k} (omega arith) (h (k - s.start) (omega arith))

      go : (o : Option B) → Gives o p → MatchOption o ((k : ℕ) → s.start ≤ k → k < s.end → No k) (λ y. (i : ℕ) × (s.start ≤ i) × (i < s.end) × Yes i y × ((k : ℕ) → s.start ≤ k → k < i → No k))
      go None h =
          let long = listed.1 h.0 in
          λ k low high. none_below p.len (omega arith) (λ j below. none (s.start + j) (item_is (λ x. Called g f (x, tt) None f) (p.at j) (s.start + j) (listed.2 j below) (h.1 keeps j))) k low (omega arith)
      go (Some y) h =
          let i = h.0 in
          let below = h.1 in
          let first = h.3 keeps in
          let fits = listed.0 in (
            s.start + i,
            omega arith,
            omega arith,
            some (s.start + i) y (item_has (λ x. Called g f (x, tt) (Some y) f) (p.at i) (s.start + i) (listed.2 i below) first.0),
            none_below i (omega arith) (λ j before. none (s.start + j) (item_has (λ x. Called g f (x, tt) None f) (p.at j) (s.start + j) (listed.2 j (omega arith)) (first.1 j before))),
          )
