-- What the tree call answers, from the total. Assumes nothing.
use Rattle.std.proofs.Common.{◌≡◌, ℕ, zero, suc, ◌-◌, ◌*◌, ◌<◌, ◌≤◌, Bool, true, false, cond, eqb, leb, ◌≢◌, ◌⊎◌, List, length, Some, None, Option, IsSome, Ok, Err, Result, sym, refl, ap, ◌∙◌, subst, inl, inr, arith, eqb→eq, leb→le, eq-eqb}
use Rattle.std.proofs.lemmas.Bool.{cond-true}
use Rattle.semiring.specs.Semirings.{Operations}
use Rattle.semiring.specs.declared.cost.Cost.{Cost}
use Rattle.semiring.specs.Costs.{cost, costing, none}
use Rattle.semiring.specs.CostLaws.{cost_laws}
use Rattle.grammar.specs.declared.refusal.Refusal.{Refusal}
use Rattle.grammar.specs.declared.refusal.Refusal.TheVariants.{OtherGrammar, NoDerivation, FewRecords}
use Rattle.grammar.specs.declared.rule.Rule.{Rule}
use Rattle.grammar.specs.Grammars.{Meaning, Shown}
use Rattle.grammar.specs.Derivations.{Tree, EntriesFromStarts}
use Rattle.grammar.specs.Totals.{TotalOf, weight_of, by}
use Rattle.grammar.specs.Spans.{start_sum, Filled}
use Rattle.grammar.specs.Costs.{cost_of}
use Rattle.grammar.proofs.Truths.{true_of, not_both}
use Rattle.grammar.proofs.Cheapest.{total_least, below_none}
use Rattle.grammar.proofs.Spanning.{stands_filled}
use Rattle.entries.specs.Lists.{Entries}
use Rattle.chart.specs.Cells.{cell_at}
use Rattle.entries.specs.Model.{state}
use Rattle.chart.specs.Stands.{ChartStands}
use Rattle.chart.specs.Reads.{whole_total, total_answer}
use Rattle.entries.proofs.Listing.{size}
use Rattle.chart.proofs.Totalling.{some_whole, total_stands}
use Rattle.tree.specs.declared.record.Record.{Record}
use Rattle.tree.specs.Trees.{nodes_answer, tree_answer, chart_answer, ChartCheapest, ChartEvery, WeighsCost, TellsNone}
use Rattle.tree.specs.Steps.{FirstOf, StartAttains, Taken}
use Rattle.tree.proofs.Choosing.{sum_attained}
use Rattle.tree.proofs.Cheap.{cheapest}
use Rattle.tree.proofs.Converse.{every_cheapest}

-- an accepted total is the chart's, and the grammar shown has its number of nonterminals
pub ok_total : {S : Type 0} (s : Operations S) (m : Meaning) (n count : ℕ) (xs : List S) (v : S) → total_answer s m n count xs ≡ Ok v → (m.nonterminals ≡ n) × (v ≡ whole_total s m count xs)
ok_total {S} s m n count xs v e = go (eqb m.nonterminals n) refl e
  where
    go : (b : Bool) → eqb m.nonterminals n ≡ b → cond b (Ok (whole_total s m count xs)) (Err OtherGrammar) ≡ Ok v → (m.nonterminals ≡ n) × (v ≡ whole_total s m count xs)
    go true is f = (eqb→eq _ _ (true_of _ is), cc)
    go false is f = let z : ◌≡◌ {A = ℕ} 0 1 = cc in absurd (let k : ⊥ = omega arith in k)

module _ (m : Meaning) (count : ℕ) (xs : List Cost) (v : Cost) (is : v ≡ whole_total cost m count xs) (some : v.value < none) where
  -- a total that is not none is of some entries
  pub total_some : 0 < count
  total_some = go count (ap (λ (x : Cost). x.value) is)
    where
      go : (n : ℕ) → v.value ≡ (whole_total cost m n xs).value → 0 < n
      go zero e = absurd (omega arith)
      go (suc n) e = omega arith

  pub total_sums : v ≡ start_sum cost m (cell_at cost m.nonterminals xs 0 count)
  total_sums = is ∙ some_whole cost m count xs (let h = total_some in omega arith)

  -- some start attains it
  pub start_exists : (A : ℕ) × StartAttains m m.nonterminals (cell_at cost m.nonterminals xs 0 count) v.value A
  start_exists =
      let e = ap (λ (x : Cost). x.value) total_sums in
      let d = sum_attained m.nonterminals (λ A. cond (m.start A) (cell_at cost m.nonterminals xs 0 count A) cost.zero) (omega arith) in
      go d.0 d.1 (m.start d.0) refl (d.2 ∙ sym e)
    where
      go : (A : ℕ) → A < m.nonterminals → (b : Bool) → m.start A ≡ b → (cond b (cell_at cost m.nonterminals xs 0 count A) cost.zero).value ≡ v.value
          → (A : ℕ) × StartAttains m m.nonterminals (cell_at cost m.nonterminals xs 0 count) v.value A
      go A h true start e = (A, record { below = h; start = start; costs = e })
      go A h false start e = absurd (omega arith)

-- "no derivation" is answered where the total is none, and nowhere else
module _ (total : Cost) (count room : ℕ) where
  -- what is left to test
  abbrev rest : Bool → Result ℕ Refusal
  rest b = cond b (Ok (2 * count - 1)) (Err FewRecords)

  pub none_answer : total.value ≡ none → nodes_answer total count room ≡ Err NoDerivation
  none_answer e = cond-true (eqb total.value none) _ _ (eq-eqb _ _ e)

  not_rest : (b : Bool) → rest b ≡ Err NoDerivation → ⊥
  not_rest true e = let z : ◌≡◌ {A = ℕ} 0 1 = cc in omega arith
  not_rest false e = let z : ◌≡◌ {A = ℕ} 0 1 = cc in omega arith

  pub answer_none : nodes_answer total count room ≡ Err NoDerivation → total.value ≡ none
  answer_none e = go (eqb total.value none) refl e
    where
      go : (b : Bool) → eqb total.value none ≡ b → cond b (Err NoDerivation) (rest (leb (2 * count - 1) room)) ≡ Err NoDerivation → total.value ≡ none
      go true is f = eqb→eq _ _ (true_of _ is)
      go false is f = absurd (not_rest (leb (2 * count - 1) room) f)

  -- an accepted tree has a total below none
  pub accepted_some : (k : ℕ) → nodes_answer total count room ≡ Ok k → (total.value < none) × (k ≡ 2 * count - 1) × (2 * count - 1 ≤ room)
  accepted_some k e = go (eqb total.value none) refl (leb (2 * count - 1) room) refl e
    where
      go : (b : Bool) → eqb total.value none ≡ b → (d : Bool) → leb (2 * count - 1) room ≡ d → cond b (Err NoDerivation) (rest d) ≡ Ok k → (total.value < none) × (k ≡ 2 * count - 1) × (2 * count - 1 ≤ room)
      go true is d at f = let z : ◌≡◌ {A = ℕ} 0 1 = cc in absurd (let k : ⊥ = omega arith in k)
      go false is true at f =
          let other : total.value ≢ none = λ h. not_both (eqb total.value none) (eq-eqb _ _ h) is in
          let fits = total.fits in
          (omega arith, cc, leb→le _ _ (true_of _ at))
      go false is false at f = let z : ◌≡◌ {A = ℕ} 0 1 = cc in absurd (let k : ⊥ = omega arith in k)

-- what is known once the tests are passed
pub record Passed (m : Meaning) (e : Entries) (xs : List Cost) (v : Cost) (count room nodes : ℕ) : Type 0 where
  pub same : m.nonterminals ≡ e.nonterminals
  pub is : v ≡ whole_total cost m (length e.list.items) xs
  pub some : v.value < none
  pub counted : count ≡ (length e.list.items)
  pub full : 0 < (length e.list.items)
  pub nodes_are : nodes ≡ 2 * (length e.list.items) - 1
  pub fits : 2 * (length e.list.items) - 1 ≤ room

pub passed : (m : Meaning) (e : Entries) (xs : List Cost) (v : Cost) (count room nodes : ℕ) → total_answer cost m e.nonterminals (length e.list.items) xs ≡ Ok v → count ≡ (length e.list.items) → nodes_answer v count room ≡ Ok nodes
    → Passed m e xs v count room nodes
passed m e xs v count room nodes total counted answer =
    let t = ok_total cost m e.nonterminals (length e.list.items) xs v total in
    let a = accepted_some v count room nodes answer in
    let nodes_are = a.1 in
    let fits = a.2 in
    record { same = t.0; is = t.1; some = a.0; counted = counted; full = total_some m (length e.list.items) xs v t.1 a.0; nodes_are = omega arith; fits = omega arith }

module _ (weigh : Rule → Cost) (m : Meaning) (es : List ℕ) (total : Cost) (is : TotalOf cost (EntriesFromStarts m es) (weight_of cost weigh m) total) where
  none_without : ((t : Tree) → EntriesFromStarts m es t → ⊥) → total.value ≡ none
  none_without never = go (total_least weigh m (EntriesFromStarts m es) total is).attained
    where
      go : (total.value ≡ none) ⊎ ((t : Tree) × EntriesFromStarts m es t × (total.value ≡ cost_of weigh m t)) → total.value ≡ none
      go (inl e) = e
      go (inr d) = absurd (never d.0 d.1)

without_none : (weight : ℕ → ℕ → Cost) (m : Meaning) → Shown m → (es : List ℕ) (total : Cost) → TotalOf cost (EntriesFromStarts m es) (weight_of cost (by weight) m) total
    → WeighsCost weight → length es ≤ 64 → total.value ≡ none → (t : Tree) → EntriesFromStarts m es t → ⊥
without_none weight m shown es total is byc short free t d =
    let same : (λ (c b : ℕ). costing c) ≡ weight = λ i c b. sym (byc c b) i in
    let below = (total_least (by weight) m (EntriesFromStarts m es) total is).below t d in
    let some : cost_of (by weight) m t < none = subst (λ (w : ℕ → ℕ → Cost). cost_of (by w) m t < none) same (below_none m shown d.from es t d.derives short) in
    omega arith

-- the answer where the numbers of nonterminals agree
same_answer : (m : Meaning) (e : Entries) (xs : List Cost) (room : ℕ) → m.nonterminals ≡ e.nonterminals → chart_answer m e xs room ≡ nodes_answer (whole_total cost m (length e.list.items) xs) (length e.list.items) room
same_answer m e xs room same = ap (λ r. tree_answer r (length e.list.items) room) (cond-true (eqb m.nonterminals e.nonterminals) _ _ (eq-eqb _ _ same))

pub tells_none : (weight : ℕ → ℕ → Cost) (m : Meaning) → Shown m → (e : Entries) (xs : List Cost) (room : ℕ) (r : Result ℕ Refusal) → r ≡ chart_answer m e xs room → TellsNone weight m e xs r
tells_none weight m shown e xs room r is same byc stands =
    let es = (state e).entries in
    let total = whole_total cost m (length e.list.items) xs in
    let whole : TotalOf cost (EntriesFromStarts m es) (weight_of cost (by weight) m) total =
    subst (λ n. TotalOf cost (EntriesFromStarts m es) (weight_of cost (by weight) m) (whole_total cost m n xs)) (size e) (total_stands cost_laws (by weight) m shown es xs stands) in
    let said = is ∙ same_answer m e xs room same in (
      λ f. without_none weight m shown es total whole byc (omega (arith, size e, e.few)) (answer_none total (length e.list.items) room (sym said ∙ f)),
      λ never. said ∙ none_answer total (length e.list.items) room (none_without (by weight) m es total whole never),
    )

-- where there is a number with P, one is found
pub some_found : (P : ℕ → Type 0) (r : Option ℕ) → FirstOf P r → (k : ℕ) × P k → IsSome r
some_found P None first d = absurd (first d.0 d.1)
some_found P (Some k) first d = refl

-- each derivation of least cost is made of rivals, where the chart stands
pub chart_every : (weight : ℕ → ℕ → Cost) (m : Meaning) → Shown m → (e : Entries) (xs : List Cost) → ChartStands cost weight m e xs → ChartEvery weight m e xs
chart_every weight m shown e xs = every_cheapest (by weight) m shown (state e).entries (cell_at cost m.nonterminals xs)

-- the records of the tree that was taken over all entries
module _ (weight : ℕ → ℕ → Cost) (m : Meaning) (shown : Shown m) (e : Entries) (xs : List Cost) (same : m.nonterminals ≡ e.nonterminals) (stands : ChartStands cost weight m e xs) where
  abbrev es : List ℕ
  es = (state e).entries

  abbrev cell_of : ℕ → ℕ → ℕ → ℕ → Cost
  cell_of n = cell_at cost n xs

  pub whole_tree : (v : Cost) → v ≡ whole_total cost m (length e.list.items) xs → v.value < none → (count A : ℕ) → count ≡ (length e.list.items)
      → FirstOf (StartAttains m m.nonterminals (cell_of e.nonterminals 0 count) v.value) (Some A)
      → (part written : List Record) → written ≡ part
      → (Filled cost (by weight) m es (cell_of e.nonterminals) → (cell_of e.nonterminals 0 count A).value < none → Taken (by weight) m es (cell_of e.nonterminals) 0 count A part)
      → ChartCheapest weight m e xs written
  whole_tree v is some count A counted start part written wrote taken =
      let total = whole_total cost m (length e.list.items) xs in
      let long : count ≡ length es = counted ∙ sym (size e) in
      let full : 0 < length es = omega (arith, size e, total_some m (length e.list.items) xs v is some) in
      let whole : TotalOf cost (EntriesFromStarts m es) (weight_of cost (by weight) m) total =
      subst (λ n. TotalOf cost (EntriesFromStarts m es) (weight_of cost (by weight) m) (whole_total cost m n xs)) (size e) (total_stands cost_laws (by weight) m shown es xs stands) in
      let sums : total ≡ start_sum cost m (cell_of m.nonterminals 0 (length es)) = ap (λ n. whole_total cost m n xs) (sym (size e)) ∙ some_whole cost m (length es) xs (omega arith) in
      let begins : FirstOf (StartAttains m m.nonterminals (cell_of m.nonterminals 0 (length es)) total.value) (Some A) =
      subst (λ (x : Cost). FirstOf (StartAttains m m.nonterminals (cell_of m.nonterminals 0 (length es)) x.value) (Some A)) is
      (subst (λ n. FirstOf (StartAttains m m.nonterminals (cell_of n 0 (length es)) v.value) (Some A)) (sym same)
      (subst (λ k. FirstOf (StartAttains m m.nonterminals (cell_of e.nonterminals 0 k) v.value) (Some A)) long start)) in
      let filled : Filled cost (by weight) m es (cell_of m.nonterminals) = stands_filled cost_laws (by weight) m shown es (cell_of m.nonterminals) stands in
      let below : (cell_of e.nonterminals 0 count A).value < none = (let h = start.0.costs in omega arith) in
      let tree : Taken (by weight) m es (cell_of m.nonterminals) 0 (length es) A part =
      subst (λ n. Taken (by weight) m es (cell_of n) 0 (length es) A part) (sym same)
      (subst (λ k. Taken (by weight) m es (cell_of e.nonterminals) 0 k A part) long
      (taken (subst (λ n. Filled cost (by weight) m es (cell_of n)) same filled) below)) in
      subst (ChartCheapest weight m e xs) (sym wrote) (cheapest (by weight) m shown es (cell_of m.nonterminals) total whole sums full A begins.0 begins.1 part tree)
