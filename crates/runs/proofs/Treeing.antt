-- What the tree call answers, in the words of derivations. Assumes nothing.
use Rattle.std.proofs.Common.{◌≡◌, ℕ, ◌-◌, ◌*◌, Bool, true, false, cond, eqb, leb, List, length, take, IfOk, Ok, Err, Result, sym, refl, ap, ◌∙◌, subst, inl, inr, eq-eqb, leb-false, MatchResult}
use Rattle.semiring.specs.declared.cost.Cost.{Cost}
use Rattle.semiring.specs.Costs.{cost, none}
use Rattle.grammar.specs.declared.refusal.Refusal.{Refusal}
use Rattle.grammar.specs.declared.refusal.Refusal.TheVariants.{NoDerivation, FewRecords, OtherGrammar}
use Rattle.grammar.specs.Grammars.{Meaning}
use Rattle.entries.specs.Lists.{Entries}
use Rattle.entries.specs.Model.{state}
use Rattle.chart.specs.Reads.{whole_total}
use Rattle.entries.proofs.Listing.{size}
use Rattle.tree.specs.declared.record.Record.{Record}
use Rattle.tree.specs.Trees.{nodes_answer, tree_answer, chart_answer, Cheapest}
use Rattle.grammar.specs.Costs.{by_cost}
use Rattle.runs.specs.Trees.{CheapestRecords, RefusedFor}

-- the number of nodes, or why not
nodes_answer_lem : (total : Cost) (n room : ℕ) → MatchResult (nodes_answer total n room) (λ k. k ≡ 2 * n - 1) (RefusedFor n room)
nodes_answer_lem total n room = go (eqb total.value none)
  where
    few : (b : Bool) → leb (2 * n - 1) room ≡ b → MatchResult (cond b (Ok (2 * n - 1)) (Err FewRecords)) (λ k. k ≡ 2 * n - 1) (RefusedFor n room)
    few true is = refl
    few false is = inr (refl, leb-false (2 * n - 1) room is)

    go : (b : Bool) → MatchResult (cond b (Err NoDerivation) (cond (leb (2 * n - 1) room) (Ok (2 * n - 1)) (Err FewRecords))) (λ k. k ≡ 2 * n - 1) (RefusedFor n room)
    go true = inl refl
    go false = few (leb (2 * n - 1) room) refl

pub chart_answer_lem : (m : Meaning) (e : Entries) (xs : List Cost) (room : ℕ) (r : Result ℕ Refusal) → m.nonterminals ≡ e.nonterminals → r ≡ chart_answer m e xs room
    → MatchResult r (λ k. k ≡ 2 * length (state e).entries - 1) (RefusedFor (length (state e).entries) room)
chart_answer_lem m e xs room r own is =
    let whole = whole_total cost m (length e.list.items) xs in
    let accepted : chart_answer m e xs room ≡ nodes_answer whole (length e.list.items) room =
    ap (λ b. tree_answer (cond b (Ok whole) (Err OtherGrammar)) (length e.list.items) room) (eq-eqb m.nonterminals e.nonterminals own) in
    subst (λ n. MatchResult r (λ k. k ≡ 2 * n - 1) (RefusedFor n room)) (sym (size e))
    (subst (λ x. MatchResult x (λ k. k ≡ 2 * (length e.list.items) - 1) (RefusedFor (length e.list.items) room)) (sym (is ∙ accepted)) (nodes_answer_lem whole (length e.list.items) room))

pub cheapest_records : (m : Meaning) (es : List ℕ) (cell : ℕ → ℕ → ℕ → Cost) (total : Cost) (new : List Record) (r : Result ℕ Refusal)
    → IfOk r (λ k. Cheapest by_cost m es cell total (take k new)) → IfOk r (λ k. CheapestRecords m es (take k new))
cheapest_records m es cell total new (Ok k) c = record { tree = c.tree; are = c.are; derives = c.derives; least = c.least }
cheapest_records m es cell total new (Err why) c = tt
