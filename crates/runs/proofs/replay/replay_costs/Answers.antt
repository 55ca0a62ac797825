use Rattle.std.proofs.Common.{◌≡◌, length, sym, refl, ap, ◌∙◌, subst, ap₂}
use Rattle.semiring.specs.Costs.{cost}
use Rattle.std.specs.Prelude.{IfOk}
use Rattle.grammar.specs.Derivations.{EntriesFromStarts}
use Rattle.grammar.specs.Totals.{TotalOf, weight_of}
use Rattle.grammar.specs.Costs.{by_cost}
use Rattle.chart.specs.Cells.{cell_at}
use Rattle.entries.specs.Model.{State, state, empty, terms}
use Rattle.chart.specs.Reads.{whole_total}
use Rattle.runs.specs.Runs.{run}
use Rattle.runs.specs.Trees.{TreeAfter}
use Rattle.runs.proofs.Treeing.{chart_answer_lem, cheapest_records}
use Rattle.runs.proofs.replay.replay_costs.Goals as goal

pub returns-clause-tree : goal.returns-clause-tree
returns-clause-tree g c =
    let m = g.G.Grammar.meaning c.args.grammar.now in
    let cs = c.args.calls.now in
    let fresh = c.new-chart.ensures in
    let anew = c.run_anew-trial.ensures.anew in
    let e = c.run_anew-trial.new.chart.entries in
    let xs = c.run_anew-trial.new.chart.slots.cells.now in
    let old = c.args.records.now in
    let new = c.tree-answer.new.records in
    let r = c.tree-answer.result in
    let told = c.tree-answer.ensures in
    let own : m.nonterminals ≡ e.nonterminals = sym (anew.slots.own ∙ fresh.own) in
    let after : state e ≡ run (terms m m.nonterminals (length c.args.slots.now)) empty cs = anew.ran.after ∙ ap (λ t. run t empty cs) (ap₂ (terms m) fresh.own (ap length fresh.same)) in
    subst (λ es. TreeAfter m es old new r) (ap (λ (s : State). s.entries) after) (record {
      answer = chart_answer_lem m e xs (length old) r own told.answer;
      cheapest = cheapest_records m (state e).entries (cell_at cost m.nonterminals xs) (whole_total cost m (length e.list.items) xs) new r (told.cheapest anew.stands);
      beyond = told.beyond;
      none = told.none own (λ k bottom. refl) anew.stands;
    })

pub returns-clause-total : goal.returns-clause-total
returns-clause-total g c =
    let m = g.G.Grammar.meaning c.args.grammar.now in
    let cs = c.args.calls.now in
    let fresh = c.new-chart.ensures in
    let anew = c.run_anew-trial.ensures.anew in
    let e = c.run_anew-trial.new.chart.entries in
    let after : state e ≡ run (terms m m.nonterminals (length c.args.slots.now)) empty cs = anew.ran.after ∙ ap (λ t. run t empty cs) (ap₂ (terms m) fresh.own (ap length fresh.same)) in
    let told = c.total.ensures.total _ anew.stands in
    let total = subst (λ r. IfOk r (TotalOf cost (EntriesFromStarts m (state e).entries) (weight_of cost by_cost m))) c.unwrap-total.ensures told in
    subst (λ es. TotalOf cost (EntriesFromStarts m es) (weight_of cost by_cost m) c.unwrap-total.result) (ap (λ (s : State). s.entries) after) total
