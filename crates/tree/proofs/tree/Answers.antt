use Rattle.std.proofs.Common.{◌≡◌, ℕ, length, take, sym, ap, ◌∙◌, subst, rules, arith}
use Rattle.semiring.specs.Costs.{cost}
use Rattle.chart.specs.Cells.{cell_at}
use Rattle.tree.specs.Steps.{FirstOf, StartAttains}
use Rattle.tree.proofs.Puts.{put_front}
use Rattle.tree.proofs.Answering.{passed, start_exists, some_found, tells_none, chart_every, whole_tree}
use Rattle.tree.proofs.tree.Goals as goal

pub returns-in_err-total-clause-every : goal.returns-in_err-total-clause-every
returns-in_err-total-clause-every g c = let a = c.args in chart_every _ _ (g.G.Grammar.shown a.grammar.now) a.chart.now.entries a.chart.now.slots.cells.now

pub returns-in_err-nodes-clause-none : goal.returns-in_err-nodes-clause-none
returns-in_err-nodes-clause-none g c = let a = c.args in tells_none _ _ (g.G.Grammar.shown a.grammar.now) a.chart.now.entries a.chart.now.slots.cells.now (length a.records.now) _ (search rules)

pub returns-in_err-nodes-clause-every : goal.returns-in_err-nodes-clause-every
returns-in_err-nodes-clause-every g c = let a = c.args in chart_every _ _ (g.G.Grammar.shown a.grammar.now) a.chart.now.entries a.chart.now.slots.cells.now

pub unwrap-requires : goal.unwrap-requires
unwrap-requires g c =
    let m = g.G.Grammar.meaning c.args.grammar.now in
    let e = c.args.chart.now.entries in
    let xs = c.args.chart.now.slots.cells.now in
    let v = c.in_ok-total.total in
    let p = passed m e xs v c.len-count.result (length c.args.records.now) c.in_ok-nodes.nodes (sym c.total.ensures.is ∙ c.in_ok-total.was) (cc) (sym c.node_count.ensures ∙ c.in_ok-nodes.was) in
    let d = start_exists m (length e.list.items) xs v p.is p.some in
    let At : ℕ → ℕ → Type 0 = λ n k. StartAttains m m.nonterminals (cell_at cost n xs 0 k) v.value d.0 in
    some_found _ _ c.first_start.ensures (d.0, subst (λ n. At n c.len-count.result) p.same (subst (At m.nonterminals) (sym p.counted) d.1))

pub returns-clause-cheapest : goal.returns-clause-cheapest
returns-clause-cheapest g c =
    let m = g.G.Grammar.meaning c.args.grammar.now in
    let e = c.args.chart.now.entries in
    let xs = c.args.chart.now.slots.cells.now in
    let old = c.args.records.now in
    let v = c.in_ok-total.total in
    let count = c.len-count.result in
    let p = passed m e xs v count (length old) c.in_ok-nodes.nodes (sym c.total.ensures.is ∙ c.in_ok-total.was) (cc) (sym c.node_count.ensures ∙ c.in_ok-nodes.was) in
    let w = c.write_tree.ensures in
    let long : c.in_ok-nodes.nodes ≡ length w.part = (let n = w.count in let k = p.nodes_are in let l = p.counted in omega arith) in
    let start = subst (FirstOf (StartAttains m m.nonterminals (cell_at cost e.nonterminals xs 0 count) v.value)) c.unwrap.ensures c.first_start.ensures in
    λ stands. whole_tree (g.W.Weighing.weight c.args.weighing.now) m (g.G.Grammar.shown c.args.grammar.now) e xs p.same stands v p.is p.some count c.unwrap.result p.counted start w.part _
    (ap (take c.in_ok-nodes.nodes) w.puts ∙ put_front old w.part c.in_ok-nodes.nodes long) w.taken

pub returns-clause-none : goal.returns-clause-none
returns-clause-none g c = let a = c.args in tells_none _ _ (g.G.Grammar.shown a.grammar.now) a.chart.now.entries a.chart.now.slots.cells.now (length a.records.now) _ (search rules)

pub returns-clause-every : goal.returns-clause-every
returns-clause-every g c = let a = c.args in chart_every _ _ (g.G.Grammar.shown a.grammar.now) a.chart.now.entries a.chart.now.slots.cells.now
