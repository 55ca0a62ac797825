use Rattle.std.proofs.Common.{length, ◌≡◌, Ok, rules}
use Rattle.grammar.specs.Totals.{by}
use Rattle.chart.specs.Reads.{total_answer}
use Rattle.chart.proofs.Totalling.{answer_stands}
use Rattle.chart.proofs.chart.Chart.total.Goals as goal

pub returns-then-len-eq0-clause-total : goal.returns-then-len-eq0-clause-total
returns-then-len-eq0-clause-total g c w =
    let m = g.G.Grammar.meaning c.args.grammar.now in
    let e = c.args.self.now.entries in
    let xs = c.args.self.now.slots.cells.now in
    let is : Ok c.zero.result ≡ total_answer g.S.Semiring.ring m e.nonterminals (length e.list.items) xs = search rules in
    answer_stands g.met.S.Semiring.laws (by w) m (g.G.Grammar.shown c.args.grammar.now) e xs (Ok c.zero.result) is

pub returns-clause-total : goal.returns-clause-total
returns-clause-total g c w =
    let m = g.G.Grammar.meaning c.args.grammar.now in
    let e = c.args.self.now.entries in
    let xs = c.args.self.now.slots.cells.now in
    let is : Ok c.start_sum.result ≡ total_answer g.S.Semiring.ring m e.nonterminals (length e.list.items) xs = search rules in
    answer_stands g.met.S.Semiring.laws (by w) m (g.G.Grammar.shown c.args.grammar.now) e xs (Ok c.start_sum.result) is
