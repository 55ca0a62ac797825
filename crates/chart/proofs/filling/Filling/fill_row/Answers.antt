use Rattle.std.proofs.Common.{◌≡◌, length, fold, ◌∙◌, ap₂, subst}
use mathlib.Core.Path.{subst⁻¹}
use Rattle.grammar.specs.Totals.{by}
use Rattle.chart.specs.Cells.{Room}
use Rattle.chart.specs.Columns.{Row, with_rule}
use Rattle.chart.specs.Gathers.{rules_below}
use Rattle.chart.proofs.Rows.{row_below}
use Rattle.chart.proofs.Noting.{noted_later}
use Rattle.chart.proofs.filling.Filling.fill_row.Goals as goal

pub add_rules-requires : goal.add_rules-requires
add_rules-requires g c = record { known = noted_later g.W.Value.Semiring.ring c.args.self.now.span c.args.slots.now c.args.sums.now c.requires.room c.requires.later }

pub returns-clause-row : goal.returns-clause-row
returns-clause-row g c =
    let f = c.args.self.now in
    let s = f.span in
    let m = g.G.Grammar.meaning f.grammar.now in
    let xs = c.args.slots.now in
    let weigh = by (g.W.Weighing.weight f.weighing.now) in
    let ring = g.W.Value.Semiring.ring in
    let added : c.add_rules.new.slots ≡ fold (with_rule ring weigh m.nonterminals f.last.bits s.begin s.end) xs (rules_below m f.next) =
    c.add_rules.ensures.added ∙ ap₂ (λ n. fold (with_rule ring weigh n f.last.bits s.begin s.end) xs) f.own f.gathers.rules in
    let room = subst (λ n. Room n s.end (length xs)) f.own c.requires.room in
    c.add_numbers.ensures.rows xs
    (subst⁻¹ (Row ring weigh m f.last.bits s.begin s.end f.next xs) added
    (row_below g.met.W.Value.Semiring.laws weigh m f.last.bits s.begin s.end xs s.some room (g.G.Grammar.shown f.grammar.now) f.next))
