use Rattle.chart.proofs.Gathering.{gathers_none}
use Rattle.chart.proofs.slots.Slots.refill.Goals as goal

-- no rule is at hand
pub refill_with-requires-clause-gathers : goal.refill_with-requires-clause-gathers
refill_with-requires-clause-gathers g c = gathers_none (g.G.Grammar.meaning c.args.grammar.now) c.none.result.rules.now c.none.result.next c.none.ensures.0 c.none.ensures.1
