use Rattle.std.proofs.Common.{◌<◌, length, arith}
use Rattle.std.proofs.ByRecursion.{All-get_or}
use Rattle.chart.specs.Gathers.{Named}
use Rattle.chart.proofs.Gathering.{named_at_hand}
use Rattle.chart.proofs.filling.Filling.add_rules.Goals as goal

pub add_rule-requires-clause-named : goal.add_rule-requires-clause-named
add_rule-requires-clause-named g c =
    let f = c.args.self.now in
    let named = named_at_hand (g.G.Grammar.meaning f.grammar.now) (g.G.Grammar.shown f.grammar.now) f.rules.now f.next f.own f.gathers in
    let inside : c.loop-rule.rule-index < length f.rules.now = omega arith in
    All-get_or (Named f.span.cells) f.rules.now c.loop-rule.rule-index _ inside named
