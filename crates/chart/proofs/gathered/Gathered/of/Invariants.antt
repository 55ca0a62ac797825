use Rattle.std.proofs.Common.{◌≡◌}
use Rattle.chart.specs.Gathers.{Gathers}
use Rattle.chart.proofs.gathered.Gathered.of.Given as goal

abbrev pub invariant-loop : goal.invariant-loop
invariant-loop g l = record {
  gathers : Gathers (g.G.Grammar.meaning l.grammar) l.gathered.rules.items l.gathered.next;
  next : l.gathered.next ≡ l.counter;
}
