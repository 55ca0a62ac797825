use Rattle.std.proofs.Common.{◌≡◌, ◌+◌, refl, arith, rules}
use Rattle.chart.specs.Gathers.{pushed}
use Rattle.chart.proofs.Gathering.{gathers_none, gathers_more}
use Rattle.chart.proofs.gathered.Gathered.of.Goals as goal

pub loop-init : goal.loop-init
loop-init g c = record { gathers = gathers_none (g.G.Grammar.meaning c.args.grammar.now) _ 0 c.new.ensures refl; next = refl }

pub loop-preserved : goal.loop-preserved
loop-preserved g c =
    let m = g.G.Grammar.meaning c.args.grammar.now in
    let before = c.loop.gathered in
    let after = c.take_next.new.self in
    let done : (after.rules.items ≡ pushed before.rules.items (m.rule before.next)) × (after.next ≡ before.next + 1) = search rules in
    record {
      gathers = gathers_more m before.rules.items after.rules.items before.next after.next done.0 done.1 (omega arith) c.loop.invariant.gathers;
      next = omega arith;
    }
