use Rattle.std.proofs.Common.{◌≡◌, ℕ, ◌<◌, ◌≤◌, length, get_or, take, Ok}
use Rattle.entries.specs.Model.{state, terms}
use Rattle.chart.specs.Stands.{ChartStands}
use Rattle.runs.specs.Runs.{run, answers}
use Rattle.runs.specs.Calls.{SameSlots, SameShown}
use Rattle.runs.proofs.run.Run.perform_all.Given as goal

abbrev pub invariant-loop-i : goal.invariant-loop-i
invariant-loop-i g l =
    let before = l.initial.self in
    let m = g.G.Grammar.meaning before.grammar.now in
    let w = g.W.Weighing.weight before.weighing.now in
    let e = before.chart.now.entries in
    let xs = before.chart.now.slots.cells.now in
    let t = terms m e.nonterminals (length xs) in
    record {
      after : state l.self.chart.now.entries ≡ run t (state e) (take l.i l.calls);
      answered : (k : ℕ) → k < l.i → k < length l.initial.answers → get_or l.answers k (Ok tt) ≡ get_or (answers t (state e) l.calls) k (Ok tt);
      beyond : (k : ℕ) → l.i ≤ k → get_or l.answers k (Ok tt) ≡ get_or l.initial.answers k (Ok tt);
      stands : ChartStands g.S.Semiring.ring w m e xs → ChartStands g.S.Semiring.ring w m l.self.chart.now.entries l.self.chart.now.slots.cells.now;
      slots : SameSlots before.chart.now l.self.chart.now;
      lent : l.self.chart.ghost_name ≡ before.chart.ghost_name;
      shown : SameShown before l.self;
    }
