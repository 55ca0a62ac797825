use Rattle.std.proofs.Common.{◌≡◌, length, IfOk, ap, ◌∙◌, subst}
use Rattle.semiring.specs.Counts.{count}
use Rattle.entries.specs.Model.{terms, state, empty}
use Rattle.runs.specs.Runs.{run}
use Rattle.job.specs.Reports.{accepted, UnitTotal}
use Rattle.job.proofs.asking.ask.Goals as goal

pub returns-clause-count : goal.returns-clause-count
returns-clause-count g c =
    let m = g.G.Grammar.meaning c.args.grammar.now in
    let calls = c.args.calls.now in
    let e = c.replay-total.new.chart.entries in
    let start = c.new-chart.ensures in
    let at : (state e).entries ≡ accepted m (length c.args.counts.now) calls =
    ap (λ s. s.entries) c.replay-total.ensures.after ∙ (λ i. (run (terms m (start.own i) (length (start.same i))) empty calls).entries) in
    let whole : UnitTotal count m (state e).entries c.in-Ok.count =
    subst (λ r. IfOk r (UnitTotal count m (state e).entries)) c.in-Ok.is c.replay-total.ensures.total in
    subst (λ es. UnitTotal count m es c.in-Ok.count) at whole
