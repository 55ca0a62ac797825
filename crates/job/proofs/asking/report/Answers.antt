use Rattle.std.proofs.Common.{take, sym, refl, ap, ◌∙◌, subst}
use Rattle.semiring.specs.YesNos.{yes_no}
use Rattle.job.specs.Reports.{accepted, UnitTotal, Drawn}
use Rattle.job.proofs.Drawing.{drawn}
use Rattle.job.proofs.Recognising.{read_by_cost}
use Rattle.job.proofs.asking.report.Goals as goal

pub returns : goal.returns
returns g c =
    let m = g.G.Grammar.meaning c.args.grammar.now in
    let es = accepted m 4096 c.args.calls.now in
    let new = c.ask-tree.new.records in
    let asked = c.ask-tree.ensures in
    record {
      read = subst (UnitTotal yes_no m es) (sym asked.read) (read_by_cost m (g.G.Grammar.shown c.args.grammar.now) es asked.few _ _ asked.cost refl);
      counts = asked.count;
      costs = asked.cost;
      nodes = subst (Drawn m es) (sym (c.first.ensures ∙ ap (λ k. take k new) c.unwrap_or.ensures)) (drawn m es _ new asked.few refl c.ask-tree.auto.records c.ask-tree.result.1 asked.tree);
    }
