use Rattle.std.proofs.Common.{◌≡◌, length, get_or, Ok, sym, ap, ◌∙◌, subst, arith}
use Rattle.entries.specs.declared.call.Call.TheVariants.{Clear}
use Rattle.entries.specs.Model.{Terms, state, terms, step, answer, Did}
use Rattle.runs.specs.Runs.{answers}
use Rattle.runs.specs.Calls.{Performed}
use Rattle.runs.proofs.Lists.{run_more, answers_at, written, kept}
use Rattle.runs.proofs.run.Run.perform_all.Goals as goal

pub loop-i-preserved : goal.loop-i-preserved
loop-i-preserved g c =
    let i = c.loop-i.i in
    let cs = c.args.calls.now in
    let call = get_or cs i Clear in
    let old = c.loop-i.answers in
    let inv = c.loop-i.invariant in
    let first = c.args.self.now.chart.now in
    let here = c.loop-i.self.chart.now in
    let t : Terms = terms (g.G.Grammar.meaning c.args.self.now.grammar.now) first.entries.nonterminals (length first.slots.cells.now) in
    let performed = subst (λ n. Performed g.S.Semiring.ring (g.W.Weighing.weight c.args.self.now.weighing.now) (g.G.Grammar.meaning n.now) call c.perform_at.result here c.perform_at.new.self.chart.now) inv.shown.grammar
    (subst (λ n. Performed g.S.Semiring.ring (g.W.Weighing.weight n.now) (g.G.Grammar.meaning c.loop-i.self.grammar.now) call c.perform_at.result here c.perform_at.new.self.chart.now) inv.shown.weighing c.perform_at.ensures.performed) in
    let same : terms (g.G.Grammar.meaning c.args.self.now.grammar.now) here.entries.nonterminals (length here.slots.cells.now) ≡ t = cc (inv.slots.own, inv.slots.long) in
    let did = subst (λ t. Did t here.entries call c.perform_at.result c.perform_at.new.self.chart.now.entries) same performed.did in
    let all = answers t (state first.entries) cs in
    let said : c.perform_at.result ≡ get_or all i (Ok tt) = did.answered ∙ ap (λ x. answer t x call) inv.after ∙ sym (answers_at t (state first.entries) cs i Clear c.loop-i-test.true) in
    let wrote = c.perform_at.ensures in
    record {
      after = did.moved ∙ ap (λ x. step t x call) inv.after ∙ sym (run_more t (state first.entries) cs i Clear c.loop-i-test.true);
      answered = written all old c.perform_at.new.answers i wrote.rest _ inv.answered (λ room. wrote.there (omega arith) ∙ said);
      beyond = kept all old c.perform_at.new.answers i wrote.rest _ inv.beyond;
      stands = λ before. performed.stands (inv.stands before);
      slots = record { own = performed.slots.own ∙ inv.slots.own; long = performed.slots.long ∙ inv.slots.long; named = performed.slots.named ∙ inv.slots.named };
      lent = c.perform_at.ensures.lent ∙ inv.lent;
      shown = record { grammar = c.perform_at.ensures.shown.grammar ∙ inv.shown.grammar; weighing = c.perform_at.ensures.shown.weighing ∙ inv.shown.weighing };
    }
