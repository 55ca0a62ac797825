use Rattle.std.proofs.Common.{length, sym, ap, ◌∙◌, ap₂, subst, rules}
use Rattle.entries.specs.Model.{Terms, State, state, terms, empty}
use Rattle.runs.specs.Calls.{RanAnew}
use Rattle.runs.specs.Runs.{RanAll}
use Rattle.runs.proofs.Marks.{no_terms, cleared_mark, cleared_stands}
use Rattle.runs.proofs.calls.run_anew.Goals as goal

pub invariant_of-run : goal.invariant_of-run
invariant_of-run g c = record { marked = sym (cleared_mark c.begin.ensures.did) }

pub returns-clause-anew : goal.returns-clause-anew
returns-clause-anew g c =
    let m = g.G.Grammar.meaning c.args.grammar.now in
    let did = c.begin.ensures.did no_terms in
    let slots = c.perform_all.ensures.slots in
    let last = c.perform_all.new.self.chart.now in
    let same = ap₂ (terms m) did.own (ap length c.begin.ensures.same) in
    let Ran : Terms → State → Type 0 = λ t s. RanAll t s c.args.calls.now (state last.entries) c.args.answers.now c.perform_all.new.answers in
    let anew : RanAnew g.S.Semiring.ring (g.W.Weighing.weight c.args.weighing.now) m c.args.calls.now c.args.chart.now last c.args.answers.now c.perform_all.new.answers =
    record {
      ran = subst (λ t. Ran t empty) same (subst (Ran _) did.moved c.perform_all.ensures.ran);
      stands = c.perform_all.ensures.stands (cleared_stands _ _ _ _ _ _ c.begin.ensures.did);
      slots = record { own = slots.own ∙ did.own; long = slots.long ∙ ap length c.begin.ensures.same; named = slots.named ∙ c.begin.ensures.named };
    } in
    search rules
