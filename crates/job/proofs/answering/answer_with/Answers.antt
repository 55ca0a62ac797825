use Rattle.std.proofs.Common.{◌≡◌, ℕ, [], map, Some, None, Option, sym, refl, ap, ◌∙◌, inr, length, arith}
use Rattle.std.proofs.lemmas.Result.{err_from_is_err_and}
use Rattle.grammar.specs.declared.refusal.Refusal.{Refusal}
use Rattle.table.specs.Drafts.{fresh}
use Rattle.commands.specs.declared.command.Command.TheVariants.{Grammar}
use Rattle.commands.specs.Readers.{left}
use Rattle.job.specs.Appending.{appended}
use Rattle.job.specs.Held.{held}
use Rattle.job.specs.Loading.{input_of}
use Rattle.job.proofs.Arrivals.{reads, held_small}
use Rattle.job.proofs.Fitting.{few_entries}
use Rattle.job.proofs.answering.answer_with.Goals as goal

-- why a draft was refused
fresh_refusal : (o : Option Refusal) (room n t start : ℕ) → (fresh o room n t start).refusal ≡ o
fresh_refusal None room n t start = refl
fresh_refusal (Some why) room n t start = refl

pub returns-in-Some : goal.returns-in-Some
returns-in-Some c =
    let r = c.args.reader in
    inr (inr (record {
      short = c.requires.short;
      before = [];
      command = Grammar c.args.nonterminals c.args.codes c.args.start;
      rest = left r;
      split = c.requires.read.split;
      ordered = c.requires.read.ordered;
      passes = tt;
      refused = sym (fresh_refusal _ _ _ _ _) ∙ sym (ap (λ d. d.refusal) c.new-draft.ensures.draft) ∙ sym c.refusal.ensures ∙ c.in-Some.is;
      here = refl;
    }))

pub returns-in_err-load : goal.returns-in_err-load
returns-in_err-load c =
    let p = err_from_is_err_and c.from_residual.result c.from_residual.ensures.1 in
    rw (p.1, p.2) c.in_err-load.ensures

pub appends-calls-requires : goal.appends-calls-requires
appends-calls-requires c = omega (arith, few_entries _ _ c.in_ok-load.ensures, ap length c.as_slice.ensures)

pub returns : goal.returns
returns c =
    let d = c.load.new.description in
    reads (input_of c.args.reader) (held d) _ _ c.stack_report.result c.in_ok-load.ensures (held_small d) c.seal.ensures
    (c.as_slice-2.ensures ∙ c.appends-calls.ensures ∙ ap (map appended) c.as_slice.ensures)
    c.stack_report.ensures
