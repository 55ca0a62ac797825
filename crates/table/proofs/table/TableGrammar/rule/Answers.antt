use Rattle.std.proofs.Common.{map, ap, ◌∙◌, zero-add}
use Rattle.std.specs.Prelude.{slice_get}
use Rattle.table.specs.Tables.{as_added, rule_of}
use Rattle.table.specs.Laws.Shown.{row_means}
use Rattle.table.proofs.table.TableGrammar.rule.Goals as goal

pub returns : goal.returns
returns c =
    let t = c.args.self.now in
    c.row.ensures ∙ row_means t.shape.nonterminals t.shape.codes 0 t.rows.now c.args.number t.fine ∙ ap (λ k. rule_of k (slice_get (map as_added t.rows.now) c.args.number)) (zero-add c.args.number)
