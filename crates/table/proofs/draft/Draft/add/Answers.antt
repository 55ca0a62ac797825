use Rattle.std.proofs.Common.{◌+◌, ◌≤◌, map, length, take, set, sym, ap, ◌∙◌, arith, length-set, rules}
use Rattle.table.specs.Tables.{Added, numbered, as_added, all_fine}
use Rattle.table.specs.Drafts.{contents}
use Rattle.table.proofs.Adding.{count_is, added_more, fine_more, accepted}
use Rattle.table.proofs.draft.Draft.add.Goals as goal

pub write-requires-clause-fine : goal.write-requires-clause-fine
write-requires-clause-fine c =
    let s = c.args.self.now in
    let a : Added = record { lhs = c.args.lhs; expansion = c.args.expansion; cost = c.args.cost } in
    let yes = accepted (contents s) c.args.lhs c.args.expansion c.in_ok-number.number c.in_ok-number.ensures in
    let is = count_is s.rows.now s.count s.room in
    let cheap : c.args.cost ≤ 65535 = omega arith in
    let rule = c.rule_at.ensures ∙ ap (λ k. numbered k a) (yes.is ∙ is) in
    ap (λ r. all_fine s.shape.nonterminals s.shape.codes 0 (take (s.count + 1) (set s.rows.now s.count r))) rule
    ∙ fine_more s.rows.now s.count a (omega (arith, yes.inside)) s.shape.nonterminals s.shape.codes s.fine yes.declared cheap

pub returns : goal.returns
returns c =
    let s = c.args.self.now in
    let a : Added = record { lhs = c.args.lhs; expansion = c.args.expansion; cost = c.args.cost } in
    let yes = accepted (contents s) c.args.lhs c.args.expansion c.in_ok-number.number c.in_ok-number.ensures in
    let is = count_is s.rows.now s.count s.room in
    let wrote = c.write.ensures in
    let rows = wrote.rows ∙ ap (set s.rows.now s.count) (c.rule_at.ensures ∙ ap (λ k. numbered k a) (yes.is ∙ is)) in
    let more = (λ i. map as_added (take (wrote.count i) (rows i))) ∙ added_more s.rows.now s.count a (omega (arith, yes.inside)) in
    let long = ap length rows ∙ length-set s.rows.now s.count (numbered s.count a) in
    record {
      number = c.in_ok-number.ensures;
      draft = λ i. record { refusal = wrote.same.0 i; nonterminals = (wrote.same.1 i).nonterminals; codes = (wrote.same.1 i).codes; start = (wrote.same.1 i).start; added = more i; room = long i };
      rows = rows ∙ ap (λ k. set s.rows.now k (numbered k a)) (sym (yes.is ∙ is));
      lent = search rules;
    }
