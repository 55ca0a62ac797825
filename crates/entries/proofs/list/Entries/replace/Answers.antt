use Rattle.std.proofs.Common.{◌≡◌, length, set, Ok, Err, sym, ap, ◌∙◌, subst, rules}
use Rattle.std.proofs.lemmas.List.{map-set}
use Rattle.entries.specs.declared.call.Call.TheVariants.{Replace}
use Rattle.entries.specs.Model.{state, bits_of, terms, verdict, replace_tests, does, Did}
use Rattle.entries.proofs.Judging.{accepted, refused, replace_verdict}
use Rattle.entries.proofs.Listing.{state_of}
use Rattle.entries.proofs.list.Entries.replace.Goals as goal

pub returns-clause-did : goal.returns-clause-did
returns-clause-did g c slots =
    let e = c.args.self.now in
    let f = c.put.new.self in
    let bits = c.args.bits in
    let k = c.args.k in
    let x = c.in_ok-entry.entry in
    let through = c.in_ok-entry.ensures in
    let t = terms (g.G.Grammar.meaning c.args.grammar.now) e.nonterminals slots in
    let admitted = through.admits slots in
    let said : verdict (replace_tests t (length e.list.items) e.trial k bits) ≡ Ok tt = search rules in
    let same : x.bits ≡ bits = admitted.1 in
    let here = map-set bits_of e.list.items k x ∙ ap (set (state e).entries k) same in
    let moved : state f ≡ does (state e) (Replace k bits) = state_of f c.put.ensures ∙ (λ i. record { entries = here i; trial = e.trial }) in
    accepted t e f (Replace k bits) (replace_verdict t e k bits (Ok tt) said) moved c.put.ensures.own_is

pub returns-in_err-entry-clause-did : goal.returns-in_err-entry-clause-did
returns-in_err-entry-clause-did g c slots =
    let e = c.args.self.now in
    let bits = c.args.bits in
    let k = c.args.k in
    let why = c.in_err-entry.field-0.0 in
    let t = terms (g.G.Grammar.meaning c.args.grammar.now) e.nonterminals slots in
    let admitted = c.in_err-entry.ensures.admits slots in
    let said : verdict (replace_tests t (length e.list.items) e.trial k bits) ≡ Err why = search rules in
    let is : c.from_residual.result ≡ Err why = search rules in
    subst (λ r. Did t e (Replace k bits) r e) (sym is) (refused t e (Replace k bits) why (replace_verdict t e k bits (Err why) said))
