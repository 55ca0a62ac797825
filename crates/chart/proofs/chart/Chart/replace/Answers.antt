use Rattle.std.proofs.Common.{◌≡◌, ◌+◌, ◌<◌, ◌≤◌, length, set, Err, sym, refl, ap, ◌∙◌, subst, rules}
use Rattle.grammar.specs.Spans.{Stands}
use Rattle.grammar.specs.Totals.{by}
use Rattle.entries.specs.declared.call.Call.TheVariants.{Replace}
use Rattle.entries.specs.Model.{State, state, terms, Did}
use Rattle.entries.proofs.Judging.{did_move, on_err}
use Rattle.entries.proofs.Listing.{size}
use Rattle.chart.specs.Cells.{cell_at, Room}
use Rattle.chart.specs.Columns.{Refilled}
use Rattle.chart.proofs.Fewer.{same_chart}
use Rattle.chart.proofs.Growing.{same_many, room_at}
use Rattle.chart.proofs.Replacing.{stands_replaced}
use Rattle.chart.proofs.chart.Chart.replace.Goals as goal

pub refill-requires : goal.refill-requires
refill-requires g c =
    let t = c.args.self.now in
    let e = t.entries in
    let m = g.G.Grammar.meaning c.args.grammar.now in
    let slots = length t.slots.cells.now in
    let done = c.in_ok-replace.ensures in
    let many = same_many (terms m e.nonterminals slots) e c.replace.new.self c.args.k c.args.bits (done.did slots) in
    record {
      room = subst (λ k. Room m.nonterminals k slots) (sym many)
          (subst (λ n. Room n (length e.list.items) slots) (sym done.inside.0) (record { few = e.few; narrow = t.narrow; fits = t.room }));
      entry = subst (λ k. c.args.k < k) (sym many) done.inside.1;
    }

pub returns-clause-did : goal.returns-clause-did
returns-clause-did g c = c.in_ok-replace.ensures.did _

pub returns-clause-stands : goal.returns-clause-stands
returns-clause-stands g c before =
    let e = c.args.self.now.entries in
    let f = c.replace.new.self in
    let ring = g.S.Semiring.ring in
    let w = by (g.W.Weighing.weight c.args.weighing.now) in
    let m = g.G.Grammar.meaning c.args.grammar.now in
    let bits = c.args.bits in
    let k = c.args.k in
    let xs = c.args.self.now.slots.cells.now in
    let ys = c.refill.new.self.cells.now in
    let did = c.in_ok-replace.ensures.did (length xs) in
    let here : (state f).entries ≡ set (state e).entries k bits = ap (λ (s : State). s.entries) (did_move did) in
    let long : (length f.list.items) ≡ length (set (state e).entries k bits) = sym (size f) ∙ ap length here in
    let refilled = subst (λ n. Refilled ring w m (set (state e).entries k bits) k (n + 1) xs ys) long (subst (λ l. Refilled ring w m l k ((length f.list.items) + 1) xs ys) here c.refill.ensures.filled) in
    subst (λ es. Stands ring w m es (cell_at ring m.nonterminals ys)) (sym here)
    (stands_replaced g.met.S.Semiring.laws w m (g.G.Grammar.shown c.args.grammar.now) (state e).entries k bits xs ys refilled before)

pub returns-in_err-replace-clause-did : goal.returns-in_err-replace-clause-did
returns-in_err-replace-clause-did g c =
    let e = c.args.self.now.entries in
    let m = g.G.Grammar.meaning c.args.grammar.now in
    let slots = length c.args.self.now.slots.cells.now in
    let is : c.from_residual.result ≡ Err c.in_err-replace.field-0.0 = search rules in
    subst (λ r. Did (terms m e.nonterminals slots) e (Replace c.args.k c.args.bits) r c.replace.new.self) (sym is) (c.in_err-replace.ensures.did slots)

pub returns-in_err-replace-clause-writes : goal.returns-in_err-replace-clause-writes
returns-in_err-replace-clause-writes g c =
    let is : c.from_residual.result ≡ Err c.in_err-replace.field-0.0 = search rules in
    on_err _ _ c.from_residual.result _ is (same_chart _ c.args.self.now refl c.in_err-replace.ensures.inside)

pub invariant_of-self-2 : goal.invariant_of-self-2
invariant_of-self-2 g c =
    let t = c.args.self.now in
    let e = t.entries in
    let f = c.replace.new.self in
    let m = g.G.Grammar.meaning c.args.grammar.now in
    let slots = length t.slots.cells.now in
    let did = c.in_ok-replace.ensures.did slots in
    let many = same_many (terms m e.nonterminals slots) e f c.args.k c.args.bits did in
    record { room = room_at (sym many) (sym did.own) (sym c.refill.ensures.long) t.room; narrow = subst (λ n. n ≤ 4096) (sym did.own) t.narrow }
