use Rattle.std.proofs.Common.{◌≡◌, ◌+◌, ◌-◌, length, Err, sym, refl, subst, arith, rules}
use Rattle.grammar.specs.Spans.{Stands}
use Rattle.grammar.specs.Totals.{by}
use Rattle.entries.specs.Model.{state, terms}
use Rattle.entries.proofs.Judging.{on_err}
use Rattle.entries.proofs.Listing.{size}
use Rattle.chart.specs.Cells.{cell_at}
use Rattle.chart.specs.Columns.{Column, Refilled}
use Rattle.chart.proofs.Fewer.{same_chart}
use Rattle.chart.proofs.Growing.{more_entries, one_more}
use Rattle.chart.proofs.Refills.{refilled_last}
use Rattle.chart.proofs.Standing.{stands_more}
use Rattle.chart.proofs.chart.Chart.append.Goals as goal

-- what is filled anew is the column of the new end
pub returns-clause-writes : goal.returns-clause-writes
returns-clause-writes g c =
    let e = c.args.self.now.entries in
    let f = c.append.new.self in
    let es = (state e).entries in
    let bits = c.args.bits in
    let xs = c.args.self.now.slots.cells.now in
    let ys = c.refill.new.self.cells.now in
    let w = by (g.W.Weighing.weight c.args.weighing.now) in
    let m = g.G.Grammar.meaning c.args.grammar.now in
    let refilled = Refilled g.S.Semiring.ring w m in
    let did = c.in_ok-append.ensures.did in
    let t = terms m e.nonterminals c.len-slots.result in
    let many = one_more t e f bits did in
    let old = size e in
    let last : c.len-last.result - 1 ≡ length es = omega (arith, c.len-last.ensures.count) in
    let past : (length f.list.items) + 1 ≡ length es + 2 = omega arith in
    subst (λ k. Column g.S.Semiring.ring w m bits 0 (k + 1) (k + 1) xs ys) old
    (refilled_last w m es bits xs ys
    (subst (λ l. refilled l (length es) (length es + 2) xs ys) (more_entries t e f bits did)
    (subst (λ k. refilled (state f).entries k (length es + 2) xs ys) last
    (subst (λ p. refilled (state f).entries (c.len-last.result - 1) p xs ys) past c.refill.ensures.filled))))

pub returns-clause-stands : goal.returns-clause-stands
returns-clause-stands g c before =
    let e = c.args.self.now.entries in
    let ring = g.S.Semiring.ring in
    let w = by (g.W.Weighing.weight c.args.weighing.now) in
    let m = g.G.Grammar.meaning c.args.grammar.now in
    let bits = c.args.bits in
    let xs = c.args.self.now.slots.cells.now in
    let ys = c.refill.new.self.cells.now in
    let column = subst (λ k. Column ring w m bits 0 (k + 1) (k + 1) xs ys) (sym (size e)) (returns-clause-writes g c) in
    subst (λ es. Stands ring w m es (cell_at ring m.nonterminals ys)) (sym (more_entries (terms m e.nonterminals c.len-slots.result) e c.append.new.self bits c.in_ok-append.ensures.did))
    (stands_more g.met.S.Semiring.laws w m (g.G.Grammar.shown c.args.grammar.now) (state e).entries bits xs ys column before)

pub returns-in_err-append-clause-writes : goal.returns-in_err-append-clause-writes
returns-in_err-append-clause-writes g c =
    let is : c.from_residual.result ≡ Err c.in_err-append.field-0.0 = search rules in
    on_err _ _ c.from_residual.result _ is (same_chart _ c.args.self.now refl c.in_err-append.ensures.added)
