use Rattle.std.proofs.Common.{◌≡◌, ◌+◌, ◌-◌, ◌<◌, ◌≤◌, length, get_or, ap, ◌∙◌, subst, arith}
use mathlib.Core.Path.{subst⁻¹}
use Rattle.std.proofs.lemmas.List.{get_or-take, get_or-drop}
use Rattle.grammar.specs.Totals.{by}
use Rattle.entries.specs.Model.{state, bits_of}
use Rattle.chart.specs.Cells.{Room}
use Rattle.chart.specs.Columns.{Refilled}
use Rattle.chart.proofs.Places.{room_before}
use Rattle.chart.proofs.Refills.{refilled_more}
use Rattle.chart.proofs.slots.Slots.refill_with.Goals as goal

pub fill-requires : goal.fill-requires
fill-requires g c =
    let m = g.G.Grammar.meaning c.args.grammar.now in
    let e = c.args.entries.now in
    let end = c.args.k + c.loop-i.i + 1 in
    let before : end ≤ (length e.list.items) = omega (arith, ap length c.all.ensures.items) in
    let room = room_before m.nonterminals end (length e.list.items) (length c.args.self.now.cells.now) before c.requires.room in
    record { room = subst⁻¹ (λ n. Room n end (length c.loop-i.slots)) c.nonterminals-cells.ensures (subst⁻¹ (Room m.nonterminals end) c.loop-i.auto.slots room) }

pub loop-i-preserved : goal.loop-i-preserved
loop-i-preserved g c =
    let m = g.G.Grammar.meaning c.args.grammar.now in
    let w = by (g.W.Weighing.weight c.args.weighing.now) in
    let all = c.all.result.now in
    let es = (state c.args.entries.now).entries in
    let k = c.args.k in
    let l = c.loop-i in
    let x = c.last-item.result in
    let inside : k + l.i < length all = omega arith in
    let here : k + l.i ≡ k + l.i + 1 - 1 = omega arith in
    let last : x.bits ≡ get_or es (k + l.i + 1 - 1) 0 = ap bits_of (c.last-item.is ∙ get_or-take _ _ l.i x (omega arith) ∙ get_or-drop k all l.i x) ∙ c.all.ensures.each (k + l.i) x inside ∙ ap (λ j. get_or es j 0) here in
    let next : k + l.i + 1 + 1 ≡ k + (l.i + 1) + 1 = omega arith in
    subst (λ past. Refilled g.S.Semiring.ring w m es k past c.args.self.now.cells.now c.fill.new.slots) next
    (refilled_more g.met.S.Semiring.laws w m (g.G.Grammar.shown c.args.grammar.now) es k c.args.self.now.cells.now (k + l.i + 1) x.bits l.slots c.fill.new.slots
    (omega arith) last l.invariant c.fill.ensures)
