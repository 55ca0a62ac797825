use Rattle.std.proofs.Common.{◌≡◌, ◌+◌, ◌-◌, ◌*◌, ◌≤◌, length, ◌∙◌, inl, inr, arith, rules}
use Rattle.std.proofs.lemmas.List.{length-take, length-drop}
use Rattle.chart.specs.Cells.{place}
use Rattle.chart.proofs.Places.{column_size, column_within}
use Rattle.chart.proofs.Wiped.{wiped_before, wiped_inside, wiped_after}
use Rattle.chart.proofs.column.Column.clear.Goals as goal

pub overflow_add-past : goal.overflow_add-past
overflow_add-past g c =
    let s = c.args.self.now.widest.span in
    let start : c.slot-first.result ≡ place s.cells 0 s.end 0 = cc in
    omega (arith, column_within s.cells c.args.self.now.upto s.end _ c.args.self.now.part c.requires)

pub offset_bounds-slots-first : goal.offset_bounds-slots-first
offset_bounds-slots-first g c =
    let s = c.args.self.now.widest.span in
    let start : c.slot-first.result ≡ place s.cells 0 s.end 0 = cc in
    let within : c.slot-first.result + c.args.self.now.upto * s.cells ≤ length c.args.slots.now =
    omega (arith, column_within s.cells c.args.self.now.upto s.end _ c.args.self.now.part c.requires) in
    search rules

pub slice_bounds-wipe-end : goal.slice_bounds-wipe-end
slice_bounds-wipe-end g c =
    let s = c.args.self.now.widest.span in
    let start : c.slot-first.result ≡ place s.cells 0 s.end 0 = cc in
    let within : c.slot-first.result + c.args.self.now.upto * s.cells ≤ length c.args.slots.now =
    omega (arith, column_within s.cells c.args.self.now.upto s.end _ c.args.self.now.part c.requires) in
    search rules

pub returns : goal.returns
returns g c =
    let s = c.args.self.now.widest.span in
    let xs = c.args.slots.now in
    let z = g.W.Value.Semiring.ring.zero in
    let a = c.slot-first.result in
    let k = a + c.args.self.now.upto * s.cells - a in
    let ys = c.wipe.new.slots in
    let start : a ≡ place s.cells 0 s.end 0 = cc in
    let size = column_size s.cells c.args.self.now.upto s.end in
    let within : a + k ≤ length xs = omega (arith, column_within s.cells c.args.self.now.upto s.end _ c.args.self.now.part c.requires) in
    let long : length ys ≡ k = c.wipe.auto.slots ∙ simp (length-take, length-drop) (omega arith) in
    record {
      kept = λ q at. elim at [
        | inl l ↦ wiped_before z xs ys a k within long q (omega arith)
        | inr l ↦ wiped_after z xs ys a k within long q (omega (arith, size))
      ];
      zeros = λ q l r. wiped_inside z xs ys a k within long c.wipe.ensures q (omega arith) (omega (arith, size));
    }
