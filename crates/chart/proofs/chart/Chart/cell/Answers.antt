use Rattle.std.proofs.Common.{length, sym, subst, arith}
use Rattle.chart.specs.Cells.{Room}
use Rattle.chart.proofs.Places.{room_before}
use Rattle.chart.proofs.chart.Chart.cell.Goals as goal

pub cell-requires : goal.cell-requires
cell-requires g c =
    let t = c.args.self.now in
    let e = t.entries in
    let slots = length t.slots.cells.now in
    record {
      room = subst (λ n. Room n c.args.end slots) (sym c.nonterminals-n.ensures)
          (room_before e.nonterminals c.args.end (length e.list.items) slots (omega arith) (record { few = e.few; narrow = t.narrow; fits = t.room }));
      named = omega arith;
    }
