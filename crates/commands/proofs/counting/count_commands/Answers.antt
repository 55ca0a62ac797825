use Rattle.std.proofs.Common.{[], ◌∷◌, ◌++◌, Ok, sym, ap, ◌∙◌, arith}
use Rattle.std.proofs.lemmas.List.{length_push}
use Rattle.commands.proofs.Turns.{read_one, same_input}
use Rattle.commands.proofs.counting.count_commands.Goals as goal

pub loop-count-preserved : goal.loop-count-preserved
loop-count-preserved c =
    let inv = c.loop-count.invariant in
    let one = read_one c.loop-count.reader c.next.new.self inv.1.0 c.in_ok-next.field-0 (sym c.if-is_some.ensures) (c.in_ok-next.ensures.read inv.1.0 inv.1.1) in
    (ap (λ i. i.now) (same_input c.loop-count.reader c.next.new.self (Ok c.in_ok-next.field-0) c.in_ok-next.ensures.step) ∙ inv.0, (inv.1.0 ++ (one.0 ∷ []), one.1, omega (arith, inv.1.2, length_push inv.1.0 one.0)))
