use Rattle.std.proofs.Common.{◌^◌, ◌<◌, ◌≤◌, eqb, sym, ap, ◌∙◌, arith, pow_mono, le-ltb, ◌%◌}
use native.Mathlib.Nat.{div-eq_of_lt}
use Rattle.grammar.specs.Derivations.{has}
use Rattle.entries.proofs.entry.Entry.has.Goals as goal

-- no code from 32 on is in a set of 32 bits
pub returns-else-code-lt32 : goal.returns-else-code-lt32
unfolding has
returns-else-code-lt32 c =
    let above : 32 ≤ c.args.code = omega arith in
    let small : c.args.self.bits < 2 ^ c.args.code = omega (arith, c.args.self.fits, pow_mono above) in
    le-ltb _ _ above ∙ sym (ap (λ q. eqb (q % 2) 1) (div-eq_of_lt small))
