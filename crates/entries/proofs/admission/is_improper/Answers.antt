use Rattle.std.proofs.Common.{◌^◌, ◌<◌, ◌≤◌, arith, pow_mono, rules}
use Rattle.entries.proofs.admission.is_improper.Goals as goal

-- with 32 codes or more, every bit is one of a code
pub returns-else-codes-lt32 : goal.returns-else-codes-lt32
returns-else-codes-lt32 c =
    let all : 32 ≤ c.args.codes = omega arith in
    let fits : c.args.bits < 2 ^ c.args.codes = omega (arith, pow_mono all) in
    search rules
