use Rattle.std.proofs.Common.{Some, Ok, Err, arith}
use Rattle.std.proofs.lemmas.Grind.{common_steps}
use Rattle.commands.proofs.Turns.{reads}
use Rattle.commands.proofs.reader.Reader.next.Goals as goal

pub returns-in_default-clause-read : goal.returns-in_default-clause-read
returns-in_default-clause-read c = λ before h. reads c.args.self.now before h c.args.self.now (Err c.fault.result) (grind (arith, common_steps))

pub returns-in_default-after-clause-read : goal.returns-in_default-after-clause-read
returns-in_default-after-clause-read c = λ before h. reads c.args.self.now before h c.args.self.now (Err c.fault-in_default-after.result) (grind (arith, common_steps))

pub returns-clause-read : goal.returns-clause-read
returns-clause-read c = λ before h. reads c.args.self.now before h _ (Ok (Some c.in-Some.command)) (grind (arith, common_steps))
