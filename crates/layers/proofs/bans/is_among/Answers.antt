use Rattle.std.proofs.Common.{◌∙◌}
use Rattle.layers.proofs.Among.{any_among}
use Rattle.layers.proofs.bans.is_among.Goals as goal

pub returns : goal.returns
returns c = c.contains.ensures.value ∙ any_among c.args.number c.args.numbers.now
