use Rattle.std.proofs.Common.{sym, ◌∙◌}
use Rattle.layers.specs.Held.{recorder}
use Rattle.layers.specs.Laws.Renamed.{recording}
use Rattle.layers.proofs.Renamings.{renaming_matches}
use Rattle.layers.proofs.renaming.Renaming.lay.Goals as goal

pub returns-clause-matches : goal.returns-clause-matches
returns-clause-matches g c = λ e.
    renaming_matches (recorder c.args.readings) (g.G.Grammar.meaning c.args.below) (recording c.args.readings) (sym c.refused-why.ensures ∙ e)
