use Rattle.std.proofs.Common.{sym, ◌∙◌}
use Rattle.layers.proofs.Crossings.{intersection_matches, intersection_passes}
use Rattle.layers.proofs.intersection.Intersection.lay.Goals as goal

pub returns-clause-matches : goal.returns-clause-matches
returns-clause-matches g c = λ e.
    intersection_matches (g.M.Automaton.machine c.args.automaton) (g.G.Grammar.meaning c.args.below) (g.M.Automaton.working c.args.automaton) (sym c.refused-why.ensures ∙ e)

pub returns-clause-passes : goal.returns-clause-passes
returns-clause-passes g c = λ e. intersection_passes (g.M.Automaton.machine c.args.automaton) (g.G.Grammar.meaning c.args.below) (sym c.refused-why.ensures ∙ e)
