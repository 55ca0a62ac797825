use Rattle.chart.proofs.Fewer.{front_ghosts, front_stands}
use Rattle.chart.proofs.chart.Chart.keep.Goals as goal

pub returns-clause-stands : goal.returns-clause-stands
returns-clause-stands g c = λ w m. front_stands g.S.Semiring.ring w m _ _ _ c.keep.ensures.front

pub invariant_of-self : goal.invariant_of-self
invariant_of-self g c = let kept = front_ghosts c.args.self.now c.keep.new.self c.keep.ensures.front in record { room = kept.0; narrow = kept.1 }
