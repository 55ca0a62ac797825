use Rattle.std.proofs.Common.{refl, ◌∙◌}
use Rattle.runs.proofs.Marks.{cleared_stands}
use Rattle.runs.proofs.run.Run.clear.Goals as goal

pub returns-clause-moved : goal.returns-clause-moved
returns-clause-moved g c =
    let begun = c.begin.ensures in
    let settled = c.settle.ensures in
    record {
      did = λ t. record { answered = refl; moved = (begun.did t).moved; own = (begun.did t).own ∙ settled.own };
      stands = λ weight m before. cleared_stands _ _ _ _ _ _ begun.did;
      same = begun.same ∙ settled.same;
      named = begun.named ∙ settled.named;
    }
