use Rattle.runs.proofs.Marks.{no_terms, kept_entries}
use Rattle.runs.proofs.perform.settle.Goals as goal

pub returns-in-Some-clause-entries : goal.returns-in-Some-clause-entries
returns-in-Some-clause-entries g c = kept_entries c.keep.ensures.did

pub returns-in-Some-clause-own : goal.returns-in-Some-clause-own
returns-in-Some-clause-own g c = (c.keep.ensures.did no_terms).own
