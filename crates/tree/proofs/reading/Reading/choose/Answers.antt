use Rattle.tree.proofs.Growing.{chose_of}
use Rattle.tree.proofs.reading.Reading.choose.Goals as goal

pub returns : goal.returns
returns g c = rw c.unwrap_or.ensures (chose_of _ _ _ _ _ _ _ (g.G.Grammar.shown c.args.self.now.grammar.now) c.first_rival.result c.first_rival.ensures c.first_entry.result c.first_entry.ensures)
