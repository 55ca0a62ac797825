-- A grammar with left and right exchanged in every pair rule. Assumes nothing.
use Rattle.std.specs.Prelude.{Some, None, Option}
use Rattle.grammar.specs.declared.rule.Rule.{Rule}
use Rattle.grammar.specs.declared.rule.Expansion.{Expansion}
use Rattle.grammar.specs.declared.rule.Expansion.TheVariants.{Pair, Leaf}
use Rattle.grammar.specs.Grammars.{Meaning}
use Rattle.grammar.specs.Derivations.{Tree, leaf, node}

-- left and right change places
abbrev pub swapped : Expansion → Expansion
swapped (Pair left right) = Pair right left
swapped (Leaf code) = Leaf code

-- the rule with its expansion swapped
abbrev pub turned : Rule → Rule
turned r = record { lhs = r.lhs; expansion = swapped r.expansion; cost = r.cost; bottom = r.bottom }

-- the same for what stands at a rule number
abbrev pub turned_any : Option Rule → Option Rule
turned_any (Some r) = Some (turned r)
turned_any None = None

-- every rule is turned
abbrev pub reversal : Meaning → Meaning
reversal m = record {
  nonterminals = m.nonterminals;
  codes = m.codes;
  bound = m.bound;
  rule = λ i. turned_any (m.rule i);
  start = m.start;
}

-- a tree with left and right exchanged at every node
abbrev pub mirror : Tree → Tree
mirror (leaf i) = leaf i
mirror (node i l r) = node i (mirror r) (mirror l)
