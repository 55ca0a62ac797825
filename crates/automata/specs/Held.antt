-- The automaton that each value stands for. Assumes nothing.
use Rattle.std.specs.Prelude.{ℕ, cond, ◌&&◌, List, [], Some, None, nat_lt, slice_index, slice_index_or}
use Rattle.grammar.specs.Derivations.{has}
use Rattle.automata.specs.declared.table.TableAutomaton.{TableAutomaton}
use Rattle.automata.specs.declared.counting.CountingAutomaton.{CountingAutomaton}
use Rattle.automata.specs.Machines.{Machine}
use Rattle.automata.specs.Making.{counting}

-- the automaton with these rows, one for each state, of 32 places each
abbrev pub table : ℕ → ℕ → ℕ → ℕ → List (List ℕ) → Machine
table states codes start accepting next = record {
  states = states;
  codes = codes;
  start = start;
  step = λ s c. cond (nat_lt s states && nat_lt c codes) (Some (slice_index (slice_index_or next s []) c)) None;
  accepts = λ s. nat_lt s states && has accepting s;
}

-- the automaton of a table automaton
abbrev pub table_machine : TableAutomaton → Machine
table_machine a = table a.states a.codes a.start a.accepting a.next

-- the automaton of a counting automaton
abbrev pub counting_machine : CountingAutomaton → Machine
counting_machine a = counting a.codes a.code a.most
