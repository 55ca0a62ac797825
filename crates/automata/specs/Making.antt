-- The two kinds of automata, as they are made and written. Assumes nothing.
use Rattle.std.specs.Prelude.{ℕ, ◌+◌, ◌/◌, ◌^◌, Bool, cond, ◌&&◌, Some, None, Option, ◌==◌, nat_le, nat_lt}
use Rattle.grammar.specs.declared.refusal.Refusal.{Refusal}
use Rattle.grammar.specs.declared.refusal.Refusal.TheVariants.{NumberOutOfRange}
use Rattle.grammar.specs.Derivations.{has}
use Rattle.automata.specs.Machines.{Machine}

-- x where something was refused, else y
abbrev pub if_refused : {A : Type 0} → Option Refusal → A → A → A
if_refused (Some why) x y = x
if_refused None x y = y

-- a number is out of range, unless the test came out true
abbrev pub unless_in_range : Bool → Option Refusal
unless_in_range in_range = cond in_range None (Some NumberOutOfRange)

-- counts the code c: the states are 0 to most; a step on c adds one up to most, on any other code it stays; only most accepts
abbrev pub counting : ℕ → ℕ → ℕ → Machine
counting codes c most = record {
  states = most + 1;
  codes = codes;
  start = 0;
  step = λ s d. cond (nat_le s most && nat_lt d codes) (Some (cond (d == c && nat_lt s most) (s + 1) s)) None;
  accepts = λ s. (s == most);
}

-- 1 to 32 codes, c below their number, most from 0 to 7
abbrev pub counting_refused : ℕ → ℕ → ℕ → Option Refusal
counting_refused codes c most = unless_in_range (nat_le 1 codes && nat_le codes 32 && nat_lt c codes && nat_le most 7)

-- one refused in the making has one code and counts it up to 0
abbrev pub counting_made : ℕ → ℕ → ℕ → Machine
counting_made codes c most = if_refused (counting_refused codes c most) (counting 1 0 0) (counting codes c most)

-- stays in each state; those whose bit is set in `accepting` accept
abbrev pub staying : ℕ → ℕ → ℕ → ℕ → Machine
staying states codes start accepting = record {
  states = states;
  codes = codes;
  start = start;
  step = λ s c. cond (nat_lt s states && nat_lt c codes) (Some s) None;
  accepts = λ s. nat_lt s states && has accepting s;
}

-- 1 to 8 states, 1 to 32 codes, the start below the number of states, and no bit from that number on
abbrev pub table_refused : ℕ → ℕ → ℕ → ℕ → Option Refusal
table_refused states codes start accepting =
    unless_in_range (nat_le 1 states && nat_le states 8 && nat_le 1 codes && nat_le codes 32 && nat_lt start states && accepting / 2 ^ states == 0)

-- one refused in the making has one state and one code, and accepts nothing
abbrev pub table_made : ℕ → ℕ → ℕ → ℕ → Machine
table_made states codes start accepting = if_refused (table_refused states codes start accepting) (staying 1 1 0 0) (staying states codes start accepting)

-- one step written
abbrev pub written : ℕ → ℕ → ℕ → Machine → Machine
written from code to k = record {
  states = k.states;
  codes = k.codes;
  start = k.start;
  step = λ s c. cond (s == from && c == code) (Some to) (k.step s c);
  accepts = k.accepts;
}

-- both states below the number of states, the code below that of codes
abbrev pub write_refused : Machine → ℕ → ℕ → ℕ → Option Refusal
write_refused k from code to = unless_in_range (nat_lt from k.states && nat_lt code k.codes && nat_lt to k.states)

-- the step is written, unless that is refused
abbrev pub written_to : ℕ → ℕ → ℕ → Machine → Machine
written_to from code to k = if_refused (write_refused k from code to) k (written from code to k)

-- what stands in each place of a state's row where each state stays: 0 for a state that the automaton lacks
abbrev pub stay_at : ℕ → ℕ → ℕ
stay_at states s = cond (nat_lt s states) s 0
