-- What the commands of a job describe: why each is refused, and what one that is accepted adds. Assumes nothing.
use Rattle.std.specs.Prelude.{◌≡◌, ℕ, ◌*◌, cond, List, [], ◌∷◌, ◌++◌, length, Some, None, Ok, Option, Result, nat_lt, OnErr}
use Rattle.grammar.specs.declared.refusal.Refusal.{Refusal}
use Rattle.grammar.specs.declared.refusal.Refusal.TheVariants.{FewerCodes, BadEntry, NoRoom}
use Rattle.grammar.specs.Refusals.{accepted_unless}
use Rattle.grammar.specs.declared.rule.Expansion.{Expansion}
use Rattle.grammar.specs.declared.rule.Expansion.TheVariants.{Pair as IntoPair, Leaf as IntoLeaf}
use Rattle.grammar.specs.Grammars.{Meaning}
use Rattle.table.specs.Drafts.{Drafted, fresh, out_of_range, refusal_of, with_added, sealed}
use Rattle.automata.specs.Machines.{Machine}
use Rattle.automata.specs.Making.{table_refused, table_made, write_refused, written_to}
use Rattle.layers.specs.Ban.{add_refused, added, ban}
use Rattle.layers.specs.Intersection.{intersection}
use Rattle.layers.specs.Renaming.{Recorder, readings_refused, readings_made, read_refused, reading_to, renaming}
use Rattle.entries.specs.Spans.{full}
use Rattle.entries.specs.Model.{improper}
use Rattle.commands.specs.declared.command.Command.{Command}
use Rattle.commands.specs.declared.command.Command.TheVariants.{Grammar, Pair, Leaf, Ban, Automaton, Step, Renaming, Reading, Entry, End}

-- what a job describes: the rules of its table, the banned numbers, the automaton, how recorder codes are read, if there is a renaming, and the entries
pub record Described : Type 0 where
  pub table : Drafted
  pub bans : List ℕ
  pub machine : Machine
  pub recorder : Option Recorder
  pub entries : List ℕ

-- a table of n nonterminals, t codes and a start, with 256 rows; until there is another, the automaton has one state, which accepts, and as many codes as the table
abbrev pub declared : ℕ → ℕ → ℕ → Described
declared n t start = record { table = fresh None 256 n t start; bans = []; machine = table_made 1 t 0 1; recorder = None; entries = [] }

-- before a grammar is declared: a table of one nonterminal and one code, without rules
abbrev pub nothing : Described
nothing = declared 1 1 0

-- the renaming of a grammar, if there is one
abbrev pub recorded : Option Recorder → Meaning → Meaning
recorded None m = m
recorded (Some c) m = renaming c m

-- the layers over a table: the renaming, if there is one, over the intersection over the ban
abbrev pub stacked : List ℕ → Machine → Option Recorder → Meaning → Meaning
stacked ns k c m = recorded c (intersection k (ban ns m))

-- the grammar of the job
abbrev pub stack : Described → Meaning
stack d = stacked d.bans d.machine d.recorder (sealed d.table)

-- the first refusal, or else the second
abbrev pub or_else : Option Refusal → Option Refusal → Option Refusal
or_else (Some why) o = Some why
or_else None o = o

-- the number of codes of a renaming, if there is one, or else t
abbrev pub codes_over : Option Recorder → ℕ → ℕ
codes_over None t = t
codes_over (Some k) t = k.count

-- how many nonterminals the job's grammar has: N times Q times Q
abbrev pub nonterminals_of : Described → ℕ
nonterminals_of d = d.table.nonterminals * d.machine.states * d.machine.states

-- how many codes the job's grammar has: those of the renaming, if there is one, or else those of the table
abbrev pub codes_of : Described → ℕ
codes_of d = codes_over d.recorder d.table.codes

-- an automaton is out of range; then it has fewer codes than the table's t
abbrev pub automaton_refusal : ℕ → ℕ → ℕ → ℕ → ℕ → Option Refusal
automaton_refusal t q k start accepting = or_else (table_refused q k start accepting) (cond (nat_lt k t) (Some FewerCodes) None)

-- a reading is out of range
abbrev pub reading_refusal : Option Recorder → ℕ → ℕ → Option Refusal
reading_refusal None b a = None
reading_refusal (Some k) b a = read_refused k b a

-- an entry is empty, or has a code that the grammar of n nonterminals and t codes lacks; then it would be the 65th, or 4,096 slots are too few for it
abbrev pub entry_refusal : ℕ → ℕ → ℕ → ℕ → Option Refusal
entry_refusal n t count bits = or_else (cond (improper bits t) (Some BadEntry) None) (cond (full count n 4096) (Some NoRoom) None)

-- a rule names what is not declared; then there is no row for it
abbrev pub rule_refusal : Drafted → ℕ → Expansion → Option Refusal
rule_refusal t lhs expansion = refusal_of t.nonterminals t.codes (length t.added) t.room lhs expansion

-- why a command is refused, or none
abbrev pub refusal : Described → Command → Option Refusal
refusal d (Grammar n t start) = out_of_range n t start
refusal d (Pair lhs left right cost) = rule_refusal d.table lhs (IntoPair left right)
refusal d (Leaf lhs code cost) = rule_refusal d.table lhs (IntoLeaf code)
refusal d (Ban number) = add_refused d.bans
refusal d (Automaton q k start accepting) = automaton_refusal d.table.codes q k start accepting
refusal d (Step from code to) = write_refused d.machine from code to
refusal d (Renaming count) = readings_refused count
refusal d (Reading b a) = reading_refusal d.recorder b a
refusal d (Entry bits) = entry_refusal (nonterminals_of d) (codes_of d) (length d.entries) bits
refusal d End = None

-- what a reading makes of a renaming, if there is one
abbrev pub with_reading : ℕ → ℕ → Option Recorder → Option Recorder
with_reading b a None = None
with_reading b a (Some k) = Some (reading_to b a k)

-- one rule more
abbrev pub with_rule : Drafted → ℕ → Expansion → ℕ → Drafted
with_rule t lhs expansion cost = with_added t (record { lhs = lhs; expansion = expansion; cost = cost }) (Ok (length t.added))

-- what an accepted command makes of the description
abbrev pub taken : Described → Command → Described
taken d (Grammar n t start) = declared n t start
taken d (Pair lhs left right cost) = record d { table = with_rule d.table lhs (IntoPair left right) cost }
taken d (Leaf lhs code cost) = record d { table = with_rule d.table lhs (IntoLeaf code) cost }
taken d (Ban number) = record d { bans = added number d.bans }
taken d (Automaton q k start accepting) = record d { machine = table_made q k start accepting }
taken d (Step from code to) = record d { machine = written_to from code to d.machine }
taken d (Renaming count) = record d { recorder = Some (readings_made count) }
taken d (Reading b a) = record d { recorder = with_reading b a d.recorder }
taken d (Entry bits) = record d { entries = d.entries ++ (bits ∷ []) }
taken d End = d

-- taking a command answers that it is accepted, or why it is refused; where it is accepted, d becomes what it makes of d, and where not, d stays
pub record Taking (d : Described) (c : Command) (answer : Result (Unit {0}) Refusal) (e : Described) : Type 0 where
  pub refusal : answer ≡ accepted_unless (refusal d c)
  pub after : answer ≡ Ok tt → e ≡ taken d c
  pub same : OnErr answer (e ≡ d)

-- what commands make of the description, one after another
abbrev pub describe : Described → List Command → Described
describe d [] = d
describe d (c ∷ cs) = describe (taken d c) cs

-- a command that comes after the grammar is declared
abbrev pub Later : Command → Type 0
Later (Grammar n t start) = ⊥
Later (Pair lhs left right cost) = Unit {0}
Later (Leaf lhs code cost) = Unit {0}
Later (Ban number) = Unit {0}
Later (Automaton q k start accepting) = Unit {0}
Later (Step from code to) = Unit {0}
Later (Renaming count) = Unit {0}
Later (Reading b a) = Unit {0}
Later (Entry bits) = Unit {0}
Later End = Unit {0}

-- none of the commands is refused where it comes
abbrev pub Passes : Described → List Command → Type 0
Passes d [] = Unit {0}
Passes d (c ∷ cs) = (refusal d c ≡ None) × Passes (taken d c) cs
