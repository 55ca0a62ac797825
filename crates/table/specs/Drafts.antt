-- What a draft holds, and what each call makes of it. Assumes nothing.
use Rattle.std.specs.Prelude.{ℕ, cond, ◌&&◌, List, [], ◌∷◌, ◌++◌, map, length, take, Some, None, Ok, Err, Option, Result, nat_le, nat_lt, slice_set}
use Rattle.grammar.specs.declared.refusal.Refusal.{Refusal}
use Rattle.grammar.specs.declared.refusal.Refusal.TheVariants.{GrammarOutOfRange, Undeclared, NoRow}
use Rattle.grammar.specs.declared.rule.Rule.{Rule}
use Rattle.grammar.specs.declared.rule.Expansion.{Expansion}
use Rattle.grammar.specs.Grammars.{Meaning}
use Rattle.table.specs.declared.draft.Draft.{Draft}
use Rattle.table.specs.declared.table.Table.{Table}
use Rattle.table.specs.Tables.{Added, numbered, as_added, is_declared, table_meaning}

-- a draft: why its making was refused, if it was; its counts and its start; the rules added so far; and for how many rules it has rows
pub record Drafted : Type 0 where
  pub refusal : Option Refusal
  pub nonterminals : ℕ
  pub codes : ℕ
  pub start : ℕ
  pub added : List Added
  pub room : ℕ

-- what a draft in memory holds: its first rows are the rules added
abbrev pub contents : Draft → Drafted
contents d = record {
  refusal = d.refusal;
  nonterminals = d.shape.nonterminals;
  codes = d.shape.codes;
  start = d.shape.start;
  added = map as_added (take d.count d.rows.now);
  room = length d.rows.now;
}

-- the counts are 1 to 32 and the start is a nonterminal, or why not
abbrev pub out_of_range : ℕ → ℕ → ℕ → Option Refusal
out_of_range n t start = cond (nat_le 1 n && (nat_le n 32 && (nat_le 1 t && (nat_le t 32 && nat_lt start n)))) None (Some GrammarOutOfRange)

-- a draft without rules, over so many rows; a refused one is the smallest
abbrev pub fresh : Option Refusal → ℕ → ℕ → ℕ → ℕ → Drafted
fresh None room n t start = record { refusal = None; nonterminals = n; codes = t; start = start; added = []; room = room }
fresh (Some why) room n t start = record { refusal = Some why; nonterminals = 1; codes = 1; start = 0; added = []; room = 0 }

-- the rows that a new draft is lent: those given, as they are; a refused one has none
abbrev pub lent_rows : Option Refusal → List Rule → List Rule
lent_rows None rows = rows
lent_rows (Some why) rows = []

-- the draft that is made over the rows
abbrev pub new_draft : List Rule → ℕ → ℕ → ℕ → Drafted
new_draft rows n t start = fresh (out_of_range n t start) (length rows) n t start

-- why a rule is refused, if it is: first it is tested that all it names is declared, then that there is a row for it and that it is not the 257th
abbrev pub refusal_of : ℕ → ℕ → ℕ → ℕ → ℕ → Expansion → Option Refusal
refusal_of n t count room lhs expansion =
    cond (is_declared n t lhs expansion)
    (cond (nat_lt count room && nat_lt count 256) None (Some NoRow))
    (Some Undeclared)

-- the refusal, or the number
abbrev pub number_unless : Option Refusal → ℕ → Result ℕ Refusal
number_unless None i = Ok i
number_unless (Some why) i = Err why

-- what adding a rule answers: its number, which is how many came before, unless it is refused
abbrev pub answer : Drafted → ℕ → Expansion → Result ℕ Refusal
answer d lhs expansion = number_unless (refusal_of d.nonterminals d.codes (length d.added) d.room lhs expansion) (length d.added)

-- the draft after that answer: one rule more, or the same
abbrev pub with_added : Drafted → Added → Result ℕ Refusal → Drafted
with_added d a (Ok i) = record { refusal = d.refusal; nonterminals = d.nonterminals; codes = d.codes; start = d.start; added = d.added ++ (a ∷ []); room = d.room }
with_added d a (Err why) = d

-- the lent rows after that answer: the row of the new rule is written and no other, or all are as they were
abbrev pub written : List Rule → Added → Result ℕ Refusal → List Rule
written rows a (Ok i) = slice_set rows i (numbered i a)
written rows a (Err why) = rows

-- the grammar that a draft is sealed into
abbrev pub sealed : Drafted → Meaning
sealed d = table_meaning d.nonterminals d.codes d.start d.added

-- the grammar that a sealed table is: its rows are the rules added
abbrev pub grammar_of : Table → Meaning
grammar_of g = table_meaning g.shape.nonterminals g.shape.codes g.shape.start (map as_added g.rows.now)
