-- The layers of a job's grammar are never refused, and how many nonterminals and codes it has. Assumes nothing.
use Rattle.std.proofs.Common.{◌≡◌, ℕ, ◌*◌, ◌≤◌, Bool, true, false, cond, ◌&&◌, leb, List, [], ◌∷◌, length, Some, None, Option, sym, refl, ap, ◌∙◌, subst, arith, ltb-false, le-ltb, le-leb}
use Rattle.std.proofs.lemmas.Nat.{mul-le}
use Rattle.std.proofs.lemmas.Bool.{and_parts}
use Rattle.grammar.specs.declared.refusal.Refusal.{Refusal}
use Rattle.grammar.specs.declared.refusal.Refusal.TheVariants.{FewerCodes, TooLarge}
use Rattle.grammar.specs.Grammars.{Meaning}
use Rattle.table.specs.Drafts.{sealed}
use Rattle.automata.specs.Machines.{Machine, Working}
use Rattle.automata.specs.Making.{if_refused, unless_in_range, table_refused, table_made, staying, written}
use Rattle.layers.specs.Ban.{ban}
use Rattle.layers.specs.Intersection.{blank, crossing, intersection, intersection_refused}
use Rattle.layers.specs.Renaming.{Recorder, Recording, renamed}
use Rattle.commands.specs.declared.command.Command.{Command}
use Rattle.commands.specs.declared.command.Command.TheVariants.{Grammar, Pair, Leaf, Ban, Automaton, Step, Renaming, Reading, Entry, End}
use Rattle.job.specs.Describing.{Described, nothing, stack, recorded, or_else, codes_over, nonterminals_of, codes_of, refusal, taken, describe, Passes}
use Rattle.job.specs.Answers.{Renames, Stacks}

pub or_else_none : (a b : Option Refusal) → or_else a b ≡ None → (a ≡ None) × (b ≡ None)
or_else_none (Some why) b e = absurd (cc)
or_else_none None b e = (refl, e)

pub if_none : (b : Bool) (why : Refusal) → cond b (Some why) None ≡ None → b ≡ false
if_none true why e = cc
if_none false why e = refl

unless_none : (b : Bool) (why : Refusal) → cond b None (Some why) ≡ None → b ≡ true
unless_none true why e = refl
unless_none false why e = cc

-- the automaton has as many codes as the table
abbrev pub Wide : Described → Type 0
Wide d = d.table.codes ≤ d.machine.codes

-- the automaton that lets everything through
all_through : (t : ℕ) → leb 1 t ≡ true → leb t 32 ≡ true → (table_made 1 t 0 1).codes ≡ t
all_through t low high = (λ i. (if_refused (unless_in_range (low i && high i && true && true)) (staying 1 1 0 0) (staying 1 t 0 1)).codes)

wide_taken : (d : Described) (c : Command) → Wide d → refusal d c ≡ None → Wide (taken d c)
wide_taken d (Grammar n t start) w e =
    let one = and_parts (leb 1 n) _ (unless_none _ _ e) in
    let two = and_parts (leb n 32) _ one.1 in
    let three = and_parts (leb 1 t) _ two.1 in
    let four = and_parts (leb t 32) _ three.1 in
    omega (arith, all_through t three.0 four.0)
wide_taken d (Pair lhs left right cost) w e = w
wide_taken d (Leaf lhs code cost) w e = w
wide_taken d (Ban number) w e = w
wide_taken d (Automaton q k start accepting) w e =
    let p = or_else_none (table_refused q k start accepting) _ e in
    let h : d.table.codes ≤ k = ltb-false k d.table.codes (if_none _ _ p.1) in
    subst (λ o. d.table.codes ≤ (if_refused o (staying 1 1 0 0) (staying q k start accepting)).codes) (sym p.0) h
wide_taken d (Step from code to) w e = subst (λ o. d.table.codes ≤ (if_refused o d.machine (written from code to d.machine)).codes) (sym e) w
wide_taken d (Renaming count) w e = w
wide_taken d (Reading b a) w e = w
wide_taken d (Entry bits) w e = w
wide_taken d End w e = w

wide_all : (d : Described) (cs : List Command) → Wide d → Passes d cs → Wide (describe d cs)
wide_all d [] w p = w
wide_all d (c ∷ cs) w p = wide_all (taken d c) cs (wide_taken d c w p.0) p.1

pub wide : (cs : List Command) → Passes nothing cs → Wide (describe nothing cs)
wide cs p = wide_all nothing cs (omega arith) p

-- what every renaming shows, if there is one
abbrev pub Records : Option Recorder → Type 0
Records None = Unit {0}
Records (Some c) = Recording c

-- a description within the limits of its parts
pub record Small (d : Described) : Type 0 where
  pub few : d.table.nonterminals ≤ 32
  pub rules : length d.table.added ≤ 256
  pub works : Working d.machine
  pub records : Records d.recorder

module _ (k : Machine) (m : Meaning) (n : m.nonterminals ≤ 32) (b : m.bound ≤ 256) (q : k.states ≤ 8) (w : m.codes ≤ k.codes) where
  low : (crossing k m).bound ≤ 131072
  low = mul-le _ k.states 16384 8 (mul-le _ k.states 2048 8 (mul-le _ k.states 256 8 b q) q) q

  crosses : intersection_refused k m ≡ None
  crosses =
      let wide = le-ltb k.codes m.codes w in
      let few = le-leb (crossing k m).nonterminals 4096 (omega (arith, mul-le _ k.states 256 8 (mul-le _ k.states 32 8 n q) q)) in
      let bound = le-leb (crossing k m).bound 16777216 (omega (arith, low)) in
      (λ i. cond (wide i) (Some FewerCodes) (cond (few i && bound i) None (Some TooLarge)))

  crossed : intersection k m ≡ crossing k m
  crossed = ap (λ o. if_refused o blank (crossing k m)) crosses

  renames : (c : Option Recorder) → Records c → Renames c (intersection k m)
  renames None h = tt
  renames (Some c) h =
      let small : (crossing k m).bound * c.count ≤ 16777216 = omega (arith, mul-le _ c.count 131072 32 low h.few) in
      let fits = ap (λ x. leb (x.bound * c.count) 16777216) crossed ∙ le-leb _ 16777216 small in
      ap (λ t. cond t None (Some TooLarge)) fits

pub stacks : (d : Described) → Small d → Wide d → Stacks d
stacks d s w =
    let m = ban d.bans (sealed d.table) in
    record {
      crossed = crosses d.machine m s.few s.rules s.works.few w;
      renamed = renames d.machine m s.few s.rules s.works.few w d.recorder s.records;
    }

-- a renaming keeps the nonterminals, and has its own codes
sized : (c : Option Recorder) (m : Meaning) → Renames c m → ((recorded c m).nonterminals ≡ m.nonterminals) × ((recorded c m).codes ≡ codes_over c m.codes)
sized None m r = (refl, refl)
sized (Some c) m r =
    let is = ap (λ o. if_refused o blank (renamed c m)) r in
    (ap (λ x. x.nonterminals) is, ap (λ x. x.codes) is)

pub sizes : (d : Described) → Stacks d → ((stack d).nonterminals ≡ nonterminals_of d) × ((stack d).codes ≡ codes_of d)
sizes d s =
    let m = ban d.bans (sealed d.table) in
    let is : intersection d.machine m ≡ crossing d.machine m = ap (λ o. if_refused o blank (crossing d.machine m)) s.crossed in
    let r = sized d.recorder (intersection d.machine m) s.renamed in
    (r.0 ∙ ap (λ x. x.nonterminals) is, r.1 ∙ ap (λ x. codes_over d.recorder x.codes) is)
