-- What each layer lets through: which derivations of the grammar below match those of the layer. Assumes nothing.
use Rattle.std.specs.Prelude.{◌≡◌, ℕ, ◌/◌, ◌<◌, List, reverse, None}
use Rattle.semiring.specs.Semirings.{Operations, Commutes}
use Rattle.grammar.specs.Grammars.{Meaning}
use Rattle.grammar.specs.Derivations.{Derives, FromStarts}
use Rattle.automata.specs.Machines.{Machine, Working, Leads, Accepted}
use Rattle.layers.specs.Ban.{ban, Free}
use Rattle.layers.specs.Reversal.{reversal, mirror}
use Rattle.layers.specs.Intersection.{crossed, cube, intersection, intersection_refused}
use Rattle.layers.specs.Renaming.{Recorder, Recording, ReadAs, renaming, renaming_refused}
use Rattle.layers.specs.Matching.{Match, OneForOne, SameWeight, PassesThrough, divided}

-- ban: a word's derivations are those below without a banned number
pub record BanMatches (match : Match) (ns : List ℕ) (m above : Meaning) : Type 0 where
  pub from_each : (A : ℕ) (w : List ℕ) → match (Derives above A w) (λ t. Derives m A w t × Free ns t) (λ t. t)
  pub from_starts : (w : List ℕ) → match (FromStarts above w) (λ t. FromStarts m w t × Free ns t) (λ t. t)

-- intersection: dividing each number by Q cubed takes the derivations from (p, A, r) to those below from A if the word leads from p to r, and those from the starts to those from the starts below if the word is accepted
pub record IntersectionMatches (match : Match) (k : Machine) (m above : Meaning) : Type 0 where
  pub from_each : (A p r : ℕ) (w : List ℕ) → p < k.states → r < k.states
      → match (Derives above (crossed k.states A p r) w) (λ t. Derives m A w t × Leads k p w r) (divided (cube k.states))
  pub from_starts : (w : List ℕ) → match (FromStarts above w) (λ t. FromStarts m w t × Accepted k w) (divided (cube k.states))

-- the word w of recorder codes is read as a word of which P holds; where a code is read as nothing there is none
pub record WhenRead (c : Recorder) (w : List ℕ) (P : List ℕ → Type 0) : Type 0 where
  pub read : List ℕ
  pub reads : ReadAs c w read
  pub holds : P read

-- renaming: dividing each number by T takes a word's derivations to those below of the word as read
pub record RenamingMatches (match : Match) (c : Recorder) (m above : Meaning) : Type 0 where
  pub from_each : (A : ℕ) (w : List ℕ) → match (Derives above A w) (λ t. WhenRead c w (λ v. Derives m A v t)) (divided c.count)
  pub from_starts : (w : List ℕ) → match (FromStarts above w) (λ t. WhenRead c w (λ v. FromStarts m v t)) (divided c.count)

-- reversal: a word's derivations, mirrored, are those below of the reversed word
pub record ReversalMatches (match : Match) (m above : Meaning) : Type 0 where
  pub from_each : (A : ℕ) (w : List ℕ) → match (Derives above A w) (Derives m A (reverse w)) mirror
  pub from_starts : (w : List ℕ) → match (FromStarts above w) (FromStarts m (reverse w)) mirror

-- a whole stack, renaming over intersection over ban: the derivations at the bottom of the word as read, without a banned number, if the word as read leads from p to r, or is accepted
pub record StackMatches (match : Match) (ns : List ℕ) (k : Machine) (c : Recorder) (m above : Meaning) : Type 0 where
  pub from_each : (A p r : ℕ) (w : List ℕ) → p < k.states → r < k.states
      → match (Derives above (crossed k.states A p r) w) (λ t. WhenRead c w (λ v. Derives m A v t × Free ns t × Leads k p v r)) (λ t. divided (cube k.states) (divided c.count t))
  pub from_starts : (w : List ℕ)
      → match (FromStarts above w) (λ t. WhenRead c w (λ v. FromStarts m v t × Free ns t × Accepted k v)) (λ t. divided (cube k.states) (divided c.count t))

-- the layers of a stack were laid without refusal
pub record Laid (ns : List ℕ) (k : Machine) (c : Recorder) (m : Meaning) : Type 0 where
  pub working : Working k
  pub recording : Recording c
  pub crossed : intersection_refused k (ban ns m) ≡ None
  pub renamed : renaming_refused c (intersection k (ban ns m)) ≡ None

-- the theorems: each layer laid without refusal over any grammar m; `match above below` says what is shown of each match
pub record LayersMatch (match : Meaning → Meaning → Match) : Type 0 where
  pub bans : (ns : List ℕ) (m : Meaning) → BanMatches (match (ban ns m) m) ns m (ban ns m)
  pub intersections : (k : Machine) (m : Meaning) → Working k → intersection_refused k m ≡ None → IntersectionMatches (match (intersection k m) m) k m (intersection k m)
  pub renamings : (c : Recorder) (m : Meaning) → Recording c → renaming_refused c m ≡ None → RenamingMatches (match (renaming c m) m) c m (renaming c m)
  pub stacks : (ns : List ℕ) (k : Machine) (c : Recorder) (m : Meaning) → Laid ns k c m
      → StackMatches (match (renaming c (intersection k (ban ns m))) m) ns k c m (renaming c (intersection k (ban ns m)))

-- and reversal
abbrev pub ReversalsMatch : (Meaning → Meaning → Match) → Type 0
ReversalsMatch match = (m : Meaning) → ReversalMatches (match (reversal m) m) m (reversal m)

-- the derivations of every layer match one for one
pub record OneForOneAll : Type 0 where
  pub layers : LayersMatch (λ above below. OneForOne)
  pub reversals : ReversalsMatch (λ above below. OneForOne)

-- each weighs what its match weighs, by every weighing into S; across a reversal, where the product commutes
pub record SameWeightAll {S : Type 0} (s : Operations S) : Type 0 where
  pub layers : LayersMatch (SameWeight s)
  pub reversals : Commutes s → ReversalsMatch (SameWeight s)

-- cost and bottom number pass through each layer laid without refusal: the rule at n has those of the rule below at n, n / Q cubed or n / T
pub record PassesThroughAll : Type 0 where
  pub bans : (ns : List ℕ) (m : Meaning) → PassesThrough (ban ns m) m (λ n. n)
  pub intersections : (k : Machine) (m : Meaning) → intersection_refused k m ≡ None → PassesThrough (intersection k m) m (λ n. n / cube k.states)
  pub renamings : (c : Recorder) (m : Meaning) → renaming_refused c m ≡ None → PassesThrough (renaming c m) m (λ n. n / c.count)
  pub reversals : (m : Meaning) → PassesThrough (reversal m) m (λ n. n)
