-- What a derivation is: of a word, and of entries. Assumes nothing.
use Rattle.std.specs.Prelude.{◌≡◌, ℕ, ◌+◌, ◌/◌, ◌%◌, ◌^◌, Bool, true, List, [], ◌∷◌, ◌++◌, Some, ◌==◌}
use Rattle.grammar.specs.declared.rule.Rule.{Rule}
use Rattle.grammar.specs.declared.rule.Expansion.TheVariants.{Pair, Leaf}
use Rattle.grammar.specs.Grammars.{Meaning}

-- a tree of rule numbers
pub data Tree : Type 0 where
  leaf : ℕ → Tree
  node : ℕ → Tree → Tree → Tree

-- how many leaves a tree has
abbrev pub leaves : Tree → ℕ
leaves (leaf i) = 1
leaves (node i l r) = leaves l + leaves r

-- a leaf rule from A to a code
abbrev pub leaf_rule : ℕ → ℕ → ℕ → ℕ → Rule
leaf_rule A code cost bottom = record { lhs = A; expansion = Leaf code; cost = cost; bottom = bottom }

-- a pair rule from A to a left and a right nonterminal
abbrev pub pair_rule : ℕ → ℕ → ℕ → ℕ → ℕ → Rule
pair_rule A left right cost bottom = record { lhs = A; expansion = Pair left right; cost = cost; bottom = bottom }

-- the word is one code, and rule i is a leaf rule from A to it
pub record ByLeaf (m : Meaning) (A : ℕ) (w : List ℕ) (i : ℕ) : Type 0 where
  pub code : ℕ
  pub cost : ℕ
  pub bottom : ℕ
  pub rule : m.rule i ≡ Some (leaf_rule A code cost bottom)
  pub word : w ≡ code ∷ []

-- rule i is a pair rule from A; a first part of the word comes from its left nonterminal, the rest from its right
pub record ByPair (m : Meaning) (A : ℕ) (w : List ℕ) (i : ℕ) (Left Right : ℕ → List ℕ → Type 0) : Type 0 where
  pub left : ℕ
  pub right : ℕ
  pub cost : ℕ
  pub bottom : ℕ
  pub first : List ℕ
  pub rest : List ℕ
  pub rule : m.rule i ≡ Some (pair_rule A left right cost bottom)
  pub word : w ≡ first ++ rest
  pub on_left : Left left first
  pub on_right : Right right rest

-- the tree is a derivation of the word w from the nonterminal A
abbrev pub Derives : Meaning → ℕ → List ℕ → Tree → Type 0
Derives m A w (leaf i) = ByLeaf m A w i
Derives m A w (node i l r) = ByPair m A w i (λ B u. Derives m B u l) (λ C v. Derives m C v r)

-- the tree is a derivation of the word w from some start
pub record FromStarts (m : Meaning) (w : List ℕ) (t : Tree) : Type 0 where
  pub from : ℕ
  pub start : m.start from ≡ true
  pub derives : Derives m from w t

-- an entry is a set of codes, given as bits: code c is in it where bit c is set
unfoldable pub has : ℕ → ℕ → Bool
has entry c = entry / 2 ^ c % 2 == 1

-- the word fits the entries: as many codes as entries, each in its entry
abbrev pub Fits : List ℕ → List ℕ → Type 0
Fits [] [] = Unit {0}
Fits [] (e ∷ es) = ⊥
Fits (c ∷ w) [] = ⊥
Fits (c ∷ w) (e ∷ es) = (has e c ≡ true) × Fits w es

-- the tree is a derivation of the entries es from A: one of a word that fits them
pub record DerivesEntries (m : Meaning) (A : ℕ) (es : List ℕ) (t : Tree) : Type 0 where
  pub word : List ℕ
  pub fits : Fits word es
  pub derives : Derives m A word t

-- the tree is a derivation of the entries es from some start
pub record EntriesFromStarts (m : Meaning) (es : List ℕ) (t : Tree) : Type 0 where
  pub from : ℕ
  pub start : m.start from ≡ true
  pub derives : DerivesEntries m from es t
