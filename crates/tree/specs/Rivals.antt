-- The choices at a node of a tree that attain its cell's cost: the rivals, and the first of them. Assumes nothing.
use Rattle.std.specs.Prelude.{◌≡◌, ℕ, ◌+◌, ◌<◌, ◌≤◌, true, List, Some, slice_index}
use Rattle.semiring.specs.declared.cost.Cost.{Cost}
use Rattle.semiring.specs.Costs.{cost}
use Rattle.grammar.specs.declared.rule.Expansion.{Expansion}
use Rattle.grammar.specs.declared.rule.Expansion.TheVariants.{Pair, Leaf}
use Rattle.grammar.specs.declared.rule.Rule.{Rule}
use Rattle.grammar.specs.Grammars.{Meaning}
use Rattle.grammar.specs.Derivations.{Tree, leaf, node, pair_rule, has}

-- a leaf rule of weight w to the code c attains the cost v of the span (begin, end): the span is one entry that has c, and w is v. Its cut k is the span's end
pub record LeafAttains (es : List ℕ) (w : Cost) (v begin end c k : ℕ) : Type 0 where
  pub one : begin + 1 ≡ end
  pub fits : has (slice_index es begin) c ≡ true
  pub costs : w.value ≡ v
  pub cut : k ≡ end

-- a pair rule of weight w to B and C, cut at k, attains the cost v of the span: v is its weight times the left cell times the right cell
pub record PairAttains (cell : ℕ → ℕ → ℕ → Cost) (w : Cost) (v begin end B C k : ℕ) : Type 0 where
  pub after : begin < k
  pub before : k < end
  pub costs : (cost.times w (cost.times (cell begin k B) (cell k end C))).value ≡ v

-- a rule of weight w with this expansion, cut at k, attains the cost v of the span
abbrev pub Attains : List ℕ → (ℕ → ℕ → ℕ → Cost) → Cost → ℕ → ℕ → ℕ → Expansion → ℕ → Type 0
Attains es cell w v begin end (Leaf c) = LeafAttains es w v begin end c
Attains es cell w v begin end (Pair B C) = PairAttains cell w v begin end B C

-- the rule at number i, cut at k, is a rival for the cell of A and the span (begin, end): it rewrites A and attains the cell's cost
pub record Rival (weigh : Rule → Cost) (m : Meaning) (es : List ℕ) (cell : ℕ → ℕ → ℕ → Cost) (begin end A i k : ℕ) : Type 0 where
  pub rule : Rule
  pub there : m.rule i ≡ Some rule
  pub from : rule.lhs ≡ A
  pub attains : Attains es cell (weigh rule) (cell begin end A).value begin end rule.expansion k

-- the first of the rivals R: the lowest rule number, then the smallest cut
pub record First (R : ℕ → ℕ → Type 0) (i k : ℕ) : Type 0 where
  pub lowest : (j h : ℕ) → R j h → i ≤ j
  pub smallest : (h : ℕ) → R i h → k ≤ h

-- rule i is a pair rule from A that cuts the span at k and has P there; the left part and the right part are as said of them
pub record AtNode (m : Meaning) (P : ℕ → ℕ → ℕ → ℕ → ℕ → Type 0) (begin end A i : ℕ) (Left Right : ℕ → ℕ → ℕ → Type 0) : Type 0 where
  pub left : ℕ
  pub right : ℕ
  pub cost : ℕ
  pub bottom : ℕ
  pub cut : ℕ
  pub rule : m.rule i ≡ Some (pair_rule A left right cost bottom)
  pub here : P begin end A i cut
  pub on_left : Left begin cut left
  pub on_right : Right cut end right

-- a tree over the span (begin, end) from A each of whose nodes, with its span, nonterminal, rule number and cut, has P
abbrev pub Built : Meaning → (ℕ → ℕ → ℕ → ℕ → ℕ → Type 0) → ℕ → ℕ → ℕ → Tree → Type 0
Built m P begin end A (leaf i) = P begin end A i end
Built m P begin end A (node i l r) = AtNode m P begin end A i (λ b e B. Built m P b e B l) (λ b e C. Built m P b e C r)

-- each node is a rival
abbrev pub ByRivals : (Rule → Cost) → Meaning → List ℕ → (ℕ → ℕ → ℕ → Cost) → ℕ → ℕ → ℕ → Tree → Type 0
ByRivals weigh m es cell = Built m (Rival weigh m es cell)

-- no rival stands before any node
abbrev pub ByFirst : (Rule → Cost) → Meaning → List ℕ → (ℕ → ℕ → ℕ → Cost) → ℕ → ℕ → ℕ → Tree → Type 0
ByFirst weigh m es cell = Built m (λ begin end A. First (Rival weigh m es cell begin end A))
