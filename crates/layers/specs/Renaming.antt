-- A grammar over recorder codes, each of which is read as a code below or as nothing. Assumes nothing.
use Rattle.std.specs.Prelude.{◌≡◌, ℕ, ◌*◌, ◌/◌, ◌%◌, ◌<◌, ◌≤◌, cond, ◌&&◌, List, [], ◌∷◌, Some, None, Option, ◌==◌, nat_le, nat_lt}
use Rattle.grammar.specs.declared.rule.Rule.{Rule}
use Rattle.grammar.specs.declared.rule.Expansion.{Expansion}
use Rattle.grammar.specs.declared.rule.Expansion.TheVariants.{Pair, Leaf}
use Rattle.grammar.specs.declared.refusal.Refusal.{Refusal}
use Rattle.grammar.specs.declared.refusal.Refusal.TheVariants.{TooLarge}
use Rattle.grammar.specs.Grammars.{Meaning}
use Rattle.automata.specs.Making.{if_refused, unless_in_range}
use Rattle.layers.specs.Intersection.{is, blank}

-- the number T of recorder codes, and the code that each is read as, or nothing
pub record Recorder : Type 0 where
  pub count : ℕ
  pub read : ℕ → Option ℕ

-- what every recorder shows: 1 to 32 recorder codes, none beyond is read, and each is read as a code below 32
pub record Recording (k : Recorder) : Type 0 where
  pub some : 1 ≤ k.count
  pub few : k.count ≤ 32
  pub within : (b a : ℕ) → k.read b ≡ Some a → (b < k.count) × (a < 32)

-- each recorder code is read as nothing
abbrev pub unread : ℕ → Recorder
unread count = record { count = count; read = λ b. None }

-- 1 to 32 recorder codes
abbrev pub readings_refused : ℕ → Option Refusal
readings_refused count = unless_in_range (nat_le 1 count && nat_le count 32)

-- one refused in the making has one recorder code
abbrev pub readings_made : ℕ → Recorder
readings_made count = if_refused (readings_refused count) (unread 1) (unread count)

-- the recorder code b is read as a
abbrev pub reading : ℕ → ℕ → Recorder → Recorder
reading b a k = record { count = k.count; read = λ c. cond (c == b) (Some a) (k.read c) }

-- the recorder code below their number, the code below 32
abbrev pub read_refused : Recorder → ℕ → ℕ → Option Refusal
read_refused k b a = unless_in_range (nat_lt b k.count && nat_lt a 32)

-- the reading is written, unless that is refused
abbrev pub reading_to : ℕ → ℕ → Recorder → Recorder
reading_to b a k = if_refused (read_refused k b a) k (reading b a k)

-- the word w of recorder codes is read as the word v
abbrev pub ReadAs : Recorder → List ℕ → List ℕ → Type 0
ReadAs k [] [] = Unit {0}
ReadAs k [] (a ∷ v) = ⊥
ReadAs k (b ∷ w) [] = ⊥
ReadAs k (b ∷ w) (a ∷ v) = (k.read b ≡ Some a) × ReadAs k w v

-- a rule with the recorder code b: a pair rule exists at b = 0 only, a leaf rule to a code becomes one to b if b is read as that code
abbrev pub renamed_rule : Recorder → ℕ → Rule → Expansion → Option Rule
renamed_rule k b rule (Pair left right) = cond (b == 0) (Some (record { lhs = rule.lhs; expansion = Pair left right; cost = rule.cost; bottom = rule.bottom })) None
renamed_rule k b rule (Leaf code) = cond (is (k.read b) code) (Some (record { lhs = rule.lhs; expansion = Leaf b; cost = rule.cost; bottom = rule.bottom })) None

-- the same for what stands at a rule number below
abbrev pub renamed_any : Recorder → ℕ → Option Rule → Option Rule
renamed_any k b (Some rule) = renamed_rule k b rule rule.expansion
renamed_any k b None = None

-- the grammar over recorder codes; below rule i with the recorder code b has number i * T + b
abbrev pub renamed : Recorder → Meaning → Meaning
renamed k m = record {
  nonterminals = m.nonterminals;
  codes = k.count;
  bound = m.bound * k.count;
  rule = λ n. renamed_any k (n % k.count) (m.rule (n / k.count));
  start = m.start;
}

-- the test of laying
abbrev pub renaming_refused : Recorder → Meaning → Option Refusal
renaming_refused k m = cond (nat_le (m.bound * k.count) 16777216) None (Some TooLarge)

-- the layer: blank if it was refused
abbrev pub renaming : Recorder → Meaning → Meaning
renaming k m = if_refused (renaming_refused k m) blank (renamed k m)
