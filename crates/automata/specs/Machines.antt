-- What a deterministic automaton means, what every one must show, and where a word leads in it. Assumes nothing.
use Rattle.std.specs.Prelude.{◌≡◌, ℕ, ◌<◌, ◌≤◌, Bool, true, List, [], ◌∷◌, Some, None, Option}

-- the number Q of states, the number K of codes, the start state, the state that a step from a state on a code leads to, or none, and which states accept
pub record Machine : Type 0 where
  pub states : ℕ
  pub codes : ℕ
  pub start : ℕ
  pub step : ℕ → ℕ → Option ℕ
  pub accepts : ℕ → Bool

-- a step from s on c to t names only states below Q and a code below K
pub record Within (k : Machine) (s c t : ℕ) : Type 0 where
  pub from : s < k.states
  pub code : c < k.codes
  pub to : t < k.states

-- every step from a state below Q on a code below K exists
abbrev pub Total : Machine → Type 0
Total k = (s c : ℕ) → s < k.states → c < k.codes → (t : ℕ) × (k.step s c ≡ Some t)

-- what every automaton must show; nothing about words and layers uses `total`
pub record Working (k : Machine) : Type 0 where
  pub some : 1 ≤ k.states
  pub few : k.states ≤ 8
  pub readable : 1 ≤ k.codes
  pub coded : k.codes ≤ 32
  pub begins : k.start < k.states
  pub within : (s c t : ℕ) → k.step s c ≡ Some t → Within k s c t
  pub ends : (s : ℕ) → k.accepts s ≡ true → s < k.states
  pub total : Total k

-- one step on, from a state or from nowhere
abbrev pub onwards : Machine → Option ℕ → ℕ → Option ℕ
onwards k (Some s) c = k.step s c
onwards k None c = None

-- where a word, stepped code by code, leads
abbrev pub run : Machine → Option ℕ → List ℕ → Option ℕ
run k o [] = o
run k o (c ∷ w) = run k (onwards k o c) w

-- the word leads from p to r: every step on the way exists
abbrev pub Leads : Machine → ℕ → List ℕ → ℕ → Type 0
Leads k p w r = run k (Some p) w ≡ Some r

-- the word leads from the start to an accepting state
pub record Accepted (k : Machine) (w : List ℕ) : Type 0 where
  pub last : ℕ
  pub leads : Leads k k.start w last
  pub accepting : k.accepts last ≡ true
