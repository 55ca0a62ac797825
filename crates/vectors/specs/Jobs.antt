-- The stored jobs: what a line of them holds, and when an answer is right. Assumes nothing.
use Rattle.std.specs.Prelude.{◌≡◌, ℕ, ◌+◌, cond, List, [], ◌∷◌, ◌++◌, map, vec_items, fold, ◌==◌}
use Rattle.job.specs.Answers.{Says}
use Rattle.vectors.specs.declared.stored.Stored.{Stored}
use Rattle.vectors.specs.Hex.{spelled}

-- how many line feeds a text has
abbrev pub line_feeds : List ℕ → ℕ
line_feeds text = fold (λ n b. n + cond (b == 10) 1 0) 0 text

-- a bar stands for a line feed
abbrev pub line_feed : ℕ → ℕ
line_feed b = cond (b == 124) 10 b

-- the text of lines with a bar between them
abbrev pub unbarred : List ℕ → List ℕ
unbarred barred = map line_feed barred ++ (10 ∷ [])

-- the line has the digits of the job, a tab, and the lines of the answer with a bar between them
pub record Holds (line : List ℕ) (s : Stored) : Type 0 where
  pub barred : List ℕ
  pub is : line ≡ spelled (vec_items s.job) ++ (9 ∷ barred)
  pub answer : vec_items s.answer ≡ unbarred barred

-- the stored answer is the text of an answer to the job
abbrev pub Right : Stored → Type 0
Right s = Says (vec_items s.job) (vec_items s.answer)

-- every stored answer is right
abbrev pub AllRight : List Stored → Type 0
AllRight [] = Unit {0}
AllRight (s ∷ ss) = Right s × AllRight ss
