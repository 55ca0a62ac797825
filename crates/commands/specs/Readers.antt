-- What a reader of a job has read, and what reading one command more makes of it. Assumes nothing.
use Rattle.std.specs.Prelude.{◌≡◌, ℕ, ◌+◌, ◌<◌, ◌≤◌, Bool, true, false, ◌⊎◌, List, [], ◌∷◌, ◌++◌, length, drop, Some, None, Ok, Err, Option, Result, ◌==◌}
use Rattle.grammar.specs.declared.refusal.Refusal.TheVariants.{BadJob}
use Rattle.commands.specs.declared.command.Command.{Command}
use Rattle.commands.specs.declared.fault.Fault.{Fault}
use Rattle.commands.specs.declared.stage.Stage.{Stage}
use Rattle.commands.specs.declared.stage.Stage.TheVariants.{Declaring, Describing, Entries, Ended}
use Rattle.commands.specs.declared.reader.Reader.{Reader}
use Rattle.commands.specs.Format.{encode, encodes, Begins}
use Rattle.commands.specs.Order.{allowed, Ordered}
use Rattle.commands.specs.Jobs.{Job, FaultAt}
use Rattle.commands.specs.Stages.{next_stage, Stands}

-- the bytes that are still to be read
abbrev pub left : Reader → List ℕ
left r = drop r.place r.input.now

-- whether a job that has come to the stage is read to its end, at a place in an input of the length
abbrev pub ends_at : Stage → ℕ → ℕ → Bool
ends_at Declaring place long = false
ends_at (Describing automaton renaming) place long = false
ends_at Entries place long = false
ends_at Ended place long = place == long

-- whether the end was read and nothing follows it
abbrev pub is_finished : Reader → Bool
is_finished r = ends_at r.stage r.place (length r.input.now)

-- reading took the command c: the bytes begin with it, the stage lets it through, and the reader stands behind it
pub record Took (r s : Reader) (c : Command) : Type 0 where
  pub short : length r.input.now ≤ 4096
  pub rest : List ℕ
  pub begins : Begins (left r) c rest
  pub stage : next_stage r.stage c ≡ Some s.stage
  pub place : s.place ≡ r.place + length (encode c)
  pub same : s.input ≡ r.input

-- the end was read, and nothing follows it
pub record Finished (r s : Reader) : Type 0 where
  pub short : length r.input.now ≤ 4096
  pub ended : r.stage ≡ Ended
  pub whole : r.place ≡ length r.input.now
  pub same : s ≡ r

-- the reader is not finished, and the bytes begin with no command that its stage lets through
pub record Halted (r : Reader) : Type 0 where
  pub short : length r.input.now ≤ 4096
  pub stuck : (c : Command) (rest : List ℕ) → Begins (left r) c rest → next_stage r.stage c ≡ None
  pub unfinished : r.stage ≡ Ended → r.place < length r.input.now

-- reading stopped with a fault: the input is too long, or the reader is halted at its place
pub record Stopped (r s : Reader) (f : Fault) : Type 0 where
  pub same : s ≡ r
  pub refusal : f.refusal ≡ BadJob
  pub reason : ((4096 < length r.input.now) × (f.place ≡ 4096)) ⊎ (Halted r × (f.place ≡ r.place))

-- what reading on with r answers, and that r becomes s
abbrev pub Steps : Reader → Reader → Result (Option Command) Fault → Type 0
Steps r s (Ok (Some c)) = Took r s c
Steps r s (Ok None) = Finished r s
Steps r s (Err f) = Stopped r s f

-- the reader has read the commands `before`
pub record HasRead (r : Reader) (before : List Command) : Type 0 where
  pub split : r.input.now ≡ encodes before ++ left r
  pub place : r.place ≡ length (encodes before)
  pub ordered : Ordered [] before
  pub stage : Stands before r.stage

-- what that means for the job of which r has read `before`: a command that may come there, or all of a job was read, or this is where the input is faulted
abbrev pub Reads : Reader → Reader → List Command → Result (Option Command) Fault → Type 0
Reads r s before (Ok (Some c)) = (allowed before c ≡ true) × HasRead s (before ++ (c ∷ []))
Reads r s before (Ok None) = Job r.input.now before
Reads r s before (Err f) = (f.refusal ≡ BadJob) × FaultAt r.input.now f.place

-- what counting the commands answers
abbrev pub Counted : List ℕ → Result ℕ Fault → Type 0
Counted input (Ok n) = (cs : List Command) × Job input cs × (n ≡ length cs)
Counted input (Err f) = (f.refusal ≡ BadJob) × FaultAt input f.place
