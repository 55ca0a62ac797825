-- One command more is read. Assumes nothing.
use Rattle.std.proofs.Common.{◌≡◌, ℕ, ◌<◌, ◌≤◌, true, false, is_some, ◌⊎◌, List, [], ◌∷◌, ◌++◌, length, drop, Some, None, Ok, Err, Option, Result, sym, ap, ◌∙◌, subst, inl, inr, append_assoc, append-nil, arith, length-append, length-drop, drop_of_length-le}
use lib.Seq.{drop-append_seam}
use Rattle.std.proofs.lemmas.Bool.{both_ways, true≢false}
use Rattle.commands.specs.declared.command.Command.{Command}
use Rattle.commands.specs.declared.fault.Fault.{Fault}
use Rattle.commands.specs.declared.reader.Reader.{Reader}
use Rattle.commands.specs.declared.stage.Stage.{Stage}
use Rattle.commands.specs.declared.stage.Stage.TheVariants.{Ended}
use Rattle.commands.specs.Format.{encode, encodes, Begins}
use Rattle.commands.specs.Order.{allowed}
use Rattle.commands.specs.Jobs.{Ends, Job, Breaks, FaultAt}
use Rattle.commands.specs.Stages.{next_stage, Stands}
use Rattle.commands.specs.Readers.{left, Took, Finished, Halted, Stopped, Steps, HasRead, Reads}
use Rattle.commands.proofs.Stages.{goes_right, came}
use Rattle.commands.proofs.Unique.{encodes_push, ordered_push}

pub encode_some : (c : Command) → 0 < length (encode c)
encode_some c = grind arith

pub encodes_long : (cs : List Command) → length cs ≤ length (encodes cs)
encodes_long [] = omega arith
encodes_long (c ∷ cs) = omega (arith, encode_some c, encodes_long cs, length-append (encode c) (encodes cs))

-- after the end the stage is the last
pub ended_stage : (before : List Command) (s : Stage) → Stands before s → Ends before → s ≡ Ended
ended_stage before s h e = grind (arith, came before e)

-- what a stage lets through may come, and what it does not may not
let_through : (before : List Command) (s t : Stage) (c : Command) → Stands before s → next_stage s c ≡ Some t → (allowed before c ≡ true) × Stands (before ++ (c ∷ [])) t
let_through before s t c h e = rw e at (goes_right s c before h)

pub kept_out : (before : List Command) (s : Stage) (c : Command) → Stands before s → next_stage s c ≡ None → allowed before c ≡ false
kept_out before s c h e = rw e at (goes_right s c before h)

-- what follows is cut off behind one command more
cut : (input : List ℕ) (before : List Command) (place : ℕ) (c : Command) (rest : List ℕ) → input ≡ encodes before ++ drop place input → Begins (drop place input) c rest
    → input ≡ encodes (before ++ (c ∷ [])) ++ rest
cut input before place c rest split front =
    split ∙ ap (λ l. encodes before ++ l) front ∙ sym (append_assoc (encodes before) (encode c) rest) ∙ ap (λ l. l ++ rest) (sym (encodes_push before c))

module _ (r : Reader) (before : List Command) (h : HasRead r before) where
  abbrev input : List ℕ
  input = r.input.now

  took : (s : Reader) (c : Command) → Took r s c → (allowed before c ≡ true) × HasRead s (before ++ (c ∷ []))
  took s c t =
      let all = encodes (before ++ (c ∷ [])) in
      let may = let_through before r.stage s.stage c h.stage t.stage in
      let parts = cut input before r.place c t.rest h.split t.begins in
      let at_place : s.place ≡ length all = t.place ∙ omega (arith, h.place, ap length (encodes_push before c), length-append (encodes before) (encode c)) in
      let behind : drop s.place input ≡ t.rest = ap (λ n. drop n input) at_place ∙ ap (drop (length all)) parts ∙ drop-append_seam all t.rest in
      let whole : input ≡ all ++ drop s.place input = parts ∙ ap (λ l. all ++ l) (sym behind) in (
        may.0,
        record {
          split = subst (λ i. i.now ≡ all ++ drop s.place i.now) (sym t.same) whole;
          place = at_place;
          ordered = ordered_push before c h.ordered may.0;
          stage = may.1;
        },
      )

  finished : (s : Reader) → Finished r s → Job input before
  finished s f = record {
    short = f.short;
    bytes = h.split ∙ ap (λ l. encodes before ++ l) (drop_of_length-le input (omega (arith, f.whole))) ∙ append-nil (encodes before);
    ordered = h.ordered;
    ended = subst (Stands before) f.ended h.stage;
  }

  abbrev pub halted : Halted r → Breaks input r.place
  halted k = record {
    short = k.short;
    before = before;
    rest = left r;
    split = h.split;
    ordered = h.ordered;
    stuck = λ c rest b may. both_ways (allowed before c) (kept_out before r.stage c h.stage (k.stuck c rest b)) may;
    unfinished = λ e. omega (arith, k.unfinished (ended_stage before r.stage h.stage e), length-drop r.place input);
    here = h.place;
  }

  stopped : (s : Reader) (f : Fault) → Stopped r s f → FaultAt input f.place
  stopped s f t = faulted t.reason
    where
      faulted : ((4096 < length input) × (f.place ≡ 4096)) ⊎ (Halted r × (f.place ≡ r.place)) → FaultAt input f.place
      faulted (inl long) = inl long
      faulted (inr k) = inr (subst (Breaks input) (sym k.1) (halted k.0))

  -- what reading on means for the job
  pub reads : (s : Reader) (o : Result (Option Command) Fault) → Steps r s o → Reads r s before o
  reads s (Ok (Some c)) t = took s c t
  reads s (Ok None) t = finished s t
  reads s (Err f) t = (t.refusal, stopped s f t)

-- what was read where a command was answered
pub read_one : (r s : Reader) (before : List Command) (o : Option Command) → is_some o ≡ true → Reads r s before (Ok o) → (c : Command) × HasRead s (before ++ (c ∷ []))
read_one r s before (Some c) e h = (c, h.1)
read_one r s before None e h = absurd (true≢false (sym e))

-- a reader reads the same input all along
pub same_input : (r s : Reader) (o : Result (Option Command) Fault) → Steps r s o → s.input ≡ r.input
same_input r s (Ok (Some c)) t = t.same
same_input r s (Ok None) t = ap (λ x. x.input) t.same
same_input r s (Err f) t = ap (λ x. x.input) t.same
