-- One command more is read and taken, or the job is faulted. Assumes nothing.
use Rattle.std.proofs.Common.{◌≡◌, ℕ, ◌<◌, ◌≤◌, true, ◌⊎◌, List, [], ◌∷◌, ◌++◌, length, Some, None, sym, refl, ap, ◌∙◌, inl, inr, append_assoc, arith}
use Rattle.commands.specs.declared.command.Command.{Command}
use Rattle.commands.specs.declared.fault.Fault.{Fault}
use Rattle.commands.specs.declared.reader.Reader.{Reader}
use Rattle.commands.specs.Format.{encode, encodes}
use Rattle.commands.specs.Order.{allowed}
use Rattle.commands.specs.Jobs.{Breaks}
use Rattle.commands.specs.Readers.{left, Halted, Stopped, HasRead}
use Rattle.commands.proofs.Stages.{begun_push}
use Rattle.commands.proofs.Turns.{halted}
use Rattle.commands.proofs.Unique.{encodes_push}
use Rattle.job.specs.Describing.{Described, Later, nothing, refusal, taken, describe, Passes}
use Rattle.job.specs.Outcomes.{FirstFault}
use Rattle.job.specs.Loading.{input_of, Loading}

pub describe_push : (d : Described) (cs : List Command) (c : Command) → describe d (cs ++ (c ∷ [])) ≡ taken (describe d cs) c
describe_push d [] c = refl
describe_push d (x ∷ xs) c = describe_push (taken d x) xs c

pub passes_push : (d : Described) (cs : List Command) (c : Command) → Passes d cs → refusal (describe d cs) c ≡ None → Passes d (cs ++ (c ∷ []))
passes_push d [] c p e = (e, tt)
passes_push d (x ∷ xs) c p e = (p.0, passes_push (taken d x) xs c p.1 e)

-- a break at an equal place
moved : (input : List ℕ) (p q : ℕ) (why : Type 0) → q ≡ p → (b : Breaks input p) → Passes nothing b.before → why → ((b : Breaks input q) × Passes nothing b.before × why)
moved input p q why e b passes w =
    (record { short = b.short; before = b.before; rest = b.rest; split = b.split; ordered = b.ordered; stuck = b.stuck; unfinished = b.unfinished; here = e ∙ b.here }, passes, w)

-- reading stopped after commands that are not refused
pub stopped : (r : Reader) (before : List Command) → HasRead r before → Passes nothing before → (s : Reader) (f : Fault) → Stopped r s f → FirstFault (input_of r) f.refusal f.place
stopped r before read passes s f t = faulted t.reason
  where
    faulted : ((4096 < length (input_of r)) × (f.place ≡ 4096)) ⊎ (Halted r × (f.place ≡ r.place)) → FirstFault (input_of r) f.refusal f.place
    faulted (inl long) = inl (long.0, t.refusal, long.1)
    faulted (inr k) = inr (inl (moved (input_of r) r.place f.place _ k.1 (halted r before read k.0) passes t.refusal))

module _ (r : Reader) (d : Described) (l : Loading r d) where
  -- what comes once the grammar is declared does not declare it
  pub later : (c : Command) → allowed l.before c ≡ true → Later c
  later c a = grind (arith, l.begun)

  pub more : (s : Reader) (c : Command) (e : Described) → HasRead s (l.before ++ (c ∷ [])) → refusal d c ≡ None → e ≡ taken d c → Loading s e
  more s c e read ok is = record {
    before = l.before ++ (c ∷ []);
    read = read;
    begun = begun_push l.before c;
    passes = passes_push nothing l.before c l.passes (ap (λ x. refusal x c) (sym l.describes) ∙ ok);
    describes = is ∙ ap (λ x. taken x c) l.describes ∙ sym (describe_push nothing l.before c);
  }

  -- a command was refused
  pub refused : (s : Reader) (c : Command) (f : Fault) → s.input ≡ r.input → length (input_of r) ≤ 4096 → HasRead s (l.before ++ (c ∷ [])) → refusal d c ≡ Some f.refusal → f.place ≡ r.place → FirstFault (input_of r) f.refusal f.place
  refused s c f same short read why here = inr (inr (record {
    short = short;
    before = l.before;
    command = c;
    rest = left s;
    split = ap (λ x. x.now) (sym same) ∙ read.split ∙ ap (λ x. x ++ left s) (encodes_push l.before c) ∙ append_assoc (encodes l.before) (encode c) (left s);
    ordered = read.ordered;
    passes = l.passes;
    refused = ap (λ x. refusal x c) (sym l.describes) ∙ why;
    here = here ∙ l.read.place;
  }))
