-- One command more. Assumes nothing.
use Rattle.std.proofs.Common.{◌≡◌, ℕ, Bool, true, false, not, ◌||◌, List, [], ◌∷◌, ◌++◌, Option, sym, refl, ap, ◌∙◌, MatchOption, arith}
use Rattle.std.proofs.lemmas.Bool.{true≢false, and_parts, and_from, and_right, not-true, not_from_true, not_from_false, or_from}
use Rattle.commands.specs.declared.command.Command.{Command}
use Rattle.commands.specs.declared.command.Command.TheVariants.{End}
use Rattle.commands.specs.declared.stage.Stage.{Stage}
use Rattle.commands.specs.declared.stage.Stage.TheVariants.{Declaring, Describing, Entries, Ended}
use Rattle.commands.specs.Order.{is, some, begun, going, describing, allowed}
use Rattle.commands.specs.Jobs.{Ends}
use Rattle.commands.specs.Stages.{next_stage, Stands}

abbrev pub push : List Command → Command → List Command
push before c = before ++ (c ∷ [])

pub some_push : (b : ℕ) (before : List Command) (c : Command) → some b (push before c) ≡ (is b c || some b before)
some_push b [] c = refl
some_push b (x ∷ xs) c = grind (arith, some_push b xs c)

pub begun_push : (before : List Command) (c : Command) → begun (push before c) ≡ true
begun_push [] c = refl
begun_push (x ∷ xs) c = refl

going_push : (before : List Command) (c : Command) → is 0x0B c ≡ false → going before ≡ true → going (push before c) ≡ true
going_push before c e h =
    let p = and_parts (begun before) (not (some 0x0B before)) h in
    and_from _ _ (begun_push before c) (not_from_false _ (some_push 0x0B before c ∙ or_from _ _ e (not-true _ p.1)))

describing_push : (before : List Command) (c : Command) → is 0x0B c ≡ false → is 0x0A c ≡ false → describing before ≡ true → describing (push before c) ≡ true
describing_push before c e f h =
    let p = and_parts (going before) (not (some 0x0A before)) h in
    and_from _ _ (going_push before c e p.0) (not_from_false _ (some_push 0x0A before c ∙ or_from _ _ f (not-true _ p.1)))

goes : (before : List Command) → describing before ≡ true → going before ≡ true
goes before h = (and_parts (going before) (not (some 0x0A before)) h).0

-- what the next stage says of the commands before
abbrev pub Goes : Stage → Command → Option Stage → Type 0
Goes s c o = (before : List Command) → Stands before s → MatchOption o (allowed before c ≡ false) (λ t. (allowed before c ≡ true) × Stands (push before c) t)

started : (before : List Command) (b : ℕ) → some b before ≡ true → begun before ≡ true
started [] b h = absurd (true≢false (sym h))
started (x ∷ xs) b h = refl

went : (before : List Command) → going before ≡ true → begun before ≡ true
went before h = (and_parts (begun before) (not (some 0x0B before)) h).0

pub came : (before : List Command) → Ends before → some 0x0B before ≡ true
came before h = ap (some 0x0B) h.1 ∙ some_push 0x0B h.0 End

over : (before : List Command) → Ends before → going before ≡ false
over before h = and_right (begun before) _ (not_from_true _ (came before h))

entered : (before : List Command) → some 0x0A before ≡ true → describing before ≡ false
entered before h = and_right (going before) _ (not_from_true _ h)

-- what holds at each stage
from_declaring : (c : Command) → Goes Declaring c (next_stage Declaring c)
from_declaring c before h = grind arith

from_describing : (a r : Bool) (c : Command) → Goes (Describing a r) c (next_stage (Describing a r) c)
from_describing a r c before h = grind (arith, describing_push before c, going_push before c, goes before h.0, some_push 0x05 before c, some_push 0x07 before c, some_push 0x0A before c, went before)

from_entries : (c : Command) → Goes Entries c (next_stage Entries c)
from_entries c before h = grind (arith, going_push before c, some_push 0x0A before c, entered before h.1, went before h.0)

from_ended : (c : Command) → Goes Ended c (next_stage Ended c)
from_ended c before h = grind (arith, came before h, over before h, started before 0x0B)

pub goes_right : (s : Stage) (c : Command) → Goes s c (next_stage s c)
goes_right Declaring c = from_declaring c
goes_right (Describing a r) c = from_describing a r c
goes_right Entries c = from_entries c
goes_right Ended c = from_ended c
