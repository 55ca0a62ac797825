-- What an answer says of the reason to refuse. Assumes nothing.
use Rattle.std.specs.Prelude.{◌≡◌, ℕ, Some, None, Ok, Err, Option, Result, ◌≢◌, refl}
use Rattle.std.proofs.Common.{sym, arith}
use Rattle.grammar.specs.declared.refusal.Refusal.{Refusal}
use Rattle.grammar.specs.Refusals.{accepted_unless}

-- a call is not both accepted and refused
pub ok_err : {X : Type 0} {x : X} {why : Refusal} → Ok x ≢ Err why
ok_err e = let z : ◌≡◌ {A = ℕ} 0 1 = cc in omega arith

-- an accepted call has none
pub accepted_none : (o : Option Refusal) → Ok tt ≡ accepted_unless o → None ≡ o
accepted_none None e = refl
accepted_none (Some why) e = absurd (ok_err e)

-- a refused call has the one that it answers
pub refused_some : (o : Option Refusal) (why : Refusal) → Err why ≡ accepted_unless o → Some why ≡ o
refused_some None why e = absurd (ok_err (sym e))
refused_some (Some w) why e = cc
