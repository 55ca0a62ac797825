-- The numbers by which users know the refusals. Assumes nothing.
use Rattle.std.specs.Prelude.{ℕ, Some, None, Ok, Err, Option, Result}
use Rattle.grammar.specs.declared.refusal.Refusal.{Refusal}
use Rattle.grammar.specs.declared.refusal.Refusal.TheVariants.{GrammarOutOfRange, Undeclared, NoRow, FewerCodes, TooLarge, TooManyBans, BadEntry, TrialOpen, NoRoom, NoEntry, NoTrial, OtherGrammar, NoDerivation, FewRecords, NumberOutOfRange, BadJob}

-- the number of a refusal
abbrev pub number : Refusal → ℕ
number GrammarOutOfRange = 1
number Undeclared = 2
number NoRow = 3
number FewerCodes = 4
number TooLarge = 5
number TooManyBans = 6
number BadEntry = 7
number TrialOpen = 8
number NoRoom = 9
number NoEntry = 10
number NoTrial = 11
number OtherGrammar = 12
number NoDerivation = 13
number FewRecords = 14
number NumberOutOfRange = 15
number BadJob = 16

-- 0 where nothing was refused, else the number of the refusal
abbrev pub number_or_zero : Option Refusal → ℕ
number_or_zero None = 0
number_or_zero (Some why) = number why

-- 0 where a call was accepted, else the number of its refusal
abbrev pub number_of : {T : Type 0} → Result T Refusal → ℕ
number_of (Ok x) = 0
number_of (Err why) = number why

-- accepted, unless there is a reason to refuse
abbrev pub accepted_unless : Option Refusal → Result (Unit {0}) Refusal
accepted_unless None = Ok tt
accepted_unless (Some why) = Err why
