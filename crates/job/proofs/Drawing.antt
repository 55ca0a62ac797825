-- The records that a tree left. Assumes nothing.
use Rattle.std.proofs.Common.{◌≡◌, ℕ, ◌≤◌, List, length, take, Ok, Err, Result, refl, ap, ◌∙◌, inl, inr, arith}
use Rattle.std.specs.Result.{result_unwrap_or}
use Rattle.std.proofs.lemmas.List.{length-take-le}
use Rattle.grammar.specs.declared.refusal.Refusal.{Refusal}
use Rattle.grammar.specs.Grammars.{Meaning}
use Rattle.tree.specs.declared.record.Record.{Record}
use Rattle.runs.specs.Trees.{RefusedFor, TreeAfter}
use Rattle.job.specs.Reports.{Drawn}

module _ (m : Meaning) (es : List ℕ) (old new : List Record) (few : length es ≤ 64) (room : length old ≡ 127) (long : length new ≡ 127) where
  refused : (why : Refusal) → TreeAfter m es old new (Err why) → RefusedFor (length es) (length old) why → Drawn m es (take 0 new)
  refused why t (inl e) = inl (t.none.0 (ap Err e), refl)
  refused why t (inr e) = absurd (omega (arith, e.1))

  pub drawn : (r : Result ℕ Refusal) → TreeAfter m es old new r → Drawn m es (take (result_unwrap_or r 0) new)
  drawn (Ok k) t = inr (t.cheapest, length-take-le k new (omega (arith, t.answer)) ∙ t.answer)
  drawn (Err why) t = refused why t t.answer
