-- The total of a chart that stands is that of its derivations from all starts. Assumes nothing.
use Rattle.std.proofs.Common.{◌≡◌, ℕ, ◌<◌, Bool, true, false, cond, eqb, ◌≢◌, List, [], ◌∷◌, length, IfOk, Ok, Err, Result, sym, ap, subst, arith, ne_eqb, MatchResult}
use Rattle.semiring.specs.Semirings.{Operations, Laws}
use Rattle.grammar.specs.declared.refusal.Refusal.{Refusal}
use Rattle.grammar.specs.declared.refusal.Refusal.TheVariants.{OtherGrammar}
use Rattle.grammar.specs.declared.rule.Rule.{Rule}
use Rattle.grammar.specs.Grammars.{Meaning, Shown}
use Rattle.grammar.specs.Derivations.{DerivesEntries, EntriesFromStarts}
use Rattle.grammar.specs.Totals.{TotalOf, weight_of}
use Rattle.grammar.specs.Spans.{start_sum, Stands}
use Rattle.grammar.proofs.Closure.{total_none}
use Rattle.grammar.proofs.Shapes.{entries_length, some_leaf}
use Rattle.grammar.proofs.Spanning.{span_all}
use Rattle.grammar.proofs.Starts.{total_starts}
use Rattle.entries.specs.Lists.{Entries}
use Rattle.chart.specs.Cells.{cell_at}
use Rattle.entries.specs.Model.{state}
use Rattle.chart.specs.Reads.{whole_total, total_answer}
use Rattle.entries.proofs.Listing.{size}

pub some_whole : {S : Type 0} (s : Operations S) (m : Meaning) (count : ℕ) (xs : List S) → count ≢ 0 → whole_total s m count xs ≡ start_sum s m (cell_at s m.nonterminals xs 0 count)
some_whole s m count xs e = ap (λ b. cond b s.zero (start_sum s m (cell_at s m.nonterminals xs 0 count))) (ne_eqb count 0 e)

module _ {S : Type 0} {s : Operations S} (laws : Laws s) (weigh : Rule → S) (m : Meaning) (shown : Shown m) where
  -- v is the total of the derivations of the entries es from all starts
  abbrev IsTotal : List ℕ → S → Type 0
  IsTotal es v = TotalOf s (EntriesFromStarts m es) (weight_of s weigh m) v

  whole_stands : (es : List ℕ) (xs : List S) → Stands s weigh m es (cell_at s m.nonterminals xs) → 0 < length es → IsTotal es (start_sum s m (cell_at s m.nonterminals xs 0 (length es)))
  whole_stands es xs stands some =
      total_starts laws weigh m shown es (cell_at s m.nonterminals xs 0 (length es))
      (λ A name. subst (λ l. TotalOf s (DerivesEntries m A l) (weight_of s weigh m) (cell_at s m.nonterminals xs 0 (length es) A)) (span_all es)
      (stands 0 (length es) A some (omega arith) name))

  pub total_stands : (es : List ℕ) (xs : List S) → Stands s weigh m es (cell_at s m.nonterminals xs) → IsTotal es (whole_total s m (length es) xs)
  total_stands [] xs stands = total_none laws (weight_of s weigh m) (λ t d. omega (arith, entries_length m d.from [] t d.derives, some_leaf t))
  total_stands (e ∷ es) xs stands =
      subst (λ b. IsTotal (e ∷ es) (cond b s.zero (start_sum s m (cell_at s m.nonterminals xs 0 (length (e ∷ es))))))
      (sym (ne_eqb (length (e ∷ es)) 0 (omega arith))) (whole_stands (e ∷ es) xs stands (omega arith))

  -- so what the call answers is the total
  pub answer_stands : (e : Entries) (xs : List S) (r : Result S Refusal) → r ≡ total_answer s m e.nonterminals (length e.list.items) xs → Stands s weigh m (state e).entries (cell_at s m.nonterminals xs)
      → IfOk r (IsTotal (state e).entries)
  answer_stands e xs r is stands = subst (λ x. IfOk x (IsTotal (state e).entries)) (sym is) (go (eqb m.nonterminals e.nonterminals))
    where
      go : (b : Bool) → MatchResult {E = Refusal} (cond b (Ok (whole_total s m (length e.list.items) xs)) (Err OtherGrammar)) (IsTotal (state e).entries) (λ _. Unit {0})
      go true = subst (λ n. IsTotal (state e).entries (whole_total s m n xs)) (size e) (total_stands (state e).entries xs stands)
      go false = tt
