-- The known sheets, by the theorem of sums and computation. Assumes nothing.
use Rattle.std.proofs.Common.{◌≡◌, ℕ, ◌<◌, ◌≤◌, Bool, true, false, cond, eqb, List, [], ◌∷◌, length, Some, refl, arith, eqb-true}
use Rattle.semiring.specs.Semirings.{sum_below}
use Rattle.semiring.specs.declared.count.Count.{Count}
use Rattle.semiring.specs.Counts.{count, capped}
use Rattle.semiring.specs.Costs.{cost, costing, none}
use Rattle.semiring.specs.CountLaws.{count_laws}
use Rattle.semiring.specs.CountLaws as counts
use Rattle.semiring.specs.CostLaws.{cost_laws}
use Rattle.semiring.specs.CostLaws as costs
use Rattle.grammar.specs.declared.rule.Rule.{Rule}
use Rattle.grammar.specs.Grammars.{Meaning, Shown}
use Rattle.grammar.specs.Derivations.{has}
use Rattle.grammar.specs.Totals.{by}
use Rattle.grammar.specs.Spans.{inside, start_sum}
use Rattle.grammar.specs.Costs.{by_cost}
use Rattle.grammar.proofs.Closure.{total_value}
use Rattle.grammar.proofs.Spanning.{inside_total}
use Rattle.grammar.proofs.Starts.{total_starts}
use Rattle.automata.specs.Making.{counting}
use Rattle.automata.specs.Laws.Machined.{counting_works}
use Rattle.automata.specs.Laws.Truths.{no_some, some_is}
use Rattle.layers.specs.Renaming.{Recorder, Recording, unread, reading}
use Rattle.layers.specs.Known.{G, known_readings, Sheet, KnownSheets}
use Rattle.layers.specs.Laws.Wide.{wide_shown}
use Rattle.layers.specs.Laws.Kept.{ban_shown}
use Rattle.layers.specs.Laws.Crossed.{intersection_shown}
use Rattle.layers.specs.Laws.Renamed.{renaming_shown}

pub g_shown : Shown G
g_shown = wide_shown 1 3 (omega arith) (omega arith) (omega arith) (omega arith)

unread_records : (count : ℕ) → 1 ≤ count → count ≤ 32 → Recording (unread count)
unread_records count some few = record { some = some; few = few; within = λ b a e. absurd (no_some a e) }

reading_records : (k : Recorder) (b a : ℕ) → b < k.count → a < 32 → Recording k → Recording (reading b a k)
reading_records k b a hb ha r = record { some = r.some; few = r.few; within = λ c x e. go c x (eqb c b) refl e }
  where
    go : (c x : ℕ) (t : Bool) → eqb c b ≡ t → cond t (Some a) (k.read c) ≡ Some x → (c < k.count) × (x < 32)
    go c x true e f = let h = eqb-true c b e in let g : a ≡ x = some_is f in (omega arith, omega arith)
    go c x false e f = r.within c x f

recording : Recording known_readings
recording =
    reading_records (reading 1 0 (reading 0 0 (unread 3))) 2 1 (omega arith) (omega arith)
    (reading_records (reading 0 0 (unread 3)) 1 0 (omega arith) (omega arith)
    (reading_records (unread 3) 0 0 (omega arith) (omega arith) (unread_records 3 (omega arith) (omega arith))))

module _ (m : Meaning) (shown : Shown m) (es : List ℕ) where
  abbrev one : Rule → Count
  one = by (λ cost bottom. count.one)

  sheet : (n c : ℕ) → (start_sum count m (inside count one m es (length es) 0 (length es))).value ≡ (capped n).value → (start_sum cost m (inside cost by_cost m es (length es) 0 (length es))).value ≡ (costing c).value → Sheet m es n c
  sheet n c counted costed = record {
    counted = total_value count_laws (counts.same _ _ counted) (total_starts count_laws one m shown es (inside count one m es (length es) 0 (length es)) (λ A _. inside_total count_laws one m shown es A));
    costs = total_value cost_laws (costs.same _ _ costed) (total_starts cost_laws by_cost m shown es (inside cost by_cost m es (length es) 0 (length es)) (λ A _. inside_total cost_laws by_cost m shown es A));
  }

pub known_sheets : KnownSheets
unfolding sum_below has
known_sheets = record {
  nothing = sheet G g_shown [] 0 none refl refl;
  one = sheet G g_shown (1 ∷ []) 1 2 refl refl;
  three = sheet G g_shown (1 ∷ 1 ∷ 1 ∷ []) 2 8 refl refl;
  four = sheet G g_shown (2 ∷ 2 ∷ 2 ∷ 2 ∷ []) 5 15 refl refl;
  two = sheet G g_shown (3 ∷ 3 ∷ []) 4 5 refl refl;
  two_counted = sheet _ (intersection_shown (counting 2 1 1) (counting_works 2 1 1 (omega arith) (omega arith) (omega arith) (omega arith)) G g_shown) (3 ∷ 3 ∷ []) 3 6 refl refl;
  two_banned = sheet _ (ban_shown (0 ∷ []) G g_shown) (3 ∷ 3 ∷ []) 0 none refl refl;
  renamed = sheet _ (renaming_shown known_readings recording G g_shown) (3 ∷ []) 2 2 refl refl;
}
