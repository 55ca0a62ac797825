-- Whether entries have a derivation, by the least cost of one. Assumes nothing.
use Rattle.std.proofs.Common.{◌≡◌, ℕ, ◌≤◌, Bool, not, ◌||◌, eqb, List, [], ◌∷◌, map, length, sym, refl, ap, ◌∙◌, ap₂, inl, arith, ne_eqb}
use Rattle.semiring.specs.declared.cost.Cost.{Cost}
use Rattle.semiring.specs.Semirings.{sum}
use Rattle.semiring.specs.YesNos.{yes_no, of_bool}
use Rattle.semiring.specs.Costs.{cost, none}
use Rattle.grammar.specs.Grammars.{Meaning, Shown}
use Rattle.grammar.specs.Derivations.{Tree, leaf, node, Derives, EntriesFromStarts}
use Rattle.grammar.specs.Totals.{Member, TotalOf, weighed, weight_of, by}
use Rattle.grammar.specs.Costs.{by_cost}
use Rattle.grammar.proofs.Cheapest.{below_none}
use Rattle.job.specs.Reports.{UnitTotal}

-- each derivation says yes
says_yes : (m : Meaning) (A : ℕ) (w : List ℕ) (t : Tree) → Derives m A w t → weight_of yes_no (by (λ cost bottom. yes_no.one)) m t ≡ yes_no.one
says_yes m A w (leaf i) d = ap (weighed yes_no (by (λ cost bottom. yes_no.one))) d.rule
says_yes m A w (node i l r) d =
    ap₂ yes_no.times (ap (weighed yes_no (by (λ cost bottom. yes_no.one))) d.rule)
    (ap₂ yes_no.times (says_yes m d.left d.first l d.on_left) (says_yes m d.right d.rest r d.on_right))

module _ (m : Meaning) (shown : Shown m) (es : List ℕ) (few : length es ≤ 64) where
  -- the sum of the costs of derivations is "none" only where there are none of them
  some : (ts : List Tree) → ((t : Tree) → Member t ts → EntriesFromStarts m es t)
      → not (eqb (sum cost (map (weight_of cost by_cost m) ts)).value none) ≡ (sum yes_no (map (weight_of yes_no (by (λ cost bottom. yes_no.one)) m) ts)).value
  some [] only = refl
  some (t ∷ ts) only =
      let d = only t (inl refl) in
      let cheap = below_none m shown d.from es t d.derives few in
      let rest = sum yes_no (map (weight_of yes_no (by (λ cost bottom. yes_no.one)) m) ts) in
      ap not (ne_eqb _ none (λ e. omega (arith, e, cheap)))
      ∙ sym (ap (λ x. x.value || rest.value) (says_yes m d.from d.derives.word t d.derives.derives))

  -- so the entries have a derivation where the total of the costs is not "none"
  pub read_by_cost : (v : Cost) (b : Bool) → TotalOf cost (EntriesFromStarts m es) (weight_of cost by_cost m) v → b ≡ not (eqb v.value none) → UnitTotal yes_no m es (of_bool b)
  read_by_cost v b total is = record {
    all = total.all;
    each = total.each;
    only = total.only;
    once = total.once;
    adds_up = ap of_bool (is ∙ ap (λ (c : Cost). not (eqb c.value none)) total.adds_up ∙ some total.all total.only);
  }
