-- One rule more. Assumes nothing.
use Rattle.std.proofs.Common.{◌≡◌, ℕ, ◌+◌, ◌<◌, ◌≤◌, Bool, true, false, cond, ◌&&◌, ltb, List, [], ◌∷◌, ◌++◌, map, length, take, set, Some, None, Ok, refl, ap, ◌∙◌, arith}
use lib.ListN.{length-map}
use Rattle.std.proofs.lemmas.List.{take_more_set, length-take-le, map_push}
use Rattle.std.proofs.lemmas.Bool.{ltb-true}
use Rattle.grammar.specs.declared.refusal.Refusal.TheVariants.{NoRow, Undeclared}
use Rattle.grammar.proofs.Accepting.{ok_err}
use Rattle.grammar.specs.declared.rule.Rule.{Rule}
use Rattle.grammar.specs.declared.rule.Expansion.{Expansion}
use Rattle.table.specs.Drafts.{Drafted, number_unless, answer}
use Rattle.table.specs.Tables.{Added, numbered, as_added, is_declared, all_fine}
use Rattle.table.specs.Laws.Shown.{fine_from, all_push}

-- as many rules were added as rows are filled
pub count_is : (rows : List Rule) (count : ℕ) → count ≤ length rows → length (map as_added (take count rows)) ≡ count
count_is rows count h = length-map (take count rows) as_added ∙ length-take-le count rows h

module _ (rows : List Rule) (count : ℕ) (a : Added) (inside : count < length rows) where
  -- the filled rows after the write
  pub added_more : map as_added (take (count + 1) (set rows count (numbered count a))) ≡ map as_added (take count rows) ++ (a ∷ [])
  added_more = ap (map as_added) (take_more_set rows count (numbered count a) inside) ∙ map_push as_added (take count rows) (numbered count a)

  pub fine_more : (n t : ℕ) → all_fine n t 0 (take count rows) ≡ true → is_declared n t a.lhs a.expansion ≡ true → a.cost ≤ 65535
      → all_fine n t 0 (take (count + 1) (set rows count (numbered count a))) ≡ true
  fine_more n t f d cheap =
      let at_end : count ≡ 0 + length (take count rows) = omega (arith, length-take-le count rows) in
      ap (all_fine n t 0) (take_more_set rows count (numbered count a) inside)
      ∙ all_push n t 0 (take count rows) (numbered count a) f (fine_from n t (0 + length (take count rows)) (numbered count a) d cheap at_end)

-- a rule that is added with the number i
pub record Accepted (d : Drafted) (lhs : ℕ) (e : Expansion) (i : ℕ) : Type 0 where
  pub declared : is_declared d.nonterminals d.codes lhs e ≡ true
  pub inside : length d.added < d.room
  pub few : length d.added < 256
  pub is : i ≡ length d.added

pub accepted : (d : Drafted) (lhs : ℕ) (e : Expansion) (i : ℕ) → Ok i ≡ answer d lhs e → Accepted d lhs e i
accepted d lhs e i said =
    by_declared (is_declared d.nonterminals d.codes lhs e) (ltb n d.room) (ltb n 256) refl refl refl said
  where
    n : ℕ
    n = length d.added

    by_declared : (a b c : Bool) → is_declared d.nonterminals d.codes lhs e ≡ a → ltb n d.room ≡ b → ltb n 256 ≡ c → Ok i ≡ number_unless (cond a (cond (b && c) None (Some NoRow)) (Some Undeclared)) n → Accepted d lhs e i
    by_declared true true true p q r w = record { declared = p; inside = ltb-true n d.room q; few = ltb-true n 256 r; is = cc }
    by_declared true true false p q r w = absurd (ok_err w)
    by_declared true false c p q r w = absurd (ok_err w)
    by_declared false b c p q r w = absurd (ok_err w)
