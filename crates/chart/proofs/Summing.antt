-- Known sums stay right while the span is filled. Assumes nothing.
use Rattle.std.proofs.Common.{ℕ, ◌<◌, List, sym, ◌∙◌, subst, arith}
use Rattle.std.proofs.lemmas.List.{length-set, get_or-set_other}
use Rattle.semiring.specs.Semirings.{Operations, Laws}
use Rattle.chart.specs.Cells.{place, cell_at, added, Room}
use Rattle.chart.specs.Sums.{Known, Noted}
use Rattle.chart.specs.declared.span.Span.{Span}
use Rattle.chart.specs.declared.sums.Sum.{Sum}
use Rattle.chart.proofs.Places.{place_narrow, place_later}
use Rattle.chart.proofs.Rows.{Agree, cut_sum_same}

module _ {S : Type 0} {ops : Operations S} (laws : Laws ops) where
  module _ (span : Span) where
    abbrev n : ℕ
    n = span.cells

    -- what is added to a cell of the span changes no cell of the narrower spans inside it
    agree_added : (xs : List S) (a : ℕ) (v : S) → a < n → Agree laws n span.begin span.end (cell_at ops n xs) (cell_at ops n (added ops n xs span.begin span.end a v))
    agree_added xs a v ha k c l1 l2 hc =
        let at = place n span.begin span.end a in (
          sym (get_or-set_other xs at (place n span.begin k c) _ ops.zero (λ e. omega (arith, e, place_narrow n span.begin k c span.begin span.end a l1 l2 hc))),
          sym (get_or-set_other xs at (place n k span.end c) _ ops.zero (λ e. omega (arith, e, place_later n span.begin k span.end a c l1 ha))),
        )

    pub known_added : (a : ℕ) (v : S) (xs : List S) (sums : List (Sum S)) → a < n
        → Known ops span xs sums → Known ops span (added ops n xs span.begin span.end a v) sums
    known_added a v xs sums ha known = record {
      room = subst (Room n span.end) (sym (length-set xs _ _)) known.room;
      each = λ i d h left right. known.each i d h left right
          ∙ cut_sum_same laws n (cell_at ops n xs) (cell_at ops n (added ops n xs span.begin span.end a v)) span.begin span.end _ _ left right (agree_added xs a v ha);
    }

    pub noted_added : (a : ℕ) (v : S) (xs : List S) (sums : List (Sum S)) → a < n
        → Noted ops span xs sums → Noted ops span (added ops n xs span.begin span.end a v) sums
    noted_added a v xs sums ha noted = record { later = noted.later; here = known_added a v xs _ ha noted.here }
