-- Fewer entries: there is room for them, and the cells still stand. Assumes nothing.
use Rattle.std.proofs.Common.{◌≡◌, ℕ, ◌+◌, ◌-◌, ◌*◌, ◌<◌, ◌≤◌, List, length, take, drop, sym, ap, ◌∙◌, subst, arith, length-take, take-take}
use mathlib.Core.HLevel.{is_prop→PathP}
use native.Mathlib.Bridge.{le_prop}
use Rattle.std.proofs.lemmas.List.{drop-take}
use Rattle.semiring.specs.Semirings.{Operations}
use Rattle.grammar.specs.declared.rule.Rule.{Rule}
use Rattle.grammar.specs.Grammars.{Meaning}
use Rattle.grammar.specs.Derivations.{DerivesEntries}
use Rattle.grammar.specs.Totals.{TotalOf, weight_of, by}
use Rattle.grammar.specs.Spans.{span, Stands}
use Rattle.entries.specs.Spans.{triangle}
use Rattle.chart.specs.Cells.{cell_at}
use Rattle.entries.specs.Lists.{Entries}
use Rattle.entries.specs.Model.{state, Front}
use Rattle.entries.proofs.Listing.{size}
use Rattle.chart.specs.declared.chart.Chart.{Chart}
use Rattle.chart.specs.Stands.{ChartStands}
use Rattle.chart.proofs.Places.{room_before}

-- a span of the first k entries
span_take : (es : List ℕ) (k begin end : ℕ) → begin < end → end ≤ k → span (take k es) begin end ≡ span es begin end
span_take es k begin end some fits =
    let split : k ≡ begin + (k - begin) = omega arith in
    ap (λ n. take (end - begin) (drop begin (take n es))) split
    ∙ ap (take (end - begin)) (drop-take begin (k - begin) es)
    ∙ take-take (end - begin) (k - begin) (drop begin es) (omega arith)

take_stands : {S : Type 0} (s : Operations S) (weigh : Rule → S) (m : Meaning) (es : List ℕ) (k : ℕ) (cell : ℕ → ℕ → ℕ → S) → Stands s weigh m es cell → Stands s weigh m (take k es) cell
take_stands s weigh m es k cell stands begin end A some fits name =
    let long = length-take k es in
    subst (λ l. TotalOf s (DerivesEntries m A l) (weight_of s weigh m) (cell begin end A)) (sym (span_take es k begin end some (omega arith))) (stands begin end A some (omega arith) name)

-- there is room for a front
front_room : (e f : Entries) (slots : ℕ) → Front e f → e.nonterminals ≤ 4096 → triangle ((length e.list.items) + 1) * e.nonterminals ≤ slots → triangle ((length f.list.items) + 1) * f.nonterminals ≤ slots
front_room e f slots front narrow fits =
    let es = (state e).entries in
    let fewer : (length f.list.items) ≤ (length e.list.items) = omega (arith, size e, size f, ap length front.are, length-take front.k es) in
    subst (λ n. triangle ((length f.list.items) + 1) * n ≤ slots) (sym front.own)
    (room_before e.nonterminals (length f.list.items) (length e.list.items) slots fewer (record { few = e.few; narrow = narrow; fits = fits })).fits

-- what is still in use stands
pub front_stands : {S : Type 0} (s : Operations S) (w : ℕ → ℕ → S) (m : Meaning) (e f : Entries) (xs : List S) → Front e f → ChartStands s w m e xs → ChartStands s w m f xs
front_stands s w m e f xs front stands =
    let cell = cell_at s m.nonterminals xs in
    subst (λ es. Stands s (by w) m es cell) (sym front.are) (take_stands s (by w) m (state e).entries front.k cell stands)

-- what a chart owes of its fields, with a front of its entries
pub front_ghosts : {S : Type 0} {g : _} (c : Chart S g) (f : Entries) → Front c.entries f
    → (triangle ((length f.list.items) + 1) * f.nonterminals ≤ length c.slots.cells.now) × (f.nonterminals ≤ 4096)
front_ghosts c f front =
    (front_room c.entries f (length c.slots.cells.now) front c.narrow c.room, subst (λ n. n ≤ 4096) (sym front.own) c.narrow)

-- charts with the same slots and the same entries are the same
pub same_chart : {S : Type 0} {g : _} (c d : Chart S g) → c.slots ≡ d.slots → c.entries ≡ d.entries → c ≡ d
same_chart c d p q = λ i. record {
  slots = p i;
  entries = q i;
  room = is_prop→PathP (λ j. triangle (length (q j).list.items + 1) * (q j).nonterminals ≤ length (p j).cells.now) (λ j. le_prop) c.room d.room i;
  narrow = is_prop→PathP (λ j. (q j).nonterminals ≤ 4096) (λ j. le_prop) c.narrow d.narrow i;
}
