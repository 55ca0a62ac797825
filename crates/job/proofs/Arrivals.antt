-- What a job comes to that is taken. Assumes nothing.
use Rattle.std.proofs.Common.{◌≡◌, ℕ, List, map, take, Some, None, Option, sym, subst, arith}
use Rattle.std.proofs.lemmas.List.{length-take-le, length-map}
use Rattle.table.specs.Tables.{as_added}
use Rattle.semiring.specs.YesNoLaws.{yes_no_laws}
use Rattle.semiring.specs.CountLaws.{count_laws}
use Rattle.semiring.specs.CostLaws.{cost_laws}
use Rattle.automata.specs.Laws.Machined.{table_works, own_rows}
use Rattle.layers.specs.Laws.Renamed.{recording}
use Rattle.layers.specs.declared.readings.Readings.{Readings}
use Rattle.grammar.specs.Grammars.{Meaning}
use Rattle.table.specs.Drafts.{sealed}
use Rattle.entries.specs.declared.call.Call.{Call}
use Rattle.job.specs.declared.description.Description.{Description}
use Rattle.job.specs.Held.{recorder_in, held}
use Rattle.answer.specs.Seen.{Report}
use Rattle.job.specs.Appending.{appended}
use Rattle.job.specs.Describing.{Described, stack, stacked, nonterminals_of}
use Rattle.job.specs.Outcomes.{Takes}
use Rattle.job.specs.Reports.{accepted, Comes}
use Rattle.job.specs.Answers.{Reads}
use Rattle.job.proofs.Sizes.{Records, Small, Wide, wide, stacks, sizes}
use Rattle.job.specs.Ways.{InWays}
use Rattle.job.proofs.Matching.{over_ways, drawn_way}
use Rattle.job.proofs.Fitting.{Fitting, Fits, fits, accepts_all}

-- m is what the table means, and the calls append the entries
pub reads : (input : List ℕ) (d : Described) (m : Meaning) (calls : List Call) (x : Report) → Takes input d → Small d → m ≡ sealed d.table → calls ≡ map appended d.entries
    → Comes (stacked d.bans d.machine d.recorder m) (accepted (stacked d.bans d.machine d.recorder m) 4096 calls) x → Reads input x
reads input d m calls x t s is same said =
    let over = subst (λ k. Comes (stacked d.bans d.machine d.recorder k) (accepted (stacked d.bans d.machine d.recorder k) 4096 calls) x) is said in
    let c = subst (λ l. Comes (stack d) (accepted (stack d) 4096 l) x) same over in
    let w : Wide d = subst Wide (sym t.describes) (wide t.commands t.passes) in
    let f : Fits d = subst Fits (sym t.describes) (fits t.commands t.job.ordered t.passes) in
    let laid = stacks d s w in
    let size = sizes d laid in
    let fit : Fitting (stack d).nonterminals (stack d).codes 0 d.entries =
    subst (λ n. Fitting n (stack d).codes 0 d.entries) (sym size.0) (subst (λ k. Fitting (nonterminals_of d) k 0 d.entries) (sym size.1) f) in
    let comes : Comes (stack d) d.entries x = subst (λ es. Comes (stack d) es x) (accepts_all (stack d) d.entries fit) c in
    let ways : InWays d x = record {
      read = over_ways d laid s.works s.records yes_no_laws _ x.totals.read comes.read;
      counts = over_ways d laid s.works s.records count_laws _ x.totals.count comes.counts;
      costs = over_ways d laid s.works s.records cost_laws _ x.totals.cost comes.costs;
      nodes = drawn_way d laid s.works s.records x.nodes.items comes.nodes;
    } in
    record { describes = d; takes = t; stacks = laid; comes = comes; ways = ways }

recording_in : (o : Option Readings) → Records (recorder_in o)
recording_in None = tt
recording_in (Some r) = recording r

-- what a description holds is within the limits
pub held_small : (d : Description) → Small (held d)
held_small d =
    let t = d.draft in
    let a = d.automaton in
    record {
      few = t.shape.few;
      rules = omega (arith, length-map (take t.count t.rows.now) as_added, length-take-le t.count t.rows.now t.room, t.short);
      works = table_works a.states a.codes a.start a.accepting a.next a.some a.few a.readable a.coded a.begins (own_rows a.states a.next a.few a.within);
      records = recording_in d.readings;
    }
