-- The theorems that calls promise of sums and of costs. Assumes nothing.
use Rattle.std.specs.Prelude.{◌≡◌, ℕ, ◌-◌, ◌*◌}
use Rattle.std.proofs.Common.{arith}
use Rattle.semiring.specs.Semirings.{Operations, Laws}
use Rattle.grammar.specs.Derivations.{DerivesEntries, EntriesFromStarts}
use Rattle.grammar.specs.Totals.{weight_of}
use Rattle.grammar.specs.Promises.{SumsAreTotals, TotalIsLeast, CostsAtMost}
use Rattle.grammar.proofs.Cheapest.{total_least, entries_bound}
use Rattle.grammar.proofs.Spanning.{span_step, filled_stands, stands_filled, inside_total}
use Rattle.grammar.proofs.Starts.{total_starts}
use Rattle.grammar.proofs.Unique.{total_unique}

pub sums_are_totals : {S : Type 0} {s : Operations S} → Laws s → SumsAreTotals s
sums_are_totals {s = s} laws = record {
  spans = λ weigh m shown. span_step laws weigh m shown;
  filled = record {
    stands = λ weigh m shown. filled_stands laws weigh m shown;
    filled = λ weigh m shown. stands_filled laws weigh m shown;
  };
  whole = λ weigh m shown. inside_total laws weigh m shown;
  starts = λ weigh m shown. total_starts laws weigh m shown;
  unique = record {
    from_each = λ weigh m es A u v. total_unique laws (weight_of s weigh m);
    from_starts = λ weigh m es u v. total_unique laws (weight_of s weigh m);
  };
}

pub total_is_least : TotalIsLeast
total_is_least = record {
  from_each = λ weigh m es A v. total_least weigh m (DerivesEntries m A es) v;
  from_starts = λ weigh m es v. total_least weigh m (EntriesFromStarts m es) v;
}

pub costs_at_most : (n most : ℕ) → most ≡ (2 * n - 1) * 65535 → CostsAtMost n most
costs_at_most n most e m shown A es t long d = omega (arith, entries_bound m shown A es t d)
