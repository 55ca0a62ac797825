use Rattle.std.proofs.Common.{◌≡◌, [], ◌∷◌, length, slice_index_or, ap, ◌∙◌}
use Rattle.automata.specs.Laws.Machined.{at, stay_rows, rows_stay, rows_whole}
use Rattle.automata.proofs.table.stay.Goals as goal

pub returns : goal.returns
returns c =
    let q = c.args.states in
    let made : c.row.result ∷ c.row-2.result ∷ c.row-3.result ∷ c.row-4.result ∷ c.row-5.result ∷ c.row-6.result ∷ c.row-7.result ∷ c.row-8.result ∷ [] ≡ stay_rows q = cc in
    record {
      whole = λ s h. ap (λ rows. length (slice_index_or rows s [])) made ∙ rows_whole q s h;
      stay = λ s k h i. ap (λ rows. at rows s k) made ∙ rows_stay q s k h i;
    }
