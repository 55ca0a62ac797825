-- The lines of an answer. Assumes nothing.
use Rattle.std.specs.Prelude.{ℕ, cond, List, [], ◌∷◌, ◌++◌, Ok, Err, Result, codes, decimal, ◌==◌}
use Rattle.semiring.specs.declared.cost.Cost.{Cost}
use Rattle.semiring.specs.Costs.{none}
use Rattle.commands.specs.declared.fault.Fault.{Fault}
use Rattle.commands.specs.Faults.{fault_text}
use Rattle.tree.specs.declared.record.Record.{Record}
use Rattle.answer.specs.declared.report.Totals.{Totals}
use Rattle.answer.specs.Seen.{Report}

-- the number of the refusal, and its place
abbrev pub fault_line : Fault → List ℕ
fault_line f = fault_text f ++ codes "\n"

-- a node: the span that it covers, and the number of its rule in the table
abbrev pub node_line : Record → List ℕ
node_line r = codes "node " ++ (decimal r.begin ++ (codes " " ++ (decimal r.end ++ (codes " " ++ (decimal r.bottom ++ codes "\n")))))

-- a cost, or that there is none
abbrev pub cost_word : Cost → List ℕ
cost_word c = cond (c.value == none) (codes "none") (decimal c.value)

-- whether there is a derivation, how many, and the cost of a cheapest
abbrev pub totals_lines : Totals → List ℕ
totals_lines t = codes "read " ++ (cond t.read.value (codes "yes") (codes "no") ++ (codes "\ncount " ++ (decimal t.count.value ++ (codes "\ncost " ++ (cost_word t.cost ++ codes "\n")))))

-- the lines of all nodes
abbrev pub node_lines : List Record → List ℕ
node_lines [] = []
node_lines (r ∷ rs) = node_line r ++ node_lines rs

abbrev pub report_lines : Report → List ℕ
report_lines r = totals_lines r.totals ++ node_lines r.nodes.items

-- the text of an answer: the line of a fault, or the lines of a report
abbrev pub answer_text : Result Report Fault → List ℕ
answer_text (Ok r) = report_lines r
answer_text (Err f) = fault_line f
