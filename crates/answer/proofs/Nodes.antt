-- One node line more. Assumes nothing.
use Rattle.std.proofs.Common.{◌≡◌, ℕ, ◌+◌, ◌<◌, List, [], ◌∷◌, ◌++◌, length, get_or, take, sym, ap, ◌∙◌, append_assoc, append-nil}
use Rattle.std.proofs.lemmas.List.{take_more}
use Rattle.tree.specs.declared.record.Record.{Record}
use Rattle.answer.specs.Lines.{node_line, node_lines}

-- a record at the end has its line at the end
nodes_more : (rs : List Record) (r : Record) → node_lines (rs ++ (r ∷ [])) ≡ node_lines rs ++ node_line r
nodes_more [] r = append-nil (node_line r)
nodes_more (q ∷ rs) r = ap (λ l. node_line q ++ l) (nodes_more rs r) ∙ sym (append_assoc (node_line q) (node_lines rs) (node_line r))

-- the lines of the first i records, and that of the next
pub lines_more : (rs : List Record) (i : ℕ) (d : Record) → i < length rs → node_lines (take (i + 1) rs) ≡ node_lines (take i rs) ++ node_line (get_or rs i d)
lines_more rs i d h = ap node_lines (take_more rs i d h) ∙ nodes_more (take i rs) (get_or rs i d)
