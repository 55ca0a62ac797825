-- A call that takes the last entry off, or none, leaves a front of the entries. Assumes nothing.
use Rattle.std.proofs.Common.{◌≡◌, ◌-◌, map, length, Ok, sym, ap, ◌∙◌}
use Rattle.std.proofs.Math.Seq.{take-length}
use Rattle.entries.specs.Lists.{Entries}
use Rattle.entries.specs.declared.call.Call.{Call}
use Rattle.entries.specs.Model.{State, state, bits_of, but_last, Terms, does, Did, Front}
use Rattle.entries.proofs.Judging.{did_move}

any : Terms
any = record { own = 0; slots = 0; shown = 0; codes = 0 }

pub fewer : (call : Call) (e f : Entries) → (does (state e) call).entries ≡ but_last (state e).entries → ((t : Terms) → Did t e call (Ok tt) f) → Front e f
fewer call e f is did = record {
  k = length (state e).entries - 1;
  are = ap (λ (s : State). s.entries) (did_move (did any)) ∙ is;
  own = (did any).own;
}

pub same_front : (e f : Entries) → f.list.items ≡ e.list.items → f.nonterminals ≡ e.nonterminals → Front e f
same_front e f is own = record {
  k = length (state e).entries;
  are = ap (map bits_of) is ∙ sym (take-length (state e).entries);
  own = own;
}
