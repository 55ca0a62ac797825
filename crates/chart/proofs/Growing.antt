-- One entry more, or another in its place: how many there are then, and that there is room for them. Assumes nothing.
use Rattle.std.proofs.Common.{◌≡◌, ℕ, ◌+◌, ◌*◌, ◌≤◌, [], ◌∷◌, ◌++◌, length, Ok, sym, ap, ◌∙◌, subst}
use Rattle.std.proofs.lemmas.List.{length_push, length-set}
use Rattle.entries.specs.Lists.{Entries}
use Rattle.entries.specs.declared.call.Call.TheVariants.{Append, Replace}
use Rattle.entries.specs.Spans.{triangle}
use Rattle.entries.specs.Model.{State, state, Terms, Did}
use Rattle.entries.proofs.Judging.{did_move}
use Rattle.entries.proofs.Listing.{size}

module _ (t : Terms) (e f : Entries) (bits : ℕ) (did : Did t e (Append bits) (Ok tt) f) where
  -- the entries after an accepted append
  pub more_entries : (state f).entries ≡ (state e).entries ++ (bits ∷ [])
  more_entries = ap (λ (s : State). s.entries) (did_move did)

  pub one_more : (length f.list.items) ≡ (length e.list.items) + 1
  one_more = sym (size f) ∙ ap length more_entries ∙ length_push (state e).entries bits ∙ ap (λ k. k + 1) (size e)

-- a replaced entry leaves as many as there were
pub same_many : (t : Terms) (e f : Entries) (k bits : ℕ) → Did t e (Replace k bits) (Ok tt) f → (length f.list.items) ≡ (length e.list.items)
same_many t e f k bits did =
    sym (size f) ∙ ap (λ (s : State). length s.entries) (did_move did) ∙ length-set (state e).entries k bits ∙ size e

-- room, where the numbers are called otherwise
pub room_at : {count count' n n' slots slots' : ℕ} → count ≡ count' → n ≡ n' → slots ≡ slots' → triangle (count + 1) * n ≤ slots → triangle (count' + 1) * n' ≤ slots'
room_at {count} {count'} {n} {n'} {slots} {slots'} p q r fits =
    subst (λ k. triangle (k + 1) * n' ≤ slots') p (subst (λ k. triangle (count + 1) * k ≤ slots') q (subst (λ k. triangle (count + 1) * n ≤ k) r fits))
