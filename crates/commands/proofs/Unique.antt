-- No command is the beginning of another. Assumes nothing.
use Rattle.std.proofs.Common.{◌≡◌, ℕ, ◌+◌, ◌*◌, ◌/◌, ◌%◌, ◌^◌, true, cond, eqb, List, [], ◌∷◌, ◌++◌, length, get_or, drop, sym, ap, ◌∙◌, subst, append_assoc, append-nil, arith}
use lib.Seq.{drop-append_seam}
use Rattle.commands.specs.declared.command.Command.{Command}
use Rattle.commands.specs.declared.command.Command.TheVariants.{Grammar, Pair, Leaf, Ban, Automaton, Step, Renaming, Reading, Entry, End}
use Rattle.commands.specs.Format.{encode, encodes}
use Rattle.commands.specs.Order.{allowed, Ordered}

-- the command whose bytes stand at the front
abbrev front : List ℕ → Command
front bs =
    let at : ℕ → ℕ = λ i. get_or bs i 0 in
    cond (eqb (at 0) 0x01) (Grammar (at 1) (at 2) (at 3))
    (cond (eqb (at 0) 0x02) (Pair (at 1) (at 2) (at 3) (at 4 * 256 + at 5))
    (cond (eqb (at 0) 0x03) (Leaf (at 1) (at 2) (at 3 * 256 + at 4))
    (cond (eqb (at 0) 0x04) (Ban (at 1 * 256 + at 2))
    (cond (eqb (at 0) 0x05) (Automaton (at 1) (at 2) (at 3) (at 4))
    (cond (eqb (at 0) 0x06) (Step (at 1) (at 2) (at 3))
    (cond (eqb (at 0) 0x07) (Renaming (at 1))
    (cond (eqb (at 0) 0x08) (Reading (at 1) (at 2))
    (cond (eqb (at 0) 0x0A) (Entry (((at 1 * 256 + at 2) * 256 + at 3) * 256 + at 4)) End))))))))

two_back : (n : ℕ) → n / 256 * 256 + n % 256 ≡ n
two_back n = omega arith

four_back : (n : ℕ) → ((n / 2 ^ 24 * 256 + n / 2 ^ 16 % 256) * 256 + n / 2 ^ 8 % 256) * 256 + n % 256 ≡ n
four_back n = omega arith

front_is : (c : Command) (rest : List ℕ) → front (encode c ++ rest) ≡ c
front_is c rest = grind (arith, two_back, four_back)

pub same_command : (bs : List ℕ) (c d : Command) (r s : List ℕ) → bs ≡ encode c ++ r → bs ≡ encode d ++ s → c ≡ d
same_command bs c d r s p q = sym (front_is c r) ∙ ap front (sym p ∙ q) ∙ front_is d s

pub same_rest : (bs xs r s : List ℕ) → bs ≡ xs ++ r → bs ≡ xs ++ s → r ≡ s
same_rest bs xs r s p q = sym (drop-append_seam xs r) ∙ ap (drop (length xs)) (sym p ∙ q) ∙ drop-append_seam xs s

pub encodes_push : (cs : List Command) (c : Command) → encodes (cs ++ (c ∷ [])) ≡ encodes cs ++ encode c
encodes_push [] c = append-nil (encode c)
encodes_push (x ∷ xs) c = ap (λ l. encode x ++ l) (encodes_push xs c) ∙ sym (append_assoc (encode x) (encodes xs) (encode c))

ordered_from : (before cs : List Command) (c : Command) → Ordered before cs → allowed (before ++ cs) c ≡ true → Ordered before (cs ++ (c ∷ []))
ordered_from before [] c h a = (subst (λ l. allowed l c ≡ true) (append-nil before) a, tt)
ordered_from before (x ∷ xs) c h a = (h.0, ordered_from (before ++ (x ∷ [])) xs c h.1 (subst (λ l. allowed l c ≡ true) (sym (append_assoc before (x ∷ []) xs)) a))

pub ordered_push : (cs : List Command) (c : Command) → Ordered [] cs → allowed cs c ≡ true → Ordered [] (cs ++ (c ∷ []))
ordered_push cs c h a = ordered_from [] cs c h a
