-- One node more of a tree. Assumes nothing.
use Rattle.std.proofs.Common.{◌≡◌, ℕ, ◌+◌, ◌-◌, ◌*◌, ◌<◌, ◌≤◌, List, [], ◌∷◌, ◌++◌, length, set, Some, None, Option, unwrap_or, sym, refl, ap, ◌∙◌, subst, ap₂, arith, length-append}
use Rattle.semiring.specs.declared.cost.Cost.{Cost}
use Rattle.semiring.specs.Costs.{cost, none}
use Rattle.grammar.specs.declared.rule.Expansion.{Expansion}
use Rattle.grammar.specs.declared.rule.Expansion.TheVariants.{Pair, Leaf}
use Rattle.grammar.specs.declared.rule.Rule.{Rule}
use Rattle.grammar.specs.Grammars.{Meaning, Shown, Declared}
use Rattle.grammar.specs.Derivations.{leaf, node, leaves, pair_rule}
use Rattle.grammar.specs.Spans.{Filled}
use Rattle.tree.specs.declared.node.Node.{Node}
use Rattle.tree.specs.declared.node.Choice.{Choice}
use Rattle.tree.specs.declared.record.Record.{Record}
use Rattle.tree.specs.Rivals.{Attains, Rival, First}
use Rattle.tree.specs.Trees.{bottom_of, record_of, records}
use Rattle.tree.specs.Steps.{IsNode, IsPair, IsParts, Cuts, Picked, PickedOf, Chose, put, Taken, Wrote}
use Rattle.tree.proofs.Choosing.{rival_exists, attained, picked_from, leaf_attained, pair_attained}
use Rattle.tree.proofs.Puts.{put_one, put_put}

-- a rule by its parts
pub as_pair : (r : Rule) (A B C : ℕ) → r.lhs ≡ A → r.expansion ≡ Pair B C → r ≡ pair_rule A B C r.cost r.bottom
as_pair r A B C from into = ap₂ (λ a x. record { lhs = a; expansion = x; cost = r.cost; bottom = r.bottom }) from into

-- what was written at a node, by its span and its nonterminal
pub wrote_at : {weigh : Rule → Cost} {m : Meaning} {es : List ℕ} {cell : ℕ → ℕ → ℕ → Cost} {old new : List Record} {at begin end A : ℕ} (n : Node) → IsNode n begin end A
    → Wrote weigh m es cell old at n.begin n.end n.nonterminal new → Wrote weigh m es cell old at begin end A new
wrote_at {weigh} {m} {es} {cell} {old} {new} {at} n is w = rw (← is.begins, ← is.ends, ← is.from) w

-- a choice that makes two parts: it is a pair rule's, and what is known of the cut and of the parts
pub record SplitAt (n begin end : ℕ) (c : Choice) (front back : Node) : Type 0 where
  pub left : ℕ
  pub right : ℕ
  pub is : c.rule.expansion ≡ Pair left right
  pub low : begin < c.cut
  pub high : c.cut < end
  pub left_named : left < n
  pub right_named : right < n
  pub front_is : IsNode front begin c.cut left
  pub back_is : IsNode back c.cut end right

module _ (n begin end : ℕ) (c : Choice) (cuts : Cuts n begin end c.cut c.rule.expansion) where
  pub cut_inside : IsPair c.rule.expansion → (begin < c.cut) × (c.cut < end)
  cut_inside = go c.rule.expansion cuts
    where
      go : (x : Expansion) → Cuts n begin end c.cut x → IsPair x → (begin < c.cut) × (c.cut < end)
      go (Pair B C) p h = (p.0, p.1)
      go (Leaf code) p h = absurd h

  pub split : (front back : Node) → IsParts c.rule.expansion begin c.cut end (Some (front, back)) → SplitAt n begin end c front back
  split front back = go c.rule.expansion refl cuts
    where
      go : (x : Expansion) → c.rule.expansion ≡ x → Cuts n begin end c.cut x → IsParts x begin c.cut end (Some (front, back)) → SplitAt n begin end c front back
      go (Pair B C) is k p = record { left = B; right = C; is = is; low = k.0; high = k.1; left_named = k.2; right_named = k.3; front_is = p.0; back_is = p.1 }
      go (Leaf code) is k p = absurd p

-- parts from nonterminal 0 are parts in each grammar
cuts_more : (n begin end k : ℕ) → 1 ≤ n → (x : Expansion) → Cuts 1 begin end k x → Cuts n begin end k x
cuts_more n begin end k some (Pair B C) p = (p.0, p.1, (let h = p.2 in omega arith), (let h = p.3 in omega arith))
cuts_more n begin end k some (Leaf code) p = p

module _ (weigh : Rule → Cost) (m : Meaning) (es : List ℕ) (cell : ℕ → ℕ → ℕ → Cost) (begin end A : ℕ) (c : Choice) where
  picked_cuts : Shown m → Picked (Rival weigh m es cell begin end A) m c → Cuts m.nonterminals begin end c.cut c.rule.expansion
  picked_cuts shown p = go c.rule.expansion (shown.rules p.number c.rule p.there).into (attained weigh m es cell begin end A c p)
    where
      go : (x : Expansion) → Declared m x → Attains es cell (weigh c.rule) (cell begin end A).value begin end x c.cut → Cuts m.nonterminals begin end c.cut x
      go (Pair B C) names p = (p.after, p.before, names.0, names.1)
      go (Leaf code) names p = p.one

-- the first rival, or else other parts
pub chose_of : (weigh : Rule → Cost) (m : Meaning) (es : List ℕ) (cell : ℕ → ℕ → ℕ → Cost) (begin end A : ℕ) → Shown m → (r : Option Choice) → PickedOf (Rival weigh m es cell begin end A) m r
    → (d : Choice) → Cuts 1 begin end d.cut d.rule.expansion → Chose (Rival weigh m es cell begin end A) m begin end (unwrap_or r d)
chose_of weigh m es cell begin end A shown None never d cuts = record { cuts = cuts_more m.nonterminals begin end d.cut shown.some d.rule.expansion cuts; picked = λ i k r. absurd (never i k r) }
chose_of weigh m es cell begin end A shown (Some c) p d cuts = record { cuts = picked_cuts weigh m es cell begin end A c shown p; picked = λ i k r. p }

module _ (weigh : Rule → Cost) (m : Meaning) (es : List ℕ) (cell : ℕ → ℕ → ℕ → Cost) (begin end A : ℕ) (some : begin < end) (within : end ≤ length es) (named : A < m.nonterminals)
    (old : List Record) (at : ℕ) (room : at + (2 * (end - begin) - 1) ≤ length old) (c : Choice) (chose : Chose (Rival weigh m es cell begin end A) m begin end c) where
  abbrev R : ℕ → ℕ → Type 0
  R = Rival weigh m es cell begin end A

  picked : Filled cost weigh m es cell → (cell begin end A).value < none → Picked R m c
  picked filled h =
      let d = rival_exists weigh m es cell begin end A (filled begin end A some within named) h in
      chose.picked d.0 d.1 d.2

  bottom_is : (p : Picked R m c) → c.rule.bottom ≡ bottom_of (m.rule p.number)
  bottom_is p = sym (ap bottom_of p.there)

  leaf_wrote : (code : ℕ) → c.rule.expansion ≡ Leaf code → begin + 1 ≡ end → Wrote weigh m es cell old at begin end A (set old at (record_of begin end c.rule.bottom))
  leaf_wrote code is one = record {
    part = record_of begin end c.rule.bottom ∷ [];
    puts = put_one old at (record_of begin end c.rule.bottom) (omega arith);
    count = omega arith;
    taken = λ filled h.
        let p = picked filled h in
        let cut = (leaf_attained weigh m es cell begin end A c code p is).cut in
        record {
          tree = leaf p.number;
          covers = one;
          are = ap₂ (λ f b. record_of begin f b ∷ []) (sym one) (bottom_is p);
          rivals = subst (R p.number) cut p.rival;
          lowest = subst (First R p.number) cut p.first;
        };
  }

  -- a choice that makes no parts is a leaf rule's
  pub whole_wrote : IsParts c.rule.expansion begin c.cut end None → Wrote weigh m es cell old at begin end A (set old at (record_of begin end c.rule.bottom))
  whole_wrote = go c.rule.expansion refl chose.cuts
    where
      go : (x : Expansion) → c.rule.expansion ≡ x → Cuts m.nonterminals begin end c.cut x → IsParts x begin c.cut end None → Wrote weigh m es cell old at begin end A (set old at (record_of begin end c.rule.bottom))
      go (Pair B C) is k p = absurd p
      go (Leaf code) is k p = leaf_wrote code is k

  module _ (left right : ℕ) (is : c.rule.expansion ≡ Pair left right) (low : begin < c.cut) (high : c.cut < end) (mid new : List Record)
      (l : Wrote weigh m es cell (set old at (record_of begin end c.rule.bottom)) (at + 1) begin c.cut left mid)
      (r : Wrote weigh m es cell mid (at + 2 * (c.cut - begin)) c.cut end right new) where
    node_taken : Picked R m c → Filled cost weigh m es cell → (cell begin end A).value < none → Taken weigh m es cell begin end A (record_of begin end c.rule.bottom ∷ (l.part ++ r.part))
    node_taken p filled h =
        let q = c.rule in
        let w = pair_attained weigh m es cell begin end A c left right p is in
        let costs = w.costs in
        let rule : m.rule p.number ≡ Some (pair_rule A left right q.cost q.bottom) = p.there ∙ ap Some (as_pair q A left right (picked_from weigh m es cell begin end A c p) is) in
        let front = l.taken filled (omega arith) in
        let back = r.taken filled (omega arith) in
        let whole : end ≡ begin + (leaves front.tree + leaves back.tree) = (let x = front.covers in let y = back.covers in omega arith) in
        record {
          tree = node p.number front.tree back.tree;
          covers = sym whole;
          are = ap₂ (λ x b. record_of begin x b ∷ (l.part ++ r.part)) whole (bottom_is p)
              ∙ ap₂ (λ x y. record_of begin (begin + (leaves front.tree + leaves back.tree)) (bottom_of (m.rule p.number)) ∷ (x ++ y)) front.are (back.are ∙ ap (records m back.tree) (sym front.covers));
          rivals = record { left = left; right = right; cost = q.cost; bottom = q.bottom; cut = c.cut; rule = rule; here = p.rival; on_left = front.rivals; on_right = back.rivals };
          lowest = record { left = left; right = right; cost = q.cost; bottom = q.bottom; cut = c.cut; rule = rule; here = p.first; on_left = front.lowest; on_right = back.lowest };
        }

    pub node_wrote : Wrote weigh m es cell old at begin end A new
    node_wrote =
        let n = record_of begin end c.rule.bottom in
        let first : mid ≡ put old at (n ∷ l.part) = l.puts ∙ ap (λ o. put o (at + 1) l.part) (put_one old at n (omega arith)) ∙ put_put old at (n ∷ []) l.part (at + 1) (omega arith) refl in
        let here : at + 2 * (c.cut - begin) ≡ at + length (n ∷ l.part) = omega (arith, l.count) in
        let fits : at + length (n ∷ l.part) ≤ length old = omega (arith, l.count) in
        record {
          part = n ∷ (l.part ++ r.part);
          puts = r.puts ∙ ap (λ o. put o (at + 2 * (c.cut - begin)) r.part) first ∙ put_put old at (n ∷ l.part) r.part (at + 2 * (c.cut - begin)) fits here;
          count = omega (arith, l.count, r.count, length-append l.part r.part);
          taken = λ filled h. node_taken (picked filled h) filled h;
        }
