-- What a derivation of entries looks like at its root. Assumes nothing.
use Rattle.std.proofs.Common.{◌≡◌, ℕ, suc, ◌+◌, ◌-◌, ◌<◌, ◌≤◌, List, [], ◌∷◌, ◌++◌, length, take, drop, Some, sym, refl, ap, ◌∙◌, subst, ap₂, arith, length-append, take-append-drop}
use Rattle.grammar.specs.declared.rule.Expansion.TheVariants.{Pair, Leaf}
use Rattle.grammar.specs.declared.rule.Rule.{Rule}
use Rattle.grammar.specs.Grammars.{Meaning}
use Rattle.grammar.specs.Derivations.{Tree, leaf, node, leaf_rule, pair_rule, ByLeaf, Derives, Fits, DerivesEntries, leaves}

-- the rule number at the root
abbrev pub root : Tree → ℕ
root (leaf i) = i
root (node i l r) = i

pub some_leaf : (t : Tree) → 1 ≤ leaves t
some_leaf (leaf i) = omega arith
some_leaf (node i l r) = omega (arith, some_leaf l)

pub fits_length : (w es : List ℕ) → Fits w es → length w ≡ length es
fits_length [] [] f = refl
fits_length [] (e ∷ es) f = absurd f
fits_length (c ∷ w) [] f = absurd f
fits_length (c ∷ w) (e ∷ es) f = ap suc (fits_length w es f.1)

pub fits_append : (u v xs ys : List ℕ) → Fits u xs → Fits v ys → Fits (u ++ v) (xs ++ ys)
fits_append [] v [] ys f g = g
fits_append [] v (a ∷ xs) ys f g = absurd f
fits_append (c ∷ u) v [] ys f g = absurd f
fits_append (c ∷ u) v (a ∷ xs) ys f g = (f.0, fits_append u v xs ys f.1 g)

pub fits_front : (u v es : List ℕ) → Fits (u ++ v) es → Fits u (take (length u) es)
fits_front [] v es f = tt
fits_front (c ∷ u) v [] f = absurd f
fits_front (c ∷ u) v (e ∷ es) f = (f.0, fits_front u v es f.1)

pub fits_back : (u v es : List ℕ) → Fits (u ++ v) es → Fits v (drop (length u) es)
fits_back [] v es f = f
fits_back (c ∷ u) v [] f = absurd f
fits_back (c ∷ u) v (e ∷ es) f = fits_back u v es f.1

module _ (m : Meaning) where
  pub derives_length : (A : ℕ) (w : List ℕ) (t : Tree) → Derives m A w t → length w ≡ leaves t
  derives_length A w (leaf i) d = ap length d.word
  derives_length A w (node i l r) d =
      ap length d.word ∙ length-append d.first d.rest ∙ ap₂ ◌+◌ (derives_length d.left d.first l d.on_left) (derives_length d.right d.rest r d.on_right)

  pub entries_length : (A : ℕ) (es : List ℕ) (t : Tree) → DerivesEntries m A es t → length es ≡ leaves t
  entries_length A es t d = sym (fits_length d.word es d.fits) ∙ derives_length A d.word t d.derives

  -- the root's rule
  pub root_rule : (A : ℕ) (w : List ℕ) (t : Tree) → Derives m A w t → (r : Rule) × (m.rule (root t) ≡ Some r) × (r.lhs ≡ A)
  root_rule A w (leaf i) d = (leaf_rule A d.code d.cost d.bottom, d.rule, refl)
  root_rule A w (node i l r) d = (pair_rule A d.left d.right d.cost d.bottom, d.rule, refl)

  module _ (i A : ℕ) (rule : Rule) (there : m.rule i ≡ Some rule) where
    same_rule : (k : ℕ) → k ≡ i → (other : Rule) → m.rule k ≡ Some other → other.expansion ≡ rule.expansion
    same_rule k e other there' = let same : other ≡ rule = cc in ap (λ (r : Rule). r.expansion) same

    same_code : (k : ℕ) → k ≡ i → (c : ℕ) → rule.expansion ≡ Leaf c → (w : List ℕ) → (d : ByLeaf m A w k) → d.code ≡ c
    same_code k e c is w d = let same : Leaf d.code ≡ rule.expansion = same_rule k e (leaf_rule A d.code d.cost d.bottom) d.rule in cc

    -- at a leaf rule
    pub leaf_shape : (c : ℕ) → rule.expansion ≡ Leaf c → (es : List ℕ) (t : Tree) → DerivesEntries m A es t → root t ≡ i → (t ≡ leaf i) × Fits (c ∷ []) es
    leaf_shape c is es (leaf k) d at =
        (ap leaf at, subst (λ w. Fits w es) (d.derives.word ∙ ap (λ x. x ∷ []) (same_code k at c is d.word d.derives)) d.fits)
    leaf_shape c is es (node k l r) d at =
        let e = d.derives in
        let same : Pair e.left e.right ≡ rule.expansion = same_rule k at (pair_rule A e.left e.right e.cost e.bottom) e.rule in
        let z : ◌≡◌ {A = ℕ} 0 1 = cc in absurd (let k : ⊥ = omega arith in k)

    pub leaf_made : (c : ℕ) → rule.expansion ≡ Leaf c → rule.lhs ≡ A → (es : List ℕ) → Fits (c ∷ []) es → DerivesEntries m A es (leaf i)
    leaf_made c is from es f = record {
      word = c ∷ [];
      fits = f;
      derives = record {
        code = c;
        cost = rule.cost;
        bottom = rule.bottom;
        rule = there ∙ ap₂ (λ lhs e. Some (record { lhs = lhs; expansion = e; cost = rule.cost; bottom = rule.bottom })) from is;
        word = refl;
      };
    }

    -- at a pair rule: the entries are cut in two
    pub node_shape : (B C : ℕ) → rule.expansion ≡ Pair B C → (es : List ℕ) (t : Tree) → DerivesEntries m A es t → root t ≡ i
        → (j : ℕ) × (j < length es - 1) × ((l r : Tree) × DerivesEntries m B (take (suc j) es) l × DerivesEntries m C (drop (suc j) es) r × (t ≡ node i l r))
    node_shape B C is es (leaf k) d at =
        let e = d.derives in
        let same : Leaf e.code ≡ rule.expansion = same_rule k at (leaf_rule A e.code e.cost e.bottom) e.rule in
        let z : ◌≡◌ {A = ℕ} 0 1 = cc in absurd (let k : ⊥ = omega arith in k)
    node_shape B C is es (node k l r) d at =
        let e = d.derives in
        let u = e.first in
        let v = e.rest in
        let fit : Fits (u ++ v) es = subst (λ w. Fits w es) e.word d.fits in
        let left_length = derives_length e.left u l e.on_left in
        let right_length = derives_length e.right v r e.on_right in
        let left_some = some_leaf l in
        let right_some = some_leaf r in
        let whole : length es ≡ length u + length v = sym (fits_length (u ++ v) es fit) ∙ length-append u v in
        let back : length u ≡ suc (length u - 1) = omega arith in
        let inside : length u - 1 < length es - 1 = omega arith in
        let same : Pair e.left e.right ≡ rule.expansion = same_rule k at (pair_rule A e.left e.right e.cost e.bottom) e.rule in
        let same_left : e.left ≡ B = cc in
        let same_right : e.right ≡ C = cc in (
          length u - 1,
          inside,
          (
            l,
            r,
            record { word = u; fits = subst (λ n. Fits u (take n es)) back (fits_front u v es fit); derives = subst (λ N. Derives m N u l) same_left e.on_left },
            record { word = v; fits = subst (λ n. Fits v (drop n es)) back (fits_back u v es fit); derives = subst (λ N. Derives m N v r) same_right e.on_right },
            ap (λ n. node n l r) at,
          ),
        )

    pub node_made : (B C : ℕ) → rule.expansion ≡ Pair B C → rule.lhs ≡ A → (es : List ℕ) (j : ℕ) (l r : Tree) → DerivesEntries m B (take j es) l → DerivesEntries m C (drop j es) r → DerivesEntries m A es (node i l r)
    node_made B C is from es j l r p q = record {
      word = p.word ++ q.word;
      fits = subst (Fits (p.word ++ q.word)) (take-append-drop j es) (fits_append p.word q.word (take j es) (drop j es) p.fits q.fits);
      derives = record {
        left = B;
        right = C;
        cost = rule.cost;
        bottom = rule.bottom;
        first = p.word;
        rest = q.word;
        rule = there ∙ ap₂ (λ lhs e. Some (record { lhs = lhs; expansion = e; cost = rule.cost; bottom = rule.bottom })) from is;
        word = refl;
        on_left = p.derives;
        on_right = q.derives;
      };
    }
