-- What a renamed grammar derives. Assumes nothing.
use Rattle.std.proofs.Common.{◌≡◌, ℕ, ◌+◌, ◌*◌, ◌/◌, ◌%◌, ◌<◌, Bool, cond, List, [], ◌∷◌, ◌++◌, length, Some, None, Option, sym, refl, ap, ◌∙◌, subst, ap₂, div-add-mod', arith}
use lib.Arith.{digits_div, digits_mod}
use Rattle.grammar.specs.declared.refusal.Refusal.{Refusal}
use Rattle.grammar.specs.declared.rule.Expansion.{Expansion}
use Rattle.grammar.specs.declared.rule.Expansion.TheVariants.{Pair, Leaf}
use Rattle.grammar.specs.Grammars.{Meaning}
use Rattle.grammar.specs.Derivations.{Tree, leaf, node, leaves, leaf_rule, pair_rule, Derives}
use Rattle.grammar.proofs.Shapes.{derives_length}
use Rattle.automata.specs.Making.{if_refused}
use Rattle.automata.specs.Laws.Truths.{some_is}
use Rattle.layers.specs.Intersection.{blank}
use Rattle.layers.specs.Renaming.{Recorder, Recording, ReadAs, renamed_any, renamed, renaming, renaming_refused}
use Rattle.layers.specs.Matching.{OneForOne, Stems, PassesThrough, divided}
use Rattle.layers.specs.Promises.{RenamingMatches}
use Rattle.layers.specs.Laws.Crossed.{step_is}
use Rattle.layers.specs.Laws.Renamed.{leaf_read, pair_read}

-- ---- words

read_append : (k : Recorder) (w v x y : List ℕ) → ReadAs k w v → ReadAs k x y → ReadAs k (w ++ x) (v ++ y)
read_append k [] [] x y f g = g
read_append k [] (a ∷ v) x y f g = absurd f
read_append k (b ∷ w) [] x y f g = absurd f
read_append k (b ∷ w) (a ∷ v) x y f g = (f.0, read_append k w v x y f.1 g)

record Split (k : Recorder) (w v y : List ℕ) : Type 0 where
  first : List ℕ
  rest : List ℕ
  word : w ≡ first ++ rest
  on_first : ReadAs k first v
  on_rest : ReadAs k rest y

read_split : (k : Recorder) (w v y : List ℕ) → ReadAs k w (v ++ y) → Split k w v y
read_split k w [] y f = record { first = []; rest = w; word = refl; on_first = tt; on_rest = f }
read_split k [] (a ∷ v) y f = absurd f
read_split k (b ∷ w) (a ∷ v) y f =
    let h = read_split k w v y f.1 in
    record { first = b ∷ h.first; rest = h.rest; word = ap (λ (u : List ℕ). b ∷ u) h.word; on_first = (f.0, h.on_first); on_rest = h.on_rest }

record One (k : Recorder) (w : List ℕ) (a : ℕ) : Type 0 where
  code : ℕ
  word : w ≡ code ∷ []
  read : k.read code ≡ Some a

read_one : (k : Recorder) (w : List ℕ) (a : ℕ) → ReadAs k w (a ∷ []) → One k w a
read_one k [] a f = absurd f
read_one k (b ∷ []) a f = record { code = b; word = refl; read = f.0 }
read_one k (b ∷ c ∷ w) a f = absurd f.1

append_same : (u v x y : List ℕ) → length u ≡ length v → u ++ x ≡ v ++ y → (u ≡ v) × (x ≡ y)
append_same [] [] x y e f = (refl, f)
append_same [] (b ∷ v) x y e f = absurd (omega arith)
append_same (a ∷ u) [] x y e f = absurd (omega arith)
append_same (a ∷ u) (b ∷ v) x y e f =
    let heads : a ≡ b = cc in
    let tails : u ++ x ≡ v ++ y = cc in
    let h = append_same u v x y (omega arith) tails in
    (ap₂ ◌∷◌ heads h.0, h.1)

leaves-divided : (q : ℕ) (t : Tree) → leaves (divided q t) ≡ leaves t
leaves-divided q (leaf i) = refl
leaves-divided q (node i l r) = ap₂ ◌+◌ (leaves-divided q l) (leaves-divided q r)

module _ (k : Recorder) (wk : Recording k) (m : Meaning) where
  abbrev C : ℕ
  C = k.count

  pos : 0 < C
  pos = wk.some

  into : (a : ℕ) (w : List ℕ) (t : Tree) → Derives (renamed k m) a w t → (v : List ℕ) × ReadAs k w v × Derives m a v (divided C t)
  into a w (leaf n) d =
      let h = leaf_read k (n % C) a d.code d.cost d.bottom (m.rule (n / C)) d.rule in (
        h.a ∷ [],
        subst (λ (u : List ℕ). ReadAs k u (h.a ∷ [])) (sym d.word) (ap k.read h.named ∙ h.read, tt),
        record { code = h.a; cost = d.cost; bottom = d.bottom; rule = h.rule; word = refl },
      )
  into a w (node n l r) d =
      let h = pair_read k (n % C) a d.left d.right d.cost d.bottom (m.rule (n / C)) d.rule in
      let f = into d.left d.first l d.on_left in
      let g = into d.right d.rest r d.on_right in (
        f.0 ++ g.0,
        subst (λ (u : List ℕ). ReadAs k u (f.0 ++ g.0)) (sym d.word) (read_append k d.first f.0 d.rest g.0 f.1 g.1),
        record {
          left = d.left;
          right = d.right;
          cost = d.cost;
          bottom = d.bottom;
          first = f.0;
          rest = g.0;
          rule = h.rule;
          word = refl;
          on_left = f.2;
          on_right = g.2;
        },
      )

  apart : (s t : Tree) (a b : ℕ) (w : List ℕ) → Derives (renamed k m) a w s → Derives (renamed k m) b w t → divided C s ≡ divided C t → s ≡ t
  apart (leaf n) (leaf j) a b w d e same =
      let h = leaf_read k (n % C) a d.code d.cost d.bottom (m.rule (n / C)) d.rule in
      let g = leaf_read k (j % C) b e.code e.cost e.bottom (m.rule (j / C)) e.rule in
      let i : n / C ≡ j / C = cc in
      let words : d.code ∷ [] ≡ e.code ∷ [] = sym d.word ∙ e.word in
      let codes : d.code ≡ e.code = cc in
      let mods : n % C ≡ j % C = sym h.named ∙ codes ∙ g.named in
      ap leaf (sym (div-add-mod' n C) ∙ (λ z. i z * C + mods z) ∙ div-add-mod' j C)
  apart (leaf n) (node j x y) a b w d e same = let z : ◌≡◌ {A = ℕ} 0 1 = cc in absurd (omega arith)
  apart (node n x y) (leaf j) a b w d e same = let z : ◌≡◌ {A = ℕ} 0 1 = cc in absurd (omega arith)
  apart (node n x y) (node j x₁ y₁) a b w d e same =
      let h = pair_read k (n % C) a d.left d.right d.cost d.bottom (m.rule (n / C)) d.rule in
      let g = pair_read k (j % C) b e.left e.right e.cost e.bottom (m.rule (j / C)) e.rule in
      let i : n / C ≡ j / C = cc in
      let same_left : divided C x ≡ divided C x₁ = cc in
      let same_right : divided C y ≡ divided C y₁ = cc in
      let lengths : length d.first ≡ length e.first =
      derives_length (renamed k m) d.left d.first x d.on_left ∙ sym (leaves-divided C x) ∙ ap leaves same_left ∙ leaves-divided C x₁
      ∙ sym (derives_length (renamed k m) e.left e.first x₁ e.on_left) in
      let words = append_same d.first e.first d.rest e.rest lengths (sym d.word ∙ e.word) in
      let el = subst (λ (u : List ℕ). Derives (renamed k m) e.left u x₁) (sym words.0) e.on_left in
      let er = subst (λ (u : List ℕ). Derives (renamed k m) e.right u y₁) (sym words.1) e.on_right in
      let l = apart x x₁ d.left e.left d.first d.on_left el same_left in
      let o = apart y y₁ d.right e.right d.rest d.on_right er same_right in
      let mods : n % C ≡ j % C = h.first ∙ sym g.first in
      let num : n ≡ j = sym (div-add-mod' n C) ∙ (λ z. i z * C + mods z) ∙ div-add-mod' j C in
      (λ z. node (num z) (l z) (o z))

  rule_at : (i b : ℕ) → b < C → (renamed k m).rule (i * C + b) ≡ renamed_any k b (m.rule i)
  rule_at i b hb = λ z. renamed_any k (digits_mod i hb z) (m.rule (digits_div i hb z))

  onto : (t : Tree) (a : ℕ) (w v : List ℕ) → ReadAs k w v → Derives m a v t → (s : Tree) × Derives (renamed k m) a w s × (divided C s ≡ t)
  onto (leaf i) a w v f d =
      let h = read_one k w d.code (subst (ReadAs k w) d.word f) in
      let hb : h.code < C = (wk.within h.code d.code h.read).0 in
      let made = leaf_rule a h.code d.cost d.bottom in (
        leaf (i * C + h.code),
        record {
          code = h.code;
          cost = d.cost;
          bottom = d.bottom;
          word = h.word;
          rule = rule_at i h.code hb ∙ ap (renamed_any k h.code) d.rule ∙ ap (λ (b : Bool). cond b (Some made) None) (step_is (k.read h.code) d.code h.read);
        },
        ap leaf (digits_div i hb),
      )
  onto (node i x y) a w v f d =
      let h = read_split k w d.first d.rest (subst (ReadAs k w) d.word f) in
      let l = onto x d.left h.first d.first h.on_first d.on_left in
      let r = onto y d.right h.rest d.rest h.on_rest d.on_right in
      let num : (i * C + 0) / C ≡ i = digits_div i pos in (
        node (i * C + 0) l.0 r.0,
        record {
          left = d.left;
          right = d.right;
          cost = d.cost;
          bottom = d.bottom;
          first = h.first;
          rest = h.rest;
          rule = rule_at i 0 pos ∙ ap (renamed_any k 0) d.rule;
          word = h.word;
          on_left = l.1;
          on_right = r.1;
        },
        (λ z. node (num z) (l.2 z) (r.2 z)),
      )

  renamed_matches : RenamingMatches OneForOne k m (renamed k m)
  renamed_matches = record {
    from_each = λ a w. record {
      into = λ t d. let h = into a w t d in record { read = h.0; reads = h.1; holds = h.2 };
      apart = λ s t d e. apart s t a a w d e;
      onto = λ t d. onto t a w d.read d.reads d.holds;
    };
    from_starts = λ w. record {
      into = λ t d. let h = into d.from w t d.derives in record { read = h.0; reads = h.1; holds = record { from = d.from; start = d.start; derives = h.2 } };
      apart = λ s t d e. apart s t d.from e.from w d.derives e.derives;
      onto = λ t d.
          let h = onto t d.holds.from w d.read d.reads d.holds.derives in
          (h.0, record { from = d.holds.from; start = d.holds.start; derives = h.1 }, h.2);
    };
  }

module _ (k : Recorder) (m : Meaning) where
  stems_at : (n x : ℕ) (y : Expansion) (cost bottom : ℕ) → (renamed k m).rule n ≡ Some (record { lhs = x; expansion = y; cost = cost; bottom = bottom }) → Stems m (n / k.count) (record { lhs = x; expansion = y; cost = cost; bottom = bottom })
  stems_at n x (Leaf code) cost bottom e =
      let h = leaf_read k (n % k.count) x code cost bottom (m.rule (n / k.count)) e in
      record { rule = leaf_rule x h.a cost bottom; there = h.rule; cost = refl; bottom = refl }
  stems_at n x (Pair left right) cost bottom e =
      let h = pair_read k (n % k.count) x left right cost bottom (m.rule (n / k.count)) e in
      record { rule = pair_rule x left right cost bottom; there = h.rule; cost = refl; bottom = refl }

  renamed_passes : PassesThrough (renamed k m) m (λ n. n / k.count)
  renamed_passes n r e = stems_at n r.lhs r.expansion r.cost r.bottom e

-- laid without refusal, the layer is the renamed grammar
laid : (k : Recorder) (m : Meaning) → renaming_refused k m ≡ None → renamed k m ≡ renaming k m
laid k m e = sym (ap (λ (o : Option Refusal). if_refused o blank (renamed k m)) e)

pub renaming_matches : (k : Recorder) (m : Meaning) → Recording k → renaming_refused k m ≡ None → RenamingMatches OneForOne k m (renaming k m)
renaming_matches k m wk e = subst (RenamingMatches OneForOne k m) (laid k m e) (renamed_matches k wk m)

pub renaming_passes : (k : Recorder) (m : Meaning) → renaming_refused k m ≡ None → PassesThrough (renaming k m) m (λ n. n / k.count)
renaming_passes k m e = subst (λ (above : Meaning). PassesThrough above m (λ n. n / k.count)) (laid k m e) (renamed_passes k m)

-- a word is read as one word only
pub read_same : (c : Recorder) (w u v : List ℕ) → ReadAs c w u → ReadAs c w v → u ≡ v
read_same c [] [] [] f g = refl
read_same c [] [] (b ∷ v) f g = absurd g
read_same c [] (a ∷ u) v f g = absurd f
read_same c (x ∷ w) [] v f g = absurd f
read_same c (x ∷ w) (a ∷ u) [] f g = absurd g
read_same c (x ∷ w) (a ∷ u) (b ∷ v) f g = ap₂ ◌∷◌ (some_is (sym f.0 ∙ g.0)) (read_same c w u v f.1 g.1)
