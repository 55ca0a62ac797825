-- What a grammar crossed with an automaton derives. Assumes nothing.
use Rattle.std.proofs.Common.{◌≡◌, ℕ, ◌/◌, ◌%◌, ◌<◌, Bool, true, cond, eqb, List, [], ◌∷◌, ◌++◌, Some, None, Option, sym, refl, ap, ◌∙◌, subst, ap₂, mod-lt, arith, eq-eqb, eqb-true}
use Rattle.grammar.specs.declared.rule.Rule.{Rule}
use Rattle.grammar.specs.declared.rule.Expansion.{Expansion}
use Rattle.grammar.specs.declared.rule.Expansion.TheVariants.{Pair, Leaf}
use Rattle.grammar.specs.declared.refusal.Refusal.{Refusal}
use Rattle.grammar.specs.Grammars.{Meaning}
use Rattle.grammar.specs.Derivations.{Tree, leaf, node, leaf_rule, pair_rule, Derives, FromStarts}
use Rattle.automata.specs.Machines.{Machine, Working, onwards, run, Accepted}
use Rattle.automata.specs.Making.{if_refused}
use Rattle.automata.specs.Laws.Truths.{and_left, and_right, and_both, some_is}
use Rattle.layers.specs.Intersection.{crossed, crossed_number, cube, crossed_any, crossing, blank, intersection, intersection_refused}
use Rattle.layers.specs.Matching.{OneForOne, Stems, PassesThrough, divided}
use Rattle.layers.specs.Promises.{IntersectionMatches}
use Rattle.layers.specs.Laws.Numbers.{crossed_last, crossed_mid, crossed_base, crossed_whole, number_last, number_mid, number_first, number_base, number_whole, by_cube}
use Rattle.layers.specs.Laws.Crossed.{step_is, leaf_below, pair_below, code_of, left_of, right_of}

-- ---- runs

pub run_append : (k : Machine) (o : Option ℕ) (u v : List ℕ) → run k o (u ++ v) ≡ run k (run k o u) v
run_append k o [] v = refl
run_append k o (c ∷ u) v = run_append k (onwards k o c) u v

run_none : (k : Machine) (w : List ℕ) → run k None w ≡ None
run_none k [] = refl
run_none k (c ∷ w) = run_none k w

onwards_within : (k : Machine) → Working k → (o : Option ℕ) (c s : ℕ) → onwards k o c ≡ Some s → s < k.states
onwards_within k wk (Some x) c s e = (wk.within x c s e).to
onwards_within k wk None c s e = let z : ◌≡◌ {A = ℕ} 0 1 = cc in absurd (omega arith)

run_within : (k : Machine) → Working k → (o : Option ℕ) → ((s : ℕ) → o ≡ Some s → s < k.states) → (w : List ℕ) (s : ℕ) → run k o w ≡ Some s → s < k.states
run_within k wk o h [] s e = h s e
run_within k wk o h (c ∷ w) s e = run_within k wk (onwards k o c) (onwards_within k wk o c) w s e

-- the state between two parts of a word
between : (k : Machine) (o : Option ℕ) (v : List ℕ) (r : ℕ) → run k o v ≡ Some r → (s : ℕ) × (o ≡ Some s)
between k (Some s) v r e = (s, refl)
between k None v r e = let f : ◌≡◌ {A = Option ℕ} None (Some r) = sym (run_none k v) ∙ e in let z : ◌≡◌ {A = ℕ} 0 1 = cc in absurd (omega arith)

-- ---- a tree below has one word and one nonterminal

record Same (a b : ℕ) (u v : List ℕ) : Type 0 where
  from : a ≡ b
  word : u ≡ v

same_yield : (m : Meaning) (t : Tree) (a b : ℕ) (u v : List ℕ) → Derives m a u t → Derives m b v t → Same a b u v
unfolding code_of left_of right_of
same_yield m (leaf i) a b u v d e =
    let rules = some_is (sym d.rule ∙ e.rule) in
    record {
      from = ap (λ (y : Rule). y.lhs) rules;
      word = d.word ∙ ap (λ (y : Rule). code_of y.expansion ∷ []) rules ∙ sym e.word;
    }
same_yield m (node i l r) a b u v d e =
    let rules = some_is (sym d.rule ∙ e.rule) in
    let x = same_yield m l d.left e.left d.first e.first d.on_left e.on_left in
    let y = same_yield m r d.right e.right d.rest e.rest d.on_right e.on_right in
    record {
      from = ap (λ (y : Rule). y.lhs) rules;
      word = d.word ∙ ap₂ ◌++◌ x.word y.word ∙ sym e.word;
    }

-- ---- the two ways

record Parts (a b p o r s : ℕ) : Type 0 where
  base : a ≡ b
  first : p ≡ o
  last : r ≡ s

parts : (q a b p o r s : ℕ) → p < q → o < q → r < q → s < q → crossed q a p r ≡ crossed q b o s → Parts a b p o r s
parts q a b p o r s hp ho hr hs e = record {
  base = sym (crossed_base q a p r hp hr) ∙ ap (λ (x : ℕ). x / q / q) e ∙ crossed_base q b o s ho hs;
  first = sym (crossed_mid q a p r hp hr) ∙ ap (λ (x : ℕ). x / q % q) e ∙ crossed_mid q b o s ho hs;
  last = sym (crossed_last q a p r hr) ∙ ap (λ (x : ℕ). x % q) e ∙ crossed_last q b o s hs;
}

node_number : Tree → ℕ
node_number (leaf i) = i
node_number (node i l r) = i

module _ (k : Machine) (wk : Working k) (m : Meaning) where
  abbrev Q : ℕ
  Q = k.states

  pos : 0 < Q
  pos = wk.some

  record LeafParts (a p r : ℕ) (w : List ℕ) (n : ℕ) : Type 0 where
    code : ℕ
    cost : ℕ
    bottom : ℕ
    rule : m.rule (n / cube Q) ≡ Some (leaf_rule a code cost bottom)
    word : w ≡ code ∷ []
    number : n ≡ crossed_number Q (n / cube Q) p 0 r
    step : k.step p code ≡ Some r

  record NodeParts (a p r : ℕ) (w : List ℕ) (n : ℕ) (x y : Tree) : Type 0 where
    b : ℕ
    c : ℕ
    cost : ℕ
    bottom : ℕ
    mid : ℕ
    first : List ℕ
    rest : List ℕ
    mid_lt : mid < Q
    rule : m.rule (n / cube Q) ≡ Some (pair_rule a b c cost bottom)
    word : w ≡ first ++ rest
    number : n ≡ crossed_number Q (n / cube Q) p mid r
    on_left : Derives (crossing k m) (crossed Q b p mid) first x
    on_right : Derives (crossing k m) (crossed Q c mid r) rest y

  leaf_parts : (a p r : ℕ) (w : List ℕ) (n : ℕ) → p < Q → r < Q → Derives (crossing k m) (crossed Q a p r) w (leaf n) → LeafParts a p r w n
  leaf_parts a p r w n hp hr d =
      let h = leaf_below k (n / Q / Q % Q) (n / Q % Q) (n % Q) (crossed Q a p r) d.code d.cost d.bottom (m.rule (n / Q / Q / Q)) d.rule in
      let g = parts Q a h.a p (n / Q / Q % Q) r (n % Q) hp (mod-lt (n / Q / Q) pos) hr (mod-lt n pos) h.name in
      record {
        code = d.code;
        cost = d.cost;
        bottom = d.bottom;
        rule = ap m.rule (by_cube Q n) ∙ h.rule ∙ ap (λ (y : ℕ). Some (leaf_rule y d.code d.cost d.bottom)) (sym g.base);
        word = d.word;
        number = sym (number_whole Q n) ∙ (λ i. crossed_number Q (by_cube_back n i) (sym g.first i) (h.middle i) (sym g.last i));
        step = ap (λ (y : ℕ). k.step y d.code) g.first ∙ h.step ∙ ap Some (sym g.last);
      }
    where
      by_cube_back : (n : ℕ) → n / Q / Q / Q ≡ n / cube Q
      by_cube_back n = sym (by_cube Q n)

  node_parts : (a p r : ℕ) (w : List ℕ) (n : ℕ) (x y : Tree) → p < Q → r < Q → Derives (crossing k m) (crossed Q a p r) w (node n x y) → NodeParts a p r w n x y
  node_parts a p r w n x y hp hr d =
      let h = pair_below k (n / Q / Q % Q) (n / Q % Q) (n % Q) (crossed Q a p r) d.left d.right d.cost d.bottom (m.rule (n / Q / Q / Q)) d.rule in
      let g = parts Q a h.a p (n / Q / Q % Q) r (n % Q) hp (mod-lt (n / Q / Q) pos) hr (mod-lt n pos) h.name in
      let back : n / Q / Q / Q ≡ n / cube Q = sym (by_cube Q n) in
      let left_is : d.left ≡ crossed Q h.b p (n / Q % Q) = h.left_name ∙ ap (λ (z : ℕ). crossed Q h.b z (n / Q % Q)) (sym g.first) in
      let right_is : d.right ≡ crossed Q h.c (n / Q % Q) r = h.right_name ∙ ap (λ (z : ℕ). crossed Q h.c (n / Q % Q) z) (sym g.last) in
      record {
        b = h.b;
        c = h.c;
        cost = d.cost;
        bottom = d.bottom;
        mid = n / Q % Q;
        first = d.first;
        rest = d.rest;
        mid_lt = mod-lt (n / Q) pos;
        rule = ap m.rule (by_cube Q n) ∙ h.rule ∙ ap (λ (z : ℕ). Some (pair_rule z h.b h.c d.cost d.bottom)) (sym g.base);
        word = d.word;
        number = sym (number_whole Q n) ∙ (λ i. crossed_number Q (back i) (sym g.first i) (n / Q % Q) (sym g.last i));
        on_left = subst (λ (z : ℕ). Derives (crossing k m) z d.first x) left_is d.on_left;
        on_right = subst (λ (z : ℕ). Derives (crossing k m) z d.rest y) right_is d.on_right;
      }

  into : (a p r : ℕ) (w : List ℕ) (t : Tree) → p < Q → r < Q → Derives (crossing k m) (crossed Q a p r) w t → Derives m a w (divided (cube Q) t) × (run k (Some p) w ≡ Some r)
  into a p r w (leaf n) hp hr d =
      let h = leaf_parts a p r w n hp hr d in
      (record { code = h.code; cost = h.cost; bottom = h.bottom; rule = h.rule; word = h.word }, ap (run k (Some p)) h.word ∙ h.step)
  into a p r w (node n x y) hp hr d =
      let h = node_parts a p r w n x y hp hr d in
      let f = into h.b p h.mid h.first x hp h.mid_lt h.on_left in
      let g = into h.c h.mid r h.rest y h.mid_lt hr h.on_right in (
        record {
          left = h.b;
          right = h.c;
          cost = h.cost;
          bottom = h.bottom;
          first = h.first;
          rest = h.rest;
          rule = h.rule;
          word = h.word;
          on_left = f.0;
          on_right = g.0;
        },
        ap (run k (Some p)) h.word ∙ run_append k (Some p) h.first h.rest ∙ ap (λ (o : Option ℕ). run k o h.rest) f.1 ∙ g.1,
      )

  apart : (s t : Tree) (a b p r : ℕ) (u v : List ℕ) → p < Q → r < Q → Derives (crossing k m) (crossed Q a p r) u s → Derives (crossing k m) (crossed Q b p r) v t → divided (cube Q) s ≡ divided (cube Q) t → s ≡ t
  apart (leaf n) (leaf j) a b p r u v hp hr d e same =
      let h = leaf_parts a p r u n hp hr d in
      let g = leaf_parts b p r v j hp hr e in
      let i : n / cube Q ≡ j / cube Q = cc in
      ap leaf (h.number ∙ ap (λ (z : ℕ). crossed_number Q z p 0 r) i ∙ sym g.number)
  apart (leaf n) (node j x y) a b p r u v hp hr d e same = let z : ◌≡◌ {A = ℕ} 0 1 = cc in absurd (omega arith)
  apart (node n x y) (leaf j) a b p r u v hp hr d e same = let z : ◌≡◌ {A = ℕ} 0 1 = cc in absurd (omega arith)
  apart (node n x y) (node j x₁ y₁) a b p r u v hp hr d e same =
      let h = node_parts a p r u n x y hp hr d in
      let g = node_parts b p r v j x₁ y₁ hp hr e in
      let i : n / cube Q ≡ j / cube Q = cc in
      let same_left : divided (cube Q) x ≡ divided (cube Q) x₁ = cc in
      let same_right : divided (cube Q) y ≡ divided (cube Q) y₁ = cc in
      let hl = into h.b p h.mid h.first x hp h.mid_lt h.on_left in
      let gl = into g.b p g.mid g.first x₁ hp g.mid_lt g.on_left in
      let words = same_yield m (divided (cube Q) x₁) h.b g.b h.first g.first (subst (Derives m h.b h.first) same_left hl.0) gl.0 in
      let mids : h.mid ≡ g.mid = some_is (sym hl.1 ∙ ap (run k (Some p)) words.word ∙ gl.1) in
      let gleft = subst (λ (z : ℕ). Derives (crossing k m) (crossed Q g.b p z) g.first x₁) (sym mids) g.on_left in
      let gright = subst (λ (z : ℕ). Derives (crossing k m) (crossed Q g.c z r) g.rest y₁) (sym mids) g.on_right in
      let l = apart x x₁ h.b g.b p h.mid h.first g.first hp h.mid_lt h.on_left gleft same_left in
      let o = apart y y₁ h.c g.c h.mid r h.rest g.rest h.mid_lt hr h.on_right gright same_right in
      let num : n ≡ j = h.number ∙ (λ z. crossed_number Q (i z) p (mids z) r) ∙ sym g.number in
      (λ z. node (num z) (l z) (o z))

  rule_at : (i p s r : ℕ) → p < Q → s < Q → r < Q → (crossing k m).rule (crossed_number Q i p s r) ≡ crossed_any k p s r (m.rule i)
  rule_at i p s r hp hs hr = λ z.
      crossed_any k (number_first Q i p s r hp hs hr z) (number_mid Q i p s r hs hr z) (number_last Q i p s r hr z) (m.rule (number_base Q i p s r hp hs hr z))

  onto : (t : Tree) (a p r : ℕ) (w : List ℕ) → p < Q → r < Q → Derives m a w t → run k (Some p) w ≡ Some r → (s : Tree) × Derives (crossing k m) (crossed Q a p r) w s × (divided (cube Q) s ≡ t)
  onto (leaf i) a p r w hp hr d e =
      let stepped : k.step p d.code ≡ Some r = sym (ap (run k (Some p)) d.word) ∙ e in
      let made = leaf_rule (crossed Q a p r) d.code d.cost d.bottom in (
        leaf (crossed_number Q i p 0 r),
        record {
          code = d.code;
          cost = d.cost;
          bottom = d.bottom;
          word = d.word;
          rule = rule_at i p 0 r hp pos hr ∙ ap (crossed_any k p 0 r) d.rule ∙ ap (λ (b : Bool). cond b (Some made) None) (step_is (k.step p d.code) r stepped);
        },
        ap leaf (by_cube Q (crossed_number Q i p 0 r) ∙ number_base Q i p 0 r hp pos hr),
      )
  onto (node i x y) a p r w hp hr d e =
      let all : run k (run k (Some p) d.first) d.rest ≡ Some r = sym (run_append k (Some p) d.first d.rest) ∙ sym (ap (run k (Some p)) d.word) ∙ e in
      let mid = between k (run k (Some p) d.first) d.rest r all in
      let lt : mid.0 < Q = run_within k wk (Some p) (λ s q. subst (λ (z : ℕ). z < Q) (some_is q) hp) d.first mid.0 mid.1 in
      let f = onto x d.left p mid.0 d.first hp lt d.on_left mid.1 in
      let g = onto y d.right mid.0 r d.rest lt hr d.on_right (sym (ap (λ (o : Option ℕ). run k o d.rest) mid.1) ∙ all) in
      let n = crossed_number Q i p mid.0 r in
      let num : n / cube Q ≡ i = by_cube Q n ∙ number_base Q i p mid.0 r hp lt hr in (
        node n f.0 g.0,
        record {
          left = crossed Q d.left p mid.0;
          right = crossed Q d.right mid.0 r;
          cost = d.cost;
          bottom = d.bottom;
          first = d.first;
          rest = d.rest;
          rule = rule_at i p mid.0 r hp lt hr ∙ ap (crossed_any k p mid.0 r) d.rule;
          word = d.word;
          on_left = f.1;
          on_right = g.1;
        },
        (λ z. node (num z) (f.2 z) (g.2 z)),
      )

  -- a start above is a start below, the start state and an accepting state
  record StartParts (x : ℕ) : Type 0 where
    below : m.start (x / Q / Q) ≡ true
    begins : x / Q % Q ≡ k.start
    ends : k.accepts (x % Q) ≡ true

  start_parts : (x : ℕ) → (crossing k m).start x ≡ true → StartParts x
  start_parts x e =
      let rest = and_right (m.start (x / Q / Q)) _ e in
      record {
        below = and_left (m.start (x / Q / Q)) _ e;
        begins = eqb-true (x / Q % Q) k.start (and_left (eqb (x / Q % Q) k.start) _ rest);
        ends = and_right (eqb (x / Q % Q) k.start) _ rest;
      }

  from_start : (x : ℕ) (w : List ℕ) (t : Tree) → x / Q % Q ≡ k.start → Derives (crossing k m) x w t → Derives (crossing k m) (crossed Q (x / Q / Q) k.start (x % Q)) w t
  from_start x w t e d = subst (λ (z : ℕ). Derives (crossing k m) z w t) (sym (crossed_whole Q x) ∙ ap (λ (z : ℕ). crossed Q (x / Q / Q) z (x % Q)) e) d

  start_into : (w : List ℕ) (t : Tree) → FromStarts (crossing k m) w t → FromStarts m w (divided (cube Q) t) × Accepted k w
  start_into w t d =
      let x = d.from in
      let h = start_parts x d.start in
      let g = into (x / Q / Q) k.start (x % Q) w t wk.begins (mod-lt x pos) (from_start x w t h.begins d.derives) in
      (record { from = x / Q / Q; start = h.below; derives = g.0 }, record { last = x % Q; leads = g.1; accepting = h.ends })

  start_apart : (w : List ℕ) (s t : Tree) → FromStarts (crossing k m) w s → FromStarts (crossing k m) w t → divided (cube Q) s ≡ divided (cube Q) t → s ≡ t
  unfolding start_into
  start_apart w s t d e same =
      let x = d.from in
      let y = e.from in
      let f = (start_into w s d).1 in
      let g = (start_into w t e).1 in
      let ds = from_start x w s (start_parts x d.start).begins d.derives in
      let dt = from_start y w t (start_parts y e.start).begins e.derives in
      let last : y % Q ≡ x % Q = some_is (sym g.leads ∙ f.leads) in
      let dt₁ = subst (λ (z : ℕ). Derives (crossing k m) (crossed Q (y / Q / Q) k.start z) w t) last dt in
      apart s t (x / Q / Q) (y / Q / Q) k.start (x % Q) w w wk.begins (mod-lt x pos) ds dt₁ same

  start_at : (a r : ℕ) → r < Q → m.start a ≡ true → k.accepts r ≡ true → (crossing k m).start (crossed Q a k.start r) ≡ true
  start_at a r hr e f =
      and_both _ _ (ap m.start (crossed_base Q a k.start r wk.begins hr) ∙ e)
      (and_both _ _ (eq-eqb (crossed Q a k.start r / Q % Q) k.start (crossed_mid Q a k.start r wk.begins hr))
      (ap k.accepts (crossed_last Q a k.start r hr) ∙ f))

  start_onto : (w : List ℕ) (t : Tree) → FromStarts m w t × Accepted k w → (s : Tree) × FromStarts (crossing k m) w s × (divided (cube Q) s ≡ t)
  start_onto w t h =
      let d = h.0 in
      let last = h.1.last in
      let lt = wk.ends last h.1.accepting in
      let g = onto t d.from k.start last w wk.begins lt d.derives h.1.leads in
      (g.0, record { from = crossed Q d.from k.start last; start = start_at d.from last lt d.start h.1.accepting; derives = g.1 }, g.2)

  crossing_matches : IntersectionMatches OneForOne k m (crossing k m)
  crossing_matches = record {
    from_each = λ a p r w hp hr. record {
      into = λ t d. into a p r w t hp hr d;
      apart = λ s t d e. apart s t a a p r w w hp hr d e;
      onto = λ t d. onto t a p r w hp hr d.0 d.1;
    };
    from_starts = λ w. record { into = start_into w; apart = start_apart w; onto = start_onto w };
  }

module _ (k : Machine) (m : Meaning) where
  abbrev S : ℕ
  S = k.states

  stems_at : (n x : ℕ) (y : Expansion) (cost bottom : ℕ) → (crossing k m).rule n ≡ Some (record { lhs = x; expansion = y; cost = cost; bottom = bottom }) → Stems m (n / cube S) (record { lhs = x; expansion = y; cost = cost; bottom = bottom })
  stems_at n x (Leaf code) cost bottom e =
      let h = leaf_below k (n / S / S % S) (n / S % S) (n % S) x code cost bottom (m.rule (n / S / S / S)) e in
      record { rule = leaf_rule h.a code cost bottom; there = ap m.rule (by_cube S n) ∙ h.rule; cost = refl; bottom = refl }
  stems_at n x (Pair left right) cost bottom e =
      let h = pair_below k (n / S / S % S) (n / S % S) (n % S) x left right cost bottom (m.rule (n / S / S / S)) e in
      record { rule = pair_rule h.a h.b h.c cost bottom; there = ap m.rule (by_cube S n) ∙ h.rule; cost = refl; bottom = refl }

  crossing_passes : PassesThrough (crossing k m) m (λ n. n / cube S)
  crossing_passes n r e = stems_at n r.lhs r.expansion r.cost r.bottom e

-- laid without refusal, the layer is the crossed grammar
laid : (k : Machine) (m : Meaning) → intersection_refused k m ≡ None → crossing k m ≡ intersection k m
laid k m e = sym (ap (λ (o : Option Refusal). if_refused o blank (crossing k m)) e)

pub intersection_matches : (k : Machine) (m : Meaning) → Working k → intersection_refused k m ≡ None → IntersectionMatches OneForOne k m (intersection k m)
intersection_matches k m wk e = subst (IntersectionMatches OneForOne k m) (laid k m e) (crossing_matches k wk m)

pub intersection_passes : (k : Machine) (m : Meaning) → intersection_refused k m ≡ None → PassesThrough (intersection k m) m (λ n. n / cube k.states)
intersection_passes k m e = subst (λ (above : Meaning). PassesThrough above m (λ n. n / cube k.states)) (laid k m e) (crossing_passes k m)
