-- What a grammar without some rules derives. Assumes nothing.
use Rattle.std.proofs.Common.{◌≡◌, ℕ, Bool, true, false, cond, List, Some, None, Option, refl, ap, ◌∙◌, arith}
use Rattle.grammar.specs.declared.rule.Rule.{Rule}
use Rattle.grammar.specs.Grammars.{Meaning}
use Rattle.grammar.specs.Derivations.{Tree, leaf, node, Derives}
use Rattle.layers.specs.Ban.{ban, among, Free}
use Rattle.layers.specs.Matching.{OneForOne, PassesThrough}
use Rattle.layers.specs.Promises.{BanMatches}

let_through : (b : Bool) (o : Option Rule) (r : Rule) → cond b None o ≡ Some r → (b ≡ false) × (o ≡ Some r)
let_through true o r e = let z : ◌≡◌ {A = ℕ} 0 1 = cc in absurd (omega arith)
let_through false o r e = (refl, e)

still : (b : Bool) (o : Option Rule) → b ≡ false → cond b None o ≡ o
still b o e = ap (λ (c : Bool). cond c None o) e

into : (ns : List ℕ) (m : Meaning) (a : ℕ) (w : List ℕ) (t : Tree) → Derives (ban ns m) a w t → Derives m a w t × Free ns t
into ns m a w (leaf i) d =
    let h = let_through (among i ns) (m.rule i) _ d.rule in
    (record { code = d.code; cost = d.cost; bottom = d.bottom; rule = h.1; word = d.word }, h.0)
into ns m a w (node i l r) d =
    let h = let_through (among i ns) (m.rule i) _ d.rule in
    let x = into ns m d.left d.first l d.on_left in
    let y = into ns m d.right d.rest r d.on_right in (
      record {
        left = d.left;
        right = d.right;
        cost = d.cost;
        bottom = d.bottom;
        first = d.first;
        rest = d.rest;
        rule = h.1;
        word = d.word;
        on_left = x.0;
        on_right = y.0;
      },
      (h.0, x.1, y.1),
    )

from : (ns : List ℕ) (m : Meaning) (a : ℕ) (w : List ℕ) (t : Tree) → Derives m a w t → Free ns t → Derives (ban ns m) a w t
from ns m a w (leaf i) d f =
    record { code = d.code; cost = d.cost; bottom = d.bottom; rule = still (among i ns) (m.rule i) f ∙ d.rule; word = d.word }
from ns m a w (node i l r) d f = record {
  left = d.left;
  right = d.right;
  cost = d.cost;
  bottom = d.bottom;
  first = d.first;
  rest = d.rest;
  rule = still (among i ns) (m.rule i) f.0 ∙ d.rule;
  word = d.word;
  on_left = from ns m d.left d.first l d.on_left f.1;
  on_right = from ns m d.right d.rest r d.on_right f.2;
}

pub ban_matches : (ns : List ℕ) (m : Meaning) → BanMatches OneForOne ns m (ban ns m)
ban_matches ns m = record {
  from_each = λ a w. record {
    into = into ns m a w;
    apart = λ s t d e p. p;
    onto = λ t d. (t, from ns m a w t d.0 d.1, refl);
  };
  from_starts = λ w. record {
    into = λ t d. let h = into ns m d.from w t d.derives in (record { from = d.from; start = d.start; derives = h.0 }, h.1);
    apart = λ s t d e p. p;
    onto = λ t d. (t, record { from = d.0.from; start = d.0.start; derives = from ns m d.0.from w t d.0.derives d.1 }, refl);
  };
}

pub ban_passes : (ns : List ℕ) (m : Meaning) → PassesThrough (ban ns m) m (λ n. n)
ban_passes ns m n r e = record { rule = r; there = (let_through (among n ns) (m.rule n) r e).1; cost = refl; bottom = refl }
