-- Renaming over intersection over ban, and the theorems of all layers together. Assumes nothing.
use Rattle.std.proofs.Common.{◌≡◌, ℕ, ◌/◌, List, ap, ◌∙◌, subst}
use Rattle.semiring.specs.Semirings.{Operations, Laws}
use Rattle.grammar.specs.Grammars.{Meaning}
use Rattle.grammar.specs.Derivations.{Tree, Derives, FromStarts}
use Rattle.grammar.specs.Totals.{weight_of, by}
use Rattle.automata.specs.Machines.{Machine, Leads, Accepted}
use Rattle.layers.specs.Ban.{ban, Free}
use Rattle.layers.specs.Intersection.{crossed, cube, intersection}
use Rattle.layers.specs.Renaming.{Recorder, renaming}
use Rattle.layers.specs.Matching.{OneForOne, PassesThrough, divided}
use Rattle.layers.specs.Promises.{WhenRead, StackMatches, Laid, OneForOneAll, SameWeightAll, PassesThroughAll}
use Rattle.layers.proofs.Matched.{passing_weighs, same_weight, renumbered_same, renumbered_twice, passes_twice, composed}
use Rattle.layers.proofs.Banned.{ban_matches, ban_passes}
use Rattle.layers.proofs.Mirrored.{reversal_matches, reversal_passes, reversal_weighs}
use Rattle.layers.proofs.Crossings.{intersection_matches, intersection_passes}
use Rattle.layers.proofs.Renamings.{renaming_matches, renaming_passes, read_same}

-- a match under a condition, narrowed
pub narrowed : {A B C F : Tree → Type 0} {f : Tree → Tree} (P : Type 0) → OneForOne A (λ t. B t × P) f → OneForOne B (λ t. C t × F t) (λ t. t) → OneForOne A (λ t. C t × F t × P) f
narrowed {f = f} P p q = record {
  into = λ t a. let h = p.into t a in let b = q.into (f t) h.0 in (b.0, b.1, h.1);
  apart = λ s t a b e. p.apart s t a b e;
  onto = λ t c.
      let y = q.onto t (c.0, c.1) in
      let x = p.onto y.0 (y.1, c.2) in
      (x.0, x.1, x.2 ∙ y.2);
}

-- matches for each word, for the word as read
when_read : (c : Recorder) (w : List ℕ) (A B : List ℕ → Tree → Type 0) (f : Tree → Tree) → ((v : List ℕ) → OneForOne (A v) (B v) f) → OneForOne (λ t. WhenRead c w (λ v. A v t)) (λ t. WhenRead c w (λ v. B v t)) f
when_read c w A B f p = record {
  into = λ t a. record { read = a.read; reads = a.reads; holds = (p a.read).into t a.holds };
  apart = λ s t a b. (p a.read).apart s t a.holds (subst (λ (v : List ℕ). A v t) (read_same c w b.read a.read b.reads a.reads) b.holds);
  onto = λ t b. let x = (p b.read).onto t b.holds in (x.0, record { read = b.read; reads = b.reads; holds = x.1 }, x.2);
}

module _ (ns : List ℕ) (k : Machine) (c : Recorder) (m : Meaning) (laid : Laid ns k c m) where
  abbrev B : Meaning
  B = ban ns m

  abbrev I : Meaning
  I = intersection k B

  pub stack_matches : StackMatches OneForOne ns k c m (renaming c I)
  stack_matches = record {
    from_each = λ A p r w hp hr.
        composed ((renaming_matches c I laid.recording laid.renamed).from_each (crossed k.states A p r) w)
        (when_read c w (Derives I (crossed k.states A p r)) (λ v t. Derives m A v t × Free ns t × Leads k p v r) (divided (cube k.states))
        (λ v. narrowed (Leads k p v r) ((intersection_matches k B laid.working laid.crossed).from_each A p r v hp hr) ((ban_matches ns m).from_each A v)));
    from_starts = λ w.
        composed ((renaming_matches c I laid.recording laid.renamed).from_starts w)
        (when_read c w (FromStarts I) (λ v t. FromStarts m v t × Free ns t × Accepted k v) (divided (cube k.states))
        (λ v. narrowed (Accepted k v) ((intersection_matches k B laid.working laid.crossed).from_starts v) ((ban_matches ns m).from_starts v)));
  }

  stack_passes : PassesThrough (renaming c I) m (λ n. n / c.count / cube k.states)
  stack_passes =
      passes_twice (renaming c I) I m (λ n. n / c.count) (λ n. n / cube k.states) (renaming_passes c I laid.renamed)
      (passes_twice I B m (λ n. n / cube k.states) (λ n. n) (intersection_passes k B laid.crossed) (ban_passes ns m))

  pub stack_weighs : {S : Type 0} (s : Operations S) (weight : ℕ → ℕ → S) (A : ℕ) (w : List ℕ) (t : Tree) → Derives (renaming c I) A w t
      → weight_of s (by weight) (renaming c I) t ≡ weight_of s (by weight) m (divided (cube k.states) (divided c.count t))
  stack_weighs s weight A w t d =
      passing_weighs s weight (renaming c I) m (λ n. n / c.count / cube k.states) stack_passes A w t d
      ∙ ap (weight_of s (by weight) m) (renumbered_twice (λ n. n / c.count) (λ n. n / cube k.states) t)

pub one_for_one_all : OneForOneAll
one_for_one_all = record {
  layers = record { bans = ban_matches; intersections = intersection_matches; renamings = renaming_matches; stacks = stack_matches };
  reversals = reversal_matches;
}

pub passes_through_all : PassesThroughAll
passes_through_all = record { bans = ban_passes; intersections = intersection_passes; renamings = renaming_passes; reversals = reversal_passes }

module _ {S : Type 0} {s : Operations S} (laws : Laws s) where
  ban_weighs : (ns : List ℕ) (m : Meaning) (weight : ℕ → ℕ → S) (A : ℕ) (w : List ℕ) (t : Tree) → Derives (ban ns m) A w t → weight_of s (by weight) (ban ns m) t ≡ weight_of s (by weight) m t
  ban_weighs ns m weight A w t d = passing_weighs s weight (ban ns m) m (λ n. n) (ban_passes ns m) A w t d ∙ ap (weight_of s (by weight) m) (renumbered_same t)

  pub same_weight_all : SameWeightAll s
  same_weight_all = record {
    layers = record {
      bans = λ ns m. record {
        from_each = λ A w. same_weight laws ((ban_matches ns m).from_each A w) (λ weight t d. ban_weighs ns m weight A w t d);
        from_starts = λ w. same_weight laws ((ban_matches ns m).from_starts w) (λ weight t d. ban_weighs ns m weight d.from w t d.derives);
      };
      intersections = λ k m wk e. record {
        from_each = λ A p r w hp hr.
            same_weight laws ((intersection_matches k m wk e).from_each A p r w hp hr)
            (λ weight t d. passing_weighs s weight (intersection k m) m (λ n. n / cube k.states) (intersection_passes k m e) (crossed k.states A p r) w t d);
        from_starts = λ w.
            same_weight laws ((intersection_matches k m wk e).from_starts w)
            (λ weight t d. passing_weighs s weight (intersection k m) m (λ n. n / cube k.states) (intersection_passes k m e) d.from w t d.derives);
      };
      renamings = λ c m rc e. record {
        from_each = λ A w.
            same_weight laws ((renaming_matches c m rc e).from_each A w)
            (λ weight t d. passing_weighs s weight (renaming c m) m (λ n. n / c.count) (renaming_passes c m e) A w t d);
        from_starts = λ w.
            same_weight laws ((renaming_matches c m rc e).from_starts w)
            (λ weight t d. passing_weighs s weight (renaming c m) m (λ n. n / c.count) (renaming_passes c m e) d.from w t d.derives);
      };
      stacks = λ ns k c m laid. record {
        from_each = λ A p r w hp hr. same_weight laws ((stack_matches ns k c m laid).from_each A p r w hp hr) (λ weight t d. stack_weighs ns k c m laid s weight (crossed k.states A p r) w t d);
        from_starts = λ w. same_weight laws ((stack_matches ns k c m laid).from_starts w) (λ weight t d. stack_weighs ns k c m laid s weight d.from w t d.derives);
      };
    };
    reversals = λ commutes m. record {
      from_each = λ A w. same_weight laws ((reversal_matches m).from_each A w) (λ weight t d. reversal_weighs s weight commutes m t);
      from_starts = λ w. same_weight laws ((reversal_matches m).from_starts w) (λ weight t d. reversal_weighs s weight commutes m t);
    };
  }
