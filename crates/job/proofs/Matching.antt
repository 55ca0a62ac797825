-- The derivations of a job's grammar match the ways to read its entries one for one. Assumes nothing.
use Rattle.std.proofs.Common.{◌≡◌, ℕ, ◌+◌, ◌/◌, List, [], ◌∷◌, ◌++◌, Some, None, Option, sym, refl, ap, ◌∙◌, subst, inl, inr, arith}
use Rattle.semiring.specs.Semirings.{Operations, Laws}
use Rattle.semiring.specs.Costs.{cost, costing}
use Rattle.grammar.specs.declared.rule.Rule.{Rule}
use Rattle.grammar.specs.declared.rule.Expansion.{Expansion}
use Rattle.grammar.specs.declared.rule.Expansion.TheVariants.{Pair, Leaf}
use Rattle.grammar.specs.Grammars.{Meaning}
use Rattle.grammar.specs.Derivations.{Tree, leaf, node, leaves, Derives, FromStarts, EntriesFromStarts, Fits}
use Rattle.grammar.specs.Totals.{TotalOf, weight_of, by}
use Rattle.grammar.specs.Costs.{by_cost, cost_of}
use Rattle.tree.specs.declared.record.Record.{Record}
use Rattle.tree.specs.Trees.{bottom_of, record_of, records}
use Rattle.grammar.proofs.Closure.{total_image}
use Rattle.table.specs.Drafts.{sealed}
use Rattle.automata.specs.Machines.{Machine, Working, Accepted}
use Rattle.layers.specs.Ban.{ban, Free}
use Rattle.layers.specs.Intersection.{cube, intersection, intersection_refused}
use Rattle.layers.specs.Renaming.{Recorder, Recording}
use Rattle.layers.specs.Matching.{OneForOne, PassesThrough, renumbered, divided}
use Rattle.layers.specs.Promises.{Laid}
use Rattle.layers.proofs.Matched.{passing_weighs, passes_twice, renumbered_twice}
use Rattle.layers.proofs.Banned.{ban_matches, ban_passes}
use Rattle.layers.proofs.Crossings.{intersection_matches, intersection_passes}
use Rattle.layers.proofs.Renamings.{renaming_passes}
use Rattle.layers.proofs.Stacked.{narrowed, stack_matches, stack_weighs}
use Rattle.job.specs.Describing.{Described, recorded, stack}
use Rattle.job.specs.Reports.{Drawn}
use Rattle.job.specs.Answers.{Renames, Stacks}
use Rattle.job.proofs.Sizes.{Records}
use Rattle.job.specs.Ways.{Way, Allows, AsRead, ReadsEntries, OverWays, cost_in, DrawnWay}

-- the word of a rule into a code
abbrev code_in : Expansion → List ℕ
code_in (Pair left right) = []
code_in (Leaf code) = code ∷ []

abbrev code_of : Option Rule → List ℕ
code_of (Some r) = code_in r.expansion
code_of None = []

-- a tree determines its word
abbrev pub word_of : Meaning → Tree → List ℕ
word_of m (leaf i) = code_of (m.rule i)
word_of m (node i l r) = word_of m l ++ word_of m r

derives_word : (m : Meaning) (A : ℕ) (w : List ℕ) (t : Tree) → Derives m A w t → w ≡ word_of m t
derives_word m A w (leaf i) d = d.word ∙ sym (ap code_of d.rule)
derives_word m A w (node i l r) d =
    let p = derives_word m d.left d.first l d.on_left in
    let q = derives_word m d.right d.rest r d.on_right in
    d.word ∙ (λ i. p i ++ q i)

-- a tree of the job's grammar as one of the table
abbrev down : ℕ → Option Recorder → Tree → Tree
down Q None t = divided (cube Q) t
down Q (Some c) t = divided (cube Q) (divided c.count t)

renumbered_leaves : (f : ℕ → ℕ) (t : Tree) → leaves t ≡ leaves (renumbered f t)
renumbered_leaves f (leaf i) = refl
renumbered_leaves f (node i l r) = (λ j. renumbered_leaves f l j + renumbered_leaves f r j)

-- where cost and bottom number pass through, a tree has the records of the one below
module _ (above below : Meaning) (f : ℕ → ℕ) (passes : PassesThrough above below f) where
  same_bottom : (i : ℕ) (r : Rule) → above.rule i ≡ Some r → bottom_of (above.rule i) ≡ bottom_of (below.rule (f i))
  same_bottom i r e = let stem = passes i r e in ap bottom_of e ∙ stem.bottom ∙ sym (ap bottom_of stem.there)

  passing_records : (A : ℕ) (w : List ℕ) (t : Tree) → Derives above A w t → (begin : ℕ) → records above t begin ≡ records below (renumbered f t) begin
  passing_records A w (leaf i) d begin = ap (λ b. record_of begin (begin + 1) b ∷ []) (same_bottom i _ d.rule)
  passing_records A w (node i l r) d begin =
      let b = same_bottom i _ d.rule in
      let onl = renumbered_leaves f l in
      let onr = renumbered_leaves f r in
      let left = passing_records d.left d.first l d.on_left begin in
      let right = passing_records d.right d.rest r d.on_right (begin + leaves l) ∙ ap (λ n. records below (renumbered f r) (begin + n)) onl in
      (λ j. record_of begin (begin + (onl j + onr j)) (b j) ∷ (left j ++ right j))

module _ (ns : List ℕ) (k : Machine) (m : Meaning) (works : Working k) (crossed : intersection_refused k (ban ns m) ≡ None) where
  abbrev I : Meaning
  I = intersection k (ban ns m)

  abbrev laid : (c : Recorder) → Recording c → Renames (Some c) I → Laid ns k c m
  laid c r e = record { working = works; recording = r; crossed = crossed; renamed = e }

  matches : (c : Option Recorder) → Records c → Renames c I → (w : List ℕ)
      → OneForOne (FromStarts (recorded c I) w) (λ t. AsRead c w (λ v. FromStarts m v t × Free ns t × Accepted k v)) (down k.states c)
  matches None r e w = narrowed (Accepted k w) ((intersection_matches k (ban ns m) works crossed).from_starts w) ((ban_matches ns m).from_starts w)
  matches (Some c) r e w = (stack_matches ns k c m (laid c r e)).from_starts w

  crossed_passes : PassesThrough I m (λ n. n / cube k.states)
  crossed_passes = passes_twice I (ban ns m) m (λ n. n / cube k.states) (λ n. n) (intersection_passes k (ban ns m) crossed) (ban_passes ns m)

  drawn : (c : Option Recorder) → Records c → Renames c I → (A : ℕ) (w : List ℕ) (t : Tree) → Derives (recorded c I) A w t → records (recorded c I) t 0 ≡ records m (down k.states c t) 0
  drawn None r e A w t d = passing_records I m (λ n. n / cube k.states) crossed_passes A w t d 0
  drawn (Some c) r e A w t d =
      passing_records (recorded (Some c) I) m (λ n. n / c.count / cube k.states) (passes_twice (recorded (Some c) I) I m (λ n. n / c.count) (λ n. n / cube k.states) (renaming_passes c I e) crossed_passes) A w t d 0
      ∙ ap (λ x. records m x 0) (renumbered_twice (λ n. n / c.count) (λ n. n / cube k.states) t)

  weighs : {S : Type 0} (s : Operations S) (weight : ℕ → ℕ → S) (c : Option Recorder) → Records c → Renames c I → (A : ℕ) (w : List ℕ) (t : Tree) → Derives (recorded c I) A w t
      → weight_of s (by weight) (recorded c I) t ≡ weight_of s (by weight) m (down k.states c t)
  weighs s weight None r e A w t d = passing_weighs s weight I m (λ n. n / cube k.states) crossed_passes A w t d
  weighs s weight (Some c) r e A w t d = stack_weighs ns k c m (laid c r e) s weight A w t d

module _ (d : Described) (laid : Stacks d) (works : Working d.machine) (records-of : Records d.recorder) where
  abbrev m : Meaning
  m = sealed d.table

  abbrev to : Tree → Tree
  to = down d.machine.states d.recorder

  match : (w : List ℕ) → OneForOne (FromStarts (stack d) w) (λ t. AsRead d.recorder w (Allows d t)) to
  match w = matches d.bans d.machine m works laid.crossed d.recorder records-of laid.renamed w

  -- the way of a tree
  abbrev way : Tree → Way
  way t = record { word = word_of (stack d) t; tree = to t }

  word_is : (t : Tree) (e : EntriesFromStarts (stack d) d.entries t) → e.derives.word ≡ word_of (stack d) t
  word_is t e = derives_word (stack d) e.from e.derives.word t e.derives.derives

  from_starts : (t : Tree) (e : EntriesFromStarts (stack d) d.entries t) → FromStarts (stack d) (word_of (stack d) t) t
  from_starts t e = subst (λ w. FromStarts (stack d) w t) (word_is t e) (record { from = e.from; start = e.start; derives = e.derives.derives })

  into : (t : Tree) → EntriesFromStarts (stack d) d.entries t → ReadsEntries d (way t)
  into t e = record { fits = subst (λ w. Fits w d.entries) (word_is t e) e.derives.fits; derives = (match (word_of (stack d) t)).into t (from_starts t e) }

  apart : (t u : Tree) → EntriesFromStarts (stack d) d.entries t → EntriesFromStarts (stack d) d.entries u → way t ≡ way u → t ≡ u
  apart t u e f same =
      (match (word_of (stack d) t)).apart t u (from_starts t e) (subst (λ w. FromStarts (stack d) w u) (sym (ap (λ x. x.word) same)) (from_starts u f)) (ap (λ x. x.tree) same)

  onto : (x : Way) → ReadsEntries d x → (t : Tree) × EntriesFromStarts (stack d) d.entries t × (x ≡ way t)
  onto x r =
      let y = (match x.word).onto x.tree r.derives in
      let word = derives_word (stack d) y.1.from x.word y.0 y.1.derives in (
        y.0,
        record { from = y.1.from; start = y.1.start; derives = record { word = x.word; fits = r.fits; derives = y.1.derives } },
        (λ i. record { word = word i; tree = sym y.2 i }),
      )

  pub over_ways : {S : Type 0} {s : Operations S} → Laws s → (weight : ℕ → ℕ → S) (v : S) → TotalOf s (EntriesFromStarts (stack d) d.entries) (weight_of s (by weight) (stack d)) v → OverWays s weight d v
  over_ways {s = s} laws weight v total =
      total_image laws way into apart onto
      (λ t e. weighs d.bans d.machine m works laid.crossed s weight d.recorder records-of laid.renamed e.from e.derives.word t e.derives.derives) total

  costs_same : (t : Tree) → EntriesFromStarts (stack d) d.entries t → cost_of by_cost (stack d) t ≡ cost_in d (way t)
  costs_same t e = ap (λ v. v.value) (weighs d.bans d.machine m works laid.crossed cost (λ cost bottom. costing cost) d.recorder records-of laid.renamed e.from e.derives.word t e.derives.derives)

  -- and so do their records
  pub drawn_way : (written : List Record) → Drawn (stack d) d.entries written → DrawnWay d written
  drawn_way written (inl none) = inl ((λ x r. let h = onto x r in none.0 h.0 h.1), none.1)
  drawn_way written (inr h) =
      let c = h.0 in
      let e = c.derives in
      inr (
        record {
          way = way c.tree;
          reads = into c.tree e;
          are = c.are ∙ drawn d.bans d.machine m works laid.crossed d.recorder records-of laid.renamed e.from e.derives.word c.tree e.derives.derives;
          least = λ x r.
              let y = onto x r in
              let costs : cost_in d x ≡ cost_in d (way y.0) = ap (cost_in d) y.2 in
              omega (arith, c.least y.0 y.1, costs_same c.tree e, costs_same y.0 y.1, costs);
        },
        h.1,
      )
