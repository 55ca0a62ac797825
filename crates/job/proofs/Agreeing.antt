-- Each input describes one thing, or has one first fault. Assumes nothing.
use Rattle.std.proofs.Common.{◌≡◌, ℕ, true, List, [], ◌∷◌, ◌++◌, length, Some, None, Option, sym, refl, ap, ◌∙◌, subst, inl, inr, append_assoc, append-nil, arith, length-append}
use Rattle.grammar.specs.declared.refusal.Refusal.{Refusal}
use Rattle.commands.specs.declared.command.Command.{Command}
use Rattle.commands.specs.Format.{encode, encodes, Begins}
use Rattle.commands.specs.Order.{allowed, Ordered}
use Rattle.commands.specs.Jobs.{Ends, Breaks}
use Rattle.commands.proofs.Unique.{same_command, same_rest}
use Rattle.commands.proofs.Turns.{encode_some}
use Rattle.job.specs.Describing.{Described, nothing, refusal, taken, describe, Passes}
use Rattle.job.specs.Outcomes.{Takes, Refuses, FirstFault, OneOutcome}

-- at `bs` no command goes on from `before`, which described d
abbrev Still : List Command → Described → List ℕ → Type 0
Still before d bs = (c : Command) (rest : List ℕ) → Begins bs c rest → allowed before c ≡ true → refusal d c ≡ None → ⊥

-- a way to read the input as far as it goes
record Way (input : List ℕ) : Type 0 where
  before : List Command
  rest : List ℕ
  split : input ≡ encodes before ++ rest
  ordered : Ordered [] before
  passes : Passes nothing before
  still : Still before (describe nothing before) rest

-- two such ways are one
same : (before : List Command) (d : Described) (cs ds : List Command) (bs r s : List ℕ) → Ordered before cs → Passes d cs → Ordered before ds → Passes d ds → bs ≡ encodes cs ++ r → bs ≡ encodes ds ++ s
    → Still (before ++ cs) (describe d cs) r → Still (before ++ ds) (describe d ds) s → cs ≡ ds
same before d [] [] bs r s oc pc od pd p q u v = refl
same before d [] (y ∷ ys) bs r s oc pc od pd p q u v =
    absurd (subst (λ l. Still l d r) (append-nil before) u y (encodes ys ++ s) (sym p ∙ q ∙ append_assoc (encode y) (encodes ys) s) od.0 pd.0)
same before d (x ∷ xs) [] bs r s oc pc od pd p q u v =
    absurd (subst (λ l. Still l d s) (append-nil before) v x (encodes xs ++ r) (sym q ∙ p ∙ append_assoc (encode x) (encodes xs) r) oc.0 pc.0)
same before d (x ∷ xs) (y ∷ ys) bs r s oc pc od pd p q u v =
    let p' = p ∙ append_assoc (encode x) (encodes xs) r in
    let q' = q ∙ append_assoc (encode y) (encodes ys) s in
    let e = same_command bs x y _ _ p' q' in
    let q'' : bs ≡ encode x ++ (encodes ys ++ s) = subst (λ z. bs ≡ encode z ++ (encodes ys ++ s)) (sym e) q' in
    let t = same_rest bs (encode x) (encodes xs ++ r) (encodes ys ++ s) p' q'' in
    let od' : Ordered (before ++ (x ∷ [])) ys = subst (λ z. Ordered (before ++ (z ∷ [])) ys) (sym e) od.1 in
    let pd' : Passes (taken d x) ys = subst (λ z. Passes (taken d z) ys) (sym e) pd.1 in
    let u' : Still ((before ++ (x ∷ [])) ++ xs) (describe (taken d x) xs) r = subst (λ l. Still l (describe (taken d x) xs) r) (sym (append_assoc before (x ∷ []) xs)) u in
    let v' : Still ((before ++ (x ∷ [])) ++ ys) (describe (taken d x) ys) s =
    subst (λ l. Still l (describe (taken d x) ys) s) (sym (append_assoc before (x ∷ []) ys)) (subst (λ z. Still (before ++ (z ∷ ys)) (describe (taken d z) ys) s) (sym e) v) in
    let f = same (before ++ (x ∷ [])) (taken d x) xs ys (encodes xs ++ r) r s oc.1 pc.1 od' pd' refl t u' v' in
    (λ i. e i ∷ f i)

ordered_front : (before cs ds : List Command) → Ordered before (cs ++ ds) → Ordered before cs
ordered_front before [] ds h = tt
ordered_front before (c ∷ cs) ds h = (h.0, ordered_front (before ++ (c ∷ [])) cs ds h.1)

ordered_last : (before cs : List Command) (c : Command) → Ordered before (cs ++ (c ∷ [])) → allowed (before ++ cs) c ≡ true
ordered_last before [] c h = subst (λ l. allowed l c ≡ true) (sym (append-nil before)) h.0
ordered_last before (x ∷ xs) c h = subst (λ l. allowed l c ≡ true) (append_assoc before (x ∷ []) xs) (ordered_last (before ++ (x ∷ [])) xs c h.1)

-- the reason, or another one where there is none
abbrev why_or : Refusal → Option Refusal → Refusal
why_or other (Some why) = why
why_or other None = other

module _ (input : List ℕ) where
  one_before : (a b : Way input) → a.before ≡ b.before
  one_before a b = same [] nothing a.before b.before input a.rest b.rest a.ordered a.passes b.ordered b.passes a.split b.split a.still b.still

  one_rest : (a b : Way input) → a.rest ≡ b.rest
  one_rest a b = same_rest input (encodes a.before) a.rest b.rest a.split (subst (λ l. input ≡ encodes l ++ b.rest) (sym (one_before a b)) b.split)

  abbrev of_takes : (d : Described) → Takes input d → Way input
  of_takes d t = record {
    before = t.commands;
    rest = [];
    split = t.job.bytes ∙ sym (append-nil (encodes t.commands));
    ordered = t.job.ordered;
    passes = t.passes;
    still = λ c rest b a l. omega (arith, encode_some c, ap length b ∙ length-append (encode c) rest);
  }

  abbrev of_breaks : (p : ℕ) (b : Breaks input p) → Passes nothing b.before → Way input
  of_breaks p b w = record {
    before = b.before;
    rest = b.rest;
    split = b.split;
    ordered = b.ordered;
    passes = w;
    still = λ c rest at may l. b.stuck c rest at may;
  }

  over : (why : Refusal) (p : ℕ) (x : Refuses input why p) (c : Command) → x.command ≡ c → refusal (describe nothing x.before) c ≡ None → ⊥
  over why p x c e l =
      let no : Some why ≡ None = sym x.refused ∙ ap (refusal (describe nothing x.before)) e ∙ l in
      cc

  abbrev of_refuses : (why : Refusal) (p : ℕ) → Refuses input why p → Way input
  of_refuses why p x = record {
    before = x.before;
    rest = encode x.command ++ x.rest;
    split = x.split;
    ordered = ordered_front [] x.before (x.command ∷ []) x.ordered;
    passes = x.passes;
    still = λ c s at may l. over why p x c (same_command _ x.command c x.rest s refl at) l;
  }

  descriptions : (d e : Described) → Takes input d → Takes input e → d ≡ e
  descriptions d e a b = a.describes ∙ ap (describe nothing) (one_before (of_takes d a) (of_takes e b)) ∙ sym b.describes

  both : (d : Described) (why : Refusal) (p : ℕ) → Takes input d → FirstFault input why p → ⊥
  both d why p t (inl f) = omega (arith, t.job.short, f.0)
  both d why p t (inr (inl f)) =
      let e = one_before (of_takes d t) (of_breaks p f.0 f.1) in
      let r = one_rest (of_takes d t) (of_breaks p f.0 f.1) in
      omega (arith, f.0.unfinished (subst Ends e t.job.ended), ap length r)
  both d why p t (inr (inr x)) =
      let r = one_rest (of_takes d t) (of_refuses why p x) in
      omega (arith, encode_some x.command, ap length r ∙ length-append (encode x.command) x.rest)

  -- a command that is refused may come
  apart : (p : ℕ) (why : Refusal) (q : ℕ) (b : Breaks input p) → Passes nothing b.before → Refuses input why q → ⊥
  apart p why q b w x =
      let e = one_before (of_breaks p b w) (of_refuses why q x) in
      let r = one_rest (of_breaks p b w) (of_refuses why q x) in
      b.stuck x.command x.rest r (subst (λ l. allowed l x.command ≡ true) (sym e) (ordered_last [] x.before x.command x.ordered))

  faults : (why other : Refusal) (p q : ℕ) → FirstFault input why p → FirstFault input other q → (why ≡ other) × (p ≡ q)
  faults why other p q (inl f) (inl g) = (f.1 ∙ sym g.1, f.2 ∙ sym g.2)
  faults why other p q (inl f) (inr (inl g)) = absurd (omega (arith, f.0, g.0.short))
  faults why other p q (inl f) (inr (inr x)) = absurd (omega (arith, f.0, x.short))
  faults why other p q (inr (inl f)) (inl g) = absurd (omega (arith, g.0, f.0.short))
  faults why other p q (inr (inr x)) (inl g) = absurd (omega (arith, g.0, x.short))
  faults why other p q (inr (inl f)) (inr (inl g)) =
      (f.2 ∙ sym g.2, f.0.here ∙ ap (λ l. length (encodes l)) (one_before (of_breaks p f.0 f.1) (of_breaks q g.0 g.1)) ∙ sym g.0.here)
  faults why other p q (inr (inl f)) (inr (inr x)) = absurd (apart p other q f.0 f.1 x)
  faults why other p q (inr (inr x)) (inr (inl g)) = absurd (apart q why p g.0 g.1 x)
  faults why other p q (inr (inr x)) (inr (inr y)) =
      let e = one_before (of_refuses why p x) (of_refuses other q y) in
      let r = one_rest (of_refuses why p x) (of_refuses other q y) in
      let c = same_command _ x.command y.command x.rest y.rest refl r in
      let one : Some why ≡ Some other = sym x.refused ∙ (λ i. refusal (describe nothing (e i)) (c i)) ∙ y.refused in
      (ap (why_or why) one, x.here ∙ ap (λ l. length (encodes l)) e ∙ sym y.here)

pub one_outcome : (input : List ℕ) → OneOutcome input
one_outcome input = record { one_description = descriptions input; not_both = both input; one_fault = faults input }
