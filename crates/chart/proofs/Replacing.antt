-- The cells after one entry is replaced. Assumes nothing.
use Rattle.std.proofs.Common.{◌≡◌, ℕ, ◌+◌, ◌-◌, ◌<◌, ◌≤◌, ◌≢◌, ◌⊎◌, List, length, get_or, set, sym, ap, ◌∙◌, subst, inl, inr, arith}
use Rattle.std.proofs.lemmas.Bool.{cases_lt, cases_eq}
use Rattle.std.proofs.lemmas.List.{length-set, get_or-set_other}
use Rattle.semiring.specs.Semirings.{Operations, Laws}
use Rattle.grammar.specs.Grammars.{Meaning, Shown}
use Rattle.chart.specs.Cells.{place, cell_at}
use Rattle.grammar.specs.declared.rule.Rule.{Rule}
use Rattle.grammar.specs.Spans.{shares, Filled, Stands}
use Rattle.grammar.proofs.Spanning.{filled_stands, stands_filled}
use Rattle.chart.specs.Columns.{Refilled}
use Rattle.chart.proofs.Places.{place_narrow, place_later, place_from, column_from, column_next}
use Rattle.chart.proofs.ColumnSteps.{shares_same}

-- a cell of a span that lies after entry k is outside the columns up to k
after : (n k b f a g : ℕ) → a < n → k < b → b < f → k < g → (place n b f a < place n 0 g 0) ⊎ (place n (k + 1) g 0 ≤ place n b f a)
after n k b f a g name low some past = elim (cases_lt f g) [
  | inl wider ↦ inl (place_narrow n b f a 0 g 0 some wider name)
  | inr narrow ↦ elim (cases_eq g f) [
    | inl same ↦ inr (subst (λ e. place n (k + 1) e 0 ≤ place n b f a) (sym same) (elim (cases_eq (k + 1) b) [
      | inl at ↦ subst (λ j. place n j f 0 ≤ place n b f a) (sym at) (omega (arith, place_from n b f a))
      | inr off ↦ let l = place_later n (k + 1) b f 0 a (omega (arith, off)) (omega arith) in omega arith
    ]))
    | inr other ↦ inr (elim (cases_eq (k + 1) g) [
      | inl at ↦ subst (λ j. place n j g 0 ≤ place n b f a) (sym at) (let e = column_next n g in elim (cases_eq (g + 1) f) [
        | inl next ↦ let l = subst (λ h. place n 0 h 0 ≤ place n b f a) (sym next) (column_from n b f a) in omega arith
        | inr far ↦ let l = place_narrow n 0 (g + 1) 0 b f a (omega arith) (omega (arith, far, other)) (omega arith) in omega arith
      ])
      | inr off ↦ let l = place_narrow n (k + 1) g 0 b f a (omega (arith, off)) (omega (arith, other)) (omega arith) in omega arith
    ])
  ]
]

module _ {S : Type 0} {ops : Operations S} (laws : Laws ops) (weigh : Rule → S) (m : Meaning) (shown : Shown m) where
  abbrev n : ℕ
  n = m.nonterminals

  module _ (es : List ℕ) (k bits : ℕ) (xs ys : List S) (filled : Filled ops weigh m es (cell_at ops n xs)) (done : Refilled ops weigh m (set es k bits) k (length (set es k bits) + 1) xs ys) where
    -- the spans that do not cover entry k
    abbrev Off : ℕ → ℕ → Type 0
    Off b f = (f ≤ k) ⊎ (k < b)

    stays : (b f a : ℕ) → b < f → a < n → Off b f → cell_at ops n ys b f a ≡ cell_at ops n xs b f a
    stays b f a some name (inl before) = done.kept (place n b f a) (λ g low high. inl (place_narrow n b f a 0 g 0 some (omega arith) name))
    stays b f a some name (inr past) = done.kept (place n b f a) (λ g low high. after n k b f a g name past some low)

    left_off : (b f j : ℕ) → b < j → j < f → Off b f → Off b j
    left_off b f j l h (inl x) = inl (omega arith)
    left_off b f j l h (inr x) = inr x

    right_off : (b f j : ℕ) → b < j → j < f → Off b f → Off j f
    right_off b f j l h (inl x) = inl x
    right_off b f j l h (inr x) = inr (omega arith)

    last_off : (b f : ℕ) → b < f → Off b f → (f - 1) ≢ k
    last_off b f some (inl x) e = omega arith
    last_off b f some (inr x) e = omega arith

    off_stands : (b f a : ℕ) → b < f → f ≤ length es → a < n → Off b f → cell_at ops n ys b f a ≡ shares ops (cell_at ops n ys) weigh m (get_or (set es k bits) (f - 1) 0) b f a m.bound
    off_stands b f a some fits name off =
        stays b f a some name off
        ∙ filled b f a some fits name
        ∙ ap (λ e. shares ops (cell_at ops n xs) weigh m e b f a m.bound) (sym (get_or-set_other es k (f - 1) bits 0 (last_off b f some off)))
        ∙ shares_same laws weigh m (get_or (set es k bits) (f - 1) 0) f f shown (cell_at ops n xs) (cell_at ops n ys) b a m.bound
        (λ j c l h name'. (sym (stays b j c l name' (left_off b f j l h off)), sym (stays j f c h name' (right_off b f j l h off))))

    pub filled_replaced : Filled ops weigh m (set es k bits) (cell_at ops n ys)
    filled_replaced begin end a some fits name =
        let long = length-set es k bits in
        elim (cases_lt k end) [
          | inl low ↦ elim (cases_lt k begin) [
            | inl past ↦ off_stands begin end a some (omega arith) name (inr past)
            | inr on ↦ done.cells begin end a on low (omega arith) name
          ]
          | inr before ↦ off_stands begin end a some (omega arith) name (inl before)
        ]

  -- each cell is its total again
  pub stands_replaced : (es : List ℕ) (k bits : ℕ) (xs ys : List S) → Refilled ops weigh m (set es k bits) k (length (set es k bits) + 1) xs ys
      → Stands ops weigh m es (cell_at ops n xs) → Stands ops weigh m (set es k bits) (cell_at ops n ys)
  stands_replaced es k bits xs ys done stands =
      filled_stands laws weigh m shown (set es k bits) (cell_at ops n ys) (filled_replaced es k bits xs ys (stands_filled laws weigh m shown es (cell_at ops n xs) stands) done)
