-- Both kinds of automata work. Assumes nothing.
use Rattle.std.specs.Prelude.{◌≡◌, ℕ, zero, suc, ◌+◌, ◌<◌, ◌≤◌, Bool, true, false, cond, ◌&&◌, ◌≢◌, List, [], ◌∷◌, length, replicate, Some, None, ◌==◌, nat_le, nat_lt, slice_index, slice_index_or, slice_set, refl}
use Rattle.std.proofs.Common.{ap, sym, subst, ◌∙◌, inl, inr, arith, get_or-set_same, get_or-set_other, length-set, leb-true, ltb-true, eqb-true, eq-eqb, le-leb, lt-ltb}
use Rattle.std.proofs.lemmas.Bool.{cases_eq}
use Rattle.std.proofs.lemmas.List.{get_or-replicate}
use Rattle.automata.specs.Machines.{Working}
use Rattle.automata.specs.Making.{counting, written, staying, stay_at}
use Rattle.automata.specs.Held.{table}
use Rattle.grammar.specs.Derivations.{has}
use Rattle.automata.specs.Laws.Truths.{and_left, and_right, and_both, cond_some}

counted : (b : Bool) (s most : ℕ) → (b ≡ true → s < most) → s ≤ most → cond b (s + 1) s < most + 1
counted true s most f h = let g : s < most = f refl in omega arith
counted false s most f h = omega arith

pub counting_works : (codes c most : ℕ) → 1 ≤ codes → codes ≤ 32 → c < codes → most ≤ 7 → Working (counting codes c most)
counting_works codes c most readable coded known few = record {
  some = omega arith;
  few = omega arith;
  readable = readable;
  coded = coded;
  begins = omega arith;
  total = λ s d hs hd. (
    cond (d == c && nat_lt s most) (s + 1) s,
    ap (λ (b : Bool). cond b (Some (cond (d == c && nat_lt s most) (s + 1) s)) None) (and_both (nat_le s most) (nat_lt d codes) (le-leb s most (omega arith)) (lt-ltb d codes hd)),
  );
  within = λ s d t e.
      let h = cond_some (nat_le s most && nat_lt d codes) (cond (d == c && nat_lt s most) (s + 1) s) t e in
      let from : s ≤ most = leb-true s most (and_left (nat_le s most) (nat_lt d codes) h.0) in
      record {
        from = omega arith;
        code = ltb-true d codes (and_right (nat_le s most) (nat_lt d codes) h.0);
        to = subst (λ (z : ℕ). z < most + 1) h.1 (counted (d == c && nat_lt s most) s most (λ b. ltb-true s most (and_right (d == c) (nat_lt s most) b)) from);
      };
  ends = λ s e. let h : s ≡ most = eqb-true s most e in omega arith;
}

-- what a row holds at a code
abbrev pub at : List (List ℕ) → ℕ → ℕ → ℕ
at next s c = slice_index (slice_index_or next s []) c

pub table_works : (states codes start accepting : ℕ) (next : List (List ℕ)) → 1 ≤ states → states ≤ 8 → 1 ≤ codes → codes ≤ 32 → start < states → ((s c : ℕ) → s < states → c < 32 → at next s c < states) → Working (table states codes start accepting next)
table_works states codes start accepting next some few readable coded begins within = record {
  some = some;
  few = few;
  readable = readable;
  coded = coded;
  begins = begins;
  total = λ s c hs hc. (
    at next s c,
    ap (λ (b : Bool). cond b (Some (at next s c)) None) (and_both (nat_lt s states) (nat_lt c codes) (lt-ltb s states hs) (lt-ltb c codes hc)),
  );
  within = λ s c t e.
      let h = cond_some (nat_lt s states && nat_lt c codes) (at next s c) t e in
      let from : s < states = ltb-true s states (and_left (nat_lt s states) (nat_lt c codes) h.0) in
      let code : c < codes = ltb-true c codes (and_right (nat_lt s states) (nat_lt c codes) h.0) in
      record { from = from; code = code; to = subst (λ (z : ℕ). z < states) h.1 (within s c from (omega arith)) };
  ends = λ s e. ltb-true s states (and_left (nat_lt s states) _ e);
}

-- where all eight rows lead to states alone, so do the rows of the states
pub own_rows : (states : ℕ) (next : List (List ℕ)) → states ≤ 8 → ((s c : ℕ) → s < 8 → c < 32 → at next s c < states) → (s c : ℕ) → s < states → c < 32 → at next s c < states
own_rows states next few within s c h k = within s c (omega arith) k

-- ---- one step written

-- the rows after a place is written
abbrev pub put : List (List ℕ) → ℕ → ℕ → ℕ → List (List ℕ)
put next s c v = slice_set next s (slice_set (slice_index_or next s []) c v)

pub put_same : (next : List (List ℕ)) (from code to s c : ℕ) → from < length next → code < length (slice_index_or next from []) → s ≡ from → c ≡ code → at (put next from code to) s c ≡ to
put_same next from code to s c hf hc es ec =
    let row = slice_set (slice_index_or next from []) code to in
    ap (λ k. slice_index (slice_index_or (put next from code to) k []) c) es
    ∙ ap (λ r. slice_index r c) (get_or-set_same next from row [] hf)
    ∙ ap (λ k. slice_index row k) ec
    ∙ get_or-set_same (slice_index_or next from []) code to 0 hc

-- a place in another row or at another code keeps what it holds
pub put_other : (next : List (List ℕ)) (from code to s c : ℕ) → from < length next → (s ≡ from → c ≢ code) → at (put next from code to) s c ≡ at next s c
put_other next from code to s c hf h = elim (cases_eq s from) [
  | inl es ↦
      let row = slice_set (slice_index_or next from []) code to in
      ap (λ k. slice_index (slice_index_or (put next from code to) k []) c) es
      ∙ ap (λ r. slice_index r c) (get_or-set_same next from row [] hf)
      ∙ get_or-set_other (slice_index_or next from []) code c to 0 (h es)
      ∙ ap (λ k. at next k c) (sym es)
  | inr apart ↦ ap (λ r. slice_index r c) (get_or-set_other next from s _ [] apart)
]

-- a list keeps its bound where a place is written
pub below_set : (xs : List ℕ) (k v b i : ℕ) → v < b → slice_index xs i < b → slice_index (slice_set xs k v) i < b
below_set [] k v b i hv h = h
below_set (x ∷ xs) zero v b zero hv h = hv
below_set (x ∷ xs) zero v b (suc i) hv h = h
below_set (x ∷ xs) (suc k) v b zero hv h = h
below_set (x ∷ xs) (suc k) v b (suc i) hv h = below_set xs k v b i hv h

-- a written row keeps its bound
pub put_below : (next : List (List ℕ)) (states from code to : ℕ) → from < length next → code < length (slice_index_or next from []) → to < states
    → ((s c : ℕ) → s < states → c < 32 → at next s c < states) → (s c : ℕ) → s < states → c < 32 → at (put next from code to) s c < states
put_below next states from code to hf hc ht within s c hs h32 = elim (cases_eq s from) [
  | inl es ↦ elim (cases_eq c code) [
    | inl ec ↦ subst (λ (z : ℕ). z < states) (sym (put_same next from code to s c hf hc es ec)) ht
    | inr apart ↦ subst (λ (z : ℕ). z < states) (sym (put_other next from code to s c hf (λ _. apart))) (within s c hs h32)
  ]
  | inr apart ↦ subst (λ (z : ℕ). z < states) (sym (put_other next from code to s c hf (λ es. absurd (apart es)))) (within s c hs h32)
]

-- a write keeps the lengths of the rows
pub put_whole : (next : List (List ℕ)) (from code to : ℕ) → from < length next → ((s : ℕ) → s < 8 → length (slice_index_or next s []) ≡ 32) → (s : ℕ) → s < 8 → length (slice_index_or (put next from code to) s []) ≡ 32
put_whole next from code to hf whole s h = elim (cases_eq s from) [
  | inl es ↦
      ap (λ k. length (slice_index_or (put next from code to) k [])) es
      ∙ ap length (get_or-set_same next from _ [] hf)
      ∙ length-set (slice_index_or next from []) code to
      ∙ ap (λ k. length (slice_index_or next k [])) (sym es)
      ∙ whole s h
  | inr apart ↦ ap length (get_or-set_other next from s _ [] apart) ∙ whole s h
]

module _ (states codes start accepting : ℕ) (next : List (List ℕ)) (from code to : ℕ) (hf : from < length next) (hc : code < length (slice_index_or next from [])) (in_states : from < states) (in_codes : code < codes) where
  step_written : (s c : ℕ) (b : Bool) → (s == from && c == code) ≡ b → (table states codes start accepting (put next from code to)).step s c ≡ cond b (Some to) ((table states codes start accepting next).step s c)
  step_written s c true e =
      let es : s ≡ from = eqb-true s from (and_left (s == from) (c == code) e) in
      let ec : c ≡ code = eqb-true c code (and_right (s == from) (c == code) e) in
      let passes : (nat_lt s states && nat_lt c codes) ≡ true = and_both (nat_lt s states) (nat_lt c codes) (lt-ltb s states (omega arith)) (lt-ltb c codes (omega arith)) in
      ap (λ (b : Bool). cond b (Some (at (put next from code to) s c)) None) passes ∙ ap Some (put_same next from code to s c hf hc es ec)
  step_written s c false e =
      let other : s ≡ from → c ≢ code = λ es ec.
      let yes_both : (s == from && c == code) ≡ true = and_both (s == from) (c == code) (eq-eqb s from es) (eq-eqb c code ec) in
      let z : ◌≡◌ {A = ℕ} 0 1 = cc in omega arith in
      ap (λ v. cond (nat_lt s states && nat_lt c codes) (Some v) None) (put_other next from code to s c hf other)

  pub table_written : table states codes start accepting (put next from code to) ≡ written from code to (table states codes start accepting next)
  table_written = λ i. record {
    states = states;
    codes = codes;
    start = start;
    step = λ s c. step_written s c (s == from && c == code) refl i;
    accepts = λ s. nat_lt s states && has accepting s;
  }

-- ---- a table automaton as it is made

-- rows in which each state stays
abbrev pub Stays : ℕ → List (List ℕ) → Type 0
Stays states next = (s c : ℕ) → s < states → c < 32 → at next s c ≡ s

step_stays : (states codes : ℕ) (next : List (List ℕ)) → codes ≤ 32 → Stays states next → (s c : ℕ) (b : Bool) → (nat_lt s states && nat_lt c codes) ≡ b → cond b (Some (at next s c)) None ≡ cond b (Some s) None
step_stays states codes next coded stay s c true t =
    let hs : s < states = ltb-true s states (and_left (nat_lt s states) (nat_lt c codes) t) in
    let hc : c < codes = ltb-true c codes (and_right (nat_lt s states) (nat_lt c codes) t) in
    ap Some (stay s c hs (omega arith))
step_stays states codes next coded stay s c false t = refl

pub table_stays : (states codes start accepting : ℕ) (next : List (List ℕ)) → codes ≤ 32 → Stays states next → table states codes start accepting next ≡ staying states codes start accepting
table_stays states codes start accepting next coded stay = λ i. record {
  states = states;
  codes = codes;
  start = start;
  step = λ s c. step_stays states codes next coded stay s c (nat_lt s states && nat_lt c codes) refl i;
  accepts = λ s. nat_lt s states && has accepting s;
}

-- the row of a state, in the rows in which each state stays
abbrev pub stay_row : ℕ → ℕ → List ℕ
stay_row states s = replicate 32 (stay_at states s)

-- the eight rows in which each state stays
abbrev pub stay_rows : ℕ → List (List ℕ)
stay_rows q = stay_row q 0 ∷ stay_row q 1 ∷ stay_row q 2 ∷ stay_row q 3 ∷ stay_row q 4 ∷ stay_row q 5 ∷ stay_row q 6 ∷ stay_row q 7 ∷ []

pub rows_stay : (q s c : ℕ) → s < 8 → c < 32 → at (stay_rows q) s c ≡ stay_at q s
rows_stay q zero c h k = get_or-replicate 32 c (stay_at q 0) 0 k
rows_stay q (suc zero) c h k = get_or-replicate 32 c (stay_at q 1) 0 k
rows_stay q (suc (suc zero)) c h k = get_or-replicate 32 c (stay_at q 2) 0 k
rows_stay q (suc (suc (suc zero))) c h k = get_or-replicate 32 c (stay_at q 3) 0 k
rows_stay q (suc (suc (suc (suc zero)))) c h k = get_or-replicate 32 c (stay_at q 4) 0 k
rows_stay q (suc (suc (suc (suc (suc zero))))) c h k = get_or-replicate 32 c (stay_at q 5) 0 k
rows_stay q (suc (suc (suc (suc (suc (suc zero)))))) c h k = get_or-replicate 32 c (stay_at q 6) 0 k
rows_stay q (suc (suc (suc (suc (suc (suc (suc zero))))))) c h k = get_or-replicate 32 c (stay_at q 7) 0 k
rows_stay q (suc (suc (suc (suc (suc (suc (suc (suc s)))))))) c h k = absurd (omega arith)

pub rows_whole : (q s : ℕ) → s < 8 → length (slice_index_or (stay_rows q) s []) ≡ 32
rows_whole q zero h = refl
rows_whole q (suc zero) h = refl
rows_whole q (suc (suc zero)) h = refl
rows_whole q (suc (suc (suc zero))) h = refl
rows_whole q (suc (suc (suc (suc zero)))) h = refl
rows_whole q (suc (suc (suc (suc (suc zero))))) h = refl
rows_whole q (suc (suc (suc (suc (suc (suc zero)))))) h = refl
rows_whole q (suc (suc (suc (suc (suc (suc (suc zero))))))) h = refl
rows_whole q (suc (suc (suc (suc (suc (suc (suc (suc s)))))))) h = absurd (omega arith)
