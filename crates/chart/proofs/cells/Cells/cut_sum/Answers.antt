use Rattle.std.proofs.Common.{◌≡◌, ◌+◌, ◌-◌, ◌<◌, length, get_or, sym, ap, ◌∙◌, mul-le-mul, arith, rules}
use Rattle.std.proofs.lemmas.List.{get_or_read}
use Rattle.semiring.specs.Semirings.{sum_below}
use Rattle.semiring.proofs.Sums.{sum_none, sum_more}
use Rattle.chart.specs.Cells.{cell_at, cut_product}
use Rattle.chart.proofs.Places.{room_before, inside, place_from, place_wider, place_next, place_small}
use Rattle.chart.proofs.cells.Cells.cut_sum.Goals as goal

-- one entry has no cut
pub returns-then-is_single : goal.returns-then-is_single
returns-then-is_single g c =
    let s = c.args.self.now.span in
    let ring = g.S.Semiring.ring in
    let product = cut_product ring (cell_at ring s.cells c.args.self.now.slots.now) s.begin s.end c.args.left c.args.right in
    let none : s.end - (s.begin + 1) ≡ 0 = search rules in
    c.zero-sum.ensures ∙ sym (ap (λ k. sum_below ring k product) none ∙ sum_none ring product)

pub loop-cut-init : goal.loop-cut-init
loop-cut-init g c =
    let s = c.args.self.now.span in
    let ring = g.S.Semiring.ring in
    let product = cut_product ring (cell_at ring s.cells c.args.self.now.slots.now) s.begin s.end c.args.left c.args.right in
    let none : s.begin + 1 - (s.begin + 1) ≡ 0 = omega arith in record {
      left = search rules;
      right = search rules;
      sum = c.zero-sum.ensures ∙ sym (ap (λ k. sum_below ring k product) none ∙ sum_none ring product);
    }

pub bounds-self-l : goal.bounds-self-l
bounds-self-l g c =
    let a = c.args.self.now in
    let s = a.span in
    let cut = c.loop-cut.cut in
    let room = room_before s.cells cut s.end (length a.slots.now) (omega arith) a.room in
    omega (arith, c.loop-cut.invariant.left, inside s.cells s.begin cut c.args.left (length a.slots.now) (omega arith) c.requires.0 room.fits)

pub offset_bounds-self-l : goal.offset_bounds-self-l
offset_bounds-self-l g c = let h : c.loop-cut.l < length c.args.self.now.slots.now = bounds-self-l g c in search rules

pub bounds-self-r : goal.bounds-self-r
bounds-self-r g c =
    let a = c.args.self.now in
    let s = a.span in
    omega (arith, c.loop-cut.invariant.right, inside s.cells c.loop-cut.cut s.end c.args.right (length a.slots.now) (omega arith) c.requires.1 a.room.fits)

pub offset_bounds-self-r : goal.offset_bounds-self-r
offset_bounds-self-r g c = let h : c.loop-cut.r < length c.args.self.now.slots.now = bounds-self-r g c in search rules

pub overflow_mul-l : goal.overflow_mul-l
overflow_mul-l g c =
    let s = c.args.self.now.span in
    let cut = c.loop-cut.cut in
    omega (arith, mul-le-mul {n₁ = cut} {m₁ = s.cells} {n₂ = 64} {m₂ = 4096} (omega (arith, s.few)) s.narrow)

pub overflow_add-l : goal.overflow_add-l
overflow_add-l g c =
    let s = c.args.self.now.span in
    let cut = c.loop-cut.cut in
    omega (arith, c.loop-cut.invariant.left, place_wider s.cells s.begin cut c.args.left, place_from s.cells s.begin (cut + 1) c.args.left, place_small s.cells s.begin (cut + 1) s.narrow (omega (arith, s.few)) (omega arith))

pub overflow_add-r : goal.overflow_add-r
overflow_add-r g c =
    let s = c.args.self.now.span in
    let cut = c.loop-cut.cut in
    omega (arith, c.loop-cut.invariant.right, place_next s.cells cut s.end c.args.right, place_from s.cells (cut + 1) s.end c.args.right, place_small s.cells (cut + 1) s.end s.narrow s.few (omega arith))

pub loop-cut-preserved : goal.loop-cut-preserved
loop-cut-preserved g c =
    let a = c.args.self.now in
    let s = a.span in
    let l = c.loop-cut in
    let ring = g.S.Semiring.ring in
    let xs = a.slots.now in
    let cell = cell_at ring s.cells xs in
    let k = l.cut - (s.begin + 1) in
    let cut : s.begin + 1 + k ≡ l.cut = omega arith in
    let next : l.cut + 1 - (s.begin + 1) ≡ k + 1 = omega arith in
    let room = room_before s.cells l.cut s.end (length xs) (omega arith) a.room in
    let in_left : l.l < length xs = omega (arith, l.invariant.left, inside s.cells s.begin l.cut c.args.left (length xs) (omega arith) c.requires.0 room.fits) in
    let in_right : l.r < length xs = omega (arith, l.invariant.right, inside s.cells l.cut s.end c.args.right (length xs) (omega arith) c.requires.1 a.room.fits) in
    let left : get_or xs l.l c.index-self-l.result ≡ cell s.begin l.cut c.args.left =
    sym c.index-self-l.is ∙ get_or_read xs l.l _ in_left c.index-self-l.is ring.zero ∙ ap (λ i. get_or xs i ring.zero) l.invariant.left in
    let right : get_or xs l.r c.index-self-r.result ≡ cell l.cut s.end c.args.right =
    sym c.index-self-r.is ∙ get_or_read xs l.r _ in_right c.index-self-r.is ring.zero ∙ ap (λ i. get_or xs i ring.zero) l.invariant.right in
    let more = sum_more ring k (cut_product ring cell s.begin s.end c.args.left c.args.right) in record {
      left = omega (arith, l.invariant.left, place_wider s.cells s.begin l.cut c.args.left);
      right = omega (arith, l.invariant.right, place_next s.cells l.cut s.end c.args.right);
      sum = cc;
    }
