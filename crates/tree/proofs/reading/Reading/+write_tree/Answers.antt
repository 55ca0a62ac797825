use Rattle.std.proofs.Common.{arith, rules}
use Rattle.entries.proofs.Listing.{size}
use Rattle.tree.proofs.Growing.{cut_inside, split, whole_wrote, node_wrote, wrote_at}
use Rattle.tree.proofs.reading.Reading.+write_tree.Goals as goal

pub parts-requires : goal.parts-requires
parts-requires g t c = cut_inside _ _ _ c.choose-choice.result c.choose-choice.ensures.cuts

pub write_tree-requires-in-Some : goal.write_tree-requires-in-Some
write_tree-requires-in-Some g t c κs within =
    let a = c.args in
    let same = a.self.now.same in
    let s = split _ _ _ c.choose-choice.result c.choose-choice.ensures.cuts _ _ c.in-Some.ensures in
    (omega arith, (search rules, (search rules, (record { within = omega arith; named = omega arith }, omega arith))))

pub returns-in-Some : goal.returns-in-Some
returns-in-Some g t c =
    let a = c.args in
    let e = a.self.now.chart.now.entries in
    let same = a.self.now.same in
    let s = split _ _ _ c.choose-choice.result c.choose-choice.ensures.cuts _ _ c.in-Some.ensures in
    node_wrote _ _ _ _ _ _ _ a.node.span (omega (arith, size e)) (omega arith) _ _ c.requires.fits _ c.choose-choice.ensures s.left s.right s.is s.low s.high c.write_tree.new.records _
    (rw (← c.write.ensures) (wrote_at _ s.front_is c.write_tree.ensures))
    (wrote_at _ s.back_is c.write_tree-in-Some.ensures)

pub returns-in_default : goal.returns-in_default
returns-in_default g t c =
    let a = c.args in
    let e = a.self.now.chart.now.entries in
    let same = a.self.now.same in
    rw c.write.ensures (whole_wrote _ _ _ _ _ _ _ a.node.span (omega (arith, size e)) (omega arith) _ _ c.requires.fits _ c.choose-choice.ensures c.in_default.ensures)
