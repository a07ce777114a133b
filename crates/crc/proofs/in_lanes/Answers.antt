-- `crc::in_lanes` meets its contract. The invariant: each running value is that of its lane's bytes gone over.
use Prim.Native.Nat.{◌*◌}
use mathlib.Core.Path.{◌≡◌, refl, ◌∙◌}
use native.Mathlib.Omega.{arith}
use borrow.Author.Rules.{rules}
use Rattle.crc.specs.Crc.{crc_from}
use Rattle.crc.proofs.Laws.{turn}
use Rattle.crc.proofs.Lanes.{lane_turn, joined}
use Rattle.crc.proofs.in_lanes.Goals as goal

pub loop-i-init : goal.loop-i-init
unfolding crc_from
loop-i-init c = (search rules, refl, refl, refl, refl, search rules, search rules, search rules)

pub byte_by_table-a-requires : goal.byte_by_table-a-requires
byte_by_table-a-requires c = c.table-table.ensures

pub byte_by_table-b-requires : goal.byte_by_table-b-requires
byte_by_table-b-requires c = c.table-table.ensures

pub byte_by_table-c-requires : goal.byte_by_table-c-requires
byte_by_table-c-requires c = c.table-table.ensures

pub byte_by_table-d-requires : goal.byte_by_table-d-requires
byte_by_table-d-requires c = c.table-table.ensures

pub loop-i-preserved : goal.loop-i-preserved
loop-i-preserved c =
    let inside = c.loop-i-test.true in
    let turned = lane_turn c.args.bytes.now c.args.lane c.requires.bytes_len c.requires.lane_value in (
      omega arith,
      c.byte_by_table-a.ensures ∙ turn _ c.args.bytes.now c.loop-i.i c.loop-i.a c.loop-i.invariant.1 (omega (arith, c.requires.bytes_len)),
      c.byte_by_table-b.ensures ∙ turned c.args.lane c.loop-i.i c.loop-i.b c.loop-i.invariant.2 inside (omega arith),
      c.byte_by_table-c.ensures ∙ turned (c.args.lane * 2) c.loop-i.i c.loop-i.c c.loop-i.invariant.3 inside (omega arith),
      c.byte_by_table-d.ensures ∙ turned (c.args.lane * 3) c.loop-i.i c.loop-i.d c.loop-i.invariant.4 inside (omega arith),
      search rules,
      search rules,
      search rules,
    )

pub returns : goal.returns
returns c =
    let l = c.loop-i in
    let end : l.i ≡ c.args.lane = omega arith in
    joined c.args.bytes.now c.args.lane c.requires.bytes_len c.requires.lane_value c.args.crc
    l.a l.b l.c l.d l.invariant.5 l.invariant.6 l.invariant.7
    (rw end at l.invariant.1) (rw end at l.invariant.2) (rw end at l.invariant.3) (rw end at l.invariant.4)
