use Prim.Native.Nat.{◌*◌, ◌<◌}
use mathlib.Core.Path.{◌≡◌, refl, sym}
use native.Mathlib.Omega.{arith}
use borrow.Author.Rules.{rules}
use lib.ListN.{get_or, length, take}
use Rattle.std.proofs.lemmas.List.{get_or-take, length-take-le}
use Rattle.bits.specs.Bits.{bit_at}
use Rattle.ones.specs.Ones.{ones_among}
use Rattle.ones.proofs.Laws.{at_most, bits_at_most}
use Rattle.states.specs.States.{state_at}
use Rattle.states.proofs.Counted.{state_bit, byte_more}
use Rattle.states.proofs.stateson.ones_in.Goals as goal

-- as many bytes are gone through as are asked for
all_taken : (c : goal.After-loop-byte) → length (take c.args.count c.args.states.now) ≡ c.args.count
all_taken c = length-take-le c.args.count c.args.states.now c.requires.count_in_bounds

pub loop-byte-init : goal.loop-byte-init
unfolding ones_among
loop-byte-init c = (search rules, refl)

in_range : (c : goal.After-of_byte) → c.loop-byte.byte-index < c.args.count
in_range c = omega (arith, length-take-le c.args.count c.args.states.now c.requires.count_in_bounds)

-- the byte of a turn is the lent one, and its ones are at most eight
its_ones : (c : goal.After-of_byte) → c.of_byte.result ≡ ones_among (bit_at (get_or c.args.states.now c.loop-byte.byte-index 0)) 0 8
its_ones c = rw (← get_or-take c.args.count c.args.states.now c.loop-byte.byte-index 0 (in_range c)) c.of_byte.ensures

pub overflow_cast-on : goal.overflow_cast-on
overflow_cast-on c =
    omega (arith, its_ones c, bits_at_most (get_or c.args.states.now c.loop-byte.byte-index 0) 8)

pub overflow_add-on : goal.overflow_add-on
overflow_add-on c =
    let l = c.loop-byte in
    let states = c.args.states.now in
    omega (arith, its_ones c, in_range c, bits_at_most (get_or states l.byte-index 0) 8, l.invariant.1, at_most (state_at states) 0 (8 * l.byte-index) (state_bit states))

pub loop-byte-preserved : goal.loop-byte-preserved
loop-byte-preserved c =
    let l = c.loop-byte in
    (omega (arith, in_range c), rw (its_ones c, l.invariant.1) (sym (byte_more c.args.states.now l.byte-index)))

pub returns : goal.returns
returns c =
    let l = c.loop-byte in
    let all : l.byte-index ≡ c.args.count = omega (arith, all_taken c) in
    rw (← all) l.invariant.1
