use Rattle.effects.proofs.Apart.{address_apart, long_apart, position_apart}
use Rattle.reactions.specs.Reactions.{bank_answers}
use mathlib.Core.Path.{refl}
use native.Mathlib.Omega.{arith}
use Rattle.store.proofs.Sizes.{store_long_lem, sizes_long_lem}
use Rattle.board.proofs.Checked.{right, states_long, lengths_right, room_long}
use Rattle.effects.specs.Effects.{effect_of}
use Rattle.effects.proofs.tables.obey.Goals as goal

pub with_load-requires : goal.with_load-requires
with_load-requires c =
    let told = rw c.in-Load.is at c.requires.room_of_numbers in
    told

pub with_functions-requires : goal.with_functions-requires
with_functions-requires c =
    let told = rw c.in-FunctionsFrom0.is at c.requires.room_of_numbers in
    record { width_bound = omega arith; on_bound = told }

pub with_control-requires : goal.with_control-requires
with_control-requires c =
    let told = rw c.in-Control.is at c.requires.room_of_numbers in
    told

pub short_state-requires : goal.short_state-requires
short_state-requires c =
    let ok = right _ _ _ c.requires.room_value in
    let told = rw c.in-ShortState.is at c.requires.room_of_numbers in
    record { states_len = states_long _ _ _ _ ok.buffers; number_bound = told }

pub state_byte-requires : goal.state_byte-requires
state_byte-requires c =
    let told = rw c.in-LongLow.is at c.requires.room_of_numbers in
    told

pub long_high-requires : goal.long_high-requires
long_high-requires c =
    let ok = right _ _ _ c.requires.room_value in
    states_long _ _ _ _ ok.buffers

pub verify_byte-requires : goal.verify_byte-requires
verify_byte-requires c =
    let ok = right _ _ _ c.requires.room_value in
    record { fixed_value = lengths_right _ _ _ _ ok.buffers; fixed_value_2 = ok.sheeted }

pub write_byte-requires : goal.write_byte-requires
write_byte-requires c =
    let ok = right _ _ _ c.requires.room_value in
    let l = lengths_right _ _ _ _ ok.buffers in
    record { store_value = store_long_lem _ _ l; sheet_value = sizes_long_lem _ _ l }

pub verify_bit-requires : goal.verify_bit-requires
verify_bit-requires c =
    let ok = right _ _ _ c.requires.room_value in
    let told = rw c.in-VerifyBit.is at c.requires.room_of_numbers in
    record { fixed_value = lengths_right _ _ _ _ ok.buffers; fixed_value_2 = ok.sheeted; place_bound = told.1.0 }

pub write_bit-requires : goal.write_bit-requires
write_bit-requires c =
    let ok = right _ _ _ c.requires.room_value in
    let told = rw c.in-WriteBit.is at c.requires.room_of_numbers in
    record { fixed_value = lengths_right _ _ _ _ ok.buffers; fixed_value_2 = ok.sheeted; place_bound = told.1.0; value_bound = told.1.1 }

pub called-requires : goal.called-requires
called-requires c =
    let ok = right _ _ _ c.requires.room_value in
    room_long _ _ _ _ ok.buffers

pub bank_read-requires : goal.bank_read-requires
bank_read-requires c =
    let ok = right _ _ _ c.requires.room_value in
    record { fixed_value = lengths_right _ _ _ _ ok.buffers; fixed_value_2 = ok.sheeted; in_bounds = room_long _ _ _ _ ok.buffers }

pub cv_read-requires : goal.cv_read-requires
cv_read-requires c =
    let ok = right _ _ _ c.requires.room_value in
    record { fixed_value = lengths_right _ _ _ _ ok.buffers; fixed_value_2 = ok.sheeted; in_bounds = room_long _ _ _ _ ok.buffers }

pub returns-in-AddressHigh : goal.returns-in-AddressHigh
unfolding effect_of
returns-in-AddressHigh c =
    rw c.in-AddressHigh.is (rw c.address_high.ensures (address_apart c.args.kept c.args.states.now c.args.store.now c.args.room.now c.in-AddressHigh.high))

pub returns-in-LongHigh : goal.returns-in-LongHigh
unfolding effect_of
returns-in-LongHigh c =
    rw c.in-LongHigh.is (rw (c.long_high.ensures.value, c.long_high.ensures.states_after) (long_apart c.args.kept c.args.states.now c.args.store.now c.args.room.now c.in-LongHigh.high))

pub returns-in-BankRead : goal.returns-in-BankRead
unfolding effect_of bank_answers
returns-in-BankRead c =
    rw c.in-BankRead.is (rw (c.bank_read.ensures.value, c.bank_read.ensures.room_after) refl)

pub returns-in-PositionLow : goal.returns-in-PositionLow
unfolding effect_of
returns-in-PositionLow c =
    rw c.in-PositionLow.is (rw c.position_low.ensures (position_apart c.args.kept c.args.states.now c.args.store.now c.args.room.now c.in-PositionLow.low))
