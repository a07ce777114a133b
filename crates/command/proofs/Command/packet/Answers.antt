use Rattle.command.proofs.Room.{room_of}
use native.Mathlib.Omega.{arith}
use Rattle.command.proofs.Command.packet.Goals as goal

pub state_byte-requires : goal.state_byte-requires
state_byte-requires c = room_of c.requires c.in-ShortState.is

pub state_byte-requires-in-LongLow : goal.state_byte-requires-in-LongLow
state_byte-requires-in-LongLow c = room_of c.requires c.in-LongLow.is

pub cv_byte-requires : goal.cv_byte-requires
cv_byte-requires c = (room_of c.requires c.in-VerifyByte.is).0

pub cv_byte-requires-in-WriteByte : goal.cv_byte-requires-in-WriteByte
cv_byte-requires-in-WriteByte c = (room_of c.requires c.in-WriteByte.is).0

pub bit_packet-requires : goal.bit_packet-requires
bit_packet-requires c =
    let r = room_of c.requires c.in-VerifyBit.is in
    record { le_cv = r.0; place_bound = r.1; writes_bound = omega arith }

pub bit_packet-requires-in-WriteBit : goal.bit_packet-requires-in-WriteBit
bit_packet-requires-in-WriteBit c =
    let r = room_of c.requires c.in-WriteBit.is in
    record { le_cv = r.0; place_bound = r.1; writes_bound = omega arith }

pub call_byte-requires : goal.call_byte-requires
call_byte-requires c =
    let both = room_of c.requires c.in-Call.is in
    record { called_bound = both.0; status_bound = both.1 }

pub overflow_sub-cv : goal.overflow_sub-cv
overflow_sub-cv c = (room_of c.requires c.in-ReadCv.is).0

pub overflow_cast-cv : goal.overflow_cast-cv
overflow_cast-cv c = omega (arith, room_of c.requires c.in-ReadCv.is)
