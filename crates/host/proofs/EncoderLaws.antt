-- The laws of the encoder: what the host encodes, the module reads as the same command, and back.
use mathlib.Core.Path.{◌≡◌, sym, ◌∙◌, ap}
use mathlib.Core.Bool.{true, false}
use mathlib.Core.Logic.{◌⊎◌, inl, inr}
use native.Mathlib.Omega.{arith}
use Rattle.bits.proofs.Tests.{by}
use Rattle.std.proofs.Common.{Some, Result, Ok, Err}
use Rattle.refusals.specs.declared.Refusal.{Refusal}
use Rattle.refusals.specs.Numbers.{paper_number}
use Rattle.refusals.proofs.Laws.{same_number, never_0}
use Rattle.line.specs.declared.packet.Packet.{Packet}
use Rattle.line.specs.Line.{packet_length, no_packet}
use Rattle.command.specs.declared.Command.{Command}
use Rattle.command.specs.Meaning.{byte_at, meaning_of}
use Rattle.command.specs.Saying.{has_room, packet_saying, UnreadZero, ThreeBytes}
use Rattle.command.proofs.Laws as laws
use Rattle.host.specs.Encode.{Encoded, encoded_of, encoded_as}

-- what has room is encoded, and what has none is refused
pub taken : (c : Command) → has_room c ≡ true → encoded_of c ≡ record { refusal = 0; packet = packet_saying c }
unfolding encoded_of
taken c h = rw h

pub refused : (c : Command) → has_room c ≡ false → encoded_of c ≡ record { refusal = 8; packet = no_packet }
unfolding encoded_of
refused c h = rw h

-- a refusal is 8, and there is no packet then; else there is room
room_of_0 : (c : Command) → (encoded_of c).refusal ≡ 0 → has_room c ≡ true
room_of_0 c e =
    by (has_room c) (λ h. h)
    (λ h. let z : ⊥ = omega (arith, e, ap (λ (r : Encoded). r.refusal) (refused c h)) in absurd z)

no_room_of_8 : (c : Command) → (encoded_of c).refusal ≡ 8 → has_room c ≡ false
no_room_of_8 c e =
    by (has_room c) (λ h. let z : ⊥ = omega (arith, e, ap (λ (r : Encoded). r.refusal) (taken c h)) in absurd z) (λ h. h)

packet_of_0 : (c : Command) → (encoded_of c).refusal ≡ 0 → (encoded_of c).packet ≡ packet_saying c
packet_of_0 c e = ap (λ (r : Encoded). r.packet) (taken c (room_of_0 c e))

-- NOTHING BUT 8 IS REFUSED WITH
pub only_8 : (c : Command) → ((encoded_of c).refusal ≡ 0) ⊎ ((encoded_of c).refusal ≡ 8)
only_8 c =
    by (has_room c) (λ h. inl (ap (λ (r : Encoded). r.refusal) (taken c h))) (λ h. inr (ap (λ (r : Encoded). r.refusal) (refused c h)))

pub no_packet_with_8 : (c : Command) → (encoded_of c).refusal ≡ 8 → (encoded_of c).packet ≡ no_packet
no_packet_with_8 c e = ap (λ (r : Encoded). r.packet) (refused c (no_room_of_8 c e))

-- THE MODULE READS WHAT THE HOST ENCODES: every command that is not refused
pub read_as_encoded : (c : Command) → (encoded_of c).refusal ≡ 0 → meaning_of (encoded_of c).packet ≡ Some c
read_as_encoded c e = ap meaning_of (packet_of_0 c e) ∙ laws.reads_what_is_said c (room_of_0 c e)

-- A PACKET COMES BACK BYTE FOR BYTE: encoding what a packet with unread bits 0 means gives that packet
pub comes_back : (p : Packet) (c : Command) → ThreeBytes p → UnreadZero p → meaning_of p ≡ Some c
    → encoded_of c ≡ record { refusal = 0; packet = p }
comes_back p c b u h =
    taken c (laws.packet_has_room p c b h) ∙ ap (λ (q : Packet). record { refusal = 0; packet = q }) (laws.byte_for_byte p c b u h)

-- 8 EXACTLY WHERE NO PACKET MEANS THE COMMAND
pub no_packet_of_8 : (c : Command) → (encoded_of c).refusal ≡ 8 → (p : Packet) → ThreeBytes p → meaning_of p ≡ Some c → ⊥
no_packet_of_8 c e = laws.no_room_no_packet c (no_room_of_8 c e)

pub refused_without_packet : (c : Command) → ((p : Packet) → ThreeBytes p → meaning_of p ≡ Some c → ⊥) → (encoded_of c).refusal ≡ 8
refused_without_packet c none = ap (λ (r : Encoded). r.refusal) (refused c (laws.no_packet_no_room c none))

-- NO TWO COMMANDS SHARE A PACKET
pub no_two_encoded_alike : (c d : Command) → (encoded_of c).refusal ≡ 0 → (encoded_of d).refusal ≡ 0 → (encoded_of c).packet ≡ (encoded_of d).packet → c ≡ d
no_two_encoded_alike c d ec ed e =
    laws.no_two_share c d (room_of_0 c ec) (room_of_0 d ed) (sym (packet_of_0 c ec) ∙ e ∙ packet_of_0 d ed)

-- THE SHAPE OF AN ENCODED PACKET: three bytes, as long as the first asks for, 0 past a short one's end, unread bits 0
pub encoded_bytes : (c : Command) → (encoded_of c).refusal ≡ 0 → ThreeBytes (encoded_of c).packet
encoded_bytes c e = rw (packet_of_0 c e) (laws.in_bytes c (room_of_0 c e))

pub encoded_length : (c : Command) → (encoded_of c).refusal ≡ 0 → (encoded_of c).packet.length ≡ packet_length (byte_at (encoded_of c).packet 0)
encoded_length c e = rw (packet_of_0 c e) (laws.right_length c (room_of_0 c e))

pub encoded_end : (c : Command) → (encoded_of c).refusal ≡ 0 → packet_length (byte_at (encoded_of c).packet 0) ≡ 2 → byte_at (encoded_of c).packet 2 ≡ 0
encoded_end c e = rw (packet_of_0 c e) (laws.short_ends c (room_of_0 c e))

pub encoded_unread : (c : Command) → (encoded_of c).refusal ≡ 0 → UnreadZero (encoded_of c).packet
encoded_unread c e = rw (packet_of_0 c e) (laws.unread_0 c (room_of_0 c e))

-- THE ENCODER IS DETERMINED: two answers that keep its promise are one
pub encode_determined : (c : Command) (r s : Encoded) → r ≡ encoded_of c → s ≡ encoded_of c → r ≡ s
encode_determined c r s p q = p ∙ sym q

-- NO TWO ANSWERS SAY THE SAME: what the answer to a command says determines it
packet_apart : (p : Packet) (other : Result Packet Refusal) → encoded_as (Ok p) ≡ encoded_as other → Ok p ≡ other
packet_apart p (Ok q) same = ap (λ (r : Encoded). Ok r.packet) same
packet_apart p (Err why) same = absurd (never_0 why (sym (ap (λ (r : Encoded). r.refusal) same)))

refused_apart : (one : Refusal) (other : Result Packet Refusal) → encoded_as (Err one) ≡ encoded_as other → Err one ≡ other
refused_apart one (Ok q) same = absurd (never_0 one (ap (λ (r : Encoded). r.refusal) same))
refused_apart one (Err why) same = ap Err (same_number one why (ap (λ (r : Encoded). r.refusal) same))

pub encoded_once : (one other : Result Packet Refusal) → encoded_as one ≡ encoded_as other → one ≡ other
encoded_once (Ok p) other same = packet_apart p other same
encoded_once (Err why) other same = refused_apart why other same
