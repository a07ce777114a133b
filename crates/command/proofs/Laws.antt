-- The laws of commands and packets: what the host says is what the module reads.
use Prim.Native.Nat.{ℕ, ◌≤◌, ◌<◌}
use mathlib.Core.Path.{◌≡◌, sym, ◌∙◌, ap}
use mathlib.Core.Bool.{true, false, cond, ◌||◌, false≢true}
use mathlib.Core.List.{List}
use native.Mathlib.Omega.{arith}
use lib.Dec.{eqb, ltb, leb}
use borrow.Author.Tests.{ne_eqb, eqb-true, ltb-true, leb-true, lt-leb}
use Rattle.bits.proofs.Tests.{by}
use Rattle.line.specs.declared.packet.Packet.{Packet}
use Rattle.line.specs.Line.{packet_length, packet_of2}
use Rattle.std.proofs.Common.{Some, None}
use Rattle.command.specs.declared.Command.{Command}
use Rattle.command.specs.declared.Command.TheVariants.{PositionHigh, PositionLow}
use Rattle.command.specs.Meaning.{byte_at, is_packet, position_high_of, said_by, OneOfThirteen, meaning_of}
use Rattle.command.specs.Saying.{has_room, packet_saying, UnreadZero, unread_cleared, ThreeBytes}
use Rattle.command.specs.Room.{RoomOfNumbers}
use Rattle.command.proofs.Room.{facts_room}
use Rattle.command.proofs.Rows.{row, never}
use Rattle.command.proofs.BothWays as both_ways

-- THE MODULE READS WHAT THE HOST SAYS: the packet of a command that has room means that command
pub reads_what_is_said : (c : Command) → has_room c ≡ true → meaning_of (packet_saying c) ≡ Some c
reads_what_is_said c h = both_ways.said c h

-- THE HOST SAYS WHAT THE MODULE READ: a packet's meaning has that packet, with its unread bits 0
pub says_what_is_read : (p : Packet) (c : Command) → ThreeBytes p → meaning_of p ≡ Some c → packet_saying c ≡ unread_cleared p
says_what_is_read p c b h = both_ways.written_back p c b h

-- so that a packet whose unread bits are 0 comes back byte for byte
pub byte_for_byte : (p : Packet) (c : Command) → ThreeBytes p → UnreadZero p → meaning_of p ≡ Some c
    → packet_saying c ≡ p
byte_for_byte p c b u h =
    says_what_is_read p c b h ∙ ap (λ (l : List ℕ). record { length = p.length; bytes = l }) (rw u (sym (both_ways.three_of p.bytes b.three)))

-- WHAT IS READ HAS ROOM: what a module may count on, whatever packet it is handed
pub read_in_room : (p : Packet) (c : Command) → meaning_of p ≡ Some c → RoomOfNumbers c
read_in_room p c h = both_ways.said_room (λ (n : ℕ). Unit) p c tt tt h

-- NO ROOM, NO PACKET: a command has room exactly where some packet means it
pub packet_has_room : (p : Packet) (c : Command) → ThreeBytes p → meaning_of p ≡ Some c → has_room c ≡ true
packet_has_room p c b h = facts_room c (both_ways.said_room (λ (n : ℕ). n < 256) p c b.second b.third h)

pub no_room_no_packet : (c : Command) → has_room c ≡ false → (p : Packet) → ThreeBytes p → meaning_of p ≡ Some c → ⊥
no_room_no_packet c none p b h = false≢true (sym none ∙ packet_has_room p c b h)

pub no_packet_no_room : (c : Command) → ((p : Packet) → ThreeBytes p → meaning_of p ≡ Some c → ⊥) → has_room c ≡ false
no_packet_no_room c none =
    by (has_room c) (λ h. absurd (none (packet_saying c) (both_ways.in_bytes c h) (both_ways.said c h))) (λ h. h)

-- NO TWO COMMANDS SHARE A PACKET
pub no_two_share : (c d : Command) → has_room c ≡ true → has_room d ≡ true → packet_saying c ≡ packet_saying d → c ≡ d
no_two_share c d hc hd e = let s : Some c ≡ Some d = sym (reads_what_is_said c hc) ∙ ap meaning_of e ∙ reads_what_is_said d hd in cc

-- UNREAD BITS CHANGE NO MEANING: where a packet says a command, it says the same with them put to 0
pub unread_unheeded : (p : Packet) (c : Command) → ThreeBytes p → meaning_of p ≡ Some c → meaning_of (unread_cleared p) ≡ Some c
unread_unheeded p c b h = rw (← says_what_is_read p c b h) (reads_what_is_said c (packet_has_room p c b h))

-- THE SHAPE OF A COMMAND'S PACKET: it is bytes,
pub in_bytes : (c : Command) → has_room c ≡ true → ThreeBytes (packet_saying c)
in_bytes c h = both_ways.in_bytes c h

-- as many as its first byte asks for,
pub right_length : (c : Command) → has_room c ≡ true → (packet_saying c).length ≡ packet_length (byte_at (packet_saying c) 0)
right_length c h = (both_ways.shaped (packet_saying c) c (reads_what_is_said c h)).0

-- with 0 in the third place of a short one,
pub short_ends : (c : Command) → has_room c ≡ true → packet_length (byte_at (packet_saying c) 0) ≡ 2 → byte_at (packet_saying c) 2 ≡ 0
short_ends c h e =
    let z : (eqb 2 3 || eqb (byte_at (packet_saying c) 2) 0) ≡ true = rw e at (both_ways.shaped (packet_saying c) c (reads_what_is_said c h)).1 in
    eqb-true (byte_at (packet_saying c) 2) 0 z

-- and unread bits 0
pub unread_0 : (c : Command) → has_room c ≡ true → UnreadZero (packet_saying c)
unread_0 c h = sym (ap (λ (p : Packet). byte_at p 1) (says_what_is_read (packet_saying c) c (in_bytes c h) (reads_what_is_said c h)))

-- C-12: WHAT SAYS A POSITION'S HALF is 0x88 with at most 15, or 0x89
pub says_high : (p : Packet) (high : ℕ) → meaning_of p ≡ Some (PositionHigh high) → (byte_at p 0 ≡ 0x88) × (byte_at p 1 ≤ 15)
unfolding packet_saying said_by position_high_of
says_high p high h =
    let first : 0x88 ≡ byte_at p 0 = both_ways.first_said p (PositionHigh high) h in
    let said = (both_ways.shaped p (PositionHigh high) h).2 in
    let tested : cond (leb (byte_at p 1) 15) (Some (PositionHigh (byte_at p 1))) None ≡ Some (PositionHigh high) = rw (← first) at said in
    (sym first, row (leb (byte_at p 1) 15) _ _ (PositionHigh high) tested (λ l m. leb-true _ _ l) (λ n. never (PositionHigh high)))

pub says_low : (p : Packet) (low : ℕ) → meaning_of p ≡ Some (PositionLow low) → byte_at p 0 ≡ 0x89
unfolding packet_saying
says_low p low h = sym (both_ways.first_said p (PositionLow low) h)

-- C-12: A POSITION'S HIGH HALF OVER 15 MEANS NOTHING
pub over_15_means_nothing : (high : ℕ) → 15 < high → meaning_of (packet_of2 0x88 high) ≡ None
unfolding meaning_of is_packet packet_length said_by position_high_of
over_15_means_nothing high over = simp (lt-leb high 15 over)

-- C-02: THE THIRTEEN MEAN NOTHING, whatever follows them
module _ (first : ℕ) (one : OneOfThirteen first) where
  -- the tables' other first bytes are below 0x70, or above 0x7F
  lower : (k : ℕ) → ltb k 0x70 ≡ true → eqb first k ≡ false
  lower k l = ne_eqb first k (λ e. omega (arith, ltb-true k 0x70 l))

  higher : (k : ℕ) → ltb 0x7F k ≡ true → eqb first k ≡ false
  higher k l = ne_eqb first k (λ e. omega (arith, ltb-true 0x7F k l))

  no_row : (second third : ℕ) → said_by first second third ≡ None
  unfolding said_by
  no_row second third =
      search (lower, higher, ne_eqb first 0x77 one.no_verify, ne_eqb first 0x7B one.no_bit, ne_eqb first 0x7F one.no_write)

pub means_nothing : (p : Packet) → OneOfThirteen (byte_at p 0) → meaning_of p ≡ None
unfolding meaning_of
means_nothing p one = by (is_packet p) (λ t. rw t (no_row (byte_at p 0) one (byte_at p 1) (byte_at p 2))) (λ t. rw t)
