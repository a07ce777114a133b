-- What the line receiver does with an edge: document 01, "Edges, bits, pauses", with the lengths of C-02 and the clock of C-03.
use Rattle.std.specs.Prelude.{ℕ, ◌+◌, ◌-◌, ◌*◌, ◌^◌, ◌≤◌, [], ◌∷◌, Bool, cond, not, ◌&&◌, ◌≡◌, ltb, leb, eqb, Option, Some, None, Result, Ok, Err}
use Rattle.refusals.specs.declared.Refusal.{Refusal}
use Rattle.refusals.specs.Numbers.{paper_number}
use Rattle.line.specs.declared.packet.Packet.{Packet}
use Rattle.line.specs.declared.receiver.Receiver.{Receiver}
use Rattle.line.specs.declared.receiver.Heard as code

-- "Packets have two bytes"; C-02: "every first byte from 0x70 to 0x7F is a three-byte packet"
unfoldable pub packet_length : ℕ → ℕ
packet_length first = cond (leb 0x70 first && leb first 0x7F) 3 2

-- "every first byte from 0x70 to 0x7F", as a fact: law `three_exactly`
abbrev pub From70To7F : ℕ → Type 0
From70To7F first = (0x70 ≤ first) × (first ≤ 0x7F)

-- no packet, and packets of two and of three bytes
abbrev pub no_packet : Packet
no_packet = record { length = 0; bytes = 0 ∷ 0 ∷ 0 ∷ [] }

abbrev pub packet_of2 : ℕ → ℕ → Packet
packet_of2 a b = record { length = 2; bytes = a ∷ b ∷ 0 ∷ [] }

abbrev pub packet_of3 : ℕ → ℕ → ℕ → Packet
packet_of3 a b c = record { length = 3; bytes = a ∷ b ∷ c ∷ [] }

-- a fresh receiver: no edge yet, nothing held, and its clock has not started
abbrev pub fresh_receiver : Receiver
fresh_receiver = record { last = 0; start = 0; started = 0; bits = 0; count = 0; first = 0; second = 0; held = 0 }

-- a receiver that holds nothing, its last edge at that time, where its clock started
abbrev pub idle_at : ℕ → Receiver
idle_at time = record { last = time; start = time; started = 1; bits = 0; count = 0; first = 0; second = 0; held = 0 }

-- the receiver with nothing held any more; with other held bits
abbrev pub emptied : Receiver → Receiver
emptied r = record { last = r.last; start = r.start; started = r.started; bits = 0; count = 0; first = 0; second = 0; held = 0 }

abbrev pub with_bits : Receiver → ℕ → ℕ → Receiver
with_bits r bits count =
    record {
      last = r.last;
      start = r.start;
      started = r.started;
      bits = bits;
      count = count;
      first = r.first;
      second = r.second;
      held = r.held;
    }

-- C-03: "The clock now starts at the edge that completes a byte": the receiver with other held bytes, the last edge having completed
-- one (of a byte without times the last edge's time is taken)
abbrev pub holding : Receiver → ℕ → ℕ → ℕ → Receiver
holding r first second held =
    record {
      last = r.last;
      start = r.last;
      started = 1;
      bits = r.bits;
      count = r.count;
      first = first;
      second = second;
      held = held;
    }

-- the receiver after an edge, and the packet which that edge completed: length 0 where none did
pub record Heard : Type 0 where
  pub receiver : Receiver
  pub packet : Packet

-- the code's own answer, said so
abbrev pub packet_in : Option Packet → Packet
packet_in None = no_packet
packet_in (Some packet) = packet

abbrev pub heard_told : code.Heard → Heard
heard_told h = record { receiver = h.receiver; packet = packet_in h.packet }

-- a packet that is there has bytes. So no two answers of the code are said alike: law `heard_once`
abbrev pub WholePacket : Option Packet → Type 0
WholePacket None = Unit
WholePacket (Some packet) = packet.length ≡ 0 → ⊥

-- nothing completed
abbrev pub quiet : Receiver → Heard
quiet r = record { receiver = r; packet = no_packet }

-- the mark: 0 from a restart to the first edge, any other number says that the clock has started
unfoldable pub clock_runs : Receiver → Bool
clock_runs r = not (eqb r.started 0)

-- the start that an edge at this time finds. C-03: "with no byte since restart or pause, at the first edge": where the clock does not
-- run yet, the edge itself
unfoldable pub start_for : Receiver → ℕ → ℕ
start_for r time = cond (clock_runs r) r.start time

-- THE PAUSE, C-03: "an edge 8,000 µs or more after that start"
unfoldable pub late : ℕ → ℕ → Bool
late start time = leb 8000 (time - start)

unfoldable pub is_pause : Receiver → ℕ → Bool
is_pause r time = late (start_for r time) time

-- the same as a fact: law `pause_exactly`
abbrev pub PauseAt : Receiver → ℕ → Type 0
PauseAt r time = (r.started ≡ 0 → ⊥) × (r.start + 8000 ≤ time)

-- the receiver at the time of an edge that is no pause, before its bit
abbrev pub at_time : Receiver → ℕ → Receiver
at_time r time =
    record {
      last = time;
      start = start_for r time;
      started = 1;
      bits = r.bits;
      count = r.count;
      first = r.first;
      second = r.second;
      held = r.held;
    }

-- and of one that is: it "clears everything held", and the clock starts at it
unfoldable pub paused_of : Receiver → ℕ → Receiver
paused_of r time = cond (is_pause r time) (idle_at time) (at_time r time)

-- a byte joins those held: it is the first; or the second, of three or of two; or the third
unfoldable pub byte_of : Receiver → ℕ → Heard
byte_of r byte =
    cond (eqb r.held 0) (quiet (holding r byte 0 1))
    (cond (eqb r.held 1)
    (cond (eqb (packet_length r.first) 3) (quiet (holding r r.first byte 2))
    (record { receiver = holding r 0 0 0; packet = packet_of2 r.first byte }))
    (record { receiver = holding r 0 0 0; packet = packet_of3 r.first r.second byte }))

-- "Bit 0 comes first": a bit joins those held, above them; the eighth completes a byte
unfoldable pub bit_of : Receiver → ℕ → Heard
bit_of r level =
    cond (eqb r.count 7) (byte_of (with_bits r 0 0) (r.bits + level * 2 ^ r.count))
    (quiet (with_bits r (r.bits + level * 2 ^ r.count) (r.count + 1)))

-- an edge
unfoldable pub step_of : Receiver → ℕ → ℕ → Heard
step_of r time level = bit_of (paused_of r time) level

-- row 12: "over 7 held bits, set bits above their count"
unfoldable pub bits_possible : ℕ → ℕ → Bool
bits_possible bits count = leb count 7 && ltb bits (2 ^ count)

-- row 12: "an unused held .. byte not 0, held bytes a packet can't have" (by C-02 two are those of a packet that begins 0x70 to 0x7F)
unfoldable pub bytes_possible : ℕ → ℕ → ℕ → Bool
bytes_possible first second held =
    cond (eqb held 0) (eqb first 0 && eqb second 0)
    (cond (eqb held 1) (eqb second 0) (eqb held 2 && eqb (packet_length first) 3))

-- row 12, C-03: "bits or bytes held without a start, and a start after the last edge"
unfoldable pub clock_possible : Receiver → Bool
clock_possible r = cond (clock_runs r) (leb r.start r.last) (eqb r.count 0 && eqb r.held 0)

unfoldable pub receiver_possible : Receiver → Bool
receiver_possible r = bits_possible r.bits r.count && bytes_possible r.first r.second r.held && clock_possible r

-- rows 2 and 3: "level not 0 or 1", "time below the edge before, since restart"; 0 for a good edge
unfoldable pub edge_refusal : Receiver → ℕ → ℕ → ℕ
edge_refusal r time level = cond (ltb 1 level) 2 (cond (ltb time r.last) 3 0)

-- the answer to an edge: refusal 0 with what was heard, or a refusal with the receiver as it was and no packet
pub record EdgeAnswer : Type 0 where
  pub refusal : ℕ
  pub heard : Heard

-- the answer to any edge: 12, 2, 3 leave the receiver as it was
abbrev pub refusing : ℕ → Receiver → EdgeAnswer
refusing number r = record { refusal = number; heard = quiet r }

unfoldable pub answer_of : Receiver → ℕ → ℕ → EdgeAnswer
answer_of r time level =
    cond (receiver_possible r)
    (cond (eqb (edge_refusal r time level) 0) (record { refusal = 0; heard = step_of r time level }) (refusing (edge_refusal r time level) r))
    (refusing 12 r)

-- WHAT `Receiver::edge` PROMISES
abbrev pub EdgePromise : Receiver → ℕ → ℕ → EdgeAnswer → Type 0
EdgePromise r time level answer = answer ≡ answer_of r time level

-- the answer of `Receiver::edge` on a receiver: where it refuses, its caller has that receiver still. No two answers are said alike: law
-- `told_once`
abbrev pub edge_as : Receiver → Result code.Heard Refusal → EdgeAnswer
edge_as r (Ok heard) = record { refusal = 0; heard = heard_told heard }
edge_as r (Err why) = refusing (paper_number why) r

abbrev pub WholeAnswer : Result code.Heard Refusal → Type 0
WholeAnswer (Ok heard) = WholePacket heard.packet
WholeAnswer (Err why) = Unit
