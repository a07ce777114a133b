-- Many edges: what a receiver hears, and what bytes on the wire spell.
use Rattle.std.specs.Prelude.{ℕ, zero, suc, ◌+◌, ◌-◌, ◌≤◌, ◌<◌, List, [], ◌∷◌, ◌++◌, ◌≡◌, Bool, false, cond, eqb, length, get_or, take, replicate}
use Rattle.bits.specs.Bits.{bit_at}
use Rattle.line.specs.declared.packet.Packet.{Packet}
use Rattle.line.specs.declared.receiver.Receiver.{Receiver}
use Rattle.line.specs.Line.{packet_length, packet_of2, packet_of3, late, is_pause, paused_of, step_of, answer_of}

-- "A recording is two equally long lists: times .. and data levels .., one entry for each falling clock edge."
pub record Edge : Type 0 where
  pub time : ℕ
  pub level : ℕ

unfoldable pub edges_of : List ℕ → List ℕ → List Edge
edges_of [] ls = []
edges_of (t ∷ ts) [] = []
edges_of (t ∷ ts) (l ∷ ls) = record { time = t; level = l } ∷ edges_of ts ls

-- a packet, with the count of edges up to the one that completed it
pub record Noted : Type 0 where
  pub after : ℕ
  pub packet : Packet

-- what is heard: the packets in order, and the receiver at the end
pub record Hearing : Type 0 where
  pub receiver : Receiver
  pub packets : List Noted

unfoldable pub noting : Packet → ℕ → Hearing → Hearing
noting p n h =
    cond (eqb p.length 0) h
    (record { receiver = h.receiver; packets = record { after = n; packet = p } ∷ h.packets })

-- the edges in turn, n of them taken before
unfoldable pub hearing : Receiver → ℕ → List Edge → Hearing
hearing r n [] = record { receiver = r; packets = [] }
hearing r n (e ∷ es) =
    noting (step_of r e.time e.level).packet (n + 1) (hearing (step_of r e.time e.level).receiver (n + 1) es)

-- edges with nothing wrong in them, after one at time t: each level 0 or 1, and no time below the one before
unfoldable pub RightEdges : ℕ → List Edge → Type 0
RightEdges t [] = Unit
RightEdges t (e ∷ es) = (e.level < 2) × (t ≤ e.time) × RightEdges e.time es

-- the edges given to `Receiver::edge` in turn, each with the receiver that the one before gave back: its refusals, one an
-- edge, and what is heard
pub record Answers : Type 0 where
  pub refusals : List ℕ
  pub heard : Hearing

unfoldable pub answers_to : Receiver → ℕ → List Edge → Answers
answers_to r n [] = record { refusals = []; heard = record { receiver = r; packets = [] } }
answers_to r n (e ∷ es) =
    let a = answer_of r e.time e.level in
    let rest = answers_to a.heard.receiver (n + 1) es in
    record { refusals = a.refusal ∷ rest.refusals; heard = noting a.heard.packet (n + 1) rest.heard }

-- bytes clocked out: "Bit 0 comes first"
unfoldable pub bits_from : ℕ → ℕ → ℕ → List ℕ
bits_from b k zero = []
bits_from b k (suc m) = bit_at b k ∷ bits_from b (suc k) m

unfoldable pub levels_of : List ℕ → List ℕ
levels_of [] = []
levels_of (b ∷ bs) = bits_from b 0 8 ++ levels_of bs

-- times of edges of which none is below the one before and none is late, the clock having started at `start` and the last edge been at
-- `last`; the byte under way wants so many edges more after the first of these, and the one that completes it starts the clock
unfoldable pub OnTime : ℕ → ℕ → ℕ → List ℕ → Type 0
OnTime start last more [] = Unit
OnTime start last zero (t ∷ ts) = (last ≤ t) × (late start t ≡ false) × OnTime t t 7 ts
OnTime start last (suc more) (t ∷ ts) = (last ≤ t) × (late start t ≡ false) × OnTime start t more ts

-- times of whole bytes' edges into a receiver that holds no bit: none is below the one before, and none but the first is a pause
unfoldable pub Later : Receiver → List ℕ → Type 0
Later r [] = Unit
Later r (t ∷ ts) = (r.last ≤ t) × OnTime (paused_of r t).start t 6 ts

-- nor is the first
unfoldable pub Unpaused : Receiver → List ℕ → Type 0
Unpaused r [] = Unit
Unpaused r (t ∷ ts) = (is_pause r t ≡ false) × Later r (t ∷ ts)

-- bytes gather until they are as many as the first of them asks for
unfoldable pub whole : List ℕ → Bool
whole [] = false
whole (a ∷ bs) = eqb (length (a ∷ bs)) (packet_length a)

unfoldable pub packet_of : List ℕ → Packet
packet_of bs = record { length = length bs; bytes = bs ++ replicate (3 - length bs) 0 }

-- what bytes spell: their packets, each after eight edges a byte, and the bytes left over
pub record Spelled : Type 0 where
  pub packets : List Noted
  pub left : List ℕ

-- a packet more, before what other bytes spell
abbrev pub before : Packet → ℕ → Spelled → Spelled
before p n s = record { packets = record { after = n; packet = p } ∷ s.packets; left = s.left }

unfoldable pub spelled : ℕ → List ℕ → List ℕ → Spelled
spelled n gathered [] = record { packets = []; left = gathered }
spelled n gathered (b ∷ bs) =
    cond (whole (gathered ++ (b ∷ []))) (before (packet_of (gathered ++ (b ∷ []))) (n + 8) (spelled (n + 8) [] bs))
    (spelled (n + 8) (gathered ++ (b ∷ [])) bs)

-- a packet that has as many bytes as its first asks for, and those bytes
pub data Proper : Packet → Type 0 where
  of_two : (a b : ℕ) → packet_length a ≡ 2 → Proper (packet_of2 a b)
  of_three : (a b c : ℕ) → packet_length a ≡ 3 → Proper (packet_of3 a b c)

abbrev pub bytes_of : Packet → List ℕ
bytes_of p = take p.length p.bytes

-- the last of some times, or t where there is none
unfoldable pub last_of : ℕ → List ℕ → ℕ
last_of t [] = t
last_of t (u ∷ us) = last_of u us

-- a receiver that holds these bytes and no bit, at the edge that completed a byte
unfoldable pub holds : ℕ → List ℕ → Receiver
holds time bs =
    record { last = time; start = time; started = 1; bits = 0; count = 0; first = get_or bs 0 0; second = get_or bs 1 0; held = length bs }

-- after whole bytes with these times those left over are held; with no byte the receiver is as it was
unfoldable pub left_as : Receiver → List ℕ → List ℕ → Receiver
left_as r [] left = r
left_as r (t ∷ ts) left = holds (last_of t ts) left

-- what is heard of bytes: their packets, and a receiver that holds those left over
abbrev pub heard_as : Receiver → List ℕ → Spelled → Hearing
heard_as r times s = record { receiver = left_as r times s.left; packets = s.packets }
