-- WHAT IS SENT, AND WHAT MUST COME OF IT: the definitions of demand 2.
use Rattle.std.specs.Prelude.{ℕ, ◌+◌, ◌*◌, ◌≤◌, ◌<◌, Bool, true, ◌⊎◌, List, [], ◌∷◌, ◌++◌, ◌≡◌, length}
use Rattle.line.specs.declared.packet.Packet.{Packet}
use Rattle.line.specs.Line.{idle_at, emptied, is_pause}
use Rattle.line.specs.declared.receiver.Receiver.{Receiver}
use Rattle.line.specs.Wire.{Edge, edges_of, levels_of, bytes_of, Later, Unpaused, last_of, Noted, spelled, heard_as}
use Rattle.command.specs.declared.Command.{Command}
use Rattle.command.specs.declared.Command.TheVariants.{BankRead}
use Rattle.command.specs.declared.pairs.Halves.{Halves}
use Rattle.states.specs.States.{state_at, on_bit, stateson_long}
use Rattle.store.specs.Sheet.{Sheets}
use Rattle.host.specs.Encode.{encoded_of}
use Rattle.board.specs.declared.record.Module.{Module}
use Rattle.board.specs.Board.{Board, board_of, with_receiver, with_drive, with_states_on, without_half, after_gap}
use Rattle.reactions.specs.Reactions.{Effect, with_kept, receiving}
use Rattle.effects.specs.Effects.{effect_of, packet_effect}
use Rattle.module.specs.Whole.{Story, story_with}
use Rattle.running.specs.Running.{ended}

-- a command, and the times of its edges
pub record Sending : Type 0 where
  pub command : Command
  pub times : List ℕ

-- its packet is the one that the encoder gives, with eight edges for each byte
abbrev pub packet_sent : Sending → Packet
packet_sent s = (encoded_of s.command).packet

abbrev pub edge_count : Sending → ℕ
edge_count s = 8 * (packet_sent s).length

-- the packet's bytes clocked out, bit 0 first
unfoldable pub edges_sent : Sending → List Edge
edges_sent s = edges_of s.times (levels_of (bytes_of (packet_sent s)))

-- the recording: one sending after the other
unfoldable pub recording_of : List Sending → List Edge
recording_of [] = []
recording_of (s ∷ ss) = edges_sent s ++ recording_of ss

-- the first of some times, or t where there is none
unfoldable pub first_of : ℕ → List ℕ → ℕ
first_of t [] = t
first_of t (u ∷ us) = u

-- a sending whose times into this receiver are of such a kind: the encoder accepts the command, and each edge has a time
pub record SentBy (Times : Receiver → List ℕ → Type 0) (r : Receiver) (s : Sending) : Type 0 where
  pub accepted : (encoded_of s.command).refusal ≡ 0
  pub timed : length s.times ≡ edge_count s
  pub in_time : Times r s.times

-- one sending after the other: after its packet the receiver holds nothing, and the packet's last edge started the clock
unfoldable pub AllSentBy : (Receiver → List ℕ → Type 0) → Receiver → List Sending → Type 0
AllSentBy Times r [] = Unit
AllSentBy Times r (s ∷ ss) = SentBy Times r s × AllSentBy Times (idle_at (last_of r.last s.times)) ss

-- no edge is a pause (C-03: none comes 8,000 µs or more after the clock's start); and none but the first of a packet
abbrev pub AllSent : Receiver → List Sending → Type 0
AllSent = AllSentBy Unpaused

abbrev pub AllSentLater : Receiver → List Sending → Type 0
AllSentLater = AllSentBy Later

-- the receiver holds no bit and no byte, whatever its clock
abbrev pub HoldsNothing : Board → Type 0
HoldsNothing b = b.kept.receiver ≡ emptied b.kept.receiver

-- nothing is held when an edge comes at this time: no bit and no byte is held, or the edge is a pause, whatever is held
abbrev pub NothingHeldAt : Board → ℕ → Type 0
NothingHeldAt b time = HoldsNothing b ⊎ (is_pause b.kept.receiver time ≡ true)

-- the board that a packet's command acts on, the packet's last edge being at this time: the receiver holds nothing any more
abbrev pub at_last_edge : Board → ℕ → Board
at_last_edge b time = receiving b (idle_at time)

-- a sending is obeyed: its command has its effect at the packet's last edge
abbrev pub obeying : Board → Sheets → Sending → Effect
obeying b sheets s = effect_of (at_last_edge b (last_of b.kept.receiver.last s.times)) sheets s.command

-- "exactly these commands' effects in order, each answer at its packet's last edge and none elsewhere"; n edges came before, and `begun`
-- is the board at a packet's first edge
unfoldable pub obeyed_from : (Board → Sending → Board) → Board → Sheets → ℕ → List Sending → Story
obeyed_from begun b sheets n [] = ended b n 0
obeyed_from begun b sheets n (s ∷ ss) =
    let e = obeying (begun b s) sheets s in
    story_with e (n + edge_count s) (obeyed_from begun e.board sheets (n + edge_count s) ss)

-- without a pause the board is as the edge before left it
abbrev pub obeyed : Board → Sheets → ℕ → List Sending → Story
obeyed = obeyed_from (λ b s. b)

-- "A pause drops .. a held half"
abbrev pub at_first : Board → Sending → Board
at_first b s = with_kept b (after_gap b.kept (first_of b.kept.receiver.last s.times))

abbrev pub obeyed_later : Board → Sheets → ℕ → List Sending → Story
obeyed_later = obeyed_from at_first

-- the first of them finds nothing held
abbrev pub BegunAfresh : Board → List Sending → Type 0
BegunAfresh b [] = Unit
BegunAfresh b (s ∷ ss) = NothingHeldAt b (first_of b.kept.receiver.last s.times)

-- ANY BYTES on the line: packets in turn, each with its effect at its edge, whatever they mean; then so many edges were taken, and the
-- receiver is this one
unfoldable pub packets_obeyed : Board → Sheets → Receiver → ℕ → List Noted → Story
packets_obeyed b sheets r taken [] = ended (receiving b r) taken 0
packets_obeyed b sheets r taken (p ∷ ps) =
    story_with (packet_effect b sheets p.packet) p.after (packets_obeyed (packet_effect b sheets p.packet).board sheets r taken ps)

-- the packets that the bytes spell, and what is left over is held
abbrev pub bytes_obeyed : Board → Sheets → ℕ → List ℕ → List ℕ → Story
bytes_obeyed b sheets n bytes times =
    let heard = heard_as b.kept.receiver times (spelled n [] bytes) in
    packets_obeyed b sheets heard.receiver (n + 8 * length bytes) heard.packets

-- PAIRS: the two halves one after the other, each with the times of its edges
abbrev pub pair_sent : Halves → List ℕ → List ℕ → List Sending
pair_sent halves low high = record { command = halves.low; times = low } ∷ record { command = halves.high; times = high } ∷ []

-- the times of the 16 edges of a packet of two bytes, into this receiver
pub record TwoBytesBy (Times : Receiver → List ℕ → Type 0) (r : Receiver) (times : List ℕ) : Type 0 where
  pub timed : length times ≡ 16
  pub in_time : Times r times

-- no edge is a pause; and none but the first
abbrev pub TwoBytes : Receiver → List ℕ → Type 0
TwoBytes = TwoBytesBy Unpaused

abbrev pub TwoBytesLater : Receiver → List ℕ → Type 0
TwoBytesLater = TwoBytesBy Later

-- the times of both packets, with no pause after the first edge, and the last of them
abbrev pub PairTimes : Board → List ℕ → List ℕ → Type 0
PairTimes b first second =
    TwoBytesLater b.kept.receiver first × TwoBytes (idle_at (last_of b.kept.receiver.last first)) second

abbrev pub last_time : Board → List ℕ → List ℕ → ℕ
last_time b first second = last_of (last_of b.kept.receiver.last first) second

-- the board after commands of which the last leaves no half: the receiver holds nothing, the rest of the record has this change, and the
-- states are these
abbrev pub left_with : Board → ℕ → (Module → Module) → List ℕ → Board
left_with b time change states = board_of (change (without_half (with_receiver b.kept (idle_at time)))) states b.store

-- no change
abbrev pub unchanged : Module → Module
unchanged m = m

-- what a state's pair does to the states: number n is put on or off and no other, of 0 all of 1 to 32767
pub record Sets (before after : List ℕ) (number : ℕ) (on : Bool) : Type 0 where
  pub its_own : (number ≡ 0 → ⊥) → state_at after number ≡ on_bit on
  pub no_other : (number ≡ 0 → ⊥) → (m : ℕ) → (m ≡ number → ⊥) → state_at after m ≡ state_at before m
  pub all : number ≡ 0 → (m : ℕ) → 0 < m → m ≤ 32767 → state_at after m ≡ on_bit on

-- nothing but the address is another
abbrev pub addressing : ℕ → Module → Module
addressing address m =
    let d = m.drive in
    with_drive m
    (record { actual = d.actual; wanted = d.wanted; load = d.load; address = address; functions = d.functions; control = d.control })

-- C-05: nothing but the number of states on is another, which a long state's pair moves or sets
abbrev pub stateson_set : List ℕ → ℕ → Bool → Module → Module
stateson_set states number on m = with_states_on m (stateson_long m.stateson states number on)

-- A BANK READ, sent as one packet, and what is left after it
abbrev pub bank_asked : ℕ → ℕ → List ℕ → List Sending
bank_asked number bank times = record { command = BankRead number bank; times = times } ∷ []

abbrev pub after_bank : Board → ℕ → List ℕ → Story
after_bank b n times = ended (left_with b (last_of b.kept.receiver.last times) unchanged b.states) (n + 16) 0
