-- C-02 HOLDS: what specs/OldDecoders.antt says, sentence by sentence.
use Prim.Native.Nat.{ℕ, ◌+◌}
use mathlib.Core.Bool.{Bool, true, false}
use mathlib.Core.List.{List, ◌++◌, flatten}
use mathlib.Core.Logic.Iff
use mathlib.Core.Logic.{◌↔◌}
use mathlib.Core.Path.{◌≡◌, refl, ◌∙◌, ap}
use native.Mathlib.Omega.{arith}
use borrow.Author.Tests.{ne_eqb}
use Rattle.bits.proofs.Tests.{by, clash}
use Rattle.line.specs.declared.receiver.Receiver.{Receiver}
use Rattle.line.specs.Line.{packet_length, From70To7F, packet_of3, idle_at, receiver_possible}
use Rattle.line.specs.Wire.{Edge, last_of, of_three}
use Rattle.line.proofs.Laws.{three_exactly, two_possible, bytes_part, possible_of}
use Rattle.line.proofs.Wire.{two_or_three}
use Rattle.command.specs.Meaning.{OneOfThirteen}
use Rattle.command.proofs.Laws.{means_nothing}
use Rattle.store.specs.Sheet.{Sheets}
use Rattle.board.specs.declared.record.Module.{Module}
use Rattle.board.specs.Board.{Board, with_receiver, module_possible}
use Rattle.board.proofs.Parts.{receiver_decides}
use Rattle.reactions.specs.Reactions.{Effect, silently, halfless}
use Rattle.effects.specs.Effects.{meaning_effect, packet_effect}
use Rattle.module.specs.Whole.{Story, story_with, whole_of}
use Rattle.running.specs.Running.{answering_if}
use Rattle.demands.specs.OldDecoders.{Forwarded, edges_of_three, passed_by, HoldsTwo, C02}
use Rattle.demands.specs.Pieces.{Good, LongRooms, Feeds}
use Rattle.demands.specs.Sending.{at_last_edge, left_with, unchanged}
use Rattle.demands.proofs.Demand1 as One
use Rattle.demands.proofs.Demand3.{demand_3}
use Rattle.demands.proofs.Firmware as F
use Rattle.demands.proofs.OnTheWire.{proper_bytes}
use Rattle.demands.proofs.Sent.{at_first_of, gap_passed, packet_later}

-- ---- lengths

two_exactly : (first : ℕ) → (packet_length first ≡ 2) ↔ (From70To7F first → ⊥)
two_exactly first = (
  λ two among. let three = (three_exactly first).1 among in let z : ⊥ = omega (arith, two, three) in z,
  λ none. two_or_three first (ne_eqb (packet_length first) 3 (λ three. none ((three_exactly first).0 three))),
)

-- ---- the thirteen

no_effect_lem : (b : Board) (sheets : Sheets) (first second third : ℕ) → OneOfThirteen first
    → packet_effect b sheets (packet_of3 first second third) ≡ silently (halfless b)
unfolding packet_effect meaning_effect
no_effect_lem b sheets first second third one = ap (meaning_effect b sheets) (means_nothing (packet_of3 first second third) one)

module _ (b : Board) (sheets : Sheets) (n first second third : ℕ) (times : List ℕ) (f : Forwarded b first second third times) (rest : List Edge) where
  abbrev begun : Board
  begun = at_first_of b times

  abbrev last_time_lem : ℕ
  last_time_lem = last_of begun.kept.receiver.last times

  -- the gap before it leaves nothing else
  left : left_with begun last_time_lem unchanged b.states ≡ passed_by b times
  left = gap_passed b times (omega (arith, f.timed)) (λ t. t) unchanged b.states

  taken_whole : whole_of b sheets n (edges_of_three first second third times ++ rest) ≡ whole_of (passed_by b times) sheets (n + 24) rest
  unfolding answering_if
  taken_whole =
      let opener = f.opener.among in
      let proper = of_three first second third ((three_exactly first).1 opener) in
      let small = proper_bytes proper (record { three = refl; first = omega (arith, opener.1); second = f.second_byte; third = f.third_byte }) in
      packet_later proper small times f.timed b sheets n f.in_time f.afresh rest
      ∙ ap (λ (e : Effect). story_with e (n + 24) (whole_of e.board sheets (n + 24) rest))
      (no_effect_lem (at_last_edge begun last_time_lem) sheets first second third f.opener)
      ∙ ap (λ (a : Board). whole_of a sheets (n + 24) rest) left

in_pieces : (b : Board) (sheets : Sheets) → Good b sheets → (first second third : ℕ) (times : List ℕ) → Forwarded b first second third times
    → (rest : List Edge) (rooms : ℕ → List ℕ) → LongRooms rooms → (pieces : List (List Edge))
    → flatten pieces ≡ edges_of_three first second third times ++ rest
    → (spares : Bool) (s : Story) → Feeds spares sheets rooms b pieces s → s ≡ whole_of (passed_by b times) sheets 24 rest
in_pieces b sheets good first second third times f rest rooms long pieces cut spares s fed =
    (demand_3 spares good rooms long _ pieces cut).same s fed ∙ taken_whole b sheets 0 first second third times f rest

-- ---- row 12

-- a receiver that holds two bytes is possible exactly if the first is one of the sixteen
held_possible : (r : Receiver) → HoldsTwo r → (receiver_possible r ≡ true) ↔ From70To7F r.first
held_possible r h = (
  λ p. (two_possible r.first r.second).0 (rw h.two at (bytes_part r p)),
  λ among. possible_of r h.bits_right (rw h.two ((two_possible r.first r.second).1 among)) h.clock_right,
)

held_impossible : (r : Receiver) → HoldsTwo r → (receiver_possible r ≡ false) ↔ (From70To7F r.first → ⊥)
held_impossible r h = (
  λ p among. clash ((held_possible r h).1 among) p,
  λ none. by (receiver_possible r) (λ p. absurd (none ((held_possible r h).0 p))) (λ p. p),
)

-- and so is a record with nothing else wrong in it
record_12 : (m : Module) → HoldsTwo m.receiver → module_possible (with_receiver m (idle_at 0)) ≡ true
    → (module_possible m ≡ false) ↔ (From70To7F m.receiver.first → ⊥)
record_12 m h else-right = Iff.trans (receiver_decides m (idle_at 0) else-right) (held_impossible m.receiver h)

-- C-02 HOLDS
pub old_decoders : C02
old_decoders =
    record {
      three_bytes = three_exactly;
      two_bytes = two_exactly;
      no_effect_lem = no_effect_lem;
      taken_whole = taken_whole;
      in_pieces = in_pieces;
      edge_12 = λ r time level a p h. Iff.trans (One.edge_gives_12 r time level a p) (held_impossible r h);
      in_place_12 = λ r time level o after p h. Iff.trans (F.in_place_gives_12 r time level o after p) (held_impossible r h);
      record_12 = record_12;
      feed_12 = λ b sheets room times levels o p h else-right. Iff.trans (One.feed_gives_12 b sheets room times levels o p) (record_12 b.kept h else-right);
    }
