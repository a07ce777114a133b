-- All that is known of the callee, `line::Receiver::edge`, is that it meets its contract: what is said of its answer is `answer_of`.
-- Assumes nothing.
use Rattle.std.proofs.Common.{◌≡◌, ℕ, Option, Some, None, refl, ap}
use Rattle.std.specs.Option.{unwrap_or}
use Rattle.line.specs.declared.packet.Packet.{Packet}
use Rattle.line.specs.declared.receiver.Receiver.{Receiver}
use Rattle.line.specs.Line.{EdgeAnswer, EdgePromise, no_packet, packet_in}
use Rattle.firmware.specs.InPlace.{in_place, outcome_of, in_place_of, EdgeInPlacePromise}
use Rattle.firmware.proofs.muralintak_edge.Goals as goal

none_is_empty : (packet : Option Packet) → unwrap_or packet no_packet ≡ packet_in packet
none_is_empty None = refl
none_is_empty (Some packet) = refl

-- what is said of the answer, in place
placed : (r : Receiver) (time level : ℕ) (answer : EdgeAnswer) → EdgePromise r time level answer
    → EdgeInPlacePromise r time level (in_place (outcome_of answer) answer.heard.receiver)
unfolding EdgeInPlacePromise in_place_of
placed r time level answer = ap (λ (a : EdgeAnswer). in_place (outcome_of a) a.heard.receiver)

pub returns-in-Ok : goal.returns-in-Ok
returns-in-Ok c =
    rw (c.unwrap_or.ensures, c.none.ensures, none_is_empty c.in-Ok.heard.packet)
    (placed c.args.receiver.now c.args.time c.args.level _ c.in-Ok.ensures.answer)

pub returns-in-Err : goal.returns-in-Err
returns-in-Err c =
    rw (c.from.ensures, c.none-in-Err.ensures)
    (placed c.args.receiver.now c.args.time c.args.level _ c.in-Err.ensures.answer)
