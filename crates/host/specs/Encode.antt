-- "The encoder gives one packet at a time (a pair is two calls), by value, and none on refusal." Row 8 is its only refusal.
use Rattle.std.specs.Prelude.{ℕ, cond, ◌≡◌, Result, Ok, Err}
use Rattle.refusals.specs.declared.Refusal.{Refusal}
use Rattle.refusals.specs.Numbers.{paper_number}
use Rattle.line.specs.declared.packet.Packet.{Packet}
use Rattle.line.specs.Line.{no_packet}
use Rattle.command.specs.declared.Command.{Command}
use Rattle.command.specs.Saying.{has_room, packet_saying}

-- an answer: refusal 0 and the packet, or the paper's number of a refusal and no packet
pub record Encoded : Type 0 where
  pub refusal : ℕ
  pub packet : Packet

unfoldable pub encoded_of : Command → Encoded
encoded_of c = cond (has_room c) (record { refusal = 0; packet = packet_saying c }) (record { refusal = 8; packet = no_packet })

-- what the code's answer says (no two say the same: law `encoded_once`)
abbrev pub encoded_as : Result Packet Refusal → Encoded
encoded_as (Ok packet) = record { refusal = 0; packet = packet }
encoded_as (Err why) = record { refusal = paper_number why; packet = no_packet }

-- WHAT `encode` PROMISES
abbrev pub EncodePromise : Command → Encoded → Type 0
EncodePromise c answer = answer ≡ encoded_of c
