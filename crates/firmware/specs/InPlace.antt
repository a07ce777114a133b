-- One edge on a receiver in its place: document 01, "For firmware authors a thin entry changes their receiver record in place,
-- one edge a call, and gives the packet which that edge completes, if any; it refuses by 12 (held bits and bytes), 2 and 3."
use Rattle.std.specs.Prelude.{ℕ, ◌≡◌}
use Rattle.line.specs.declared.receiver.Receiver.{Receiver}
use Rattle.line.specs.Line.{EdgeAnswer, answer_of}
use Rattle.firmware.specs.declared.Outcome.{Outcome}

-- what the entry gives, and the receiver as it leaves it
pub record InPlace : Type 0 where
  pub outcome : Outcome
  pub receiver : Receiver

abbrev pub in_place : Outcome → Receiver → InPlace
in_place outcome receiver = record { outcome = outcome; receiver = receiver }

-- what is given of the answer to an edge, and what is left
abbrev pub outcome_of : EdgeAnswer → Outcome
outcome_of a = record { refusal = a.refusal; packet = a.heard.packet }

unfoldable pub in_place_of : Receiver → ℕ → ℕ → InPlace
in_place_of r time level =
    in_place (outcome_of (answer_of r time level)) (answer_of r time level).heard.receiver

-- WHAT THE ENTRY PROMISES
unfoldable pub EdgeInPlacePromise : Receiver → ℕ → ℕ → InPlace → Type 0
EdgeInPlacePromise r time level p = p ≡ in_place_of r time level
