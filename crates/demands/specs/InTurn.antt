-- EDGES GIVEN TO THE FIRMWARE'S ENTRY IN TURN: the receiver stays in its place, and each call finds it as the one before left it.
-- proofs/Firmware.antt shows what comes of it.
use Rattle.std.specs.Prelude.{ℕ, ◌+◌, List, [], ◌∷◌}
use Rattle.line.specs.declared.receiver.Receiver.{Receiver}
use Rattle.line.specs.Wire.{Edge, Hearing, noting}
use Rattle.firmware.specs.declared.Outcome.{Outcome}
use Rattle.firmware.specs.InPlace.{in_place, EdgeInPlacePromise}

-- From the receiver r, a call for each of these edges: the calls' outcomes, and the receiver at the end. Of each call nothing is
-- known but the entry's promise.
pub data InTurn : Receiver → List Edge → List Outcome → Receiver → Type 0 where
  no_edge : {r : Receiver} → InTurn r [] [] r
  edge_then : {r end : Receiver} {es : List Edge} {os : List Outcome} (e : Edge) (o : Outcome) (next : Receiver)
      → EdgeInPlacePromise r e.time e.level (in_place o next) → InTurn next es os end → InTurn r (e ∷ es) (o ∷ os) end

-- the caller notes each packet with the count of edges up to it, n of them given before, and has the receiver at the end
unfoldable pub noted_by : ℕ → List Outcome → Receiver → Hearing
noted_by n [] end = record { receiver = end; packets = [] }
noted_by n (o ∷ os) end = noting o.packet (n + 1) (noted_by (n + 1) os end)

unfoldable pub refusals_of : List Outcome → List ℕ
refusals_of [] = []
refusals_of (o ∷ os) = o.refusal ∷ refusals_of os
