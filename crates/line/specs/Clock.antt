-- THE CLOCK OF A RECORDING, told by the times of its edges alone: C-03. What a receiver keeps of it is tied to this by law `clock_kept`.
use Rattle.std.specs.Prelude.{ℕ, ◌-◌, ◌*◌, ◌/◌, ◌%◌, cond, List, [], ◌∷◌, ◌++◌, ◌≡◌, ltb, length, get_or}
use Rattle.line.specs.declared.receiver.Receiver.{Receiver}
use Rattle.line.specs.Line.{late}
use Rattle.line.specs.Wire.{Edge, last_of}

-- "The clock now starts at the edge that completes a byte or, with no byte since restart or pause, at the first edge". `since` has the
-- times of all edges since the restart, or since the last pause and with its edge; each eighth of them completes a byte
unfoldable pub clock_start : List ℕ → ℕ
clock_start since = cond (ltb (length since) 8) (get_or since 0 0) (get_or since (8 * (length since / 8) - 1) 0)

-- these times, an edge later: "an edge 8,000 µs or more after that start clears everything held and is bit 0" (the first edge of all is the
-- first of them, late or not)
unfoldable pub with_time : List ℕ → ℕ → List ℕ
with_time since t = cond (late (clock_start since) t) (t ∷ []) (since ++ (t ∷ []))

-- and after edges in turn
unfoldable pub since_afresh : List ℕ → List Edge → List ℕ
since_afresh since [] = since
since_afresh since (e ∷ es) = since_afresh (with_time since e.time) es

-- what a receiver whose clock runs knows of time: its last edge, the clock's start, and how many bits of a byte it has
pub record Clocked (r : Receiver) (last start count : ℕ) : Type 0 where
  pub last_edge_lem : r.last ≡ last
  pub starts : r.start ≡ start
  pub runs : r.started ≡ 1
  pub bits_held : r.count ≡ count

-- it is what these times say
abbrev pub ClockOf : List ℕ → Receiver → Type 0
ClockOf since r = Clocked r (last_of 0 since) (clock_start since) (length since % 8)
