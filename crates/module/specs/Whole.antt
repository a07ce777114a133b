-- A WHOLE RECORDING: all edges in turn, to the end or to the first bad one. The definition for any list of items, `running`'s, with
-- the rule of one edge.
use Rattle.std.specs.Prelude.{ℕ, List}
use Rattle.running.specs.Running as R
use Rattle.line.specs.Wire.{Edge}
use Rattle.store.specs.Sheet.{Sheets}
use Rattle.board.specs.Board.{Board}
use Rattle.reactions.specs.Reactions.{Effect}
use Rattle.module.specs.Edge.{bad_edge, edge_effect}

-- the rule of edges, where `effect` says what a good one does: a bad one is refused, an acknowledged one answered with its reply bytes
abbrev pub rule_by : (Board → Edge → Effect) → R.Rule Board Edge (List ℕ)
rule_by effect =
    record {
      bad = λ b e. bad_edge b.kept e;
      after = λ b e. (effect b e).board;
      answered = λ b e. (effect b e).acknowledged;
      reply = λ b e. (effect b e).reply;
    }

abbrev pub edge_rule : Sheets → R.Rule Board Edge (List ℕ)
edge_rule sheets = rule_by (λ b e. edge_effect b sheets e)

-- what becomes of a recording, and an acknowledged command in it: the count of edges up to the one that completed it, its reply bytes
abbrev pub Story : Type 0
Story = R.Story Board (List ℕ)

abbrev pub Answered : Type 0
Answered = R.Answered (List ℕ)

-- an effect completed by the nth edge, before a story: an answer more, if it is acknowledged
abbrev pub story_with : Effect → ℕ → Story → Story
story_with e n s = R.answering_if e.acknowledged n e.reply s

-- n edges were taken before
abbrev pub whole_of : Board → Sheets → ℕ → List Edge → Story
whole_of b sheets n es = R.whole_of (edge_rule sheets) b n es
