-- THE IMPOSTERS, the wrong programs that document 01 names: for each the outcome that its feed would have, for any input. They
-- refuse as the feed does (but for the first), and each is wrong in its one point. proofs/Imposters.antt gives an input for each
-- on which the feed's promise does not hold of it, and commands of which demand 2 says another story than it tells (`Disobeys`).
use Rattle.std.specs.Prelude.{ℕ, ◌+◌, ◌*◌, ◌≤◌, List, [], ◌∷◌, Bool, true, cond, not, eqb, ◌≡◌, length}
use Rattle.line.specs.Line.{no_packet, fresh_receiver, refusing, step_of, EdgePromise}
use Rattle.line.specs.Wire.{Edge, levels_of}
use Rattle.command.specs.declared.Command.TheVariants.{NoOperation, ActualSpeed, WriteByte}
use Rattle.command.specs.Pairs.{Refused as Unpaired, LongStatePromise}
use Rattle.host.specs.ReadBank.{Refused as Unread, ReadBankPromise}
use Rattle.lines.specs.Taken.{Refused as Untaken, untaken, WritePromise}
use Rattle.board.specs.Board.{Board, board_of, fresh_module}
use Rattle.reactions.specs.Reactions.{Effect, silently}
use Rattle.module.specs.Feed.{Answer, Refused, BadEdge, Silent, Acknowledged, ending, tells, run_of, Feed, feed_by, FeedPromise}
use Rattle.module.specs.Edge.{bad_edge, edge_effect}
use Rattle.module.specs.Bench.{zeros, bench, bench_sheets, bit_times}
use Rattle.module.specs.Whole.{rule_by, edge_rule}
use Rattle.running.specs.Running.{at_end, at_bad, at_answer, Call, call, call_of, story_after}
use Rattle.counts.specs.Counts.{Refused as Uncounted, ShownPromise, CheckedPromise}
use Rattle.module.specs.Application.{keeping, restart as restarting, PostPromise, StatusPromise, WaitPromise, RestartPromise}
use Rattle.demands.specs.Pieces.{times_in, levels_in, call_says}
use Rattle.demands.specs.Sending.{Sending, recording_of, AllSent, obeyed}
use Rattle.store.specs.Sheet.{Sheets, zero_store}
use Rattle.view.specs.View.{ViewRefusalPromise, ViewPromise}
use Rattle.host.specs.Encode.{EncodePromise}

-- the feed's refusals and its run, but with such an effect for each edge
abbrev pub feed_with : (Sheets → Board → Edge → Effect) → Feed
feed_with effect = feed_by (λ b sheets room es. tells room (call_of (rule_by (effect sheets)) b 0 es))

-- an edge completes a command
unfoldable pub completes : Board → Edge → Bool
completes b e = not (eqb (step_of b.kept.receiver e.time e.level).packet.length 0)

-- "the entry that refuses all", by such a number
abbrev pub refuses_all : ℕ → Feed
refuses_all number b sheets room times levels = ending b room (Refused number)

-- "the module that acknowledges all"
abbrev pub acknowledges_all : Feed
acknowledges_all =
    feed_with (λ sheets b e. record {
      board = (edge_effect b sheets e).board;
      acknowledged = completes b e;
      reply = (edge_effect b sheets e).reply;
    })

-- ", or never"
abbrev pub acknowledges_never : Feed
acknowledges_never = feed_with (λ sheets b e. silently (edge_effect b sheets e).board)

-- "the feed that stores nothing": it answers rightly, and leaves record, states and store as they were
abbrev pub stores_nothing : Feed
stores_nothing = feed_by (λ b sheets room es. ending b (run_of b sheets room 0 es).room (run_of b sheets room 0 es).answer)

-- the same with the store alone: a write is acknowledged, and the cell stays
abbrev pub stores_no_cell : Feed
stores_no_cell =
    feed_with
    (λ sheets b e.
    let right = edge_effect b sheets e in
    record {
      board = board_of right.board.kept right.board.states b.store;
      acknowledged = right.acknowledged;
      reply = right.reply;
    })

-- "the one that handles the first command and then only counts edges"
unfoldable pub call_of_the_first : Sheets → Board → ℕ → List Edge → Call Board (List ℕ)
call_of_the_first sheets b n [] = call b n at_end
call_of_the_first sheets b n (e ∷ es) =
    let right = edge_effect b sheets e in
    cond (eqb (bad_edge b.kept e) 0)
    (cond right.acknowledged (call right.board (n + 1) (at_answer right.reply))
    (cond (completes b e) (call right.board (n + 1 + length es) at_end) (call_of_the_first sheets right.board (n + 1) es)))
    (call b n (at_bad (bad_edge b.kept e)))

abbrev pub handles_the_first : Feed
handles_the_first = feed_by (λ b sheets room es. tells room (call_of_the_first sheets b 0 es))

-- "the feed that invents its count of edges taken": it says that it took all
unfoldable pub invented : ℕ → Answer → Answer
invented n (Refused number) = Refused number
invented n (BadEdge number edges) = BadEdge number n
invented n (Silent edges) = Silent n
invented n (Acknowledged edges bytes) = Acknowledged n bytes

abbrev pub invents_its_count : Feed
invents_its_count =
    feed_by
    (λ b sheets room es.
    let right = run_of b sheets room 0 es in
    ending right.board right.room (invented (length es) right.answer))

-- WHAT DEMAND 2 SAYS OF ONE CALL of a feed on the bench's board that is handed encoded commands, sent without a pause: the story that
-- its outcome tells, and that the edges which it left make of the board which it left (by the definition of the whole recording), is
-- that of these commands obeyed in order
unfoldable pub Obeys : Feed → List Sending → Type 0
Obeys imposter ss =
    story_after (edge_rule bench_sheets) 0 (recording_of ss) []
    (call_says (imposter bench bench_sheets (zeros 84) (times_in (recording_of ss)) (levels_in (recording_of ss))))
    ≡ obeyed bench bench_sheets 0 ss

-- an imposter disobeys: there are such commands, and the story of its call is another
pub record Disobeys (imposter : Feed) : Type 0 where
  pub commands : List Sending
  pub sent : AllSent fresh_receiver commands
  pub another_story : Obeys imposter commands → ⊥

-- commands at 100 µs a bit, the first bit of the first at 0
abbrev pub speed : Sending
speed = record { command = ActualSpeed 0x80; times = bit_times 16 0 }

abbrev pub write_at : ℕ → Sending
write_at time = record { command = WriteByte 902 7; times = bit_times 24 time }

abbrev pub nothing_at : ℕ → Sending
nothing_at time = record { command = NoOperation; times = bit_times 16 time }

-- an imposter is found out: the bench's module, fed these bytes in one piece, does not do as it says
abbrev pub FoundOutBy : Feed → List ℕ → Type 0
FoundOutBy imposter bytes =
    FeedPromise bench bench_sheets (zeros 84) (bit_times (8 * length bytes) 0) (levels_of bytes)
    (imposter bench bench_sheets (zeros 84) (bit_times (8 * length bytes) 0) (levels_of bytes))
    → ⊥

-- THE OTHER ENTRIES: none of them may refuse what is right, by whatever number. What is right here: a restart, a legal message, a
-- status and the WAIT bit for a fresh module; its counts, shown and checked (C-05); a view of bank 254, and its check (C-13); an edge
-- for a fresh receiver; no bytes for the bench's text; a long state; a command; the reply of bank 254. (The firmware's entry:
-- `refuses_all_in_place_rejected`.)
pub record NoneRefusesAll (number : ℕ) : Type 0 where
  pub restart : RestartPromise fresh_module (zeros 4096) (restarting (keeping number fresh_module) (zeros 4096)) → ⊥
  pub post : PostPromise fresh_module (0x83 ∷ 0x01 ∷ 0x83 ∷ 0x02 ∷ []) (keeping number fresh_module) → ⊥
  pub set_status : StatusPromise fresh_module 0 0x01 (keeping number fresh_module) → ⊥
  pub set_wait : WaitPromise fresh_module true (keeping number fresh_module) → ⊥
  pub shown_counts : ShownPromise fresh_module (Uncounted number) → ⊥
  pub checked_counts : CheckedPromise fresh_module (zeros 4096) (Uncounted number) → ⊥
  pub view_refusal_lem : ViewRefusalPromise zero_store bench_sheets number → ⊥
  pub bank_view : ViewPromise zero_store bench_sheets 254 [] → ⊥
  pub edge : EdgePromise fresh_receiver 0 0 (refusing number fresh_receiver) → ⊥
  pub write : WritePromise bench bench_sheets (zeros 84) (zeros 256) [] (untaken bench (zeros 84) (zeros 256) (Untaken number)) → ⊥
  pub long_state_lem : LongStatePromise 1 true (Unpaired number) → ⊥
  pub encode : EncodePromise NoOperation (record { refusal = number; packet = no_packet }) → ⊥
  pub read_bank : (room : List ℕ) → 40 ≤ length room
      → ReadBankPromise (0x8E ∷ 0x01 ∷ 0x8E ∷ 0x01 ∷ 0x8F ∷ 0x9A ∷ 0x8F ∷ 0x00 ∷ []) room (Unread number) room → ⊥
