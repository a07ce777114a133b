-- The feed's calls on good boards are runs of the rule of one edge, so that the cut theorem of `running` speaks of them.
use Prim.Native.Nat.{ℕ, ◌≤◌}
use mathlib.Core.List.{List, [], ◌∷◌, ◌++◌}
use mathlib.Core.Bool.{true}
use mathlib.Core.Path.{◌≡◌, refl, sym, ◌∙◌, ap}
use native.Mathlib.Omega.{arith}
use lib.ListN.{length, replicate, length-map}
use borrow.Author.Tests.{eq-eqb}
use Rattle.running.specs.Running.{CallEnd, at_end, at_bad, at_answer, at_once, call, call_of, story_after}
use Rattle.running.specs.Pieces.{Faithful}
use Rattle.running.proofs.Calls.{whole_by_call, call_unrefused, keeps_call}
use Rattle.line.specs.Wire.{Edge, edges_of}
use Rattle.store.specs.Sheet.{Sheets, lengths_hold, sheets_hold}
use Rattle.board.specs.Board.{Board, module_possible}
use Rattle.board.proofs.Checked.{Right, right, passed, states_long, lengths_right}
use Rattle.board.proofs.Parts.{buffers_hold_lem}
use Rattle.module.specs.Whole.{edge_rule, whole_of}
use Rattle.module.specs.Feed.{FeedOutcome, tells_at, run_of, feed_by, feed_of, FeedPromise}
use Rattle.module.proofs.Edges.{edge_right}
use Rattle.module.proofs.Stops.{reply_stands}
use Rattle.demands.specs.Pieces.{Good, LongRooms, times_in, levels_in, answer_says, call_says, feeding}

-- a call on a good board with a long room refuses nothing before the edges
pub good_passes : {b : Board} {sheets : Sheets} → Good b sheets → (room : List ℕ) → 84 ≤ length room
    → Right b sheets room
good_passes {b} {sheets} g room long = right b sheets room (g.passes room long)

-- what is said of a good board, row by row
module _ {b : Board} {sheets : Sheets} (g : Good b sheets) where
  checked : Right b sheets (replicate 84 0)
  checked = good_passes g (replicate 84 0) (omega arith)

  pub good_possible : module_possible b.kept ≡ true
  good_possible = checked.possible

  pub good_states : length b.states ≡ 4096
  good_states = states_long b.states b.store sheets (replicate 84 0) checked.buffers

  pub good_lengths : lengths_hold b.store sheets ≡ true
  good_lengths = lengths_right b.states b.store sheets (replicate 84 0) checked.buffers

  pub good_sheet : sheets_hold sheets ≡ true
  good_sheet = checked.sheeted

-- the times and levels of edges are those edges again
edges_back : (es : List Edge) → edges_of (times_in es) (levels_in es) ≡ es
unfolding edges_of
edges_back [] = refl
edges_back (e ∷ es) = rw (edges_back es)

-- a call on a good board with a long room is a run over the piece's edges
pub record Runs (b : Board) (sheets : Sheets) (room : List ℕ) (piece : List Edge) (o : FeedOutcome) : Type 0 where
  pub is : o ≡ run_of b sheets room 0 piece

pub call_runs : {b : Board} {sheets : Sheets} → Good b sheets → (room : List ℕ) → 84 ≤ length room → (piece : List Edge)
    → feed_of b sheets room (times_in piece) (levels_in piece) ≡ run_of b sheets room 0 piece
unfolding feed_by
call_runs {b} {sheets} g room long piece =
    let even : length (times_in piece) ≡ length (levels_in piece) = simp length-map in
    simp (passed b sheets room (good_passes g room long), eq-eqb _ _ even, edges_back piece)

pub ran : {b : Board} {sheets : Sheets} → Good b sheets → (room : List ℕ) → 84 ≤ length room → (piece : List Edge) (o : FeedOutcome)
    → FeedPromise b sheets room (times_in piece) (levels_in piece) o → Runs b sheets room piece o
unfolding FeedPromise
ran g room long piece o p = record { is = p ∙ call_runs g room long piece }

-- such a call leaves a good board again
pub right_good : (b : Board) (sheets : Sheets) (room : List ℕ) → Right b sheets room → Good b sheets
right_good b sheets room r =
    let states = states_long b.states b.store sheets room r.buffers in
    let lengths = lengths_right b.states b.store sheets room r.buffers in
    record {
      passes =
          λ other long.
          passed b sheets other
          (record { possible = r.possible; buffers = buffers_hold_lem b.states b.store sheets other states lengths long; sheeted = r.sheeted });
    }

-- ---- THE FEED'S CALLS ARE RUNS OF THE EDGE'S RULE

says_call : (room : List ℕ) (b : Board) (n : ℕ) (stop : CallEnd (List ℕ)) → ((number : ℕ) → stop ≡ at_once number → ⊥) → call_says (tells_at room b n stop) ≡ call b n stop
unfolding tells_at answer_says
says_call room b n at_end u = refl
says_call room b n (at_bad number) u = refl
says_call room b n (at_answer reply) u = rw (reply_stands reply room)
says_call room b n (at_once number) u = absurd (u number refl)

run_says : (b : Board) (sheets : Sheets) (room : List ℕ) (n : ℕ) (es : List Edge) → call_says (run_of b sheets room n es) ≡ call_of (edge_rule sheets) b n es
unfolding run_of
run_says b sheets room n es =
    let c = call_of (edge_rule sheets) b n es in
    says_call room c.board c.taken c.stop (λ number. call_unrefused (edge_rule sheets) b n es number)

pub feed_faithful : (sheets : Sheets) (rooms : ℕ → List ℕ) → LongRooms rooms → Faithful (edge_rule sheets) (feeding sheets rooms) (λ b. Good b sheets)
unfolding FeedPromise
feed_faithful sheets rooms long =
    record {
      some_outcome = λ b k piece g. (feed_of b sheets (rooms k) (times_in piece) (levels_in piece), refl);
      says_so = λ b k piece o g p. ap call_says (ran g (rooms k) (long k) piece o p).is ∙ run_says b sheets (rooms k) 0 piece;
      stays_good =
          λ b piece g.
          right_good _ sheets (rooms 0)
          (keeps_call (edge_rule sheets) (λ (x : Board). Right x sheets (rooms 0)) (λ x e h good. edge_right x sheets (rooms 0) e h good) b 0 piece (good_passes g (rooms 0) (long 0)));
    }

-- the story of a recording, by the outcome of one call on it
pub by_outcome : {b : Board} {sheets : Sheets} {room : List ℕ} {piece : List Edge} {o : FeedOutcome} → Runs b sheets room piece o → (n : ℕ) (behind : List Edge)
    → whole_of b sheets n (piece ++ behind) ≡ story_after (edge_rule sheets) n piece behind (call_says o)
by_outcome {b} {sheets} {room} {piece} r n behind =
    whole_by_call (edge_rule sheets) b n piece behind
    ∙ ap (story_after (edge_rule sheets) n piece behind) (sym (ap call_says r.is ∙ run_says b sheets room 0 piece))
