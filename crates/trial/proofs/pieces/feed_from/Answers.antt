use Rattle.std.proofs.Common.{List, ℕ, ◌≡◌, ◌<◌, ◌≤◌, length, length-take-le, Result, Ok, Err, IfOk}
use Rattle.refusals.specs.declared.Refusal.{Refusal}
use Rattle.store.specs.Sheet.{Sheets}
use Rattle.board.specs.Board.{Board}
use Rattle.board.specs.declared.record.Module.{Module}
use Rattle.onward.specs.declared.Turn.{Turn}
use Rattle.onward.specs.Onward.{turned, turn_as, onward_of}
use Rattle.onward.proofs.Laws.{goes_on, never_past}
use Rattle.trial.proofs.pieces.feed_from.Goals as goal

-- a turn that is not refused goes on, and not past the end
goes : (kept : Module) (states store after : List ℕ) (b : Board) (sheets : Sheets) (room times levels : List ℕ) (at : ℕ)
    → (answer : Result Turn Refusal) → turn_as kept (length times) answer states store after ≡ onward_of b sheets room times levels at
    → IfOk answer (λ turn. (at < length times → at < turn.at) × (turn.at ≤ length times))
goes kept states store after b sheets room times levels at (Ok turn) promise =
    let t = turned turn states store after in
    (goes_on {turn = t} b sheets room times levels at promise, never_past {turn = t} b sheets room times levels at promise)
goes kept states store after b sheets room times levels at (Err why) promise = tt

pub returns : goal.returns
returns c =
    let l = length-take-le c.args.n c.args.times.now c.requires in
    rw l at (goes _ _ _ _ _ _ _ _ _ c.args.at c.feed.result c.feed.ensures)
