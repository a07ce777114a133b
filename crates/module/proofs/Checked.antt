-- The check of record and buffers stays passed: with a receiver that edges left, with a half dropped.
use Prim.Native.Nat.{ℕ}
use mathlib.Core.List.{List}
use mathlib.Core.Bool.{Bool, true, false}
use mathlib.Core.Path.{◌≡◌}
use Rattle.line.specs.declared.receiver.Receiver.{Receiver}
use Rattle.line.specs.Line.{receiver_possible}
use Rattle.store.specs.Sheet.{Sheets}
use Rattle.board.specs.declared.record.Module.{Module}
use Rattle.board.specs.Board.{Board, module_possible, board_refusal}
use Rattle.board.proofs.Checked.{right, passed}
use Rattle.board.proofs.Parts.{apart, receiver_set, half_dropped}
use Rattle.reactions.specs.Reactions.{with_kept}
use Rattle.module.specs.Listen.{after_listening}

listening_possible : (m : Module) (r : Receiver) (paused : Bool) → module_possible m ≡ true → receiver_possible r ≡ true
    → module_possible (after_listening m r paused) ≡ true
unfolding after_listening
listening_possible m r false h p = receiver_set m h r p
listening_possible m r true h p = receiver_set _ (half_dropped m h) r p

module _ (b : Board) (sheets : Sheets) (room : List ℕ) (h : board_refusal b sheets room ≡ 0) where
  pub hears : receiver_possible b.kept.receiver ≡ true
  hears = (apart b.kept (right b sheets room h).possible).heard

  pub listening_passes : (r : Receiver) (paused : Bool) → receiver_possible r ≡ true
      → board_refusal (with_kept b (after_listening b.kept r paused)) sheets room ≡ 0
  listening_passes r paused p =
      let c = right b sheets room h in
      passed _ sheets room (record { possible = listening_possible b.kept r paused c.possible p; buffers = c.buffers; sheeted = c.sheeted })
