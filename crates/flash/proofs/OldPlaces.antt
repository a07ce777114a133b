-- NO WRITE REACHES THE STORE'S OLD PLACES OF BANK 254: no cell of it is writable.
use Prim.Native.Nat.{ℕ, ◌+◌, ◌<◌}
use mathlib.Core.List.{List, [], ◌∷◌}
use mathlib.Core.Bool.{true, false≢true}
use mathlib.Core.Logic.{◌⊎◌, inl, ⊎_elim}
use mathlib.Core.Path.{◌≡◌, refl, sym, ◌∙◌, ap}
use lib.Dec.{eqb}
use lib.ListN.{get_or}
use borrow.Author.Tests.{eqb-false}
use Rattle.std.proofs.Common.{Option, Some, None}
use Rattle.bits.proofs.Tests.{by}
use Rattle.line.specs.Wire.{Edge}
use Rattle.command.specs.declared.Command.{Command}
use Rattle.store.specs.Sheet.{Sheets, writable}
use Rattle.store.specs.Store.{cell_place, held_at}
use Rattle.store.proofs.Reading.{writable_not_fixed}
use Rattle.cells.specs.Roles.{role_takes, may_write}
use Rattle.cells.specs.Settings.{effective_number, read_of}
use Rattle.cells.proofs.Owning.{role_own}
use Rattle.cells.proofs.Laws.{done_by_right}
use Rattle.cells.proofs.BitLaws.{bit_right, bit_done_by_right}
use Rattle.bank.specs.Reply.{at_front}
use Rattle.board.specs.Board.{Board, board_refusal}
use Rattle.effects.specs.Effects.{effect_of}
use Rattle.effects.specs.Frames.{Writes, write_byte, write_bit, cell_cv}
use Rattle.effects.proofs.Frames.{cell_frame, packet_frame}
use Rattle.module.specs.Edge.{heard_effect}
use Rattle.module.specs.Feed.{FeedOutcome, FeedPromise}
use Rattle.module.specs.Frames.{SomeEdge}
use Rattle.module.specs.Whole.{whole_of}
use Rattle.module.proofs.Frames.{whole_frame, feed_frame, no_edge}
use Rattle.reactions.specs.Reactions.{receiving}
use Rattle.lines.specs.Taken.{heard_of, byte_effect, lined, taken_of, AfterBlock, long_enough, write_of, WritePromise}

no_mix : (sizes : List ℕ) (bank offset : ℕ) → writable sizes bank offset ≡ true → 254 ≡ bank → ⊥
no_mix sizes bank offset w e = eqb-false _ _ (writable_not_fixed sizes bank offset w) (sym e)

-- the right to write an own cell is that it is writable
own_taken : (b : Board) (sizes : List ℕ) (offset value : ℕ) → offset < 40
    → may_write (cell_cv b offset) value (effective_number b.kept.settings) b.kept.settings.bank sizes ≡ true → writable sizes b.kept.settings.bank offset ≡ true
unfolding may_write role_takes
own_taken b sizes offset value o h = rw (role_own (effective_number b.kept.settings) offset o) at h

module _ (b : Board) (sheets : Sheets) (offset : ℕ) (o : offset < 40) where
  bit_taken : (place value : ℕ) (cell : Option ℕ) → bit_right b.kept.settings (cell_cv b offset) place value sheets.sizes cell ≡ true
      → writable sheets.sizes b.kept.settings.bank offset ≡ true
  bit_taken place value (Some byte) h = own_taken b sheets.sizes offset _ o h
  bit_taken place value None h = absurd (false≢true h)

  written_there : (cv : ℕ) (c : Command) → cv ≡ cell_cv b offset → Writes cv c → (effect_of b sheets c).acknowledged ≡ true
      → writable sheets.sizes b.kept.settings.bank offset ≡ true
  unfolding effect_of
  written_there cv c e (write_byte cv' value) h =
      own_taken b sheets.sizes offset value o (sym (done_by_right b.kept.settings _ value b.store sheets.sizes) ∙ (rw e at h))
  written_there cv c e (write_bit cv' place value) h =
      bit_taken place value (read_of b.kept.settings (cell_cv b offset) b.store sheets) (sym (bit_done_by_right b.kept.settings _ place value b.store sheets) ∙ (rw e at h))

  stays : (c : Command) → (held_at (effect_of b sheets c).board.store 254 offset ≡ held_at b.store 254 offset) ⊎ ⊥
  stays c =
      ⊎_elim inl (λ w. absurd (no_mix sheets.sizes _ offset (written_there (cell_cv b offset) c refl w.written.writes w.written.acknowledged) w.selected))
      (cell_frame b sheets 254 offset o c)

module _ (sheets : Sheets) (offset : ℕ) (o : offset < 40) where
  -- the byte of an old place
  abbrev old : Board → ℕ
  old b = held_at b.store 254 offset

  none : {P : Type 0} (b : Board) (es : List Edge) → P ⊎ SomeEdge (λ b c. ⊥) sheets b es → P
  none b es f = ⊎_elim (λ p. p) (λ s. absurd (no_edge sheets b es s)) f

  pub whole_stays : (b : Board) (n : ℕ) (es : List Edge) → get_or (whole_of b sheets n es).board.store (10160 + offset) 0 ≡ get_or b.store (10160 + offset) 0
  unfolding held_at cell_place
  whole_stays b n es =
      none b es (whole_frame old (record { by_bit = λ b e. refl; by_nothing = λ b. refl }) (λ b c. ⊥) sheets (λ b c. stays b sheets offset o c) es b n)

  pub feed_stays : (b : Board) (room times levels : List ℕ) (q : FeedOutcome) → FeedPromise b sheets room times levels q
      → get_or q.board.store (10160 + offset) 0 ≡ get_or b.store (10160 + offset) 0
  unfolding FeedPromise held_at cell_place
  feed_stays b room times levels q p =
      ap (λ (x : FeedOutcome). old x.board) p
      ∙ none b _ (feed_frame old (record { by_bit = λ b e. refl; by_nothing = λ b. refl }) (λ b c. ⊥) sheets (λ b c. stays b sheets offset o c) room times levels b)

  byte_stays : (b : Board) (byte : ℕ) → old (byte_effect b sheets byte).board ≡ old b
  unfolding heard_effect
  byte_stays b byte =
      let at = receiving b (heard_of b byte).receiver in
      by (eqb (heard_of b byte).packet.length 0) (λ z. rw z refl)
      (λ z. rw z (⊎_elim (λ p. p) (λ s. absurd s.kind) (packet_frame at sheets old (λ c. ⊥) refl (λ c. stays at sheets offset o c) (heard_of b byte).packet)))

  taken_stays : (b : Board) (room bytes : List ℕ) → old (taken_of b sheets room bytes).board ≡ old b
  unfolding taken_of lined
  taken_stays b room [] = refl
  taken_stays b room (byte ∷ bytes) =
      let e = byte_effect b sheets byte in
      let rest = taken_stays e.board (at_front e.reply room) bytes ∙ byte_stays b byte in
      by (eqb (heard_of b byte).packet.length 0) (λ z. rw z rest) (λ z. rw z rest)

  pub write_stays : (b : Board) (room out input : List ℕ) (l : AfterBlock) → WritePromise b sheets room out input l
      → get_or l.store (10160 + offset) 0 ≡ get_or b.store (10160 + offset) 0
  unfolding WritePromise write_of held_at cell_place
  write_stays b room out input l p =
      ap (λ (x : AfterBlock). get_or x.store (10160 + offset) 0) p
      ∙ by (eqb (board_refusal b sheets room) 0)
      (λ r. by (eqb b.kept.receiver.count 0)
      (λ c. by (long_enough input out) (λ n. simp (r, c, n) (taken_stays b room input)) (λ n. simp (r, c, n)))
      (λ c. simp (r, c)))
      (λ r. simp r)
