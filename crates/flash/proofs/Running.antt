-- BEFORE AND NOW, edge by edge: on boards with the same record, the same states and stores that are alike to the line, each command, packet
-- and edge does now what it did before C-13, and answers the same.
use Prim.Native.Nat.{ℕ, ◌+◌, ◌<◌}
use mathlib.Core.List.{List}
use mathlib.Core.Bool.{Bool, true}
use mathlib.Core.Path.{◌≡◌, refl, sym, ◌∙◌, ap, subst}
use lib.Dec.{eqb}
use borrow.Author.Tests.{eqb-false}
use Rattle.std.proofs.Common.{Option, Some, None}
use Rattle.bits.proofs.Tests.{by}
use Rattle.line.specs.Line.{Heard}
use Rattle.line.specs.Wire.{Edge}
use Rattle.running.specs.Alike.{RulesAlike}
use Rattle.command.specs.declared.Command.{Command}
use Rattle.command.specs.declared.Command.TheVariants as C
use Rattle.command.specs.Meaning.{meaning_of}
use Rattle.store.specs.Sheet.{sheets_of, sizes_long, sheets_hold, readable}
use Rattle.store.specs.Store.{cell_place, with_cell, cell_of, bank_cells}
use Rattle.cells.specs.declared.role.Role.{Role}
use Rattle.cells.specs.declared.role.Role.TheVariants.{Number, Wait, Bank, Zero, Own, NotHere}
use Rattle.cells.specs.declared.settings.Settings.{Settings}
use Rattle.cells.specs.Roles.{owns, offset_of, role_of, may_write}
use Rattle.cells.specs.Settings.{effective_number, role_reads, read_of, own_cell_of, verify_byte_of, verify_bit_of, AfterWrite, store_after, write_byte_of, bit_written, write_bit_of}
use Rattle.cells.proofs.Owning.{own_lt, offset_lt}
use Rattle.bidi.specs.Read.{reply_to, read_cv_of}
use Rattle.board.specs.declared.record.Half.{Half}
use Rattle.board.specs.declared.record.Module.{Module}
use Rattle.board.specs.Board.{Board, board_of, with_receiver, after_gap, holds_half}
use Rattle.reactions.specs.Reactions.{Effect, second_half, bank_answers, write_effect}
use Rattle.effects.specs.Effects.{effect_of, meaning_effect, packet_effect}
use Rattle.module.specs.Edge.{bad_edge, heard_at, heard_effect, edge_effect}
use Rattle.module.specs.Whole.{edge_rule}
use Rattle.lines.specs.Taken.{heard_of, byte_effect}
use Rattle.flash.specs.OldBank.{cell_was, bank_was, role_was, read_was, own_was, reply_was, store_was, write_byte_was, write_bit_was, effect_was, meaning_was, heard_was, edge_was, rule_was}
use Rattle.flash.proofs.OldCells.{cell_as_was, bank_as_was}
use Rattle.flash.proofs.Stores.{ReadAlike, AlikeBy}

-- two effects: alike boards, and the same answer
pub record EffectsAlike (Stores : List ℕ → List ℕ → Type 0) (e f : Effect) : Type 0 where
  pub board : AlikeBy Stores e.board f.board
  pub acknowledged : f.acknowledged ≡ e.acknowledged
  pub reply : f.reply ≡ e.reply

module _ (sizes fixed : List ℕ) (l : sizes_long sizes ≡ true) (h : sheets_hold (sheets_of sizes fixed) ≡ true)
    (Stores : List ℕ → List ℕ → Type 0) (alike : ReadAlike sizes Stores) where
  module _ (store other : List ℕ) (s : Stores store other) where
    cell_alike : (bank offset : ℕ) → offset < 40 → cell_was other sizes bank offset ≡ cell_of store (sheets_of sizes fixed) bank offset
    unfolding cell_was
    cell_alike bank offset o =
        by (readable sizes bank offset)
        (λ r. by (eqb bank 254) (λ e. simp (r, e)) (λ e. simp (r, e) (ap Some (alike.held store other s bank offset (eqb-false _ _ e) o))))
        (λ r. simp r)
        ∙ sym (cell_as_was sizes fixed l h store bank offset)

    role_alike : (t : Settings) (cv : ℕ) (role : Role) → role_of (effective_number t) cv ≡ role
        → role_was t role other sizes ≡ role_reads t role store (sheets_of sizes fixed)
    unfolding role_was role_reads
    role_alike t cv Number e = refl
    role_alike t cv Wait e = refl
    role_alike t cv Bank e = refl
    role_alike t cv Zero e = refl
    role_alike t cv (Own o) e = cell_alike t.bank o (own_lt _ cv o e)
    role_alike t cv NotHere e = refl

    read_alike : (t : Settings) (cv : ℕ) → read_was t cv other sizes ≡ read_of t cv store (sheets_of sizes fixed)
    unfolding read_of
    read_alike t cv = role_alike t cv (role_of (effective_number t) cv) refl

    own_alike : (t : Settings) (cv : ℕ) → own_was t cv other sizes ≡ own_cell_of t cv store (sheets_of sizes fixed)
    unfolding own_was own_cell_of
    own_alike t cv =
        by (owns (effective_number t) cv) (λ e. simp e (ap Some (cell_alike t.bank (offset_of (effective_number t) cv) (offset_lt _ cv e)))) (λ e. simp e)

    cv_alike : (t : Settings) (cv : ℕ) → reply_was t cv other sizes ≡ read_cv_of t cv store (sheets_of sizes fixed)
    unfolding reply_was read_cv_of reply_to
    cv_alike t cv = rw (own_alike t cv, own_alike t (cv + 1))

    reply_alike : (bank : ℕ) → bank_was other sizes bank ≡ bank_cells store (sheets_of sizes fixed) bank
    reply_alike bank = alike.bank store other s bank ∙ sym (bank_as_was store sizes fixed bank)

    -- a byte that is taken goes into the same cell of both, or into neither
    store_alike : (t : Settings) (role : Role) (value : ℕ) → Stores (store_after role t.bank value store) (store_was role t.bank value other)
    unfolding store_after store_was with_cell cell_place
    store_alike t Number value = s
    store_alike t Wait value = s
    store_alike t Bank value = s
    store_alike t Zero value = s
    store_alike t (Own o) value = alike.written store other s t.bank o value
    store_alike t NotHere value = s

    abbrev WritesAlike : AfterWrite → AfterWrite → Type 0
    WritesAlike w v = (v.written ≡ w.written) × Stores w.store v.store

    write_alike : (t : Settings) (cv value : ℕ) → WritesAlike (write_byte_of t cv value store sizes) (write_byte_was t cv value other sizes)
    unfolding write_byte_of write_byte_was
    write_alike t cv value =
        by (may_write cv value (effective_number t) t.bank sizes) (λ e. simp e (refl, store_alike t (role_of (effective_number t) cv) value)) (λ e. simp e (refl, s))

    bit_alike : (t : Settings) (cv place value : ℕ) (cell : Option ℕ)
        → WritesAlike (bit_written cell t cv place value store sizes) (write_bit_was cell t cv place value other sizes)
    unfolding bit_written write_bit_was
    bit_alike t cv place value (Some byte) = write_alike t cv _
    bit_alike t cv place value None = (refl, s)

    -- ---- commands

    module _ (m : Module) (states : List ℕ) where
      abbrev now : Board
      now = board_of m states store

      abbrev then : Board
      then = board_of m states other

      -- the same record and states left, the stores untouched
      left : (k : Module) (after : List ℕ) (acknowledged : Bool) (reply : List ℕ)
          → EffectsAlike Stores (record { board = board_of k after store; acknowledged = acknowledged; reply = reply }) (record { board = board_of k after other; acknowledged = acknowledged; reply = reply })
      left k after acknowledged reply = record { board = record { same_record = refl; same_states = refl; stores = s }; acknowledged = refl; reply = refl }

      written_alike : (w v : AfterWrite) → WritesAlike w v → EffectsAlike Stores (write_effect now w) (write_effect then v)
      written_alike w v a =
          rw a.0 (record { board = record { same_record = refl; same_states = refl; stores = a.1 }; acknowledged = refl; reply = refl })

      second_alike : (half : Half) (acts does : Effect) → EffectsAlike Stores acts does → EffectsAlike Stores (second_half now half acts) (second_half then half does)
      unfolding second_half
      second_alike half acts does a = by (holds_half m half) (λ e. simp e a) (λ e. simp e (left _ _ _ _))

      effect_alike : (c : Command) → EffectsAlike Stores (effect_of now (sheets_of sizes fixed) c) (effect_was then sizes c)
      unfolding effect_of effect_was verify_byte_of verify_bit_of write_bit_of bank_answers
      effect_alike C.NoOperation = left _ _ _ _
      effect_alike (C.ActualSpeed speed) = left _ _ _ _
      effect_alike (C.WantedSpeed speed) = left _ _ _ _
      effect_alike (C.Load load) = left _ _ _ _
      effect_alike (C.AddressLow byte) = left _ _ _ _
      effect_alike (C.AddressHigh byte) = second_alike _ _ _ (left _ _ _ _)
      effect_alike (C.FunctionsFrom0 on) = left _ _ _ _
      effect_alike (C.FunctionsFrom5 on) = left _ _ _ _
      effect_alike (C.FunctionsFrom13 on) = left _ _ _ _
      effect_alike (C.FunctionsFrom21 on) = left _ _ _ _
      effect_alike (C.Control control) = left _ _ _ _
      effect_alike (C.ShortState number on) = left _ _ _ _
      effect_alike (C.LongLow low on) = left _ _ _ _
      effect_alike (C.LongHigh high) = second_alike _ _ _ (left _ _ _ _)
      effect_alike (C.VerifyByte cv value) = rw (read_alike m.settings cv) (left _ _ _ _)
      effect_alike (C.WriteByte cv value) = written_alike _ _ (write_alike m.settings cv value)
      effect_alike (C.VerifyBit cv place value) = rw (read_alike m.settings cv) (left _ _ _ _)
      effect_alike (C.WriteBit cv place value) = rw (read_alike m.settings cv) (written_alike _ _ (bit_alike m.settings cv place value _))
      effect_alike (C.Call number forced status) = left _ _ _ _
      effect_alike (C.BankRead number bank) = rw (reply_alike bank) (left _ _ _ _)
      effect_alike (C.ReadCv cv) = rw (cv_alike m.settings cv) (left _ _ _ _)
      effect_alike (C.PositionHigh high) = left _ _ _ _
      effect_alike (C.PositionLow low) = second_alike _ _ _ (left _ _ _ _)

      meant_alike : (x : Option Command) → EffectsAlike Stores (meaning_effect now (sheets_of sizes fixed) x) (meaning_was then sizes x)
      unfolding meaning_effect meaning_was
      meant_alike (Some c) = effect_alike c
      meant_alike None = left _ _ _ _

    heard_alike : (m : Module) (states : List ℕ) (x : Heard)
        → EffectsAlike Stores (heard_effect (board_of m states store) (sheets_of sizes fixed) x) (heard_was (board_of m states other) sizes x)
    unfolding heard_effect packet_effect heard_was
    heard_alike m states x =
        by (eqb x.packet.length 0) (λ z. simp z (left m states (with_receiver m x.receiver) states _ _))
        (λ z. simp z (meant_alike (with_receiver m x.receiver) states (meaning_of x.packet)))

  -- of any two boards that are alike
  alike_as : (P : Board → Type 0) (b other : Board) → AlikeBy Stores b other → P (board_of b.kept b.states other.store) → P other
  alike_as P b other a p =
      subst (λ (m : Module). P (board_of m other.states other.store)) (sym a.same_record)
      (subst (λ (states : List ℕ). P (board_of b.kept states other.store)) (sym a.same_states) p)

  any_edge : (b other : Board) (e : Edge) → AlikeBy Stores b other → EffectsAlike Stores (edge_effect b (sheets_of sizes fixed) e) (edge_was other sizes e)
  unfolding edge_effect
  any_edge b other e a =
      alike_as (λ (c : Board). EffectsAlike Stores (edge_effect b (sheets_of sizes fixed) e) (edge_was c sizes e)) b other a
      (heard_alike b.store other.store a.stores (after_gap b.kept e.time) b.states (heard_at b e))

  pub any_byte : (b other : Board) (byte : ℕ) → AlikeBy Stores b other
      → EffectsAlike Stores (byte_effect b (sheets_of sizes fixed) byte) (heard_was other sizes (heard_of other byte))
  any_byte b other byte a =
      alike_as (λ (c : Board). EffectsAlike Stores (byte_effect b (sheets_of sizes fixed) byte) (heard_was c sizes (heard_of c byte))) b other a
      (heard_alike b.store other.store a.stores b.kept b.states (heard_of b byte))

  pub rules_alike : RulesAlike (AlikeBy Stores) (edge_rule (sheets_of sizes fixed)) (rule_was sizes)
  rules_alike =
      record {
        bad = λ b other e a. ap (λ (m : Module). bad_edge m e) a.same_record;
        after = λ b other e a. (any_edge b other e a).board;
        answered = λ b other e a. (any_edge b other e a).acknowledged;
        reply = λ b other e a. (any_edge b other e a).reply;
      }
