-- FRAMES: each part of a board is as it was, or the command is one that can change it.
use Prim.Native.Nat.{ℕ, ◌+◌, ◌-◌, ◌*◌, ◌<◌}
use mathlib.Core.List.{List}
use mathlib.Core.Bool.{Bool, true, false}
use mathlib.Core.Logic.{◌⊎◌, inl, inr, ⊎_elim}
use mathlib.Core.Path.{◌≡◌, refl, sym, ap, subst}
use native.Mathlib.Omega.{arith}
use lib.Dec.{eqb}
use borrow.Author.Tests.{eqb-true, eqb-false}
use Rattle.bits.proofs.Tests.{by, clash}
use Rattle.line.specs.declared.packet.Packet.{Packet}
use Rattle.command.specs.declared.Command.{Command}
use Rattle.command.specs.declared.Command.TheVariants as C
use Rattle.std.specs.Prelude.{Option, Some, None}
use Rattle.command.specs.Meaning.{meaning_of}
use Rattle.drive.specs.declared.Drive.{Drive}
use Rattle.drive.specs.Drive.{with_control}
use Rattle.cells.specs.declared.role.Role.{Role}
use Rattle.cells.specs.declared.role.Role.TheVariants.{Number, Wait, Bank, Zero, Own, NotHere}
use Rattle.cells.specs.declared.settings.Settings.{Settings}
use Rattle.cells.specs.Roles.{offset_of, role_of}
use Rattle.cells.specs.Settings.{effective_number, settings_after, AfterWrite, write_byte_of, write_bit_of}
use Rattle.cells.proofs.Laws.{each_write, not_done_leaves, other_cells}
use Rattle.cells.proofs.BitLaws.{each_bit_write, bit_not_done_leaves}
use Rattle.cells.proofs.Owning.{RoleSays, role_says, own_from}
use Rattle.store.specs.Store.{held_at}
use Rattle.store.specs.Sheet.{Sheets}
use Rattle.bidi.specs.declared.record.Bidi.{Bidi}
use Rattle.bidi.specs.Bidi as R
use Rattle.bidi.specs.Bidi.{called_of}
use Rattle.bidi.proofs.Calls.{call_cases, others_silent}
use Rattle.board.specs.declared.record.Half.{Half}
use Rattle.board.specs.declared.record.Half.TheVariants.{NoHalf, AddressHalf, StateHalf, PositionHalf}
use Rattle.board.specs.declared.record.Module.{Module}
use Rattle.board.specs.Board.{Board, holds_half}
use Rattle.board.proofs.Halves.{is_held}
use Rattle.reactions.specs.Reactions.{Effect, with_kept, no_effect, second_half, address_effect, long_effect, position_low_effect}
use Rattle.reactions.proofs.Halves.{second_half_lem}
use Rattle.effects.specs.Effects.{effect_of, meaning_effect, packet_effect}
use Rattle.effects.specs.Frames.{SetsStates, short_state, long_state_lem, TellsDrive, tells_actual, tells_wanted, tells_load, tells_address, tells_from_0, tells_from_5, tells_from_13, tells_from_21, tells_control, SetsAddress, high_half, SetsFunctions, functions_from_0, functions_from_5, functions_from_13, functions_from_21, functions_off, SetsPosition, low_half, FirstHalf, low_address, low_state, high_position, Writes, write_byte, write_bit, Calls, a_call, WriteDone, WritesCell, CallAnswered, SaysOne}

-- ---- What a write leaves, by the CV's role.

number_after : (s : Settings) (role : Role) (value : ℕ) → ((settings_after s role value).number ≡ s.number) ⊎ (role ≡ Number)
unfolding settings_after
number_after s Number value = inr refl
number_after s Wait value = inl refl
number_after s Bank value = inl refl
number_after s Zero value = inl refl
number_after s (Own o) value = inl refl
number_after s NotHere value = inl refl

bank_after : (s : Settings) (role : Role) (value : ℕ) → ((settings_after s role value).bank ≡ s.bank) ⊎ (role ≡ Bank)
unfolding settings_after
bank_after s Number value = inl refl
bank_after s Wait value = inl refl
bank_after s Bank value = inr refl
bank_after s Zero value = inl refl
bank_after s (Own o) value = inl refl
bank_after s NotHere value = inl refl

wait_after : (s : Settings) (role : Role) (value : ℕ) → (settings_after s role value).wait ≡ s.wait
unfolding settings_after
wait_after s Number value = refl
wait_after s Wait value = refl
wait_after s Bank value = refl
wait_after s Zero value = refl
wait_after s (Own o) value = refl
wait_after s NotHere value = refl

-- the CV of an own cell
own_cv : (n cv o : ℕ) → role_of n cv ≡ Own o → cv ≡ 900 + 40 * (n - 1) + o
unfolding offset_of
own_cv n cv o e = let t : RoleSays n cv (Own o) = rw e at (role_says n cv) in omega (arith, own_from n cv t.0, t.1)

module _ (s : Settings) (store : List ℕ) (sheets : Sheets) where
  -- a fact of what a write leaves: a thing is as it was, or the CV is this one and the write is done
  abbrev Only : {A : Type 0} → (AfterWrite → A) → A → ℕ → ℕ → AfterWrite → Type 0
  Only view before at cv l = (view l ≡ before) ⊎ ((cv ≡ at) × (l.written.done ≡ true))

  byte_number : (cv value : ℕ) → Only (λ (l : AfterWrite). l.written.settings.number) s.number 897 cv (write_byte_of s cv value store sheets.sizes)
  byte_number cv value =
      each_write s cv value store sheets.sizes (Only (λ (l : AfterWrite). l.written.settings.number) s.number 897 cv) (inl refl)
      (λ t. ⊎_elim inl (λ e. let c : RoleSays (effective_number s) cv Number = rw e at (role_says (effective_number s) cv) in inr (c, refl)) (number_after s (role_of (effective_number s) cv) value))

  byte_bank : (cv value : ℕ) → Only (λ (l : AfterWrite). l.written.settings.bank) s.bank 1021 cv (write_byte_of s cv value store sheets.sizes)
  byte_bank cv value =
      each_write s cv value store sheets.sizes (Only (λ (l : AfterWrite). l.written.settings.bank) s.bank 1021 cv) (inl refl)
      (λ t. ⊎_elim inl (λ e. let c : RoleSays (effective_number s) cv Bank = rw e at (role_says (effective_number s) cv) in inr (c, refl)) (bank_after s (role_of (effective_number s) cv) value))

  byte_wait : (cv value : ℕ) → (write_byte_of s cv value store sheets.sizes).written.settings.wait ≡ s.wait
  byte_wait cv value = each_write s cv value store sheets.sizes (λ (l : AfterWrite). l.written.settings.wait ≡ s.wait) refl (λ t. wait_after s (role_of (effective_number s) cv) value)

  module _ (bank offset : ℕ) (h : offset < 40) where
    -- a cell is as it was, or it is the CV's cell of the selected bank and the write is done
    abbrev OnlyCell : ℕ → AfterWrite → Type 0
    OnlyCell cv l =
        (held_at l.store bank offset ≡ held_at store bank offset)
        ⊎ ((bank ≡ s.bank) × (cv ≡ 900 + 40 * (effective_number s - 1) + offset) × (l.written.done ≡ true))

    byte_cell : (cv value : ℕ) → OnlyCell cv (write_byte_of s cv value store sheets.sizes)
    byte_cell cv value =
        by (write_byte_of s cv value store sheets.sizes).written.done
        (λ d. by (eqb bank s.bank)
        (λ e. by (eqb cv (900 + 40 * (effective_number s - 1) + offset)) (λ f. inr (eqb-true _ _ e, eqb-true _ _ f, d))
        (λ f. inl (other_cells s cv value store sheets.sizes bank offset h (λ q. eqb-false _ _ f (own_cv (effective_number s) cv offset q.0)))))
        (λ e. inl (other_cells s cv value store sheets.sizes bank offset h (λ q. eqb-false _ _ e q.1))))
        (λ d. inl (ap (λ (l : AfterWrite). held_at l.store bank offset) (not_done_leaves s cv value store sheets.sizes d)))

    bit_cell : (cv place value : ℕ) → OnlyCell cv (write_bit_of s cv place value store sheets)
    bit_cell cv place value = each_bit_write s cv place value store sheets (OnlyCell cv) (inl refl) (λ byte e. byte_cell cv _)

-- ---- A call that isn't acknowledged, or isn't for this module, leaves statuses, queue and registration.

call_leaves : (b : Bidi) (own number : ℕ) (forced : Bool) (status : ℕ)
    → ((called_of b own number forced status).bidi ≡ b) ⊎ ((number ≡ own) × ((called_of b own number forced status).acknowledged ≡ true))
call_leaves b own number forced status =
    by (eqb number own)
    (λ e. call_cases b own number forced status (λ (r : R.Called). (r.bidi ≡ b) ⊎ ((number ≡ own) × (r.acknowledged ≡ true)))
    (inl refl) (λ f. inr (eqb-true _ _ e, refl)) (λ f q. inr (eqb-true _ _ e, refl)) (λ f q r. inr (eqb-true _ _ e, refl)))
    (λ e. inl (ap (λ (r : R.Called). r.bidi) (others_silent b own number forced status (eqb-false _ _ e))))

-- ---- The five commands that reach more than the drive, the position and the held half.

data Reaches : Half → Command → Type 0 where
  by_short : {half : Half} (number : ℕ) (on : Bool) → Reaches half (C.ShortState number on)
  by_long : (high : ℕ) → Reaches StateHalf (C.LongHigh high)
  by_byte : {half : Half} (cv value : ℕ) → Reaches half (C.WriteByte cv value)
  by_bit : {half : Half} (cv place value : ℕ) → Reaches half (C.WriteBit cv place value)
  by_call : {half : Half} (number : ℕ) (forced : Bool) (status : ℕ) → Reaches half (C.Call number forced status)

record Still (b : Board) (e : Effect) : Type 0 where
  same_states : e.board.states ≡ b.states
  same_number : e.board.kept.stateson ≡ b.kept.stateson
  same_store : e.board.store ≡ b.store
  same_settings : e.board.kept.settings ≡ b.kept.settings
  same_bidi : e.board.kept.bidi ≡ b.kept.bidi

module _ (b : Board) (sheets : Sheets) where
  -- a command that changes the drive, the position or the held half alone
  as_was : (m : Module) (acknowledged : Bool) (reply : List ℕ) → m.stateson ≡ b.kept.stateson → m.settings ≡ b.kept.settings → m.bidi ≡ b.kept.bidi
      → Still b (record { board = with_kept b m; acknowledged = acknowledged; reply = reply })
  as_was m acknowledged reply n s d = record { same_states = refl; same_number = n; same_store = refl; same_settings = s; same_bidi = d }

  unmoved : Still b (no_effect b)
  unmoved = as_was _ _ _ refl refl refl

  address_still : (high : ℕ) → Still b (address_effect b high)
  address_still high = second_half_lem b AddressHalf _ (Still b) unmoved (λ e. as_was _ _ _ refl refl refl)

  position_still : (low : ℕ) → Still b (position_low_effect b low)
  position_still low = second_half_lem b PositionHalf _ (Still b) unmoved (λ e. as_was _ _ _ refl refl refl)

  long_still : (high : ℕ) → Still b (long_effect b high) ⊎ Reaches b.kept.half (C.LongHigh high)
  long_still high =
      second_half_lem b StateHalf _ (λ (x : Effect). Still b x ⊎ Reaches b.kept.half (C.LongHigh high)) (inl unmoved)
      (λ e. inr (subst (λ (h : Half). Reaches h (C.LongHigh high)) (sym e) (by_long high)))

  -- where the state half is held, its second half acts
  acting : (half : Half) → b.kept.half ≡ half → holds_half b.kept half ≡ true
  acting half = is_held b.kept half

  still : (c : Command) → Still b (effect_of b sheets c) ⊎ Reaches b.kept.half c
  unfolding effect_of
  still C.NoOperation = inl unmoved
  still (C.ActualSpeed speed) = inl (as_was _ _ _ refl refl refl)
  still (C.WantedSpeed speed) = inl (as_was _ _ _ refl refl refl)
  still (C.Load load) = inl (as_was _ _ _ refl refl refl)
  still (C.AddressLow byte) = inl (as_was _ _ _ refl refl refl)
  still (C.AddressHigh high) = inl (address_still high)
  still (C.FunctionsFrom0 on) = inl (as_was _ _ _ refl refl refl)
  still (C.FunctionsFrom5 on) = inl (as_was _ _ _ refl refl refl)
  still (C.FunctionsFrom13 on) = inl (as_was _ _ _ refl refl refl)
  still (C.FunctionsFrom21 on) = inl (as_was _ _ _ refl refl refl)
  still (C.Control control) = inl (as_was _ _ _ refl refl refl)
  still (C.ShortState number on) = inr (by_short number on)
  still (C.LongLow low on) = inl (as_was _ _ _ refl refl refl)
  still (C.LongHigh high) = long_still high
  still (C.VerifyByte cv value) = inl (as_was _ _ _ refl refl refl)
  still (C.WriteByte cv value) = inr (by_byte cv value)
  still (C.VerifyBit cv place value) = inl (as_was _ _ _ refl refl refl)
  still (C.WriteBit cv place value) = inr (by_bit cv place value)
  still (C.Call number forced status) = inr (by_call number forced status)
  still (C.BankRead number bank) = inl (as_was _ _ _ refl refl refl)
  still (C.ReadCv cv) = inl (as_was _ _ _ refl refl refl)
  still (C.PositionHigh high) = inl (as_was _ _ _ refl refl refl)
  still (C.PositionLow low) = inl (position_still low)

  -- ---- STATES, AND HOW MANY ARE ON, CHANGE ONLY BY 0x6D AND 0x6F, the latter after its own low half.

  abbrev SameStates : Command → Type 0
  SameStates c = ((effect_of b sheets c).board.states ≡ b.states) × ((effect_of b sheets c).board.kept.stateson ≡ b.kept.stateson)

  reached_states : (half : Half) (c : Command) → Reaches half c → SameStates c ⊎ SetsStates half c
  unfolding effect_of
  reached_states half c (by_short number on) = inr (short_state number on)
  reached_states half c (by_long high) = inr (long_state_lem high)
  reached_states half c (by_byte cv value) = inl (refl, refl)
  reached_states half c (by_bit cv place value) = inl (refl, refl)
  reached_states half c (by_call number forced status) = inl (refl, refl)

  pub switching_frame : (c : Command) → SameStates c ⊎ SetsStates b.kept.half c
  switching_frame c = ⊎_elim (λ s. inl (s.same_states, s.same_number)) (reached_states b.kept.half c) (still c)

  pub states_frame : (c : Command) → ((effect_of b sheets c).board.states ≡ b.states) ⊎ SetsStates b.kept.half c
  states_frame c = ⊎_elim (λ s. inl s.0) inr (switching_frame c)

  pub stateson_frame : (c : Command) → ((effect_of b sheets c).board.kept.stateson ≡ b.kept.stateson) ⊎ SetsStates b.kept.half c
  stateson_frame c = ⊎_elim (λ s. inl s.1) inr (switching_frame c)

  -- ---- A CELL CHANGES ONLY BY AN ACKNOWLEDGED WRITE TO IT.

  module _ (bank offset : ℕ) (h : offset < 40) where
    abbrev CellFramed : Command → Type 0
    CellFramed c = (held_at (effect_of b sheets c).board.store bank offset ≡ held_at b.store bank offset) ⊎ WritesCell b sheets bank offset c

    reached_cell : (half : Half) (c : Command) → Reaches half c → b.kept.half ≡ half → CellFramed c
    unfolding effect_of second_half
    reached_cell half c (by_short number on) e = inl refl
    reached_cell half c (by_long high) e = inl (rw (acting StateHalf e))
    reached_cell half c (by_byte cv value) e =
        ⊎_elim inl
        (λ w. inr (record { selected = w.0; written = record { writes = subst (λ (x : ℕ). Writes x (C.WriteByte cv value)) w.1 (write_byte cv value); acknowledged = w.2 } }))
        (byte_cell b.kept.settings b.store sheets bank offset h cv value)
    reached_cell half c (by_bit cv place value) e =
        ⊎_elim inl
        (λ w. inr (record { selected = w.0; written = record { writes = subst (λ (x : ℕ). Writes x (C.WriteBit cv place value)) w.1 (write_bit cv place value); acknowledged = w.2 } }))
        (bit_cell b.kept.settings b.store sheets bank offset h cv place value)
    reached_cell half c (by_call number forced status) e = inl refl

    pub cell_frame : (c : Command) → CellFramed c
    cell_frame c = ⊎_elim (λ s. inl (ap (λ (l : List ℕ). held_at l bank offset) s.same_store)) (λ r. reached_cell b.kept.half c r refl) (still c)

  -- ---- CV 897 CHANGES ONLY BY AN ACKNOWLEDGED WRITE TO IT, CV 1021 likewise, and CV 1020 by no command.

  reached_number : (half : Half) (c : Command) → Reaches half c → b.kept.half ≡ half
      → ((effect_of b sheets c).board.kept.settings.number ≡ b.kept.settings.number) ⊎ WriteDone b sheets 897 c
  unfolding effect_of second_half
  reached_number half c (by_short number on) e = inl refl
  reached_number half c (by_long high) e = inl (rw (acting StateHalf e))
  reached_number half c (by_byte cv value) e =
      ⊎_elim inl (λ w. inr (record { writes = subst (λ (x : ℕ). Writes x (C.WriteByte cv value)) w.0 (write_byte cv value); acknowledged = w.1 }))
      (byte_number b.kept.settings b.store sheets cv value)
  reached_number half c (by_bit cv place value) e =
      ⊎_elim inl (λ w. inr (record { writes = subst (λ (x : ℕ). Writes x (C.WriteBit cv place value)) w.0 (write_bit cv place value); acknowledged = w.1 }))
      (each_bit_write b.kept.settings cv place value b.store sheets (Only b.kept.settings b.store sheets (λ (l : AfterWrite). l.written.settings.number) b.kept.settings.number 897 cv) (inl refl)
      (λ byte q. byte_number b.kept.settings b.store sheets cv _))
  reached_number half c (by_call number forced status) e = inl refl

  pub number_frame : (c : Command) → ((effect_of b sheets c).board.kept.settings.number ≡ b.kept.settings.number) ⊎ WriteDone b sheets 897 c
  number_frame c = ⊎_elim (λ s. inl (ap (λ (x : Settings). x.number) s.same_settings)) (λ r. reached_number b.kept.half c r refl) (still c)

  reached_bank : (half : Half) (c : Command) → Reaches half c → b.kept.half ≡ half
      → ((effect_of b sheets c).board.kept.settings.bank ≡ b.kept.settings.bank) ⊎ WriteDone b sheets 1021 c
  unfolding effect_of second_half
  reached_bank half c (by_short number on) e = inl refl
  reached_bank half c (by_long high) e = inl (rw (acting StateHalf e))
  reached_bank half c (by_byte cv value) e =
      ⊎_elim inl (λ w. inr (record { writes = subst (λ (x : ℕ). Writes x (C.WriteByte cv value)) w.0 (write_byte cv value); acknowledged = w.1 }))
      (byte_bank b.kept.settings b.store sheets cv value)
  reached_bank half c (by_bit cv place value) e =
      ⊎_elim inl (λ w. inr (record { writes = subst (λ (x : ℕ). Writes x (C.WriteBit cv place value)) w.0 (write_bit cv place value); acknowledged = w.1 }))
      (each_bit_write b.kept.settings cv place value b.store sheets (Only b.kept.settings b.store sheets (λ (l : AfterWrite). l.written.settings.bank) b.kept.settings.bank 1021 cv) (inl refl)
      (λ byte q. byte_bank b.kept.settings b.store sheets cv _))
  reached_bank half c (by_call number forced status) e = inl refl

  pub bank_frame : (c : Command) → ((effect_of b sheets c).board.kept.settings.bank ≡ b.kept.settings.bank) ⊎ WriteDone b sheets 1021 c
  bank_frame c = ⊎_elim (λ s. inl (ap (λ (x : Settings). x.bank) s.same_settings)) (λ r. reached_bank b.kept.half c r refl) (still c)

  reached_wait : (half : Half) (c : Command) → Reaches half c → b.kept.half ≡ half → (effect_of b sheets c).board.kept.settings.wait ≡ b.kept.settings.wait
  unfolding effect_of second_half
  reached_wait half c (by_short number on) e = refl
  reached_wait half c (by_long high) e = rw (acting StateHalf e)
  reached_wait half c (by_byte cv value) e = byte_wait b.kept.settings b.store sheets cv value
  reached_wait half c (by_bit cv place value) e =
      each_bit_write b.kept.settings cv place value b.store sheets (λ (l : AfterWrite). l.written.settings.wait ≡ b.kept.settings.wait) refl
      (λ byte q. byte_wait b.kept.settings b.store sheets cv _)
  reached_wait half c (by_call number forced status) e = refl

  pub wait_stays : (c : Command) → (effect_of b sheets c).board.kept.settings.wait ≡ b.kept.settings.wait
  wait_stays c = ⊎_elim (λ s. ap (λ (x : Settings). x.wait) s.same_settings) (λ r. reached_wait b.kept.half c r refl) (still c)

  -- ---- STATUSES, QUEUE AND REGISTRATION CHANGE ONLY BY AN ACKNOWLEDGED CALL of this module.

  reached_bidi : (half : Half) (c : Command) → Reaches half c → b.kept.half ≡ half → ((effect_of b sheets c).board.kept.bidi ≡ b.kept.bidi) ⊎ CallAnswered b sheets c
  unfolding effect_of second_half
  reached_bidi half c (by_short number on) e = inl refl
  reached_bidi half c (by_long high) e = inl (rw (acting StateHalf e))
  reached_bidi half c (by_byte cv value) e = inl refl
  reached_bidi half c (by_bit cv place value) e = inl refl
  reached_bidi half c (by_call number forced status) e =
      ⊎_elim inl
      (λ w. inr (record { own = subst (λ (x : ℕ). Calls x (C.Call number forced status)) w.0 (a_call number forced status); acknowledged = w.1 }))
      (call_leaves b.kept.bidi (effective_number b.kept.settings) number forced status)

  pub bidi_frame : (c : Command) → ((effect_of b sheets c).board.kept.bidi ≡ b.kept.bidi) ⊎ CallAnswered b sheets c
  bidi_frame c = ⊎_elim (λ s. inl s.same_bidi) (λ r. reached_bidi b.kept.half c r refl) (still c)

  -- ---- THE DRIVE CHANGES ONLY BY THE COMMANDS THAT TELL IT, its address only by a high half after its own low half.

  address_drive : (high : ℕ) → ((address_effect b high).board.kept.drive ≡ b.kept.drive) ⊎ TellsDrive b.kept.half (C.AddressHigh high)
  address_drive high =
      second_half_lem b AddressHalf _ (λ (x : Effect). (x.board.kept.drive ≡ b.kept.drive) ⊎ TellsDrive b.kept.half (C.AddressHigh high)) (inl refl)
      (λ e. inr (subst (λ (h : Half). TellsDrive h (C.AddressHigh high)) (sym e) (tells_address high)))

  position_drive : (low : ℕ) → (position_low_effect b low).board.kept.drive ≡ b.kept.drive
  position_drive low = second_half_lem b PositionHalf _ (λ (x : Effect). x.board.kept.drive ≡ b.kept.drive) refl (λ e. refl)

  long_drive : (high : ℕ) → (long_effect b high).board.kept.drive ≡ b.kept.drive
  long_drive high = second_half_lem b StateHalf _ (λ (x : Effect). x.board.kept.drive ≡ b.kept.drive) refl (λ e. refl)

  pub drive_frame : (c : Command) → ((effect_of b sheets c).board.kept.drive ≡ b.kept.drive) ⊎ TellsDrive b.kept.half c
  unfolding effect_of
  drive_frame C.NoOperation = inl refl
  drive_frame (C.ActualSpeed speed) = inr (tells_actual speed)
  drive_frame (C.WantedSpeed speed) = inr (tells_wanted speed)
  drive_frame (C.Load load) = inr (tells_load load)
  drive_frame (C.AddressLow byte) = inl refl
  drive_frame (C.AddressHigh high) = address_drive high
  drive_frame (C.FunctionsFrom0 on) = inr (tells_from_0 on)
  drive_frame (C.FunctionsFrom5 on) = inr (tells_from_5 on)
  drive_frame (C.FunctionsFrom13 on) = inr (tells_from_13 on)
  drive_frame (C.FunctionsFrom21 on) = inr (tells_from_21 on)
  drive_frame (C.Control control) = inr (tells_control control)
  drive_frame (C.ShortState number on) = inl refl
  drive_frame (C.LongLow low on) = inl refl
  drive_frame (C.LongHigh high) = inl (long_drive high)
  drive_frame (C.VerifyByte cv value) = inl refl
  drive_frame (C.WriteByte cv value) = inl refl
  drive_frame (C.VerifyBit cv place value) = inl refl
  drive_frame (C.WriteBit cv place value) = inl refl
  drive_frame (C.Call number forced status) = inl refl
  drive_frame (C.BankRead number bank) = inl refl
  drive_frame (C.ReadCv cv) = inl refl
  drive_frame (C.PositionHigh high) = inl refl
  drive_frame (C.PositionLow low) = inl (position_drive low)

  told_address : (half : Half) (c : Command) → TellsDrive half c → ((effect_of b sheets c).board.kept.drive.address ≡ b.kept.drive.address) ⊎ SetsAddress half c
  unfolding effect_of with_control
  told_address half c (tells_actual speed) = inl refl
  told_address half c (tells_wanted speed) = inl refl
  told_address half c (tells_load load) = inl refl
  told_address half c (tells_address high) = inr (high_half high)
  told_address half c (tells_from_0 on) = inl refl
  told_address half c (tells_from_5 on) = inl refl
  told_address half c (tells_from_13 on) = inl refl
  told_address half c (tells_from_21 on) = inl refl
  told_address half c (tells_control control) = inl refl

  pub address_frame : (c : Command) → ((effect_of b sheets c).board.kept.drive.address ≡ b.kept.drive.address) ⊎ SetsAddress b.kept.half c
  address_frame c = ⊎_elim (λ s. inl (ap (λ (d : Drive). d.address) s)) (told_address b.kept.half c) (drive_frame c)

  told_functions : (half : Half) (c : Command) → TellsDrive half c → b.kept.half ≡ half → ((effect_of b sheets c).board.kept.drive.functions ≡ b.kept.drive.functions) ⊎ SetsFunctions c
  unfolding effect_of second_half
  told_functions half c (tells_actual speed) e = inl refl
  told_functions half c (tells_wanted speed) e = inl refl
  told_functions half c (tells_load load) e = inl refl
  told_functions half c (tells_address high) e = inl (rw (acting AddressHalf e))
  told_functions half c (tells_from_0 on) e = inr (functions_from_0 on)
  told_functions half c (tells_from_5 on) e = inr (functions_from_5 on)
  told_functions half c (tells_from_13 on) e = inr (functions_from_13 on)
  told_functions half c (tells_from_21 on) e = inr (functions_from_21 on)
  told_functions half c (tells_control control) e = inr (functions_off control)

  pub functions_frame : (c : Command) → ((effect_of b sheets c).board.kept.drive.functions ≡ b.kept.drive.functions) ⊎ SetsFunctions c
  functions_frame c = ⊎_elim (λ s. inl (ap (λ (d : Drive). d.functions) s)) (λ t. told_functions b.kept.half c t refl) (drive_frame c)

  -- ---- THE POSITION CHANGES ONLY BY 0x89 after its own high half.

  low_position : (low : ℕ) → ((position_low_effect b low).board.kept.position ≡ b.kept.position) ⊎ SetsPosition b.kept.half (C.PositionLow low)
  low_position low =
      second_half_lem b PositionHalf _ (λ (x : Effect). (x.board.kept.position ≡ b.kept.position) ⊎ SetsPosition b.kept.half (C.PositionLow low)) (inl refl)
      (λ e. inr (subst (λ (h : Half). SetsPosition h (C.PositionLow low)) (sym e) (low_half low)))

  second_position : (half : Half) (acts : Effect) → acts.board.kept.position ≡ b.kept.position → (second_half b half acts).board.kept.position ≡ b.kept.position
  second_position half acts n = second_half_lem b half acts (λ (x : Effect). x.board.kept.position ≡ b.kept.position) refl (λ e. n)

  pub position_frame : (c : Command) → ((effect_of b sheets c).board.kept.position ≡ b.kept.position) ⊎ SetsPosition b.kept.half c
  unfolding effect_of
  position_frame C.NoOperation = inl refl
  position_frame (C.ActualSpeed speed) = inl refl
  position_frame (C.WantedSpeed speed) = inl refl
  position_frame (C.Load load) = inl refl
  position_frame (C.AddressLow byte) = inl refl
  position_frame (C.AddressHigh high) = inl (second_position AddressHalf _ refl)
  position_frame (C.FunctionsFrom0 on) = inl refl
  position_frame (C.FunctionsFrom5 on) = inl refl
  position_frame (C.FunctionsFrom13 on) = inl refl
  position_frame (C.FunctionsFrom21 on) = inl refl
  position_frame (C.Control control) = inl refl
  position_frame (C.ShortState number on) = inl refl
  position_frame (C.LongLow low on) = inl refl
  position_frame (C.LongHigh high) = inl (second_position StateHalf _ refl)
  position_frame (C.VerifyByte cv value) = inl refl
  position_frame (C.WriteByte cv value) = inl refl
  position_frame (C.VerifyBit cv place value) = inl refl
  position_frame (C.WriteBit cv place value) = inl refl
  position_frame (C.Call number forced status) = inl refl
  position_frame (C.BankRead number bank) = inl refl
  position_frame (C.ReadCv cv) = inl refl
  position_frame (C.PositionHigh high) = inl refl
  position_frame (C.PositionLow low) = low_position low

  -- ---- A HALF IS HELD after a command exactly if it is a first half, and then it is that one.

  second_none : (half : Half) (acts : Effect) → (acts.board.kept.half ≡ NoHalf) × (acts.board.kept.halfbyte ≡ 0)
      → ((second_half b half acts).board.kept.half ≡ NoHalf) × ((second_half b half acts).board.kept.halfbyte ≡ 0)
  second_none half acts n =
      second_half_lem b half acts (λ (x : Effect). (x.board.kept.half ≡ NoHalf) × (x.board.kept.halfbyte ≡ 0)) (refl, refl) (λ e. n)

  pub half_frame : (c : Command)
      → (((effect_of b sheets c).board.kept.half ≡ NoHalf) × ((effect_of b sheets c).board.kept.halfbyte ≡ 0))
      ⊎ FirstHalf c (effect_of b sheets c).board.kept.half (effect_of b sheets c).board.kept.halfbyte
  unfolding effect_of
  half_frame C.NoOperation = inl (refl, refl)
  half_frame (C.ActualSpeed speed) = inl (refl, refl)
  half_frame (C.WantedSpeed speed) = inl (refl, refl)
  half_frame (C.Load load) = inl (refl, refl)
  half_frame (C.AddressLow byte) = inr (low_address byte)
  half_frame (C.AddressHigh high) = inl (second_none AddressHalf _ (refl, refl))
  half_frame (C.FunctionsFrom0 on) = inl (refl, refl)
  half_frame (C.FunctionsFrom5 on) = inl (refl, refl)
  half_frame (C.FunctionsFrom13 on) = inl (refl, refl)
  half_frame (C.FunctionsFrom21 on) = inl (refl, refl)
  half_frame (C.Control control) = inl (refl, refl)
  half_frame (C.ShortState number on) = inl (refl, refl)
  half_frame (C.LongLow low on) = inr (low_state low on)
  half_frame (C.LongHigh high) = inl (second_none StateHalf _ (refl, refl))
  half_frame (C.VerifyByte cv value) = inl (refl, refl)
  half_frame (C.WriteByte cv value) = inl (refl, refl)
  half_frame (C.VerifyBit cv place value) = inl (refl, refl)
  half_frame (C.WriteBit cv place value) = inl (refl, refl)
  half_frame (C.Call number forced status) = inl (refl, refl)
  half_frame (C.BankRead number bank) = inl (refl, refl)
  half_frame (C.ReadCv cv) = inl (refl, refl)
  half_frame (C.PositionHigh high) = inr (high_position high)
  half_frame (C.PositionLow low) = inl (second_none PositionHalf _ (refl, refl))

  -- ---- AN UNACKNOWLEDGED COMMAND leaves the store, the settings, and statuses, queue and registration.

  abbrev LeftAlone : Effect → Type 0
  LeftAlone e = (e.board.store ≡ b.store) × (e.board.kept.settings ≡ b.kept.settings) × (e.board.kept.bidi ≡ b.kept.bidi)

  reached_unheard : (half : Half) (c : Command) → Reaches half c → b.kept.half ≡ half → (effect_of b sheets c).acknowledged ≡ false → LeftAlone (effect_of b sheets c)
  unfolding effect_of second_half
  reached_unheard half c (by_short number on) e n = (refl, refl, refl)
  reached_unheard half c (by_long high) e n = rw (acting StateHalf e) (refl, refl, refl)
  reached_unheard half c (by_byte cv value) e n = rw (not_done_leaves b.kept.settings cv value b.store sheets.sizes n) (refl, refl, refl)
  reached_unheard half c (by_bit cv place value) e n = rw (bit_not_done_leaves b.kept.settings cv place value b.store sheets n) (refl, refl, refl)
  reached_unheard half c (by_call number forced status) e n =
      ⊎_elim (λ s. (refl, refl, s)) (λ w. clash w.1 n) (call_leaves b.kept.bidi (effective_number b.kept.settings) number forced status)

  pub unacknowledged_leaves : (c : Command) → (effect_of b sheets c).acknowledged ≡ false
      → ((effect_of b sheets c).board.store ≡ b.store) × ((effect_of b sheets c).board.kept.settings ≡ b.kept.settings) × ((effect_of b sheets c).board.kept.bidi ≡ b.kept.bidi)
  unacknowledged_leaves c n = ⊎_elim (λ s. (s.same_store, s.same_settings, s.same_bidi)) (λ r. reached_unheard b.kept.half c r refl n) (still c)

  -- ---- THE SAME OF PACKETS: what only commands of a kind can change is as it was after every packet that says none of them.

  module _ {A : Type 0} (view : Board → A) (Q : Command → Type 0) (idle : view (no_effect b).board ≡ view b) (frame : (c : Command) → (view (effect_of b sheets c).board ≡ view b) ⊎ Q c) where
    meant_frame : (p : Packet) (m : Option Command) → meaning_of p ≡ m → (view (meaning_effect b sheets m).board ≡ view b) ⊎ SaysOne p Q
    unfolding meaning_effect
    meant_frame p (Some c) e = ⊎_elim inl (λ q. inr (record { command = c; says = e; kind = q })) (frame c)
    meant_frame p None e = inl idle

    pub packet_frame : (p : Packet) → (view (packet_effect b sheets p).board ≡ view b) ⊎ SaysOne p Q
    unfolding packet_effect
    packet_frame p = meant_frame p (meaning_of p) refl
