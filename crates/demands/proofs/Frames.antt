-- WHICH COMMAND CAN CHANGE WHAT, in a whole recording and in a call of the feed: a line for each part of a board but the receiver and
-- the held half, on which every command acts. What the commands are stands in the definitions of `effects` (specs/Frames.antt), the
-- laws of a single command in its proofs/Frames.antt; the laws of the application's entries and of a restart are their promises.
use Prim.Native.Nat.{ℕ, ◌<◌}
use mathlib.Core.List.{List}
use mathlib.Core.Bool.{Bool}
use mathlib.Core.Logic.{◌⊎◌, inl, inr, ⊎_elim}
use mathlib.Core.Path.{◌≡◌, refl, ap}
use Rattle.line.specs.Wire.{Edge}
use Rattle.command.specs.declared.Command.{Command}
use Rattle.command.specs.declared.Command.TheVariants as C
use Rattle.drive.specs.declared.Drive.{Drive}
use Rattle.drive.specs.Drive.{with_control}
use Rattle.store.specs.Store.{held_at}
use Rattle.store.specs.Sheet.{Sheets}
use Rattle.cells.specs.declared.settings.Settings.{Settings}
use Rattle.cells.specs.Settings.{effective_number}
use Rattle.bidi.specs.declared.record.Bidi.{Bidi}
use Rattle.bidi.specs.Bidi as R
use Rattle.bidi.specs.Bidi.{called_of}
use Rattle.bidi.proofs.Calls.{call_cases}
use Rattle.board.specs.declared.record.Half.{Half}
use Rattle.board.specs.declared.record.Half.TheVariants.{AddressHalf}
use Rattle.board.specs.Board.{Board}
use Rattle.board.proofs.Halves.{is_held}
use Rattle.reactions.specs.Reactions.{second_half}
use Rattle.effects.specs.Effects.{effect_of}
use Rattle.effects.specs.Frames.{SetsStates, TellsDrive, tells_actual, tells_wanted, tells_load, tells_address, tells_from_0, tells_from_5, tells_from_13, tells_from_21, tells_control, SetsAddress, SetsFunctions, SetsPosition, Calls, a_call, WriteDone, WritesCell, CallAnswered}
use Rattle.effects.proofs.Frames.{states_frame, stateson_frame, cell_frame, number_frame, bank_frame, wait_stays, bidi_frame, drive_frame, address_frame, functions_frame, position_frame}
use Rattle.module.specs.Feed.{FeedPromise}
use Rattle.module.specs.Whole.{whole_of}
use Rattle.module.specs.Frames.{SomeEdge}
use Rattle.module.proofs.Frames.{Unmoved, gap_drive, gap_position, gap_stateson, gap_settings, gap_bidi, whole_frame, feed_frame, no_edge}
use Rattle.demands.specs.Frames.{OnlyBy, Never, Tells}

-- from one command to recordings and calls
only : {A : Type 0} (part : Board → A) → Unmoved part → (Q : Board → Command → Type 0) (sheets : Sheets)
    → ((b : Board) (c : Command) → (part (effect_of b sheets c).board ≡ part b) ⊎ Q b c) → OnlyBy part Q sheets
unfolding FeedPromise
only part u Q sheets frame =
    record {
      in_recording = λ b es. whole_frame part u Q sheets frame es b 0;
      in_call = λ b room times levels o p. rw p (feed_frame part u Q sheets frame room times levels b);
    }

never : {A : Type 0} (part : Board → A) (sheets : Sheets) → OnlyBy part (λ b c. ⊥) sheets → Never part sheets
never part sheets o =
    record {
      in_recording = λ b es. ⊎_elim (λ same. same) (λ s. absurd (no_edge sheets b es s)) (o.in_recording b es);
      in_call = λ b room times levels out p. ⊎_elim (λ same. same) (λ s. absurd (no_edge sheets b _ s)) (o.in_call b room times levels out p);
    }

-- a gap, a bit or a packet without effect leaves lists, settings, drive, position and statuses
of_lists : {A : Type 0} (view : List ℕ → List ℕ → A) → Unmoved (λ (b : Board). view b.states b.store)
of_lists view = record { by_bit = λ b e. refl; by_nothing = λ b. refl }

of_settings : {A : Type 0} (view : Settings → A) → Unmoved (λ (b : Board). view b.kept.settings)
of_settings view = record { by_bit = λ b e. ap view (gap_settings b.kept e.time); by_nothing = λ b. refl }

of_drive_lem : {A : Type 0} (view : Drive → A) → Unmoved (λ (b : Board). view b.kept.drive)
of_drive_lem view = record { by_bit = λ b e. ap view (gap_drive b.kept e.time); by_nothing = λ b. refl }

of_position : Unmoved (λ (b : Board). b.kept.position)
of_position = record { by_bit = λ b e. gap_position b.kept e.time; by_nothing = λ b. refl }

of_stateson : Unmoved (λ (b : Board). b.kept.stateson)
of_stateson = record { by_bit = λ b e. gap_stateson b.kept e.time; by_nothing = λ b. refl }

of_bidi_lem : {A : Type 0} (view : Bidi → A) → Unmoved (λ (b : Board). view b.kept.bidi)
of_bidi_lem view = record { by_bit = λ b e. ap view (gap_bidi b.kept e.time); by_nothing = λ b. refl }

-- a call leaves the statuses
called_statuses : (b : Bidi) (own number : ℕ) (forced : Bool) (status : ℕ)
    → ((called_of b own number forced status).bidi.status0 ≡ b.status0) × ((called_of b own number forced status).bidi.status1 ≡ b.status1)
called_statuses b own number forced status =
    call_cases b own number forced status (λ (r : R.Called). (r.bidi.status0 ≡ b.status0) × (r.bidi.status1 ≡ b.status1)) (refl, refl) (λ f. (refl, refl))
    (λ f q. (refl, refl)) (λ f q r. (refl, refl))

module _ (b : Board) (sheets : Sheets) where
  abbrev SameStatuses : Command → Type 0
  SameStatuses c =
      ((effect_of b sheets c).board.kept.bidi.status0 ≡ b.kept.bidi.status0) × ((effect_of b sheets c).board.kept.bidi.status1 ≡ b.kept.bidi.status1)

  call_statuses : (own : ℕ) (c : Command) → Calls own c → SameStatuses c
  unfolding effect_of
  call_statuses own c (a_call number forced status) = called_statuses b.kept.bidi (effective_number b.kept.settings) number forced status

  statuses_stay : (c : Command) → SameStatuses c
  statuses_stay c =
      ⊎_elim (λ s. (ap (λ (x : Bidi). x.status0) s, ap (λ (x : Bidi). x.status1) s)) (λ w. call_statuses (effective_number b.kept.settings) c w.own) (bidi_frame b sheets c)

  -- a speed, the load or the control bits are as they were, or the command is their own
  abbrev OwnTells : Drive → Command → Type 0
  OwnTells d c =
      ((d.actual ≡ b.kept.drive.actual) ⊎ Tells C.ActualSpeed c)
      × ((d.wanted ≡ b.kept.drive.wanted) ⊎ Tells C.WantedSpeed c)
      × ((d.load ≡ b.kept.drive.load) ⊎ Tells C.Load c)
      × ((d.control ≡ b.kept.drive.control) ⊎ Tells C.Control c)

  told_own : (half : Half) (c : Command) → TellsDrive half c → b.kept.half ≡ half → OwnTells (effect_of b sheets c).board.kept.drive c
  unfolding effect_of second_half with_control
  told_own half c (tells_actual speed) e = (inr (speed, refl), inl refl, inl refl, inl refl)
  told_own half c (tells_wanted speed) e = (inl refl, inr (speed, refl), inl refl, inl refl)
  told_own half c (tells_load load) e = (inl refl, inl refl, inr (load, refl), inl refl)
  told_own half c (tells_address high) e = rw (is_held b.kept AddressHalf e) (inl refl, inl refl, inl refl, inl refl)
  told_own half c (tells_from_0 on) e = (inl refl, inl refl, inl refl, inl refl)
  told_own half c (tells_from_5 on) e = (inl refl, inl refl, inl refl, inl refl)
  told_own half c (tells_from_13 on) e = (inl refl, inl refl, inl refl, inl refl)
  told_own half c (tells_from_21 on) e = (inl refl, inl refl, inl refl, inl refl)
  told_own half c (tells_control control) e = (inl refl, inl refl, inl refl, inr (control, refl))

  own_tells : (c : Command) → OwnTells (effect_of b sheets c).board.kept.drive c
  own_tells c =
      ⊎_elim
      (λ s. (inl (ap (λ (d : Drive). d.actual) s), inl (ap (λ (d : Drive). d.wanted) s), inl (ap (λ (d : Drive). d.load) s), inl (ap (λ (d : Drive). d.control) s)))
      (λ t. told_own b.kept.half c t refl) (drive_frame b sheets c)

module _ (sheets : Sheets) where
  -- A CELL changes only by an acknowledged write to it: of a byte or a bit, to CV 900+40(n-1)+offset of the module's number n, while
  -- CV 1021 is its bank
  pub cell_only : (bank offset : ℕ) → offset < 40 → OnlyBy (λ (b : Board). held_at b.store bank offset) (λ b c. WritesCell b sheets bank offset c) sheets
  cell_only bank offset h =
      only (λ (b : Board). held_at b.store bank offset) (of_lists (λ states store. held_at store bank offset)) (λ b c. WritesCell b sheets bank offset c) sheets
      (λ b. cell_frame b sheets bank offset h)

  -- said the other way round: where a cell is another at the end, some edge completed an acknowledged write to that very cell
  pub cell_changed : (bank offset : ℕ) → offset < 40 → (b : Board) (es : List Edge)
      → (held_at (whole_of b sheets 0 es).board.store bank offset ≡ held_at b.store bank offset → ⊥)
      → SomeEdge (λ b c. WritesCell b sheets bank offset c) sheets b es
  cell_changed bank offset h b es n = ⊎_elim (λ same. absurd (n same)) (λ s. s) ((cell_only bank offset h).in_recording b es)

  -- THE STATES change only by 0x6D, and by 0x6F after its own low half
  pub states_only : OnlyBy (λ (b : Board). b.states) (λ b c. SetsStates b.kept.half c) sheets
  states_only = only (λ (b : Board). b.states) (of_lists (λ states store. states)) (λ b c. SetsStates b.kept.half c) sheets (λ b. states_frame b sheets)

  -- CV 897 AND CV 1021 change only by an acknowledged write to them, and CV 1020 by no command
  pub number_only : OnlyBy (λ (b : Board). b.kept.settings.number) (λ b c. WriteDone b sheets 897 c) sheets
  number_only = only (λ (b : Board). b.kept.settings.number) (of_settings (λ s. s.number)) (λ b c. WriteDone b sheets 897 c) sheets (λ b. number_frame b sheets)

  pub bank_only : OnlyBy (λ (b : Board). b.kept.settings.bank) (λ b c. WriteDone b sheets 1021 c) sheets
  bank_only = only (λ (b : Board). b.kept.settings.bank) (of_settings (λ s. s.bank)) (λ b c. WriteDone b sheets 1021 c) sheets (λ b. bank_frame b sheets)

  pub wait_never : Never (λ (b : Board). b.kept.settings.wait) sheets
  wait_never =
      never (λ (b : Board). b.kept.settings.wait) sheets
      (only (λ (b : Board). b.kept.settings.wait) (of_settings (λ s. s.wait)) (λ b c. ⊥) sheets (λ b c. inl (wait_stays b sheets c)))

  -- QUEUE AND REGISTRATION change only by an acknowledged call of this module, and the statuses by no command
  pub bidi_only : OnlyBy (λ (b : Board). b.kept.bidi) (λ b c. CallAnswered b sheets c) sheets
  bidi_only =
      only (λ (b : Board). b.kept.bidi) (of_bidi_lem (λ x. x)) (λ b c. CallAnswered b sheets c) sheets
      (λ b. bidi_frame b sheets)

  status_never : (view : Bidi → ℕ) → ((b : Board) (c : Command) → view (effect_of b sheets c).board.kept.bidi ≡ view b.kept.bidi)
      → Never (λ (b : Board). view b.kept.bidi) sheets
  status_never view stays =
      never (λ (b : Board). view b.kept.bidi) sheets (only (λ (b : Board). view b.kept.bidi) (of_bidi_lem view) (λ b c. ⊥) sheets (λ b c. inl (stays b c)))

  pub statuses_never : Never (λ (b : Board). b.kept.bidi.status0) sheets × Never (λ (b : Board). b.kept.bidi.status1) sheets
  statuses_never = (status_never (λ x. x.status0) (λ b c. (statuses_stay b sheets c).0), status_never (λ x. x.status1) (λ b c. (statuses_stay b sheets c).1))

  -- SPEEDS, LOAD, ADDRESS, FUNCTIONS AND CONTROL change only by the commands that tell them: each speed, the load and the control bits
  -- by 0x24, 0x25, 0x26 and 0x6C, the address by 0x5F after its own low half, the functions by 0x60 to 0x63 and 0x6C
  pub drive_only : OnlyBy (λ (b : Board). b.kept.drive) (λ b c. TellsDrive b.kept.half c) sheets
  drive_only = only (λ (b : Board). b.kept.drive) (of_drive_lem (λ d. d)) (λ b c. TellsDrive b.kept.half c) sheets (λ b. drive_frame b sheets)

  pub address_only : OnlyBy (λ (b : Board). b.kept.drive.address) (λ b c. SetsAddress b.kept.half c) sheets
  address_only = only (λ (b : Board). b.kept.drive.address) (of_drive_lem (λ d. d.address)) (λ b c. SetsAddress b.kept.half c) sheets (λ b. address_frame b sheets)

  pub functions_only : OnlyBy (λ (b : Board). b.kept.drive.functions) (λ b c. SetsFunctions c) sheets
  functions_only = only (λ (b : Board). b.kept.drive.functions) (of_drive_lem (λ d. d.functions)) (λ b c. SetsFunctions c) sheets (λ b. functions_frame b sheets)

  pub actual_only : OnlyBy (λ (b : Board). b.kept.drive.actual) (λ b c. Tells C.ActualSpeed c) sheets
  actual_only = only (λ (b : Board). b.kept.drive.actual) (of_drive_lem (λ d. d.actual)) (λ b c. Tells C.ActualSpeed c) sheets (λ b c. (own_tells b sheets c).0)

  pub wanted_only : OnlyBy (λ (b : Board). b.kept.drive.wanted) (λ b c. Tells C.WantedSpeed c) sheets
  wanted_only = only (λ (b : Board). b.kept.drive.wanted) (of_drive_lem (λ d. d.wanted)) (λ b c. Tells C.WantedSpeed c) sheets (λ b c. (own_tells b sheets c).1)

  pub load_only : OnlyBy (λ (b : Board). b.kept.drive.load) (λ b c. Tells C.Load c) sheets
  load_only = only (λ (b : Board). b.kept.drive.load) (of_drive_lem (λ d. d.load)) (λ b c. Tells C.Load c) sheets (λ b c. (own_tells b sheets c).2)

  pub control_only : OnlyBy (λ (b : Board). b.kept.drive.control) (λ b c. Tells C.Control c) sheets
  control_only = only (λ (b : Board). b.kept.drive.control) (of_drive_lem (λ d. d.control)) (λ b c. Tells C.Control c) sheets (λ b c. (own_tells b sheets c).3)

  -- C-12: THE POSITION changes only by 0x89 after its own high half
  pub position_only : OnlyBy (λ (b : Board). b.kept.position) (λ (b : Board). SetsPosition b.kept.half) sheets
  position_only = only (λ (b : Board). b.kept.position) of_position (λ (b : Board). SetsPosition b.kept.half) sheets (λ b. position_frame b sheets)

  pub stateson_only : OnlyBy (λ (b : Board). b.kept.stateson) (λ (b : Board). SetsStates b.kept.half) sheets
  stateson_only = only (λ (b : Board). b.kept.stateson) of_stateson (λ (b : Board). SetsStates b.kept.half) sheets (λ b. stateson_frame b sheets)
