-- A possible record is one of possible parts, and the check of buffers asks for lengths alone.
use Rattle.std.specs.Prelude.{Option}
use Prim.Native.Nat.{ℕ, ◌≤◌}
use mathlib.Core.List.{List}
use mathlib.Core.Bool.{Bool, true, false, ◌&&◌}
use mathlib.Core.Logic.{◌↔◌}
use mathlib.Core.Path.{◌≡◌, refl}
use lib.ListN.{length}
use borrow.Author.Tests.{eq-eqb, le-leb}
use Rattle.bits.proofs.Tests.{by, clash, and_left, and_right}
use Rattle.line.specs.declared.receiver.Receiver.{Receiver}
use Rattle.line.specs.Line.{is_pause, paused_of, receiver_possible}
use Rattle.line.proofs.Laws.{paused_possible}
use Rattle.drive.specs.declared.Drive.{Drive}
use Rattle.drive.specs.Drive.{drive_possible}
use Rattle.position.specs.declared.Position.{Position}
use Rattle.position.specs.Position.{position_possible}
use Rattle.store.specs.Sheet.{Sheets, lengths_hold}
use Rattle.cells.specs.declared.settings.Settings.{Settings}
use Rattle.cells.specs.Settings.{settings_possible}
use Rattle.bidi.specs.declared.record.Bidi.{Bidi}
use Rattle.bidi.specs.Bidi.{bidi_possible}
use Rattle.board.specs.declared.record.Half.{Half}
use Rattle.board.specs.declared.record.Half.TheVariants.{NoHalf}
use Rattle.board.specs.declared.record.Module.{Module}
use Rattle.board.specs.Board.{half_possible, module_possible, buffers_hold, after_gap, with_receiver, with_half, with_drive, with_position, with_settings, with_bidi, with_states_on, without_half}

-- row 12, part by part
pub record Parts (m : Module) : Type 0 where
  pub heard : receiver_possible m.receiver ≡ true
  pub halved : half_possible m.half m.halfbyte ≡ true
  pub driven : drive_possible m.drive ≡ true
  pub set_up : settings_possible m.settings ≡ true
  pub queued_up : bidi_possible m.bidi ≡ true
  pub placed : position_possible m.position ≡ true

pub apart : (m : Module) → module_possible m ≡ true → Parts m
unfolding module_possible
apart m h =
    let r = receiver_possible m.receiver in
    let f = half_possible m.half m.halfbyte in
    let d = drive_possible m.drive in
    let s = settings_possible m.settings in
    let b = bidi_possible m.bidi in
    let p = position_possible m.position in
    let rfdsb : (r && f && d && s && b) ≡ true = and_left (r && f && d && s && b) p h in
    let rfds : (r && f && d && s) ≡ true = and_left (r && f && d && s) b rfdsb in
    let rfd : (r && f && d) ≡ true = and_left (r && f && d) s rfds in
    let rf : (r && f) ≡ true = and_left (r && f) d rfd in
    record { heard = and_left r f rf; halved = and_right r f rf; driven = and_right (r && f) d rfd; set_up = and_right (r && f && d) s rfds; queued_up = and_right (r && f && d && s) b rfdsb; placed = and_right (r && f && d && s && b) p h }

pub together : (m : Module) → Parts m → module_possible m ≡ true
unfolding module_possible
together m p = simp (p.heard, p.halved, p.driven, p.set_up, p.queued_up, p.placed)

-- the lengths that row 4 asks for are all that it asks for
pub buffers_hold_lem : (states store : List ℕ) (sheets : Sheets) (room : List ℕ) → length states ≡ 4096 → lengths_hold store sheets ≡ true → 84 ≤ length room → buffers_hold states store sheets room ≡ true
unfolding buffers_hold
buffers_hold_lem states store sheets room s l r = simp (eq-eqb (length states) 4096 s, l, le-leb 84 (length room) r)

-- EACH SETTER leaves a possible record possible, where the new part is
module _ (m : Module) (h : module_possible m ≡ true) where
  parts : Parts m
  parts = apart m h

  pub receiver_set : (r : Receiver) → receiver_possible r ≡ true → module_possible (with_receiver m r) ≡ true
  receiver_set r p =
      together _ (record { heard = p; halved = parts.halved; driven = parts.driven; set_up = parts.set_up; queued_up = parts.queued_up; placed = parts.placed })

  pub half_set_lem : (half : Half) (byte : ℕ) → half_possible half byte ≡ true → module_possible (with_half m half byte) ≡ true
  half_set_lem half byte p =
      together _ (record { heard = parts.heard; halved = p; driven = parts.driven; set_up = parts.set_up; queued_up = parts.queued_up; placed = parts.placed })

  pub drive_set : (d : Drive) → drive_possible d ≡ true → module_possible (with_drive m d) ≡ true
  drive_set d p =
      together _ (record { heard = parts.heard; halved = parts.halved; driven = p; set_up = parts.set_up; queued_up = parts.queued_up; placed = parts.placed })

  pub position_set : (q : Option Position) → position_possible q ≡ true → module_possible (with_position m q) ≡ true
  position_set q p =
      together _ (record { heard = parts.heard; halved = parts.halved; driven = parts.driven; set_up = parts.set_up; queued_up = parts.queued_up; placed = p })

  pub settings_set : (s : Settings) → settings_possible s ≡ true → module_possible (with_settings m s) ≡ true
  settings_set s p =
      together _ (record { heard = parts.heard; halved = parts.halved; driven = parts.driven; set_up = p; queued_up = parts.queued_up; placed = parts.placed })

  pub bidi_set : (b : Bidi) → bidi_possible b ≡ true → module_possible (with_bidi m b) ≡ true
  bidi_set b p =
      together _ (record { heard = parts.heard; halved = parts.halved; driven = parts.driven; set_up = parts.set_up; queued_up = p; placed = parts.placed })

  -- every number of states on is possible
  pub stateson_set_lem : (stateson : ℕ) → module_possible (with_states_on m stateson) ≡ true
  stateson_set_lem stateson =
      together _ (record { heard = parts.heard; halved = parts.halved; driven = parts.driven; set_up = parts.set_up; queued_up = parts.queued_up; placed = parts.placed })

  pub half_dropped : module_possible (without_half m) ≡ true
  unfolding half_possible
  half_dropped = half_set_lem NoHalf 0 refl

-- of a record that is possible with another receiver its own decides; and so of half and position
part_decides : (m : Module) (part : Bool) → (part ≡ true → module_possible m ≡ true) → (module_possible m ≡ true → part ≡ true)
    → (module_possible m ≡ false) ↔ (part ≡ false)
part_decides m part all its = (
  λ p. by part (λ r. clash (all r) p) (λ r. r),
  λ p. by (module_possible m) (λ q. clash (its q) p) (λ q. q),
)

pub receiver_decides : (m : Module) (other : Receiver) → module_possible (with_receiver m other) ≡ true
    → (module_possible m ≡ false) ↔ (receiver_possible m.receiver ≡ false)
receiver_decides m other h =
    part_decides m _ (λ p. receiver_set (with_receiver m other) h m.receiver p) (λ q. (apart m q).heard)

pub half_decides : (m : Module) → module_possible (without_half m) ≡ true
    → (module_possible m ≡ false) ↔ (half_possible m.half m.halfbyte ≡ false)
half_decides m h = part_decides m _ (λ p. half_set_lem (without_half m) h m.half m.halfbyte p) (λ q. (apart m q).halved)

pub position_decides : (m : Module) (other : Option Position) → module_possible (with_position m other) ≡ true
    → (module_possible m ≡ false) ↔ (position_possible m.position ≡ false)
position_decides m other h =
    part_decides m _ (λ p. position_set (with_position m other) h m.position p) (λ q. (apart m q).placed)

-- a pause, or none, leaves a possible record possible
pub gap_possible : (m : Module) (time : ℕ) → module_possible m ≡ true → m.receiver.last ≤ time → module_possible (after_gap m time) ≡ true
unfolding after_gap
gap_possible m time h l =
    let q = paused_possible m.receiver time (apart m h).heard l in
    by (is_pause m.receiver time) (λ e. rw e (receiver_set _ (half_dropped m h) _ q)) (λ e. rw e (receiver_set m h _ q))

-- and the receiver as after it
pub gap_receiver : (m : Module) (time : ℕ) → (after_gap m time).receiver ≡ paused_of m.receiver time
unfolding after_gap
gap_receiver m time = refl
