-- BEFORE C-13: bank 254 in the store, 11 by rule, and no fixed sheet. What reads cells is said here as it was said then, so that "The answers
-- on the line stay the same" has something to be the same as (FixedBank.antt). A name that ends in `Was` is such a definition; what they use
-- beside them says what it said then (some of it takes the size sheet now where it took `Sheets`). `sizes` is the size sheet.
use Rattle.std.specs.Prelude.{ℕ, ◌+◌, ◌*◌, List, [], ◌∷◌, ◌++◌, cond, ◌&&◌, not, leb, eqb, length, get_or, set, take, drop, Option, Some, None}
use Rattle.bits.specs.Bits.{with_bit}
use Rattle.running.specs.Running as R
use Rattle.line.specs.Line.{Heard}
use Rattle.line.specs.Wire.{Edge, edges_of}
use Rattle.command.specs.declared.Command.{Command}
use Rattle.command.specs.declared.Command.TheVariants as C
use Rattle.command.specs.Meaning.{meaning_of}
use Rattle.states.specs.States as S
use Rattle.store.specs.Sheet.{sheets_of, sizes_hold, size_of, readable, leading_of}
use Rattle.cells.specs.declared.role.Role.{Role}
use Rattle.cells.specs.declared.role.Role.TheVariants.{Number, Wait, Bank, Zero, Own, NotHere}
use Rattle.cells.specs.declared.settings.Settings.{Settings}
use Rattle.cells.specs.Roles.{owns, offset_of, role_of, may_write}
use Rattle.cells.specs.Settings.{effective_number, is_byte, has_bit, AfterWrite, done, not_done, settings_after}
use Rattle.bank.specs.Reply.{reply_of, at_front}
use Rattle.bidi.specs.Read.{ShortReply, answers, own_half, replying, no_reply}
use Rattle.board.specs.Board.{Board, module_possible, after_gap, refusal_row, first_broken}
use Rattle.reactions.specs.Reactions.{Effect, silently, with_kept, receiving, halfless, no_effect, verify_effect, write_effect, replying_with}
use Rattle.effects.specs.Effects.{effect_of}
use Rattle.module.specs.Feed.{Refused, FeedOutcome, ending, tells}
use Rattle.module.specs.Edge.{heard_at}
use Rattle.module.specs.Whole.{rule_by, Story}
use Rattle.lines.specs.Taken.{Refused as Untaken, BitsHeld, NoRoomForText, Taken, heard_of, lined, AfterBlock, long_enough, wrote, untaken}

-- "In bank 254 offset 0 isn't readable and offset 1 is 11 (SUSI version), whatever the store holds."
unfoldable pub cell_was : List ℕ → List ℕ → ℕ → ℕ → Option ℕ
cell_was store sizes bank offset =
    cond (readable sizes bank offset) (Some (cond (eqb bank 254) 11 (get_or store (bank * 40 + offset) 0))) None

-- the leading readable cells of a bank, side by side in the store
unfoldable pub bank_was : List ℕ → List ℕ → ℕ → List ℕ
bank_was store sizes bank = take (leading_of sizes bank) (drop (bank * 40) store)

-- the byte that a CV read as, by what it is to the module
unfoldable pub role_was : Settings → Role → List ℕ → List ℕ → Option ℕ
role_was s Number store sizes = Some s.number
role_was s Wait store sizes = Some s.wait
role_was s Bank store sizes = Some s.bank
role_was s Zero store sizes = Some 0
role_was s (Own offset) store sizes = cell_was store sizes s.bank offset
role_was s NotHere store sizes = None

abbrev pub read_was : Settings → ℕ → List ℕ → List ℕ → Option ℕ
read_was s cv store sizes = role_was s (role_of (effective_number s) cv) store sizes

-- 0x0F
unfoldable pub own_was : Settings → ℕ → List ℕ → List ℕ → Option (Option ℕ)
own_was s cv store sizes =
    cond (owns (effective_number s) cv) (Some (cell_was store sizes s.bank (offset_of (effective_number s) cv))) None

unfoldable pub reply_was : Settings → ℕ → List ℕ → List ℕ → ShortReply
reply_was s cv store sizes =
    cond (answers s cv) (replying (own_half (own_was s cv store sizes) ++ own_half (own_was s (cv + 1) store sizes))) no_reply

-- a byte that is taken goes into an own cell of the selected bank, in the store, or into the settings
unfoldable pub store_was : Role → ℕ → ℕ → List ℕ → List ℕ
store_was Number bank value store = store
store_was Wait bank value store = store
store_was Bank bank value store = store
store_was Zero bank value store = store
store_was (Own offset) bank value store = set store (bank * 40 + offset) value
store_was NotHere bank value store = store

unfoldable pub write_byte_was : Settings → ℕ → ℕ → List ℕ → List ℕ → AfterWrite
write_byte_was s cv value store sizes =
    let role = role_of (effective_number s) cv in
    cond (may_write cv value (effective_number s) s.bank sizes) (done (settings_after s role value) (store_was role s.bank value store))
    (not_done s store)

unfoldable pub write_bit_was : Option ℕ → Settings → ℕ → ℕ → ℕ → List ℕ → List ℕ → AfterWrite
write_bit_was (Some byte) s cv place value store sizes = write_byte_was s cv (with_bit byte place value) store sizes
write_bit_was None s cv place value store sizes = not_done s store

-- 0x0C to 0x0E
abbrev pub bank_effect_was : Board → List ℕ → ℕ → ℕ → Effect
bank_effect_was b sizes number bank =
    replying_with (eqb number (effective_number b.kept.settings) && not (eqb (size_of sizes bank) 0))
    (reply_of (bank_was b.store sizes bank)) (halfless b)

abbrev pub cv_effect_was : Board → List ℕ → ℕ → Effect
cv_effect_was b sizes cv =
    let r = reply_was b.kept.settings cv b.store sizes in
    replying_with r.acknowledged r.reply (halfless b)

-- a command that touches no cell: as now
abbrev as_now : Board → List ℕ → Command → Effect
as_now b sizes c = effect_of b (sheets_of sizes []) c

-- the six commands that read or write cells, and all others
unfoldable pub effect_was : Board → List ℕ → Command → Effect
effect_was b sizes (C.WriteByte cv value) = write_effect b (write_byte_was b.kept.settings cv value b.store sizes)
effect_was b sizes (C.VerifyByte cv value) = verify_effect b (is_byte (read_was b.kept.settings cv b.store sizes) value)
effect_was b sizes (C.VerifyBit cv place value) = verify_effect b (has_bit (read_was b.kept.settings cv b.store sizes) place value)
effect_was b sizes (C.WriteBit cv place value) =
    write_effect b (write_bit_was (read_was b.kept.settings cv b.store sizes) b.kept.settings cv place value b.store sizes)
effect_was b sizes (C.BankRead number bank) = bank_effect_was b sizes number bank
effect_was b sizes (C.ReadCv cv) = cv_effect_was b sizes cv
effect_was b sizes C.NoOperation = as_now b sizes C.NoOperation
effect_was b sizes (C.ActualSpeed speed) = as_now b sizes (C.ActualSpeed speed)
effect_was b sizes (C.WantedSpeed speed) = as_now b sizes (C.WantedSpeed speed)
effect_was b sizes (C.Load load) = as_now b sizes (C.Load load)
effect_was b sizes (C.AddressLow byte) = as_now b sizes (C.AddressLow byte)
effect_was b sizes (C.AddressHigh byte) = as_now b sizes (C.AddressHigh byte)
effect_was b sizes (C.FunctionsFrom0 on) = as_now b sizes (C.FunctionsFrom0 on)
effect_was b sizes (C.FunctionsFrom5 on) = as_now b sizes (C.FunctionsFrom5 on)
effect_was b sizes (C.FunctionsFrom13 on) = as_now b sizes (C.FunctionsFrom13 on)
effect_was b sizes (C.FunctionsFrom21 on) = as_now b sizes (C.FunctionsFrom21 on)
effect_was b sizes (C.Control control) = as_now b sizes (C.Control control)
effect_was b sizes (C.ShortState number on) = as_now b sizes (C.ShortState number on)
effect_was b sizes (C.LongLow low on) = as_now b sizes (C.LongLow low on)
effect_was b sizes (C.LongHigh high) = as_now b sizes (C.LongHigh high)
effect_was b sizes (C.Call number forced status) = as_now b sizes (C.Call number forced status)
effect_was b sizes (C.PositionHigh high) = as_now b sizes (C.PositionHigh high)
effect_was b sizes (C.PositionLow low) = as_now b sizes (C.PositionLow low)

unfoldable pub meaning_was : Board → List ℕ → Option Command → Effect
meaning_was b sizes (Some command) = effect_was b sizes command
meaning_was b sizes None = no_effect b

-- a bit or a byte was heard: no packet is complete, or one is, and had its effect
unfoldable pub heard_was : Board → List ℕ → Heard → Effect
heard_was b sizes h =
    cond (eqb h.packet.length 0) (silently (receiving b h.receiver)) (meaning_was (receiving b h.receiver) sizes (meaning_of h.packet))

-- a good edge
abbrev pub edge_was : Board → List ℕ → Edge → Effect
edge_was b sizes e = heard_was (with_kept b (after_gap b.kept e.time)) sizes (heard_at b e)

abbrev pub rule_was : List ℕ → R.Rule Board Edge (List ℕ)
rule_was sizes = rule_by (λ b e. edge_was b sizes e)

-- a whole recording, n edges being taken before
abbrev pub whole_was : Board → List ℕ → ℕ → List Edge → Story
whole_was b sizes n es = R.whole_of (rule_was sizes) b n es

-- the rows 12, 4, 5
unfoldable pub refusal_was : Board → List ℕ → List ℕ → ℕ
refusal_was b sizes room =
    first_broken
    (refusal_row 12 (module_possible b.kept)
    ∷ refusal_row 4 (S.length_holds b.states && (eqb (length b.store) 10240 && eqb (length sizes) 256) && leb 84 (length room))
    ∷ refusal_row 5 (sizes_hold 0 sizes) ∷ [])

-- a call of the feed
unfoldable pub feed_was : Board → List ℕ → List ℕ → List ℕ → List ℕ → FeedOutcome
feed_was b sizes room times levels =
    cond (eqb (refusal_was b sizes room) 0)
    (cond (eqb (length times) (length levels)) (tells room (R.call_of (rule_was sizes) b 0 (edges_of times levels))) (ending b room (Refused 1)))
    (ending b room (Refused (refusal_was b sizes room)))

-- the bench's bytes, and a call of `write`
unfoldable pub taken_was : Board → List ℕ → List ℕ → List ℕ → Taken
taken_was b sizes room [] = record { board = b; room = room; text = [] }
taken_was b sizes room (byte ∷ bytes) =
    let e = heard_was b sizes (heard_of b byte) in
    lined (heard_of b byte).packet e (taken_was e.board sizes (at_front e.reply room) bytes)

unfoldable pub write_was : Board → List ℕ → List ℕ → List ℕ → List ℕ → AfterBlock
write_was b sizes room out input =
    cond (eqb (refusal_was b sizes room) 0)
    (cond (eqb b.kept.receiver.count 0)
    (cond (long_enough input out) (wrote (taken_was b sizes room input) out) (untaken b room out NoRoomForText))
    (untaken b room out BitsHeld))
    (untaken b room out (Untaken (refusal_was b sizes room)))
