-- WHAT THE TABLES COMPUTE WITH: the definitions that rows of examples, of wrong outcomes and the imposters open, as one.
use Prim.Native.Nat.{ℕ}
use Rattle.bits.specs.Bits as Bits
use Rattle.running.specs.Running as Running
use Rattle.ones.specs.Ones as Ones
use Rattle.text.specs.Text as Text
use Rattle.crc.specs.Crc as Crc
use Rattle.line.specs.Line as Line
use Rattle.line.specs.Wire as Wire
use Rattle.command.specs.Meaning as Meaning
use Rattle.command.specs.Pairs as Pairs
use Rattle.command.specs.Saying as Saying
use Rattle.drive.specs.Drive as Drive
use Rattle.position.specs.Position as Position
use Rattle.states.specs.States as States
use Rattle.store.specs.Sheet as Sheet
use Rattle.store.specs.Store as Store
use Rattle.view.specs.View as View
use Rattle.cells.specs.Roles as Roles
use Rattle.cells.specs.Settings as Settings
use Rattle.bank.specs.Reply as Reply
use Rattle.slots.specs.Slots as Slots
use Rattle.bidi.specs.Bidi as Bidi
use Rattle.bidi.specs.Messages as Messages
use Rattle.bidi.specs.Read as Read
use Rattle.board.specs.Board as Board
use Rattle.counts.specs.Counts as Counts
use Rattle.reactions.specs.Reactions as Reactions
use Rattle.effects.specs.Effects as Effects
use Rattle.module.specs.Application as Application
use Rattle.module.specs.Edge as Edge
use Rattle.module.specs.Feed as Feed
use Rattle.host.specs.Encode as Encode
use Rattle.lines.specs.Lines as Lines
use Rattle.lines.specs.Taken as Taken
use Rattle.firmware.specs.InPlace as InPlace
use Rattle.demands.specs.Pieces as Pieces

unfoldable pub opened : ℕ
unfolding
    Bits.part_of Bits.with_part
    Running.answering_if Running.whole_of Running.call_of Running.story_at
    Ones.ones_among
    Text.digit_of
    Crc.crc_bit Crc.crc_byte Crc.crc_from
    Line.packet_length Line.clock_runs Line.start_for Line.late Line.is_pause Line.paused_of Line.byte_of Line.bit_of Line.bits_possible
    Line.bytes_possible Line.clock_possible Line.receiver_possible Line.edge_refusal Line.step_of Line.answer_of
    Wire.edges_of Wire.bits_from Wire.levels_of Wire.whole Wire.packet_of Wire.spelled
    Meaning.is_packet Meaning.load_of Meaning.functions_of Meaning.call_said Meaning.cv_of Meaning.of_cv Meaning.bit_form
    Meaning.position_high_of Meaning.said_by Meaning.meaning_of
    Pairs.long_halves Pairs.long_pair Pairs.address_halves
    Saying.state_byte Saying.has_room Saying.packet_saying Saying.room_for_byte Saying.between Saying.cv_byte
    Drive.with_control Drive.drive_possible Drive.functions_on
    Position.position_of Position.position_possible
    States.with_state States.all_of States.with_all States.with_states States.cleared States.moved_by States.stateson_short States.stateson_long
    Sheet.size_of Sheet.readable Sheet.writable Sheet.leading_of Sheet.store_long Sheet.sizes_long Sheet.fixed_long Sheet.version_holds Sheet.lengths_hold Sheet.sheets_hold Sheet.sizes_hold
    Sheet.size_holds
    Store.cell_place Store.held_at Store.with_cell Store.cell_of Store.used_cells Store.bank_cells
    View.view_refusal View.view_of View.ViewRefusalPromise View.ViewPromise
    Roles.owns Roles.offset_of Roles.common Roles.common_role Roles.role_of Roles.role_takes Roles.may_write
    Settings.settings_possible Settings.effective_number Settings.role_reads Settings.read_of Settings.own_cell_of Settings.is_byte
    Settings.verify_byte_of Settings.settings_after Settings.store_after Settings.write_byte_of Settings.has_bit Settings.verify_bit_of
    Settings.bit_written Settings.write_bit_of Settings.with_wait
    Reply.pairs_of Reply.end_of Reply.body_of Reply.data_of Reply.checksum_of Reply.closed_by Reply.reply_of
    Slots.all_zero Slots.joined_by Slots.oldest Slots.after_oldest Bidi.bidi_possible Bidi.posted_to Bidi.forced_reply Bidi.unforced
    Bidi.called_of Bidi.with_status
    Messages.half_legal Messages.message_legal Messages.status_legal Messages.signal_legal Messages.function_legal Messages.kind_legal
    Messages.dcc_legal Messages.position_legal
    Read.answers Read.cell_half Read.own_half Read.reply_to Read.read_cv_of
    Board.after_gap Board.half_possible Board.module_possible Board.kind_of Board.holds_half Board.buffers_hold Board.first_broken
    Board.board_refusal Board.restarted_of
    Counts.shown_of Counts.check_refusal Counts.checked_as
    Reactions.second_half Reactions.bytes_if Reactions.bank_answers
    Effects.effect_of Effects.meaning_effect Effects.packet_effect
    Application.post_of Application.status_of Application.wait_of Application.restart_of
    Edge.heard_effect Edge.edge_effect
    Feed.tells_at Feed.run_of Feed.feed_by Feed.FeedPromise
    Encode.encoded_of
    Lines.spaced Lines.answer_line Lines.command_lines Lines.bench_text Lines.line_of
    Taken.lined Taken.taken_of Taken.write_of
    InPlace.in_place_of
    Pieces.answer_says
opened = 0
