-- `set`: the record with one of its fields another number.
use Rattle.std.specs.Prelude.{ℕ, ◌%◌, Bool, cond, eqb, set}
use Rattle.line.specs.declared.receiver.Receiver.{Receiver}
use Rattle.drive.specs.declared.Drive.{Drive}
use Rattle.cells.specs.declared.settings.Settings.{Settings}
use Rattle.bidi.specs.declared.record.Bidi.{Bidi}
use Rattle.board.specs.declared.record.Half.{Half}
use Rattle.board.specs.declared.record.Module.{Module}
use Rattle.board.specs.Board.{with_half, with_bidi}
use Rattle.scenario.specs.declared.grammar.Field.{Field}
use Rattle.scenario.specs.declared.grammar.Field.TheVariants as field

-- a number for each field that holds one
unfoldable pub field_number : Field → ℕ
field_number field.Last = 0
field_number field.Bits = 1
field_number field.Count = 2
field_number field.First = 3
field_number field.Second = 4
field_number field.Held = 5
field_number field.Halfbyte = 6
field_number field.Actual = 7
field_number field.Wanted = 8
field_number field.Load = 9
field_number field.Address = 10
field_number field.Functions = 11
field_number field.Control = 12
field_number field.Number = 13
field_number field.Wait = 14
field_number field.Bank = 15
field_number field.Status0 = 16
field_number field.Status1 = 17
field_number field.Registered = 18
field_number field.Queued = 19
field_number field.Start = 20
field_number field.Started = 21
field_number field.Stateson = 22

-- the value goes into the field that is named, as many of its bits as there is room for; every other keeps what it has
unfoldable pub chosen : Bool → ℕ → ℕ → ℕ
chosen named new old = cond named new old

unfoldable pub byte_if : Bool → ℕ → ℕ → ℕ
byte_if named value old = chosen named (value % 256) old

unfoldable pub flag_if : Bool → ℕ → Bool → Bool
flag_if named value old = cond named (eqb value 1) old

unfoldable pub receiver_with : Receiver → ℕ → ℕ → Receiver
receiver_with r n v =
    record {
      last = chosen (eqb n 0) v r.last;
      start = chosen (eqb n 20) v r.start;
      started = byte_if (eqb n 21) v r.started;
      bits = byte_if (eqb n 1) v r.bits;
      count = byte_if (eqb n 2) v r.count;
      first = byte_if (eqb n 3) v r.first;
      second = byte_if (eqb n 4) v r.second;
      held = byte_if (eqb n 5) v r.held;
    }

unfoldable pub drive_with : Drive → ℕ → ℕ → Drive
drive_with d n v =
    record {
      actual = byte_if (eqb n 7) v d.actual;
      wanted = byte_if (eqb n 8) v d.wanted;
      load = byte_if (eqb n 9) v d.load;
      address = chosen (eqb n 10) (v % 65536) d.address;
      functions = chosen (eqb n 11) (v % 4294967296) d.functions;
      control = byte_if (eqb n 12) v d.control;
    }

unfoldable pub settings_with : Settings → ℕ → ℕ → Settings
settings_with s n v =
    record {
      number = byte_if (eqb n 13) v s.number;
      wait = byte_if (eqb n 14) v s.wait;
      bank = byte_if (eqb n 15) v s.bank;
    }

unfoldable pub bidi_with : Bidi → ℕ → ℕ → Bidi
bidi_with b n v =
    record {
      status0 = byte_if (eqb n 16) v b.status0;
      status1 = byte_if (eqb n 17) v b.status1;
      registered = flag_if (eqb n 18) v b.registered;
      queued = byte_if (eqb n 19) v b.queued;
      queue = b.queue;
    }

-- `set FIELD VALUE`
unfoldable pub field_set : Module → ℕ → ℕ → Module
field_set m n v =
    record {
      receiver = receiver_with m.receiver n v;
      half = m.half;
      halfbyte = byte_if (eqb n 6) v m.halfbyte;
      drive = drive_with m.drive n v;
      settings = settings_with m.settings n v;
      bidi = bidi_with m.bidi n v;
      position = m.position;
      stateson = chosen (eqb n 22) (v % 65536) m.stateson;
    }

-- `set half WHICH`: its byte stays
abbrev pub half_set : Module → Half → Module
half_set m half = with_half m half m.halfbyte

-- `set queue PLACE VALUE`
abbrev pub queue_set : Bidi → ℕ → ℕ → Bidi
queue_set b place v =
    record {
      status0 = b.status0;
      status1 = b.status1;
      registered = b.registered;
      queued = b.queued;
      queue = set b.queue (place % 32) v;
    }

abbrev pub place_set : Module → ℕ → ℕ → Module
place_set m place v = with_bidi m (queue_set m.bidi place v)
