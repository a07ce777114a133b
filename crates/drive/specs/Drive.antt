-- What a locomotive is told, command by command, and what a restart leaves of it. Each definition is
-- the whole record: a field that a command does not speak of stays as it was.
use Rattle.std.specs.Prelude.{ℕ, ◌+◌, ◌*◌, ◌^◌, Bool, cond, ◌&&◌, ltb, leb, eqb}
use Rattle.bits.specs.Bits.{bit_at, with_part}
use Rattle.ones.specs.Ones.{ones_among}
use Rattle.drive.specs.declared.Drive.{Drive}

-- a restart zeroes functions, speeds, load and address, and sets the control bits to 1
abbrev pub restarted : Drive
restarted = record { actual = 0; wanted = 0; load = 0; address = 0; functions = 0; control = 3 }

-- 0x24, 0x25: actual, wanted speed: stored whole, bit 7 is forward
abbrev pub with_actual : Drive → ℕ → Drive
with_actual d speed =
    record { actual = speed; wanted = d.wanted; load = d.load; address = d.address; functions = d.functions; control = d.control }

abbrev pub with_wanted : Drive → ℕ → Drive
with_wanted d speed =
    record { actual = d.actual; wanted = speed; load = d.load; address = d.address; functions = d.functions; control = d.control }

-- 0x26: load 0..127
abbrev pub with_load : Drive → ℕ → Drive
with_load d load =
    record { actual = d.actual; wanted = d.wanted; load = load; address = d.address; functions = d.functions; control = d.control }

-- 0x5E, 0x5F: address low, high half
abbrev pub with_address : Drive → ℕ → ℕ → Drive
with_address d low high =
    record {
      actual = d.actual;
      wanted = d.wanted;
      load = d.load;
      address = 256 * high + low;
      functions = d.functions;
      control = d.control;
    }

-- Fn is bit n of the functions: 1 is on
abbrev pub function_at : Drive → ℕ → ℕ
function_at d n = bit_at d.functions n

-- 0x60 to 0x63: `width` functions from F`first` on get the bits of `on`, the lowest in bit 0
abbrev pub with_functions : Drive → ℕ → ℕ → ℕ → Drive
with_functions d first width on =
    record {
      actual = d.actual;
      wanted = d.wanted;
      load = d.load;
      address = d.address;
      functions = with_part d.functions first width on;
      control = d.control;
    }

-- 0x6C: bit 0 buffer, bit 1 clear: F0..F28 off; both bits stored
unfoldable pub with_control : Drive → ℕ → Drive
with_control d control =
    record {
      actual = d.actual;
      wanted = d.wanted;
      load = d.load;
      address = d.address;
      functions = cond (eqb (bit_at control 1) 0) 0 d.functions;
      control = control;
    }

-- not refused by 12: no load over 127, no function bit above F28's, no control bit above bit 1
unfoldable pub drive_possible : Drive → Bool
drive_possible d = leb d.load 127 && ltb d.functions (2 ^ 29) && leb d.control 3

-- C-05: "how many of F0 to F28 are on"
unfoldable pub functions_on : Drive → ℕ
functions_on d = ones_among (function_at d) 0 29
