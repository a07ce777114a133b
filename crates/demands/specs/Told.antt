-- WHAT DEMAND 2 SAYS of a command heard, a pair obeyed, a bank read back.
use Rattle.std.specs.Prelude.{ℕ, ◌+◌, ◌*◌, ◌≤◌, ◌<◌, Bool, List, [], ◌∷◌, ◌≡◌, length, get_or, Some, None}
use Rattle.line.specs.declared.receiver.Receiver.{Receiver}
use Rattle.line.specs.Line.{packet_of2, idle_at}
use Rattle.line.specs.Wire.{edges_of, hearing, levels_of, bytes_of, last_of}
use Rattle.command.specs.declared.Command.{Command}
use Rattle.command.specs.declared.Command.TheVariants.{BankRead}
use Rattle.command.specs.Meaning.{meaning_of}
use Rattle.command.specs.Pairs.{long_halves}
use Rattle.states.specs.States.{with_long}
use Rattle.store.specs.Sheet.{Sheets, leading_of}
use Rattle.store.specs.Store.{cell_of, bank_cells}
use Rattle.bank.specs.Reply.{reply_of, at_front}
use Rattle.host.specs.Encode.{encoded_of}
use Rattle.host.specs.ReadBank as R
use Rattle.host.specs.ReadBank.{Cells, ReadBankPromise}
use Rattle.board.specs.Board.{Board}
use Rattle.module.specs.Whole.{whole_of}
use Rattle.running.specs.Running.{ended, answering}
use Rattle.demands.specs.Sending.{recording_of, pair_sent, last_time, left_with, stateson_set, Sets, bank_asked, after_bank}

-- ON THE WIRE: the encoder's packet, clocked out into a receiver that holds nothing, is heard at its last edge, n edges having come
-- before, and means the command
pub record HeardAsSaid (c : Command) (r : Receiver) (n : ℕ) (ts : List ℕ) : Type 0 where
  pub heard : hearing r n (edges_of ts (levels_of (bytes_of (encoded_of c).packet)))
      ≡ record {
        receiver = idle_at (last_of r.last ts);
        packets = record { after = n + 8 * (encoded_of c).packet.length; packet = (encoded_of c).packet } ∷ [];
      }
  pub means : meaning_of (encoded_of c).packet ≡ Some c

-- PAIRS. Nothing is answered, and nothing but the states, and how many of them are on (C-05), is another: `left_with` is the board after it
pub record StateSet (b : Board) (sheets : Sheets) (n : ℕ) (low high : List ℕ) (number : ℕ) (on : Bool) : Type 0 where
  pub set : Sets b.states (with_long b.states number on) number on
  pub story : whole_of b sheets n (recording_of (pair_sent (long_halves number on) low high))
      ≡ ended (left_with b (last_time b low high) (stateson_set b.states number on) (with_long b.states number on)) (n + 32) 0

-- A BANK'S REPLY, READ. What was read: so many cells, in the first bytes of the room; they are the bank's own, and there are no more
pub record ReadAsKept (store : List ℕ) (sheets : Sheets) (bank : ℕ) (room : List ℕ) (answer : R.BankRead) (after : List ℕ) : Type 0 where
  pub count : answer ≡ Cells (leading_of sheets.sizes bank)
  pub cells : after ≡ at_front (bank_cells store sheets bank) room
  pub each : (i : ℕ) → i < leading_of sheets.sizes bank → cell_of store sheets bank i ≡ Some (get_or (bank_cells store sheets bank) i 0)
  pub no_more : cell_of store sheets bank (leading_of sheets.sizes bank) ≡ None

-- A BANK ASKED FOR. A read of a bank, none of its edges but the first a pause, is 0x0C, 0x0D, 0x0E with the bank; it is answered at its
-- last edge; and whatever the reader answers and leaves when it is given the reply, that is the count of the bank's leading cells and
-- those cells
pub record BankTold (b : Board) (sheets : Sheets) (n number bank : ℕ) (times : List ℕ) : Type 0 where
  pub packet : (encoded_of (BankRead number bank)).packet ≡ packet_of2 (0x0B + number) bank
  pub story : whole_of b sheets n (recording_of (bank_asked number bank times))
      ≡ answering (n + 16) (reply_of (bank_cells b.store sheets bank)) (after_bank b n times)
  pub read : (room : List ℕ) (answer : R.BankRead) (after : List ℕ) → 40 ≤ length room
      → ReadBankPromise (reply_of (bank_cells b.store sheets bank)) room answer after
      → ReadAsKept b.store sheets bank room answer after
