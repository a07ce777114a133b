-- DEMAND 2, from module to host: what is written for a bank is read back as that bank's leading cells. For any store and size
-- sheet that rows 4 and 5 let pass, any bank, any reply room, any room of the reader's of 40 bytes or more: whatever the reader
-- answers and leaves when it is given the reply's bytes, that is the count of leading readable cells and those cells, each as
-- it reads, and the next one is not readable.
use Prim.Native.Nat.{ℕ, ◌≤◌, ◌<◌}
use mathlib.Core.Bool.{true}
use mathlib.Core.List.{List}
use mathlib.Core.Path.{◌≡◌, ◌∙◌, ap}
use native.Mathlib.Omega.{arith}
use lib.ListN.{length, take}
use Rattle.bank.specs.Reply.{reply_of, at_front}
use Rattle.store.specs.Sheet.{Sheets, lengths_hold, sheets_hold, leading_of}
use Rattle.store.specs.Store.{bank_cells}
use Rattle.store.proofs.Sizes.{leading_at_most}
use Rattle.store.proofs.Reading.{bank_length, leading_reads, leading_ends}
use Rattle.host.specs.ReadBank.{BankRead, Cells, Reads}
use Rattle.host.proofs.ReaderLaws.{read_back}
use Rattle.demands.specs.Told.{ReadAsKept}

pub bank_read_back : (store : List ℕ) (sheets : Sheets) (bank : ℕ) → lengths_hold store sheets ≡ true → sheets_hold sheets ≡ true → bank < 256
    → (out room : List ℕ) (answer : BankRead) (after : List ℕ) → 40 ≤ length room
    → Reads (take (length (reply_of (bank_cells store sheets bank))) (at_front (reply_of (bank_cells store sheets bank)) out)) room answer after
    → ReadAsKept store sheets bank room answer after
bank_read_back store sheets bank l h b out room answer after wide r =
    let long = bank_length store sheets bank l h in
    let few : leading_of sheets.sizes bank ≤ 40 = leading_at_most sheets h bank in
    let back = read_back (bank_cells store sheets bank) out room answer after (omega arith) wide r in
    record {
      count = back.0 ∙ ap Cells long;
      cells = back.1;
      each = leading_reads store sheets bank;
      no_more = leading_ends store sheets bank;
    }
