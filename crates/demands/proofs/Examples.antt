-- ALL ROWS of the table of examples hold of the definitions.
use mathlib.Core.List.{List, [], ◌∷◌, ◌++◌}
use Prim.Native.Nat.{ℕ, ◌+◌}
use mathlib.Core.Path.{◌≡◌, refl, sym, ◌∙◌, ap}
use native.Mathlib.Omega.{arith}
use lib.ListN.{length, replicate}
use Rattle.states.specs.States.{state_at}
use Rattle.states.proofs.Counted.{ones_of, all_255, on_by_bytes}
use Rattle.board.specs.declared.record.Module.{Module}
use Rattle.counts.specs.Counts.{Counts, shown_of, checked_as, checked_of, ShownPromise, CheckedPromise}
use Rattle.host.specs.ReadBank.{Cells, Reads}
use Rattle.host.proofs.ReaderLaws.{reads_cells}
use Rattle.bank.specs.Reply as K
use Rattle.crc.specs.Crc as C
use Rattle.demands.proofs.Opened.{opened}
use Rattle.demands.specs.Examples.{Example, AllHold, two_zeros, edge_rows, state_rows, write_rows, bank_rows, checksum_rows, call_rows, bench_rows, old_decoder_rows, pause_rows, position_rows, number_rows, fixed_rows, request_rows, table}

-- the reader's row: the reply is that of two cells of 0
two_cells : Reads two_zeros (replicate 40 7) (Cells 2) (0 ∷ 0 ∷ replicate 38 7)
unfolding K.pairs_of K.end_of K.body_of K.data_of K.checksum_of K.closed_by K.reply_of C.crc_bit C.crc_byte C.crc_from
two_cells = (reads_cells _ (replicate 40 7) (0 ∷ 0 ∷ [])).1 (omega arith, omega arith, refl)

edges_hold : AllHold edge_rows
unfolding opened
edges_hold = (refl, (refl, (refl, (refl, ((refl, refl, refl), ((refl, refl, refl), tt))))))

states_hold : AllHold state_rows
unfolding opened
states_hold = (refl, (refl, (refl, (refl, (refl, tt)))))

writes_hold : AllHold write_rows
unfolding opened
writes_hold = (refl, (refl, (refl, (refl, (refl, tt)))))

banks_hold : AllHold bank_rows
unfolding opened
banks_hold = (refl, (refl, (refl, (refl, (two_cells, (refl, tt))))))

checksums_hold : AllHold checksum_rows
unfolding opened
checksums_hold = (refl, (refl, (refl, (refl, (refl, (refl, tt))))))

calls_hold : AllHold call_rows
unfolding opened
calls_hold = (refl, (refl, (refl, (refl, (refl, tt)))))

bench_holds : AllHold bench_rows
unfolding opened
bench_holds = (refl, (refl, tt))

old_decoders_hold : AllHold old_decoder_rows
unfolding opened
old_decoders_hold =
    (refl, (refl, (refl, (refl, (refl, (refl, (refl, (refl, (refl, (refl, (refl, (refl, (refl, (refl, (refl, (refl, tt))))))))))))))))

pauses_hold : AllHold pause_rows
unfolding opened
pauses_hold =
    (refl, (refl, (refl, (refl, (refl, (refl, (refl, (refl, (refl, (refl, (refl, (refl, (refl, (refl, (refl, (refl, (refl, (refl, (refl, (refl, (refl, tt)))))))))))))))))))))

positions_hold : AllHold position_rows
unfolding opened
positions_hold =
    (refl, (refl, (refl, (refl, (refl, (refl, (refl, (refl, (refl, (refl, (refl, (refl, (refl, (refl, (refl, (refl, (refl, (refl, (refl, (refl, (refl, (refl, (refl, (refl, (refl, (refl, ((refl, refl), ((refl, refl), (refl, (refl, (refl, (refl, (refl, (refl, (refl, tt)))))))))))))))))))))))))))))))))))

-- the check entry's answer, by the ones of the states' bytes; an answer that no count is needed for; and that of the entry for a display
counted : (m : Module) (states : List ℕ) (given : Counts) (n : ℕ) → length states ≡ 4096 → ones_of states ≡ state_at states 0 + n
    → given ≡ checked_as m states n → CheckedPromise m states given
unfolding CheckedPromise
counted m states given n long sum is = is ∙ ap (checked_as m states) (sym (on_by_bytes states n long sum))

uncounted : (m : Module) (states : List ℕ) (given : Counts) → given ≡ checked_of m states → CheckedPromise m states given
unfolding CheckedPromise
uncounted m states given is = is

is_shown : (m : Module) (given : Counts) → given ≡ shown_of m → ShownPromise m given
unfolding ShownPromise
is_shown m given is = is

numbers_hold : AllHold number_rows
unfolding opened ones_of
numbers_hold =
    (refl, (refl, (refl, (refl, (refl, (refl, (refl, (refl, (refl, (refl, (refl, (refl, (refl, (refl, (refl, (refl, (refl, (refl, (refl, (refl, (refl, (refl, (refl, (refl, (refl, (refl, (refl, (refl, (refl, (refl, (refl, (refl, (refl, (refl, (refl, (refl, (refl, (counted _ _ _ 127 refl refl refl, (counted _ _ _ 1 refl refl refl, (counted _ _ _ 0 refl refl refl, (counted _ _ _ 0 refl refl refl, (counted _ _ _ 0 refl refl refl, (counted _ _ _ 1 refl refl refl, (counted _ _ _ 0 refl refl refl, (counted _ _ _ 0 refl refl refl, (counted _ _ _ 1 refl refl refl, (counted _ _ _ 1 refl refl refl, (counted _ _ _ 32767 refl (ap (λ (n : ℕ). 7 + n) (all_255 4095)) refl, (counted _ _ _ 32767 refl (all_255 4096) refl, (counted _ _ _ 32767 refl (all_255 4096) refl, (counted _ _ _ 32767 refl (all_255 4096) refl, (uncounted _ _ _ refl, (uncounted _ _ _ refl, (uncounted _ _ _ refl, (uncounted _ _ _ refl, (uncounted _ _ _ refl, (counted _ _ _ 0 refl refl refl, (is_shown _ _ refl, (is_shown _ _ refl, (is_shown _ _ refl, tt))))))))))))))))))))))))))))))))))))))))))))))))))))))))))))

-- rows that hold, and rows behind them
and_these : (rows more : List Example) → AllHold rows → AllHold more → AllHold (rows ++ more)
and_these [] more h k = k
and_these (r ∷ rows) more h k = (h.0, and_these rows more h.1 k)

fixed_hold : AllHold fixed_rows
unfolding opened
fixed_hold =
    (refl, (refl, (refl, (refl, (refl, (refl, (refl, (refl, (refl, (refl, (refl, (refl, (refl, (refl, (refl, (refl, (refl, (refl, (refl, (refl, (refl, (refl, (refl, (refl, (refl, (refl, (refl, (refl, (refl, (refl, (refl, (refl, (refl, (refl, (refl, (refl, (refl, (refl, (refl, (refl, tt))))))))))))))))))))))))))))))))))))))))

requests_hold : AllHold request_rows
requests_hold =
    and_these old_decoder_rows (pause_rows ++ (position_rows ++ (number_rows ++ fixed_rows))) old_decoders_hold
    (and_these pause_rows (position_rows ++ (number_rows ++ fixed_rows)) pauses_hold
    (and_these position_rows (number_rows ++ fixed_rows) positions_hold (and_these number_rows fixed_rows numbers_hold fixed_hold)))

-- ALL ROWS
pub all_rows : AllHold table
all_rows =
    and_these edge_rows (state_rows ++ (write_rows ++ (bank_rows ++ (checksum_rows ++ (call_rows ++ (bench_rows ++ request_rows)))))) edges_hold
    (and_these state_rows (write_rows ++ (bank_rows ++ (checksum_rows ++ (call_rows ++ (bench_rows ++ request_rows))))) states_hold
    (and_these write_rows (bank_rows ++ (checksum_rows ++ (call_rows ++ (bench_rows ++ request_rows)))) writes_hold
    (and_these bank_rows (checksum_rows ++ (call_rows ++ (bench_rows ++ request_rows))) banks_hold
    (and_these checksum_rows (call_rows ++ (bench_rows ++ request_rows)) checksums_hold
    (and_these call_rows (bench_rows ++ request_rows) calls_hold
    (and_these bench_rows request_rows bench_holds requests_hold))))))
