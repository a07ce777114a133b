-- BYTES IN ANY BLOCKS WRITE THE BENCH'S TEXT: the bench's board, whose buffers are right, is given back such that no call in
-- turn is refused, and the texts of the calls are, together, the bench's text of all bytes.
use Prim.Native.Nat.{ℕ, zero, suc, ◌+◌, ◌*◌, ◌≤◌}
use mathlib.Core.Bool.{true}
use mathlib.Core.List.{List, [], ◌∷◌, ◌++◌, flatten}
use mathlib.Core.Path.{◌≡◌, refl, sym, ◌∙◌, ap}
use native.Mathlib.Omega.{arith}
use lib.Dec.{eqb}
use lib.ListN.{length, length-append}
use borrow.Author.Tests.{eqb-true, eqb-false, eq-eqb, le-leb}
use Rattle.bits.specs.Bits.{Bytes}
use Rattle.bits.proofs.Tests.{by}
use Rattle.line.specs.declared.receiver.Receiver.{Receiver}
use Rattle.line.specs.Line.{packet_length, byte_of, bits_possible, bytes_possible, clock_possible, clock_runs, receiver_possible}
use Rattle.line.proofs.Laws.{bits_part, byte_possible}
use Rattle.drive.specs.Drive.{drive_possible}
use Rattle.position.specs.Position.{position_possible}
use Rattle.store.specs.Sheet.{Sheets, store_long, sizes_long, fixed_long, version_holds, zero_store, lengths_hold, size_holds, sizes_hold, sheets_hold}
use Rattle.bidi.specs.Bidi as D
use Rattle.bidi.specs.Messages as M
use Rattle.cells.specs.Settings as S
use Rattle.bits.specs.Bits as N
use Rattle.slots.specs.Slots
use Rattle.bank.specs.Reply.{at_front}
use Rattle.bank.proofs.Lists.{front_length}
use Rattle.board.specs.Board.{Board, half_possible, module_possible, first_broken, board_refusal}
use Rattle.board.proofs.Parts.{apart, receiver_set, buffers_hold_lem}
use Rattle.effects.specs.Effects.{packet_effect}
use Rattle.reactions.specs.Reactions.{receiving}
use Rattle.board.proofs.Checked.{Right}
use Rattle.effects.proofs.Possible.{packet_right_replied, packet_reply_short}
use Rattle.module.specs.Bench.{zeros, bench, bench_sheets}
use Rattle.module.proofs.Edges.{byte_last}
use Rattle.module.proofs.Stops.{reply_stands}
use Rattle.lines.specs.Blocks.{Blocks, calls_of}
use Rattle.lines.specs.Lines.{line_of, bench_text}
use Rattle.lines.specs.Taken.{Taken, taken_of, wrote, write_of}
use Rattle.lines.proofs.Spaced.{line_length}
use Rattle.lines.proofs.Steps.{held_on, spoken}
use Rattle.lines.proofs.Text.{text_is_bench, text_joined}
use Rattle.lines.proofs.Writing.{held_few, one_held, none_held}

-- ---- Bytes leave a right board, without bits, and a text that fits.

pub record Ready (b : Board) (sheets : Sheets) (room : List ℕ) : Type 0 where
  pub right_board : Right b sheets room
  pub no_bits : b.kept.receiver.count ≡ 0

same_count : (r : Receiver) (byte : ℕ) → (byte_of r byte).receiver.count ≡ r.count
unfolding byte_of
same_count r byte =
    by (eqb r.held 0) (λ z. rw z)
    (λ z. by (eqb r.held 1) (λ o. by (eqb (packet_length r.first) 3) (λ l. simp (z, o, l)) (λ l. simp (z, o, l))) (λ o. simp (z, o)))

-- a right board with another possible receiver that holds no bits
readied : (b : Board) (sheets : Sheets) (room : List ℕ) → Right b sheets room → (r : Receiver) → receiver_possible r ≡ true → r.count ≡ 0
    → Ready (receiving b r) sheets room
readied b sheets room right_board r p n =
    record {
      right_board = record { possible = receiver_set b.kept right_board.possible r p; buffers = right_board.buffers; sheeted = right_board.sheeted };
      no_bits = n;
    }

pub record KeptReady (b : Board) (sheets : Sheets) (t : Taken) (bytes : List ℕ) : Type 0 where
  pub ready : Ready t.board sheets t.room
  pub fits : length t.text ≤ 128 * (length bytes + b.kept.receiver.held)

pub taken_ready : (bytes : List ℕ) (b : Board) (sheets : Sheets) (room : List ℕ) → Ready b sheets room → Bytes bytes → KeptReady b sheets (taken_of b sheets room bytes) bytes
unfolding taken_of
taken_ready [] b sheets room g small = record { ready = g; fits = omega arith }
taken_ready (x ∷ bytes) b sheets room g small =
    let r = b.kept.receiver in
    let s = byte_of r x in
    let p : receiver_possible s.receiver ≡ true = byte_possible r x (bits_part r (apart b.kept g.right_board.possible).heard) in
    let n : s.receiver.count ≡ 0 = same_count r x ∙ g.no_bits in
    by (eqb s.packet.length 0)
    (λ e. let z = eqb-true _ _ e in
    let k = taken_ready bytes (receiving b s.receiver) sheets room (readied b sheets room g.right_board s.receiver p n) (λ i. small (suc i)) in
    rw (held_on b r sheets room x bytes s refl z) (record { ready = k.ready; fits = omega (arith, k.fits, one_held r x z) }))
    (λ e. let z = eqb-false _ _ e in
    let f = packet_effect b sheets s.packet in
    let last = byte_last r x (small 0) in
    let a = packet_right_replied b sheets room s.packet last g.right_board in
    let k = taken_ready bytes (receiving f.board s.receiver) sheets (at_front f.reply room) (readied f.board sheets (at_front f.reply room) a s.receiver p n) (λ i. small (suc i)) in
    let l = line_length f.acknowledged f.reply (packet_reply_short b sheets room s.packet last g.right_board) in
    rw (spoken b r sheets room x bytes s refl z)
    (record { ready = k.ready; fits = rw (length-append (line_of f.acknowledged f.reply)) (omega (arith, k.fits, l, (none_held r x z).0, (none_held r x z).1)) }))

-- ---- Calls in turn.

bytes_both : (xs ys : List ℕ) → Bytes xs → Bytes ys → Bytes (xs ++ ys)
bytes_both [] ys a b i = b i
bytes_both (x ∷ xs) ys a b zero = a 0
bytes_both (x ∷ xs) ys a b (suc i) = bytes_both xs ys (λ j. a (suc j)) b i

all_bytes : (n : ℕ) (blocks : List (List ℕ)) → Blocks n blocks → Bytes (flatten blocks)
unfolding flatten
all_bytes n [] u i = omega arith
all_bytes n (block ∷ blocks) u i = bytes_both block (flatten blocks) u.0 (all_bytes n blocks u.2) i

written : (b : Board) (sheets : Sheets) (room out block : List ℕ) → Ready b sheets room → 128 * (length block + 2) ≤ length out
    → write_of b sheets room out block ≡ wrote (taken_of b sheets room block) out
unfolding write_of board_refusal first_broken
written b sheets room out block g h =
    simp (g.right_board.possible, g.right_board.buffers, g.right_board.sheeted, eq-eqb _ _ g.no_bits, le-leb _ _ h)

calls_text : (blocks : List (List ℕ)) (b : Board) (sheets : Sheets) (room out : List ℕ) → Ready b sheets room → Blocks (length out) blocks
    → calls_of b sheets room out blocks ≡ (taken_of b sheets room (flatten blocks)).text
unfolding calls_of flatten taken_of
calls_text [] b sheets room out g u = refl
calls_text (block ∷ blocks) b sheets room out g u =
    let t = taken_of b sheets room block in
    let k = taken_ready block b sheets room g u.0 in
    let few = held_few b.kept.receiver (apart b.kept g.right_board.possible).heard in
    let same : length (at_front t.text out) ≡ length out = front_length t.text out (omega (arith, k.fits, few, u.1)) in
    rw (written b sheets room out block g u.1, reply_stands t.text out)
    (ap (λ (rest : List ℕ). t.text ++ rest) (calls_text blocks t.board sheets t.room (at_front t.text out) k.ready (rw same u.2))
    ∙ sym (ap (λ (x : Taken). x.text) (text_joined block (flatten blocks) b sheets room)))

-- ---- The bench.

bench_ready : (room : List ℕ) → 84 ≤ length room → Ready bench bench_sheets room
unfolding module_possible receiver_possible bits_possible bytes_possible clock_possible clock_runs half_possible drive_possible position_possible S.settings_possible D.bidi_possible Slots.all_zero M.status_legal N.part_of store_long sizes_long fixed_long version_holds lengths_hold sheets_hold sizes_hold size_holds
bench_ready room h =
    record {
      right_board = record { possible = refl; buffers = buffers_hold_lem (zeros 4096) zero_store bench_sheets room refl refl h; sheeted = refl };
      no_bits = refl;
    }

-- THE THEOREM: whatever blocks the bytes come in, as long as each has room for its lines
pub blocks_are_bench : (blocks : List (List ℕ)) (room out : List ℕ) → 84 ≤ length room → Blocks (length out) blocks
    → calls_of bench bench_sheets room out blocks ≡ bench_text (flatten blocks)
blocks_are_bench blocks room out h u =
    calls_text blocks bench bench_sheets room out (bench_ready room h) u ∙ text_is_bench (flatten blocks) room (all_bytes (length out) blocks u)
