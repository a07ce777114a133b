-- The laws of a bank's reply.
use Prim.Native.Nat.{ℕ, ◌+◌, ◌*◌, ◌/◌, ◌≤◌, ◌<◌}
use mathlib.Core.List.{List, [], ◌∷◌, ◌++◌}
use mathlib.Core.Path.{◌≡◌, refl, sym, ◌∙◌, ap}
use native.Mathlib.Omega.{arith}
use lib.ListN.{length}
use Rattle.crc.specs.Crc.{crc_from, crc_of, crc_byte, crc_bit}
use Rattle.crc.proofs.Laws.{over_append, over_itself}
use Rattle.bank.specs.Reply.{body_of, data_of, checksum_of, reply_of, Shaped}
use Rattle.bank.proofs.Shape.{body_fits, ended_length, full_length, closed_length}
use Rattle.bank.proofs.Data.{data_closed}
use Rattle.bank.proofs.Language.{one_way}

-- a reply is of the shape, with its checksum
pub reply_shaped : (cells : List ℕ) → length cells ≤ 40 → Shaped (reply_of cells) cells (checksum_of (body_of cells))
unfolding reply_of
reply_shaped cells few = record { few = few; reads = refl }

-- replies of different cells differ
pub cells_differ : (xs ys : List ℕ) → length xs ≤ 40 → length ys ≤ 40 → reply_of xs ≡ reply_of ys → xs ≡ ys
cells_differ xs ys p q e = (one_way (reply_of ys) (rw e at (reply_shaped xs p)) (reply_shaped ys q)).0

-- "Each reply is at most 84 bytes."
pub at_most_84 : (cells : List ℕ) → length cells ≤ 40 → length (reply_of cells) ≤ 84
unfolding reply_of
at_most_84 cells few = omega (arith, body_fits cells few, closed_length (checksum_of (body_of cells)) cells)

-- below 40 cells: a group for each two, the end group and the checksum's; at 40 no end group
pub length_below_40 : (cells : List ℕ) → length cells < 40 → length (reply_of cells) ≡ length cells / 2 * 4 + 8
unfolding reply_of
length_below_40 cells h = omega (arith, ended_length cells h, closed_length (checksum_of (body_of cells)) cells)

pub length_at_40 : (cells : List ℕ) → length cells ≡ 40 → length (reply_of cells) ≡ 84
unfolding reply_of
length_at_40 cells h = omega (arith, full_length cells h, closed_length (checksum_of (body_of cells)) cells)

-- "sizes 2, 38, 39, 40 give replies of 12, 84, 84, 84 bytes"
pub sizes : (cells : List ℕ)
    → (length cells ≡ 2 → length (reply_of cells) ≡ 12)
    × (length cells ≡ 38 → length (reply_of cells) ≡ 84)
    × (length cells ≡ 39 → length (reply_of cells) ≡ 84)
    × (length cells ≡ 40 → length (reply_of cells) ≡ 84)
sizes cells =
    (λ e. omega (arith, length_below_40 cells (omega arith)), λ e. omega (arith, length_below_40 cells (omega arith)), λ e. omega (arith, length_below_40 cells (omega arith)), λ e. length_at_40 cells e)

-- the receiver's test: over the data bytes and the checksum it is 0, and over all data bytes of the reply too
pub no_rest : (cells : List ℕ) → crc_of (data_of (body_of cells) ++ (checksum_of (body_of cells) ∷ [])) ≡ 0
unfolding checksum_of
no_rest cells = over_itself (data_of (body_of cells))

pub no_rest_in_reply : (cells : List ℕ) → length cells ≤ 40 → crc_of (data_of (reply_of cells)) ≡ 0
unfolding reply_of crc_from crc_byte crc_bit
no_rest_in_reply cells few =
    ap crc_of (data_closed (checksum_of (body_of cells)) cells few)
    ∙ over_append 0 (data_of (body_of cells)) (checksum_of (body_of cells) ∷ 0 ∷ [])
    ∙ ap (λ (c : ℕ). crc_byte c 0) (sym (over_append 0 (data_of (body_of cells)) (checksum_of (body_of cells) ∷ [])) ∙ no_rest cells)
