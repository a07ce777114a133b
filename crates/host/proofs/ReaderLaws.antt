-- The laws of the reader's promise.
use Prim.Native.Nat.{ℕ, ◌≤◌, ◌<◌}
use mathlib.Core.List.{List}
use mathlib.Core.Logic.{◌↔◌}
use mathlib.Core.Path.{◌≡◌, refl, sym, ◌∙◌, ap}
use native.Mathlib.Omega.{arith}
use borrow.Author.Tests.{ltb-true, ltb-false}
use lib.Dec.{ltb}
use lib.ListN.{length, take, drop}
use lib.Seq.{take_at, drop_at, take-append_seam}
use Rattle.bits.proofs.Tests.{by}
use Rattle.std.proofs.Common.{Result, Ok, Err}
use Rattle.refusals.specs.declared.Refusal.{Refusal}
use Rattle.refusals.specs.Numbers.{paper_number}
use Rattle.refusals.proofs.Laws.{same_number}
use Rattle.bank.specs.Reply.{body_of, checksum_of, reply_of, Shaped, at_front}
use Rattle.bank.proofs.Laws.{reply_shaped, cells_differ}
use Rattle.bank.proofs.Language.{one_way}
use Rattle.bank.proofs.Lists.{front_length}
use Rattle.host.proofs.Walk.{answered, differ}
use Rattle.host.specs.ReadBank.{BankRead, Cells, Refused, read_as, Judged, right, wrong_checksum, no_shape, Reads, small_room, judged, OtherChecksum, NoShape}

-- ---- no two answers say the same

cells_apart : (n : ℕ) (other : Result ℕ Refusal) → Cells n ≡ read_as other → Ok n ≡ other
cells_apart n (Ok m) same = cc
cells_apart n (Err why) same = differ same

refused_apart : (one : Refusal) (other : Result ℕ Refusal) → Refused (paper_number one) ≡ read_as other → Err one ≡ other
refused_apart one (Ok m) same = differ (sym same)
refused_apart one (Err why) same = let number : paper_number one ≡ paper_number why = cc in ap Err (same_number one why number)

pub read_once : (one other : Result ℕ Refusal) → read_as one ≡ read_as other → one ≡ other
read_once (Ok n) other same = cells_apart n other same
read_once (Err why) other same = refused_apart why other same

-- ---- the promise determines the outcome

shaped : (reply cells : List ℕ) → length cells ≤ 40 → reply ≡ reply_of cells → Shaped reply cells (checksum_of (body_of cells))
shaped reply cells few is = rw is (reply_shaped cells few)

-- a reply has its own checksum in every reading
the_checksum : (reply xs ys : List ℕ) (c : ℕ) → length xs ≤ 40 → reply ≡ reply_of xs → Shaped reply ys c → c ≡ checksum_of (body_of ys)
the_checksum reply xs ys c few is s =
    let e = one_way reply (shaped reply xs few is) s in sym e.1 ∙ ap (λ (l : List ℕ). checksum_of (body_of l)) e.0

judged_once : (reply : List ℕ) (a b : BankRead) (xs ys : List ℕ) → Judged reply a xs → Judged reply b ys → (a ≡ b) × (xs ≡ ys)
judged_once reply a b xs ys (right us few p) (right vs low q) =
    let e : us ≡ vs = cells_differ us vs few low (sym p ∙ q) in (ap (λ (l : List ℕ). Cells (length l)) e, e)
judged_once reply a b xs ys (right us few p) (wrong_checksum vs d q ne) = absurd (ne (the_checksum reply us vs d few p q))
judged_once reply a b xs ys (right us few p) (no_shape never) = absurd (never us _ (shaped reply us few p))
judged_once reply a b xs ys (wrong_checksum us c p ne) (right vs low q) = absurd (ne (the_checksum reply vs us c low q p))
judged_once reply a b xs ys (wrong_checksum us c p ne) (wrong_checksum vs d q nf) = (refl, refl)
judged_once reply a b xs ys (wrong_checksum us c p ne) (no_shape never) = absurd (never us c p)
judged_once reply a b xs ys (no_shape never) (right vs low q) = absurd (never vs _ (shaped reply vs low q))
judged_once reply a b xs ys (no_shape never) (wrong_checksum vs d q nf) = absurd (never vs d q)
judged_once reply a b xs ys (no_shape never) (no_shape none) = (refl, refl)

-- no two different outcomes satisfy the promise: the answer and each byte of the room are determined
pub one_outcome : (reply room : List ℕ) (a b : BankRead) (r s : List ℕ) → Reads reply room a r → Reads reply room b s → (a ≡ b) × (r ≡ s)
one_outcome reply room a b r s (small_room h) (small_room k) = (refl, refl)
one_outcome reply room a b r s (small_room h) (judged k j) = let z : ⊥ = omega arith in absurd z
one_outcome reply room a b r s (judged h i) (small_room k) = let z : ⊥ = omega arith in absurd z
one_outcome reply room a b r s (judged h i) (judged k j) =
    let e = judged_once reply a b _ _ i j in (e.0, ap (λ (l : List ℕ). at_front l room) e.1)

-- and one there always is, whatever the bytes
pub some_outcome : (reply room : List ℕ) → (a : BankRead) × (after : List ℕ) × Reads reply room a after
some_outcome reply room =
    by (ltb (length room) 40) (λ e. (Refused 4, room, small_room (ltb-true (length room) 40 e)))
    (λ e. let w = answered reply refl in (_, _, judged (ltb-false (length room) 40 e) w.1))

-- ---- each answer, in both directions

-- why a number is given: by these three rows, and by nothing else
pub data Why (reply room : List ℕ) : ℕ → Type 0 where
  row_4 : length room < 40 → Why reply room 4
  row_9 : 40 ≤ length room → NoShape reply → Why reply room 9
  row_10 : 40 ≤ length room → OtherChecksum reply → Why reply room 10

module _ (reply room : List ℕ) where
  -- a refusal has one of these reasons, and leaves the room as it was
  pub why_refused : (a : BankRead) (after : List ℕ) (x : ℕ) → Reads reply room a after → a ≡ Refused x → (after ≡ room) × Why reply room x
  why_refused a after x (small_room h) is = let e : x ≡ 4 = cc in (refl, rw e (row_4 h))
  why_refused a after x (judged h (right cells few s)) is = differ is
  why_refused a after x (judged h (wrong_checksum cells c s ne)) is = let e : x ≡ 10 = cc in (refl, rw e (row_10 h (cells, c, s, ne)))
  why_refused a after x (judged h (no_shape never)) is =
      let e : x ≡ 9 = cc in (refl, rw e (row_9 h never))

  -- an answer of cells has them from the reply
  pub whose_cells : (a : BankRead) (after : List ℕ) (n : ℕ) → Reads reply room a after → a ≡ Cells n
      → (cells : List ℕ) × (length cells ≡ n) × (40 ≤ length room) × (length cells ≤ 40) × (reply ≡ reply_of cells) × (after ≡ at_front cells room)
  whose_cells a after n (small_room h) is = differ (sym is)
  whose_cells a after n (judged h (right cells few s)) is = (cells, cc, h, few, s, refl)
  whose_cells a after n (judged h (wrong_checksum cells c s ne)) is = differ (sym is)
  whose_cells a after n (judged h (no_shape never)) is = differ (sym is)

  -- n and those cells: exactly for the reply of those n cells
  pub reads_cells : (cells : List ℕ) → Reads reply room (Cells (length cells)) (at_front cells room) ↔ ((40 ≤ length room) × (length cells ≤ 40) × (reply ≡ reply_of cells))
  reads_cells cells = (
    λ r. let s = whose_cells _ (at_front cells room) (length cells) r refl in
        let same : s.0 ≡ cells = sym (take_at s.0 (drop (length s.0) room) (length cells) s.1) ∙ ap (take (length cells)) (sym s.5) ∙ take-append_seam cells (drop (length cells) room) in
        (s.2, rw same at s.3, rw same at s.4),
    λ p. judged p.0 (right cells p.1 p.2),
  )

  -- 4: exactly for a room under 40 bytes, and the room stays
  pub refuses_4 : (after : List ℕ) → Reads reply room (Refused 4) after ↔ ((length room < 40) × (after ≡ room))
  refuses_4 after = (λ r. let s = why_refused _ after 4 r refl in (four 4 s.1 refl, s.0), λ p. rw p.1 (small_room p.0))
    where
      four : (x : ℕ) → Why reply room x → x ≡ 4 → length room < 40
      four x (row_4 h) is = h
      four x (row_9 h w) is = omega arith
      four x (row_10 h w) is = omega arith

  -- 9: exactly for bytes that are the reply of no cells, whatever stands for the checksum
  pub refuses_9 : (after : List ℕ) → Reads reply room (Refused 9) after ↔ ((40 ≤ length room) × NoShape reply × (after ≡ room))
  refuses_9 after = (
    λ r. let s = why_refused _ after 9 r refl in let n = nine 9 s.1 refl in (n.0, n.1, s.0),
    λ p. rw p.2 (judged p.0 (no_shape p.1)),
  )
    where
      nine : (x : ℕ) → Why reply room x → x ≡ 9 → (40 ≤ length room) × NoShape reply
      nine x (row_4 h) is = let z : ⊥ = omega arith in absurd z
      nine x (row_9 h w) is = (h, w)
      nine x (row_10 h w) is = let z : ⊥ = omega arith in absurd z

  -- 10: exactly for the reply of some cells with another checksum byte
  pub refuses_10 : (after : List ℕ) → Reads reply room (Refused 10) after ↔ ((40 ≤ length room) × OtherChecksum reply × (after ≡ room))
  refuses_10 after = (
    λ r. let s = why_refused _ after 10 r refl in let n = ten 10 s.1 refl in (n.0, n.1, s.0),
    λ p. let w = p.1 in rw p.2 (judged p.0 (wrong_checksum w.0 w.1 w.2 w.3)),
  )
    where
      ten : (x : ℕ) → Why reply room x → x ≡ 10 → (40 ≤ length room) × OtherChecksum reply
      ten x (row_4 h) is = let z : ⊥ = omega arith in absurd z
      ten x (row_9 h w) is = let z : ⊥ = omega arith in absurd z
      ten x (row_10 h w) is = (h, w)

  -- nothing past n is written, and never more than 40
  pub past_n : (after : List ℕ) (n : ℕ) → Reads reply room (Cells n) after → (n ≤ 40) × (drop n after ≡ drop n room) × (length after ≡ length room)
  past_n after n r =
      let s = whose_cells _ after n r refl in (
        omega (arith, s.1, s.3),
        ap (drop n) s.5 ∙ drop_at s.0 (drop (length s.0) room) n s.1 ∙ rw s.1,
        ap length s.5 ∙ front_length s.0 room (omega (arith, s.2, s.3)),
      )

-- what is written for cells is read back as those cells: the first bytes of the room that the writer leaves
pub read_back : (cells out room : List ℕ) (a : BankRead) (after : List ℕ) → length cells ≤ 40 → 40 ≤ length room
    → Reads (take (length (reply_of cells)) (at_front (reply_of cells) out)) room a after → (a ≡ Cells (length cells)) × (after ≡ at_front cells room)
read_back cells out room a after few wide r =
    let same = take-append_seam (reply_of cells) (drop (length (reply_of cells)) out) in
    one_outcome (reply_of cells) room a (Cells (length cells)) after (at_front cells room) (rw same at r) ((reads_cells (reply_of cells) room cells).1 (wide, few, refl))
