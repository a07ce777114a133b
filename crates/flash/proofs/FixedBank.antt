-- C-13 HOLDS: the record of its sentences.
use Prim.Native.Nat.{ℕ, ◌+◌, ◌*◌}
use mathlib.Core.List.{List}
use mathlib.Core.Bool.{true, false}
use mathlib.Core.Logic.{◌↔◌}
use mathlib.Core.Path.{◌≡◌, sym, ◌∙◌, ap}
use native.Mathlib.Omega.{arith}
use lib.Dec.{leb, eqb}
use lib.ListN.{length}
use Rattle.bits.proofs.Tests.{by}
use Rattle.refusals.proofs.Laws.{checked_once}
use Rattle.running.specs.Alike.{StoriesAlike}
use Rattle.line.specs.Wire.{Edge}
use Rattle.store.specs.Sheet.{sheets_of, version_holds, sheets_hold}
use Rattle.store.proofs.Sizes.{sizes_long_lem, sizes_right}
use Rattle.view.specs.View.{ViewRefusalPromise, ViewPromise}
use Rattle.board.specs.Board.{Board, module_possible, buffers_hold, first_broken, board_refusal}
use Rattle.module.specs.Feed.{FeedOutcome, FeedPromise}
use Rattle.module.specs.Whole.{whole_of}
use Rattle.lines.specs.Taken.{AfterBlock, block_number, write_of, WritePromise}
use Rattle.demands.specs.HowManyOn.{left_by}
use Rattle.demands.specs.Pieces.{Good}
use Rattle.demands.proofs.Demand1.{feed_gives_4, feed_gives_5}
use Rattle.demands.proofs.Feeding.{good_sheet, good_lengths}
use Rattle.flash.specs.FixedBank.{GoodFixed, OtherBanksSame, SameButOldPlaces, C13}
use Rattle.flash.proofs.Stores.{others_alike, from_same, to_same}
use Rattle.flash.proofs.Rows.{row_4, row_5}
use Rattle.flash.proofs.Calls.{whole_by, whole_was_lem, feed_by_lem, feed_was_lem, write_by, write_was_lem}
use Rattle.flash.proofs.Views as Views
use Rattle.flash.proofs.OldPlaces as Old

both : {A B C : Type 0} → A ↔ B → B ↔ C → A ↔ C
both f g = (λ a. g.0 (f.0 a), λ c. f.1 (g.1 c))

-- ---- rows 4 and 5 of the bench's writer

module _ (b : Board) (sizes fixed room out input : List ℕ) (l : AfterBlock) (p : WritePromise b (sheets_of sizes fixed) room out input l) where
  number_is : block_number l.given.answer ≡ block_number (write_of b (sheets_of sizes fixed) room out input).given.answer
  unfolding WritePromise
  number_is = ap (λ (x : AfterBlock). block_number x.given.answer) p

  gives_12 : module_possible b.kept ≡ false → block_number l.given.answer ≡ 12
  unfolding write_of board_refusal first_broken
  gives_12 m = number_is ∙ simp m

  module _ (m : module_possible b.kept ≡ true) where
    gives_4 : buffers_hold b.states b.store (sheets_of sizes fixed) room ≡ false → block_number l.given.answer ≡ 4
    unfolding write_of board_refusal first_broken
    gives_4 h = number_is ∙ simp (m, h)

    gives_5 : buffers_hold b.states b.store (sheets_of sizes fixed) room ≡ true → sheets_hold (sheets_of sizes fixed) ≡ false → block_number l.given.answer ≡ 5
    unfolding write_of board_refusal first_broken
    gives_5 h s = number_is ∙ simp (m, h, s)

    gives_0 : buffers_hold b.states b.store (sheets_of sizes fixed) room ≡ true → sheets_hold (sheets_of sizes fixed) ≡ true → block_number l.given.answer ≡ 0
    unfolding write_of board_refusal first_broken
    gives_0 h s =
        number_is
        ∙ by (eqb b.kept.receiver.count 0)
        (λ c. by (leb (128 * (length input + 2)) (length out)) (λ w. simp (m, h, s, c, w)) (λ w. simp (m, h, s, c, w)))
        (λ c. simp (m, h, s, c))

  write_gives_4 : (block_number l.given.answer ≡ 4) ↔ ((module_possible b.kept ≡ true) × (buffers_hold b.states b.store (sheets_of sizes fixed) room ≡ false))
  write_gives_4 = (
    λ k. by (module_possible b.kept)
        (λ m. by (buffers_hold b.states b.store (sheets_of sizes fixed) room)
        (λ h. by (sheets_hold (sheets_of sizes fixed)) (λ s. let z : ◌≡◌ {A = ℕ} 0 4 = sym (gives_0 m h s) ∙ k in absurd (omega arith))
        (λ s. let z : ◌≡◌ {A = ℕ} 5 4 = sym (gives_5 m h s) ∙ k in absurd (omega arith))) (λ h. (m, h)))
        (λ m. let z : ◌≡◌ {A = ℕ} 12 4 = sym (gives_12 m) ∙ k in absurd (omega arith)),
    λ g. gives_4 g.0 g.1,
  )

  write_gives_5 : (block_number l.given.answer ≡ 5)
      ↔ ((module_possible b.kept ≡ true) × (buffers_hold b.states b.store (sheets_of sizes fixed) room ≡ true) × (sheets_hold (sheets_of sizes fixed) ≡ false))
  write_gives_5 = (
    λ k. by (module_possible b.kept)
        (λ m. by (buffers_hold b.states b.store (sheets_of sizes fixed) room)
        (λ h. by (sheets_hold (sheets_of sizes fixed)) (λ s. let z : ◌≡◌ {A = ℕ} 0 5 = sym (gives_0 m h s) ∙ k in absurd (omega arith)) (λ s. (m, h, s)))
        (λ h. let z : ◌≡◌ {A = ℕ} 4 5 = sym (gives_4 m h) ∙ k in absurd (omega arith)))
        (λ m. let z : ◌≡◌ {A = ℕ} 12 5 = sym (gives_12 m) ∙ k in absurd (omega arith)),
    λ g. gives_5 g.0 g.1 g.2,
  )

-- ---- other sheets, and other bytes in the old places

-- another good fixed sheet keeps the rules beside the same size sheet
rules_with : (sizes fixed another : List ℕ) → sheets_hold (sheets_of sizes fixed) ≡ true → GoodFixed another → sheets_hold (sheets_of sizes another) ≡ true
unfolding sheets_hold version_holds
rules_with sizes fixed another h g = rw (sizes_right (sheets_of sizes fixed) h, g.version)

module _ (b other : Board) (sizes fixed another : List ℕ) (s : SameButOldPlaces b other) where
  whole_same : (n : ℕ) (es : List Edge) → Good b (sheets_of sizes fixed) → GoodFixed another
      → StoriesAlike SameButOldPlaces (whole_of b (sheets_of sizes fixed) n es) (whole_of other (sheets_of sizes another) n es)
  whole_same n es g k =
      let l = sizes_long_lem _ _ (good_lengths g) in
      let h = good_sheet g in
      let t = whole_by sizes fixed l h OtherBanksSame (others_alike sizes fixed h) b other n es (from_same s) in
      rw (whole_was_lem sizes another l (rules_with sizes fixed another h k) other n es)
      (record { board = to_same t.board; answers = t.answers; taken = t.taken; number = t.number })

  feed_same : (room times levels : List ℕ) (o q : FeedOutcome) → GoodFixed fixed → GoodFixed another
      → FeedPromise b (sheets_of sizes fixed) room times levels o → FeedPromise other (sheets_of sizes another) room times levels q
      → (q.answer ≡ o.answer) × (q.room ≡ o.room) × SameButOldPlaces o.board q.board
  unfolding FeedPromise
  feed_same room times levels o q g k p r =
      let t = feed_by_lem OtherBanksSame b other sizes fixed g (from_same s) s.other_banks.same_length (λ h. others_alike sizes fixed h) room times levels in
      rw (p, r ∙ feed_was_lem other sizes another room times levels k) (t.answer, t.room, to_same t.board)

  write_same : (room out input : List ℕ) (l m : AfterBlock) → GoodFixed fixed → GoodFixed another
      → WritePromise b (sheets_of sizes fixed) room out input l → WritePromise other (sheets_of sizes another) room out input m
      → (m.given.answer ≡ l.given.answer) × (m.room ≡ l.room) × (m.out ≡ l.out) × SameButOldPlaces (left_by l) (left_by m)
  unfolding WritePromise
  write_same room out input l m g k p r =
      let t = write_by OtherBanksSame b other sizes fixed g (from_same s) s.other_banks.same_length (λ h. others_alike sizes fixed h) room out input in
      rw (p, r ∙ write_was_lem other sizes another room out input k) (t.answer, t.room, t.out, to_same t.board)

-- THE THEOREM
pub fixed_bank : C13
unfolding ViewRefusalPromise ViewPromise FeedPromise WritePromise
fixed_bank =
    record {
      feed_4 = λ b sizes fixed room times levels o p. both (feed_gives_4 b (sheets_of sizes fixed) room times levels o p) (row_4 b sizes fixed room);
      feed_5 = λ b sizes fixed room times levels o p. both (feed_gives_5 b (sheets_of sizes fixed) room times levels o p) (row_5 b sizes fixed room);
      write_4 = λ b sizes fixed room out input l p. both (write_gives_4 b sizes fixed room out input l p) (row_4 b sizes fixed room);
      write_5 = λ b sizes fixed room out input l p. both (write_gives_5 b sizes fixed room out input l p) (row_5 b sizes fixed room);
      check_determined = λ store sheets k q p r. p ∙ sym r;
      check_decided = λ store sheets a q p r. checked_once a q (p ∙ sym r);
      check_rows = Views.check_rows;
      view_determined = λ store sheets bank part other p r. p ∙ sym r;
      view_length = Views.view_length;
      fixed_cells = Views.fixed_cells;
      store_cells = λ store sheets bank part c n v. Views.store_cells store sheets bank part c v n;
      as_read = Views.as_read;
      as_sent = Views.as_sent;
      version_read = Views.version_read;
      view_empty = Views.view_empty;
      whole_as_before = λ b sizes fixed n es g. whole_was_lem sizes fixed (sizes_long_lem _ _ (good_lengths g)) (good_sheet g) b n es;
      feed_as_before = λ b sizes fixed room times levels o g p. p ∙ feed_was_lem b sizes fixed room times levels g;
      write_as_before = λ b sizes fixed room out input l g p. p ∙ write_was_lem b sizes fixed room out input g;
      whole_same = λ b other sizes fixed another n es g k s. whole_same b other sizes fixed another s n es g k;
      feed_same = λ b other sizes fixed another room times levels o q g k s. feed_same b other sizes fixed another s room times levels o q g k;
      write_same = λ b other sizes fixed another room out input l m g k s. write_same b other sizes fixed another s room out input l m g k;
      whole_stays = λ b sheets n es offset o. Old.whole_stays sheets offset o b n es;
      feed_stays = λ b sheets room times levels q p offset o. Old.feed_stays sheets offset o b room times levels q p;
      write_stays = λ b sheets room out input l p offset o. Old.write_stays sheets offset o b room out input l p;
    }
