-- The reader's way through a reply: what it finds group by group is what the language says.
use Prim.Native.Nat.{ℕ, zero, suc, ◌+◌, ◌*◌, ◌≤◌, ◌<◌}
use mathlib.Core.Bool.{true, false, cond}
use mathlib.Core.List.{List, [], ◌∷◌, ◌++◌}
use mathlib.Core.Path.{◌≡◌, refl, sym, ◌∙◌, ap}
use native.Mathlib.Nat.{add-zero}
use native.Mathlib.Omega.{arith}
use borrow.Author.Tests.{eq-eqb, ne_eqb, eqb-true, eqb-false}
use lib.Dec.{eqb}
use lib.ListN.{length, take, drop, get_or, length-drop, length-append}
use lib.Seq.{take_at, drop-drop}
use Rattle.bits.proofs.Tests.{by}
use Rattle.bank.specs.declared.Group.{Group}
use Rattle.bank.specs.declared.Group.TheVariants as G
use Rattle.bank.specs.Group.{group_at}
use Rattle.bank.specs.Reply.{body_of, data_of, checksum_of, closed_by, reply_of}
use Rattle.bank.proofs.Language.{Found, found, none, prepend, closing, step, parse, closing_tells, one_or_none, prepend_nothing, prepend_twice, prepend_closing, is_shaped, not_shaped}
use Rattle.bank.proofs.Shape.{closed_length, headed}
use Rattle.bank.proofs.Data.{cells_first}
use Rattle.host.specs.ReadBank.{BankRead, Cells, Refused, Judged, right, wrong_checksum, no_shape, Reads, judged, closed_of}

-- an answer of cells is no refusal
pub differ : {P : Type 0} {n x : ℕ} → Cells n ≡ Refused x → P
differ e = let z : ◌≡◌ {A = ℕ} 0 1 = cc in let f : ⊥ = omega arith in absurd f

-- ---- the last group

-- a group that is not the checksum's
pub no_checksum : (n : ℕ) (before : List ℕ) (g : Group) → ((c : ℕ) → g ≡ G.Checksum c → ⊥) → Refused 9 ≡ closed_of n before g
unfolding closed_of
no_checksum n before G.Cells h = refl
no_checksum n before (G.End more) h = refl
no_checksum n before (G.Checksum c) h = absurd (h c refl)
no_checksum n before G.Bad h = refl

-- the checksum's group stands at the end
pub at_end : (reply : List ℕ) (at c : ℕ) → group_at true (drop at reply) ≡ G.Checksum c → at + 4 ≡ length reply
at_end reply at c is = omega (arith, length-drop at reply, ap length (closing_tells (drop at reply) c is))

module _ (n c : ℕ) (before : List ℕ) (g : Group) (is : g ≡ G.Checksum c) where
  pub summed : c ≡ checksum_of before → Cells n ≡ closed_of n before g
  unfolding closed_of
  summed e = rw is (simp (eq-eqb c (checksum_of before) e))

  pub not_summed : (c ≡ checksum_of before → ⊥) → Refused 10 ≡ closed_of n before g
  unfolding closed_of
  not_summed e = rw is (simp (ne_eqb c (checksum_of before) e))

-- ---- what is answered to what is found

pub verdict : Found → BankRead
verdict (found cells c) = cond (eqb c (checksum_of (body_of cells))) (Cells (length cells)) (Refused 10)
verdict none = Refused 9

-- it is what the language says
module _ (reply : List ℕ) where
  says : (p : Found) → parse 20 reply ≡ p → (cells : List ℕ) × Judged reply (verdict p) cells
  unfolding verdict reply_of
  says (found cells c) e =
      let s = is_shaped reply cells c e in
      by (eqb c (checksum_of (body_of cells)))
      (λ t. rw t (_, right cells (omega (arith, s.few)) (s.reads ∙ ap (λ (x : ℕ). closed_by x cells) (eqb-true c (checksum_of (body_of cells)) t))))
      (λ t. rw t (_, wrong_checksum cells c s (eqb-false c (checksum_of (body_of cells)) t)))
  says none e = (_, no_shape (not_shaped reply e))

  pub answered : {r : BankRead} → r ≡ verdict (parse 20 reply) → (cells : List ℕ) × Judged reply r cells
  answered e = rw e (says (parse 20 reply) refl)

  -- where the cells are known and the last group is left, that group decides
  module _ (cells : List ℕ) (at : ℕ) (left : parse 20 reply ≡ closing cells (group_at true (drop at reply))) where
    before_it : (c : ℕ) → group_at true (drop at reply) ≡ G.Checksum c → take at reply ≡ body_of cells
    unfolding closed_by
    before_it c is =
        let s = is_shaped reply cells c (left ∙ ap (closing cells) is) in
        let long : length reply ≡ length (body_of cells) + 4 = ap length s.reads ∙ closed_length c cells in
        rw s.reads (take_at (body_of cells) (0x8F ∷ c ∷ 0x8F ∷ 0x00 ∷ []) at (omega (arith, at_end reply at c is)))

    by_last : (m : ℕ) → length cells ≡ m → (g : Group) → group_at true (drop at reply) ≡ g → closed_of m (take at reply) g ≡ verdict (closing cells g)
    unfolding closed_of verdict
    by_last m long (G.Checksum c) is = rw (before_it c is, long)
    by_last m long G.Cells is = refl
    by_last m long (G.End more) is = refl
    by_last m long G.Bad is = refl

    pub decided : (m : ℕ) → length cells ≡ m → closed_of m (take at reply) (group_at true (drop at reply)) ≡ verdict (parse 20 reply)
    decided m long = by_last m long (group_at true (drop at reply)) refl ∙ ap verdict (sym left)

-- ---- the loop over the pairs: n cells are passed, and so many groups may still stand before the last

pub record Going (reply : List ℕ) (n : ℕ) : Type 0 where
  pub cells : List ℕ
  pub groups : ℕ
  pub long : length cells ≡ n
  pub room : n + (groups + groups) ≡ 40
  pub same : parse 20 reply ≡ prepend cells (parse groups (drop (n * 2) reply))

pub begun : (reply : List ℕ) → Going reply 0
begun reply = record { cells = []; groups = 20; long = refl; room = refl; same = sym (prepend_nothing (parse 20 reply)) }

module _ {reply : List ℕ} {n : ℕ} (going : Going reply n) where
  -- all groups are used up
  pub full : 40 ≤ n → closed_of n (take (n * 2) reply) (group_at true (drop (n * 2) reply)) ≡ verdict (parse 20 reply)
  unfolding parse
  full h =
      let none_left : going.groups ≡ 0 = omega (arith, going.room) in
      decided reply (going.cells ++ []) (n * 2)
      (going.same ∙ rw none_left (prepend_closing going.cells [] (group_at true (drop (n * 2) reply))))
      n (length-append going.cells [] ∙ add-zero (length going.cells) ∙ going.long)

  -- one more is there
  module _ (h : n < 40) where
    split : (k : ℕ) → n + (k + k) ≡ 40 → (j : ℕ) × (k ≡ suc j)
    split zero e = let z : ⊥ = omega arith in absurd z
    split (suc j) e = (j, refl)

    one_more : (j : ℕ) × (going.groups ≡ suc j)
    one_more = split going.groups going.room

    stepped : parse 20 reply ≡ prepend going.cells (step (group_at false (drop (n * 2) reply)) (drop (n * 2) reply) (parse one_more.0 (drop 4 (drop (n * 2) reply))))
    unfolding parse
    stepped = going.same ∙ ap (λ (k : ℕ). prepend going.cells (parse k (drop (n * 2) reply))) one_more.1

    -- past it
    further : drop 4 (drop (n * 2) reply) ≡ drop (n * 2 + 4) reply
    further = drop-drop 4 (n * 2) reply

    module _ (g : Group) (read : g ≡ group_at false (drop (n * 2) reply)) where
      pub on : g ≡ G.Cells → Going reply (n + 2)
      on is =
          let s = drop (n * 2) reply in
          let pair : List ℕ = get_or s 1 0 ∷ get_or s 3 0 ∷ [] in
          let next : n * 2 + 4 ≡ (n + 2) * 2 = omega arith in
          record {
            cells = going.cells ++ pair;
            groups = one_more.0;
            long = length-append going.cells pair ∙ omega (arith, going.long);
            room = omega (arith, going.room, one_more.1);
            same = stepped ∙ rw (← read, is, prepend_twice going.cells pair, further, next);
          }

      pub few : (more : ℕ) → g ≡ G.End more → more ≤ 1
      few more is = one_or_none (drop (n * 2) reply) more (sym read ∙ is)

      pub ended : (more : ℕ) → g ≡ G.End more
          → closed_of (n + more) (take (n * 2 + 4) reply) (group_at true (drop (n * 2 + 4) reply)) ≡ verdict (parse 20 reply)
      ended more is =
          let s = drop (n * 2) reply in
          let last : List ℕ = take more (get_or s 1 0 ∷ []) in
          decided reply (going.cells ++ last) (n * 2 + 4)
          (stepped ∙ rw (← read, is, prepend_closing going.cells last (group_at true (drop 4 s)), further))
          (n + more) (length-append going.cells last ∙ omega (arith, going.long, one_long more (get_or s 1 0) (few more is)))
        where
          one_long : (m v : ℕ) → m ≤ 1 → length (take m (v ∷ [])) ≡ m
          one_long zero v h = refl
          one_long (suc zero) v h = refl
          one_long (suc (suc m)) v h = let z : ⊥ = omega arith in absurd z

      pub stuck : (g ≡ G.Cells → ⊥) → ((m : ℕ) → g ≡ G.End m → ⊥) → Refused 9 ≡ verdict (parse 20 reply)
      unfolding verdict
      stuck p q =
          let nothing : parse 20 reply ≡ none = stepped ∙ rw (← read, neither g p q (drop (n * 2) reply) (parse one_more.0 (drop 4 (drop (n * 2) reply)))) in
          sym (ap verdict nothing)
        where
          neither : (g : Group) → (g ≡ G.Cells → ⊥) → ((m : ℕ) → g ≡ G.End m → ⊥) → (s : List ℕ) (rest : Found) → step g s rest ≡ none
          neither G.Cells p q s rest = absurd (p refl)
          neither (G.End m) p q s rest = absurd (q m refl)
          neither (G.Checksum c) p q s rest = refl
          neither G.Bad p q s rest = refl

-- ---- from the answer to the room

-- cells that are answered are those of the reply, and are there to be copied
taken : (reply : List ℕ) (a : BankRead) (cells : List ℕ) (n : ℕ) → Judged reply a cells → a ≡ Cells n
    → (length cells ≡ n) × (length cells ≤ 40) × (reply ≡ reply_of cells)
taken reply a cells n (right cs few s) is = (cc, omega arith, s)
taken reply a cells n (wrong_checksum cs c s ne) is = differ (sym is)
taken reply a cells n (no_shape never) is = differ (sym is)

pub there : (reply : List ℕ) (a : BankRead) (cells : List ℕ) (n : ℕ) → Judged reply a cells → a ≡ Cells n → (n + n ≤ length reply) × (n ≤ 40)
unfolding reply_of
there reply a cells n j is =
    let t = taken reply a cells n j is in
    (omega (arith, t.0, headed cells t.1, ap length t.2, closed_length (checksum_of (body_of cells)) cells), omega (arith, t.0, t.1))

pub written : (reply room : List ℕ) (a : BankRead) (cells : List ℕ) (n : ℕ) → 40 ≤ length room → Judged reply a cells → a ≡ Cells n
    → Reads reply room (Cells n) (take n (data_of reply) ++ drop n room)
unfolding reply_of
written reply room a cells n wide j is =
    let t = taken reply a cells n j is in
    let same : take n (data_of reply) ≡ cells = rw (← t.0, t.2) (cells_first (checksum_of (body_of cells)) cells t.1) in
    rw (same, ← t.0) (judged wide (right cells t.1 t.2))

-- a refusal leaves the room
pub kept : (reply room : List ℕ) (a : BankRead) (cells : List ℕ) (x : ℕ) → 40 ≤ length room → Judged reply a cells → a ≡ Refused x → Reads reply room a room
kept reply room a cells x wide (right cs few s) is = differ is
kept reply room a cells x wide (wrong_checksum cs c s ne) is = judged wide (wrong_checksum cs c s ne)
kept reply room a cells x wide (no_shape never) is = judged wide (no_shape never)
