-- Refusals 6, 7 and 11: when a post and a status are refused, and when they are taken.
use Prim.Native.Nat.{ℕ, zero, suc, ◌+◌, ◌≤◌, ◌<◌}
use mathlib.Core.Bool.{Bool, true, false, ◌&&◌}
use mathlib.Core.List.{List, [], ◌∷◌}
use mathlib.Core.Path.{◌≡◌, refl, sym, ap}
use native.Mathlib.Omega.{arith}
use Rattle.bits.specs.Bits.{part_of, bit_at}
use lib.Dec.{leb, eqb}
use borrow.Author.Tests.{leb-true, leb-false, eqb-true, eqb-false, le-leb, lt-leb, ne_eqb}
use Rattle.bits.proofs.Tests.{by, clash, each_below, equal_below, agree, agreed}
use Rattle.bidi.specs.declared.record.Bidi.{Bidi}
use Rattle.std.proofs.Common.{Result, Ok, Err}
use Rattle.refusals.specs.declared.Refusal.{Refusal}
use Rattle.refusals.proofs.Laws.{same_number, never_0}
use Rattle.slots.specs.Slots as Slots
use Rattle.bidi.specs.Messages.{signal_legal, half_legal, message_legal, status_legal}
use Rattle.bidi.specs.Bidi.{Changed, fresh_bidi, joined_by, with_queue, with_statuses, refused_by, changed_to, changed_as, posted_to, with_status}

module _ (b : Bidi) (m : List ℕ) where
  -- 6 for a message that is not legal, whatever waits
  pub post_illegal : message_legal m ≡ false → posted_to b m ≡ refused_by 6 b
  unfolding posted_to
  post_illegal l = rw l

  -- a ninth post gives 7
  pub post_full : message_legal m ≡ true → 8 ≤ b.queued → posted_to b m ≡ refused_by 7 b
  unfolding posted_to
  post_full l f = simp (l, le-leb _ _ f)

  -- any other is taken
  pub post_taken : message_legal m ≡ true → b.queued < 8 → posted_to b m ≡ changed_to (with_queue b (b.queued + 1) (joined_by b.queue b.queued m))
  unfolding posted_to
  post_taken l f = simp (l, lt-leb _ _ f)

  -- and there is no other outcome
  pub post_cases : (P : Changed → Type 0)
      → (message_legal m ≡ false → P (refused_by 6 b))
      → (message_legal m ≡ true → 8 ≤ b.queued → P (refused_by 7 b))
      → (message_legal m ≡ true → b.queued < 8 → P (changed_to (with_queue b (b.queued + 1) (joined_by b.queue b.queued m))))
      → P (posted_to b m)
  post_cases P illegal full taken =
      by (message_legal m)
      (λ l. by (leb 8 b.queued) (λ f. let h = leb-true 8 b.queued f in rw (post_full l h) (full l h))
      (λ f. let h = leb-false 8 b.queued f in rw (post_taken l h) (taken l h)))
      (λ l. rw (post_illegal l) (illegal l))

-- so eight posts to a fresh record are taken, and a ninth gives 7
pub signal : List ℕ
signal = 0x80 ∷ 4 ∷ 0x80 ∷ 15 ∷ []

pub posted : ℕ → Bidi
posted zero = fresh_bidi
posted (suc n) = (posted_to (posted n) signal).bidi

pub eight_taken : (n : ℕ) → n < 8 → (posted_to (posted n) signal).refusal ≡ 0
unfolding posted_to message_legal half_legal signal_legal Slots.joined_by signal posted
eight_taken = equal_below 8 (λ k. (posted_to (posted k) signal).refusal) (λ k. 0) refl

pub ninth_refused : posted_to (posted 8) signal ≡ refused_by 7 (posted 8)
unfolding posted_to message_legal half_legal signal_legal Slots.joined_by signal posted
ninth_refused = refl

module _ (b : Bidi) where
  -- 11 for a number over 1 or a reserved bit
  pub status_refused : (number s : ℕ) → status_legal number s ≡ false → with_status b number s ≡ refused_by 11 b
  unfolding with_status
  status_refused number s l = rw l

  -- any other is set
  pub status_0_set : (s : ℕ) → status_legal 0 s ≡ true → with_status b 0 s ≡ changed_to (with_statuses b s b.status1)
  unfolding with_status
  status_0_set s l = rw l

  pub status_1_set : (s : ℕ) → status_legal 1 s ≡ true → with_status b 1 s ≡ changed_to (with_statuses b b.status0 s)
  unfolding with_status
  status_1_set s l = rw l

pub number_over : (number s : ℕ) → 1 < number → status_legal number s ≡ false
unfolding status_legal
number_over number s h = simp (ne_eqb number 0 (λ e. omega arith), ne_eqb number 1 (λ e. omega arith))

-- and there is no other outcome
pub status_cases : (b : Bidi) (number s : ℕ) (P : Changed → Type 0)
    → P (refused_by 11 b)
    → (status_legal 0 s ≡ true → P (changed_to (with_statuses b s b.status1)))
    → (status_legal 1 s ≡ true → P (changed_to (with_statuses b b.status0 s)))
    → P (with_status b number s)
status_cases b number s P refused zeroth first =
    by (status_legal number s)
    (λ l. by (leb number 1)
    (λ h. by (eqb number 0)
    (λ e. let is0 = eqb-true number 0 e in let l0 : status_legal 0 s ≡ true = rw is0 at l in rw (is0, status_0_set b s l0) (zeroth l0))
    (λ e. let not0 : number ≡ 0 → ⊥ = eqb-false number 0 e in
    let is1 : number ≡ 1 = omega (arith, leb-true number 1 h) in
    let l1 : status_legal 1 s ≡ true = rw is1 at l in
    rw (is1, status_1_set b s l1) (first l1)))
    (λ h. clash l (number_over number s (leb-false number 1 h))))
    (λ l. rw (status_refused b number s l) refused)

-- a byte is a status exactly if its reserved bits are 0: all but 0, 1, 4 of status 0, all but 0, 1 of status 1
pub clear : List ℕ → ℕ → Bool
clear [] s = true
clear (place ∷ places) s = eqb (bit_at s place) 0 && clear places s

pub reserved : ℕ → List ℕ
reserved zero = 2 ∷ 3 ∷ 5 ∷ 6 ∷ 7 ∷ []
reserved (suc number) = 2 ∷ 3 ∷ 4 ∷ 5 ∷ 6 ∷ 7 ∷ []

pub reserved_clear : (number s : ℕ) → number ≤ 1 → s < 256 → status_legal number s ≡ clear (reserved number) s
unfolding status_legal part_of clear reserved
reserved_clear number s h l =
    by (eqb number 0) (λ e. rw (eqb-true number 0 e) (agreed _ _ (each_below (λ (n : ℕ). agree (status_legal 0 n) (clear (reserved 0) n)) 256 refl s l)))
    (λ e. let other : number ≡ 0 → ⊥ = eqb-false number 0 e in
    let one : number ≡ 1 = omega arith in
    rw one (agreed _ _ (each_below (λ (n : ℕ). agree (status_legal 1 n) (clear (reserved 1) n)) 256 refl s l)))

pub changed_once : (b : Bidi) (one other : Result Bidi Refusal) → changed_as b one ≡ changed_as b other → one ≡ other
changed_once b (Ok c) (Ok d) e = ap (λ (r : Changed). Ok r.bidi) e
changed_once b (Ok c) (Err why) e = absurd (never_0 why (sym (ap (λ (r : Changed). r.refusal) e)))
changed_once b (Err why) (Ok d) e = absurd (never_0 why (ap (λ (r : Changed). r.refusal) e))
changed_once b (Err why) (Err other) e = ap Err (same_number why other (ap (λ (r : Changed). r.refusal) e))
