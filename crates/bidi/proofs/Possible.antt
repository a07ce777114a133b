-- Possible stays possible: after a restart, a post, a status, a call.
use Prim.Native.Nat.{ℕ, ◌+◌, ◌-◌, ◌*◌, ◌≤◌}
use mathlib.Core.Bool.{Bool, true, ◌&&◌}
use mathlib.Core.List.{List}
use mathlib.Core.Path.{◌≡◌, refl}
use native.Mathlib.Omega.{arith}
use Rattle.bits.specs.Bits.{part_of}
use lib.Dec.{leb}
use lib.ListN.{length, drop}
use borrow.Author.Tests.{leb-true, le-leb}
use Rattle.bits.proofs.Tests.{and_left, and_right}
use Rattle.bidi.specs.declared.record.Bidi.{Bidi}
use Rattle.bidi.specs.Messages.{status_legal}
use Rattle.bidi.specs.Bidi.{Changed, Called, fresh_bidi, bidi_possible, joined_by, after_oldest, with_queue, with_statuses, registered_now, posted_to, with_status, called_of}
use Rattle.slots.specs.Slots.{all_zero, unused_zero}
use Rattle.slots.proofs.Joined.{joined_unused, left_unused}
use Rattle.bidi.proofs.Refusals.{post_cases, status_cases}
use Rattle.bidi.proofs.Calls.{call_cases}

-- ---- A possible record, taken apart and put together.

pub record Possible (b : Bidi) : Type 0 where
  pub few : b.queued ≤ 8
  pub unused : all_zero (drop (4 * b.queued) b.queue) ≡ true
  pub legal0 : status_legal 0 b.status0 ≡ true
  pub legal1 : status_legal 1 b.status1 ≡ true

pub apart : (b : Bidi) → bidi_possible b ≡ true → Possible b
unfolding bidi_possible
apart b h =
    let q = leb b.queued 8 in
    let z = all_zero (drop (4 * b.queued) b.queue) in
    let s = status_legal 0 b.status0 in
    let t = status_legal 1 b.status1 in
    let qzs : (q && z && s) ≡ true = and_left (q && z && s) t h in
    let qz : (q && z) ≡ true = and_left (q && z) s qzs in
    record { few = leb-true _ _ (and_left q z qz); unused = and_right q z qz; legal0 = and_right (q && z) s qzs; legal1 = and_right (q && z && s) t h }

pub together : (b : Bidi) → Possible b → bidi_possible b ≡ true
unfolding bidi_possible
together b p = simp (le-leb _ _ p.few, p.unused, p.legal0, p.legal1)

-- ---- Possible stays possible: a restart, a post, a status, a call.

pub fresh_possible : bidi_possible fresh_bidi ≡ true
unfolding bidi_possible all_zero status_legal part_of
fresh_possible = refl

-- and to register touches nothing that makes a record possible
registered_possible : (b : Bidi) → bidi_possible b ≡ true → bidi_possible (registered_now b) ≡ true
unfolding bidi_possible
registered_possible b h = h

pub post_possible : (b : Bidi) (m : List ℕ) → length m ≡ 4 → bidi_possible b ≡ true → bidi_possible (posted_to b m).bidi ≡ true
unfolding unused_zero
post_possible b m four h =
    let p = apart b h in
    post_cases b m (λ (r : Changed). bidi_possible r.bidi ≡ true) (λ l. h) (λ l f. h)
    (λ l f. together (with_queue b (b.queued + 1) (joined_by b.queue b.queued m))
    (record { few = omega arith; unused = joined_unused 4 b.queued b.queue m four p.unused; legal0 = p.legal0; legal1 = p.legal1 }))

pub status_possible : (b : Bidi) (number s : ℕ) → bidi_possible b ≡ true → bidi_possible (with_status b number s).bidi ≡ true
status_possible b number s h =
    let p = apart b h in
    status_cases b number s (λ (r : Changed). bidi_possible r.bidi ≡ true) h
    (λ l. together (with_statuses b s b.status1) (record { few = p.few; unused = p.unused; legal0 = l; legal1 = p.legal1 }))
    (λ l. together (with_statuses b b.status0 s) (record { few = p.few; unused = p.unused; legal0 = p.legal0; legal1 = l }))

pub call_possible : (b : Bidi) (own number : ℕ) (forced : Bool) (s : ℕ) → bidi_possible b ≡ true → bidi_possible (called_of b own number forced s).bidi ≡ true
unfolding unused_zero
call_possible b own number forced s h =
    let p = apart b h in
    call_cases b own number forced s (λ (r : Called). bidi_possible r.bidi ≡ true) h (λ f. registered_possible b h)
    (λ f q. together (registered_now (with_queue b (b.queued - 1) (after_oldest b.queue)))
    (record { few = omega (arith, p.few); unused = left_unused 4 b.queued b.queue q p.unused; legal0 = p.legal0; legal1 = p.legal1 }))
    (λ f q r. registered_possible b h)
