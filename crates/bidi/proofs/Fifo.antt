-- First in, first out, over any posts, statuses and calls.
use Prim.Native.Nat.{ℕ, ◌+◌, ◌-◌, ◌≤◌, ◌<◌}
use mathlib.Core.Bool.{Bool, true, false, cond}
use mathlib.Core.List.{List, [], ◌∷◌, ◌++◌, append_assoc, append-nil}
use mathlib.Core.Path.{◌≡◌, refl, sym, ◌∙◌, ap}
use native.Mathlib.Omega.{arith}
use lib.Dec.{eqb}
use lib.ListN.{length, take, drop}
use lib.Seq.{take_at, drop_at, length-take-le}
use borrow.Author.Tests.{lt-ltb}
use Rattle.bits.proofs.Tests.{clash}
use Rattle.bidi.specs.declared.record.Bidi.{Bidi}
use Rattle.slots.specs.Slots as Slots
use Rattle.slots.proofs.Joined.{joined_used, oldest_used, joined_length as length_joined, left_length as length_left}
use Rattle.bidi.specs.Bidi.{Changed, Called, bidi_possible, with_queue, registered_now, joined_by, oldest, after_oldest, posted_to, called_of}
use Rattle.bidi.specs.Actions.{Action, post, status, call, message_bytes, waiting, after_action, accepted, from_queue, sent, after_all, accepted_all, sent_all}
use Rattle.bidi.proofs.Refusals.{post_cases, status_cases}
use Rattle.bidi.proofs.Calls.{call_cases, oldest_answer}
use Rattle.bidi.proofs.Possible.{apart, post_possible, status_possible, call_possible}

-- ---- The queue's bytes: a message joins behind those that wait, the oldest leaves before them.

module _ (b : Bidi) (whole : length b.queue ≡ 32) where
  joined_waits : (m : List ℕ) → length m ≡ 4 → b.queued < 8 → waiting (with_queue b (b.queued + 1) (joined_by b.queue b.queued m)) ≡ waiting b ++ m
  unfolding waiting
  joined_waits m four room = joined_used 4 b.queued b.queue m four (omega arith)

  joined_length : (m : List ℕ) → length m ≡ 4 → b.queued < 8 → length (joined_by b.queue b.queued m) ≡ 32
  joined_length m four room = length_joined 4 b.queued b.queue m four (omega arith) ∙ whole

  oldest_waited : 0 < b.queued → b.queued ≤ 8 → oldest b.queue ++ waiting (with_queue b (b.queued - 1) (after_oldest b.queue)) ≡ waiting b
  unfolding waiting
  oldest_waited some few = oldest_used 4 b.queued b.queue some (omega arith)

  -- so the oldest is the front of what waits, and what is left is the rest of it
  oldest_in_front : 0 < b.queued → b.queued ≤ 8
      → (oldest b.queue ≡ take 4 (waiting b)) × (waiting (registered_now (with_queue b (b.queued - 1) (after_oldest b.queue))) ≡ drop 4 (waiting b))
  unfolding waiting Slots.oldest
  oldest_in_front some few =
      let rest = waiting (with_queue b (b.queued - 1) (after_oldest b.queue)) in
      let e = oldest_waited some few in
      (sym (ap (take 4) (sym e) ∙ take_at (oldest b.queue) rest 4 four), sym (ap (drop 4) (sym e) ∙ drop_at (oldest b.queue) rest 4 four))
    where
      four : length (oldest b.queue) ≡ 4
      four = length-take-le 4 b.queue (omega arith)

  left_length : length (after_oldest b.queue) ≡ 32
  left_length = length_left 4 b.queue (omega arith) ∙ whole

-- ---- One action: what it sends out, with what waits then, is what waited, with what it put in.

-- nothing put in
none_in : (b : Bidi) → waiting b ≡ waiting b ++ []
none_in b = sym (append-nil (waiting b))

post_step : (b : Bidi) (m : List ℕ) → length m ≡ 4 → length b.queue ≡ 32
    → waiting (posted_to b m).bidi ≡ waiting b ++ cond (eqb (posted_to b m).refusal 0) m []
post_step b m four whole =
    post_cases b m (λ (r : Changed). waiting r.bidi ≡ waiting b ++ cond (eqb r.refusal 0) m [])
    (λ l. none_in b) (λ l f. none_in b) (λ l f. joined_waits b whole m four f)

call_step : (b : Bidi) (own number : ℕ) (forced : Bool) (s : ℕ) → length b.queue ≡ 32 → b.queued ≤ 8
    → sent b (call own number forced s) ++ waiting (called_of b own number forced s).bidi ≡ waiting b
unfolding sent waiting
call_step b own number forced s whole few =
    call_cases b own number forced s
    (λ (r : Called). from_queue b forced r ++ waiting r.bidi ≡ waiting b) refl
    (λ f. rw f)
    (λ f q. simp (f, lt-ltb 0 b.queued q) (oldest_waited b whole q few))
    (λ f q r. simp (f, q))

step : (b : Bidi) (a : Action) → length b.queue ≡ 32 → b.queued ≤ 8 → sent b a ++ waiting (after_action b a) ≡ waiting b ++ accepted b a
unfolding sent waiting after_action accepted
step b (post h d k e) whole few = post_step b (message_bytes h d k e) refl whole
step b (status number value) whole few =
    status_cases b number value (λ (r : Changed). waiting r.bidi ≡ waiting b ++ []) (none_in b) (λ l. none_in b) (λ l. none_in b)
step b (call own number forced s) whole few = call_step b own number forced s whole few ∙ none_in b

-- ---- An action leaves a possible record possible, and the queue at its length.

pub after_possible : (b : Bidi) (a : Action) → bidi_possible b ≡ true → bidi_possible (after_action b a) ≡ true
unfolding after_action
after_possible b (post h d k e) p = post_possible b (message_bytes h d k e) refl p
after_possible b (status number value) p = status_possible b number value p
after_possible b (call own number forced s) p = call_possible b own number forced s p

pub after_length : (b : Bidi) (a : Action) → length b.queue ≡ 32 → length (after_action b a).queue ≡ 32
unfolding after_action
after_length b (post h d k e) whole =
    post_cases b (message_bytes h d k e) (λ (r : Changed). length r.bidi.queue ≡ 32) (λ l. whole) (λ l f. whole) (λ l f. joined_length b whole (message_bytes h d k e) refl f)
after_length b (status number value) whole =
    status_cases b number value (λ (r : Changed). length r.bidi.queue ≡ 32) whole (λ l. whole) (λ l. whole)
after_length b (call own number forced s) whole =
    call_cases b own number forced s (λ (r : Called). length r.bidi.queue ≡ 32) whole (λ f. whole) (λ f q. left_length b whole) (λ f q r. whole)

-- ---- FIRST IN, FIRST OUT. What was sent out of the queue, in order, followed by what still waits, is what waited at the
-- start followed by what was accepted, in order: nothing is lost, nothing comes twice, nothing overtakes.

pub first_in_first_out : (actions : List Action) (b : Bidi) → length b.queue ≡ 32 → bidi_possible b ≡ true
    → sent_all b actions ++ waiting (after_all b actions) ≡ waiting b ++ accepted_all b actions
unfolding sent_all accepted_all after_all
first_in_first_out [] b whole p = none_in b
first_in_first_out (a ∷ rest) b whole p =
    append_assoc (sent b a) (sent_all (after_action b a) rest) (waiting (after_all (after_action b a) rest))
    ∙ ap (λ (l : List ℕ). sent b a ++ l) (first_in_first_out rest (after_action b a) (after_length b a whole) (after_possible b a p))
    ∙ sym (append_assoc (sent b a) (waiting (after_action b a)) (accepted_all (after_action b a) rest))
    ∙ ap (λ (l : List ℕ). l ++ accepted_all (after_action b a) rest) (step b a whole (apart b p).few)
    ∙ append_assoc (waiting b) (accepted b a) (accepted_all (after_action b a) rest)

-- ---- A message is answered once: a call that is not forced gives the first four bytes that wait, and the others wait on.

pub oldest_first : (b : Bidi) (own s : ℕ) → 0 < own → length b.queue ≡ 32 → bidi_possible b ≡ true → 0 < b.queued
    → ((called_of b own own false s).reply ≡ take 4 (waiting b)) × (waiting (called_of b own own false s).bidi ≡ drop 4 (waiting b))
oldest_first b own s is whole p some =
    rw (oldest_answer b own is s some) (oldest_in_front b whole some (apart b p).few)

-- a forced call leaves the queue alone
pub forced_keeps : (b : Bidi) (own number s : ℕ) → ((called_of b own number true s).bidi.queue ≡ b.queue) × ((called_of b own number true s).bidi.queued ≡ b.queued)
forced_keeps b own number s =
    call_cases b own number true s (λ (r : Called). (r.bidi.queue ≡ b.queue) × (r.bidi.queued ≡ b.queued)) (refl, refl)
    (λ f. (refl, refl)) (λ f q. clash refl f) (λ f q r. (refl, refl))
