-- Who answers a call, with what, and how often the empty answer comes.
use Prim.Native.Nat.{ℕ, ◌-◌, ◌≤◌, ◌<◌}
use mathlib.Core.Bool.{Bool, true, false, false≢true}
use mathlib.Core.List.{List, [], ◌∷◌}
use mathlib.Core.Logic.{◌⊎◌, inl, inr, ⊎_elim}
use mathlib.Core.Path.{◌≡◌, refl, sym, ◌∙◌, ap}
use native.Mathlib.Omega.{arith}
use lib.Dec.{ltb, leb, eqb}
use lib.ListN.{length}
use lib.Seq.{length-take-le}
use borrow.Author.Tests.{ltb-true, ltb-false, eq-eqb, ne_eqb, lt-ltb, le-leb, lt-leb}
use Rattle.bits.proofs.Tests.{by, clash}
use Rattle.bidi.specs.declared.record.Bidi.{Bidi}
use Rattle.std.proofs.Common.{Option, Some, None}
use Rattle.bidi.specs.declared.record.Called.{Called as Given}
use Rattle.slots.specs.Slots as Slots
use Rattle.bidi.specs.Bidi.{Changed, Called, with_queue, oldest, after_oldest, silent, with_reply, called_as, answered_call, empty_reply, forced_reply, unforced, called_of}
use Rattle.bidi.specs.Actions.{Action, post, status, call, message_bytes, after_action, without_message, empty_answer, empty_answers}
use Rattle.bidi.proofs.Refusals.{post_cases, status_cases}

-- ---- What a call gives, by cases: no answer, the statuses, the oldest message, the empty answer.

pub call_cases : (b : Bidi) (own number : ℕ) (forced : Bool) (s : ℕ) (P : Called → Type 0)
    → P (silent b)
    → (forced ≡ true → P (answered_call (forced_reply b s) b))
    → (forced ≡ false → 0 < b.queued → P (answered_call (oldest b.queue) (with_queue b (b.queued - 1) (after_oldest b.queue))))
    → (forced ≡ false → b.queued ≡ 0 → b.registered ≡ false → P (answered_call empty_reply b))
    → P (called_of b own number forced s)
unfolding called_of unforced
call_cases b own number forced s P quiet statuses next empty =
    by (eqb number 0) (λ e. rw e quiet)
    (λ e. by (eqb number own)
    (λ o. by forced (λ f. simp (e, o, f) (statuses f))
    (λ f. by (ltb 0 b.queued) (λ q. simp (e, o, f, q) (next f (ltb-true 0 b.queued q)))
    (λ q. by b.registered (λ r. simp (e, o, f, q, r) quiet)
    (λ r. simp (e, o, f, q, r) (empty f (omega (arith, ltb-false 0 b.queued q)) r)))))
    (λ o. simp (e, o) quiet))

-- ---- Who answers.

module _ (b : Bidi) where
  -- 0 is nobody
  pub nobody_answers : (own : ℕ) (forced : Bool) (s : ℕ) → called_of b own 0 forced s ≡ silent b
  unfolding called_of
  nobody_answers own forced s = refl

  -- a module with another number says nothing
  pub others_silent : (own number : ℕ) (forced : Bool) (s : ℕ) → (number ≡ own → ⊥) → called_of b own number forced s ≡ silent b
  unfolding called_of
  others_silent own number forced s other = by (eqb number 0) (λ e. rw e) (λ e. simp (e, ne_eqb number own other))

  module _ (own : ℕ) (is : 0 < own) (s : ℕ) where
    mine : eqb own 0 ≡ false
    mine = ne_eqb own 0 (λ e. omega arith)

    -- a forced call is answered always, and leaves all but the registration
    pub forced_answer : called_of b own own true s ≡ answered_call (forced_reply b s) b
    unfolding called_of
    forced_answer = simp (mine, eq-eqb own own refl)

    -- a call that is not forced: the oldest message, which leaves the queue
    pub oldest_answer : 0 < b.queued → called_of b own own false s ≡ answered_call (oldest b.queue) (with_queue b (b.queued - 1) (after_oldest b.queue))
    unfolding called_of unforced
    oldest_answer some = simp (mine, eq-eqb own own refl, lt-ltb 0 b.queued some)

    -- with none, the empty answer at the first call acknowledged
    pub empty_answer_lem : b.queued ≡ 0 → b.registered ≡ false → called_of b own own false s ≡ answered_call empty_reply b
    unfolding called_of unforced
    empty_answer_lem none new = simp (mine, eq-eqb own own refl, none, new)

  -- later none: nothing is said and nothing changes, whoever is called
  pub later_silent : (own number : ℕ) (s : ℕ) → b.queued ≡ 0 → b.registered ≡ true → called_of b own number false s ≡ silent b
  later_silent own number s none known =
      call_cases b own number false s (λ (r : Called). r ≡ silent b) refl (λ f. clash f refl)
      (λ f q. let z : ⊥ = omega arith in absurd z) (λ f q r. clash known r)

  -- status numbers 0 or 1: both statuses; 2 or 3: the empty command
  pub statuses_reply : (s : ℕ) → s ≤ 1 → forced_reply b s ≡ 0x8A ∷ b.status0 ∷ 0x8A ∷ b.status1 ∷ []
  unfolding forced_reply
  statuses_reply s h = rw (le-leb s 1 h)

  pub no_status_reply : (s : ℕ) → 1 < s → forced_reply b s ≡ empty_reply
  unfolding forced_reply
  no_status_reply s h = rw (lt-leb s 1 h)

  -- every reply has four bytes
  pub reply_four : (own number : ℕ) (forced : Bool) (s : ℕ) → length b.queue ≡ 32 → length (called_of b own number forced s).reply ≡ 4
  unfolding forced_reply Slots.oldest
  reply_four own number forced s whole =
      call_cases b own number forced s (λ (r : Called). length r.reply ≡ 4) refl
      (λ f. by (leb s 1) (λ e. rw e refl) (λ e. rw e refl))
      (λ f q. length-take-le 4 b.queue (omega arith)) (λ f q r. refl)

-- ---- Registration.

-- an acknowledged call registers
pub registers : (b : Bidi) (own number : ℕ) (forced : Bool) (s : ℕ) → (called_of b own number forced s).acknowledged ≡ true → (called_of b own number forced s).bidi.registered ≡ true
registers b own number forced s =
    call_cases b own number forced s (λ (r : Called). r.acknowledged ≡ true → r.bidi.registered ≡ true)
    (λ h. clash h refl) (λ f h. refl) (λ f q h. refl) (λ f q r h. refl)

-- and no post, status or call takes that back: a restart alone does
pub stays_registered : (b : Bidi) (a : Action) → b.registered ≡ true → (after_action b a).registered ≡ true
unfolding after_action
stays_registered b (post h d k e) known =
    post_cases b (message_bytes h d k e) (λ (r : Changed). r.bidi.registered ≡ true) (λ l. known) (λ l f. known) (λ l f. known)
stays_registered b (status number value) known =
    status_cases b number value (λ (r : Changed). r.bidi.registered ≡ true) known (λ l. known) (λ l. known)
stays_registered b (call own number forced s) known =
    call_cases b own number forced s (λ (r : Called). r.bidi.registered ≡ true) known (λ f. refl) (λ f q. refl) (λ f q r. refl)

-- ---- THE EMPTY ANSWER COMES AT MOST ONCE between restarts, whatever is posted, set and called.

none_now : (b : Bidi) (a : Action) → b.registered ≡ true → empty_answer b a ≡ 0
unfolding empty_answer
none_now b (post h d k e) known = refl
none_now b (status number value) known = refl
none_now b (call own number forced s) known =
    call_cases b own number forced s (λ (r : Called). without_message b forced r ≡ 0) refl
    (λ f. rw f) (λ f q. simp (f, ne_eqb b.queued 0 (λ e. omega arith))) (λ f q r. clash known r)

pub none_when_registered : (actions : List Action) (b : Bidi) → b.registered ≡ true → empty_answers b actions ≡ 0
unfolding empty_answers
none_when_registered [] b known = refl
none_when_registered (a ∷ rest) b known = rw (none_now b a known, none_when_registered rest (after_action b a) (stays_registered b a known))

now_or_later : (b : Bidi) (a : Action) → (empty_answer b a ≡ 0) ⊎ ((empty_answer b a ≡ 1) × ((after_action b a).registered ≡ true))
unfolding empty_answer after_action
now_or_later b (post h d k e) = inl refl
now_or_later b (status number value) = inl refl
now_or_later b (call own number forced s) =
    call_cases b own number forced s
    (λ (r : Called). (without_message b forced r ≡ 0) ⊎ ((without_message b forced r ≡ 1) × (r.bidi.registered ≡ true)))
    (inl refl) (λ f. inl (rw f)) (λ f q. inl (simp (f, ne_eqb b.queued 0 (λ e. omega arith)))) (λ f q r. inr (simp (f, q), refl))

pub empty_once : (actions : List Action) (b : Bidi) → empty_answers b actions ≤ 1
unfolding empty_answers
empty_once [] b = omega arith
empty_once (a ∷ rest) b =
    ⊎_elim (λ e. rw e (omega (arith, empty_once rest (after_action b a))))
    (λ e. rw (e.0, none_when_registered rest (after_action b a) e.1) (omega arith)) (now_or_later b a)

-- ---- What a call gives says its answer whole: no two that it may give say one.

replied_once : (r t : Option (List ℕ)) (b c : Bidi) → with_reply r b ≡ with_reply t c → (r ≡ t) × (b ≡ c)
replied_once (Some r) (Some t) b c e = (ap (λ (a : Called). Some a.reply) e, ap (λ (a : Called). a.bidi) e)
replied_once (Some r) None b c e = absurd (false≢true (sym (ap (λ (a : Called). a.acknowledged) e)))
replied_once None (Some t) b c e = absurd (false≢true (ap (λ (a : Called). a.acknowledged) e))
replied_once None None b c e = (refl, ap (λ (a : Called). a.bidi) e)

pub called_once : (one other : Given) → called_as one ≡ called_as other → one ≡ other
called_once one other e =
    let same = replied_once one.reply other.reply one.bidi other.bidi e in
    ap (λ (r : Option (List ℕ)). answer_of r one.bidi) same.0 ∙ ap (λ (b : Bidi). answer_of other.reply b) same.1
  where
    answer_of : Option (List ℕ) → Bidi → Given
    answer_of reply bidi = record { reply = reply; bidi = bidi }
