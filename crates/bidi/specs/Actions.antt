-- A STEP OF PROOFS: posts, statuses and calls in any order and number: what waits, what was accepted, what was sent.
use Rattle.std.specs.Prelude.{ℕ, ◌+◌, ◌*◌, List, [], ◌∷◌, ◌++◌, Bool, cond, not, ◌&&◌, ltb, eqb, take}
use Rattle.bidi.specs.declared.record.Bidi.{Bidi}
use Rattle.bidi.specs.Bidi.{Called, posted_to, with_status, called_of}

-- a post of two (header, data) halves; a status by number and value; a call by the module's own number, the number called, forced,
-- status number
pub data Action : Type 0 where
  post : ℕ → ℕ → ℕ → ℕ → Action
  status : ℕ → ℕ → Action
  call : ℕ → ℕ → Bool → ℕ → Action

abbrev pub message_bytes : ℕ → ℕ → ℕ → ℕ → List ℕ
message_bytes h d k e = h ∷ d ∷ k ∷ e ∷ []

-- the bytes that wait in the queue, the oldest message first
unfoldable pub waiting : Bidi → List ℕ
waiting b = take (4 * b.queued) b.queue

-- the record that an action leaves
unfoldable pub after_action : Bidi → Action → Bidi
after_action b (post h d k e) = (posted_to b (message_bytes h d k e)).bidi
after_action b (status number value) = (with_status b number value).bidi
after_action b (call own number forced s) = (called_of b own number forced s).bidi

-- what an action puts into the queue: a post that is not refused
unfoldable pub accepted : Bidi → Action → List ℕ
accepted b (post h d k e) = cond (eqb (posted_to b (message_bytes h d k e)).refusal 0) (message_bytes h d k e) []
accepted b (status number value) = []
accepted b (call own number forced s) = []

-- the reply to a call that is acknowledged, not forced, while messages wait; and 1 for such a call while none waits
abbrev pub from_queue : Bidi → Bool → Called → List ℕ
from_queue b forced r = cond (r.acknowledged && not forced && ltb 0 b.queued) r.reply []

abbrev pub without_message : Bidi → Bool → Called → ℕ
without_message b forced r = cond (r.acknowledged && not forced && eqb b.queued 0) 1 0

-- what an action has sent out of the queue
unfoldable pub sent : Bidi → Action → List ℕ
sent b (post h d k e) = []
sent b (status number value) = []
sent b (call own number forced s) = from_queue b forced (called_of b own number forced s)

-- whether an action is a call that is answered with "81 00 81 00" for want of a message: 1, or 0
unfoldable pub empty_answer : Bidi → Action → ℕ
empty_answer b (post h d k e) = 0
empty_answer b (status number value) = 0
empty_answer b (call own number forced s) = without_message b forced (called_of b own number forced s)

-- the same of actions in turn
unfoldable pub after_all : Bidi → List Action → Bidi
after_all b [] = b
after_all b (a ∷ rest) = after_all (after_action b a) rest

unfoldable pub accepted_all : Bidi → List Action → List ℕ
accepted_all b [] = []
accepted_all b (a ∷ rest) = accepted b a ++ accepted_all (after_action b a) rest

unfoldable pub sent_all : Bidi → List Action → List ℕ
sent_all b [] = []
sent_all b (a ∷ rest) = sent b a ++ sent_all (after_action b a) rest

unfoldable pub empty_answers : Bidi → List Action → ℕ
empty_answers b [] = 0
empty_answers b (a ∷ rest) = empty_answer b a + empty_answers (after_action b a) rest
