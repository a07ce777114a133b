-- What a board keeps for BiDi, and what it answers to a 0x01 call: document 01, "BiDi (001)".
use Rattle.std.specs.Prelude.{ℕ, ◌+◌, ◌-◌, ◌*◌, List, [], ◌∷◌, Bool, true, false, cond, ◌&&◌, ltb, leb, eqb, drop, replicate, Option, Some, None, Result, Ok, Err}
use Rattle.bidi.specs.declared.record.Bidi.{Bidi}
use Rattle.bidi.specs.declared.record.Called.{Called as Given}
use Rattle.refusals.specs.declared.Refusal.{Refusal}
use Rattle.refusals.specs.Numbers.{paper_number}
use Rattle.slots.specs.Slots.{all_zero, joined_by as entry_joined, oldest as oldest_entry, after_oldest as without_oldest}
use Rattle.bidi.specs.Messages.{message_legal, status_legal}

-- after a restart: statuses, queue and registration are zero
abbrev pub fresh_bidi : Bidi
fresh_bidi = record { status0 = 0; status1 = 0; registered = false; queued = 0; queue = replicate 32 0 }

-- "The queue holds 8 messages of four bytes": one list of bytes, the oldest message first. What is not in use is 0 (`all_zero`).

-- row 12: "an unused .. queue byte not 0, .. queue over 8, reserved status .. bits set"
unfoldable pub bidi_possible : Bidi → Bool
bidi_possible b =
    leb b.queued 8 && all_zero (drop (4 * b.queued) b.queue) && status_legal 0 b.status0 && status_legal 1 b.status1

-- the queue with a message behind those that wait; its oldest message; what is left without that, the freed bytes 0
abbrev pub joined_by : List ℕ → ℕ → List ℕ → List ℕ
joined_by queue queued message = entry_joined 4 queue queued message

abbrev pub oldest : List ℕ → List ℕ
oldest queue = oldest_entry 4 queue

abbrev pub after_oldest : List ℕ → List ℕ
after_oldest queue = without_oldest 4 queue

-- the record with one part of it another
abbrev pub with_queue : Bidi → ℕ → List ℕ → Bidi
with_queue b queued queue = record { status0 = b.status0; status1 = b.status1; registered = b.registered; queued = queued; queue = queue }

abbrev pub with_statuses : Bidi → ℕ → ℕ → Bidi
with_statuses b s0 s1 = record { status0 = s0; status1 = s1; registered = b.registered; queued = b.queued; queue = b.queue }

abbrev pub registered_now : Bidi → Bidi
registered_now b = record { status0 = b.status0; status1 = b.status1; registered = true; queued = b.queued; queue = b.queue }

-- the answer to a post or a status: its refusal's number, 0 for none, and the record after it
pub record Changed : Type 0 where
  pub refusal : ℕ
  pub bidi : Bidi

-- a refusal leaves all
abbrev pub refused_by : ℕ → Bidi → Changed
refused_by number b = record { refusal = number; bidi = b }

abbrev pub changed_to : Bidi → Changed
changed_to b = record { refusal = 0; bidi = b }

abbrev pub changed_as : Bidi → Result Bidi Refusal → Changed
changed_as b (Ok after) = changed_to after
changed_as b (Err why) = refused_by (paper_number why) b

-- a post: 6 "posted message not legal", 7 "queue holds 8"
unfoldable pub posted_to : Bidi → List ℕ → Changed
posted_to b m =
    cond (message_legal m)
    (cond (leb 8 b.queued) (refused_by 7 b) (changed_to (with_queue b (b.queued + 1) (joined_by b.queue b.queued m))))
    (refused_by 6 b)

-- a status: 11 "status number over 1, or status with a reserved bit"
unfoldable pub with_status : Bidi → ℕ → ℕ → Changed
with_status b number s =
    cond (status_legal number s)
    (changed_to (cond (eqb number 0) (with_statuses b s b.status1) (with_statuses b b.status0 s)))
    (refused_by 11 b)

-- the answer to a call: whether it is acknowledged, the reply (0 and not sent without acknowledgement), and the record after it
pub record Called : Type 0 where
  pub acknowledged : Bool
  pub reply : List ℕ
  pub bidi : Bidi

-- a call that is not acknowledged changes nothing; one that is registers
abbrev pub silent : Bidi → Called
silent b = record { acknowledged = false; reply = replicate 4 0; bidi = b }

abbrev pub answered_call : List ℕ → Bidi → Called
answered_call reply b = record { acknowledged = true; reply = reply; bidi = registered_now b }

-- an answer as such a one: a reply is there exactly if the call is acknowledged
abbrev pub with_reply : Option (List ℕ) → Bidi → Called
with_reply (Some reply) b = record { acknowledged = true; reply = reply; bidi = b }
with_reply None b = silent b

abbrev pub called_as : Given → Called
called_as answer = with_reply answer.reply answer.bidi

abbrev pub empty_reply : List ℕ
empty_reply = 0x81 ∷ 0x00 ∷ 0x81 ∷ 0x00 ∷ []

-- "Forced: status numbers 0 or 1 give 8A s0 8A s1; 2 or 3 give 81 00 81 00 (H)."
unfoldable pub forced_reply : Bidi → ℕ → List ℕ
forced_reply b status = cond (leb status 1) (0x8A ∷ b.status0 ∷ 0x8A ∷ b.status1 ∷ []) empty_reply

-- "Not forced: the oldest queued message, which then leaves the queue; with none, 81 00 81 00 at the first 0x01 call
-- acknowledged since restart (forced calls count), later no acknowledgement."
unfoldable pub unforced : Bidi → Called
unforced b =
    cond (ltb 0 b.queued) (answered_call (oldest b.queue) (with_queue b (b.queued - 1) (after_oldest b.queue)))
    (cond b.registered (silent b) (answered_call empty_reply b))

-- THE CALL 0x01 for module `number`, at the module that goes by `own`: "0 is nobody"; "A module with another number says nothing."
unfoldable pub called_of : Bidi → ℕ → ℕ → Bool → ℕ → Called
called_of b own number forced status =
    cond (eqb number 0) (silent b)
    (cond (eqb number own) (cond forced (answered_call (forced_reply b status) b) (unforced b)) (silent b))
