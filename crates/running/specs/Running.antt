-- RUNNING through a list of items on a board: one call, which stops at the first answer, and the whole list.
use Rattle.std.specs.Prelude.{ℕ, ◌+◌, List, [], ◌∷◌, ◌++◌, Bool, cond, eqb, drop}

-- the rule of one item: the number that refuses it on a board (0: it is good), what a good one leaves of the board, whether it
-- is answered, and with what
pub record Rule (B I A : Type 0) : Type 0 where
  pub bad : B → I → ℕ
  pub after : B → I → B
  pub answered : B → I → Bool
  pub reply : B → I → A

-- why a call stopped: no item was left; the next item is bad, with its number; the last one taken is answered; or the call was
-- refused before its first item, with a number
pub data CallEnd (A : Type 0) : Type 0 where
  at_end : CallEnd A
  at_bad : ℕ → CallEnd A
  at_answer : A → CallEnd A
  at_once : ℕ → CallEnd A

-- what a call leaves: the board, how many items were taken, and why it stopped
pub record Call (B A : Type 0) : Type 0 where
  pub board : B
  pub taken : ℕ
  pub stop : CallEnd A

abbrev pub call : {B A : Type 0} → B → ℕ → CallEnd A → Call B A
call b n stop = record { board = b; taken = n; stop = stop }

-- ONE CALL: items in turn to the first that is answered, to the first bad one, or to the end; n were taken before
unfoldable pub call_of : {B I A : Type 0} → Rule B I A → B → ℕ → List I → Call B A
call_of rule b n [] = call b n at_end
call_of rule b n (i ∷ is) =
    cond (eqb (rule.bad b i) 0)
    (cond (rule.answered b i) (call (rule.after b i) (n + 1) (at_answer (rule.reply b i))) (call_of rule (rule.after b i) (n + 1) is))
    (call b n (at_bad (rule.bad b i)))

-- an answer: the count of items up to the one that is answered, and the reply
pub record Answered (A : Type 0) : Type 0 where
  pub after : ℕ
  pub reply : A

-- what becomes of a whole list: the board, the answers in order, how many items were good, and the number of the bad one that
-- ended it (0: none did)
pub record Story (B A : Type 0) : Type 0 where
  pub board : B
  pub answers : List (Answered A)
  pub taken : ℕ
  pub number : ℕ

abbrev pub ended : {B A : Type 0} → B → ℕ → ℕ → Story B A
ended b n number = record { board = b; answers = []; taken = n; number = number }

-- an answer more, before those of a story
abbrev pub answering : {B A : Type 0} → ℕ → A → Story B A → Story B A
answering n reply s =
    record { board = s.board; answers = record { after = n; reply = reply } ∷ s.answers; taken = s.taken; number = s.number }

-- the nth item's reply comes before those of a story, if the item is answered
unfoldable pub answering_if : {B A : Type 0} → Bool → ℕ → A → Story B A → Story B A
answering_if is-answered n reply s = cond is-answered (answering n reply s) s

-- THE WHOLE LIST: all items in turn, to the end or to the first bad one; n were taken before
unfoldable pub whole_of : {B I A : Type 0} → Rule B I A → B → ℕ → List I → Story B A
whole_of rule b n [] = ended b n 0
whole_of rule b n (i ∷ is) =
    cond (eqb (rule.bad b i) 0)
    (answering_if (rule.answered b i) (n + 1) (rule.reply b i) (whole_of rule (rule.after b i) (n + 1) is))
    (ended b n (rule.bad b i))

-- THE STORY THAT A CALL TELLS, n items being taken. `behind` is the story from behind the piece on, `on` that from the rest of the piece
-- on: at the end it is `behind`; a bad item, or a refusal before the first, ends it; an answer comes before `on`
unfoldable pub story_at : {B A : Type 0} → B → ℕ → Story B A → Story B A → CallEnd A → Story B A
story_at b n behind on at_end = behind
story_at b n behind on (at_bad number) = ended b n number
story_at b n behind on (at_answer reply) = answering n reply on
story_at b n behind on (at_once number) = ended b n number

-- of a piece and what is behind it
abbrev pub story_after : {B I A : Type 0} → Rule B I A → ℕ → List I → List I → Call B A → Story B A
story_after rule n piece behind c =
    story_at c.board (n + c.taken) (whole_of rule c.board (n + c.taken) behind)
    (whole_of rule c.board (n + c.taken) (drop c.taken piece ++ behind)) c.stop
