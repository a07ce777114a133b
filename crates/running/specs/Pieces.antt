-- A LIST IN PIECES: what it is to feed the pieces that a list was cut into. proofs/Cut.antt shows that it comes to an end, and that
-- it gives what the whole list gives.
use Rattle.std.specs.Prelude.{ℕ, ◌+◌, ◌≤◌, List, [], ◌∷◌, Bool, true, ◌≡◌, length, take, drop}
use Rattle.running.specs.Running.{Rule, at_end, at_bad, at_answer, Call, call_of, Story, ended, answering, whole_of}

-- what is known of calls: what call number k, on a board and with these items, promises of its outcome; and what an outcome says
pub record Caller (B I A O : Type 0) : Type 1 where
  pub promise : B → ℕ → List I → O → Type 0
  pub says : O → Call B A

-- FEEDING. On the board b, before call number k, with n items taken so far: these pieces are fed, and this story comes of it. The
-- first of the pieces may be what an earlier call left of one. Of a call nothing is known but its promise; one that is refused at
-- once has no place here. Each piece, an empty one too, is handed to calls until one of them takes it to its end; but where
-- nothing is left of a piece, a caller with `spares` true may go to the next piece without a call.
pub data PiecesFed {B I A O : Type 0} (caller : Caller B I A O) (spares : Bool) : B → ℕ → ℕ → List (List I) → Story B A → Type 0 where
  -- no piece is left
  all_fed : {b : B} {k n : ℕ} → PiecesFed caller spares b k n [] (ended b n 0)
  -- a call took the piece to its end: the next piece
  used_up : {b : B} {k n : ℕ} {piece : List I} {pieces : List (List I)} {s : Story B A} (o : O)
      → caller.promise b k piece o → (caller.says o).stop ≡ at_end
      → PiecesFed caller spares (caller.says o).board (k + 1) (n + (caller.says o).taken) pieces s
      → PiecesFed caller spares b k n (piece ∷ pieces) s
  -- a call stopped at an answer: it comes before those of the story, and the rest of the piece is fed
  stopped : {b : B} {k n : ℕ} {piece : List I} {pieces : List (List I)} {s : Story B A} (o : O) (a : A)
      → caller.promise b k piece o → (caller.says o).stop ≡ at_answer a
      → PiecesFed caller spares (caller.says o).board (k + 1) (n + (caller.says o).taken) (drop (caller.says o).taken piece ∷ pieces) s
      → PiecesFed caller spares b k n (piece ∷ pieces) (answering (n + (caller.says o).taken) a s)
  -- a call met a bad item: this ends it all
  bad_item : {b : B} {k n : ℕ} {piece : List I} {pieces : List (List I)} (o : O) (number : ℕ)
      → caller.promise b k piece o → (caller.says o).stop ≡ at_bad number
      → PiecesFed caller spares b k n (piece ∷ pieces) (ended (caller.says o).board (n + (caller.says o).taken) number)
  -- nothing is left of a piece, and the call is spared
  nothing_left : {b : B} {k n : ℕ} {pieces : List (List I)} {s : Story B A}
      → spares ≡ true → PiecesFed caller spares b k n pieces s → PiecesFed caller spares b k n ([] ∷ pieces) s

-- AN UNFINISHED FEEDING: so many calls were made by now, in the same ways, and it may stop anywhere
pub data Going {B I A O : Type 0} (caller : Caller B I A O) (spares : Bool) : B → ℕ → List (List I) → ℕ → Type 0 where
  by_now : {b : B} {k : ℕ} {pieces : List (List I)} → Going caller spares b k pieces 0
  piece_done : {b : B} {k : ℕ} {piece : List I} {pieces : List (List I)} {calls : ℕ} (o : O)
      → caller.promise b k piece o → (caller.says o).stop ≡ at_end
      → Going caller spares (caller.says o).board (k + 1) pieces calls
      → Going caller spares b k (piece ∷ pieces) (1 + calls)
  on_from_there : {b : B} {k : ℕ} {piece : List I} {pieces : List (List I)} {calls : ℕ} (o : O) (a : A)
      → caller.promise b k piece o → (caller.says o).stop ≡ at_answer a
      → Going caller spares (caller.says o).board (k + 1) (drop (caller.says o).taken piece ∷ pieces) calls
      → Going caller spares b k (piece ∷ pieces) (1 + calls)
  at_bad_item : {b : B} {k : ℕ} {piece : List I} {pieces : List (List I)} (o : O) (number : ℕ)
      → caller.promise b k piece o → (caller.says o).stop ≡ at_bad number
      → Going caller spares b k (piece ∷ pieces) 1
  spared : {b : B} {k : ℕ} {pieces : List (List I)} {calls : ℕ}
      → spares ≡ true → Going caller spares b k pieces calls → Going caller spares b k ([] ∷ pieces) calls

-- what is asked of one way of cutting: a feeding that comes to its end there is; none, finished or not, makes more calls than there
-- are items and pieces; and each that comes to its end gives the whole list's story: board, answers with their places, count of good
-- items, number of the bad one (so there is but one outcome)
pub record AsTheWhole {B I A O : Type 0} (rule : Rule B I A) (caller : Caller B I A O) (spares : Bool) (b : B)
    (recording : List I) (pieces : List (List I)) : Type 0 where
  pub ends : (s : Story B A) × PiecesFed caller spares b 0 0 pieces s
  pub few_calls : (calls : ℕ) → Going caller spares b 0 pieces calls → calls ≤ length recording + length pieces
  pub same : (s : Story B A) → PiecesFed caller spares b 0 0 pieces s → s ≡ whole_of rule b 0 recording

-- what makes a caller's calls runs of the rule, on every board that is Good: some outcome fulfils the promise; each that does says
-- what the rule's call gives; and that call leaves a good board
pub record Faithful {B I A O : Type 0} (rule : Rule B I A) (caller : Caller B I A O) (Good : B → Type 0) : Type 0 where
  pub some_outcome : (b : B) (k : ℕ) (piece : List I) → Good b → (o : O) × caller.promise b k piece o
  pub says_so : (b : B) (k : ℕ) (piece : List I) (o : O) → Good b → caller.promise b k piece o → caller.says o ≡ call_of rule b 0 piece
  pub stays_good : (b : B) (piece : List I) → Good b → Good (call_of rule b 0 piece).board

-- a list cut into pieces of these lengths, and what is left
unfoldable pub cut_at : {I : Type 0} → List ℕ → List I → List (List I)
cut_at [] recording = recording ∷ []
cut_at (k ∷ ks) recording = take k recording ∷ cut_at ks (drop k recording)
