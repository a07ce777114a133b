-- What a call of the feed tells, by the laws of calls on any list of items (`running`).
use Prim.Native.Nat.{ℕ, ◌+◌, ◌≤◌, ◌<◌}
use mathlib.Core.List.{List, []}
use mathlib.Core.Path.{◌≡◌, refl, ◌∙◌, ap}
use native.Mathlib.Omega.{arith}
use lib.ListN.{length, take, drop}
use lib.Seq.{take-append_seam}
use Rattle.running.specs.Running.{CallEnd, at_end, at_bad, at_answer, at_once, Call, call_of}
use Rattle.running.proofs.Calls.{empty_call, call_more, call_takes, call_spares, call_unrefused}
use Rattle.bank.specs.Reply.{at_front}
use Rattle.line.specs.Wire.{Edge}
use Rattle.store.specs.Sheet.{Sheets}
use Rattle.board.specs.Board.{Board}
use Rattle.module.specs.Feed.{Answer}
use Rattle.module.specs.Feed.{Refused, BadEdge, Silent, Acknowledged}
use Rattle.module.specs.Whole.{edge_rule}
use Rattle.module.specs.Feed.{FeedOutcome, ending, tells_at, tells, run_of}

-- the reply stands in the room's first bytes
pub reply_stands : (reply room : List ℕ) → take (length reply) (at_front reply room) ≡ reply
reply_stands reply room = take-append_seam reply (drop (length reply) room)

-- n edges more
unfoldable pub answer_more : ℕ → Answer → Answer
answer_more n (Refused number) = Refused number
answer_more n (BadEdge number edges) = BadEdge number (n + edges)
answer_more n (Silent edges) = Silent (n + edges)
answer_more n (Acknowledged edges bytes) = Acknowledged (n + edges) bytes

abbrev pub more : ℕ → FeedOutcome → FeedOutcome
more n o = ending o.board o.room (answer_more n o.answer)

tells_more : (room : List ℕ) (b : Board) (n taken : ℕ) (stop : CallEnd (List ℕ)) → tells_at room b (n + taken) stop ≡ more n (tells_at room b taken stop)
unfolding tells_at answer_more
tells_more room b n taken at_end = refl
tells_more room b n taken (at_bad number) = refl
tells_more room b n taken (at_answer reply) = refl
tells_more room b n taken (at_once number) = refl

-- what was told, back to where the call stopped
pub record ToldAnswer (n : ℕ) (stop : CallEnd (List ℕ)) (j l : ℕ) : Type 0 where
  pub count : n ≡ j
  pub reply : List ℕ
  pub at : stop ≡ at_answer reply

told_answer : (room : List ℕ) (b : Board) (n : ℕ) (stop : CallEnd (List ℕ)) (j l : ℕ)
    → (tells_at room b n stop).answer ≡ Acknowledged j l → ToldAnswer n stop j l
unfolding tells_at
told_answer room b n at_end j l h = let z : ◌≡◌ {A = ℕ} 0 1 = cc in let y : ⊥ = omega arith in absurd y
told_answer room b n (at_bad number) j l h = let z : ◌≡◌ {A = ℕ} 0 1 = cc in let y : ⊥ = omega arith in absurd y
told_answer room b n (at_answer reply) j l h = record { count = cc; reply = reply; at = refl }
told_answer room b n (at_once number) j l h = let z : ◌≡◌ {A = ℕ} 0 1 = cc in let y : ⊥ = omega arith in absurd y

told_bad : (room : List ℕ) (b : Board) (n : ℕ) (stop : CallEnd (List ℕ)) (number j : ℕ)
    → (tells_at room b n stop).answer ≡ BadEdge number j → (n ≡ j) × (stop ≡ at_bad number)
unfolding tells_at
told_bad room b n at_end number j h = let z : ◌≡◌ {A = ℕ} 0 1 = cc in let y : ⊥ = omega arith in absurd y
told_bad room b n (at_bad other) number j h = (cc, let same : other ≡ number = cc in ap at_bad same)
told_bad room b n (at_answer reply) number j h = let z : ◌≡◌ {A = ℕ} 0 1 = cc in let y : ⊥ = omega arith in absurd y
told_bad room b n (at_once other) number j h = let z : ◌≡◌ {A = ℕ} 0 1 = cc in let y : ⊥ = omega arith in absurd y

told_refused : (room : List ℕ) (b : Board) (n : ℕ) (stop : CallEnd (List ℕ)) (number : ℕ)
    → (tells_at room b n stop).answer ≡ Refused number → stop ≡ at_once number
unfolding tells_at
told_refused room b n at_end number h = let z : ◌≡◌ {A = ℕ} 0 1 = cc in let y : ⊥ = omega arith in absurd y
told_refused room b n (at_bad other) number h = let z : ◌≡◌ {A = ℕ} 0 1 = cc in let y : ⊥ = omega arith in absurd y
told_refused room b n (at_answer reply) number h = let z : ◌≡◌ {A = ℕ} 0 1 = cc in let y : ⊥ = omega arith in absurd y
told_refused room b n (at_once other) number h = let same : other ≡ number = cc in ap at_once same

module _ (b : Board) (sheets : Sheets) (room : List ℕ) where
  -- "An empty piece takes none and changes nothing."
  pub empty_run : (n : ℕ) → run_of b sheets room n [] ≡ ending b room (Silent n)
  unfolding run_of tells_at
  empty_run n = rw (empty_call (edge_rule sheets) b n)

  module _ (n : ℕ) (es : List Edge) where
    abbrev the_call : Call Board (List ℕ)
    the_call = call_of (edge_rule sheets) b n es

    -- a run that begins at n is the run that begins at 0, with n edges more
    pub run_more : run_of b sheets room n es ≡ more n (run_of b sheets room 0 es)
    unfolding run_of
    run_more =
        let c = call_of (edge_rule sheets) b 0 es in
        ap (tells room) (call_more (edge_rule sheets) b n es) ∙ tells_more room c.board n c.taken c.stop

    -- an acknowledged call takes an edge or more, and no more than there are
    pub run_takes : (j l : ℕ) → (run_of b sheets room n es).answer ≡ Acknowledged j l → (n < j) × (j ≤ n + length es)
    unfolding run_of
    run_takes j l h =
        let a = told_answer room the_call.board the_call.taken the_call.stop j l h in
        rw a.count at (call_takes (edge_rule sheets) b n es a.reply a.at)

    -- fewer edges come before a bad one than there are
    pub run_spares : (number j : ℕ) → (run_of b sheets room n es).answer ≡ BadEdge number j → j < n + length es
    unfolding run_of
    run_spares number j h =
        let a = told_bad room the_call.board the_call.taken the_call.stop number j h in
        rw a.0 at (call_spares (edge_rule sheets) b n es number a.1)

    -- a run refuses nothing but an edge
    pub run_unrefused : (number : ℕ) → (run_of b sheets room n es).answer ≡ Refused number → ⊥
    unfolding run_of
    run_unrefused number h =
        call_unrefused (edge_rule sheets) b n es number (told_refused room the_call.board the_call.taken the_call.stop number h)
