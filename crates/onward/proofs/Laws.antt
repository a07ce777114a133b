-- Going on: each turn of a feeding goes on, none goes past the end, and a reply has its room.
use Prim.Native.Nat.{ℕ, ◌+◌, ◌-◌, ◌≤◌, ◌<◌}
use mathlib.Core.List.{List, [], ◌∷◌}
use mathlib.Core.Path.{◌≡◌, refl, sym, ◌∙◌, ap}
use native.Mathlib.Omega.{arith}
use lib.Dec.{eqb, ltb}
use lib.ListN.{length, take, drop, length-drop, drop_of_length-le}
use lib.Seq.{drop-length, take_all}
use borrow.Author.Tests.{eqb-true, ltb-true, ltb-false}
use Rattle.bits.proofs.Tests.{by}
use Rattle.line.specs.Wire.{Edge, edges_of}
use Rattle.store.specs.Sheet.{Sheets}
use Rattle.board.specs.Board.{Board, board_refusal}
use Rattle.board.proofs.Checked.{right, room_long}
use Rattle.module.specs.Feed.{Answer, Refused, BadEdge, Silent, Acknowledged, run_of, feed_by, feed_of}
use Rattle.module.proofs.Edges.{run_right}
use Rattle.module.proofs.Stops.{run_takes, run_spares}
use Rattle.onward.specs.Stop as stop
use Rattle.onward.specs.Onward.{Onward, start_of, edges_behind, place_after, stop_of, onward_of}

-- ---- The start.

pub start_within : (at n : ℕ) → start_of at n ≤ n
unfolding start_of
start_within at n = by (ltb at n) (λ l. simp l (let h = ltb-true at n l in omega arith)) (λ l. simp l (omega arith))

start_inside : (at n : ℕ) → at ≤ n → start_of at n ≡ at
unfolding start_of
start_inside at n h = by (ltb at n) (λ l. simp l) (λ l. simp l (let g = ltb-false at n l in omega arith))

-- the part of a list from a place to its end
pub rest : (l : List ℕ) (i : ℕ) → take (length l - i) (drop i l) ≡ drop i l
rest l i = take_all (length l - i) (drop i l) (rw (length-drop i l) (omega arith))

-- what is behind the start is what is behind the place
pub drop_start : (l : List ℕ) (at : ℕ) → drop (start_of at (length l)) l ≡ drop at l
unfolding start_of
drop_start l at =
    by (ltb at (length l)) (λ h. simp h)
    (λ h. let g : length l ≤ at = ltb-false at (length l) h in simp h (drop-length l ∙ sym (drop_of_length-le l g)))

-- ---- What an answer says of so many edges, fed with a room of so many bytes.

abbrev pub AnswerFits : ℕ → ℕ → Answer → Type 0
AnswerFits n room (Refused number) = Unit {0}
AnswerFits n room (BadEdge number edges) = edges < n
AnswerFits n room (Silent edges) = Unit {0}
AnswerFits n room (Acknowledged edges reply) = (0 < edges) × (edges ≤ n) × (reply ≤ 84) × (reply ≤ room)

edges_few : (times levels : List ℕ) → length (edges_of times levels) ≤ length times
unfolding edges_of
edges_few [] levels = omega arith
edges_few (t ∷ ts) [] = omega arith
edges_few (t ∷ ts) (l ∷ ls) = omega (arith, edges_few ts ls)

run_told : (b : Board) (sheets : Sheets) (room : List ℕ) (es : List Edge) → board_refusal b sheets room ≡ 0 → (a : Answer)
    → (run_of b sheets room 0 es).answer ≡ a → AnswerFits (length es) (length room) a
run_told b sheets room es z (Refused number) h = tt
run_told b sheets room es z (BadEdge number edges) h = let s = run_spares b sheets room 0 es number edges h in omega arith
run_told b sheets room es z (Silent edges) h = tt
run_told b sheets room es z (Acknowledged edges reply) h =
    let t = run_takes b sheets room 0 es edges reply h in
    let r = right b sheets room z in
    let s : reply ≤ 84 = rw h at (run_right sheets room es b 0 r).short in
    let long = room_long b.states b.store sheets room r.buffers in
    (t.0, omega arith, s, omega arith)

more_edges : (n m room : ℕ) → n ≤ m → (a : Answer) → AnswerFits n room a → AnswerFits m room a
more_edges n m room h (Refused number) t = tt
more_edges n m room h (BadEdge number edges) t = omega arith
more_edges n m room h (Silent edges) t = tt
more_edges n m room h (Acknowledged edges reply) t = (t.0, omega arith, t.2, t.3)

pub feed_told : (b : Board) (sheets : Sheets) (room times levels : List ℕ) → AnswerFits (length times) (length room) (feed_of b sheets room times levels).answer
unfolding feed_by
feed_told b sheets room times levels =
    by (eqb (board_refusal b sheets room) 0)
    (λ z. by (eqb (length times) (length levels))
    (λ l. simp (z, l)
    (let a = (run_of b sheets room 0 (edges_of times levels)).answer in
    more_edges (length (edges_of times levels)) (length times) (length room) (edges_few times levels) a
    (run_told b sheets room (edges_of times levels) (eqb-true _ _ z) a refl)))
    (λ l. simp (z, l) tt))
    (λ z. simp z tt)

-- ---- The place.

told_count : (n m : ℕ) (a : Answer) → AnswerFits n m a → edges_behind a ≤ n
told_count n m (Refused number) t = omega arith
told_count n m (BadEdge number edges) t = omega arith
told_count n m (Silent edges) t = omega arith
told_count n m (Acknowledged edges reply) t = t.1

-- the edges that are behind by a feed's answer are edges that it was lent
pub fits_behind : (times : List ℕ) (start : ℕ) → start ≤ length times → (b : Board) (sheets : Sheets) (room levels : List ℕ)
    → start + edges_behind (feed_of b sheets room (drop start times) levels).answer ≤ length times
fits_behind times start h b sheets room levels =
    let a = (feed_of b sheets room (drop start times) levels).answer in
    let t = told_count (length (drop start times)) (length room) a (feed_told b sheets room (drop start times) levels) in
    omega (arith, length-drop start times, t)

place_within : (n start : ℕ) (a : Answer) → start + edges_behind a ≤ n → place_after n start a ≤ n
place_within n start (Refused number) h = omega arith
place_within n start (BadEdge number edges) h = omega arith
place_within n start (Silent edges) h = omega arith
place_within n start (Acknowledged edges reply) h = h

place_on : (n k m start : ℕ) (a : Answer) → AnswerFits k m a → start < n → start < place_after n start a
place_on n k m start (Refused number) t h = h
place_on n k m start (BadEdge number edges) t h = omega arith
place_on n k m start (Silent edges) t h = h
place_on n k m start (Acknowledged edges reply) t h = omega (arith, t.0)

told_short : (n m reply : ℕ) (a : Answer) → AnswerFits n m a → stop_of a ≡ stop.Acknowledged reply → (reply ≤ 84) × (reply ≤ m)
told_short n m reply (Refused number) t h = let z : ◌≡◌ {A = ℕ} 0 1 = cc in let y : ⊥ = omega arith in absurd y
told_short n m reply (BadEdge number edges) t h = let z : ◌≡◌ {A = ℕ} 0 1 = cc in let y : ⊥ = omega arith in absurd y
told_short n m reply (Silent edges) t h = let z : ◌≡◌ {A = ℕ} 0 1 = cc in let y : ⊥ = omega arith in absurd y
told_short n m reply (Acknowledged edges length) t h = let e : length ≡ reply = cc in (omega (arith, t.2, e), omega (arith, t.3, e))

-- ---- THE LAWS of a turn, by what `feed` promises of it.

module _ {turn : Onward} (b : Board) (sheets : Sheets) (room times levels : List ℕ) (at : ℕ)
    (promise : turn ≡ onward_of b sheets room times levels at) where
  abbrev answered : Answer
  answered = (feed_of b sheets room (drop at times) (drop at levels)).answer

  place : turn.at ≡ place_after (length times) (start_of at (length times)) answered
  unfolding onward_of
  place = ap (λ (x : Onward). x.at) promise

  -- no turn goes past the end
  pub never_past : turn.at ≤ length times
  never_past =
      let f = fits_behind times (start_of at (length times)) (start_within at (length times)) b sheets room (drop at levels) in
      rw place (place_within (length times) (start_of at (length times)) answered (rw (drop_start times at) at f))

  -- a turn before the end goes on
  pub goes_on : at < length times → at < turn.at
  goes_on h =
      let s = start_inside at (length times) (omega arith) in
      let p = place_on (length times) (length (drop at times)) (length room) (start_of at (length times)) answered (feed_told b sheets room (drop at times) (drop at levels)) (omega arith) in
      omega (arith, place, s, p)

  -- a reply has at most 84 bytes, and they stand in the room
  pub short_reply : (reply : ℕ) → turn.stop ≡ stop.Acknowledged reply → (reply ≤ 84) × (reply ≤ length room)
  unfolding onward_of
  short_reply reply h =
      told_short (length (drop at times)) (length room) reply answered (feed_told b sheets room (drop at times) (drop at levels)) (sym (ap (λ (x : Onward). x.stop) promise) ∙ h)
