-- THE FIRMWARE'S ENTRY, `muralintak_edge`: "a thin entry changes their receiver record in place, one edge a call, and gives the
-- packet which that edge completes, if any; it refuses by 12 (held bits and bytes), 2 and 3."
--   * no two different outcomes keep its promise;
--   * 12, 2 and 3 are given exactly when their rows of the table say, no earlier one holding, and no other number is;
--   * a refusal gives no packet and leaves the receiver; any other edge is taken as the definition of an edge says;
--   * a packet is none (length 0, bytes 0), or has the two or three bytes that its first asks for, 0 past a short one's end;
--   * a receiver that is possible stays so;
--   * edges given in turn are heard as the recording is, packet by packet, and a refused edge is as one that never came; what the
--     host encodes is given as that packet at its last edge;
--   * it is none of the imposters.
use Prim.Native.Nat.{ℕ, zero, suc, ◌+◌, ◌*◌, ◌≤◌, ◌<◌}
use mathlib.Core.List.{List, [], ◌∷◌}
use mathlib.Core.Bool.{true, false, ◌&&◌}
use mathlib.Core.Logic.{◌↔◌, ◌⊎◌, inl, inr}
use mathlib.Core.Path.{◌≡◌, refl, sym, ◌∙◌, ap, subst}
use native.Mathlib.Omega.{arith}
use lib.Dec.{eqb}
use lib.ListN.{length, replicate}
use borrow.Author.Tests.{eqb-true}
use Rattle.bits.proofs.Tests.{by, and_right}
use Rattle.line.specs.declared.receiver.Receiver.{Receiver}
use Rattle.line.specs.Line.{EdgeAnswer, no_packet, idle_at, emptied, receiver_possible, step_of, answer_of}
use Rattle.line.specs.Line as L
use Rattle.line.specs.Wire.{Edge, edges_of, levels_of, hearing, RightEdges, Answers, answers_to, OnTime, Later, bytes_of, last_of, Proper, of_two, of_three}
use Rattle.line.proofs.Laws.{bytes_part, paused_possible}
use Rattle.line.proofs.Edges as E
use Rattle.line.proofs.Wire.{two_or_three}
use Rattle.command.specs.declared.Command.{Command}
use Rattle.host.specs.Encode.{encoded_of}
use Rattle.firmware.specs.declared.Outcome.{Outcome}
use Rattle.firmware.specs.InPlace.{InPlace, in_place, in_place_of, outcome_of, EdgeInPlacePromise}
use Rattle.demands.specs.Rows.{Among}
use Rattle.demands.specs.InTurn.{InTurn, no_edge, edge_then, noted_by, refusals_of}
use Rattle.demands.proofs.OnTheWire.{on_the_wire}
use Rattle.module.proofs.Packets.{Small, levels_small}

-- one outcome
pub in_place_determined : (r : Receiver) (time level : ℕ) (p q : InPlace) → EdgeInPlacePromise r time level p → EdgeInPlacePromise r time level q → p ≡ q
unfolding EdgeInPlacePromise
in_place_determined r time level p q k l = k ∙ sym l

-- what the entry gives and leaves is that of `line::Receiver::edge`
pub outcome_is : (r : Receiver) (time level : ℕ) (o : Outcome) (after : Receiver) → EdgeInPlacePromise r time level (in_place o after) → o ≡ outcome_of (answer_of r time level)
unfolding EdgeInPlacePromise in_place_of
outcome_is r time level o after p = ap (λ (x : InPlace). x.outcome) p

pub after_is : (r : Receiver) (time level : ℕ) (o : Outcome) (after : Receiver) → EdgeInPlacePromise r time level (in_place o after) → after ≡ (answer_of r time level).heard.receiver
unfolding EdgeInPlacePromise in_place_of
after_is r time level o after p = ap (λ (x : InPlace). x.receiver) p

module _ (r : Receiver) (time level : ℕ) (o : Outcome) (after : Receiver) (p : EdgeInPlacePromise r time level (in_place o after)) where
  given : o ≡ outcome_of (answer_of r time level)
  given = outcome_is r time level o after p

  left : after ≡ (answer_of r time level).heard.receiver
  left = after_is r time level o after p

  -- the rows: 12, else 2, else 3
  pub in_place_gives_12 : (o.refusal ≡ 12) ↔ (receiver_possible r ≡ false)
  in_place_gives_12 = rw given (E.refuses_12 r time level)

  pub in_place_gives_2 : (o.refusal ≡ 2) ↔ ((receiver_possible r ≡ true) × (1 < level))
  in_place_gives_2 = rw given (E.refuses_2 r time level)

  pub in_place_gives_3 : (o.refusal ≡ 3) ↔ ((receiver_possible r ≡ true) × (level ≤ 1) × (time < r.last))
  in_place_gives_3 = rw given (E.refuses_3 r time level)

  pub in_place_takes : (o.refusal ≡ 0) ↔ ((receiver_possible r ≡ true) × (level ≤ 1) × (r.last ≤ time))
  in_place_takes = rw given (E.refuses_nothing r time level)

  pub in_place_no_other : Among o.refusal (0 ∷ 12 ∷ 2 ∷ 3 ∷ [])
  in_place_no_other =
      rw given (E.edge_cases r time level (λ (x : EdgeAnswer). Among x.refusal (0 ∷ 12 ∷ 2 ∷ 3 ∷ []))
      (λ q. inr (inl refl)) (λ q l. inr (inr (inl refl))) (λ q l t. inr (inr (inr (inl refl)))) (λ q l t. inl refl))

  -- what each leaves: the receiver as it was, and no packet
  pub in_place_refused_leaves : (o.refusal ≡ 0 → ⊥) → (after ≡ r) × (o.packet ≡ no_packet)
  in_place_refused_leaves = rw (given, left) (λ n. let q = E.refusal_leaves r time level n in rw q (refl, refl))

  -- an edge that is not refused: the receiver after it, and the packet that it completes, if any
  pub in_place_taken : o.refusal ≡ 0 → (after ≡ (step_of r time level).receiver) × (o.packet ≡ (step_of r time level).packet)
  in_place_taken = rw (given, left) (λ n. let h = (E.refuses_nothing r time level).0 n in rw (E.edge_taken r time level h.0 h.1 h.2) (refl, refl))

  pub in_place_stays_possible : receiver_possible r ≡ true → receiver_possible after ≡ true
  in_place_stays_possible h = rw left (E.answer_possible r time level h)

-- two bytes are held only where the first asks for three
held_two : (first second held : ℕ) → eqb held 0 ≡ false → eqb held 1 ≡ false → L.bytes_possible first second held ≡ true → L.packet_length first ≡ 3
unfolding L.bytes_possible
held_two first second held e f h =
    let same : L.bytes_possible first second held ≡ (eqb held 2 && eqb (L.packet_length first) 3) = simp (e, f) in
    eqb-true _ _ (and_right (eqb held 2) _ (sym same ∙ h))

-- a byte completes no packet, or one of the two or three bytes that its first asks for
pub byte_packet : (r : Receiver) (b : ℕ) → L.bytes_possible r.first r.second r.held ≡ true → ((L.byte_of r b).packet ≡ no_packet) ⊎ Proper (L.byte_of r b).packet
unfolding L.byte_of L.bytes_possible
byte_packet r b h =
    by (eqb r.held 0) (λ e. rw e (inl refl))
    (λ e. by (eqb r.held 1)
    (λ f. by (eqb (L.packet_length r.first) 3) (λ l. simp (e, f, l) (inl refl)) (λ l. simp (e, f, l) (inr (of_two _ _ (two_or_three _ l)))))
    (λ f. simp (e, f) (inr (of_three _ _ _ (held_two r.first r.second r.held e f h)))))

-- and so does an edge
pub step_packet : (r : Receiver) (time level : ℕ) → receiver_possible r ≡ true → r.last ≤ time → ((step_of r time level).packet ≡ no_packet) ⊎ Proper (step_of r time level).packet
unfolding step_of L.bit_of
step_packet r time level h later =
    let s = L.paused_of r time in
    by (eqb s.count 7) (λ e. rw e (byte_packet (L.with_bits s 0 0) _ (bytes_part s (paused_possible r time h later)))) (λ e. rw e (inl refl))

pub in_place_packet : (r : Receiver) (time level : ℕ) (o : Outcome) (after : Receiver) → EdgeInPlacePromise r time level (in_place o after) → (o.packet ≡ no_packet) ⊎ Proper o.packet
in_place_packet r time level o after p =
    rw (outcome_is r time level o after p) (E.edge_cases r time level (λ (x : EdgeAnswer). (x.heard.packet ≡ no_packet) ⊎ Proper x.heard.packet)
    (λ q. inl refl) (λ q l. inl refl) (λ q l t. inl refl) (λ q l t. step_packet r time level q t))

-- EDGES IN TURN. Any edges can be given, to any receiver
pub in_turn_ends : (es : List Edge) (r : Receiver) → (os : List Outcome) × (end : Receiver) × InTurn r es os end
unfolding EdgeInPlacePromise in_place_of
in_turn_ends [] r = ([], r, no_edge)
in_turn_ends (e ∷ es) r =
    let a = answer_of r e.time e.level in
    let rest = in_turn_ends es a.heard.receiver in
    (outcome_of a ∷ rest.0, rest.1, edge_then e (outcome_of a) a.heard.receiver refl rest.2)

-- what comes of them is what `line::Receiver::edge` makes of them
in_turn_answers : {r end : Receiver} {es : List Edge} {os : List Outcome} (n : ℕ) → InTurn r es os end
    → answers_to r n es ≡ record { refusals = refusals_of os; heard = noted_by n os end }
unfolding answers_to refusals_of noted_by
in_turn_answers n no_edge = refl
in_turn_answers {r} n (edge_then e o next p t) =
    let i = in_turn_answers (n + 1) t in
    rw (outcome_is r e.time e.level o next p, sym (after_is r e.time e.level o next p), i)

-- THE RECORDING IS HEARD: right edges, none of them refused, are heard as exactly the recording's packets, each at its edge, and the
-- receiver is left as the recording leaves it
pub heard_in_turn : {r end : Receiver} {es : List Edge} {os : List Outcome} (n : ℕ) → receiver_possible r ≡ true → RightEdges r.last es → InTurn r es os end
    → (refusals_of os ≡ replicate (length es) 0) × (noted_by n os end ≡ hearing r n es)
heard_in_turn {r} {end} {es} {os} n h right t =
    let q = sym (in_turn_answers n t) ∙ E.right_edges_heard es r n h right in
    (ap (λ (x : Answers). x.refusals) q, ap (λ (x : Answers). x.heard) q)

-- WHAT THE HOST ENCODES, clocked out into a receiver that holds nothing, none of its edges but the first a pause, is given as exactly that
-- packet, at its last edge, and the receiver then holds nothing
right_edges : (ts ls : List ℕ) (start last more : ℕ) → OnTime start last more ts → Small ls → RightEdges last (edges_of ts ls)
unfolding edges_of OnTime RightEdges
right_edges [] ls start last more u s = tt
right_edges (t ∷ ts) [] start last more u s = tt
right_edges (t ∷ ts) (l ∷ ls) start last zero u s = (s.0, u.0, right_edges ts ls t t 7 u.2 s.1)
right_edges (t ∷ ts) (l ∷ ls) start last (suc more) u s = (s.0, u.0, right_edges ts ls start t more u.2 s.1)

right_after : (r : Receiver) (ts ls : List ℕ) → Later r ts → Small ls → RightEdges r.last (edges_of ts ls)
unfolding edges_of Later RightEdges
right_after r [] ls u s = tt
right_after r (t ∷ ts) [] u s = tt
right_after r (t ∷ ts) (l ∷ ls) u s = (s.0, u.0, right_edges ts ls _ t 6 u.1 s.1)

pub encoded_heard_in_turn : (c : Command) → (encoded_of c).refusal ≡ 0 → {r : Receiver} → receiver_possible r ≡ true → r ≡ emptied r
    → (n : ℕ) (ts : List ℕ) → length ts ≡ 8 * (encoded_of c).packet.length → Later r ts
    → {os : List Outcome} {end : Receiver} → InTurn r (edges_of ts (levels_of (bytes_of (encoded_of c).packet))) os end
    → noted_by n os end ≡ record { receiver = idle_at (last_of r.last ts); packets = record { after = n + 8 * (encoded_of c).packet.length; packet = (encoded_of c).packet } ∷ [] }
encoded_heard_in_turn c accepted {r} possible empty n ts long later turn =
    let small = levels_small (bytes_of (encoded_of c).packet) in
    (heard_in_turn n possible (right_after r ts _ later small) turn).1 ∙ (on_the_wire c accepted r empty n ts long later).heard

-- A REFUSED EDGE is as one that never came
pub refused_never_came : {r end : Receiver} {e : Edge} {es : List Edge} {o : Outcome} {os : List Outcome} → InTurn r (e ∷ es) (o ∷ os) end → (o.refusal ≡ 0 → ⊥) → InTurn r es os end
refused_never_came {r} {end} {e} {es} {o} {os} (edge_then d u next p t) n =
    subst (λ (x : Receiver). InTurn x es os end) (in_place_refused_leaves r e.time e.level o next p n).0 t

-- IMPOSTERS, each at one edge: a fresh receiver takes its first edge, and a receiver with 0x24 and seven bits its last
abbrev last_edge : Receiver
last_edge = record { last = 0; start = 0; started = 1; bits = 0; count = 7; first = 0x24; second = 0; held = 1 }

opened : ℕ
unfolding L.packet_length L.clock_runs L.start_for L.late L.is_pause L.paused_of L.byte_of L.bit_of step_of L.bits_possible L.bytes_possible L.clock_possible receiver_possible L.edge_refusal answer_of in_place_of EdgeInPlacePromise
opened = 0

-- the entry that refuses all
pub refuses_all_in_place_rejected : (number : ℕ) (after : Receiver) → (number ≡ 0 → ⊥) → EdgeInPlacePromise L.fresh_receiver 0 0 (in_place (record { refusal = number; packet = no_packet }) after) → ⊥
unfolding opened
refuses_all_in_place_rejected number after n p = n (ap (λ (x : InPlace). x.outcome.refusal) p)

-- the one that stores nothing
pub stores_nothing_in_place_rejected : (o : Outcome) → EdgeInPlacePromise L.fresh_receiver 0 0 (in_place o L.fresh_receiver) → ⊥
unfolding opened
stores_nothing_in_place_rejected o p = let z : ◌≡◌ {A = ℕ} 0 1 = ap (λ (x : InPlace). x.receiver.count) p in omega arith

-- the one that gives no packet
pub no_packet_in_place_rejected : (number : ℕ) (after : Receiver) → EdgeInPlacePromise last_edge 0 1 (in_place (record { refusal = number; packet = no_packet }) after) → ⊥
unfolding opened
no_packet_in_place_rejected number after p = let z : ◌≡◌ {A = ℕ} 0 2 = ap (λ (x : InPlace). x.outcome.packet.length) p in omega arith
