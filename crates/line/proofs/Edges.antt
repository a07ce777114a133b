-- What `Receiver::edge` answers: when it refuses, what a refusal leaves, and that right edges given to it in turn are heard.
use Prim.Native.Nat.{ℕ, ◌+◌, ◌≤◌, ◌<◌}
use mathlib.Core.Bool.{true, false}
use mathlib.Core.List.{List, [], ◌∷◌}
use mathlib.Core.Logic.{◌↔◌}
use mathlib.Core.Path.{◌≡◌, refl, ◌∙◌, ap}
use native.Mathlib.Omega.{arith}
use lib.Dec.{ltb, eqb}
use lib.ListN.{length, replicate}
use borrow.Author.Tests.{ltb-true, ltb-false, lt-ltb, le-ltb}
use Rattle.bits.proofs.Tests.{by}
use Rattle.line.specs.declared.receiver.Receiver.{Receiver}
use Rattle.line.specs.Line.{EdgeAnswer, packet_length, with_bits, holding, quiet, receiver_possible, paused_of, byte_of, bit_of, step_of, edge_refusal, refusing, answer_of}
use Rattle.line.specs.Wire.{Edge, hearing, RightEdges, answers_to}
use Rattle.line.proofs.Laws.{paused_last, paused_marked, step_possible}

-- nothing refused
abbrev pub taken_as : Receiver → ℕ → ℕ → EdgeAnswer
taken_as r time level = record { refusal = 0; heard = step_of r time level }

-- ---- Rows 2 and 3.

module _ (r : Receiver) (time level : ℕ) where
  -- 2 for a level over 1, whatever the time
  pub bad_level : 1 < level → edge_refusal r time level ≡ 2
  unfolding edge_refusal
  bad_level l = simp (lt-ltb _ _ l)

  -- else 3 for a time below the last edge's
  pub bad_time : level ≤ 1 → time < r.last → edge_refusal r time level ≡ 3
  unfolding edge_refusal
  bad_time l t = simp (le-ltb _ _ l, lt-ltb _ _ t)

  pub good_edge : level ≤ 1 → r.last ≤ time → edge_refusal r time level ≡ 0
  unfolding edge_refusal
  good_edge l t = simp (le-ltb _ _ l, le-ltb _ _ t)

  -- and there is no other number
  pub refusal_cases : (P : ℕ → Type 0)
      → (1 < level → P 2)
      → (level ≤ 1 → time < r.last → P 3)
      → (level ≤ 1 → r.last ≤ time → P 0)
      → P (edge_refusal r time level)
  refusal_cases P high early fine =
      by (ltb 1 level) (λ l. let h = ltb-true _ _ l in rw (bad_level h) (high h))
      (λ l. let h = ltb-false _ _ l in
      by (ltb time r.last) (λ t. let k = ltb-true _ _ t in rw (bad_time h k) (early h k))
      (λ t. let k = ltb-false _ _ t in rw (good_edge h k) (fine h k)))

  pub good_level : edge_refusal r time level ≡ 0 → level ≤ 1
  good_level =
      refusal_cases (λ (n : ℕ). n ≡ 0 → level ≤ 1) (λ h z. let no : ⊥ = omega arith in absurd no) (λ h k z. h) (λ h k z. h)

  pub good_time : edge_refusal r time level ≡ 0 → r.last ≤ time
  good_time =
      refusal_cases (λ (n : ℕ). n ≡ 0 → r.last ≤ time) (λ h z. let no : ⊥ = omega arith in absurd no)
      (λ h k z. let no : ⊥ = omega arith in absurd no) (λ h k z. k)

-- ---- The answer.

module _ (r : Receiver) (time level : ℕ) where
  -- 12 for a receiver that is not possible, whatever the edge
  pub impossible_refused : receiver_possible r ≡ false → answer_of r time level ≡ refusing 12 r
  unfolding answer_of
  impossible_refused p = rw p

  -- else 2 for a level over 1, whatever the time
  pub level_refused : receiver_possible r ≡ true → 1 < level → answer_of r time level ≡ refusing 2 r
  unfolding answer_of
  level_refused p l = simp (p, bad_level r time level l)

  -- else 3 for a time below the last
  pub time_refused : receiver_possible r ≡ true → level ≤ 1 → time < r.last → answer_of r time level ≡ refusing 3 r
  unfolding answer_of
  time_refused p l t = simp (p, bad_time r time level l t)

  -- any other edge is taken
  pub edge_taken : receiver_possible r ≡ true → level ≤ 1 → r.last ≤ time → answer_of r time level ≡ taken_as r time level
  unfolding answer_of
  edge_taken p l t = simp (p, good_edge r time level l t)

  -- and there is no other outcome
  pub edge_cases : (P : EdgeAnswer → Type 0)
      → (receiver_possible r ≡ false → P (refusing 12 r))
      → (receiver_possible r ≡ true → 1 < level → P (refusing 2 r))
      → (receiver_possible r ≡ true → level ≤ 1 → time < r.last → P (refusing 3 r))
      → (receiver_possible r ≡ true → level ≤ 1 → r.last ≤ time → P (taken_as r time level))
      → P (answer_of r time level)
  edge_cases P impossible high early taken =
      by (receiver_possible r)
      (λ p. by (ltb 1 level)
      (λ l. let h = ltb-true 1 level l in rw (level_refused p h) (high p h))
      (λ l. let h = ltb-false 1 level l in
      by (ltb time r.last)
      (λ t. let b = ltb-true time r.last t in rw (time_refused p h b) (early p h b))
      (λ t. let b = ltb-false time r.last t in rw (edge_taken p h b) (taken p h b))))
      (λ p. rw (impossible_refused p) (impossible p))

  abbrev Gives : ℕ → Type 0
  Gives number = (answer_of r time level).refusal ≡ number

  -- EXACTLY WHEN: each number is given where its row of the table says, and nowhere else
  pub refuses_12 : Gives 12 ↔ (receiver_possible r ≡ false)
  refuses_12 = (
    edge_cases (λ (a : EdgeAnswer). a.refusal ≡ 12 → receiver_possible r ≡ false)
        (λ p e. p)
        (λ p l e. let z : ⊥ = omega arith in absurd z)
        (λ p l t e. let z : ⊥ = omega arith in absurd z)
        (λ p l t e. let z : ⊥ = omega arith in absurd z),
    λ p. rw (impossible_refused p),
  )

  pub refuses_2 : Gives 2 ↔ ((receiver_possible r ≡ true) × (1 < level))
  refuses_2 = (
    edge_cases (λ (a : EdgeAnswer). a.refusal ≡ 2 → (receiver_possible r ≡ true) × (1 < level))
        (λ p e. let z : ⊥ = omega arith in absurd z)
        (λ p l e. (p, l))
        (λ p l t e. let z : ⊥ = omega arith in absurd z)
        (λ p l t e. let z : ⊥ = omega arith in absurd z),
    λ h. rw (level_refused h.0 h.1),
  )

  pub refuses_3 : Gives 3 ↔ ((receiver_possible r ≡ true) × (level ≤ 1) × (time < r.last))
  refuses_3 = (
    edge_cases (λ (a : EdgeAnswer). a.refusal ≡ 3 → (receiver_possible r ≡ true) × (level ≤ 1) × (time < r.last))
        (λ p e. let z : ⊥ = omega arith in absurd z)
        (λ p l e. let z : ⊥ = omega arith in absurd z)
        (λ p l t e. (p, l, t))
        (λ p l t e. let z : ⊥ = omega arith in absurd z),
    λ h. rw (time_refused h.0 h.1 h.2),
  )

  pub refuses_nothing : Gives 0 ↔ ((receiver_possible r ≡ true) × (level ≤ 1) × (r.last ≤ time))
  refuses_nothing = (
    edge_cases (λ (a : EdgeAnswer). a.refusal ≡ 0 → (receiver_possible r ≡ true) × (level ≤ 1) × (r.last ≤ time))
        (λ p e. let z : ⊥ = omega arith in absurd z)
        (λ p l e. let z : ⊥ = omega arith in absurd z)
        (λ p l t e. let z : ⊥ = omega arith in absurd z)
        (λ p l t e. (p, l, t)),
    λ h. rw (edge_taken h.0 h.1 h.2),
  )

  -- A REFUSAL LEAVES the receiver as it was and gives no packet
  pub refusal_leaves : (Gives 0 → ⊥) → (answer_of r time level).heard ≡ quiet r
  refusal_leaves =
      edge_cases (λ (a : EdgeAnswer). (a.refusal ≡ 0 → ⊥) → a.heard ≡ quiet r)
      (λ p n. refl) (λ p l n. refl) (λ p l t n. refl) (λ p l t n. absurd (n refl))

  -- POSSIBLE STAYS POSSIBLE, whatever the edge
  pub answer_possible : receiver_possible r ≡ true → receiver_possible (answer_of r time level).heard.receiver ≡ true
  answer_possible h =
      edge_cases (λ (a : EdgeAnswer). receiver_possible a.heard.receiver ≡ true)
      (λ p. h) (λ p l. h) (λ p l t. h) (λ p l t. step_possible r time level h (omega arith) t)

-- a byte changes the held bytes and starts the clock, and does nothing else
pub byte_held : (r : Receiver) (b : ℕ) → (f : ℕ) × (s : ℕ) × (n : ℕ) × ((byte_of r b).receiver ≡ holding r f s n)
unfolding byte_of
byte_held r b =
    by (eqb r.held 0) (λ e. (b, 0, 1, rw e))
    (λ e. by (eqb r.held 1)
    (λ f. by (eqb (packet_length r.first) 3) (λ l. (r.first, b, 2, simp (e, f, l))) (λ l. (0, 0, 0, simp (e, f, l))))
    (λ f. (0, 0, 0, simp (e, f))))

-- an edge's time is then the last one's
byte_last : (r : Receiver) (b : ℕ) → (byte_of r b).receiver.last ≡ r.last
byte_last r b = ap (λ (q : Receiver). q.last) (byte_held r b).3

bit_last : (r : Receiver) (level : ℕ) → (bit_of r level).receiver.last ≡ r.last
unfolding bit_of
bit_last r level = by (eqb r.count 7) (λ e. rw e (byte_last (with_bits r 0 0) _)) (λ e. rw e)

pub step_last : (r : Receiver) (time level : ℕ) → (step_of r time level).receiver.last ≡ time
unfolding step_of
step_last r time level = bit_last (paused_of r time) level ∙ paused_last r time

-- and its clock is marked
byte_marked : (r : Receiver) (b : ℕ) → (byte_of r b).receiver.started ≡ 1
byte_marked r b = ap (λ (q : Receiver). q.started) (byte_held r b).3

pub step_marked : (r : Receiver) (time level : ℕ) → (step_of r time level).receiver.started ≡ 1
unfolding step_of bit_of
step_marked r time level =
    let s = paused_of r time in
    by (eqb s.count 7) (λ e. rw e (byte_marked (with_bits s 0 0) _)) (λ e. rw e (paused_marked r time))

-- RIGHT EDGES ARE HEARD: given to `Receiver::edge` in turn, none is refused, and what comes of it is what `hearing` says
pub right_edges_heard : (es : List Edge) (r : Receiver) (n : ℕ) → receiver_possible r ≡ true → RightEdges r.last es
    → answers_to r n es ≡ record { refusals = replicate (length es) 0; heard = hearing r n es }
unfolding answers_to hearing RightEdges
right_edges_heard [] r n p right = refl
right_edges_heard (e ∷ es) r n p right =
    let next = (step_of r e.time e.level).receiver in
    let s : receiver_possible next ≡ true = step_possible r e.time e.level p right.0 right.1 in
    let q : RightEdges next.last es = rw (step_last r e.time e.level) right.2 in
    rw (edge_taken r e.time e.level p (omega arith) right.1, right_edges_heard es next (n + 1) s q)
