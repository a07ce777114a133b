-- THE CLOCK IS KEPT: after any right edges from a fresh receiver on, its start is the edge that last completed a byte or, with no byte since
-- the restart or the last pause, the first edge since then.
use Prim.Native.Nat.{ℕ, ◌+◌, ◌-◌, ◌*◌, ◌/◌, ◌%◌, ◌≤◌, ◌<◌}
use mathlib.Core.Bool.{true, false}
use mathlib.Core.List.{List, [], ◌∷◌, ◌++◌}
use mathlib.Core.Path.{◌≡◌, refl, sym, ◌∙◌, ap}
use native.Mathlib.Omega.{arith}
use lib.Dec.{eqb, ltb, lit<}
use lib.ListN.{length, length-append, get_or-append}
use lib.Seq.{get_or-append_seam}
use borrow.Author.Tests.{eq-eqb, ne_eqb, eqb-true, eqb-false, ltb-true, ltb-false, lt-ltb, le-ltb}
use Rattle.bits.proofs.Tests.{by}
use Rattle.line.specs.declared.packet.Packet.{Packet}
use Rattle.line.specs.declared.receiver.Receiver.{Receiver}
use Rattle.line.specs.Line.{fresh_receiver, idle_at, at_time, with_bits, late, clock_runs, start_for, is_pause, paused_of, byte_of, bit_of, step_of}
use Rattle.line.specs.Wire.{Edge, Hearing, noting, hearing, last_of}
use Rattle.line.specs.Clock.{clock_start, with_time, since_afresh, Clocked, ClockOf}
use Rattle.line.proofs.Laws.{begins_afresh, goes_on, first_edge_lem}
use Rattle.line.proofs.Edges.{byte_held}

-- ---- one time more

last_more : (t u : ℕ) (g : List ℕ) → last_of u (g ++ (t ∷ [])) ≡ t
unfolding last_of
last_more t u [] = refl
last_more t u (v ∷ g) = last_more t v g

module _ (g : List ℕ) (t : ℕ) where
  more : length (g ++ (t ∷ [])) ≡ length g + 1
  more = length-append g (t ∷ [])

  -- the eighth starts the clock,
  start_moves : length g % 8 ≡ 7 → clock_start (g ++ (t ∷ [])) ≡ t
  unfolding clock_start
  start_moves h =
      let l : 8 * ((length g + 1) / 8) - 1 ≡ length g = omega arith in
      simp (more, le-ltb (length g + 1) 8 (omega arith), l, get_or-append_seam g t [] 0)

  -- any other does not, but for the first
  start_stays : 0 < length g → (length g % 8 ≡ 7 → ⊥) → clock_start (g ++ (t ∷ [])) ≡ clock_start g
  unfolding clock_start
  start_stays some h =
      let l : 8 * ((length g + 1) / 8) - 1 ≡ 8 * (length g / 8) - 1 = omega arith in
      by (ltb (length g) 8)
      (λ e. let few : length g < 8 = ltb-true _ _ e in
      simp (more, e, lt-ltb (length g + 1) 8 (omega arith), get_or-append g (t ∷ []) 0 0 some))
      (λ e. let many : 8 ≤ length g = ltb-false _ _ e in
      simp (more, e, le-ltb (length g + 1) 8 (omega arith), l, get_or-append g (t ∷ []) 0 (8 * (length g / 8) - 1) (omega arith)))

-- ---- one edge more

-- a receiver that is marked keeps its own clock
own_clock : (r : Receiver) → r.started ≡ 1 → Clocked r r.last r.start r.count
own_clock r h = record { last_edge_lem = refl; starts = refl; runs = h; bits_held = refl }

-- a pause is the first edge since then; so is the first edge of all
one_alone : (t level : ℕ) → Clocked (with_bits (idle_at t) level 1) t t 1
one_alone t level = own_clock (with_bits (idle_at t) level 1) refl

-- into a receiver that holds no bit: what starts the clock, or does not, is told by what the gap leaves
pub first_bit : (r : Receiver) (t level : ℕ) → r.count ≡ 0 → Clocked (step_of r t level).receiver t (paused_of r t).start 1
unfolding step_of paused_of bit_of
first_bit r t level h = by (is_pause r t) (λ e. rw e (own_clock _ refl)) (λ e. simp (e, h) (own_clock _ refl))

-- a byte: the clock starts at the last edge
byte_clocked : (r : Receiver) (b : ℕ) → Clocked (byte_of r b).receiver r.last r.last r.count
byte_clocked r b = rw (byte_held r b).3 (own_clock _ refl)

module _ {r : Receiver} {last start count : ℕ} (c : Clocked r last start count) (t level : ℕ) where
  found : start_for r t ≡ start
  unfolding start_for clock_runs
  found = simp c.runs c.starts

  pub pause_told : is_pause r t ≡ late start t
  unfolding is_pause
  pause_told = ap (λ (s : ℕ). late s t) found

  pub afresh_clocked : late start t ≡ true → Clocked (step_of r t level).receiver t t 1
  afresh_clocked h = rw (begins_afresh r t level (pause_told ∙ h)) (one_alone t level)

  module _ (h : late start t ≡ false) where
    goes : step_of r t level ≡ bit_of (at_time r t) level
    goes = goes_on r t level (pause_told ∙ h)

    -- the eighth bit starts the clock, and no other does
    pub eighth_clocked : count ≡ 7 → Clocked (step_of r t level).receiver t t 0
    unfolding bit_of
    eighth_clocked seven = rw (goes, eq-eqb r.count 7 (c.bits_held ∙ seven)) (byte_clocked (with_bits (at_time r t) 0 0) _)

    pub bit_clocked : (count ≡ 7 → ⊥) → Clocked (step_of r t level).receiver t start (count + 1)
    unfolding bit_of
    bit_clocked other =
        rw (goes, ne_eqb r.count 7 (λ e. other (sym c.bits_held ∙ e)))
        (record { last_edge_lem = refl; starts = found; runs = refl; bits_held = ap (λ (k : ℕ). k + 1) c.bits_held })

-- ---- by the times since a restart or pause

-- the same clock, by other words
same_clock : {r : Receiver} {last start count last' start' count' : ℕ} → Clocked r last start count → last ≡ last' → start ≡ start' → count ≡ count'
    → Clocked r last' start' count'
same_clock c l s k = record { last_edge_lem = c.last_edge_lem ∙ l; starts = c.starts ∙ s; runs = c.runs; bits_held = c.bits_held ∙ k }

module _ (g : List ℕ) {r : Receiver} (c : ClockOf g r) (some : 0 < length g) (t level : ℕ) where
  going_on_lem : late (clock_start g) t ≡ false → ClockOf (g ++ (t ∷ [])) (step_of r t level).receiver
  going_on_lem h =
      by (eqb (length g % 8) 7)
      (λ e. let seven : length g % 8 ≡ 7 = eqb-true _ _ e in
      same_clock (eighth_clocked c t level h seven) (sym (last_more t 0 g)) (sym (start_moves g t seven)) (rw (more g t) (omega arith)))
      (λ e. let other : length g % 8 ≡ 7 → ⊥ = eqb-false _ _ e in
      same_clock (bit_clocked c t level h other) (sym (last_more t 0 g)) (sym (start_stays g t some other)) (rw (more g t) (omega arith)))

  step_clock : ClockOf (with_time g t) (step_of r t level).receiver
  unfolding with_time last_of clock_start
  step_clock =
      by (late (clock_start g) t) (λ e. rw e (afresh_clocked c t level e)) (λ e. rw e (going_on_lem e))

  some_times : 0 < length (with_time g t)
  unfolding with_time
  some_times = by (late (clock_start g) t) (λ e. rw e (lit< tt)) (λ e. rw (e, more g t) (omega arith))

-- the first edge of all
first_alone : (t : ℕ) → with_time [] t ≡ t ∷ []
unfolding with_time
first_alone t = by (late (clock_start []) t) (λ e. rw e) (λ e. rw e)

some_first : (t : ℕ) → 0 < length (with_time [] t)
some_first t = rw (first_alone t) (lit< tt)

first_clock : (t level : ℕ) → ClockOf (with_time [] t) (step_of fresh_receiver t level).receiver
unfolding last_of clock_start
first_clock t level = rw (first_alone t, first_edge_lem t level) (one_alone t level)

pub noting_receiver : (p : Packet) (n : ℕ) (h : Hearing) → (noting p n h).receiver ≡ h.receiver
unfolding noting
noting_receiver p n h = by (eqb p.length 0) (λ e. rw e) (λ e. rw e)

goes_on_clocked : (es : List Edge) (g : List ℕ) {r : Receiver} (n : ℕ) → ClockOf g r → 0 < length g → ClockOf (since_afresh g es) (hearing r n es).receiver
unfolding since_afresh hearing
goes_on_clocked [] g n c some = c
goes_on_clocked (e ∷ es) g {r} n c some =
    rw (noting_receiver (step_of r e.time e.level).packet (n + 1) (hearing (step_of r e.time e.level).receiver (n + 1) es))
    (goes_on_clocked es (with_time g e.time) (n + 1) (step_clock g c some e.time e.level) (some_times g c some e.time e.level))

-- THE LAW, from a restart on, n edges having been taken before
pub clock_kept : (e : Edge) (es : List Edge) (n : ℕ) → ClockOf (since_afresh [] (e ∷ es)) (hearing fresh_receiver n (e ∷ es)).receiver
unfolding since_afresh hearing
clock_kept e es n =
    rw (noting_receiver (step_of fresh_receiver e.time e.level).packet (n + 1) (hearing (step_of fresh_receiver e.time e.level).receiver (n + 1) es))
    (goes_on_clocked es (with_time [] e.time) (n + 1) (first_clock e.time e.level) (some_first e.time))
