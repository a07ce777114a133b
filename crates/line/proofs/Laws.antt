-- The laws of an edge: which packets have three bytes, a possible receiver has room for a bit and stays possible, and what a pause does.
use Prim.Native.Nat.{ℕ, suc, ◌+◌, ◌-◌, ◌*◌, ◌^◌, ◌≤◌, ◌<◌}
use mathlib.Core.Bool.{Bool, true, false, ◌&&◌}
use mathlib.Core.Logic.{◌↔◌}
use mathlib.Core.Path.{◌≡◌, refl, ap}
use native.Mathlib.Omega.{arith}
use native.Mathlib.Nat.{mul-le-mul_right, pow-suc}
use native.Mathlib.Numerals.{add-one}
use lib.Dec.{leb, ltb, eqb}
use lib.Pow.{pow_mono}
use borrow.Author.Tests.{eq-eqb, ne_eqb, leb-true, ltb-true, eqb-true, eqb-false, lt-ltb, le-leb, lt-leb}
use Rattle.bits.proofs.Tests.{by, and_left, and_right, picks}
use Rattle.line.specs.declared.receiver.Receiver.{Receiver}
use Rattle.line.specs.Line.{packet_length, From70To7F, fresh_receiver, idle_at, at_time, with_bits, holding, quiet, bits_possible, bytes_possible, clock_possible, receiver_possible, clock_runs, start_for, late, is_pause, PauseAt, paused_of, byte_of, bit_of, step_of}

-- LENGTHS. C-02: "every first byte from 0x70 to 0x7F is a three-byte packet",
three_there : (first : ℕ) → From70To7F first → packet_length first ≡ 3
unfolding packet_length
three_there first h = search picks

-- and no other is
three_only_there : (first : ℕ) → packet_length first ≡ 3 → From70To7F first
unfolding packet_length
three_only_there first =
    let from = leb 0x70 first in
    let to = leb first 0x7F in
    by (from && to) (λ e h. (leb-true 0x70 first (and_left from to e), leb-true first 0x7F (and_right from to e)))
    (λ e. rw e (λ h. let z : ⊥ = omega arith in absurd z))

pub three_exactly : (first : ℕ) → (packet_length first ≡ 3) ↔ From70To7F first
three_exactly first = (three_only_there first, three_there first)

-- row 12: two held bytes are possible exactly where the first of them begins a packet of three
pub two_possible : (first second : ℕ) → (bytes_possible first second 2 ≡ true) ↔ From70To7F first
unfolding bytes_possible
two_possible first second = (
  λ h. (three_exactly first).0 (eqb-true (packet_length first) 3 h),
  λ h. eq-eqb (packet_length first) 3 ((three_exactly first).1 h),
)

-- what possible says
module _ (r : Receiver) (h : receiver_possible r ≡ true) where
  abbrev bits_right : Bool
  bits_right = bits_possible r.bits r.count

  abbrev bytes_right : Bool
  bytes_right = bytes_possible r.first r.second r.held

  both_right : (bits_right && bytes_right) ≡ true
  unfolding receiver_possible
  both_right = and_left (bits_right && bytes_right) (clock_possible r) h

  pub bits_part : bits_right ≡ true
  bits_part = and_left bits_right bytes_right both_right

  pub bytes_part : bytes_right ≡ true
  bytes_part = and_right bits_right bytes_right both_right

  pub clock_part : clock_possible r ≡ true
  unfolding receiver_possible
  clock_part = and_right (bits_right && bytes_right) (clock_possible r) h

  -- a clock that runs did not start after the last edge, and the start that an edge finds is not after that edge
  pub started_le : clock_runs r ≡ true → r.start ≤ r.last
  unfolding clock_possible
  started_le e = leb-true r.start r.last (rw e at clock_part)

  pub start_le : (t : ℕ) → r.last ≤ t → start_for r t ≤ t
  unfolding start_for
  start_le t l = by (clock_runs r) (λ e. rw e (omega (arith, started_le e))) (λ e. rw e (omega arith))

pub possible_of : (r : Receiver) → bits_possible r.bits r.count ≡ true → bytes_possible r.first r.second r.held ≡ true
    → clock_possible r ≡ true → receiver_possible r ≡ true
unfolding receiver_possible
possible_of r b y c = simp (b, y, c)

pub count_le : (r : Receiver) → receiver_possible r ≡ true → r.count ≤ 7
unfolding bits_possible
count_le r h = leb-true _ _ (and_left (leb r.count 7) (ltb r.bits (2 ^ r.count)) (bits_part r h))

pub bits_lt : (r : Receiver) → receiver_possible r ≡ true → r.bits < 2 ^ r.count
unfolding bits_possible
bits_lt r h = ltb-true _ _ (and_right (leb r.count 7) (ltb r.bits (2 ^ r.count)) (bits_part r h))

-- a bit more has room among one bit more, and in a byte
pub more_lt : (r : Receiver) (level : ℕ) → receiver_possible r ≡ true → level < 2 → r.bits + level * 2 ^ r.count < 2 ^ suc r.count
more_lt r level h l =
    let m : level * 2 ^ r.count ≤ 1 * 2 ^ r.count = mul-le-mul_right (2 ^ r.count) (omega arith) in
    omega (arith, bits_lt r h, pow-suc 2 r.count)

pub more_fits : (r : Receiver) (level : ℕ) → receiver_possible r ≡ true → level < 2 → r.bits + level * 2 ^ r.count < 256
more_fits r level h l =
    let c : suc r.count ≤ 8 = omega (arith, count_le r h) in
    let p : 2 ^ suc r.count ≤ 2 ^ 8 = pow_mono c in
    omega (arith, more_lt r level h l)

-- POSSIBLE STAYS POSSIBLE: over a gap, a byte, a bit, an edge
pub fresh_possible : receiver_possible fresh_receiver ≡ true
unfolding receiver_possible bits_possible bytes_possible clock_possible clock_runs
fresh_possible = refl

pub idle_possible : (t : ℕ) → receiver_possible (idle_at t) ≡ true
unfolding receiver_possible bits_possible bytes_possible clock_possible clock_runs
idle_possible t = le-leb t t (omega arith)

-- a clock that runs is possible where it did not start after the last edge
running_possible : (r : Receiver) → clock_runs r ≡ true → r.start ≤ r.last → clock_possible r ≡ true
unfolding clock_possible
running_possible r e l = simp (e, le-leb _ _ l)

pub paused_possible : (r : Receiver) (t : ℕ) → receiver_possible r ≡ true → r.last ≤ t → receiver_possible (paused_of r t) ≡ true
unfolding paused_of clock_runs
paused_possible r t h l =
    by (is_pause r t) (λ e. rw e (idle_possible t))
    (λ e. rw e (possible_of (at_time r t) (bits_part r h) (bytes_part r h) (running_possible (at_time r t) refl (start_le r h t l))))

bytes_possible_lem : (r : Receiver) (f s n : ℕ) → bits_possible r.bits r.count ≡ true → bytes_possible f s n ≡ true → receiver_possible (holding r f s n) ≡ true
unfolding clock_runs
bytes_possible_lem r f s n h k = possible_of (holding r f s n) h k (running_possible (holding r f s n) refl (omega arith))

-- bits alone are asked for: a byte starts the clock
pub byte_possible : (r : Receiver) (b : ℕ) → bits_possible r.bits r.count ≡ true → receiver_possible (byte_of r b).receiver ≡ true
unfolding byte_of bytes_possible
byte_possible r b h =
    by (eqb r.held 0) (λ e. rw e (bytes_possible_lem r b 0 1 h refl))
    (λ e. by (eqb r.held 1)
    (λ f. by (eqb (packet_length r.first) 3) (λ l. simp (e, f, l) (bytes_possible_lem r r.first b 2 h l)) (λ l. simp (e, f, l) (bytes_possible_lem r 0 0 0 h refl)))
    (λ f. simp (e, f) (bytes_possible_lem r 0 0 0 h refl)))

-- a bit more needs a clock that runs
pub bit_possible : (r : Receiver) (level : ℕ) → receiver_possible r ≡ true → clock_runs r ≡ true → level < 2 → receiver_possible (bit_of r level).receiver ≡ true
unfolding bit_of bits_possible clock_runs
bit_possible r level h c l =
    by (eqb r.count 7)
    (λ e. rw e (byte_possible (with_bits r 0 0) _ refl))
    (λ e. let n : r.count ≡ 7 → ⊥ = eqb-false _ _ e in
    let p : r.count + 1 ≤ 7 = omega (arith, count_le r h) in
    let q : r.bits + level * 2 ^ r.count < 2 ^ (r.count + 1) = rw add-one (more_lt r level h l) in
    let w = with_bits r (r.bits + level * 2 ^ r.count) (r.count + 1) in
    rw e (possible_of w (simp (le-leb _ _ p, lt-ltb _ _ q)) (bytes_part r h) (running_possible w c (started_le r h c))))

-- an edge is not late after itself
on_its_edge : (t : ℕ) → late t t ≡ false
unfolding late
on_its_edge t = lt-leb 8000 (t - t) (omega arith)

-- after an edge the clock runs, its mark being 1
pub paused_marked : (r : Receiver) (t : ℕ) → (paused_of r t).started ≡ 1
unfolding paused_of
paused_marked r t = by (is_pause r t) (λ e. rw e) (λ e. rw e)

pub marked_runs : (r : Receiver) → r.started ≡ 1 → clock_runs r ≡ true
unfolding clock_runs
marked_runs r h = rw h refl

pub paused_runs : (r : Receiver) (t : ℕ) → clock_runs (paused_of r t) ≡ true
paused_runs r t = marked_runs (paused_of r t) (paused_marked r t)

pub step_possible : (r : Receiver) (t level : ℕ) → receiver_possible r ≡ true → level < 2 → r.last ≤ t → receiver_possible (step_of r t level).receiver ≡ true
unfolding step_of
step_possible r t level h l later = bit_possible (paused_of r t) level (paused_possible r t h later) (paused_runs r t) l

-- THE PAUSE: exactly where the clock runs and the edge comes 8,000 µs or more after its start
pause_there : (r : Receiver) (t : ℕ) → PauseAt r t → is_pause r t ≡ true
unfolding is_pause start_for clock_runs late
pause_there r t h = simp (ne_eqb _ _ h.0) (le-leb 8000 (t - r.start) (omega (arith, h.1)))

pause_only_there : (r : Receiver) (t : ℕ) → is_pause r t ≡ true → PauseAt r t
unfolding is_pause start_for clock_runs late
pause_only_there r t =
    by (eqb r.started 0) (λ e. rw e (λ h. let z : ⊥ = omega (arith, leb-true 8000 (t - t) h) in absurd z))
    (λ e. rw e (λ h. (eqb-false _ _ e, omega (arith, leb-true 8000 (t - r.start) h))))

pub pause_exactly : (r : Receiver) (t : ℕ) → (is_pause r t ≡ true) ↔ PauseAt r t
pause_exactly r t = (pause_only_there r t, pause_there r t)

-- such an edge begins afresh, whatever was held: it is bit 0
pub bit_0 : (t level : ℕ) → bit_of (idle_at t) level ≡ quiet (with_bits (idle_at t) level 1)
unfolding bit_of
bit_0 t level =
    let only : 0 + level * 1 ≡ level = omega arith in
    ap (λ (bits : ℕ). quiet (with_bits (idle_at t) bits 1)) only

pub begins_afresh : (r : Receiver) (t level : ℕ) → is_pause r t ≡ true → step_of r t level ≡ quiet (with_bits (idle_at t) level 1)
unfolding step_of paused_of
begins_afresh r t level h = rw h (bit_0 t level)

-- so does the first edge of a fresh receiver
pub first_edge_lem : (t level : ℕ) → step_of fresh_receiver t level ≡ quiet (with_bits (idle_at t) level 1)
unfolding step_of paused_of is_pause start_for clock_runs
first_edge_lem t level = rw (on_its_edge t) (bit_0 t level)

-- any other goes on: everything held is still there
pub goes_on : (r : Receiver) (t level : ℕ) → is_pause r t ≡ false → step_of r t level ≡ bit_of (at_time r t) level
unfolding step_of paused_of
goes_on r t level h = rw h

-- what a pause leaves of the receiver before the bit, and the time of its last edge then
pub paused_idle : (r : Receiver) (t : ℕ) → is_pause r t ≡ true → paused_of r t ≡ idle_at t
unfolding paused_of
paused_idle r t h = rw h

pub paused_last : (r : Receiver) (t : ℕ) → (paused_of r t).last ≡ t
unfolding paused_of
paused_last r t = by (is_pause r t) (λ e. rw e) (λ e. rw e)

-- what an edge did to the clock it does not do again
pub paused_once : (r : Receiver) (t : ℕ) → paused_of (paused_of r t) t ≡ paused_of r t
unfolding paused_of is_pause start_for clock_runs
paused_once r t = by (late (start_for r t) t) (λ e. simp (e, on_its_edge t)) (λ e. simp e)

-- and it is not late
pub paused_in_time : (r : Receiver) (t : ℕ) → late (paused_of r t).start t ≡ false
unfolding paused_of is_pause
paused_in_time r t = by (late (start_for r t) t) (λ e. rw e (on_its_edge t)) (λ e. rw e e)

-- so that it is no pause
pub paused_no_pause : (r : Receiver) (t : ℕ) → is_pause (paused_of r t) t ≡ false
unfolding is_pause start_for
paused_no_pause r t = rw (paused_runs r t) (paused_in_time r t)
