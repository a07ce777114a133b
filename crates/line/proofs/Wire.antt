-- THE WIRE LAW. Any bytes, clocked out low bit first with any times that never fall and of which none but the first is a pause, into a
-- receiver that holds nothing, are heard as exactly the packets that these bytes spell, each at its last edge, in order, and what is
-- left over is held.
use Prim.Native.Nat.{ℕ, zero, suc, ◌+◌, ◌*◌, ◌/◌, ◌%◌, ◌^◌, ◌≤◌, ◌<◌}
use mathlib.Core.Bool.{true, false, ◌&&◌}
use mathlib.Core.List.{List, [], ◌∷◌, ◌++◌}
use mathlib.Core.Path.{◌≡◌, refl, sym, ◌∙◌, ap}
use native.Mathlib.Omega.{arith}
use native.Mathlib.Nat.{add_comm, mod-eq_of_lt, mod-one}
use native.Mathlib.Numerals.{add-one}
use lib.Dec.{eqb, leb}
use lib.ListN.{length, take, drop, get_or, length-drop}
use lib.Pow.{mod-pow-add}
use borrow.Author.Tests.{eq-eqb, ne_eqb, eqb-true}
use Rattle.bits.specs.Bits.{part_of, bit_at, Bytes}
use Rattle.bits.proofs.Tests.{by, clash}
use Rattle.line.specs.declared.packet.Packet.{Packet}
use Rattle.line.specs.declared.receiver.Receiver.{Receiver}
use Rattle.line.specs.Line.{packet_length, emptied, quiet, late, clock_runs, start_for, is_pause, paused_of, byte_of, bit_of, step_of}
use Rattle.line.specs.Wire.{edges_of, Hearing, noting, hearing, bits_from, levels_of, OnTime, Later, whole, packet_of, Spelled, spelled, last_of, holds, left_as, heard_as, Proper, of_two, of_three, bytes_of, before}
use Rattle.line.proofs.Laws.{goes_on, paused_once, paused_in_time}

-- a packet has two bytes or three
pub two_or_three : (a : ℕ) → (eqb (packet_length a) 3 ≡ false) → packet_length a ≡ 2
unfolding packet_length
two_or_three a = by (leb 0x70 a && leb a 0x7F) (λ e. rw e (λ h. clash refl h)) (λ e. rw e (λ h. refl))

-- the low k + 1 bits of a byte are its low k bits and bit k
more_bits : (b k : ℕ) → b % 2 ^ k + bit_at b k * 2 ^ k ≡ b % 2 ^ (k + 1)
unfolding part_of
more_bits b k =
    add_comm (b % 2 ^ k) (b / 2 ^ k % 2 * 2 ^ k) ∙ sym (mod-pow-add b 1 k) ∙ ap (λ (x : ℕ). b % 2 ^ x) (add_comm 1 k)

-- A receiver with the low k bits of a byte, and these bytes before it; its clock started at s.
module _ (b : ℕ) (small : b < 256) (first second held : ℕ) where
  abbrev partly : ℕ → ℕ → ℕ → Receiver
  partly s t k = record { last = t; start = s; started = 1; bits = b % 2 ^ k; count = k; first = first; second = second; held = held }

  abbrev resting : ℕ → ℕ → Receiver
  resting s t = record { last = t; start = s; started = 1; bits = 0; count = 0; first = first; second = second; held = held }

  one_more : (s t u k : ℕ) → late s u ≡ false → k < 7 → step_of (partly s t k) u (bit_at b k) ≡ quiet (partly s u (suc k))
  unfolding bit_of is_pause start_for clock_runs
  one_more s t u k g h = goes_on (partly s t k) u (bit_at b k) g ∙ simp (ne_eqb k 7 (λ e. omega arith), more_bits, add-one k)

  the_last : (s t u : ℕ) → late s u ≡ false → step_of (partly s t 7) u (bit_at b 7) ≡ byte_of (resting u u) b
  unfolding bit_of is_pause start_for clock_runs byte_of
  the_last s t u g = goes_on (partly s t 7) u (bit_at b 7) g ∙ ap (byte_of (resting u u)) (more_bits b 7 ∙ mod-eq_of_lt small)

  -- the bits from k on, m + 1 of them, complete the byte at the last of these edges
  abbrev completed : ℕ → ℕ → List ℕ → List ℕ → Hearing
  completed t n ts ls = noting (byte_of (resting t t) b).packet n (hearing (byte_of (resting t t) b).receiver n (edges_of ts ls))

  rest_heard : (m k s t n : ℕ) (ts ls : List ℕ) → k + suc m ≡ 8 → suc m ≤ length ts → OnTime s t m ts
      → hearing (partly s t k) n (edges_of ts (bits_from b k (suc m) ++ ls)) ≡ completed (last_of t (take (suc m) ts)) (n + suc m) (drop (suc m) ts) ls
  unfolding hearing edges_of bits_from last_of OnTime noting
  rest_heard m k s t n [] ls e l u = let z : ⊥ = omega arith in absurd z
  rest_heard zero k s t n (v ∷ ts) ls e l u =
      let s7 : k ≡ 7 = omega arith in
      rw (s7, the_last s t v u.1)
  rest_heard (suc m) k s t n (v ∷ ts) ls e l u =
      let c : n + 1 + suc m ≡ n + suc (suc m) = omega arith in
      rw (one_more s t v k u.1 (omega arith))
      (rw c at (rest_heard m (suc k) s v (n + 1) ts ls (omega arith) (omega arith) u.2))

  -- a whole byte, into a receiver that holds no bit
  byte_heard : (s t n : ℕ) (ts ls : List ℕ) → 8 ≤ length ts → OnTime s t 7 ts
      → hearing (resting s t) n (edges_of ts (bits_from b 0 8 ++ ls)) ≡ completed (last_of t (take 8 ts)) (n + 8) (drop 8 ts) ls
  byte_heard s t n ts ls l u =
      ap (λ (x : ℕ). hearing (record { last = t; start = s; started = 1; bits = x; count = 0; first = first; second = second; held = held }) n (edges_of ts (bits_from b 0 8 ++ ls))) (sym (mod-one b))
      ∙ rest_heard 7 0 s t n ts ls refl l u

-- bytes that wait for more of their packet
pub data Gathers : List ℕ → Type 0 where
  none : Gathers []
  one : (a : ℕ) → Gathers (a ∷ [])
  two : (a b : ℕ) → packet_length a ≡ 3 → Gathers (a ∷ b ∷ [])

-- a byte more is heard as what these bytes spell with it: they wait on, or they are a packet
pub joined : {g : List ℕ} (b t : ℕ) → Gathers g → whole (g ++ (b ∷ [])) ≡ false
    → (byte_of (holds t g) b ≡ quiet (holds t (g ++ (b ∷ [])))) × Gathers (g ++ (b ∷ []))
unfolding whole byte_of holds
joined b t none w = (refl, one b)
joined b t (one a) w =
    by (eqb (packet_length a) 3) (λ e. (simp e, two a b (eqb-true _ _ e)))
    (λ e. clash (eq-eqb 2 _ (sym (two_or_three a e))) w)
joined b t (two a c p) w = clash (eq-eqb 3 _ (sym p)) w

pub completes : {g : List ℕ} (b t : ℕ) → Gathers g → whole (g ++ (b ∷ [])) ≡ true
    → byte_of (holds t g) b ≡ record { receiver = holds t []; packet = packet_of (g ++ (b ∷ [])) }
unfolding whole byte_of holds packet_of
completes b t none w =
    let o : 1 ≡ packet_length b = eqb-true _ _ w in
    let n : eqb (packet_length b) 3 ≡ false = ne_eqb (packet_length b) 3 (λ e. omega arith) in
    let z : ⊥ = omega (arith, two_or_three b n) in absurd z
completes b t (one a) w =
    let p : 2 ≡ packet_length a = eqb-true _ _ w in
    simp (ne_eqb (packet_length a) 3 (λ e. omega arith))
completes b t (two a c p) w = refl

-- the times left after a byte's
on_time_drop : (m s t : ℕ) (ts : List ℕ) → suc m ≤ length ts → OnTime s t m ts
    → OnTime (last_of t (take (suc m) ts)) (last_of t (take (suc m) ts)) 7 (drop (suc m) ts)
unfolding OnTime last_of
on_time_drop m s t [] l u = let z : ⊥ = omega arith in absurd z
on_time_drop zero s t (v ∷ ts) l u = u.2
on_time_drop (suc m) s t (v ∷ ts) l u = on_time_drop m s v ts (omega arith) u.2

last_drop : (m t : ℕ) (ts : List ℕ) → last_of (last_of t (take m ts)) (drop m ts) ≡ last_of t ts
unfolding last_of
last_drop zero t ts = refl
last_drop (suc m) t [] = refl
last_drop (suc m) t (v ∷ ts) = last_drop m v ts

-- these bytes and no bit are held, whenever the clock started
abbrev pub holds_from : ℕ → ℕ → List ℕ → Receiver
holds_from s t g = record { last = t; start = s; started = 1; bits = 0; count = 0; first = get_or g 0 0; second = get_or g 1 0; held = length g }

-- a byte more
held_byte : (b : ℕ) → b < 256 → (g : List ℕ) (s t n : ℕ) (ts ls : List ℕ) → 8 ≤ length ts → OnTime s t 7 ts
    → hearing (holds_from s t g) n (edges_of ts (bits_from b 0 8 ++ ls))
    ≡ noting (byte_of (holds (last_of t (take 8 ts)) g) b).packet (n + 8) (hearing (byte_of (holds (last_of t (take 8 ts)) g) b).receiver (n + 8) (edges_of (drop 8 ts) ls))
unfolding holds
held_byte b small g s t n ts ls l u = byte_heard b small (get_or g 0 0) (get_or g 1 0) (length g) s t n ts ls l u

-- what is heard, and the last edge was at this time
abbrev held_at : ℕ → Spelled → Hearing
held_at time s = record { receiver = holds time s.left; packets = s.packets }

no_edge : (t n : ℕ) (g ts : List ℕ) → length ts ≡ 0 → hearing (holds t g) n (edges_of ts []) ≡ held_at (last_of t ts) (spelled n g [])
unfolding hearing edges_of spelled last_of
no_edge t n g [] l = refl
no_edge t n g (v ∷ ts) l = let z : ⊥ = omega arith in absurd z

-- a packet that has bytes is noted
noted_packet : (b : ℕ) (g : List ℕ) (n : ℕ) (h : Hearing)
    → noting (packet_of (g ++ (b ∷ []))) n h ≡ record { receiver = h.receiver; packets = record { after = n; packet = packet_of (g ++ (b ∷ [])) } ∷ h.packets }
unfolding noting packet_of
noted_packet b [] n h = refl
noted_packet b (a ∷ g) n h = simp (ne_eqb (suc (length (g ++ (b ∷ [])))) 0 (λ e. omega arith))

-- a byte, and then what others spell after it
module _ (bs : List ℕ)
    (others : (t n : ℕ) (g ts : List ℕ) → Gathers g → Bytes bs → length ts ≡ 8 * length bs → OnTime t t 7 ts
    → hearing (holds t g) n (edges_of ts (levels_of bs)) ≡ held_at (last_of t ts) (spelled n g bs)) where
  byte_spells : (b s t n : ℕ) (g ts : List ℕ) → Gathers g → Bytes (b ∷ bs) → length ts ≡ 8 * length (b ∷ bs) → OnTime s t 7 ts
      → hearing (holds_from s t g) n (edges_of ts (levels_of (b ∷ bs))) ≡ held_at (last_of t ts) (spelled n g (b ∷ bs))
  unfolding levels_of spelled noting
  byte_spells b s t n g ts w a l u =
      let t' = last_of t (take 8 ts) in
      let u' : OnTime t' t' 7 (drop 8 ts) = on_time_drop 7 s t ts (omega arith) u in
      let l' : length (drop 8 ts) ≡ 8 * length bs = simp length-drop (omega arith) in
      held_byte b (a 0) g s t n ts (levels_of bs) (omega arith) u
      ∙ by (whole (g ++ (b ∷ [])))
      (λ e. rw (completes b t' w e, e)
      (noted_packet b g (n + 8) _ ∙ rw (others t' (n + 8) [] (drop 8 ts) none (λ i. a (suc i)) l' u', last_drop 8 t ts) refl))
      (λ e. let j = joined b t' w e in rw (j.0, e) (others t' (n + 8) (g ++ (b ∷ [])) (drop 8 ts) j.1 (λ i. a (suc i)) l' u' ∙ rw (last_drop 8 t ts)))

-- the law, for bytes of which some may already be gathered
spells : (bs : List ℕ) (t n : ℕ) (g ts : List ℕ) → Gathers g → Bytes bs → length ts ≡ 8 * length bs → OnTime t t 7 ts
    → hearing (holds t g) n (edges_of ts (levels_of bs)) ≡ held_at (last_of t ts) (spelled n g bs)
unfolding levels_of holds
spells [] t n g ts w a l u = no_edge t n g ts l
spells (b ∷ bs) t n g ts w a l u = byte_spells bs (spells bs) b t t n g ts w a l u

-- a receiver that holds nothing may as well be told of its first edge's time before that edge
from_first : (r : Receiver) (t level : ℕ) → step_of r t level ≡ step_of (paused_of r t) t level
unfolding step_of
from_first r t level = ap (λ (q : Receiver). bit_of q level) (sym (paused_once r t))

-- and it holds nothing then (`holds_from` with no byte)
pub still_empty : (r : Receiver) (t : ℕ) → r ≡ emptied r → paused_of r t ≡ holds_from (paused_of r t).start t []
unfolding paused_of
still_empty r t h =
    by (is_pause r t) (λ e. rw e refl)
    (λ e. rw e (ap (λ (q : Receiver). record { last = t; start = start_for r t; started = 1; bits = q.bits; count = q.count; first = q.first; second = q.second; held = q.held }) h))

-- THE LAW, with n edges taken before
pub wire_law : (r : Receiver) (n : ℕ) (bs ts : List ℕ) → r ≡ emptied r → Bytes bs → length ts ≡ 8 * length bs → Later r ts
    → hearing r n (edges_of ts (levels_of bs)) ≡ heard_as r ts (spelled n [] bs)
unfolding Later OnTime hearing edges_of levels_of left_as last_of bits_from spelled
wire_law r n [] [] h a l u = refl
wire_law r n [] (v ∷ ts) h a l u = let z : ⊥ = omega arith in absurd z
wire_law r n (b ∷ bs) [] h a l u = let z : ⊥ = omega arith in absurd z
wire_law r n (b ∷ bs) (v ∷ ts) h a l u =
    rw (from_first r v (bit_at b 0), still_empty r v h)
    (byte_spells bs (spells bs) b (paused_of r v).start v n [] (v ∷ ts) none a l (omega arith, paused_in_time r v, u.1))

-- bytes that are some leave the receiver at the last of their edges
pub left_some : (r : Receiver) (ts left : List ℕ) → 0 < length ts → left_as r ts left ≡ holds (last_of r.last ts) left
unfolding left_as last_of
left_some r [] left h = let z : ⊥ = omega arith in absurd z
left_some r (v ∷ ts) left h = refl

-- Bytes that begin with a packet spell that packet, at its last edge, and then what the rest spells.
pub packet_first : {p : Packet} → Proper p → (n : ℕ) (bs : List ℕ)
    → spelled n [] (bytes_of p ++ bs) ≡ before p (n + 8 * p.length) (spelled (n + 8 * p.length) [] bs)
unfolding spelled whole packet_of
packet_first (of_two a b e) n bs =
    let m : n + 8 + 8 ≡ n + 16 = omega arith in
    simp (e, m)
packet_first (of_three a b c e) n bs =
    let m : n + 8 + 8 + 8 ≡ n + 24 = omega arith in
    simp (e, m)
