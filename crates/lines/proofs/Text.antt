-- THE TEXT IS THE BENCH'S: `text_is_bench`, what all bytes write is what the whole recording's definition says; `text_joined`,
-- blocks cannot be seen.
use Prim.Native.Nat.{ℕ, zero, suc, ◌+◌, ◌-◌, ◌*◌, ◌≤◌, ◌<◌}
use mathlib.Core.List.{List, [], ◌∷◌, ◌++◌, append_assoc, append-nil}
use mathlib.Core.Bool.{true, false}
use mathlib.Core.Path.{◌≡◌, refl, sym, ◌∙◌, ap}
use native.Mathlib.Omega.{arith}
use lib.Dec.{eqb, leb}
use lib.ListN.{length}
use borrow.Author.Tests.{eq-eqb, ne_eqb, lt-leb}
use Rattle.bits.specs.Bits.{Bytes}
use Rattle.bits.proofs.Tests.{by}
use Rattle.line.specs.declared.receiver.Receiver.{Receiver}
use Rattle.running.specs.Running as R
use Rattle.running.specs.Running.{answering_if}
use Rattle.line.specs.Line.{fresh_receiver, emptied, clock_runs, start_for, late, is_pause, paused_of, byte_of}
use Rattle.line.specs.Wire.{edges_of, levels_of, Noted, Hearing, hearing, OnTime, Later, Unpaused, whole, packet_of, spelled, holds, left_as, heard_as}
use Rattle.line.proofs.Wire.{Gathers, none, joined, completes, wire_law}
use Rattle.store.specs.Sheet.{Sheets}
use Rattle.bank.specs.Reply.{at_front}
use Rattle.board.specs.Board.{Board}
use Rattle.effects.specs.Effects.{packet_effect}
use Rattle.reactions.specs.Reactions.{receiving}
use Rattle.module.specs.Edge.{heard_effect}
use Rattle.module.specs.Bench.{bench, bench_sheets, bit_times}
use Rattle.module.specs.Whole.{Answered, Story, whole_of}
use Rattle.module.proofs.Packets.{levels_small, edges_steady, unpaused_later, through, whole_by_packets}
use Rattle.lines.specs.Lines.{dash, ack, line_of, answer_line, command_lines, bench_text}
use Rattle.lines.specs.Taken.{Taken, following, heard_of, byte_effect, lined, taken_of}
use Rattle.lines.proofs.Steps.{held_on, spoken}

-- ---- The lines of packets in turn.

unfoldable packet_lines : Board → Sheets → List Noted → List ℕ
packet_lines b sheets [] = []
packet_lines b sheets (p ∷ ps) =
    line_of (packet_effect b sheets p.packet).acknowledged (packet_effect b sheets p.packet).reply ++ packet_lines (packet_effect b sheets p.packet).board sheets ps

-- bytes write the lines of the packets that they spell with those held before
not_none : (g : List ℕ) (byte : ℕ) → (packet_of (g ++ (byte ∷ []))).length ≡ 0 → ⊥
unfolding packet_of
not_none [] byte e = omega arith
not_none (a ∷ g) byte e = omega arith

by_spelling : (bs : List ℕ) (b : Board) (sheets : Sheets) (room : List ℕ) (t n : ℕ) {g : List ℕ} → Gathers g
    → (taken_of (receiving b (holds t g)) sheets room bs).text ≡ packet_lines b sheets (spelled n g bs).packets
unfolding spelled packet_lines taken_of
by_spelling [] b sheets room t n {g} w = refl
by_spelling (x ∷ bs) b sheets room t n {g} w =
    by (whole (g ++ (x ∷ [])))
    (λ e. let p = packet_of (g ++ (x ∷ [])) in
    let f = packet_effect b sheets p in
    ap (λ (k : Taken). k.text)
    (spoken b (holds t g) sheets room x bs (record { receiver = holds t []; packet = p }) (sym (completes x t w e)) (not_none g x))
    ∙ ap (λ (rest : List ℕ). line_of f.acknowledged f.reply ++ rest) (by_spelling bs f.board sheets (at_front f.reply room) t (n + 8) none)
    ∙ rw e refl)
    (λ e. let j = joined x t w e in
    ap (λ (k : Taken). k.text) (held_on b (holds t g) sheets room x bs _ (sym j.0) refl)
    ∙ by_spelling bs b sheets room t (n + 8) j.1
    ∙ rw e refl)

-- ---- Answers and commands, by their edges.

-- each after more edges than the one before, and after more than n
abbrev Rising : ℕ → List Noted → Type 0
Rising n [] = Unit
Rising n (p ∷ ps) = (n < p.after) × Rising p.after ps

abbrev Beyond : ℕ → List Answered → Type 0
Beyond n [] = Unit
Beyond n (a ∷ rest) = (n < a.after) × Beyond n rest

spelled_rising : (bs : List ℕ) (g : List ℕ) (m n : ℕ) → m ≤ n → Rising m (spelled n g bs).packets
unfolding spelled
spelled_rising [] g m n h = tt
spelled_rising (x ∷ bs) g m n h =
    by (whole (g ++ (x ∷ []))) (λ e. rw e (omega arith, spelled_rising bs [] (n + 8) (n + 8) (omega arith)))
    (λ e. rw e (spelled_rising bs (g ++ (x ∷ [])) m (n + 8) (omega arith)))

beyond_less : (m n : ℕ) (answers : List Answered) → m ≤ n → Beyond n answers → Beyond m answers
beyond_less m n [] h d = tt
beyond_less m n (a ∷ rest) h d = (omega (arith, d.0), beyond_less m n rest h d.1)

-- a command before all answers has a dash, and one whose answer is the first has that
no_answer : (n : ℕ) (answers : List Answered) → Beyond n answers → answer_line n answers ≡ dash
unfolding answer_line
no_answer n [] d = refl
no_answer n (a ∷ rest) d = simp (ne_eqb a.after n (λ e. omega (arith, d.0))) (no_answer n rest d.1)

own_line : (n : ℕ) (reply : List ℕ) (rest : List Answered) → answer_line n (record { after = n; reply = reply } ∷ rest) ≡ ack reply
unfolding answer_line
own_line n reply rest = simp (eq-eqb n n refl)

-- commands after an answer do not look at it
answer_past : (a : Answered) (answers : List Answered) (n : ℕ) (ps : List Noted) → a.after ≤ n → Rising n ps → command_lines (a ∷ answers) ps ≡ command_lines answers ps
unfolding command_lines answer_line
answer_past a answers n [] h u = refl
answer_past a answers n (p ∷ ps) h u =
    simp (ne_eqb a.after p.after (λ e. omega (arith, u.0)), answer_past a answers p.after ps (omega (arith, u.0)) u.1)

module _ (sheets : Sheets) (r : Receiver) (on : Board → Story) (no_more : (b : Board) → (on b).answers ≡ []) where
  beyond : (ps : List Noted) (b : Board) (n : ℕ) → Rising n ps → Beyond n (through b sheets r ps on).answers
  unfolding through answering_if
  beyond [] b n u = rw (no_more (receiving b r)) tt
  beyond (p ∷ ps) b n u =
      let e = packet_effect b sheets p.packet in
      let d = beyond_less n p.after (through e.board sheets r ps on).answers (omega (arith, u.0)) (beyond ps e.board p.after u.1) in
      by e.acknowledged (λ a. rw a (u.0, d)) (λ a. rw a d)

  -- the answers from a command on: its own first, where it has one
  said_first : (p : Noted) (ps : List Noted) (b : Board) → (packet_effect b sheets p.packet).acknowledged ≡ true
      → (through b sheets r (p ∷ ps) on).answers ≡ record { after = p.after; reply = (packet_effect b sheets p.packet).reply } ∷ (through (packet_effect b sheets p.packet).board sheets r ps on).answers
  unfolding through answering_if
  said_first p ps b a = rw a refl

  said_none : (p : Noted) (ps : List Noted) (b : Board) → (packet_effect b sheets p.packet).acknowledged ≡ false
      → (through b sheets r (p ∷ ps) on).answers ≡ (through (packet_effect b sheets p.packet).board sheets r ps on).answers
  unfolding through answering_if
  said_none p ps b a = rw a refl

  -- each command's line is that of its effect
  by_packets : (ps : List Noted) (b : Board) (n : ℕ) → Rising n ps → command_lines (through b sheets r ps on).answers ps ≡ packet_lines b sheets ps
  unfolding command_lines packet_lines line_of
  by_packets [] b n u = refl
  by_packets (p ∷ ps) b n u =
      let e = packet_effect b sheets p.packet in
      let rest = (through e.board sheets r ps on).answers in
      let others = by_packets ps e.board p.after u.1 in
      by e.acknowledged
      (λ a. ap (λ (x : List Answered). command_lines x (p ∷ ps)) (said_first p ps b a) ∙ simp (a, answer_past (record { after = p.after; reply = e.reply }) rest p.after ps (omega arith) u.1, own_line p.after e.reply rest, others))
      (λ a. ap (λ (x : List Answered). command_lines x (p ∷ ps)) (said_none p ps b a) ∙ simp (a, no_answer p.after rest (beyond ps e.board p.after u.1), others))

-- ---- THE TEXT, of any board whose receiver holds nothing, with any times that never fall and of which none is a pause.

-- a byte starts the clock: how it stood before is not seen
byte_clocks : (r : Receiver) (x : ℕ) → r ≡ emptied r → byte_of r x ≡ byte_of (holds r.last []) x
unfolding byte_of holds
byte_clocks r x h = ap (λ (q : Receiver). byte_of q x) h

clock_unseen : (bytes : List ℕ) (b : Board) (sheets : Sheets) (room : List ℕ) (r : Receiver) → r ≡ emptied r
    → (taken_of (receiving b r) sheets room bytes).text ≡ (taken_of (receiving b (holds r.last [])) sheets room bytes).text
unfolding taken_of heard_effect
clock_unseen [] b sheets room r h = refl
clock_unseen (x ∷ bytes) b sheets room r h = rw (byte_clocks r x h) refl

text_is_heard : (b : Board) (sheets : Sheets) (room : List ℕ) (bytes ts : List ℕ) → b.kept.receiver ≡ emptied b.kept.receiver
    → Bytes bytes → length ts ≡ 8 * length bytes → Unpaused b.kept.receiver ts
    → (taken_of b sheets room bytes).text ≡ command_lines (whole_of b sheets 0 (edges_of ts (levels_of bytes))).answers (spelled 0 [] bytes).packets
unfolding R.whole_of
text_is_heard b sheets room bytes ts hold small long unpaused =
    let r = b.kept.receiver in
    let es = edges_of ts (levels_of bytes) in
    let ps = (spelled 0 [] bytes).packets in
    let end = left_as r ts (spelled 0 [] bytes).left in
    let on : Board → Story = λ after. whole_of after sheets (0 + length es) [] in
    let heard : hearing r 0 es ≡ heard_as r ts (spelled 0 [] bytes) = wire_law r 0 bytes ts hold small long (unpaused_later r ts unpaused) in
    let story : whole_of b sheets 0 es ≡ through b sheets end ps on =
    ap (whole_of b sheets 0) (sym (append-nil es))
    ∙ whole_by_packets es b sheets 0 [] (edges_steady r ts (levels_of bytes) (ap (λ (q : Receiver). q.count) hold) unpaused (levels_small bytes))
    ∙ ap (λ (h : Hearing). through b sheets h.receiver h.packets on) heard
    in
    clock_unseen bytes b sheets room r hold
    ∙ by_spelling bytes b sheets room r.last 0 none
    ∙ sym (ap (λ (s : Story). command_lines s.answers ps) story ∙ by_packets sheets end on (λ c. refl) ps b 0 (spelled_rising bytes [] 0 0 (omega arith)))

-- ---- 100 µs a bit.

bit_times_length : (n t : ℕ) → length (bit_times n t) ≡ n
bit_times_length zero t = refl
bit_times_length (suc n) t = ap suc (bit_times_length n (t + 100))

-- a byte's eighth edge is 800 µs after the clock's start
bit_times_on_time : (n start last more t : ℕ) → last ≤ t → t + 100 * more ≤ start + 800 → OnTime start last more (bit_times n t)
unfolding OnTime late
bit_times_on_time zero start last more t l h = tt
bit_times_on_time (suc n) start last zero t l h =
    (l, lt-leb 8000 (t - start) (omega arith), bit_times_on_time n t t 7 (t + 100) (omega arith) (omega arith))
bit_times_on_time (suc n) start last (suc more) t l h =
    (l, lt-leb 8000 (t - start) (omega arith), bit_times_on_time n start t more (t + 100) (omega arith) (omega arith))

-- the first of them at most as long after the start
pub bit_times_unpaused : (n : ℕ) (r : Receiver) (t : ℕ) → r.last ≤ t → t ≤ start_for r t + 100 → Unpaused r (bit_times n t)
unfolding Unpaused Later is_pause paused_of late
bit_times_unpaused zero r t l h = tt
bit_times_unpaused (suc n) r t l h =
    let on : leb 8000 (t - start_for r t) ≡ false = lt-leb 8000 (t - start_for r t) (omega arith) in
    (on, (l, rw on (bit_times_on_time n (start_for r t) t 6 (t + 100) (omega arith) (omega arith))))

-- THE THEOREM: what bytes write on the bench's board is the bench's text, whatever the reply room holds
pub text_is_bench : (bytes room : List ℕ) → Bytes bytes → (taken_of bench bench_sheets room bytes).text ≡ bench_text bytes
unfolding bench_text start_for clock_runs
text_is_bench bytes room small =
    text_is_heard bench bench_sheets room bytes (bit_times (8 * length bytes) 0) refl small (bit_times_length (8 * length bytes) 0)
    (bit_times_unpaused (8 * length bytes) fresh_receiver 0 (omega arith) (omega arith))

-- BLOCKS CANNOT BE SEEN: bytes in two blocks leave and write what they do in one
pub text_joined : (xs ys : List ℕ) (b : Board) (sheets : Sheets) (room : List ℕ)
    → taken_of b sheets room (xs ++ ys)
    ≡ following (taken_of b sheets room xs).text (taken_of (taken_of b sheets room xs).board sheets (taken_of b sheets room xs).room ys)
unfolding taken_of lined
text_joined [] ys b sheets room = refl
text_joined (x ∷ xs) ys b sheets room =
    let e = byte_effect b sheets x in
    let line = line_of e.acknowledged e.reply in
    let rest = taken_of e.board sheets (at_front e.reply room) xs in
    let others = text_joined xs ys e.board sheets (at_front e.reply room) in
    by (eqb (heard_of b x).packet.length 0) (λ z. simp z others)
    (λ z. simp z (ap (following line) others ∙ rw (append_assoc line rest.text) refl))
