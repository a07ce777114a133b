-- A call under way, a byte a turn: what is left to do from here, after the text so far, gives what the whole of it gives. The
-- receiver is kept apart from the record: an effect does not look at it.
use Prim.Native.Nat.{ℕ, ◌+◌, ◌-◌, ◌*◌, ◌≤◌, ◌<◌}
use mathlib.Core.Bool.{true, ◌&&◌}
use mathlib.Core.List.{List, [], ◌∷◌, ◌++◌, append_assoc, append-nil}
use mathlib.Core.Path.{◌≡◌, refl, sym, ◌∙◌, ap}
use native.Mathlib.Omega.{arith}
use native.Mathlib.Numerals.{add-one}
use lib.Dec.{eqb}
use lib.ListN.{length, take, drop, get_or, drop_of_length-le, length-append}
use lib.Seq.{drop-cons}
use borrow.Author.Tests.{eqb-true, eqb-false, leb-true}
use Rattle.bits.proofs.Tests.{by, and_left}
use Rattle.line.specs.declared.receiver.Receiver.{Receiver}
use Rattle.line.specs.Line.{Heard, packet_length, byte_of, bytes_possible, receiver_possible}
use Rattle.line.proofs.Laws.{bytes_part}
use Rattle.bank.specs.Reply.{at_front}
use Rattle.bank.proofs.Lists.{front_length}
use Rattle.store.proofs.Sizes.{lengths_same}
use Rattle.store.specs.Sheet.{Sheets}
use Rattle.board.specs.declared.record.Module.{Module}
use Rattle.board.specs.Board.{board_of, with_receiver}
use Rattle.board.specs.Board as B
use Rattle.board.proofs.Checked.{right, states_long, lengths_right, room_long}
use Rattle.board.proofs.Parts.{apart}
use Rattle.reactions.specs.Reactions.{Effect, AfterCommand, leaves}
use Rattle.effects.specs.Effects.{packet_effect}
use Rattle.effects.proofs.LastByte.{LastByte}
use Rattle.effects.proofs.Possible.{packet_sound, room_stays, packet_checked, packet_reply_short}
use Rattle.module.proofs.Edges.{byte_last}
use Rattle.module.proofs.Stops.{reply_stands}
use Rattle.lines.specs.Lines.{line_of}
use Rattle.lines.specs.Taken.{Text, following, taken_of, placed, long_enough, leaving, wrote}
use Rattle.lines.proofs.Places.{placed_more}
use Rattle.lines.proofs.Spaced.{line_length}
use Rattle.lines.proofs.Steps.{held_on, spoken}

-- ---- How many bytes a receiver holds: room for their lines is kept free.

pub held_few : (r : Receiver) → receiver_possible r ≡ true → r.held ≤ 2
unfolding bytes_possible
held_few r p =
    by (eqb r.held 0) (λ z. omega (arith, eqb-true r.held 0 z))
    (λ z. by (eqb r.held 1) (λ o. omega (arith, eqb-true r.held 1 o))
    (λ o. let q : (eqb r.held 2 && eqb (packet_length r.first) 3) ≡ true = simp (z, o) at (bytes_part r p) in
    omega (arith, eqb-true r.held 2 (and_left (eqb r.held 2) (eqb (packet_length r.first) 3) q))))

module _ (r : Receiver) (byte : ℕ) where
  -- a byte that completes nothing is held,
  pub one_held : (byte_of r byte).packet.length ≡ 0 → (byte_of r byte).receiver.held ≡ r.held + 1
  unfolding byte_of
  one_held =
      by (eqb r.held 0) (λ z. simp z (λ n. omega (arith, eqb-true r.held 0 z)))
      (λ z. by (eqb r.held 1)
      (λ o. by (eqb (packet_length r.first) 3) (λ l. simp (z, o, l) (λ n. omega (arith, eqb-true r.held 1 o)))
      (λ l. simp (z, o, l) (λ n. let no : ⊥ = omega arith in absurd no)))
      (λ o. simp (z, o) (λ n. let no : ⊥ = omega arith in absurd no)))

  -- and where it completes a packet, one was held, and none is
  pub none_held : ((byte_of r byte).packet.length ≡ 0 → ⊥) → (1 ≤ r.held) × ((byte_of r byte).receiver.held ≡ 0)
  unfolding byte_of
  none_held =
      by (eqb r.held 0) (λ z. simp z (λ n. absurd (n refl)))
      (λ z. by (eqb r.held 1)
      (λ o. by (eqb (packet_length r.first) 3) (λ l. simp (z, o, l) (λ n. absurd (n refl)))
      (λ l. simp (z, o, l) (λ n. (omega (arith, eqb-true r.held 1 o), refl))))
      (λ o. simp (z, o) (λ n. (omega (arith, eqb-false r.held 0 z), refl))))

-- ---- The loop.

pub record Writing (input : List ℕ) (sheets : Sheets) (m₀ : Module) (states₀ store₀ room₀ out₀ : List ℕ) (m : Module) (r : Receiver) (states store room out : List ℕ) (written i : ℕ) : Type 0 where
  pub within : i ≤ length input
  pub checked : B.board_refusal (board_of m states store) sheets room ≡ 0
  pub states_same : length states ≡ length states₀
  pub store_same : length store ≡ length store₀
  pub room_same : length room ≡ length room₀
  pub text : List ℕ
  pub long : length text ≡ written
  pub stand : out ≡ at_front text out₀
  pub fits : written + 128 * (length input - i + r.held) ≤ length out₀
  pub same : taken_of (board_of m₀ states₀ store₀) sheets room₀ input ≡ following text (taken_of (board_of (with_receiver m r) states store) sheets room (drop i input))

pub begun : (m : Module) (states store : List ℕ) (sheets : Sheets) (room out input : List ℕ) → B.board_refusal (board_of m states store) sheets room ≡ 0 → long_enough input out ≡ true
    → Writing input sheets m states store room out m m.receiver states store room out 0 0
begun m states store sheets room out input right_board long =
    let r = right (board_of m states store) sheets room right_board in
    record {
      within = omega arith;
      checked = right_board;
      states_same = refl;
      store_same = refl;
      room_same = refl;
      text = [];
      long = refl;
      stand = refl;
      fits = omega (arith, leb-true (128 * (length input + 2)) (length out) long, held_few m.receiver (apart m r.possible).heard);
      same = refl;
    }

module _ {input : List ℕ} {sheets : Sheets} {m₀ : Module} {states₀ store₀ room₀ out₀ : List ℕ} {m : Module} {r : Receiver} {states store room out : List ℕ} {written i : ℕ}
    (g : Writing input sheets m₀ states₀ store₀ room₀ out₀ m r states store room out written i) where
  pub same_out : length out ≡ length out₀
  same_out = ap length g.stand ∙ front_length g.text out₀ (omega (arith, g.long, g.fits))

  pub ends : length input ≤ i
      → leaving (record { kept = with_receiver m r; answer = Text written }) states store room out ≡ wrote (taken_of (board_of m₀ states₀ store₀) sheets room₀ input) out₀
  unfolding taken_of
  ends h = rw (g.same, drop_of_length-le input h, append-nil g.text, g.stand, g.long)

  module _ (h : i < length input) (s : Heard) (heard : s ≡ byte_of r (get_or input i 0)) where
    next : taken_of (board_of (with_receiver m r) states store) sheets room (drop i input)
        ≡ taken_of (board_of (with_receiver m r) states store) sheets room (get_or input i 0 ∷ drop (i + 1) input)
    next = rw (drop-cons input i 0 h, add-one i)

    pub quiet : s.packet.length ≡ 0 → Writing input sheets m₀ states₀ store₀ room₀ out₀ m s.receiver states store room out written (i + 1)
    quiet z = record {
      within = omega arith;
      checked = g.checked;
      states_same = g.states_same;
      store_same = g.store_same;
      room_same = g.room_same;
      text = g.text;
      long = g.long;
      stand = g.stand;
      fits = rw heard (omega (arith, one_held r (get_or input i 0) (rw heard at z), g.fits));
      same = g.same ∙ ap (following g.text) (next ∙ held_on (board_of m states store) r sheets room (get_or input i 0) (drop (i + 1) input) s heard z);
    }

    module _ (complete : s.packet.length ≡ 0 → ⊥) where
      holds : (1 ≤ r.held) × (s.receiver.held ≡ 0)
      holds = rw heard (none_held r (get_or input i 0) (rw heard at complete))

      pub line_fits : written + 256 ≤ length out
      line_fits = omega (arith, same_out, holds.0, g.fits)

      module _ (small : get_or input i 0 < 256) (x : AfterCommand) (done : x ≡ leaves (packet_effect (board_of m states store) sheets s.packet) room) where
        abbrev answer : Effect
        answer = packet_effect (board_of m states store) sheets s.packet

        last : LastByte s.packet
        last = rw heard (byte_last r (get_or input i 0) small)

        again : B.board_refusal (board_of x.reaction.kept x.states x.store) sheets x.room ≡ 0
        again = rw done (packet_checked (board_of m states store) sheets room s.packet last g.checked)

        reply_is : take x.reaction.length x.room ≡ answer.reply
        reply_is = rw done (reply_stands answer.reply room)

        short : length answer.reply ≤ 84
        short = packet_reply_short (board_of m states store) sheets room s.packet last (right (board_of m states store) sheets room g.checked)

        pub reply_within : x.reaction.length ≤ length x.room
        reply_within =
            let b = (right _ sheets _ again).buffers in
            let n : x.reaction.length ≤ 84 = rw done short in
            omega (arith, room_long _ _ sheets _ b)

        pub reply_short : length (take x.reaction.length x.room) ≤ 84
        reply_short = rw reply_is short

        abbrev line : List ℕ
        line = line_of x.reaction.acknowledged (take x.reaction.length x.room)

        pub on : (written' : ℕ) (out' : List ℕ) → written' ≡ written + length line → out' ≡ placed written line out
            → Writing input sheets m₀ states₀ store₀ room₀ out₀ x.reaction.kept s.receiver x.states x.store x.room out' written' (i + 1)
        on written' out' w o =
            let b = (right _ sheets _ again).buffers in
            let a = (right (board_of m states store) sheets room g.checked).buffers in
            let so_far : 0 + length g.text ≡ written = omega (arith, g.long) in
            let is : line ≡ line_of answer.acknowledged answer.reply = rw (reply_is, done) refl in
            record {
              within = omega arith;
              checked = again;
              states_same = states_long _ _ sheets _ b ∙ sym (states_long states store sheets room a) ∙ g.states_same;
              store_same = lengths_same store _ sheets (lengths_right states store sheets room a) (lengths_right _ _ sheets _ b) ∙ g.store_same;
              room_same =
                  rw done
                  (room_stays (board_of m states store) sheets room (right (board_of m states store) sheets room g.checked) answer
                  (packet_sound (board_of m states store) sheets room (right (board_of m states store) sheets room g.checked) s.packet last))
                  ∙ g.room_same;
              text = g.text ++ line;
              long = rw (length-append g.text line, g.long, w) refl;
              stand = rw (o, g.stand, ← so_far) (placed_more 0 out₀ g.text (omega (arith, g.long, g.fits)) line);
              fits = omega (arith, w, line_length x.reaction.acknowledged (take x.reaction.length x.room) reply_short, holds.0, holds.1, g.fits);
              same =
                  g.same ∙ ap (following g.text) (next ∙ spoken (board_of m states store) r sheets room (get_or input i 0) (drop (i + 1) input) s heard complete) ∙ rw (is, done, append_assoc g.text (line_of answer.acknowledged answer.reply)) refl;
            }
