-- BEFORE AND NOW: whole recordings, calls of the feed, and the bench's bytes, on boards that are alike.
use Prim.Native.Nat.{ℕ}
use mathlib.Core.List.{List, [], ◌∷◌}
use mathlib.Core.Path.{◌≡◌, refl, sym, ◌∙◌, ap, subst}
use mathlib.Core.Bool.{true}
use lib.Dec.{eqb}
use lib.ListN.{length}
use borrow.Author.Tests.{eqb-true}
use Rattle.bits.proofs.Tests.{by}
use Rattle.running.specs.Running.{CallEnd, at_end, at_bad, at_answer, at_once, Call, call_of}
use Rattle.running.specs.Running as R
use Rattle.running.specs.Alike.{StoriesAlike, CallsAlike}
use Rattle.running.proofs.Alike.{whole_alike, call_alike}
use Rattle.line.specs.declared.packet.Packet.{Packet}
use Rattle.line.specs.Line.{byte_of}
use Rattle.line.specs.Wire.{Edge, edges_of}
use Rattle.store.specs.Sheet.{sheets_of, sizes_long, sheets_hold}
use Rattle.store.proofs.Sizes.{sizes_long_lem}
use Rattle.bank.specs.Reply.{at_front}
use Rattle.board.specs.declared.record.Module.{Module}
use Rattle.board.specs.Board.{Board, board_refusal}
use Rattle.board.proofs.Checked.{right, lengths_right}
use Rattle.reactions.specs.Reactions.{Effect}
use Rattle.module.specs.Feed.{Answer, FeedOutcome, ending, tells_at, tells, run_of, feed_by, feed_of}
use Rattle.module.specs.Whole.{Story, edge_rule, whole_of}
use Rattle.lines.specs.Taken.{Block, Taken, heard_of, byte_effect, lined, taken_of, AfterBlock, leaving, wrote, untaken, long_enough, write_of}
use Rattle.demands.specs.HowManyOn.{left_by}
use Rattle.flash.specs.OldBank.{heard_was, rule_was, whole_was, refusal_was, feed_was, taken_was, write_was}
use Rattle.flash.specs.FixedBank.{GoodFixed}
use Rattle.flash.proofs.Stores.{ReadAlike, Same, same_alike, AlikeBy, itself, same_board}
use Rattle.flash.proofs.Running.{EffectsAlike, any_byte, rules_alike}
use Rattle.flash.proofs.Rows.{refusal_as_was}

-- ---- a whole recording, and the edges of a call

module _ (sizes fixed : List ℕ) (l : sizes_long sizes ≡ true) (h : sheets_hold (sheets_of sizes fixed) ≡ true) where
  pub whole_by : (Stores : List ℕ → List ℕ → Type 0) → ReadAlike sizes Stores → (b other : Board) (n : ℕ) (es : List Edge) → AlikeBy Stores b other
      → StoriesAlike (AlikeBy Stores) (whole_of b (sheets_of sizes fixed) n es) (whole_was other sizes n es)
  whole_by Stores r b other n es a =
      whole_alike (AlikeBy Stores) (edge_rule (sheets_of sizes fixed)) (rule_was sizes) (rules_alike sizes fixed l h Stores r) b other n es a

  pub whole_was_lem : (b : Board) (n : ℕ) (es : List Edge) → whole_of b (sheets_of sizes fixed) n es ≡ whole_was b sizes n es
  whole_was_lem b n es =
      let s = whole_by Same (same_alike sizes) b b n es (itself b) in
      stories _ _ _ _ _ _ _ _ (same_board _ _ s.board) s.answers s.taken s.number
    where
      stories : (b c : Board) (x y : List (R.Answered (List ℕ))) (n m i j : ℕ) → c ≡ b → y ≡ x → m ≡ n → j ≡ i
          → ◌≡◌ {A = Story} (record { board = b; answers = x; taken = n; number = i }) (record { board = c; answers = y; taken = m; number = j })
      stories b c x y n m i j p q r s = rw (p, q, r, s)

  call_by : (Stores : List ℕ → List ℕ → Type 0) → ReadAlike sizes Stores → (b other : Board) (es : List Edge) → AlikeBy Stores b other
      → CallsAlike (AlikeBy Stores) (call_of (edge_rule (sheets_of sizes fixed)) b 0 es) (call_of (rule_was sizes) other 0 es)
  call_by Stores r b other es a =
      call_alike (AlikeBy Stores) (edge_rule (sheets_of sizes fixed)) (rule_was sizes) (rules_alike sizes fixed l h Stores r) b other 0 es a

-- ---- what a call of the feed tells

pub record OutcomesAlike (Stores : List ℕ → List ℕ → Type 0) (o q : FeedOutcome) : Type 0 where
  pub board : AlikeBy Stores o.board q.board
  pub answer : q.answer ≡ o.answer
  pub room : q.room ≡ o.room

told_each : (Stores : List ℕ → List ℕ → Type 0) (room : List ℕ) (b c : Board) (n : ℕ) → AlikeBy Stores b c → (stop : CallEnd (List ℕ))
    → OutcomesAlike Stores (tells_at room b n stop) (tells_at room c n stop)
unfolding tells_at
told_each Stores room b c n a at_end = record { board = a; answer = refl; room = refl }
told_each Stores room b c n a (at_bad number) = record { board = a; answer = refl; room = refl }
told_each Stores room b c n a (at_answer reply) = record { board = a; answer = refl; room = refl }
told_each Stores room b c n a (at_once number) = record { board = a; answer = refl; room = refl }

told_alike : (Stores : List ℕ → List ℕ → Type 0) (room : List ℕ) (c d : Call Board (List ℕ)) → CallsAlike (AlikeBy Stores) c d → OutcomesAlike Stores (tells room c) (tells room d)
told_alike Stores room c d a =
    subst (λ (stop : CallEnd (List ℕ)). OutcomesAlike Stores (tells room c) (tells_at room d.board d.taken stop)) (sym a.stop)
    (subst (λ (n : ℕ). OutcomesAlike Stores (tells room c) (tells_at room d.board n c.stop)) (sym a.taken)
    (told_each Stores room c.board d.board c.taken a.board c.stop))

-- ---- the bench's bytes

record TakensAlike (Stores : List ℕ → List ℕ → Type 0) (t u : Taken) : Type 0 where
  board : AlikeBy Stores t.board u.board
  room : u.room ≡ t.room
  text : u.text ≡ t.text

lined_alike : (Stores : List ℕ → List ℕ → Type 0) (p q : Packet) (e f : Effect) (t u : Taken) → q ≡ p → EffectsAlike Stores e f → TakensAlike Stores t u
    → TakensAlike Stores (lined p e t) (lined q f u)
unfolding lined
lined_alike Stores p q e f t u same a r =
    by (eqb p.length 0) (λ z. rw (same, z) r)
    (λ z. rw (same, z) (record { board = r.board; room = r.room; text = rw (a.acknowledged, a.reply, r.text) }))

module _ (sizes fixed : List ℕ) (l : sizes_long sizes ≡ true) (h : sheets_hold (sheets_of sizes fixed) ≡ true)
    (Stores : List ℕ → List ℕ → Type 0) (alike : ReadAlike sizes Stores) where
  taken_alike : (b other : Board) (room bytes : List ℕ) → AlikeBy Stores b other → TakensAlike Stores (taken_of b (sheets_of sizes fixed) room bytes) (taken_was other sizes room bytes)
  unfolding taken_of taken_was
  taken_alike b other room [] a = record { board = a; room = refl; text = refl }
  taken_alike b other room (byte ∷ bytes) a =
      let e = any_byte sizes fixed l h Stores alike b other byte a in
      let now = byte_effect b (sheets_of sizes fixed) byte in
      let then = heard_was other sizes (heard_of other byte) in
      let rest = taken_alike now.board then.board (at_front now.reply room) bytes e.board in
      lined_alike Stores (heard_of b byte).packet (heard_of other byte).packet now then _ _ (ap (λ (m : Module). (byte_of m.receiver byte).packet) a.same_record) e
      (subst (λ (reply : List ℕ). TakensAlike Stores (taken_of now.board (sheets_of sizes fixed) (at_front now.reply room) bytes) (taken_was then.board sizes (at_front reply room) bytes)) (sym e.reply) rest)

-- what a call of `write` leaves and answers
pub record BlocksAlike (Stores : List ℕ → List ℕ → Type 0) (x y : AfterBlock) : Type 0 where
  pub board : AlikeBy Stores (left_by x) (left_by y)
  pub answer : y.given.answer ≡ x.given.answer
  pub room : y.room ≡ x.room
  pub out : y.out ≡ x.out

wrote_alike : (Stores : List ℕ → List ℕ → Type 0) (t u : Taken) (out : List ℕ) → TakensAlike Stores t u → BlocksAlike Stores (wrote t out) (wrote u out)
wrote_alike Stores t u out a = record { board = a.board; answer = rw a.text; room = a.room; out = rw a.text }

-- ---- both calls, refused or not

module _ (Stores : List ℕ → List ℕ → Type 0) (b other : Board) (sizes fixed : List ℕ) (g : GoodFixed fixed) (a : AlikeBy Stores b other)
    (same_length : length other.store ≡ length b.store) (r : sheets_hold (sheets_of sizes fixed) ≡ true → ReadAlike sizes Stores) where
  was_alike : (room : List ℕ) → refusal_was other sizes room ≡ refusal_was b sizes room
  unfolding refusal_was
  was_alike room = rw (a.same_record, a.same_states, same_length)

  refusal_alike : (room : List ℕ) → refusal_was other sizes room ≡ board_refusal b (sheets_of sizes fixed) room
  refusal_alike room = was_alike room ∙ sym (refusal_as_was b sizes fixed room g)

  count_alike : other.kept.receiver.count ≡ b.kept.receiver.count
  count_alike = ap (λ (m : Module). m.receiver.count) a.same_record

  -- a refusal leaves all
  unchanged : (room : List ℕ) (answer : Answer) → OutcomesAlike Stores (ending b room answer) (ending other room answer)
  unchanged room answer = record { board = a; answer = refl; room = refl }

  untaken_alike : (room out : List ℕ) (answer : Block) → BlocksAlike Stores (untaken b room out answer) (untaken other room out answer)
  untaken_alike room out answer = record { board = a; answer = refl; room = refl; out = refl }

  pub feed_by_lem : (room times levels : List ℕ) → OutcomesAlike Stores (feed_of b (sheets_of sizes fixed) room times levels) (feed_was other sizes room times levels)
  unfolding feed_by run_of feed_was
  feed_by_lem room times levels =
      by (eqb (board_refusal b (sheets_of sizes fixed) room) 0)
      (λ e. let ok = right b (sheets_of sizes fixed) room (eqb-true _ _ e) in
      let l = sizes_long_lem _ _ (lengths_right _ _ (sheets_of sizes fixed) room ok.buffers) in
      by (eqb (length times) (length levels))
      (λ n. simp (refusal_alike room, e, n) (told_alike Stores room _ _ (call_by sizes fixed l ok.sheeted Stores (r ok.sheeted) b other (edges_of times levels) a)))
      (λ n. simp (refusal_alike room, e, n) (unchanged room _)))
      (λ e. simp (refusal_alike room, e) (unchanged room _))

  pub write_by : (room out input : List ℕ) → BlocksAlike Stores (write_of b (sheets_of sizes fixed) room out input) (write_was other sizes room out input)
  unfolding write_of write_was
  write_by room out input =
      by (eqb (board_refusal b (sheets_of sizes fixed) room) 0)
      (λ e. let ok = right b (sheets_of sizes fixed) room (eqb-true _ _ e) in
      let l = sizes_long_lem _ _ (lengths_right _ _ (sheets_of sizes fixed) room ok.buffers) in
      by (eqb b.kept.receiver.count 0)
      (λ c. by (long_enough input out)
      (λ n. simp (refusal_alike room, count_alike, e, c, n) (wrote_alike Stores _ _ out (taken_alike sizes fixed l ok.sheeted Stores (r ok.sheeted) b other room input a)))
      (λ n. simp (refusal_alike room, count_alike, e, c, n) (untaken_alike room out _)))
      (λ c. simp (refusal_alike room, count_alike, e, c) (untaken_alike room out _)))
      (λ e. simp (refusal_alike room, e) (untaken_alike room out _))

-- ---- as before

pub feed_was_lem : (b : Board) (sizes fixed room times levels : List ℕ) → GoodFixed fixed → feed_of b (sheets_of sizes fixed) room times levels ≡ feed_was b sizes room times levels
feed_was_lem b sizes fixed room times levels g =
    let s = feed_by_lem Same b b sizes fixed g (itself b) refl (λ h. same_alike sizes) room times levels in
    outcomes _ _ _ _ _ _ (same_board _ _ s.board) s.room s.answer
  where
    outcomes : (b c : Board) (x y : List ℕ) (i j : Answer) → c ≡ b → y ≡ x → j ≡ i → ending b x i ≡ ending c y j
    outcomes b c x y i j p q r = rw (p, q, r)

pub write_was_lem : (b : Board) (sizes fixed room out input : List ℕ) → GoodFixed fixed → write_of b (sheets_of sizes fixed) room out input ≡ write_was b sizes room out input
write_was_lem b sizes fixed room out input g =
    let s = write_by Same b b sizes fixed g (itself b) refl (λ h. same_alike sizes) room out input in
    blocks _ _ _ _ _ _ _ _ _ _ _ _ s.board.same_record s.answer s.board.same_states s.board.stores s.room s.out
  where
    blocks : (m k : Module) (i j : Block) (s t u v x y z w : List ℕ) → k ≡ m → j ≡ i → t ≡ s → v ≡ u → y ≡ x → w ≡ z
        → leaving (record { kept = m; answer = i }) s u x z ≡ leaving (record { kept = k; answer = j }) t v y w
    blocks m k i j s t u v x y z w p q r f g h = rw (p, q, r, f, g, h)
