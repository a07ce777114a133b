-- No two answers of the code are said alike: neither of what the application asks for, nor of a feed, nor of edges listened to.
use Rattle.std.proofs.Common.{ℕ, Bool, List, Option, Result, Ok, Err, ◌≡◌, sym, ap, ◌∙◌}
use Rattle.refusals.specs.declared.Refusal.{Refusal}
use Rattle.refusals.specs.Numbers.{paper_number}
use Rattle.refusals.proofs.Laws.{same_number, never_0}
use Rattle.line.specs.declared.packet.Packet.{Packet}
use Rattle.line.specs.declared.receiver.Receiver.{Receiver}
use Rattle.line.proofs.Told.{packet_once}
use Rattle.board.specs.declared.record.Module.{Module}
use Rattle.module.specs.declared.feeding.Answer as code
use Rattle.module.specs.declared.feeding.Answer.TheVariants as case
use Rattle.module.specs.declared.feeding.Fed.{Fed}
use Rattle.module.specs.declared.listen.Listened.{Listened as Given}
use Rattle.module.specs.Application.{Kept, kept_as}
use Rattle.module.specs.Feed.{Refused, FeedOutcome, answer_as, fed_as}
use Rattle.module.specs.Listen.{Listened, listen_end, listened_as, WholeEnd}

pub kept_once : (m : Module) (one other : Result Module Refusal) → kept_as m one ≡ kept_as m other → one ≡ other
kept_once m (Ok one) (Ok other) e = ap (λ (k : Kept). Ok k.kept) e
kept_once m (Ok one) (Err why) e = absurd (never_0 why (sym (ap (λ (k : Kept). k.refusal) e)))
kept_once m (Err why) (Ok other) e = absurd (never_0 why (ap (λ (k : Kept). k.refusal) e))
kept_once m (Err one) (Err other) e = ap Err (same_number one other (ap (λ (k : Kept). k.refusal) e))

answer_once : (one other : code.Answer) → answer_as one ≡ answer_as other → one ≡ other
answer_once (case.BadEdge one n) (case.BadEdge other m) e =
    let w : paper_number one ≡ paper_number other = cc in
    let k : n ≡ m = cc in
    ap (λ (r : Refusal). case.BadEdge r n) (same_number one other w) ∙ ap (λ (i : ℕ). case.BadEdge other i) k
answer_once (case.BadEdge one n) (case.Silent m) e = cc
answer_once (case.BadEdge one n) (case.Acknowledged m l) e = cc
answer_once (case.Silent n) (case.BadEdge other m) e = cc
answer_once (case.Silent n) (case.Silent m) e = let k : n ≡ m = cc in ap case.Silent k
answer_once (case.Silent n) (case.Acknowledged m l) e = cc
answer_once (case.Acknowledged n k) (case.BadEdge other m) e = cc
answer_once (case.Acknowledged n k) (case.Silent m) e = cc
answer_once (case.Acknowledged n k) (case.Acknowledged m l) e =
    let a : n ≡ m = cc in
    let b : k ≡ l = cc in
    ap (λ (i : ℕ). case.Acknowledged i k) a ∙ ap (λ (i : ℕ). case.Acknowledged m i) b

not_refused : (a : code.Answer) (number : ℕ) → answer_as a ≡ Refused number → ⊥
not_refused (case.BadEdge why n) number e = cc
not_refused (case.Silent n) number e = cc
not_refused (case.Acknowledged n l) number e = cc

made : Module → code.Answer → Fed
made m a = record { kept = m; answer = a }

-- what stands in the lent buffers is the same in both
module _ (m : Module) (states store room : List ℕ) where
  pub fed_once : (one other : Result Fed Refusal) → fed_as m one states store room ≡ fed_as m other states store room → one ≡ other
  unfolding made
  fed_once (Ok one) (Ok other) e =
      let k : one.kept ≡ other.kept = ap (λ (o : FeedOutcome). o.board.kept) e in
      let a : one.answer ≡ other.answer = answer_once one.answer other.answer (ap (λ (o : FeedOutcome). o.answer) e) in
      ap (λ (n : Module). Ok (made n one.answer)) k ∙ ap (λ (b : code.Answer). Ok (made other.kept b)) a
  fed_once (Ok one) (Err why) e = absurd (not_refused one.answer (paper_number why) (ap (λ (o : FeedOutcome). o.answer) e))
  fed_once (Err why) (Ok other) e = absurd (not_refused other.answer (paper_number why) (sym (ap (λ (o : FeedOutcome). o.answer) e)))
  fed_once (Err one) (Err other) e =
      let a : Refused (paper_number one) ≡ Refused (paper_number other) = ap (λ (o : FeedOutcome). o.answer) e in
      let n : paper_number one ≡ paper_number other = cc in
      ap Err (same_number one other n)

-- edges listened to: where they end, and the rest with it
module _ (r s : Receiver) (p q : Bool) (n k : ℕ) where
  end_once : (one other : Result (Option Packet) Refusal) → WholeEnd one → WholeEnd other → listen_end r p n one ≡ listen_end s q k other
      → (one ≡ other) × (r ≡ s) × (p ≡ q) × (n ≡ k)
  end_once (Ok one) (Ok other) w v e =
      (ap Ok (packet_once one other w v (ap (λ (l : Listened). l.packet) e)), ap (λ (l : Listened). l.receiver) e, ap (λ (l : Listened). l.paused) e, ap (λ (l : Listened). l.taken) e)
  end_once (Ok one) (Err why) w v e = absurd (never_0 why (sym (ap (λ (l : Listened). l.refusal) e)))
  end_once (Err why) (Ok other) w v e = absurd (never_0 why (ap (λ (l : Listened). l.refusal) e))
  end_once (Err one) (Err other) w v e =
      (ap Err (same_number one other (ap (λ (l : Listened). l.refusal) e)), ap (λ (l : Listened). l.receiver) e, ap (λ (l : Listened). l.paused) e, ap (λ (l : Listened). l.taken) e)

pub listened_once : (one other : Given) → WholeEnd one.end → WholeEnd other.end → listened_as one ≡ listened_as other → one ≡ other
listened_once one other w v same =
    let parts = end_once one.receiver other.receiver one.paused other.paused one.taken other.taken one.end other.end w v same in
    let e : one.end ≡ other.end = parts.0 in
    let r : one.receiver ≡ other.receiver = parts.1 in
    let p : one.paused ≡ other.paused = parts.2 in
    let n : one.taken ≡ other.taken = parts.3 in
    λ i. record { receiver = r i; paused = p i; taken = n i; end = e i }
