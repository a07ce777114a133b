-- The code's answers and what is said of them: no two answers of an edge are said alike.
use Prim.Native.Nat.{ℕ}
use mathlib.Core.Bool.{true}
use mathlib.Core.Path.{◌≡◌, refl, sym, ap}
use borrow.Author.Tests.{ne_eqb}
use Rattle.std.specs.Prelude.{Option, Some, None, Result, Ok, Err}
use Rattle.refusals.specs.declared.Refusal.{Refusal}
use Rattle.refusals.specs.Numbers.{paper_number}
use Rattle.refusals.proofs.Laws.{same_number, never_0}
use Rattle.line.specs.declared.packet.Packet.{Packet}
use Rattle.line.specs.declared.receiver.Receiver.{Receiver}
use Rattle.line.specs.declared.receiver.Heard as code
use Rattle.line.specs.Line.{Heard, EdgeAnswer, packet_in, heard_told, WholePacket, WholeAnswer, receiver_possible, edge_refusal, answer_of, EdgePromise, edge_as}

-- a possible receiver's edge that gives cause for a refusal is answered by it
pub refused_so : (r : Receiver) (time level : ℕ) (why : Refusal) → receiver_possible r ≡ true → paper_number why ≡ edge_refusal r time level
    → EdgePromise r time level (edge_as r (Err why))
unfolding answer_of
refused_so r time level why possible same =
    simp (possible, sym same, ne_eqb (paper_number why) 0 (never_0 why))

-- no two packets, there or not, are said alike
pub packet_once : (one other : Option Packet) → WholePacket one → WholePacket other → packet_in one ≡ packet_in other → one ≡ other
packet_once None None w v same = refl
packet_once None (Some q) w v same = absurd (v (sym (ap (λ (p : Packet). p.length) same)))
packet_once (Some p) None w v same = absurd (w (ap (λ (p : Packet). p.length) same))
packet_once (Some p) (Some q) w v same = ap Some same

-- nor what was heard
pub heard_once : (one other : code.Heard) → WholePacket one.packet → WholePacket other.packet → heard_told one ≡ heard_told other → one ≡ other
heard_once one other w v same =
    let r : one.receiver ≡ other.receiver = ap (λ (h : Heard). h.receiver) same in
    let p = packet_once one.packet other.packet w v (ap (λ (h : Heard). h.packet) same) in
    λ i. record { receiver = r i; packet = p i }

-- nor answers to an edge
pub told_once : (r : Receiver) (one other : Result code.Heard Refusal) → WholeAnswer one → WholeAnswer other → edge_as r one ≡ edge_as r other → one ≡ other
told_once r (Ok h) (Ok k) w v same = ap Ok (heard_once h k w v (ap (λ (a : EdgeAnswer). a.heard) same))
told_once r (Ok h) (Err why) w v same = absurd (never_0 why (sym (ap (λ (a : EdgeAnswer). a.refusal) same)))
told_once r (Err why) (Ok h) w v same = absurd (never_0 why (ap (λ (a : EdgeAnswer). a.refusal) same))
told_once r (Err why) (Err other) w v same = ap Err (same_number why other (ap (λ (a : EdgeAnswer). a.refusal) same))
