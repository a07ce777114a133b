-- No two turns of the code are said alike.
use Rattle.std.proofs.Common.{ℕ, List, Result, Ok, Err, ◌≡◌, refl, sym, ap, ◌∙◌}
use Rattle.refusals.specs.declared.Refusal.{Refusal}
use Rattle.refusals.specs.Numbers.{paper_number}
use Rattle.refusals.proofs.Laws.{same_number}
use Rattle.board.specs.declared.record.Module.{Module}
use Rattle.onward.specs.declared.Stop as code
use Rattle.onward.specs.declared.Stop.TheVariants as case
use Rattle.onward.specs.declared.Turn.{Turn}
use Rattle.onward.specs.Stop as stop
use Rattle.onward.specs.Onward.{Onward, stop_as, turn_as}

stop_once : (one other : code.Stop) → stop_as one ≡ stop_as other → one ≡ other
stop_once (case.BadEdge one) (case.BadEdge other) e =
    let n : paper_number one ≡ paper_number other = cc in ap case.BadEdge (same_number one other n)
stop_once (case.BadEdge one) case.Silent e = cc
stop_once (case.BadEdge one) (case.Acknowledged l) e = cc
stop_once case.Silent (case.BadEdge other) e = cc
stop_once case.Silent case.Silent e = refl
stop_once case.Silent (case.Acknowledged l) e = cc
stop_once (case.Acknowledged k) (case.BadEdge other) e = cc
stop_once (case.Acknowledged k) case.Silent e = cc
stop_once (case.Acknowledged k) (case.Acknowledged l) e = let n : k ≡ l = cc in ap case.Acknowledged n

not_refused : (s : code.Stop) (number : ℕ) → stop_as s ≡ stop.Refused number → ⊥
not_refused (case.BadEdge why) number e = cc
not_refused case.Silent number e = cc
not_refused (case.Acknowledged l) number e = cc

made : Module → code.Stop → ℕ → Turn
made m s at = record { kept = m; stop = s; at = at }

-- what stands in the lent buffers is the same in both
module _ (m : Module) (n : ℕ) (states store room : List ℕ) where
  pub turn_once : (one other : Result Turn Refusal) → turn_as m n one states store room ≡ turn_as m n other states store room → one ≡ other
  unfolding made
  turn_once (Ok one) (Ok other) e =
      let k : one.kept ≡ other.kept = ap (λ (o : Onward). o.board.kept) e in
      let s : one.stop ≡ other.stop = stop_once one.stop other.stop (ap (λ (o : Onward). o.stop) e) in
      let a : one.at ≡ other.at = ap (λ (o : Onward). o.at) e in
      ap (λ (kept : Module). Ok (made kept one.stop one.at)) k
      ∙ ap (λ (why : code.Stop). Ok (made other.kept why one.at)) s
      ∙ ap (λ (at : ℕ). Ok (made other.kept other.stop at)) a
  turn_once (Ok one) (Err why) e = absurd (not_refused one.stop (paper_number why) (ap (λ (o : Onward). o.stop) e))
  turn_once (Err why) (Ok other) e = absurd (not_refused other.stop (paper_number why) (sym (ap (λ (o : Onward). o.stop) e)))
  turn_once (Err one) (Err other) e =
      let s : stop.Refused (paper_number one) ≡ stop.Refused (paper_number other) = ap (λ (o : Onward). o.stop) e in
      let k : paper_number one ≡ paper_number other = cc in
      ap Err (same_number one other k)
