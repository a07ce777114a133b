-- No two results give one answer.
use Rattle.std.proofs.Common.{◌≡◌, ap, Result, Ok, Err, ◌∙◌, ℕ}
use Rattle.refusals.specs.declared.Refusal.{Refusal}
use Rattle.refusals.specs.Numbers.{paper_number}
use Rattle.refusals.proofs.Laws.{same_number}
use Rattle.counts.specs.declared.Counts.{Counts as TwoCounts}
use Rattle.counts.specs.Counts.{Refused, counted_as}

refused_once : (one other : Refusal) → Refused (paper_number one) ≡ Refused (paper_number other) → one ≡ other
refused_once one other e = same_number one other cc

pub told_once : (one other : Result TwoCounts Refusal) → counted_as one ≡ counted_as other → one ≡ other
told_once (Ok one) (Ok other) e =
    let s : one.states ≡ other.states = cc in
    let f : one.functions ≡ other.functions = cc in
    ap (λ (n : ℕ). Ok (record { states = n; functions = one.functions })) s ∙ ap (λ (n : ℕ). Ok (record { states = other.states; functions = n })) f
told_once (Ok one) (Err other) e = cc
told_once (Err one) (Ok other) e = cc
told_once (Err one) (Err other) e = ap (λ why. Err why) (refused_once one other e)
