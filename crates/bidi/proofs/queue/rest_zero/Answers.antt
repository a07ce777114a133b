use Rattle.std.proofs.Common.{rules, ℕ, ◌*◌, List, [], ◌∷◌, Bool, ◌≡◌, refl, ap, eqb, ◌&&◌, ◌∙◌, drop, arith}
use Rattle.std.proofs.lemmas.Iterator.{YieldsList-from_slice}
use Rattle.std.proofs.lemmas.Iterator.Adapters.{YieldsList-from_skip}
use Rattle.std.proofs.lemmas.Iterator.Search.{all_from_yields_List}
use borrow.Author.Tests.{tests}
use Rattle.std.specs.List.{list_all}
use Rattle.slots.specs.Slots.{all_zero}
use Rattle.bidi.proofs.queue.rest_zero.Goals as goal

all_are : (bytes : List ℕ) → list_all (λ (byte : ℕ). eqb byte 0) bytes ≡ all_zero bytes
unfolding all_zero
all_are [] = refl
all_are (b ∷ bs) = ap (λ (rest : Bool). eqb b 0 && rest) (all_are bs)

pub returns : goal.returns
returns c =
    let used : c.from-used.result * 4 ≡ 4 * c.args.queued = omega (arith, c.from-used.ensures) in
    let ran : c.all.result ≡ list_all (λ (byte : ℕ). eqb byte 0) (drop (c.from-used.result * 4) c.args.queue) =
    all_from_yields_List (λ (byte : ℕ). eqb byte 0) _ _ _ c.all.ensures.ran (YieldsList-from_skip (c.from-used.result * 4) (YieldsList-from_slice c.args.queue cc) cc) (λ x b q k. search (rules, tests)) in
    ran ∙ rw used (all_are (drop (4 * c.args.queued) c.args.queue))
