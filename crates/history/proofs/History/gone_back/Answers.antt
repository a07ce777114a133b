-- `History::gone_back` meets its contract. The invariant: `Going`, to undo what is left gives what all give.
use Prim.Native.Nat.{ℕ, ◌+◌, ◌-◌, ◌≤◌}
use mathlib.Core.Path.{◌≡◌, refl, sym, ◌∙◌, ap}
use native.Mathlib.Omega.{arith}
use Rattle.history.specs.History.{history, Past, past, undone_by, went_back, gone_back}
use Rattle.history.proofs.Kept.{at_most_64, not_older}
use Rattle.history.proofs.Going.{going_turn}
use Rattle.history.proofs.History.gone_back.Goals as goal

pub loop-init : goal.loop-init
loop-init c =
    let far = not_older c.args.self c.args.version c.requires.version_value in
    let enough : c.args.self.version - c.args.version ≤ c.args.self.reach = omega arith in
    record { enough = enough; few = at_most_64 _ c.requires.self_value; long = c.requires.changes_value; within = c.requires.kept_within; changes_same = refl; store_same = refl; gives = refl }

pub undo_newest-reach-requires : goal.undo_newest-reach-requires
undo_newest-reach-requires c =
    let g = c.loop.invariant in
    let h = g.enough in
    record { reach_nonzero = omega arith; reach_bound = g.few; changes_value = g.long; kept_within = g.within }

pub loop-preserved : goal.loop-preserved
loop-preserved c =
    let l = c.loop in
    let v = c.args.self.version in
    let less : v - l.counter - 1 ≡ v - (l.counter + 1) = omega arith in
    rw (← less)
    (going_turn _ _ _ _ _ _ _ _ l.invariant (omega arith) _ _ _ c.undo_newest-reach.ensures)

pub shape_of-changes : goal.shape_of-changes
shape_of-changes c = c.loop.invariant.changes_same

pub shape_of-store : goal.shape_of-store
shape_of-store c = c.loop.invariant.store_same

pub returns : goal.returns
unfolding gone_back undone_by
returns c =
    let l = c.loop in
    let none : c.args.self.version - l.counter ≡ 0 = omega arith in
    ap (λ (p : Past). went_back (history c.args.version p.reach) p.changes p.store)
    (ap (λ (n : ℕ). undone_by n (past l.reach l.changes l.store)) (sym none) ∙ l.invariant.gives)
