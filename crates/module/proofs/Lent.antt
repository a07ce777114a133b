-- Where buffers are lent, no two results are said alike with what stands in these at exit: of a restart the states, of a feed states, store and reply room.
use Rattle.std.proofs.Common.{List, ℕ, Result, Ok, Err, ◌≡◌, refl, sym, ap, ◌∙◌}
use Rattle.refusals.specs.declared.Refusal.{Refusal}
use Rattle.board.specs.declared.record.Module.{Module}
use Rattle.module.specs.declared.feeding.Fed.{Fed}
use Rattle.module.specs.Application.{kept_as, Restart, restart}
use Rattle.module.specs.Feed.{FeedOutcome, fed_as}
use Rattle.module.proofs.Once.{kept_once, fed_once}

pub restart_once : (m : Module) (one other : Result Module Refusal) (states states' : List ℕ) → restart (kept_as m one) states ≡ restart (kept_as m other) states'
    → (one ≡ other) × (states ≡ states')
restart_once m one other states states' e = (kept_once m one other (ap (λ (r : Restart). r.given) e), ap (λ (r : Restart). r.states) e)

module _ (m : Module) where
  lent : (r : Result Fed Refusal) (states store room : List ℕ)
      → ((fed_as m r states store room).board.states ≡ states) × ((fed_as m r states store room).board.store ≡ store) × ((fed_as m r states store room).room ≡ room)
  lent (Ok fed) states store room = (refl, refl, refl)
  lent (Err why) states store room = (refl, refl, refl)

  pub feed_once : (one other : Result Fed Refusal) (states store room states' store' room' : List ℕ) → fed_as m one states store room ≡ fed_as m other states' store' room'
      → (one ≡ other) × (states ≡ states') × (store ≡ store') × (room ≡ room')
  feed_once one other states store room states' store' room' e =
      let l = lent one states store room in
      let k = lent other states' store' room' in
      let s : states ≡ states' = sym l.0 ∙ ap (λ (o : FeedOutcome). o.board.states) e ∙ k.0 in
      let t : store ≡ store' = sym l.1 ∙ ap (λ (o : FeedOutcome). o.board.store) e ∙ k.1 in
      let r : room ≡ room' = sym l.2 ∙ ap (λ (o : FeedOutcome). o.room) e ∙ k.2 in
      (fed_once m states' store' room' one other (sym (λ i. fed_as m one (s i) (t i) (r i)) ∙ e), s, t, r)
