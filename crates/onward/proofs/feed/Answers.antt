use mathlib.Core.Path.{ap}
use lib.ListN.{length}
use Rattle.std.proofs.lemmas.Result.{err_from_is_err_and}
use Rattle.module.specs.Feed.{FeedOutcome, FeedPromise}
use Rattle.onward.specs.Onward.{start_of, turn_after, onward_of}
use Rattle.onward.proofs.Laws.{rest, drop_start, fits_behind}
use Rattle.onward.proofs.feed.Goals as goal

pub place-requires : goal.place-requires
unfolding FeedPromise
place-requires c =
    let z = c.args in
    rw (ap (λ (o : FeedOutcome). o.answer) c.in_ok-fed.ensures, rest z.times.now c.start-from.result)
    (fits_behind z.times.now c.start-from.result c.start-from.ensures.1 _ _ _ _)

pub returns : goal.returns
unfolding FeedPromise onward_of
returns c =
    let z = c.args in
    let e =
    rw (rest z.times.now c.start-from.result, c.start-from.ensures.0, drop_start z.times.now z.at, rest z.levels.now c.start-levels_from.result, c.start-levels_from.ensures.0, drop_start z.levels.now z.at)
    at c.in_ok-fed.ensures in
    rw (c.place.ensures, c.reason.ensures, c.start-from.ensures.0) (ap (turn_after (length z.times.now) (start_of z.at (length z.times.now))) e)

pub returns-in_err-fed : goal.returns-in_err-fed
unfolding FeedPromise onward_of
returns-in_err-fed c =
    let z = c.args in
    let e =
    rw (rest z.times.now c.start-from.result, c.start-from.ensures.0, drop_start z.times.now z.at, rest z.levels.now c.start-levels_from.result, c.start-levels_from.ensures.0, drop_start z.levels.now z.at)
    at c.in_err-fed.ensures in
    let p = err_from_is_err_and c.from_residual.result c.from_residual.ensures.1 in
    rw (p.1, p.2) (ap (turn_after (length z.times.now) (start_of z.at (length z.times.now))) e)
