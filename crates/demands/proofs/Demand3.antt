-- DEMAND 3, `Demand3` of specs/Demands.antt. For every possible record, good buffers, recording, and way of cutting the recording into pieces (empty ones too, cuts
-- inside a byte or a pause too): feeding each piece on from where the feed stopped until it is used up comes to an end, and gives
-- the record, cells, states, answers and answering edges of the whole recording's definition, up to its first bad edge and with
-- its number. Each call is known by the feed's promise alone, and may lend another reply room, of any content, of 84 bytes or more.
use Prim.Native.Nat.{ℕ, ◌≤◌}
use mathlib.Core.Bool.{Bool}
use mathlib.Core.List.{List, [], flatten}
use mathlib.Core.Path.{◌≡◌, ◌∙◌}
use lib.ListN.{length}
use Rattle.running.specs.Pieces.{cut_at}
use Rattle.running.proofs.Cut as C
use Rattle.line.specs.Wire.{Edge, edges_of}
use Rattle.store.specs.Sheet.{Sheets}
use Rattle.board.specs.Board.{Board}
use Rattle.module.specs.Feed.{Silent, FeedOutcome, ending, FeedPromise}
use Rattle.module.specs.Whole.{Story}
use Rattle.module.proofs.Stops.{empty_run}
use Rattle.demands.specs.Pieces.{Good, LongRooms, Feeds, FedAsTheWhole}
use Rattle.demands.proofs.Feeding.{ran, feed_faithful}

module _ (spares : Bool) {b : Board} {sheets : Sheets} (g : Good b sheets) (rooms : ℕ → List ℕ) (long : LongRooms rooms) where
  -- THE DEMAND
  pub demand_3 : (recording : List Edge) (pieces : List (List Edge)) → flatten pieces ≡ recording → FedAsTheWhole spares b sheets rooms recording pieces
  demand_3 recording pieces cut = C.cut_as_the_whole (feed_faithful sheets rooms long) spares g recording pieces cut

  -- a recording as it is given, two equally long lists, may be cut at any places
  pub cut_anywhere : (times levels ks : List ℕ) → FedAsTheWhole spares b sheets rooms (edges_of times levels) (cut_at ks (edges_of times levels))
  cut_anywhere times levels ks = C.cut_anywhere (feed_faithful sheets rooms long) spares g ks (edges_of times levels)

-- two ways of cutting a recording, by callers of either kind and with any rooms, end alike
pub cut_no_matter : (spares sparing : Bool) {b : Board} {sheets : Sheets} → Good b sheets → (rooms others : ℕ → List ℕ) → LongRooms rooms → LongRooms others
    → (pieces parts : List (List Edge)) → flatten pieces ≡ flatten parts → (s t : Story)
    → Feeds spares sheets rooms b pieces s → Feeds sparing sheets others b parts t → s ≡ t
cut_no_matter spares sparing {b} {sheets} g rooms others long wide = C.cut_no_matter (feed_faithful sheets rooms long) (feed_faithful sheets others wide) spares sparing g g

-- "An empty piece takes none and changes nothing."
pub empty_piece : {b : Board} {sheets : Sheets} → Good b sheets → (room : List ℕ) → 84 ≤ length room → (o : FeedOutcome)
    → FeedPromise b sheets room [] [] o → o ≡ ending b room (Silent 0)
empty_piece {b} {sheets} g room long o p = (ran g room long [] o p).is ∙ empty_run b sheets room 0
