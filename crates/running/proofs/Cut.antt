-- THE CUT THEOREM: however a list is cut into pieces, feeding them ends, and gives what the whole list gives.
use Prim.Native.Nat.{ℕ, zero, suc, ◌+◌, ◌≤◌, ◌<◌}
use mathlib.Core.List.{List, [], ◌∷◌, ◌++◌, append-nil, flatten}
use mathlib.Core.Bool.{Bool}
use mathlib.Core.Path.{◌≡◌, refl, sym, ◌∙◌, ap}
use native.Mathlib.Omega.{arith}
use lib.ListN.{length, drop, length-append, length-drop, take-append-drop}
use Rattle.running.specs.Running.{Rule, CallEnd, at_end, at_bad, at_answer, at_once, Call, call_of}
use Rattle.running.specs.Running.{Story, ended, answering, whole_of, story_at, story_after}
use Rattle.running.specs.Pieces.{Caller, Faithful, AsTheWhole, cut_at}
use Rattle.running.specs.Pieces.{PiecesFed, all_fed, used_up, stopped, bad_item, nothing_left}
use Rattle.running.specs.Pieces.{Going, by_now, piece_done, on_from_there, at_bad_item, spared}
use Rattle.running.proofs.Calls.{whole_by_call, call_takes, call_unrefused}

module _ {B I A O : Type 0} {rule : Rule B I A} {caller : Caller B I A O} {Good : B → Type 0} (faithful : Faithful rule caller Good) where
  -- what follows of one outcome that fulfils the promise, on a good board
  module _ {b : B} {k : ℕ} {piece : List I} {o : O} (g : Good b) (p : caller.promise b k piece o) where
    says : caller.says o ≡ call_of rule b 0 piece
    says = faithful.says_so b k piece o g p

    stop_said : (call_of rule b 0 piece).stop ≡ (caller.says o).stop
    stop_said = ap (λ (c : Call B A). c.stop) (sym says)

    still_good : Good (caller.says o).board
    still_good = rw says (faithful.stays_good b piece g)

    -- the story of the piece and what is behind it
    by_outcome : (n : ℕ) (behind : List I) → whole_of rule b n (piece ++ behind) ≡ story_after rule n piece behind (caller.says o)
    by_outcome n behind = rw says (whole_by_call rule b n piece behind)

    -- an answered call takes an item or more, and no more than the piece has
    takes : (a : A) → (caller.says o).stop ≡ at_answer a → (0 < (caller.says o).taken) × ((caller.says o).taken ≤ length piece)
    takes a h = rw says (let t = call_takes rule b 0 piece a (stop_said ∙ h) in (omega arith, omega arith))

    unrefused : (number : ℕ) → (caller.says o).stop ≡ at_once number → ⊥
    unrefused number h = call_unrefused rule b 0 piece number (stop_said ∙ h)

  module _ (spares : Bool) where
    -- EVERY FEEDING GIVES THE WHOLE
    pub fed_whole : {b : B} {k n : ℕ} {pieces : List (List I)} {s : Story B A} → Good b → PiecesFed caller spares b k n pieces s
        → s ≡ whole_of rule b n (flatten pieces)
    unfolding whole_of flatten story_at
    fed_whole g all_fed = refl
    fed_whole {n = n} g (used_up {pieces = pieces} o p a f) =
        fed_whole (still_good g p) f ∙ sym (by_outcome g p n (flatten pieces) ∙ rw a)
    fed_whole {n = n} g (stopped {pieces = pieces} o reply p a f) =
        ap (answering (n + (caller.says o).taken) reply) (fed_whole (still_good g p) f) ∙ sym (by_outcome g p n (flatten pieces) ∙ rw a)
    fed_whole {n = n} g (bad_item {pieces = pieces} o number p a) = sym (by_outcome g p n (flatten pieces) ∙ rw a)
    fed_whole g (nothing_left may f) = fed_whole g f

    -- what is to be fed can be fed to its end
    abbrev pub FedToTheEnd : B → ℕ → ℕ → List (List I) → Type 0
    FedToTheEnd b k n pieces = (s : Story B A) × PiecesFed caller spares b k n pieces s

    -- after a call: nothing is left to feed, or the next pieces, or the rest of this piece
    after_call : (b : B) (k n : ℕ) (piece : List I) (pieces : List (List I)) (o : O) → Good b → caller.promise b k piece o
        → FedToTheEnd (caller.says o).board (k + 1) (n + (caller.says o).taken) pieces
        → ((a : A) → (caller.says o).stop ≡ at_answer a
        → FedToTheEnd (caller.says o).board (k + 1) (n + (caller.says o).taken) (drop (caller.says o).taken piece ∷ pieces))
        → (stop : CallEnd A) → (caller.says o).stop ≡ stop → FedToTheEnd b k n (piece ∷ pieces)
    after_call b k n piece pieces o g p behind on at_end h = (behind.0, used_up o p h behind.1)
    after_call b k n piece pieces o g p behind on (at_bad number) h =
        (ended (caller.says o).board (n + (caller.says o).taken) number, bad_item o number p h)
    after_call b k n piece pieces o g p behind on (at_answer a) h =
        (answering (n + (caller.says o).taken) a (on a h).0, stopped o a p h (on a h).1)
    after_call b k n piece pieces o g p behind on (at_once number) h = absurd (unrefused g p number h)

    -- a piece comes to its end: a call that stopped at an answer took an item or more, so that the next one has fewer left
    piece_ends : (most : ℕ) (b : B) (k n : ℕ) (piece : List I) (pieces : List (List I)) → Good b → length piece ≤ most
        → ((c : B) (next m : ℕ) → Good c → FedToTheEnd c next m pieces)
        → FedToTheEnd b k n (piece ∷ pieces)
    piece_ends zero b k n piece pieces g few behind =
        let o = (faithful.some_outcome b k piece g).0 in
        let p : caller.promise b k piece o = (faithful.some_outcome b k piece g).1 in
        let c = caller.says o in
        after_call b k n piece pieces o g p (behind c.board (k + 1) (n + c.taken) (still_good g p))
        (λ a h. let t = takes g p a h in let z : ⊥ = omega arith in absurd z) c.stop refl
    piece_ends (suc most) b k n piece pieces g few behind =
        let o = (faithful.some_outcome b k piece g).0 in
        let p : caller.promise b k piece o = (faithful.some_outcome b k piece g).1 in
        let c = caller.says o in
        after_call b k n piece pieces o g p (behind c.board (k + 1) (n + c.taken) (still_good g p))
        (λ a h. let t = takes g p a h in
        let fewer : length (drop c.taken piece) ≤ most = simp length-drop (omega arith) in
        piece_ends most c.board (k + 1) (n + c.taken) (drop c.taken piece) pieces (still_good g p) fewer behind) c.stop refl

    -- THE FEEDING ENDS, wherever it stands
    pub feeding_ends : (pieces : List (List I)) (b : B) (k n : ℕ) → Good b → FedToTheEnd b k n pieces
    feeding_ends [] b k n g = (ended b n 0, all_fed)
    feeding_ends (piece ∷ pieces) b k n g = piece_ends (length piece) b k n piece pieces g (omega arith) (feeding_ends pieces)

    -- NO FEEDING, finished or not, makes more calls than there are items and pieces
    pub few_calls : {b : B} {k calls : ℕ} {pieces : List (List I)} → Good b → Going caller spares b k pieces calls
        → calls ≤ length (flatten pieces) + length pieces
    unfolding flatten
    few_calls g by_now = omega arith
    few_calls g (piece_done {piece = piece} o p a f) = simp length-append (omega (arith, few_calls (still_good g p) f))
    few_calls g (on_from_there {piece = piece} o reply p a f) =
        let t = takes g p reply a in
        let h = simp (length-append, length-drop) at (few_calls (still_good g p) f) in
        simp length-append (omega arith)
    few_calls g (at_bad_item o number p a) = omega arith
    few_calls g (spared may f) = omega (arith, few_calls g f)

    -- THE CUT THEOREM
    pub cut_as_the_whole : {b : B} → Good b → (recording : List I) (pieces : List (List I)) → flatten pieces ≡ recording
        → AsTheWhole rule caller spares b recording pieces
    cut_as_the_whole {b} g recording pieces joined =
        record {
          ends = feeding_ends pieces b 0 0 g;
          few_calls = λ calls f. rw (← joined) (few_calls g f);
          same = λ s f. fed_whole g f ∙ ap (whole_of rule b 0) joined;
        }

-- so two ways of cutting a list, fed by two callers, end alike
pub cut_no_matter : {B I A O Q : Type 0} {rule : Rule B I A} {caller : Caller B I A O} {other : Caller B I A Q} {Good Fine : B → Type 0}
    → Faithful rule caller Good → Faithful rule other Fine → (spares sparing : Bool) → {b : B} → Good b → Fine b
    → (pieces parts : List (List I)) → flatten pieces ≡ flatten parts → (s t : Story B A)
    → PiecesFed caller spares b 0 0 pieces s → PiecesFed other sparing b 0 0 parts t → s ≡ t
cut_no_matter faithful as-faithful spares sparing good fine pieces parts same s t f h =
    (cut_as_the_whole faithful spares good (flatten parts) pieces same).same s f
    ∙ sym ((cut_as_the_whole as-faithful sparing fine (flatten parts) parts refl).same t h)

-- pieces of any lengths are a way of cutting
pub cut_joined : {I : Type 0} (ks : List ℕ) (recording : List I) → flatten (cut_at ks recording) ≡ recording
unfolding flatten cut_at
cut_joined [] recording = append-nil recording
cut_joined (k ∷ ks) recording = rw (cut_joined ks (drop k recording)) (take-append-drop k recording)

-- and a list may be cut at any places
pub cut_anywhere : {B I A O : Type 0} {rule : Rule B I A} {caller : Caller B I A O} {Good : B → Type 0} → Faithful rule caller Good
    → (spares : Bool) {b : B} → Good b → (ks : List ℕ) (recording : List I)
    → AsTheWhole rule caller spares b recording (cut_at ks recording)
cut_anywhere faithful spares g ks recording = cut_as_the_whole faithful spares g recording (cut_at ks recording) (cut_joined ks recording)
