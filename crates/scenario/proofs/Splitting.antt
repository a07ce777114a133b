-- The loops over a text's bytes, a step at a time, and how the parts come out of them.
use Prim.Native.Nat.{ℕ, zero, suc, ◌+◌, ◌-◌, ◌≤◌, ◌<◌}
use mathlib.Core.Bool.{false, not, ◌&&◌}
use mathlib.Core.List.{List, [], ◌∷◌}
use mathlib.Core.Path.{◌≡◌, refl, sym, ◌∙◌, ap}
use native.Mathlib.Omega.{arith}
use lib.Dec.{eqb}
use Rattle.std.proofs.Common.{bytes_eq}
use Rattle.std.specs.List.{filter, slice_split, onto_first}
use lib.ListN.{length, get_or, take, drop, drop_of_length-le, length-drop}
use lib.Seq.{drop-cons, drop-drop, get_or-drop}
use borrow.Author.Tests.{eq-eqb, ne_eqb}
use Rattle.bits.proofs.Tests.{by}
use Rattle.scenario.specs.declared.words.Span.{Span}
use Rattle.scenario.specs.Words.{Word, up_to, uncommented, in_front, pieces, non_empty, parts_of, word_at, same, leading, past_all, until_one, start_from, span_of}

-- from a place on, up to a byte and past it: it stands here, or not, or the text is over
module _ (stop : ℕ) (s : List ℕ) (i : ℕ) where
  pub stop_here : i < length s → get_or s i 0 ≡ stop → until_one stop s i ≡ i
  unfolding until_one up_to
  stop_here h e = rw (drop-cons s i 0 h) (simp (eq-eqb _ _ e) (omega arith))

  pub stop_later : i < length s → (get_or s i 0 ≡ stop → ⊥) → until_one stop s i ≡ until_one stop s (suc i)
  unfolding until_one up_to
  stop_later h e = rw (drop-cons s i 0 h) (simp (ne_eqb _ _ e) (omega arith))

  pub no_stop : length s ≤ i → until_one stop s i ≡ i
  unfolding until_one up_to
  no_stop h = rw (drop_of_length-le s h) (omega arith)

  pub past_here : i < length s → get_or s i 0 ≡ stop → past_all stop s i ≡ past_all stop s (suc i)
  unfolding past_all leading
  past_here h e = rw (drop-cons s i 0 h) (simp (eq-eqb _ _ e) (omega arith))

  pub not_here : i < length s → (get_or s i 0 ≡ stop → ⊥) → past_all stop s i ≡ i
  unfolding past_all leading
  not_here h e = rw (drop-cons s i 0 h) (simp (ne_eqb _ _ e) (omega arith))

  pub none_left : length s ≤ i → past_all stop s i ≡ i
  unfolding past_all leading
  none_left h = rw (drop_of_length-le s h) (omega arith)

-- two words that are compared, byte by byte
pub compared : (one other : Word) → bytes_eq one other ≡ same one other
unfolding same
compared [] [] = refl
compared [] (b ∷ w) = refl
compared (a ∷ v) [] = refl
compared (a ∷ v) (b ∷ w) = ap (λ t. eqb a b && t) (compared v w)

front_same : (b : ℕ) (ws : List Word) → onto_first b ws ≡ in_front b ws
front_same b [] = refl
front_same b (w ∷ ws) = refl

-- what is taken up to a stop is the text's front
front_taken : (stop : ℕ) (s : List ℕ) → take (length (up_to stop s)) s ≡ up_to stop s
unfolding up_to
front_taken stop [] = refl
front_taken stop (b ∷ s) = by (eqb b stop) (λ t. simp t) (λ t. simp t (ap (λ (w : Word). b ∷ w) (front_taken stop s)))

front_within : (stop : ℕ) (s : List ℕ) → length (up_to stop s) ≤ length s
unfolding up_to
front_within stop [] = omega arith
front_within stop (b ∷ s) = by (eqb b stop) (λ t. simp t (omega arith)) (λ t. simp t (omega (arith, front_within stop s)))

leading_within : (stop : ℕ) (s : List ℕ) → leading stop s ≤ length s
unfolding leading
leading_within stop [] = omega arith
leading_within stop (b ∷ s) = by (eqb b stop) (λ t. simp t (omega (arith, leading_within stop s))) (λ t. simp t (omega arith))

-- the first piece is what stands before the first stop, and the others are those of what is behind it
pieces_front : (stop : ℕ) (s : List ℕ) → (rest : List Word) × (pieces stop s ≡ up_to stop s ∷ rest) × (non_empty rest ≡ parts_of stop (drop (length (up_to stop s)) s))
unfolding pieces up_to parts_of
pieces_front stop [] = ([], refl, refl)
pieces_front stop (b ∷ s) =
    by (eqb b stop) (λ t. (pieces stop s, simp t, simp t))
    (λ t. let f = pieces_front stop s in (f.0, simp (t, f.1), simp t f.2))

-- stops in front make no parts
stops_none : (stop : ℕ) (s : List ℕ) → parts_of stop s ≡ parts_of stop (drop (leading stop s) s)
unfolding parts_of pieces leading
stops_none stop [] = refl
stops_none stop (b ∷ s) = by (eqb b stop) (λ t. simp t (stops_none stop s)) (λ t. simp t)

-- the part in front is the first, and the others are those behind it
abbrev Split : ℕ → List ℕ → Type 0
Split stop s = (word_at (parts_of stop s) 0 ≡ up_to stop s) × (drop 1 (parts_of stop s) ≡ parts_of stop (drop (length (up_to stop s)) s))

split_off : (stop b : ℕ) (s : List ℕ) → eqb b stop ≡ false → Split stop (b ∷ s)
unfolding parts_of up_to
split_off stop b s t =
    let f = pieces_front stop (b ∷ s) in
    let u : up_to stop (b ∷ s) ≡ b ∷ up_to stop s = simp t in
    (simp (f.1, t), simp (f.1, t) (f.2 ∙ simp t))

split_none : (stop : ℕ) → Split stop []
unfolding parts_of up_to pieces
split_none stop = (refl, refl)

first_off : (stop : ℕ) (s : List ℕ) → Split stop (drop (leading stop s) s)
unfolding leading
first_off stop [] = split_none stop
first_off stop (b ∷ s) = by (eqb b stop) (λ t. simp t (first_off stop s)) (λ t. simp t (split_off stop b s t))

module _ (stop : ℕ) (s : List ℕ) (at : ℕ) (h : at ≤ length s) where
  pub past_within : past_all stop s at ≤ length s
  unfolding past_all
  past_within = omega (arith, leading_within stop (drop at s), length-drop at s)

  pub until_within : until_one stop s at ≤ length s
  unfolding until_one
  until_within = omega (arith, front_within stop (drop at s), length-drop at s)

  pub until_after : at ≤ until_one stop s at
  unfolding until_one
  until_after = omega arith

  taken : take (until_one stop s at - at) (drop at s) ≡ up_to stop (drop at s)
  unfolding until_one
  taken =
      let n : at + length (up_to stop (drop at s)) - at ≡ length (up_to stop (drop at s)) = omega arith in
      rw n (front_taken stop (drop at s))

-- the parts, as a text is split by a search for a byte
pieces_split : (stop : ℕ) (s : List ℕ) → slice_split (λ b. eqb b stop) s ≡ pieces stop s
unfolding pieces
pieces_split stop [] = refl
pieces_split stop (b ∷ s) = by (eqb b stop) (λ t. simp (t, pieces_split stop s)) (λ t. simp (t, pieces_split stop s) (front_same b (pieces stop s)))

kept : (ps : List Word) → filter (λ w. not (eqb (length w) 0)) ps ≡ non_empty ps
kept [] = refl
kept ([] ∷ ps) = kept ps
kept ((b ∷ w) ∷ ps) =
    let some : eqb (suc (length w)) 0 ≡ false = ne_eqb (suc (length w)) 0 (λ e. let z : ⊥ = omega arith in z) in
    simp some (ap (λ (ws : List Word). (b ∷ w) ∷ ws) (kept ps))

pub parts_split : (stop : ℕ) (s : List ℕ) → filter (λ w. not (eqb (length w) 0)) (slice_split (λ b. eqb b stop) s) ≡ parts_of stop s
unfolding parts_of
parts_split stop s = ap (filter (λ w. not (eqb (length w) 0))) (pieces_split stop s) ∙ kept (pieces stop s)

-- from a place on: the first part begins past the stops, and the others are those behind it
module _ (stop : ℕ) (s : List ℕ) (at : ℕ) where
  past_stops : drop (past_all stop s at) s ≡ drop (leading stop (drop at s)) (drop at s)
  unfolding past_all
  past_stops = sym (drop-drop (leading stop (drop at s)) at s)

  parts_here : parts_of stop (drop at s) ≡ parts_of stop (drop (past_all stop s at) s)
  parts_here = stops_none stop (drop at s) ∙ ap (parts_of stop) (sym past_stops)

  off : Split stop (drop (past_all stop s at) s)
  off = rw past_stops (first_off stop (drop at s))

  first_here : word_at (parts_of stop (drop at s)) 0 ≡ up_to stop (drop (past_all stop s at) s)
  first_here = ap (λ (ws : List Word). word_at ws 0) parts_here ∙ off.0

  others_behind : drop 1 (parts_of stop (drop at s)) ≡ parts_of stop (drop (until_one stop s (past_all stop s at)) s)
  unfolding until_one
  others_behind =
      ap (λ (ws : List Word). drop 1 ws) parts_here ∙ off.1
      ∙ ap (parts_of stop) (drop-drop (length (up_to stop (drop (past_all stop s at) s))) (past_all stop s at) s)

-- what stands in a span
pub record Stands (s : List ℕ) (r : Span) (w : Word) : Type 0 where
  pub ordered : r.start ≤ r.end
  pub inside : r.end ≤ length s
  pub bytes : take (r.end - r.start) (drop r.start s) ≡ w

abbrev span_at : ℕ → List ℕ → ℕ → Span
span_at stop s start = record { start = start; end = until_one stop s start }

stands_from : (stop : ℕ) (s : List ℕ) (k at : ℕ) → at ≤ length s
    → Stands s (span_at stop s (start_from stop s k at)) (word_at (parts_of stop (drop at s)) k)
unfolding start_from
stands_from stop s zero at h =
    let p = past_within stop s at h in
    record {
      ordered = until_after stop s (past_all stop s at) p;
      inside = until_within stop s (past_all stop s at) p;
      bytes = taken stop s (past_all stop s at) p ∙ sym (first_here stop s at);
    }
stands_from stop s (suc k) at h =
    let e = until_within stop s (past_all stop s at) (past_within stop s at h) in
    let i = stands_from stop s k (until_one stop s (past_all stop s at)) e in
    let n : 1 + k ≡ suc k = omega arith in
    record {
      ordered = i.ordered;
      inside = i.inside;
      bytes = i.bytes ∙ ap (λ (ws : List Word). word_at ws k) (sym (others_behind stop s at))
          ∙ get_or-drop 1 (parts_of stop (drop at s)) k [] ∙ ap (word_at (parts_of stop (drop at s))) n;
    }

-- in the span of the part number k stands that part
pub stands : (stop : ℕ) (s : List ℕ) (k : ℕ) (r : Span) → r ≡ span_of stop s k → Stands s r (word_at (parts_of stop s) k)
unfolding span_of
stands stop s k r e = rw e (stands_from stop s k 0 (omega arith))

-- the loop over parts: its beginning, a turn and its end
pub begun : (stop : ℕ) (s : List ℕ) (k : ℕ) → start_from stop s k 0 ≡ start_from stop s (k - 0) 0
begun stop s k = let n : k - 0 ≡ k = omega arith in rw n

pub onward : (stop : ℕ) (s : List ℕ) (k i at : ℕ) → i < k
    → start_from stop s (k - i) at ≡ start_from stop s (k - (i + 1)) (until_one stop s (past_all stop s at))
unfolding start_from
onward stop s k i at h = let n : k - i ≡ suc (k - (i + 1)) = omega arith in rw n

pub arrived : (stop : ℕ) (s : List ℕ) (left at : ℕ) → left ≡ 0 → start_from stop s left at ≡ past_all stop s at
unfolding start_from
arrived stop s left at e = rw e

-- a line without its comment
pub comment_off : (line : List ℕ) → take (until_one 35 line 0) line ≡ uncommented line
unfolding until_one
comment_off line = let n : 0 + length (up_to 35 line) ≡ length (up_to 35 line) = omega arith in rw n (front_taken 35 line)
