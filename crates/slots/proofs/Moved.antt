-- A list whose entries move a place nearer, byte by byte from its front: what a loop that does this has after i bytes.
use Prim.Native.Nat.{ℕ, suc, ◌+◌, ◌*◌, ◌≤◌, ◌<◌}
use mathlib.Core.List.{List, [], ◌∷◌, ◌++◌, append-nil}
use mathlib.Core.Path.{◌≡◌, sym, ◌∙◌, ap}
use native.Mathlib.Numerals.{add-one}
use native.Mathlib.Omega.{arith}
use lib.ListN.{length, get_or, set, take, drop, replicate, length-append, length-drop, drop_of_length-le}
use lib.Seq.{take_at, take_all, drop-cons, take-suc, append_snoc, length-take-le, get_or-append-add, get_or-drop, set_at}
use Rattle.slots.specs.Slots.{joined_by, after_oldest}

abbrev pub moved : ℕ → ℕ → List ℕ → List ℕ
moved width i l = take i (drop width l) ++ drop i l

module _ (width : ℕ) (l : List ℕ) where
  front_length : (i : ℕ) → i + width ≤ length l → length (take i (drop width l)) ≡ i
  front_length i h = length-take-le i (drop width l) (simp length-drop (omega arith))

  pub moved_length : (i : ℕ) → i + width ≤ length l → length (moved width i l) ≡ length l
  moved_length i h = simp (length-append, front_length i h, length-drop) (omega arith)

  -- the byte that moves next is still as it was
  pub moved_next : (i : ℕ) → i + width ≤ length l → get_or (moved width i l) (i + width) 0 ≡ get_or l (i + width) 0
  moved_next i h =
      let front = take i (drop width l) in
      ap (λ (n : ℕ). get_or (front ++ drop i l) (n + width) 0) (sym (front_length i h))
      ∙ get_or-append-add front (drop i l) width 0 ∙ get_or-drop i l width 0

  -- a turn of the loop: one byte more
  pub moved_turn : (i : ℕ) → i + width < length l → set (moved width i l) i (get_or (moved width i l) (i + width) 0) ≡ moved width (i + 1) l
  moved_turn i h =
      let front = take i (drop width l) in
      let b = get_or l (i + width) 0 in
      let fits : i + width ≤ length l = omega arith in
      let inside : i < length l = omega arith in
      let some : i < length (drop width l) = simp length-drop (omega arith) in
      let same : get_or (drop width l) i 0 ≡ b = get_or-drop width l i 0 ∙ ap (λ (n : ℕ). get_or l n 0) (let e : width + i ≡ i + width = omega arith in e) in
      let put : set (front ++ drop i l) i b ≡ front ++ b ∷ drop (suc i) l = rw (drop-cons l i 0 inside) (set_at front (get_or l i 0) (drop (suc i) l) b i (front_length i fits)) in
      let taken : take (suc i) (drop width l) ≡ front ++ (b ∷ []) = take-suc (drop width l) i 0 some ∙ ap (λ (x : ℕ). front ++ (x ∷ [])) same in
      ap (λ (x : ℕ). set (front ++ drop i l) i x) (moved_next i fits) ∙ put
      ∙ sym (append_snoc front b (drop (suc i) l)) ∙ ap (λ (t : List ℕ). t ++ drop (suc i) l) (sym taken)
      ∙ ap (λ (n : ℕ). take n (drop width l) ++ drop n l) (sym (add-one i))

  -- all moved, and zeros in the last place: the list without its oldest entry
  pub moved_all : (last : ℕ) → length l ≡ width * last + width → joined_by width (moved width (width * last) l) last (replicate width 0) ≡ after_oldest width l
  unfolding joined_by after_oldest
  moved_all last e =
      let n = width * last in
      let front = take n (drop width l) in
      let fits : n + width ≤ length l = omega arith in
      let whole : front ≡ drop width l = take_all n (drop width l) (simp length-drop (omega arith)) in
      let none : drop (n + width) (moved width n l) ≡ [] = drop_of_length-le (moved width n l) {i = n + width} (omega (arith, moved_length n fits)) in
      ap (λ (t : List ℕ). t ++ replicate width 0 ++ drop (n + width) (moved width n l)) (take_at front (drop n l) n (front_length n fits))
      ∙ ap (λ (t : List ℕ). front ++ replicate width 0 ++ t) none
      ∙ append-nil (front ++ replicate width 0)
      ∙ ap (λ (t : List ℕ). t ++ replicate width 0) whole
