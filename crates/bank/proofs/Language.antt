-- The language of replies, group by group. `parse` walks through bytes as a reader does; it finds
-- cells and a checksum byte exactly in bytes of the shape. It is a way to the laws, and no promise cites it.
use Prim.Native.Nat.{ℕ, zero, suc, ◌≤◌}
use mathlib.Core.Bool.{true, false, cond, ◌&&◌}
use mathlib.Core.List.{List, [], ◌∷◌, ◌++◌, append_assoc}
use mathlib.Core.Path.{◌≡◌, refl, sym, ◌∙◌, ap}
use native.Mathlib.Omega.{arith}
use borrow.Author.Tests.{lt-ltb, le-ltb, ne_eqb, eqb-true}
use lib.Dec.{ltb, eqb, leb-suc-suc}
use lib.ListN.{length, take, drop, get_or}
use Rattle.bits.proofs.Tests.{by, and_left, and_right}
use Rattle.bank.specs.declared.Group.{Group}
use Rattle.bank.specs.declared.Group.TheVariants.{Cells, End, Checksum, Bad}
use Rattle.bank.specs.Group.{group_of, checksum_group, group_at}
use Rattle.bank.specs.Reply.{pairs_of, end_of, body_of, closed_by, Shaped}

-- groups that differ
not_last : {P : Type 0} (c : ℕ) → Bad ≡ Checksum c → P
not_last c is = let z : ◌≡◌ {A = ℕ} 0 1 = cc in let f : ⊥ = omega arith in absurd f

not_end : {P : Type 0} (m : ℕ) → Bad ≡ End m → P
not_end m is = let z : ◌≡◌ {A = ℕ} 0 1 = cc in let f : ⊥ = omega arith in absurd f

-- ---- what a group tells of its bytes

pub data Tells (a b c d : ℕ) : Group → Type 0 where
  two_cells : a ≡ 0x8F → c ≡ 0x8F → Tells a b c d Cells
  one_more : a ≡ 0x8F → c ≡ 0x8E → d ≡ 0x01 → Tells a b c d (End 1)
  no_more : a ≡ 0x8E → b ≡ 0x01 → c ≡ 0x8E → d ≡ 0x01 → Tells a b c d (End 0)
  nothing : Tells a b c d Bad

module _ (a b c d : ℕ) where
  pub tells : Tells a b c d (group_of a b c d)
  unfolding group_of
  tells =
      by (eqb a 0x8F && eqb c 0x8F)
      (λ e. rw e (two_cells (eqb-true a 0x8F (and_left (eqb a 0x8F) (eqb c 0x8F) e)) (eqb-true c 0x8F (and_right (eqb a 0x8F) (eqb c 0x8F) e))))
      (λ e. by (eqb a 0x8F && eqb c 0x8E && eqb d 0x01)
      (λ f. let ac = and_left (eqb a 0x8F && eqb c 0x8E) (eqb d 0x01) f in
      simp (e, f) (one_more (eqb-true a 0x8F (and_left (eqb a 0x8F) (eqb c 0x8E) ac)) (eqb-true c 0x8E (and_right (eqb a 0x8F) (eqb c 0x8E) ac)) (eqb-true d 0x01 (and_right (eqb a 0x8F && eqb c 0x8E) (eqb d 0x01) f))))
      (λ f. by (eqb a 0x8E && eqb b 0x01 && eqb c 0x8E && eqb d 0x01)
      (λ g. let abc = and_left (eqb a 0x8E && eqb b 0x01 && eqb c 0x8E) (eqb d 0x01) g in
      let ab = and_left (eqb a 0x8E && eqb b 0x01) (eqb c 0x8E) abc in
      simp (e, f, g)
      (no_more (eqb-true a 0x8E (and_left (eqb a 0x8E) (eqb b 0x01) ab)) (eqb-true b 0x01 (and_right (eqb a 0x8E) (eqb b 0x01) ab))
      (eqb-true c 0x8E (and_right (eqb a 0x8E && eqb b 0x01) (eqb c 0x8E) abc)) (eqb-true d 0x01 (and_right (eqb a 0x8E && eqb b 0x01 && eqb c 0x8E) (eqb d 0x01) g))))
      (λ g. simp (e, f, g) nothing)))

  pub tells_last : (x : ℕ) → checksum_group a b c d ≡ Checksum x → a ∷ b ∷ c ∷ d ∷ [] ≡ 0x8F ∷ x ∷ 0x8F ∷ 0x00 ∷ []
  unfolding checksum_group
  tells_last x is =
      by (eqb a 0x8F && eqb c 0x8F && eqb d 0x00)
      (λ e. let ac = and_left (eqb a 0x8F && eqb c 0x8F) (eqb d 0x00) e in
      let pa : a ≡ 0x8F = eqb-true a 0x8F (and_left (eqb a 0x8F) (eqb c 0x8F) ac) in
      let pc : c ≡ 0x8F = eqb-true c 0x8F (and_right (eqb a 0x8F) (eqb c 0x8F) ac) in
      let pd : d ≡ 0x00 = eqb-true d 0x00 (and_right (eqb a 0x8F && eqb c 0x8F) (eqb d 0x00) e) in
      let pb : Checksum b ≡ Checksum x = rw e at is in
      cc)
      (λ e. not_last x (rw e at is))

  pub open_head : (s : List ℕ) → group_at false (a ∷ b ∷ c ∷ d ∷ s) ≡ group_of a b c d
  unfolding group_at
  open_head s = simp (le-ltb (length (a ∷ b ∷ c ∷ d ∷ s)) 4 (omega arith))

-- the last group is all that is left
pub closing_tells : (s : List ℕ) (c : ℕ) → group_at true s ≡ Checksum c → s ≡ 0x8F ∷ c ∷ 0x8F ∷ 0x00 ∷ []
unfolding group_at
closing_tells [] c is = not_last c is
closing_tells (x ∷ []) c is = not_last c is
closing_tells (x ∷ y ∷ []) c is = not_last c is
closing_tells (x ∷ y ∷ z ∷ []) c is = not_last c is
closing_tells (x ∷ y ∷ z ∷ w ∷ []) c is = tells_last x y z w c is
closing_tells (x ∷ y ∷ z ∷ w ∷ v ∷ s) c is = not_last c (simp (ne_eqb (length (x ∷ y ∷ z ∷ w ∷ v ∷ s)) 4 (λ e. omega arith)) at is)

-- ---- the walk

-- what is found: the cells and the checksum byte, or nothing of the shape
pub data Found : Type 0 where
  found : List ℕ → ℕ → Found
  none : Found

abbrev pub prepend : List ℕ → Found → Found
prepend xs (found cells c) = found (xs ++ cells) c
prepend xs none = none

-- the last group
abbrev pub closing : List ℕ → Group → Found
closing cells (Checksum c) = found cells c
closing cells Cells = none
closing cells (End n) = none
closing cells Bad = none

-- a group before it
abbrev pub step : Group → List ℕ → Found → Found
step Cells s rest = prepend (get_or s 1 0 ∷ get_or s 3 0 ∷ []) rest
step (End n) s rest = closing (take n (get_or s 1 0 ∷ [])) (group_at true (drop 4 s))
step (Checksum c) s rest = none
step Bad s rest = none

-- k groups may stand before the last
unfoldable pub parse : ℕ → List ℕ → Found
parse zero s = closing [] (group_at true s)
parse (suc k) s = step (group_at false s) s (parse k (drop 4 s))

-- ---- where k groups may stand, the language is that of 40 cells with two for each group in place of 40

abbrev twice : ℕ → ℕ
twice zero = 0
twice (suc k) = suc (suc (twice k))

closed_in : ℕ → ℕ → List ℕ → List ℕ
closed_in k c cells = pairs_of cells ++ cond (ltb (length cells) (twice k)) (end_of cells) [] ++ (0x8F ∷ c ∷ 0x8F ∷ 0x00 ∷ [])

record ShapedIn (k : ℕ) (s cells : List ℕ) (c : ℕ) : Type 0 where
  few : length cells ≤ twice k
  reads : s ≡ closed_in k c cells

-- two cells more need one group more
pair_in : (k c v w : ℕ) (cells : List ℕ) → closed_in (suc k) c (v ∷ w ∷ cells) ≡ 0x8F ∷ v ∷ 0x8F ∷ w ∷ closed_in k c cells
unfolding closed_in pairs_of end_of
pair_in k c v w cells = simp (leb-suc-suc)

one_in : (k c v : ℕ) → closed_in (suc k) c (v ∷ []) ≡ 0x8F ∷ v ∷ 0x8E ∷ 0x01 ∷ 0x8F ∷ c ∷ 0x8F ∷ 0x00 ∷ []
unfolding closed_in pairs_of end_of
one_in k c v = simp (lt-ltb 1 (suc (suc (twice k))) (omega arith))

none_in : (k c : ℕ) → closed_in (suc k) c [] ≡ 0x8E ∷ 0x01 ∷ 0x8E ∷ 0x01 ∷ 0x8F ∷ c ∷ 0x8F ∷ 0x00 ∷ []
unfolding closed_in pairs_of end_of
none_in k c = simp (lt-ltb 0 (suc (suc (twice k))) (omega arith))

full_in : (c : ℕ) → closed_in zero c [] ≡ 0x8F ∷ c ∷ 0x8F ∷ 0x00 ∷ []
unfolding closed_in pairs_of
full_in c = refl

-- what is of the shape is found
complete : (k c : ℕ) (cells : List ℕ) → length cells ≤ twice k → parse k (closed_in k c cells) ≡ found cells c
unfolding parse group_at checksum_group group_of
complete zero c [] h = rw (full_in c)
complete zero c (v ∷ cells) h = let z : ⊥ = omega arith in absurd z
complete (suc k) c [] h = rw (none_in k c) refl
complete (suc k) c (v ∷ []) h = rw (one_in k c v) refl
complete (suc k) c (v ∷ w ∷ cells) h =
    rw (pair_in k c v w cells, open_head 0x8F v 0x8F w (closed_in k c cells)) (ap (prepend (v ∷ w ∷ [])) (complete k c cells (omega arith)))

-- what is found is of the shape
no_found : {P : Type 0} (cells : List ℕ) (c : ℕ) → none ≡ found cells c → P
no_found cells c is = let z : ◌≡◌ {A = ℕ} 0 1 = cc in let f : ⊥ = omega arith in absurd f

closing_found : (ys s cells : List ℕ) (c : ℕ) (g : Group) → group_at true s ≡ g → closing ys g ≡ found cells c
    → (cells ≡ ys) × (s ≡ 0x8F ∷ c ∷ 0x8F ∷ 0x00 ∷ [])
closing_found ys s cells c (Checksum x) e is =
    let same : x ≡ c = cc in (cc, closing_tells s c (e ∙ ap Checksum same))
closing_found ys s cells c Cells e is = no_found cells c is
closing_found ys s cells c (End n) e is = no_found cells c is
closing_found ys s cells c Bad e is = no_found cells c is

prepend_found : (xs cells : List ℕ) (c : ℕ) (p : Found) → prepend xs p ≡ found cells c → (rest : List ℕ) × (p ≡ found rest c) × (cells ≡ xs ++ rest)
prepend_found xs cells c (found rest x) is = (rest, cc, cc)
prepend_found xs cells c none is = no_found cells c is

module _ (k a b x d : ℕ) (s cells : List ℕ) (c : ℕ) (rest-shaped : (rest : List ℕ) → parse k s ≡ found rest c → ShapedIn k s rest c) where
  step_sound : (g : Group) → Tells a b x d g → step g (a ∷ b ∷ x ∷ d ∷ s) (parse k s) ≡ found cells c → ShapedIn (suc k) (a ∷ b ∷ x ∷ d ∷ s) cells c
  step_sound g (two_cells pa px) is =
      let f = prepend_found (b ∷ d ∷ []) cells c (parse k s) is in
      let r = rest-shaped f.0 f.1 in
      rw f.2 (record { few = omega (arith, r.few); reads = rw (pa, px, pair_in k c b d f.0) (ap (λ (l : List ℕ). 0x8F ∷ b ∷ 0x8F ∷ d ∷ l) r.reads) })
  step_sound g (one_more pa px pd) is =
      let f = closing_found (b ∷ []) s cells c (group_at true s) refl is in
      rw f.0 (record { few = omega arith; reads = rw (pa, px, pd, f.1, one_in k c b) })
  step_sound g (no_more pa pb px pd) is =
      let f = closing_found [] s cells c (group_at true s) refl is in
      rw f.0 (record { few = omega arith; reads = rw (pa, pb, px, pd, f.1, none_in k c) })
  step_sound g nothing is = no_found cells c is

sound : (k : ℕ) (s cells : List ℕ) (c : ℕ) → parse k s ≡ found cells c → ShapedIn k s cells c
unfolding parse group_at
sound zero s cells c is =
    let f = closing_found [] s cells c (group_at true s) refl is in
    rw f.0 (record { few = omega arith; reads = f.1 ∙ sym (full_in c) })
sound (suc k) [] cells c is = no_found cells c is
sound (suc k) (a ∷ []) cells c is = no_found cells c is
sound (suc k) (a ∷ b ∷ []) cells c is = no_found cells c is
sound (suc k) (a ∷ b ∷ x ∷ []) cells c is = no_found cells c is
sound (suc k) (a ∷ b ∷ x ∷ d ∷ s) cells c is =
    step_sound k a b x d s cells c (λ rest e. sound k s rest c e) (group_of a b x d) (tells a b x d) (rw (open_head a b x d s) at is)

-- ---- at 20 groups

module _ (s : List ℕ) where
  pub is_found : (cells : List ℕ) (c : ℕ) → Shaped s cells c → parse 20 s ≡ found cells c
  unfolding closed_in closed_by body_of
  is_found cells c is = rw is.reads (complete 20 c cells is.few)

  pub is_shaped : (cells : List ℕ) (c : ℕ) → parse 20 s ≡ found cells c → Shaped s cells c
  unfolding closed_in closed_by body_of
  is_shaped cells c e = let r = sound 20 s cells c e in record { few = r.few; reads = r.reads }

  pub not_shaped : parse 20 s ≡ none → (cells : List ℕ) (c : ℕ) → Shaped s cells c → ⊥
  not_shaped e cells c is = no_found cells c (sym e ∙ is_found cells c is)

  -- so bytes are of the shape in one way at most
  pub one_way : {xs ys : List ℕ} {c d : ℕ} → Shaped s xs c → Shaped s ys d → (xs ≡ ys) × (c ≡ d)
  one_way {xs} {ys} {c} {d} p q =
      let e : found xs c ≡ found ys d = sym (is_found xs c p) ∙ is_found ys d q in (cc, cc)

-- ---- for a reader that goes group by group

-- an end group has one cell or none
end_few : (a b c d m : ℕ) (g : Group) → Tells a b c d g → g ≡ End m → m ≤ 1
end_few a b c d m g (two_cells pa pc) is = let z : ◌≡◌ {A = ℕ} 0 1 = cc in omega arith
end_few a b c d m g (one_more pa pc pd) is = let e : m ≡ 1 = cc in omega arith
end_few a b c d m g (no_more pa pb pc pd) is = let e : m ≡ 0 = cc in omega arith
end_few a b c d m g nothing is = not_end m is

pub one_or_none : (s : List ℕ) (m : ℕ) → group_at false s ≡ End m → m ≤ 1
unfolding group_at
one_or_none [] m is = not_end m is
one_or_none (a ∷ []) m is = not_end m is
one_or_none (a ∷ b ∷ []) m is = not_end m is
one_or_none (a ∷ b ∷ c ∷ []) m is = not_end m is
one_or_none (a ∷ b ∷ c ∷ d ∷ s) m is = end_few a b c d m (group_of a b c d) (tells a b c d) (rw (open_head a b c d s) at is)

-- cells before cells
pub prepend_nothing : (p : Found) → prepend [] p ≡ p
prepend_nothing (found cells c) = refl
prepend_nothing none = refl

pub prepend_twice : (xs ys : List ℕ) (p : Found) → prepend xs (prepend ys p) ≡ prepend (xs ++ ys) p
prepend_twice xs ys (found cells c) = rw (append_assoc xs ys cells)
prepend_twice xs ys none = refl

pub prepend_closing : (xs ys : List ℕ) (g : Group) → prepend xs (closing ys g) ≡ closing (xs ++ ys) g
prepend_closing xs ys (Checksum c) = refl
prepend_closing xs ys Cells = refl
prepend_closing xs ys (End n) = refl
prepend_closing xs ys Bad = refl
