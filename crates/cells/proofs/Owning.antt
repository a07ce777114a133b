-- Which CVs a module owns.
use Prim.Native.Nat.{ℕ, ◌+◌, ◌-◌, ◌*◌, ◌≤◌, ◌<◌}
use mathlib.Core.Bool.{true, false}
use mathlib.Core.Path.{◌≡◌, refl}
use mathlib.Core.List.{List}
use native.Mathlib.Omega.{arith}
use lib.Dec.{leb, eqb, lit<}
use borrow.Author.Tests.{leb-true, le-leb, lt-leb, eqb-true, ne_eqb}
use Rattle.bits.proofs.Tests.{by, and_left, and_right, clash}
use Rattle.cells.specs.declared.role.Role.{Role}
use Rattle.cells.specs.declared.role.Role.TheVariants.{Number, Wait, Bank, Zero, Own, NotHere}
use Rattle.cells.specs.Roles.{owns, offset_of, common, common_role, role_of, role_takes, may_write}
use Rattle.store.specs.Sheet.{writable}

-- an own CV lies between the first and the last
pub own_from : (n cv : ℕ) → owns n cv ≡ true → 900 + 40 * (n - 1) ≤ cv
unfolding owns
own_from n cv h = leb-true _ _ (and_left (leb (900 + 40 * (n - 1)) cv) (leb cv (939 + 40 * (n - 1))) h)

pub own_to : (n cv : ℕ) → owns n cv ≡ true → cv ≤ 939 + 40 * (n - 1)
unfolding owns
own_to n cv h = leb-true _ _ (and_right (leb (900 + 40 * (n - 1)) cv) (leb cv (939 + 40 * (n - 1))) h)

-- an own CV is one of forty
pub offset_lt : (n cv : ℕ) → owns n cv ≡ true → offset_of n cv < 40
unfolding offset_of
offset_lt n cv h = omega (arith, own_from n cv h, own_to n cv h)

-- what a CV's role tells of it
abbrev pub RoleSays : ℕ → ℕ → Role → Type 0
RoleSays n cv Number = cv ≡ 897
RoleSays n cv Wait = cv ≡ 1020
RoleSays n cv Bank = cv ≡ 1021
RoleSays n cv Zero = common cv ≡ true
RoleSays n cv (Own offset) = (owns n cv ≡ true) × (offset ≡ offset_of n cv)
RoleSays n cv NotHere = (owns n cv ≡ false) × (common cv ≡ false)

pub role_says : (n cv : ℕ) → RoleSays n cv (role_of n cv)
unfolding role_of common_role
role_says n cv =
    by (owns n cv) (λ p. rw p (p, refl))
    (λ p. by (common cv)
    (λ q. by (eqb cv 897) (λ r. simp (p, q, r) (eqb-true _ _ r))
    (λ r. by (eqb cv 1020) (λ t. simp (p, q, r, t) (eqb-true _ _ t))
    (λ t. by (eqb cv 1021) (λ u. simp (p, q, r, t, u) (eqb-true _ _ u))
    (λ u. simp (p, q, r, t, u) refl))))
    (λ q. simp (p, q) (refl, refl)))

-- so an own cell is one of forty
pub own_lt : (n cv o : ℕ) → role_of n cv ≡ Own o → o < 40
own_lt n cv o e = let t : RoleSays n cv (Own o) = rw e at (role_says n cv) in rw t.1 (offset_lt n cv t.0)

-- a module's CVs, from the first to the fortieth, are its cells
pub role_own : (n o : ℕ) → o < 40 → role_of n (900 + 40 * (n - 1) + o) ≡ Own o
unfolding role_of owns offset_of
role_own n o h =
    let f : 900 + 40 * (n - 1) ≤ 900 + 40 * (n - 1) + o = omega arith in
    let t : 900 + 40 * (n - 1) + o ≤ 939 + 40 * (n - 1) = omega arith in
    let d : 900 + 40 * (n - 1) + o - (900 + 40 * (n - 1)) ≡ o = omega arith in
    rw (le-leb _ _ f, le-leb _ _ t, d)

-- no two modules own the same CV
pub own_apart : (n m cv : ℕ) → 0 < n → 0 < m → owns n cv ≡ true → owns m cv ≡ true → n ≡ m
own_apart n m cv p q h k = omega (arith, own_from n cv h, own_to n cv h, own_from m cv k, own_to m cv k)

-- no CV before all modules' or after them is owned
pub below_all : (n cv : ℕ) → cv < 900 → owns n cv ≡ false
unfolding owns
below_all n cv h = let f : cv < 900 + 40 * (n - 1) = omega arith in simp (lt-leb _ _ f)

pub above_all : (n cv : ℕ) → n ≤ 3 → 1019 < cv → owns n cv ≡ false
unfolding owns
above_all n cv m h =
    let f : 900 + 40 * (n - 1) ≤ cv = omega arith in
    let t : 939 + 40 * (n - 1) < cv = omega arith in
    simp (le-leb _ _ f, lt-leb _ _ t)

-- the three common CVs that are settings
pub role_number : (n : ℕ) → role_of n 897 ≡ Number
unfolding role_of common common_role
role_number n = simp (below_all n 897 (lit< tt))

pub role_wait : (n : ℕ) → n ≤ 3 → role_of n 1020 ≡ Wait
unfolding role_of common common_role
role_wait n h = simp (above_all n 1020 h (lit< tt))

pub role_bank : (n : ℕ) → n ≤ 3 → role_of n 1021 ≡ Bank
unfolding role_of common common_role
role_bank n h = simp (above_all n 1021 h (lit< tt))

-- no own CV is common, so what a CV is hangs on no order of asking
pub own_not_common : (n cv : ℕ) → 0 < n → n ≤ 3 → owns n cv ≡ true → common cv ≡ false
unfolding common
own_not_common n cv p m h =
    let a : 899 < cv = omega (arith, own_from n cv h) in
    let b : cv < 1020 = omega (arith, own_to n cv h) in
    let c : 897 ≤ cv = omega arith in
    simp (le-leb 897 cv c, lt-leb cv 899 a, lt-leb 1020 cv b)

-- a common CV that is none of the three holds 0
pub role_zero : (n cv : ℕ) → 0 < n → n ≤ 3 → common cv ≡ true → (cv ≡ 897 → ⊥) → (cv ≡ 1020 → ⊥) → (cv ≡ 1021 → ⊥) → role_of n cv ≡ Zero
unfolding role_of common_role
role_zero n cv p m c x y z =
    by (owns n cv) (λ o. clash c (own_not_common n cv p m o))
    (λ o. simp (o, c, ne_eqb cv 897 x, ne_eqb cv 1020 y, ne_eqb cv 1021 z))

-- the right to write an own CV is that its cell is writable in the selected bank
pub own_right : (n cv value bank : ℕ) (sizes : List ℕ) → owns n cv ≡ true → may_write cv value n bank sizes ≡ writable sizes bank (offset_of n cv)
unfolding may_write role_takes role_of
own_right n cv value bank sizes h = rw h
