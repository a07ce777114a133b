-- THE LAWS OF ONE CALL: it is the whole list's beginning, up to the first answer.
use Prim.Native.Nat.{ℕ, ◌+◌, ◌≤◌, ◌<◌}
use mathlib.Core.List.{List, [], ◌∷◌, ◌++◌}
use mathlib.Core.Path.{◌≡◌, refl, sym, ◌∙◌, ap}
use native.Mathlib.Omega.{arith}
use native.Mathlib.Numerals.{one-add}
use native.Mathlib.Nat.{add-zero, add_assoc}
use lib.Dec.{eqb}
use lib.ListN.{length}
use borrow.Author.Tests.{eqb-true}
use Rattle.bits.proofs.Tests.{by}
use Rattle.running.specs.Running.{Rule, at_end, at_bad, at_answer, at_once, Call, call, call_of}
use Rattle.running.specs.Running.{ended, answering_if, whole_of, story_at, story_after}

-- n items more
abbrev pub more : {B A : Type 0} → ℕ → Call B A → Call B A
more n c = call c.board (n + c.taken) c.stop

module _ {B I A : Type 0} (rule : Rule B I A) where
  -- an empty piece takes none and changes nothing
  pub empty_call : (b : B) (n : ℕ) → call_of rule b n [] ≡ call b n at_end
  unfolding call_of
  empty_call b n = refl

  pub empty_whole : (b : B) (n : ℕ) → whole_of rule b n [] ≡ ended b n 0
  unfolding whole_of
  empty_whole b n = refl

  -- a call that begins at n is the one that begins at 0, with n items more
  pub call_more : (b : B) (n : ℕ) (is : List I) → call_of rule b n is ≡ more n (call_of rule b 0 is)
  unfolding call_of
  call_more b n [] = rw (add-zero n)
  call_more b n (i ∷ is) =
      by (eqb (rule.bad b i) 0)
      (λ g. by (rule.answered b i) (λ a. simp (g, a))
      (λ a. simp (g, a)
      (let next = rule.after b i in
      call_more next (n + 1) is ∙ sym (ap (more n) (call_more next 1 is) ∙ rw (add_assoc n 1 (call_of rule next 0 is).taken)))))
      (λ g. simp (g, add-zero))

  -- an item more before a piece is an item more before its call
  item_before : (n : ℕ) (i : I) (is behind : List I) (c : Call B A)
      → story_after rule n (i ∷ is) behind (more 1 c) ≡ story_after rule (n + 1) is behind c
  item_before n i is behind c = rw (← (add_assoc n 1 c.taken), one-add c.taken)

  -- THE STEP: the story of a piece and what is behind it, by a call on the piece
  pub whole_by_call : (b : B) (n : ℕ) (piece behind : List I)
      → whole_of rule b n (piece ++ behind) ≡ story_after rule n piece behind (call_of rule b 0 piece)
  unfolding call_of whole_of answering_if story_at
  whole_by_call b n [] behind = rw (add-zero n)
  whole_by_call b n (i ∷ is) behind =
      by (eqb (rule.bad b i) 0)
      (λ g. by (rule.answered b i) (λ a. simp (g, a))
      (λ a. simp (g, a)
      (whole_by_call (rule.after b i) (n + 1) is behind
      ∙ sym (rw (call_more (rule.after b i) 1 is) (item_before n i is behind (call_of rule (rule.after b i) 0 is))))))
      (λ g. simp (g, add-zero))

  -- an answered call takes an item or more, and no more than there are
  pub call_takes : (b : B) (n : ℕ) (is : List I) (reply : A) → (call_of rule b n is).stop ≡ at_answer reply
      → (n < (call_of rule b n is).taken) × ((call_of rule b n is).taken ≤ n + length is)
  unfolding call_of
  call_takes b n [] reply = λ h. let z : ◌≡◌ {A = ℕ} 0 1 = cc in let y : ⊥ = omega arith in absurd y
  call_takes b n (i ∷ is) reply =
      by (eqb (rule.bad b i) 0)
      (λ g. by (rule.answered b i) (λ a. simp (g, a) (λ h. (omega arith, omega arith)))
      (λ a. simp (g, a) (λ h. let r = call_takes (rule.after b i) (n + 1) is reply h in (omega arith, omega arith))))
      (λ g. simp g (λ h. let z : ◌≡◌ {A = ℕ} 0 1 = cc in let y : ⊥ = omega arith in absurd y))

  -- fewer items come before a bad one than there are
  pub call_spares : (b : B) (n : ℕ) (is : List I) (number : ℕ) → (call_of rule b n is).stop ≡ at_bad number
      → (call_of rule b n is).taken < n + length is
  unfolding call_of
  call_spares b n [] number = λ h. let z : ◌≡◌ {A = ℕ} 0 1 = cc in let y : ⊥ = omega arith in absurd y
  call_spares b n (i ∷ is) number =
      by (eqb (rule.bad b i) 0)
      (λ g. by (rule.answered b i) (λ a. simp (g, a) (λ h. let z : ◌≡◌ {A = ℕ} 0 1 = cc in let y : ⊥ = omega arith in absurd y))
      (λ a. simp (g, a) (λ h. let r = call_spares (rule.after b i) (n + 1) is number h in omega arith)))
      (λ g. simp g (λ h. omega arith))

  -- a call of the rule refuses nothing but an item
  pub call_unrefused : (b : B) (n : ℕ) (is : List I) (number : ℕ) → (call_of rule b n is).stop ≡ at_once number → ⊥
  unfolding call_of
  call_unrefused b n [] number = λ h. let z : ◌≡◌ {A = ℕ} 0 1 = cc in omega arith
  call_unrefused b n (i ∷ is) number =
      by (eqb (rule.bad b i) 0)
      (λ g. by (rule.answered b i) (λ a. simp (g, a) (λ h. let z : ◌≡◌ {A = ℕ} 0 1 = cc in omega arith))
      (λ a. simp (g, a) (call_unrefused (rule.after b i) (n + 1) is number)))
      (λ g. simp g (λ h. let z : ◌≡◌ {A = ℕ} 0 1 = cc in omega arith))

  -- WHAT GOOD ITEMS KEEP of a board, a call and the whole list keep
  module _ (P : B → Type 0) (keeps : (b : B) (i : I) → P b → rule.bad b i ≡ 0 → P (rule.after b i)) where
    pub keeps_call : (b : B) (n : ℕ) (is : List I) → P b → P (call_of rule b n is).board
    unfolding call_of
    keeps_call b n [] p = p
    keeps_call b n (i ∷ is) p =
        by (eqb (rule.bad b i) 0)
        (λ g. let q = keeps b i p (eqb-true _ _ g) in
        by (rule.answered b i) (λ a. simp (g, a) q) (λ a. simp (g, a) (keeps_call (rule.after b i) (n + 1) is q)))
        (λ g. simp g p)

    pub keeps_whole : (b : B) (n : ℕ) (is : List I) → P b → P (whole_of rule b n is).board
    unfolding whole_of answering_if
    keeps_whole b n [] p = p
    keeps_whole b n (i ∷ is) p =
        by (eqb (rule.bad b i) 0)
        (λ g. let q = keeps_whole (rule.after b i) (n + 1) is (keeps b i p (eqb-true _ _ g)) in
        by (rule.answered b i) (λ a. simp (g, a) q) (λ a. simp (g, a) q))
        (λ g. simp g p)
