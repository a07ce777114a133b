-- RULES THAT ARE ALIKE make calls and stories that are.
use Prim.Native.Nat.{ℕ, ◌+◌}
use mathlib.Core.List.{List, [], ◌∷◌}
use mathlib.Core.Path.{refl}
use lib.Dec.{eqb}
use Rattle.bits.proofs.Tests.{by}
use Rattle.running.specs.Running.{Rule, call_of, answering_if, whole_of}
use Rattle.running.specs.Alike.{RulesAlike, StoriesAlike, CallsAlike}

module _ {B I A : Type 0} (Alike : B → B → Type 0) (one other : Rule B I A) (r : RulesAlike Alike one other) where
  pub whole_alike : (b c : B) (n : ℕ) (is : List I) → Alike b c → StoriesAlike Alike (whole_of one b n is) (whole_of other c n is)
  unfolding whole_of answering_if
  whole_alike b c n [] a = record { board = a; answers = refl; taken = refl; number = refl }
  whole_alike b c n (i ∷ is) a =
      let rest = whole_alike (one.after b i) (other.after c i) (n + 1) is (r.after b c i a) in
      by (eqb (one.bad b i) 0)
      (λ g. by (one.answered b i)
      (λ y. simp (r.bad b c i a, g, r.answered b c i a, y)
      (record { board = rest.board; answers = rw (r.reply b c i a, rest.answers); taken = rest.taken; number = rest.number }))
      (λ y. simp (r.bad b c i a, g, r.answered b c i a, y) rest))
      (λ g. simp (r.bad b c i a, g) (record { board = a; answers = refl; taken = refl; number = refl }))

  pub call_alike : (b c : B) (n : ℕ) (is : List I) → Alike b c → CallsAlike Alike (call_of one b n is) (call_of other c n is)
  unfolding call_of
  call_alike b c n [] a = record { board = a; taken = refl; stop = refl }
  call_alike b c n (i ∷ is) a =
      by (eqb (one.bad b i) 0)
      (λ g. by (one.answered b i)
      (λ y. simp (r.bad b c i a, g, r.answered b c i a, y) (record { board = r.after b c i a; taken = refl; stop = rw (r.reply b c i a) }))
      (λ y. simp (r.bad b c i a, g, r.answered b c i a, y) (call_alike (one.after b i) (other.after c i) (n + 1) is (r.after b c i a))))
      (λ g. simp (r.bad b c i a, g) (record { board = a; taken = refl; stop = refl }))
