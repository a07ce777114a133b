-- The reader's copy, pair by pair: a turn, and the end.
use Prim.Native.Nat.{ℕ, zero, suc, ◌+◌, ◌≤◌, ◌<◌}
use mathlib.Core.List.{List, [], ◌∷◌, ◌++◌, append_assoc, append-nil}
use mathlib.Core.Path.{◌≡◌, refl, sym, ◌∙◌, ap}
use native.Mathlib.Numerals.{add-one}
use native.Mathlib.Omega.{arith}
use lib.ListN.{length, take, drop, get_or, set, length-append}
use lib.Seq.{set_at, drop-cons, length-take-le}
use Rattle.bank.specs.Reply.{data_of}
use Rattle.bank.proofs.Data.{data_length}
use Rattle.bank.proofs.Summed.{no_data}

-- the data bytes of n pairs are the first n
data_taken : (n : ℕ) (s : List ℕ) → data_of (take (n + n) s) ≡ take n (data_of s)
unfolding data_of
data_taken zero s = refl
data_taken (suc n) [] = let e : suc n + suc n ≡ suc (suc (n + n)) = omega arith in rw e refl
data_taken (suc n) (h ∷ []) = let e : suc n + suc n ≡ suc (suc (n + n)) = omega arith in rw e refl
data_taken (suc n) (h ∷ x ∷ s) =
    let e : suc n + suc n ≡ suc (suc (n + n)) = omega arith in rw e (ap (λ (l : List ℕ). x ∷ l) (data_taken n s))

-- k data bytes stand at the front, and with those of the pairs that are left they are all
pub record Copying (all before room rest : List ℕ) (k : ℕ) : Type 0 where
  pub done : List ℕ
  pub long : length done ≡ k
  pub within : k + k + length rest ≤ length before + length before
  pub stand : room ≡ done ++ drop k before
  pub whole : data_of all ≡ done ++ data_of rest

pub begun : (all before rest : List ℕ) → rest ≡ all → length all ≤ length before + length before → Copying all before before rest 0
begun all before rest same fits =
    record { done = []; long = refl; within = omega (arith, fits, ap length same); stand = refl; whole = ap data_of (sym same) }

module _ {all before room rest : List ℕ} {k : ℕ} (g : Copying all before room rest k) where
  turned_pair : (h x : ℕ) (left : List ℕ) → rest ≡ h ∷ x ∷ left → Copying all before (set room k x) left (k + 1)
  unfolding data_of
  turned_pair h x left parts =
      let long_rest = ap length parts in
      let here : k < length before = omega (arith, g.within, long_rest) in
      record {
        done = g.done ++ (x ∷ []);
        long = length-append g.done (x ∷ []) ∙ omega (arith, g.long);
        within = omega (arith, g.within, long_rest);
        stand = rw (g.stand, add-one k, drop-cons before k 0 here, append_assoc g.done (x ∷ []) (drop (suc k) before))
            (set_at g.done (get_or before k 0) (drop (suc k) before) x k g.long);
        whole = g.whole ∙ rw (parts, append_assoc);
      }

  pub turned : (pair left : List ℕ) → rest ≡ pair ++ left → length pair ≡ 2 → Copying all before (set room k (get_or pair 1 0)) left (k + 1)
  turned (h ∷ x ∷ []) left parts two = turned_pair h x left parts
  turned [] left parts two = let z : ⊥ = omega arith in absurd z
  turned (h ∷ []) left parts two = let z : ⊥ = omega arith in absurd z
  turned (h ∷ x ∷ y ∷ pair) left parts two = let z : ⊥ = omega arith in absurd z

  pub ended : (n : ℕ) (reply : List ℕ) → all ≡ take (n + n) reply → n + n ≤ length reply → length rest < 2
      → room ≡ take n (data_of reply) ++ drop n before
  ended n reply same there few =
      let done : g.done ≡ take n (data_of reply) =
      sym (append-nil g.done) ∙ sym (g.whole ∙ rw (no_data rest few)) ∙ ap data_of same ∙ data_taken n reply in
      let count : k ≡ n =
      sym g.long ∙ ap length done ∙ length-take-le n (data_of reply) (omega (arith, data_length reply)) in
      g.stand ∙ rw (done, count)
