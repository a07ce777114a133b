-- Listening under way: what is left to do from here gives what the whole of it gives.
use Prim.Native.Nat.{ℕ, zero, suc, ◌+◌, ◌≤◌, ◌<◌}
use mathlib.Core.List.{List, [], ◌∷◌}
use mathlib.Core.Bool.{Bool, true, false, ◌||◌}
use mathlib.Core.Path.{◌≡◌, refl}
use native.Mathlib.Omega.{arith}
use native.Mathlib.Numerals.{add-one}
use lib.ListN.{length, get_or, drop}
use borrow.Author.Tests.{eq-eqb, ne_eqb}
use Rattle.line.specs.declared.receiver.Receiver.{Receiver}
use Rattle.line.specs.Line.{Heard}
use Rattle.line.specs.Line.{receiver_possible, is_pause, step_of, edge_refusal}
use Rattle.line.specs.Wire.{edges_of}
use Rattle.line.proofs.Laws.{step_possible}
use Rattle.line.proofs.Edges.{good_level, good_time}
use Rattle.module.specs.Listen.{listened, unheard, listen_of}

-- the edge at an index, and none past the end
pub edge_at : (ts ls : List ℕ) (i : ℕ) → i < length ts → length ts ≡ length ls
    → drop i (edges_of ts ls) ≡ record { time = get_or ts i 0; level = get_or ls i 0 } ∷ drop (suc i) (edges_of ts ls)
unfolding edges_of
edge_at [] ls i h e = let z : ⊥ = omega arith in absurd z
edge_at (t ∷ ts) [] i h e = let z : ⊥ = omega arith in absurd z
edge_at (t ∷ ts) (l ∷ ls) zero h e = refl
edge_at (t ∷ ts) (l ∷ ls) (suc i) h e = edge_at ts ls i (omega arith) (omega arith)

pub edges_end : (ts ls : List ℕ) (i : ℕ) → length ts ≤ i → length ts ≡ length ls → drop i (edges_of ts ls) ≡ []
unfolding edges_of
edges_end [] ls zero h e = refl
edges_end [] ls (suc i) h e = refl
edges_end (t ∷ ts) [] i h e = let z : ⊥ = omega arith in absurd z
edges_end (t ∷ ts) (l ∷ ls) zero h e = let z : ⊥ = omega arith in absurd z
edges_end (t ∷ ts) (l ∷ ls) (suc i) h e = edges_end ts ls i (omega arith) (omega arith)

pub record Going (ts ls : List ℕ) (r₀ : Receiver) (from : ℕ) (r : Receiver) (paused : Bool) (i : ℕ) : Type 0 where
  pub within : i ≤ length ts
  pub even : length ts ≡ length ls
  pub ok : receiver_possible r ≡ true
  pub same : listen_of r₀ false from (drop from (edges_of ts ls)) ≡ listen_of r paused i (drop i (edges_of ts ls))

module _ {ts ls : List ℕ} {r₀ : Receiver} {from : ℕ} {r : Receiver} {paused : Bool} {i : ℕ} (g : Going ts ls r₀ from r paused i) where
  pub ends : length ts ≤ i → unheard r paused i 0 ≡ listen_of r₀ false from (drop from (edges_of ts ls))
  unfolding listen_of
  ends h = simp (g.same, edges_end ts ls i h g.even)

  module _ (h : i < length ts) where
    pub bad_edge_lem : (number : ℕ) → number ≡ edge_refusal r (get_or ts i 0) (get_or ls i 0) → (number ≡ 0 → ⊥)
        → unheard r paused i number ≡ listen_of r₀ false from (drop from (edges_of ts ls))
    unfolding listen_of
    bad_edge_lem number e n = simp (g.same, edge_at ts ls i h g.even, rw e at (ne_eqb _ _ n), e)

    module _ (good : edge_refusal r (get_or ts i 0) (get_or ls i 0) ≡ 0) (s : Heard) (e : s ≡ step_of r (get_or ts i 0) (get_or ls i 0))
        (q : Bool) (f : q ≡ (paused || is_pause r (get_or ts i 0))) where
      pub completed : (s.packet.length ≡ 0 → ⊥) → listened s q (i + 1) ≡ listen_of r₀ false from (drop from (edges_of ts ls))
      unfolding listen_of
      completed n = simp (g.same, edge_at ts ls i h g.even, good, rw e at (ne_eqb _ _ n), e, f)

      pub on : s.packet.length ≡ 0 → Going ts ls r₀ from s.receiver q (i + 1)
      unfolding listen_of
      on n = record {
        within = omega arith;
        even = g.even;
        ok = rw e (step_possible r _ _ g.ok (omega (arith, good_level r _ _ good)) (good_time r _ _ good));
        same = simp (g.same, edge_at ts ls i h g.even, good, rw e at (eq-eqb _ _ n), e, f, add-one);
      }
