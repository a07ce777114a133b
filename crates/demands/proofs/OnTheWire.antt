-- DEMAND 2, on the wire: what the host encodes, clocked out low bit first with any times that never fall and of which none but the first is
-- a pause, into a receiver that holds nothing, is heard as exactly that packet, at its last edge, and means the same command to the module.
use Prim.Native.Nat.{ℕ, zero, suc, ◌+◌, ◌*◌, ◌<◌}
use mathlib.Core.List.{List, [], ◌∷◌, append-nil}
use mathlib.Core.Path.{◌≡◌, refl, sym, ◌∙◌, ap}
use native.Mathlib.Omega.{arith}
use lib.Dec.{eqb, lit<}
use lib.ListN.{length, get_or}
use borrow.Author.Tests.{eqb-true}
use Rattle.demands.specs.Told.{HeardAsSaid}
use Rattle.bits.specs.Bits.{Bytes}
use Rattle.bits.proofs.Tests.{by}
use Rattle.line.specs.declared.packet.Packet.{Packet}
use Rattle.line.specs.declared.receiver.Receiver.{Receiver}
use Rattle.line.specs.Line.{packet_length, idle_at, emptied}
use Rattle.line.specs.Wire.{edges_of, hearing, levels_of, Later, Proper, of_two, of_three, bytes_of, before, spelled, holds, last_of, heard_as}
use Rattle.line.proofs.Wire.{two_or_three, wire_law, left_some, packet_first}
use Rattle.command.specs.declared.Command.{Command}
use Rattle.command.specs.Saying.{ThreeBytes}
use Rattle.host.specs.Encode.{encoded_of}
use Rattle.host.proofs.EncoderLaws.{read_as_encoded, encoded_bytes, encoded_length, encoded_end}

-- a packet of three places that has its length, and 0 past a short one's end, is one that bytes can spell
made_proper : (n : ℕ) (bs : List ℕ) → length bs ≡ 3 → n ≡ packet_length (get_or bs 0 0) → (packet_length (get_or bs 0 0) ≡ 2 → get_or bs 2 0 ≡ 0)
    → Proper (record { length = n; bytes = bs })
made_proper n [] l e z = let f : ⊥ = omega arith in absurd f
made_proper n (a ∷ []) l e z = let f : ⊥ = omega arith in absurd f
made_proper n (a ∷ b ∷ []) l e z = let f : ⊥ = omega arith in absurd f
made_proper n (a ∷ b ∷ c ∷ d ∷ bs) l e z = let f : ⊥ = omega arith in absurd f
made_proper n (a ∷ b ∷ c ∷ []) l e z =
    by (eqb (packet_length a) 3)
    (λ t. let p : packet_length a ≡ 3 = eqb-true _ _ t in rw (e, p) (of_three a b c p))
    (λ t. let p : packet_length a ≡ 2 = two_or_three a t in rw (e, p, z p) (of_two a b p))

pub encoded_proper : (c : Command) → (encoded_of c).refusal ≡ 0 → Proper (encoded_of c).packet
encoded_proper c h =
    let p = (encoded_of c).packet in
    made_proper p.length p.bytes (encoded_bytes c h).three (encoded_length c h) (encoded_end c h)

-- its bytes are bytes
pub proper_bytes : {p : Packet} → Proper p → ThreeBytes p → Bytes (bytes_of p)
proper_bytes (of_two a b e) t zero = t.first
proper_bytes (of_two a b e) t (suc zero) = t.second
proper_bytes (of_two a b e) t (suc (suc i)) = omega arith
proper_bytes (of_three a b c e) t zero = t.first
proper_bytes (of_three a b c e) t (suc zero) = t.second
proper_bytes (of_three a b c e) t (suc (suc zero)) = t.third
proper_bytes (of_three a b c e) t (suc (suc (suc i))) = omega arith

pub proper_length : {p : Packet} → Proper p → length (bytes_of p) ≡ p.length
proper_length (of_two a b e) = refl
proper_length (of_three a b c e) = refl

-- it has edges
pub some_edges : {p : Packet} → Proper p → 0 < 8 * p.length
some_edges (of_two a b e) = lit< tt
some_edges (of_three a b c e) = lit< tt

-- one packet and nothing after it
alone : {p : Packet} → Proper p → (n : ℕ) → spelled n [] (bytes_of p) ≡ before p (n + 8 * p.length) (spelled (n + 8 * p.length) [] [])
alone {p} q n = ap (spelled n []) (sym (append-nil (bytes_of p))) ∙ packet_first q n []

-- such a packet, clocked out alone, is heard at its last edge, n edges having come before
pub proper_heard : {p : Packet} → Proper p → Bytes (bytes_of p) → (r : Receiver) → r ≡ emptied r → (n : ℕ) (ts : List ℕ) → length ts ≡ 8 * p.length → Later r ts
    → hearing r n (edges_of ts (levels_of (bytes_of p)))
    ≡ record { receiver = idle_at (last_of r.last ts); packets = record { after = n + 8 * p.length; packet = p } ∷ [] }
unfolding spelled holds
proper_heard {p} q small r empty n ts l u =
    let some : 0 < length ts = rw l (some_edges q) in
    wire_law r n (bytes_of p) ts empty small (l ∙ ap (λ (n : ℕ). 8 * n) (sym (proper_length q))) u
    ∙ ap (heard_as r ts) (alone q n)
    ∙ ap (λ (e : Receiver). record { receiver = e; packets = record { after = n + 8 * p.length; packet = p } ∷ [] }) (left_some r ts [] some)

pub encoded_small : (c : Command) → (encoded_of c).refusal ≡ 0 → Bytes (bytes_of (encoded_of c).packet)
encoded_small c h = proper_bytes (encoded_proper c h) (encoded_bytes c h)

-- THE THEOREM, with n edges taken before
pub on_the_wire : (c : Command) → (encoded_of c).refusal ≡ 0 → (r : Receiver) → r ≡ emptied r → (n : ℕ) (ts : List ℕ)
    → length ts ≡ 8 * (encoded_of c).packet.length → Later r ts → HeardAsSaid c r n ts
on_the_wire c h r empty n ts l u =
    record { heard = proper_heard (encoded_proper c h) (encoded_small c h) r empty n ts l u; means = read_as_encoded c h }
