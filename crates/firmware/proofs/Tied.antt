-- THE FIRMWARE'S ENTRY IS TIED TO ITS PROMISE. The crate `entries` has no function for it. Here its contract is written out instead,
-- and the entry's own theorem is held to it: what the contract no longer said, or asked beside, would be missed here. Its code can be
-- named in this crate alone.
use seplogic.Ra.Ura.{Ura}
use base.Logic.{emp}
use prog.Model.{Model}
use prog.Wired.{Wired}
use types.Logic.{Logic}
use contract.Monad.{fact}
use contract.Running.{Running}
use denote.Triple.Spec.{Spec, Meets, exits}
use Rattle.firmware.specs.InPlace.{in_place, EdgeInPlacePromise}
use Rattle.firmware.specs.contracts.muralintak_edge as f
use Rattle.firmware.proofs.muralintak_edge.Symbol.{code, name}
use Rattle.firmware.proofs.muralintak_edge.Met.{met}

-- the contract: it asks nothing, and promises `EdgeInPlacePromise` of the receiver before, the edge, the outcome and the receiver after
abbrev pub promised : {M : Type 1} {𝓤 : Ura M} (𝓛 : Logic 𝓤) → Spec 𝓤 f.signature
promised {𝓤 = 𝓤} 𝓛 κs passed = record {
  ghost = Unit {0};
  requires = λ _. emp 𝓤;
  ensures = λ _ outcome. exits 𝓛 f.signature (f.ended).kept κs passed
      (λ after. fact 𝓤 (EdgeInPlacePromise passed.0.now passed.1.0 passed.1.1.0 (in_place outcome after.0.now)));
}

-- the entry's code meets it, wherever it runs under its name
pub edge_in_place_promised : {M : Type 1} {𝓤 : Ura M} (𝓛 : Logic 𝓤) (𝓜 : Model 𝓤 𝓛.H) (𝓡 : Running 𝓤 𝓛.H 𝓜)
    → Wired 𝓡.env code → Meets 𝓛 f.signature (𝓡.run (𝓡.env name)) (promised 𝓛)
edge_in_place_promised {𝓤 = 𝓤} 𝓛 𝓜 𝓡 wired = met 𝓤 𝓛 𝓜 𝓡 wired
