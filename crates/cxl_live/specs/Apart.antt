-- Regions of which each host address has one at the most.
use Rattle.std.specs.Prelude.{◌≡◌, false, List, AllPairs}
use Rattle.cxl_model.specs.declared.found.Found.{Found}
use Rattle.cxl_machine.specs.Machine.{has_host}

-- none holds the base of another
abbrev pub LieApart : List Found → Type 0
LieApart regions =
    AllPairs (λ (found other : Found). (has_host found other.base ≡ false) × (has_host other found.base ≡ false)) regions
