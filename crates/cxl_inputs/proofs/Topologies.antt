-- Reading a topology that has a fault.
use Rattle.std.proofs.Common.{◌≡◌, ◌≢◌, ◌≤◌, List, ℕ, [], ◌∷◌, Result, Ok, Err, IfOk, length, inr}
use Rattle.std.specs.Prelude.{⊤}
use Rattle.cxl_enc.specs.Limits.{file_limit}
use Rattle.cxl_enc.specs.declared.faults.Memory.{Memory as NoMemory}
use Rattle.cxl_io.specs.Fetch.{FetchState, AsksFor, IsFile}
use Rattle.cxl_topofile.specs.File.{IsFirstTopoFault}
use Rattle.cxl_topofile.specs.declared.fault.TopoFault.{TopoFault}
use Rattle.cxl_topofile.specs.declared.fault.TopoFault.TheVariants.{Memory}
use Rattle.cxl_inputs.specs.File.{HasNotFailed, RunsOutBehind}
use Rattle.cxl_inputs.specs.Given.{StandForNoTree}
use Rattle.cxl_inputs.specs.Outcome.{Outcome}
use Rattle.cxl_inputs.specs.Stop.{IsStop, stop_of}
use Rattle.cxl_inputs.specs.Topology.{bad_topology, HasNoTree, not_sound}
use Rattle.cxl_inputs.proofs.Stops.{out_behind_one}

-- the fault ends the command, or there was no memory to say so
pub bad_tree-stops : (file : List ℕ) (old new : FetchState) (bytes : List ℕ) (fault : TopoFault) (made : Result Outcome NoMemory) → IsFile (old.told file) bytes → AsksFor old new (file ∷ []) → HasNotFailed old new → IsFirstTopoFault bytes fault → IfOk made (λ outcome. (fault ≢ Memory) × (outcome ≡ bad_topology fault)) → IsStop (HasNoTree [] file old new) (RunsOutBehind (file ∷ []) old new) (stop_of made)
bad_tree-stops file old new bytes fault (Ok outcome) is asks unfailed of is_made =
    not_sound fault (record { bytes = bytes; told_so = is.same; faulty = record { within = is.within; real = is_made.0; first = of } }) asks is_made.1
bad_tree-stops file old new bytes fault (Err e) is asks unfailed of is_made = out_behind_one file old new asks unfailed

-- the same of bytes that are given
pub bad_tree-given : (file bytes : List ℕ) (fault : TopoFault) (made : Result Outcome NoMemory) → length bytes ≤ file_limit → IsFirstTopoFault bytes fault → IfOk made (λ outcome. (fault ≢ Memory) × (outcome ≡ bad_topology fault)) → IsStop (StandForNoTree file bytes) ⊤ (stop_of made)
bad_tree-given file bytes fault (Ok outcome) within of is_made =
    inr (fault, record { within = within; real = is_made.0; first = of }, is_made.1)
bad_tree-given file bytes fault (Err e) within of is_made = tt
