-- Reading a table that has a fault.
use Rattle.std.proofs.Common.{◌≡◌, ◌≢◌, ◌≤◌, List, ℕ, [], ◌∷◌, Result, Ok, Err, IfOk, length, inl, inr}
use Rattle.std.specs.Prelude.{⊤}
use Rattle.cxl_cedt.specs.Table.{FirstTableFault, IsFaultOf}
use Rattle.cxl_cedt.specs.declared.fault.CedtFault.{CedtFault}
use Rattle.cxl_cedt.specs.declared.fault.CedtFault.TheVariants.{Memory}
use Rattle.cxl_enc.specs.Limits.{file_limit}
use Rattle.cxl_enc.specs.declared.faults.Memory.{Memory as NoMemory}
use Rattle.cxl_io.specs.Fetch.{FetchState, AsksFor, IsFile}
use Rattle.cxl_inputs.specs.File.{HasNotFailed, RunsOutBehind}
use Rattle.cxl_inputs.specs.Given.{SpellNoTable}
use Rattle.cxl_inputs.specs.Outcome.{Outcome}
use Rattle.cxl_inputs.specs.Stop.{IsStop, stop_of}
use Rattle.cxl_inputs.specs.Table.{bad_table, HasNoTable, not_sound}
use Rattle.cxl_inputs.proofs.Stops.{out_behind_one}

first_fault : (bytes : List ℕ) (fault : CedtFault) → IsFaultOf bytes fault → fault ≢ Memory → FirstTableFault bytes fault
first_fault bytes fault (inl memory) other = absurd (other memory)
first_fault bytes fault (inr first) other = first

-- the fault ends the command, or there was no memory to say so
pub faulty-stops : (file : List ℕ) (old new : FetchState) (bytes : List ℕ) (fault : CedtFault) (made : Result Outcome NoMemory) → IsFile (old.told file) bytes → AsksFor old new (file ∷ []) → HasNotFailed old new → IsFaultOf bytes fault → IfOk made (λ outcome. (fault ≢ Memory) × (outcome ≡ bad_table fault)) → IsStop (HasNoTable file old new) (RunsOutBehind (file ∷ []) old new) (stop_of made)
faulty-stops file old new bytes fault (Ok outcome) is asks unfailed of is_made =
    not_sound fault (record { bytes = bytes; told_so = is.same; faulty = record { within = is.within; first = first_fault bytes fault of is_made.0 } }) asks is_made.1
faulty-stops file old new bytes fault (Err e) is asks unfailed of is_made = out_behind_one file old new asks unfailed

-- the same of bytes that are given
pub faulty-given : (file bytes : List ℕ) (fault : CedtFault) (made : Result Outcome NoMemory) → length bytes ≤ file_limit → IsFaultOf bytes fault → IfOk made (λ outcome. (fault ≢ Memory) × (outcome ≡ bad_table fault)) → IsStop (SpellNoTable file bytes) ⊤ (stop_of made)
faulty-given file bytes fault (Ok outcome) within of is_made =
    inr (fault, record { within = within; first = first_fault bytes fault of is_made.0 }, is_made.1)
faulty-given file bytes fault (Err e) within of is_made = tt
