-- Reading an image that has a fault.
use Rattle.std.proofs.Common.{◌≡◌, ◌≢◌, ◌≤◌, List, ℕ, [], ◌∷◌, Result, Ok, Err, IfOk, length, inl, inr}
use Rattle.std.specs.Prelude.{⊤}
use Rattle.cxl_enc.specs.declared.faults.Memory.{Memory as NoMemory}
use Rattle.cxl_enc.specs.Limits.{file_limit}
use Rattle.cxl_image.specs.File.{IsFirstImageFault, IsImageFaultOf}
use Rattle.cxl_image.specs.declared.fault.ImageFault.{ImageFault}
use Rattle.cxl_image.specs.declared.fault.ImageFault.TheVariants.{Memory}
use Rattle.cxl_io.specs.Fetch.{FetchState, AsksFor, IsFile}
use Rattle.cxl_topo.specs.declared.node.Node.{Node}
use Rattle.cxl_inputs.specs.File.{HasNotFailed, RunsOutBehind}
use Rattle.cxl_inputs.specs.Given.{HoldNoImage}
use Rattle.cxl_inputs.specs.Image.{bad_image, HasNoImage, not_sound}
use Rattle.cxl_inputs.specs.Outcome.{Outcome}
use Rattle.cxl_inputs.specs.Stop.{IsStop, stop_of}
use Rattle.cxl_inputs.proofs.Stops.{out_behind_one}

first_fault : (bytes : List ℕ) (nodes : List Node) (fault : ImageFault) → IsImageFaultOf bytes nodes fault → fault ≢ Memory → IsFirstImageFault bytes nodes fault
first_fault bytes nodes fault (inl memory) other = absurd (other memory)
first_fault bytes nodes fault (inr first) other = first

-- the fault ends the command, or there was no memory to say so
pub bad_image-stops : (file : List ℕ) (nodes : List Node) (old new : FetchState) (bytes : List ℕ) (fault : ImageFault) (made : Result Outcome NoMemory) → IsFile (old.told file) bytes → AsksFor old new (file ∷ []) → HasNotFailed old new → IsImageFaultOf bytes nodes fault → IfOk made (λ outcome. (fault ≢ Memory) × (outcome ≡ bad_image fault)) → IsStop (HasNoImage [] file nodes old new) (RunsOutBehind (file ∷ []) old new) (stop_of made)
bad_image-stops file nodes old new bytes fault (Ok outcome) is asks unfailed of is_made =
    not_sound fault (record { bytes = bytes; told_so = is.same; faulty = record { within = is.within; first = first_fault bytes nodes fault of is_made.0 } }) asks is_made.1
bad_image-stops file nodes old new bytes fault (Err e) is asks unfailed of is_made = out_behind_one file old new asks unfailed

-- the same of bytes that are given
pub bad_image-given : (file bytes : List ℕ) (nodes : List Node) (fault : ImageFault) (made : Result Outcome NoMemory) → length bytes ≤ file_limit → IsImageFaultOf bytes nodes fault → IfOk made (λ outcome. (fault ≢ Memory) × (outcome ≡ bad_image fault)) → IsStop (HoldNoImage file bytes nodes) ⊤ (stop_of made)
bad_image-given file bytes nodes fault (Ok outcome) within of is_made =
    inr (fault, record { within = within; first = first_fault bytes nodes fault of is_made.0 }, is_made.1)
bad_image-given file bytes nodes fault (Err e) within of is_made = tt
