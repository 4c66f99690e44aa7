-- Which status is told as 6.
use Rattle.std.proofs.Common.{◌≡◌, ℕ, refl, arith}
use Rattle.cxl_inputs.specs.Exit.{exit_code}
use Rattle.cxl_inputs.specs.declared.status.Status.{Status}
use Rattle.cxl_inputs.specs.declared.status.Status.TheVariants.{Done, Usage, FetchFault, BadTable, BadTopo, ReadFault, WriteFault, BusFault, Refused, Memory, BadImage, TooMuch, TooLarge}

pub of_write_fault : (status : Status) (code : ℕ) → code ≡ exit_code status → code ≡ 6 → status ≡ WriteFault
of_write_fault Done code e six = absurd (omega (arith, e, six))
of_write_fault Usage code e six = absurd (omega (arith, e, six))
of_write_fault FetchFault code e six = absurd (omega (arith, e, six))
of_write_fault (BadTable fault) code e six = absurd (omega (arith, e, six))
of_write_fault (BadTopo fault) code e six = absurd (omega (arith, e, six))
of_write_fault ReadFault code e six = absurd (omega (arith, e, six))
of_write_fault WriteFault code e six = refl
of_write_fault BusFault code e six = absurd (omega (arith, e, six))
of_write_fault Refused code e six = absurd (omega (arith, e, six))
of_write_fault Memory code e six = absurd (omega (arith, e, six))
of_write_fault (BadImage fault) code e six = absurd (omega (arith, e, six))
of_write_fault TooMuch code e six = absurd (omega (arith, e, six))
of_write_fault TooLarge code e six = absurd (omega (arith, e, six))
