-- What opening comes to, from what was made and what the handle then keeps.
use Rattle.std.proofs.Common.{◌≡◌, ℕ, ◌<◌, List, take, Option, Some, None, Result, Ok, Err, inl, inr, sym, ap, subst, arith, length}
use Rattle.std.specs.Prelude.{IfOk, IfErr, OnOk}
use Rattle.cxl_held.specs.Sessions.{IsOpened}
use Rattle.cxl_held.specs.declared.held.Held.{Held}
use Rattle.cxl_inputs.specs.Exit.{exit_code}
use Rattle.cxl_inputs.specs.declared.status.Status.{Status}
use Rattle.cxl_inputs.specs.declared.status.Status.TheVariants.{WriteFault}
use Rattle.cxl_library.specs.Reads.{IsReadOver}
use Rattle.cxl_library.specs.Slices.{Slices, told_in}
use Rattle.cxl_reads.specs.Answers.{table_name, topology_name}
use Rattle.cxl_handle.specs.Told.{OpensNoneOver, OpensOrTells}
use Rattle.cxl_library.proofs.Codes.{of_write_fault}
use Rattle.cxl_handle.proofs.Holding.{holds_such}

module _ {B : Type 0} (value_of : B → Held) (files : Slices) (image : Option (List ℕ)) (held : Option Held) (code : ℕ) (out : List ℕ) (written : ℕ) where
  pub opens_or_tells : (made : Result B Status)
      → IfOk made (λ box. IsOpened (told_in files) table_name topology_name image (value_of box)) → OnOk made (written ≡ 0)
      → IfErr made (λ status. (0 < exit_code status) × IsReadOver (OpensNoneOver files image) status (take written out))
      → IfOk made (λ box. (held ≡ Some (value_of box)) × (code ≡ 0)) → IfErr made (λ status. (held ≡ None) × (code ≡ exit_code status))
      → OpensOrTells files image held code (take written out)
  opens_or_tells (Ok box) opened quiet told kept other = inl (record {
    code_is = kept.1;
    text_is = ap (λ count. take count out) quiet;
    opened = holds_such held (IsOpened (told_in files) table_name topology_name image) (value_of box) kept.0 opened;
  })
  opens_or_tells (Err status) opened quiet told kept other = inr (record {
    failed = subst (λ (it : ℕ). 0 < it) (sym other.1) told.0;
    none = other.0;
    told = (status, other.1, told.1);
  })

  pub opening_full : (made : Result B Status) → IfErr made (λ status. status ≡ WriteFault → written ≡ length out)
      → IfOk made (λ box. (held ≡ Some (value_of box)) × (code ≡ 0)) → IfErr made (λ status. (held ≡ None) × (code ≡ exit_code status))
      → code ≡ 6 → written ≡ length out
  opening_full (Ok box) full kept other six = absurd (let zero = kept.1 in omega (arith, zero, six))
  opening_full (Err status) full kept other six = full (of_write_fault status code other.1 six)
