-- Want of memory is no fault of a table.
use Rattle.std.proofs.Common.{◌≢◌, ℕ, ◌+◌, Some, List, length, inl, inr, ap, ◌∙◌, arith}
use Rattle.cxl_table.specs.declared.cedt.Record.{Record}
use Rattle.cxl_cedt.specs.declared.fault.CedtFault.{CedtFault}
use Rattle.cxl_cedt.specs.declared.fault.CedtFault.TheVariants.{Memory}
use Rattle.cxl_cedt.specs.Table.{header_fault, record_fault, IsRecordFault, FirstTableFault}

no_memory_in_header : (bytes : List ℕ) → header_fault bytes ≢ Some Memory
unfolding header_fault
no_memory_in_header bytes = λ e. grind arith

no_memory_in_record : (before : List Record) (rest : List ℕ) (at : ℕ) → record_fault before rest at ≢ Some Memory
unfolding record_fault
no_memory_in_record before rest at = λ e. grind arith

no_memory_behind : (bytes : List ℕ) (fault : CedtFault) → IsRecordFault bytes fault → fault ≢ Memory
no_memory_behind bytes fault is = λ e. no_memory_in_record is.before is.rest (36 + length is.front) (is.fault_is ∙ ap Some e)

pub no_memory : (bytes : List ℕ) (fault : CedtFault) → FirstTableFault bytes fault → fault ≢ Memory
no_memory bytes fault (inl of_header) = λ e. no_memory_in_header bytes (of_header ∙ ap Some e)
no_memory bytes fault (inr of_record) = no_memory_behind bytes fault of_record.1
