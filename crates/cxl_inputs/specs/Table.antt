-- What reading a table from a file comes to.
use Rattle.std.specs.Prelude.{◌≡◌, ℕ, ◌≤◌, Option, None, Some, List, [], ◌∷◌, ◌++◌, length, codes}
use Rattle.cxl_table.specs.CedtFields.{CedtFields}
use Rattle.cxl_cedt.specs.Table.{IsTableText, FirstTableFault}
use Rattle.cxl_cedt.specs.declared.fault.CedtFault.{CedtFault}
use Rattle.cxl_cedt.specs.declared.fault.CedtFault.TheVariants.{Short, Signature, Length, Checksum, RecordCut, RecordLength, WaysCode, GranCode, Arithmetic, TooMany, Memory}
use Rattle.cxl_enc.specs.Limits.{file_limit}
use Rattle.cxl_io.specs.Fetch.{FetchState, AsksFor}
use Rattle.cxl_io.specs.Told.{Told, AreTold}
use Rattle.cxl_reply.specs.Words.{line}
use Rattle.cxl_inputs.specs.Faults.{numbered}
use Rattle.cxl_inputs.specs.File.{HasNoBytes}
use Rattle.cxl_inputs.specs.Outcome.{Outcome, one_piece}
use Rattle.cxl_inputs.specs.declared.status.Status.TheVariants.{BadTable}

-- ---- the text of a fault

-- the word of a fault; want of memory never is one
abbrev pub fault_word : CedtFault → List ℕ
fault_word Short = codes "short"
fault_word Signature = codes "signature"
fault_word Length = codes "length"
fault_word Checksum = codes "checksum"
fault_word (RecordCut at) = codes "record-cut"
fault_word (RecordLength at) = codes "record-length"
fault_word (WaysCode at) = codes "ways-code"
fault_word (GranCode at) = codes "gran-code"
fault_word (Arithmetic at) = codes "arithmetic"
fault_word (TooMany at) = codes "too-many"
fault_word Memory = codes "memory"

-- the byte at which the record begins that has it
abbrev pub fault_place : CedtFault → Option ℕ
fault_place (RecordCut at) = Some at
fault_place (RecordLength at) = Some at
fault_place (WaysCode at) = Some at
fault_place (GranCode at) = Some at
fault_place (Arithmetic at) = Some at
fault_place (TooMany at) = Some at
fault_place other = None

-- the word for a fault of the table, and its place
abbrev pub fault_name : CedtFault → List ℕ
fault_name fault = numbered (fault_word fault) (fault_place fault)

-- the line of a fault of the table
abbrev pub table_fault_text : CedtFault → List ℕ
table_fault_text fault = line (codes "error: table " ++ fault_name fault)

-- the outcome where bytes spell no table
abbrev pub bad_table : CedtFault → Outcome
bad_table fault = one_piece (BadTable fault) (table_fault_text fault)

-- ---- the bytes of a table's file

-- they spell this table, and are not too many
pub record IsReading (bytes : List ℕ) (table : CedtFields) : Type 0 where
  pub within : length bytes ≤ file_limit
  pub spells : IsTableText bytes table

-- this is their first fault, and they are not too many
pub record IsFaulty (bytes : List ℕ) (fault : CedtFault) : Type 0 where
  pub within : length bytes ≤ file_limit
  pub first : FirstTableFault bytes fault

-- the file's bytes spell this table
pub record IsTableOf (told : Told) (table : CedtFields) : Type 0 where
  pub bytes : List ℕ
  pub told_so : AreTold told bytes
  pub reading : IsReading bytes table

-- the file's bytes have this first fault
pub record IsFaultyFile (told : Told) (fault : CedtFault) : Type 0 where
  pub bytes : List ℕ
  pub told_so : AreTold told bytes
  pub faulty : IsFaulty bytes fault

-- ---- a command that reads a table first

-- the file gives no bytes, or bytes that have a fault
pub data HasNoTable (file : List ℕ) (old new : FetchState) (outcome : Outcome) : Type 0 where
  no_bytes : HasNoBytes [] file old new outcome → HasNoTable file old new outcome
  not_sound : (fault : CedtFault) → IsFaultyFile (old.told file) fault → AsksFor old new (file ∷ []) → outcome ≡ bad_table fault → HasNoTable file old new outcome

-- the outcome is that of a file without a table, or `IsAnswer` says it of the table that the file's bytes spell
pub data IsByTable (file : List ℕ) (old new : FetchState) (IsAnswer : CedtFields → Outcome → Type 0) (outcome : Outcome) : Type 0 where
  no_table : HasNoTable file old new outcome → IsByTable file old new IsAnswer outcome
  by_table : (table : CedtFields) → IsTableOf (old.told file) table → IsAnswer table outcome → IsByTable file old new IsAnswer outcome
