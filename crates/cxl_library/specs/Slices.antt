-- The files and the script of a caller, as bytes in memory.
use Rattle.std.specs.Prelude.{ℕ, true, None, Some, List, bytes_eq, if◌then◌else◌}
use Rattle.cxl_io.specs.Fetch.{FetchState}
use Rattle.cxl_io.specs.Source.{SourceState}
use Rattle.cxl_io.specs.Told.{Told, Bytes}
use Rattle.cxl_reads.specs.Answers.{table_name, topology_name}

-- a table, a topology and an image
pub record Slices : Type 0 where
  pub cedt : List ℕ
  pub topo : List ℕ
  pub image : List ℕ

-- these three
abbrev pub slices : List ℕ → List ℕ → List ℕ → Slices
slices cedt topo image = record { cedt = cedt; topo = topo; image = image }

-- the bytes of the three files; each name but the first two is the image's
abbrev pub told_in : Slices → List ℕ → Told
told_in files name =
    if bytes_eq name table_name then Bytes files.cedt else (if bytes_eq name topology_name then Bytes files.topo else Bytes files.image)

-- the files that are told so; they never fail
abbrev pub files_of : Slices → FetchState
files_of files = record { told = told_in files; asked = None; faults = 0; counts_failures_alone = true }

-- a script of these bytes, which never fails
abbrev pub source_of : List ℕ → SourceState
source_of bytes = record { left = Some bytes; faults = 0; counts_failures_alone = true }
