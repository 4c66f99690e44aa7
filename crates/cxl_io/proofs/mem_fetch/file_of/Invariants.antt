use Rattle.std.proofs.Common.{◌≡◌, drop}
use Rattle.cxl_io.specs.MemoryFiles.{files_of, file_of}
use Rattle.cxl_io.proofs.mem_fetch.file_of.Given as goal

-- the file is among those that are left
abbrev pub invariant-loop-file : goal.invariant-loop-file
invariant-loop-file l = file_of (files_of (drop l.file-index l.files)) l.name ≡ file_of (files_of l.files) l.name
