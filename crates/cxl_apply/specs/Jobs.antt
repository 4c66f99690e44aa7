-- The register writes that make or end a region, each with the value that takes it back, and what they leave (that a
-- region is made from its endpoints up, and ended from its bridges down, is this project's rule).
use Rattle.std.specs.Prelude.{◌≡◌, ◌≢◌, ℕ, ◌+◌, ◌^◌, ◌<◌, ◌↔◌, true, false, List, [], ◌∷◌, ◌++◌, length, map, fold, take, slice_index, slice_get, Some, None, Contains, AllPairs, IsSomeAnd, unwrap_or}
use Rattle.std.specs.List.{flat_map}
use Rattle.cxl_regs.specs.declared.decoder.Decoder.{Decoder}
use Rattle.cxl_regs.specs.Registers.{Registers, IsAligned}
use Rattle.cxl_regs.specs.Rules.{first_broken_rule}
use Rattle.cxl_regs.specs.Words.{words_of, control_of, offset_of, base_low, base_high, size_low, size_high, control, tail_low, tail_high}
use Rattle.cxl_regs.specs.Blocks.{word_in, blocks_after}
use Rattle.cxl_model.specs.declared.plan.Row.{Row}
use Rattle.cxl_model.specs.System.{System}
use Rattle.cxl_apply.specs.declared.write.Write.{Write}

-- a decoder with no bit that tells of a commit or asks for one
abbrev pub unmarked : Decoder → Decoder
unmarked d = record d { commit = false; committed = false; error = false }

-- the same with the bit that asks for a commit
abbrev pub with_commit : Decoder → Decoder
with_commit d = record (unmarked d) { commit = true }

-- ---- the writes of a create

-- a word of the row's decoder, and the word before the job
abbrev pub word_write : List Registers → Row → ℕ → Write
word_write blocks row place = record {
  node = row.node;
  off = offset_of row.index place;
  value = slice_index (words_of (unmarked row.decoder)) place;
  back = unwrap_or (word_in blocks row.node (offset_of row.index place)) 0;
}

-- the eight words that the decoder in the row's place has in these blocks
abbrev pub AreWordsBefore : List Registers → Row → List ℕ → Type 0
AreWordsBefore blocks row words = (place : ℕ) → place < 8 → unwrap_or (word_in blocks row.node (offset_of row.index place)) 0 ≡ slice_index words place

-- the control word with commit, and without it
abbrev pub commit_write : Row → Write
commit_write row = record {
  node = row.node;
  off = offset_of row.index control;
  value = control_of (with_commit row.decoder);
  back = control_of (unmarked row.decoder);
}

-- base, size and tail, each its low word first; then the control word without commit, and with it
abbrev pub row_writes : List Registers → Row → List Write
row_writes blocks row = map (word_write blocks row) (base_low ∷ base_high ∷ size_low ∷ size_high ∷ tail_low ∷ tail_high ∷ control ∷ []) ++ commit_write row ∷ []

-- the rows from the greatest node number to the least, so that children come before their parents
pub record AreFalling (rows falling : List Row) : Type 0 where
  pub order : AllPairs (λ (row next : Row). next.node < row.node) falling
  pub same : (row : Row) → Contains rows row ↔ Contains falling row

-- the writes of a create, row by row from the greatest node number to the least, each with the value that takes it back
pub record AreCreateWrites (blocks : List Registers) (rows : List Row) (writes : List Write) : Type 0 where
  pub falling : List Row
  pub order : AreFalling rows falling
  pub each : writes ≡ flat_map (row_writes blocks) falling

-- ---- the writes of a release

-- the control word without commit, and with it
abbrev pub release_write : Row → Write
release_write row = record {
  node = row.node;
  off = offset_of row.index control;
  value = control_of (unmarked row.decoder);
  back = control_of (with_commit row.decoder);
}

-- the rows from the least node number to the greatest
pub record AreRising (rows rising : List Row) : Type 0 where
  pub order : AllPairs (λ (row next : Row). row.node < next.node) rising
  pub same : (row : Row) → Contains rows row ↔ Contains rising row

-- the writes of a release, one control word a row, from the least node on
pub record AreReleaseWrites (rows : List Row) (writes : List Write) : Type 0 where
  pub rising : List Row
  pub order : AreRising rows rising
  pub each : writes ≡ map release_write rising

-- the most writes of a job: eight for each of 96 nodes, 16 endpoints and the five ports above each
abbrev pub job_limit : ℕ
job_limit = 768

-- ---- what writes leave

-- the blocks after one write
abbrev pub blocks_after_write : List Registers → Write → List Registers
blocks_after_write blocks write = blocks_after blocks write.node write.off write.value

-- the blocks after these writes, in order
abbrev pub blocks_after_writes : List Registers → List Write → List Registers
blocks_after_writes blocks writes = fold blocks_after_write blocks writes

-- the blocks after the first n writes of a job
abbrev pub blocks_done : List Registers → List Write → ℕ → List Registers
blocks_done blocks writes n = blocks_after_writes blocks (take n writes)

-- an image over its nodes and windows, after the first n writes of a job
abbrev pub system_done : System → List Write → ℕ → System
system_done s writes n = record s { blocks = blocks_done s.blocks writes n }

-- each write is taken back by its back value: it leads from the blocks after so many writes to those before the last
pub record AreTakenBack (blocks : List Registers) (writes : List Write) : Type 0 where
  pub each : (n : ℕ) (write : Write) → slice_get writes n ≡ Some write
      → blocks_after (blocks_done blocks writes (n + 1)) write.node write.off write.back ≡ blocks_done blocks writes n

-- ---- the rows that a job can be made of

-- the row's decoder is one of its node's block, and no decoder above it is committed
pub record IsTopRow (blocks : List Registers) (row : Row) : Type 0 where
  pub there : IsSomeAnd (slice_get blocks row.node) (λ block. row.index < length block.decoders)
  pub top : IsSomeAnd (slice_get blocks row.node) (λ block.
      (i : ℕ) (d : Decoder) → row.index < i → slice_get block.decoders i ≡ Some d → d.committed ≡ false)

-- no two rows are of one node
abbrev pub AreOfDifferentNodes : List Row → Type 0
AreOfDifferentNodes rows = AllPairs (λ (row next : Row). row.node ≢ next.node) rows

-- the registers are such as words can hold; of an endpoint's skip they keep the bits that count
pub record HasWords (d : Decoder) : Type 0 where
  pub base : IsAligned d.base
  pub size : IsAligned d.size
  pub ways : d.ways < 16
  pub gran : d.gran < 16
  pub tail : d.tail < 2 ^ 64

-- the decoder in the row's place is not committed, nor tried to be, and the row's has no lock
pub record CanCreate (blocks : List Registers) (row : Row) : Type 0 where
  pub top : IsTopRow blocks row
  pub free : IsSomeAnd (slice_get blocks row.node) (λ block. IsSomeAnd (slice_get block.decoders row.index)
      (λ d. (d.committed ≡ false) × (d.commit ≡ false) × (d.error ≡ false)))
  pub unlocked : row.decoder.lock ≡ false
  pub kept : HasWords row.decoder

-- the row's decoder is the one in its place; it is committed, keeps the commit rules, and has no lock
pub record CanRelease (blocks : List Registers) (row : Row) : Type 0 where
  pub top : IsTopRow blocks row
  pub same : IsSomeAnd (slice_get blocks row.node) (λ block. slice_get block.decoders row.index ≡ Some row.decoder)
  pub committed : (row.decoder.committed ≡ true) × (row.decoder.commit ≡ true) × (row.decoder.error ≡ false)
  pub unlocked : row.decoder.lock ≡ false
  pub keeps : IsSomeAnd (slice_get blocks row.node) (λ block. first_broken_rule block row.index row.decoder ≡ None)
