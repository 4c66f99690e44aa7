-- Which plans for a new region are legal (this project's rules).
use Rattle.std.specs.Prelude.{◌≡◌, ◌≢◌, ℕ, ◌<◌, ◌==◌, nat_lt, not, true, false, if◌then◌else◌, List, fold, position, slice_get, slice_set, Contains, AllPairs, Some, IfSome, unwrap_or}
use Rattle.std.specs.Option.{option_map_or}
use Rattle.cxl_enc.specs.Bits.{window_fixed}
use Rattle.cxl_topo.specs.Tree.{forwards_at, is_endpoint_at, path_of}
use Rattle.cxl_regs.specs.declared.decoder.Decoder.{Decoder}
use Rattle.cxl_regs.specs.Registers.{Registers, IsDecoder}
use Rattle.cxl_regs.specs.Words.{has_bit}
use Rattle.cxl_regs.specs.declared.reading.Range.{Range}
use Rattle.cxl_regs.specs.Reading.{range_of}
use Rattle.cxl_window.specs.Fields.{WindowFields}
use Rattle.cxl_model.specs.declared.request.Request.{Request}
use Rattle.cxl_model.specs.declared.plan.Row.{Row}
use Rattle.cxl_model.specs.declared.plan.Plan.{Plan}
use Rattle.cxl_model.specs.System.{System, decoders_at}
use Rattle.cxl_model.specs.Ranges.{serves}
use Rattle.cxl_model.specs.Accepted.{IsAccepted}
use Rattle.cxl_model.specs.Regions.{region_range, IsRegionIn}

-- ---- the image with a plan's rows committed

-- the row's decoder
abbrev pub committed_row : Row → Decoder
committed_row row = record (row.decoder) { commit = true; committed = true }

-- its block decodes, and has it in place
abbrev pub block_with_row : Row → Registers → Registers
block_with_row row block = record block { enabled = true; decoders = slice_set block.decoders row.index (committed_row row) }

-- the blocks in which the row's node has its decoder in place
abbrev pub blocks_with_row : List Registers → Row → List Registers
blocks_with_row blocks row = option_map_or (λ block. slice_set blocks row.node (block_with_row row block)) (slice_get blocks row.node) blocks

-- the system with the rows of a plan committed
abbrev pub with_rows : System → List Row → System
with_rows s rows = record s { blocks = fold blocks_with_row s.blocks rows }

-- ---- what each row is

-- the node stands on the path of a requested endpoint, which may be itself
abbrev pub IsUsed : System → Request → ℕ → Type 0
IsUsed s request n = (endpoint : ℕ) × Contains request.endpoints endpoint × Contains (path_of s.nodes endpoint) n

-- one row, in rising node order, for each used node that does not forward
pub record AreRowsOf (s : System) (request : Request) (rows : List Row) : Type 0 where
  pub rising : AllPairs (λ row next. row.node < next.node) rows
  pub used : (row : Row) → Contains rows row → IsUsed s request row.node × (forwards_at s.nodes row.node ≡ false)
  pub all : (n : ℕ) → IsUsed s request n → forwards_at s.nodes n ≡ false → (row : Row) × Contains rows row × (row.node ≡ n)

-- the first decoder of its node that is not committed, with these registers, which its words keep and which commit nothing yet
pub record IsRow (s : System) (r : Range) (row : Row) : Type 0 where
  pub first : position (λ d. not d.committed) (decoders_at s row.node) ≡ Some row.index
  pub range : range_of row.decoder ≡ r
  pub kept : IsDecoder (is_endpoint_at s.nodes row.node) row.decoder
  pub unlocked : row.decoder.lock ≡ false
  pub uncommitted : (row.decoder.commit ≡ false) × (row.decoder.committed ≡ false) × (row.decoder.error ≡ false)

-- ---- a legal plan

-- the region's code: 0 at one way, the window's where that has more than one way, else the stated one, and the window's where none is stated
abbrev pub plan_code : Request → WindowFields → ℕ → ℕ
plan_code request w ways =
    if ways == 1 then 0 else (if nat_lt 1 w.ways then w.gran else unwrap_or request.gran w.gran)

-- a stated code is that of a window of more than one way
abbrev pub AgreesOnCode : Request → WindowFields → Type 0
AgreesOnCode request w = 1 < w.ways → IfSome request.gran (λ code. code ≡ w.gran)

-- A plan for the request in this window. No endpoint is asked for twice, and there is one row for each used node that does
-- not forward (a node is used that stands on the path of a requested endpoint), in its first uncommitted decoder. With the
-- rows committed and their blocks decoding the image is accepted and has one more range, of the size and kind that were
-- asked for, in a window whose configuration is not fixed. The region's code is 0 at one way, the window's where that has
-- more than one way, else the stated one, and the window's where none is stated; a stated code that differs from that of a
-- window of several ways has no legal plan. Free are the window, the base, the order of a port's entries and the skips. It
-- says nothing of how a plan is found.
pub record IsLegalPlanIn (s : System) (request : Request) (w : WindowFields) (plan : Plan) : Type 0 where
  pub distinct : AllPairs (λ a b. a ≢ b) request.endpoints
  pub named : plan.name ≡ request.name
  pub there : slice_get s.windows w.index ≡ Some w
  -- fixed configuration
  pub open_to_plans : has_bit w.restrict window_fixed ≡ false
  pub agrees : AgreesOnCode request w
  pub rows_of : AreRowsOf s request plan.rows
  pub each_row : (row : Row) → Contains plan.rows row → IsRow s (region_range plan.found) row
  -- the range is new, and with it the image is accepted
  pub new : (n : ℕ) → serves s (region_range plan.found) n ≡ false
  pub accepted : IsAccepted (with_rows s plan.rows)
  -- its region lies in the window, and is what was asked for
  pub region : IsRegionIn (with_rows s plan.rows) w plan.found
  pub size : plan.found.size ≡ request.size
  pub kind : plan.found.kind ≡ request.kind
  pub code : plan.found.gran ≡ plan_code request w plan.found.ways

-- a plan for the request in some window
abbrev pub IsLegalPlan : System → Request → Plan → Type 0
IsLegalPlan s request plan = (w : WindowFields) × IsLegalPlanIn s request w plan
