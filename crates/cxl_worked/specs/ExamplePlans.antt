-- Worked plans: the rows that make worked images of their hosts after reset.
use Rattle.std.specs.Prelude.{ℕ, List, [], ◌∷◌, None}
use Rattle.cxl_enc.specs.declared.caps.MemKind.TheVariants.{Ram}
use Rattle.cxl_regs.specs.Registers.{Registers}
use Rattle.cxl_image.specs.Images.{reset_blocks}
use Rattle.cxl_window.specs.Fields.{WindowFields}
use Rattle.cxl_model.specs.declared.request.Request.{Request}
use Rattle.cxl_model.specs.declared.plan.Row.{Row}
use Rattle.cxl_model.specs.declared.plan.Plan.{Plan}
use Rattle.cxl_model.specs.System.{System}
use Rattle.cxl_model.specs.Plans.{with_rows}
use Rattle.cxl_legal.specs.Stated.{stated_rows}
use Rattle.cxl_worked.specs.Examples.{of_both}
use Rattle.cxl_worked.specs.ExampleRegions.{region_of_two}

-- the host with its blocks after reset
abbrev pub after_reset : System → System
after_reset s = record s { blocks = reset_blocks s.nodes }

-- so many bytes of ram over these endpoints, with no granularity stated
abbrev pub of_ram : Request → ℕ → List ℕ → Request
of_ram request size endpoints = record request { kind = Ram; size = size; gran = None; endpoints = endpoints }

-- what the rows stated for a request at 4 GiB leave of its blocks
abbrev pub blocks_planned : System → Request → WindowFields → List Registers
blocks_planned s request w = (with_rows (after_reset s) (stated_rows (after_reset s) request w 0x100000000)).blocks

-- ---- a plan for both endpoints under two bridges

-- the first decoder of a node, with the region's base and size and this control word
abbrev pub row_of_both : ℕ → ℕ → Row
row_of_both node control = record { node = node; index = 0; decoder = of_both control }

-- the bridges have one way and list port 0, the endpoints have two ways and skip nothing
abbrev pub rows_of_two : List Row
rows_of_two = row_of_both 0 0x1000 ∷ row_of_both 1 0x1000 ∷ row_of_both 2 0x1010 ∷ row_of_both 3 0x1010 ∷ []

-- the plan of two rows
abbrev pub plan_of_two : Request → Plan
plan_of_two request = record { name = request.name; found = region_of_two; rows = rows_of_two }
