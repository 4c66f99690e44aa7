-- The host after reset, and windows that can be taken.
use Rattle.std.specs.Prelude.{◌*◌, ◌&&◌, not, Bool, All}
use Rattle.cxl_enc.specs.Bits.{window_fixed}
use Rattle.cxl_enc.specs.Limits.{unit}
use Rattle.cxl_regs.specs.Registers.{IsBlock}
use Rattle.cxl_image.specs.Images.{reset_blocks, HasCapsOf}
use Rattle.cxl_window.specs.Fields.{WindowFields}
use Rattle.cxl_window.specs.Position.{is_usable}
use Rattle.cxl_regs.specs.Words.{has_bit}
use Rattle.cxl_model.specs.Rules.{permits}
use Rattle.cxl_legal.specs.Windows.{agrees_on_gran}
use Rattle.cxl_model.specs.System.{System}
use Rattle.cxl_pick.specs.declared.want.Want.{Want}
use Rattle.cxl_reason.specs.Reasons.{with_size}

-- the host after reset
abbrev pub after_reset : System → System
after_reset s = record s { blocks = reset_blocks s.nodes }

-- its blocks are what a program's are
pub record HasResetBlocks (s : System) : Type 0 where
  pub blocks : All IsBlock (reset_blocks s.nodes)
  pub caps : HasCapsOf (reset_blocks s.nodes) s.nodes

-- the least size of so many ways: 256 MiB for each
abbrev pub least_want : Want → Want
least_want want = with_size want (unit * want.ways)

-- the window can be used, permits the kind, is not fixed, and has the stated granularity where it has several ways
abbrev pub is_open_to : Want → WindowFields → Bool
is_open_to want w = is_usable w.verdict && permits w want.kind && not (has_bit w.restrict window_fixed) && agrees_on_gran want.gran w
