-- What the restrictions of a window say of regions (CEDT CFMWS window restrictions).
use Rattle.std.specs.Prelude.{◌&&◌, Bool}
use Rattle.cxl_enc.specs.declared.caps.MemKind.{MemKind}
use Rattle.cxl_enc.specs.declared.caps.MemKind.TheVariants.{Ram, Pmem}
use Rattle.cxl_enc.specs.Bits.{window_host_only, window_ram, window_pmem}
use Rattle.cxl_enc.specs.Caps.{has_bit}
use Rattle.cxl_window.specs.Fields.{WindowFields}

-- restriction bit 1 (host-only coherent) and that of the kind: 2 for ram, 3 for pmem
abbrev pub permits : WindowFields → MemKind → Bool
permits w Ram = has_bit w.restrict window_host_only && has_bit w.restrict window_ram
permits w Pmem = has_bit w.restrict window_host_only && has_bit w.restrict window_pmem
