use Rattle.std.proofs.Common.{rules}
use Rattle.cxl_num.proofs.maps.is_usable_map.Goals as goal

pub returns-then-low_bits-eq1 : goal.returns-then-low_bits-eq1
returns-then-low_bits-eq1 c = search rules
