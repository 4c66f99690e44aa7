-- What a pool ends as, where the bytes of a frame were lent.
use Rattle.std.specs.Prelude.{ℕ, List, Some, slice_set}
use Rattle.std.specs.Borrow.{Lends, MutBor, Fml, u8, Array}
use Rattle.cxl_media.specs.Pool.{Frames}
use Rattle.cxl_media.specs.contracts.pool.Pool.{the_row}

-- once the borrow ends, the frame has the bytes that were last written, and the other frames stay
abbrev pub LendsBytes : MutBor Frames → ℕ → MutBor (List ℕ) → Fml
LendsBytes pool number bytes = Lends the_row (Array u8 0) pool bytes (λ written. slice_set pool.now number (Some written))
