-- Lines that go out in blocks.
use Rattle.std.specs.Prelude.{◌≡◌, ℕ, ◌<◌, ◌≤◌, ◌⊎◌, List, [], length}
use Rattle.cxl_io.specs.Sink.{SinkState, Takes}

-- a block of fewer bytes than it is written from is kept and nothing is written, or it is written whole and is empty
abbrev pub KeepsOrWrites : ℕ → SinkState → SinkState → List ℕ → List ℕ → Type 0
KeepsOrWrites from old new block block' =
    ((length block < from) × (block' ≡ block) × (new ≡ old)) ⊎ ((from ≤ length block) × (block' ≡ []) × Takes old new block)
