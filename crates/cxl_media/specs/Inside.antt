-- What the fields of a pool stand for: the frames that were taken so far, how many of them were given back, the first
-- of these, and how many frames there are.
use Rattle.std.specs.Prelude.{◌≡◌, ℕ, ◌-◌, ◌^◌, ◌<◌, ◌≤◌, List, ◌++◌, length, replicate, None}
use Rattle.cxl_media.specs.Pool.{Frames, free_count}
use Rattle.cxl_media.specs.Chain.{chain, AreNumbers, marked_from}

-- the frames that were taken so far, of which those given back are free
abbrev pub frames_of : List (List ℕ) → ℕ → ℕ → Frames
frames_of frames given first = marked_from 0 (chain frames given first) frames

-- behind them those that were never taken, which are free
abbrev pub pool_of : List (List ℕ) → ℕ → ℕ → ℕ → Frames
pool_of frames given first total = frames_of frames given first ++ replicate (total - length frames) None

-- the frames given back are linked, each once, and they are as many as the pool says
pub record AreMade (frames : List (List ℕ)) (given first : ℕ) : Type 0 where
  pub numbers : AreNumbers (length frames) (chain frames given first)
  pub counted : free_count (frames_of frames given first) ≡ given
  pub few : length frames < 2 ^ 32

-- and there is room for the frames that were never taken
pub record IsPool (frames : List (List ℕ)) (given first total room : ℕ) : Type 0 where
  pub made : AreMade frames given first
  pub some : length frames ≤ total
  pub fits : total ≤ room
  pub few : total < 2 ^ 32
