-- Where calls of a bus failed: behind how many of the words that were sent.
use Rattle.std.specs.Prelude.{◌≡◌, ℕ, ◌+◌, ◌-◌, List, [], ◌++◌, map, take, length, Option, option_map, IfSome}
use Rattle.cxl_enc.specs.Faults.{RoseBy, CountsExactly}
use Rattle.cxl_bus.specs.RegsState.{RegsState}

-- so many places are told, and no more
abbrev pub place_limit : ℕ
place_limit = 65536

-- these places, behind so many words more
abbrev pub behind : ℕ → List ℕ → List ℕ
behind n places = map (λ place. n + place) places

-- the places that are told, and these behind them as long as there is room: the first 65,536
abbrev pub places_with : Option (List ℕ) → List ℕ → Option (List ℕ)
places_with told more = option_map (λ places. places ++ take (place_limit - length places) more) told

-- From `old` on, calls failed behind so many of the words that were sent since then, and no other call did; where words and
-- places are told.
abbrev pub HasFailedAt : RegsState → RegsState → List ℕ → Type 0
HasFailedAt old new places = IfSome old.trail (λ sent. new.failed_at ≡ places_with old.failed_at (behind (length sent) places))

-- They failed there, and each of them is counted.
pub record HasFailed (old new : RegsState) (places : List ℕ) : Type 0 where
  pub at : HasFailedAt old new places
  pub faults : RoseBy (length places) old.faults new.faults
  pub alone : new.counts_failures_alone ≡ old.counts_failures_alone
  pub counted : CountsExactly (length places) old.counts_failures_alone old.faults new.faults

-- no word is sent yet, and no call failed
abbrev pub fresh : RegsState → RegsState
fresh regs = record regs { trail = option_map (λ _. []) regs.trail; failed_at = option_map (λ _. []) regs.failed_at }
