-- For which numbers of endpoints a node gives something.
use Rattle.std.specs.Prelude.{◌≡◌, ℕ, ◌/◌, List, Option, if◌then◌else◌, is_some, option_and_then}
use Rattle.cxl_topo.specs.Tree.{bridge_with}
use Rattle.cxl_window.specs.Fields.{WindowFields}
use Rattle.cxl_model.specs.System.{System}
use Rattle.cxl_pick.specs.declared.want.Want.{Want}
use Rattle.cxl_pick.specs.Picking.{gives}
use Rattle.cxl_reason.specs.declared.gifts.Counts.{Counts}

-- the counts have these numbers for 1, 2, 3, 4, 6, 8, 12 and 16
pub record AreCounts (counts : Counts) (f : ℕ → ℕ) : Type 0 where
  pub one : counts.one ≡ f 1
  pub two : counts.two ≡ f 2
  pub three : counts.three ≡ f 3
  pub four : counts.four ≡ f 4
  pub six : counts.six ≡ f 6
  pub eight : counts.eight ≡ f 8
  pub twelve : counts.twelve ≡ f 12
  pub sixteen : counts.sixteen ≡ f 16

-- 1 where there is something
abbrev pub one_if : {A : Type 0} → Option A → ℕ
one_if o = if is_some o then 1 else 0

-- what the target bridge of this UID gives for its share of the ways from a start
abbrev pub at_target : System → Want → WindowFields → ℕ → ℕ → Option (List ℕ)
at_target s want w start uid = option_and_then (λ b. gives s want w start b (want.ways / w.ways)) (bridge_with s.nodes uid)
