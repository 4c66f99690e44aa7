-- The largest size at which each target bridge gives something is the largest at which some set has a legal plan.
use Rattle.std.proofs.Common.{◌≡◌, ℕ, ◌*◌, ◌/◌, ◌≤◌, List, Option, Some, None, sym, subst, arith}
use Rattle.std.specs.Prelude.{MatchOption}
use Rattle.std.proofs.Math.Nat.{div-add-mod'}
use Rattle.cxl_enc.specs.Limits.{unit}
use Rattle.cxl_window.specs.Fields.{WindowFields}
use Rattle.cxl_model.specs.System.{System}
use Rattle.cxl_legal.specs.Sizes.{IsSizeFor}
use Rattle.cxl_pick.specs.declared.want.Want.{Want}
use Rattle.cxl_pick.specs.Picking.{HasPlanIn}
use Rattle.cxl_reason.specs.declared.reason.SetReason.TheVariants as reasons
use Rattle.cxl_reason.specs.Reasons.{HasNoPlanIn, SaysOfSets, with_size}
use Rattle.cxl_reason.specs.inner.Sizes.{GivesAt, GivesAtParts, GivesMost}

whole : (size ways : ℕ) → IsSizeFor size ways → size ≡ size / (unit * ways) * (unit * ways)
whole size ways legal =
    let split = div-add-mod' size (unit * ways) in
    let even = legal.even in
    omega (arith, split, even)

module _ (s : System) (want : Want) (w : WindowFields) (given : (size : ℕ) (set : List ℕ) → HasPlanIn s (with_size want size) w set → GivesAt s want w size)
    (plan : (size : ℕ) → GivesAt s want w size → (set : List ℕ) × HasPlanIn s (with_size want size) w set) where
  at_parts : (size : ℕ) → GivesAt s want w size → GivesAtParts s want w (size / (unit * want.ways))
  at_parts size gives = subst (GivesAt s want w) (whole size want.ways gives.legal) gives

  pub room_says : (o : Option ℕ) → HasNoPlanIn s want w → MatchOption o ((parts : ℕ) → GivesAtParts s want w parts → ⊥) (GivesMost s want w) → SaysOfSets s want w (reasons.NoRoom o)
  room_says None none never = λ size set has. never (size / (unit * want.ways)) (at_parts size (given size set has))
  room_says (Some size) none most =
      let own = plan size most.gives in (
        none,
        record {
          legal = most.gives.legal;
          set = own.0;
          has = own.1;
          most = λ other others has.
              let gives = given other others has in
              subst (λ (n : ℕ). n ≤ size) (sym (whole other want.ways gives.legal)) (most.most (other / (unit * want.ways)) (at_parts other gives));
        },
      )
