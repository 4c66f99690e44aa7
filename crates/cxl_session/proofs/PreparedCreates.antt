-- The create of a legal plan is made ready: where all its rows are committed its region is one, and the routes of that are kept.
use Rattle.std.proofs.Common.{◌≡◌, List, refl, sym, subst}
use Rattle.cxl_window.specs.Fields.{WindowFields}
use Rattle.cxl_model.specs.declared.plan.Plan.{Plan}
use Rattle.cxl_model.specs.declared.request.Request.{Request}
use Rattle.cxl_model.specs.Plans.{IsLegalPlan, with_rows}
use Rattle.cxl_model.specs.Regions.{IsRegionIn}
use Rattle.cxl_model.specs.System.{System, IsSystem}
use Rattle.cxl_walk.specs.declared.own.Own.{Own}
use Rattle.cxl_walk.specs.Keeping.{KeptFields, IsKept, HasOwn, own_decoders}
use Rattle.cxl_machine.specs.Machine.{region_window}
use Rattle.cxl_machine.specs.Sound.{IsSettled}
use Rattle.cxl_machine.proofs.LiveRegions.{window_there}
use Rattle.cxl_session.specs.Standing.{IsKeptIn}

module _ (s : System) (settled : IsSettled s) (request : Request) (plan : Plan) (legal : IsLegalPlan s request plan) (after : IsSystem (with_rows s plan.rows)) where
  module _ (own : List Own) (are : own ≡ own_decoders (with_rows s plan.rows) plan.found) where
    -- its region is one there, and these are its own decoders
    pub has_own : HasOwn (with_rows s plan.rows) s.nodes s.windows plan.found own
    has_own = record { w = legal.0; among = refl; is = record { system = after; tree = refl; region = legal.1.region; are = are } }

    -- its routes there
    pub kept_ahead : (kept : KeptFields)
        → ((t : System) (w : WindowFields) → HasOwn t s.nodes s.windows plan.found own → IsRegionIn t w plan.found → IsKept t w plan.found kept)
        → IsKeptIn (with_rows s plan.rows) plan.found kept
    kept_ahead kept each =
        let region : IsRegionIn (with_rows s plan.rows) legal.0 plan.found = legal.1.region in
        let there : region_window (with_rows s plan.rows) plan.found ≡ legal.0 = window_there (with_rows s plan.rows) legal.0 plan.found after region in
        subst (λ (w : WindowFields). IsKept (with_rows s plan.rows) w plan.found kept) (sym there) (each (with_rows s plan.rows) legal.0 has_own region)
