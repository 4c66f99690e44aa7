use Rattle.std.proofs.Common.{refl, ap, ◌∙◌, inl, inr}
use Rattle.std.proofs.Math.Nat.{le_refl}
use Rattle.cxl_bus.proofs.Failed.{fails_fresh}
use Rattle.cxl_bus.specs.RegsState.{RegsState}
use Rattle.cxl_opening.proofs.Errors.{not_ok, at_any_err}
use Rattle.cxl_opening.proofs.EmptyMedia.{media_is}
use Rattle.cxl_opening.proofs.endpoints.powered_on.Goals as goal

pub returns-in_err-endpoints : goal.returns-in_err-endpoints
returns-in_err-endpoints g c =
    let failed = c.from_residual in
    record {
      endpoints = not_ok _ failed.result _ failed.ensures.1;
      powered = not_ok _ failed.result _ failed.ensures.1;
      memory = at_any_err failed.result _ (inl refl, inl refl);
      counts = le_refl (g.R.Regs.state c.args.regs.now).faults;
      alone = refl;
      unswallowed = not_ok _ failed.result _ failed.ensures.1;
      unhidden = at_any_err failed.result _ (λ _. refl);
      unfailed = not_ok _ failed.result _ failed.ensures.1;
    }

pub returns-in_err-power_on : goal.returns-in_err-power_on
returns-in_err-power_on g c =
    let failed = c.from_residual-in_err-power_on in
    record {
      endpoints = not_ok _ failed.result _ failed.ensures.1;
      powered = not_ok _ failed.result _ failed.ensures.1;
      memory = at_any_err failed.result _ (inl c.in_err-power_on.ensures.err, inl refl);
      counts = c.power_on.ensures.counts;
      alone = c.power_on.ensures.alone;
      unswallowed = not_ok _ failed.result _ failed.ensures.1;
      unhidden = at_any_err failed.result _ (λ _. ap (λ (regs : RegsState). regs.faults) c.in_err-power_on.ensures.err);
      unfailed = not_ok _ failed.result _ failed.ensures.1;
    }

pub returns-in_err-power_on-2 : goal.returns-in_err-power_on-2
returns-in_err-power_on-2 g c =
    let failed = c.from_residual-in_err-power_on-2 in
    record {
      endpoints = not_ok _ failed.result _ failed.ensures.1;
      powered = not_ok _ failed.result _ failed.ensures.1;
      memory = at_any_err failed.result _ (inr (c.in_ok-power_on.ensures.holds ∙ c.blocks-2.ensures.value, c.in_ok-power_on.ensures.empties, c.in_ok-power_on.ensures.forgets), inl c.in_err-power_on-2.ensures.err);
      counts = c.power_on.ensures.counts;
      alone = c.power_on.ensures.alone;
      unswallowed = not_ok _ failed.result _ failed.ensures.1;
      unhidden = at_any_err failed.result _ c.in_ok-power_on.ensures.unswallowed;
      unfailed = not_ok _ failed.result _ failed.ensures.1;
    }

pub returns : goal.returns
returns g c =
    record {
      endpoints = c.in_ok-endpoints.ensures;
      powered = (
        (c.in_ok-power_on.ensures.holds ∙ c.blocks-2.ensures.value, c.in_ok-power_on.ensures.empties, c.in_ok-power_on.ensures.forgets),
        media_is (g.M.Media.state c.power_on-2.new.self) c.args.topo.now.frames c.in_ok-power_on-2.ensures.blocks (c.in_ok-power_on-2.ensures.free ∙ c.frames.ensures.frames),
      );
      memory = tt;
      counts = c.power_on.ensures.counts;
      alone = c.power_on.ensures.alone;
      unswallowed = c.in_ok-power_on.ensures.unswallowed;
      unhidden = tt;
      unfailed = fails_fresh (g.R.Regs.state c.args.regs.now) (g.R.Regs.state c.power_on.new.self) c.in_ok-power_on.ensures.forgets c.power_on.ensures.counts c.power_on.ensures.alone c.in_ok-power_on.ensures.unswallowed;
    }
