use Rattle.std.proofs.Common.{List, Err, refl, sym, ap, subst, inl, inr}
use Rattle.std.proofs.Math.Nat.{le_refl}
use Rattle.cxl_window.specs.Fields.{WindowFields}
use Rattle.cxl_window.specs.Windows.{AreMadeWith}
use Rattle.cxl_machine.specs.declared.fault.OpenFault.{OpenFault}
use Rattle.cxl_machine.specs.declared.fault.OpenFault.TheVariants as faults
use Rattle.cxl_model.specs.Accepted.{IsFirstBreach, HasFirstBreach}
use Rattle.cxl_model.specs.System.{System, system_of, bridge_uids}
use Rattle.cxl_opening.specs.Opening.{HasRegions}
use Rattle.cxl_opening.specs.Opened.{CanOpen}
use Rattle.cxl_session.proofs.Opened.{same_fault, uncrowded, none_refused, nothing_refused}
use Rattle.cxl_session.proofs.session.Session.open.Goals as goal

pub returns-in-Err : goal.returns-in-Err
returns-in-Err g c =
    let fault : OpenFault = c.in-Err.fault in
    record {
      opened = tt;
      enabled = tt;
      handed = tt;
      image = tt;
      breach = λ b is.
          subst (λ (ws : List WindowFields). IsFirstBreach (system_of c.args.start c.args.topo ws) b.rule b.node b.decoder) c.deref.ensures.value
          (c.in-Err.ensures.breach b (ap Err (same_fault fault (faults.Breach b) _ refl is)));
      breached = λ has.
          elim (c.in-Err.ensures.breached (subst (λ (ws : List WindowFields). HasFirstBreach (system_of c.args.start c.args.topo ws)) (sym c.deref.ensures.value) has)) [
            | inl e ↦ inl (ap Err (same_fault fault faults.Memory _ refl e))
            | inr e ↦ inr (e.0, ap Err (same_fault fault (faults.Breach e.0) _ refl e.1))
          ];
      full = λ n is.
          let own = c.in-Err.ensures.full n (ap Err (same_fault fault (faults.Full n) _ refl is)) in
          (subst (λ (ws : List WindowFields). HasRegions (system_of c.args.start c.args.topo ws) n) c.deref.ensures.value own.0, own.1);
      filled = λ n has more.
          elim (c.in-Err.ensures.filled n (subst (λ (ws : List WindowFields). HasRegions (system_of c.args.start c.args.topo ws) n) (sym c.deref.ensures.value) has) more) [
            | inl e ↦ inl (ap Err (same_fault fault faults.Memory _ refl e))
            | inr e ↦ inr (ap Err (same_fault fault (faults.Full n) _ refl e))
          ];
      untouched = λ _. (refl, refl);
      bus = λ is. absurd (c.in-Err.ensures.no_bus (ap Err (same_fault fault faults.Bus _ refl is)));
      half_enabled = λ is. absurd (c.in-Err.ensures.no_bus (ap Err (same_fault fault faults.Bus _ refl is)));
      memory = λ _. (inl refl, inl refl);
      counts = le_refl (g.R.Regs.state c.args.regs.now).faults;
      alone = refl;
      unswallowed = tt;
      unhidden = λ _ _. refl;
      unfailed = tt;
    }

pub regions_to_open-requires : goal.regions_to_open-requires
regions_to_open-requires g c = subst (λ (ws : List WindowFields). AreMadeWith ws (bridge_uids c.args.topo.nodes)) (sym c.deref.ensures.value) c.requires.made

pub over_regions-requires : goal.over_regions-requires
over_regions-requires g c = subst (λ (ws : List WindowFields). CanOpen (system_of c.args.start c.args.topo ws) c.in-Ok.founds.items) c.deref.ensures.value c.in-Ok.ensures.opens

pub returns-in-Ok : goal.returns-in-Ok
returns-in-Ok g c =
    let s : System = system_of c.args.start c.args.topo c.args.windows.items in
    let can : CanOpen s c.in-Ok.founds.items = subst (λ (ws : List WindowFields). CanOpen (system_of c.args.start c.args.topo ws) c.in-Ok.founds.items) c.deref.ensures.value c.in-Ok.ensures.opens in
    let made = c.over_regions.ensures in
    record {
      opened = made.opened;
      enabled = made.enabled;
      handed = made.handed;
      image = made.image;
      breach = λ b is. absurd (none_refused c.over_regions.result (faults.Breach b) made.refused is tt);
      breached = λ has. absurd (can.unbroken has);
      full = λ n is. absurd (none_refused c.over_regions.result (faults.Full n) made.refused is tt);
      filled = λ n has more. absurd (uncrowded s c.in-Ok.founds.items can n has more);
      untouched = nothing_refused c.over_regions.result _ made.refused;
      bus = made.bus;
      half_enabled = made.half_enabled;
      memory = made.memory;
      counts = made.counts;
      alone = made.alone;
      unswallowed = made.unswallowed;
      unhidden = made.unhidden;
      unfailed = made.unfailed;
    }
