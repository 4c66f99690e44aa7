use Rattle.std.proofs.Common.{Err, refl, ap, inl}
use Rattle.std.proofs.Math.Nat.{le_refl}
use Rattle.cxl_machine.specs.declared.fault.OpenFault.{OpenFault}
use Rattle.cxl_machine.specs.declared.fault.OpenFault.TheVariants as faults
use Rattle.cxl_model.specs.System.{System, system_of}
use Rattle.cxl_opening.specs.Opened.{CanOpen}
use Rattle.cxl_session.proofs.Opened.{full_not_breach, full_not_bus, same_fault, uncrowded, none_refused, nothing_refused}
use Rattle.cxl_session.proofs.session.Session.open_accepted.Goals as goal

pub returns-in-Err : goal.returns-in-Err
returns-in-Err g c =
    let s : System = system_of c.args.start c.args.topo c.args.windows.items in
    let fault : OpenFault = c.in-Err.fault in
    let only = c.in-Err.ensures.only in
    record {
      opened = tt;
      enabled = tt;
      handed = tt;
      image = tt;
      breach = λ b is. full_not_breach fault _ b _ only refl is;
      full = λ n is. c.in-Err.ensures.full s n c.requires.system c.requires.accepted c.requires.listed (ap Err (same_fault fault (faults.Full n) _ refl is));
      filled = λ n has more. ap Err (same_fault fault (faults.Full n) _ refl (c.in-Err.ensures.filled s n c.requires.system c.requires.listed has more));
      untouched = λ _. (refl, refl);
      bus = λ is. absurd (full_not_bus fault _ _ only refl is);
      half_enabled = λ is. absurd (full_not_bus fault _ _ only refl is);
      memory = λ _. (inl refl, inl refl);
      counts = le_refl (g.R.Regs.state c.args.regs.now).faults;
      alone = refl;
      unswallowed = tt;
      unhidden = λ _ _. refl;
      unfailed = tt;
    }

pub over_regions-requires : goal.over_regions-requires
over_regions-requires g c = c.in-Ok.ensures.opens (system_of c.args.start c.args.topo c.args.windows.items) c.requires.system c.requires.accepted c.requires.listed

pub returns-in-Ok : goal.returns-in-Ok
returns-in-Ok g c =
    let s : System = system_of c.args.start c.args.topo c.args.windows.items in
    let can : CanOpen s c.in-Ok.founds.items = c.in-Ok.ensures.opens (system_of c.args.start c.args.topo c.args.windows.items) c.requires.system c.requires.accepted c.requires.listed in
    let made = c.over_regions.ensures in
    record {
      opened = made.opened;
      enabled = made.enabled;
      handed = made.handed;
      image = made.image;
      breach = λ b is. absurd (none_refused c.over_regions.result (faults.Breach b) made.refused is tt);
      full = λ n is. absurd (none_refused c.over_regions.result (faults.Full n) made.refused is tt);
      filled = λ n has more. absurd (uncrowded s c.in-Ok.founds.items can n has more);
      untouched = nothing_refused c.over_regions.result _ made.refused;
      bus = made.bus;
      half_enabled = made.half_enabled;
      memory = made.memory;
      counts = made.counts;
      alone = made.alone;
      unswallowed = made.unswallowed;
      unhidden = made.unhidden;
      unfailed = made.unfailed;
    }
