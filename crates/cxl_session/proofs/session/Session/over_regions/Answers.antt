use Rattle.std.proofs.Common.{◌≡◌, ℕ, List, [], sym, ap, subst, ◌∙◌, inr}
use Rattle.std.proofs.Math.Nat.{le_trans}
use Rattle.cxl_enc.proofs.Options.{on_ok_at, on_err_at}
use Rattle.cxl_media.specs.MediaState.{MediaState}
use Rattle.cxl_regs.specs.Registers.{Registers}
use Rattle.cxl_bus.proofs.Failed.{fails_then}
use Rattle.cxl_bus.specs.Failed.{fresh}
use Rattle.cxl_bus.specs.Trail.{blocks_sent, trail_with}
use Rattle.cxl_machine.specs.declared.fault.OpenFault.TheVariants as faults
use Rattle.cxl_machine.specs.Sound.{enabled_blocks}
use Rattle.cxl_model.specs.System.{System, system_of}
use Rattle.cxl_opening.specs.Opening.{endpoints_in, enabling}
use Rattle.cxl_opening.specs.Opened.{opened_machine, StopsEnabling}
use Rattle.cxl_session.specs.State.{SessionState}
use Rattle.cxl_session.specs.Standing.{StandsFor}
use Rattle.cxl_session.proofs.Opened.{opens_so, image_is, half_is, places_are, opened_is_at, trail_from_none, memory_not_bus, bus_not_memory, ok_not_err, rose_after}
use Rattle.cxl_session.proofs.Passing.{and_failed, and_passed}
use Rattle.cxl_session.proofs.session.Session.over_regions.Goals as goal

pub enable_endpoints-requires : goal.enable_endpoints-requires
enable_endpoints-requires g c =
    let can = c.requires in
    places_are c.args.topo c.args.windows.items c.args.start (g.R.Regs.state c.powered_on.new.regs).blocks c.deref-2.result.now c.args.founds.items can
    (c.deref-2.ensures.value ∙ c.in-Ok.ensures.endpoints) c.in-Ok.ensures.powered.0.0

pub over-requires : goal.over-requires
over-requires g c =
    let can = c.requires in
    record { opens = can; endpoints = c.deref.ensures.value ∙ c.in-Ok.ensures.endpoints }

pub returns-in_default : goal.returns-in_default
returns-in_default g c =
    record {
      opened = tt;
      enabled = tt;
      handed = tt;
      image = tt;
      refused = λ none. none;
      bus = λ is. absurd (memory_not_bus is);
      half_enabled = λ is. absurd (memory_not_bus is);
      memory = λ _. c.in_default.ensures.memory;
      counts = c.in_default.ensures.counts;
      alone = c.in_default.ensures.alone;
      unswallowed = tt;
      unhidden = λ _. c.in_default.ensures.unhidden;
      unfailed = tt;
    }

pub returns-in_default-over : goal.returns-in_default-over
returns-in_default-over g c =
    let powered = c.in-Ok.ensures.powered in
    record {
      opened = tt;
      enabled = tt;
      handed = tt;
      image = tt;
      refused = λ none. none;
      bus = λ is. absurd (memory_not_bus is);
      half_enabled = λ is. absurd (memory_not_bus is);
      memory = λ _. (inr powered.0, inr powered.1);
      counts = c.in-Ok.ensures.counts;
      alone = c.in-Ok.ensures.alone;
      unswallowed = tt;
      unhidden = λ _. c.in-Ok.ensures.unswallowed;
      unfailed = tt;
    }

pub returns-in_default-and : goal.returns-in_default-and
returns-in_default-and g c =
    let can = c.requires in
    let old = g.R.Regs.state c.args.regs.now in
    let mid = g.R.Regs.state c.powered_on.new.regs in
    let new = g.R.Regs.state c.enable_endpoints.new.regs in
    let on = c.in-Ok.ensures in
    let failed = and_failed c.enable_endpoints.result c.in-Ok-over.session _ c.in_default-and.ensures in
    let stops : StopsEnabling c.deref-2.result.now mid new = on_err_at c.enable_endpoints.result _ failed c.enable_endpoints.ensures.stopped in
    record {
      opened = tt;
      enabled = tt;
      handed = tt;
      image = tt;
      refused = λ none. none;
      bus = λ _. rose_after old.faults mid.faults new.faults on.counts (on_err_at c.enable_endpoints.result _ failed c.enable_endpoints.ensures.cause);
      half_enabled = λ _. (
        half_is c.args.topo c.args.windows.items c.args.start c.deref-2.result.now old mid new (c.deref-2.ensures.value ∙ on.endpoints) on.powered.0.0 on.powered.0.1 on.unfailed stops,
        on.powered.1,
      );
      memory = λ is. absurd (bus_not_memory is);
      counts = le_trans on.counts c.enable_endpoints.ensures.counts;
      alone = c.enable_endpoints.ensures.alone ∙ on.alone;
      unswallowed = tt;
      unhidden = λ is. absurd (bus_not_memory is);
      unfailed = tt;
    }

pub returns : goal.returns
returns g c =
    let s : System = system_of c.args.start c.args.topo c.args.windows.items in
    let founds = c.args.founds.items in
    let can = c.requires in
    let old = g.R.Regs.state c.args.regs.now in
    let mid = g.R.Regs.state c.powered_on.new.regs in
    let new = g.R.Regs.state c.enable_endpoints.new.regs in
    let media = g.M.Media.state c.powered_on.new.media in
    let on = c.in-Ok.ensures in
    let (enabled, same) = and_passed c.enable_endpoints.result c.in-Ok-over.session c.in-Ok-and.session c.in-Ok-and.ensures in
    let are : c.deref-2.result.now ≡ endpoints_in c.args.topo.nodes = c.deref-2.ensures.value ∙ on.endpoints in
    let sent : new.blocks ≡ blocks_sent mid.blocks (enabling c.deref-2.result.now) = on_ok_at c.enable_endpoints.result _ enabled c.enable_endpoints.ensures.blocks in
    let words : new.trail ≡ trail_with mid.trail (enabling c.deref-2.result.now) = on_ok_at c.enable_endpoints.result _ enabled c.enable_endpoints.ensures.words in
    let all : new.blocks ≡ enabled_blocks c.args.start =
    image_is c.args.topo c.args.windows.items c.args.start new.blocks c.deref-2.result.now founds can are
    (sent ∙ ap (λ (bs : List Registers). blocks_sent bs (enabling c.deref-2.result.now)) on.powered.0.0) in
    let stands = subst (λ (session : SessionState). StandsFor session (opened_machine s c.args.topo.frames founds)) (sym same) c.in-Ok-over.ensures.stands in
    record {
      opened = (
        opened_machine s c.args.topo.frames founds,
        opens_so s c.args.topo.frames founds can,
        opened_is_at s c.args.topo.frames founds c.in-Ok-and.session new media c.in-Ok-over.ensures.machine stands all
            (ap (λ (m : MediaState). m.blocks) on.powered.1) (ap (λ (m : MediaState). m.free) on.powered.1),
      );
      enabled = words ∙ ap (λ (nodes : List ℕ). trail_with mid.trail (enabling nodes)) are ∙ trail_from_none old.trail mid.trail (enabling (endpoints_in c.args.topo.nodes)) on.powered.0.1;
      handed = (ap (λ (session : SessionState). session.topo) same ∙ c.in-Ok-over.ensures.handed.0, ap (λ (session : SessionState). session.windows) same ∙ c.in-Ok-over.ensures.handed.1);
      image = ap (λ (session : SessionState). session.image) same ∙ c.in-Ok-over.ensures.image ∙ sym all;
      refused = tt;
      bus = λ is. absurd (ok_not_err c.in-Ok-and.session faults.Bus is);
      half_enabled = λ is. absurd (ok_not_err c.in-Ok-and.session faults.Bus is);
      memory = λ is. absurd (ok_not_err c.in-Ok-and.session faults.Memory is);
      counts = le_trans on.counts c.enable_endpoints.ensures.counts;
      alone = c.enable_endpoints.ensures.alone ∙ on.alone;
      unswallowed = λ counted.
          on_ok_at c.enable_endpoints.result _ enabled c.enable_endpoints.ensures.unswallowed (on.alone ∙ counted) ∙ on.unswallowed counted;
      unhidden = λ is. absurd (ok_not_err c.in-Ok-and.session faults.Memory is);
      unfailed = fails_then (fresh old) mid new [] on.powered.0.1 on.unfailed (on_ok_at c.enable_endpoints.result _ enabled c.enable_endpoints.ensures.unfailed);
    }
