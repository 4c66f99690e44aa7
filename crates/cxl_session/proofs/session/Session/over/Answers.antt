use Rattle.std.proofs.Common.{◌≡◌, ◌<◌, ◌≤◌, ℕ, List, length, refl, sym, ap, subst, ◌∙◌}
use Rattle.std.specs.Prelude.{All}
use Rattle.std.proofs.lemmas.List.FromFn.{length-map-range_with_len}
use Rattle.cxl_topo.specs.Frames.{AreFrames}
use Rattle.cxl_window.specs.Fields.{WindowFields}
use Rattle.cxl_window.specs.Windows.{AreMadeWith}
use Rattle.cxl_machine.specs.Sound.{auto_name}
use Rattle.cxl_model.specs.Listed.{region_limit}
use Rattle.cxl_model.specs.declared.found.Found.{Found}
use Rattle.cxl_model.specs.Regions.{IsRegion}
use Rattle.cxl_model.specs.System.{System, system_of, bridge_uids}
use Rattle.cxl_opening.specs.Opened.{AreRoutesOf}
use Rattle.cxl_opening.proofs.Enabling.{endpoints_there}
use Rattle.cxl_opening.proofs.Routes.{routes_long}
use Rattle.cxl_session.proofs.Opened.{machine_is, image_is, caps_are, regions_are, opened_stands}
use Rattle.cxl_session.proofs.session.Session.over.Goals as goal

pub enabled-image-requires : goal.enabled-image-requires
enabled-image-requires c =
    subst (All (λ node. node < length c.args.start)) (sym c.requires.endpoints)
    (endpoints_there (system_of c.args.start c.args.topo c.args.windows.items) c.requires.opens.system)

pub opened_regions-requires : goal.opened_regions-requires
opened_regions-requires c =
    let founds : List Found = c.args.founds.items in
    let machine = machine_is c.openings_are_machines.ensures (system_of c.args.start c.args.topo c.args.windows.items) c.args.topo.frames founds c.requires.opens c.ports_are_bytes.ensures
    (subst AreFrames c.frames-frames.ensures.frames c.frames-frames.ensures.range) in
    let image = image_is c.args.topo c.args.windows.items c.args.start c.enabled-image.result c.args.endpoints.now founds c.requires.opens c.requires.endpoints c.enabled-image.ensures in
    record {
      caps = caps_are c.args.topo c.args.windows.items c.args.start c.enabled-image.result founds machine image;
      made = subst (λ (ws : List WindowFields). AreMadeWith ws (bridge_uids c.args.topo.nodes)) (sym c.deref.ensures.value) c.requires.opens.system.made;
      regions =
          subst (λ (ws : List WindowFields). All (IsRegion (system_of c.enabled-image.result c.args.topo ws)) founds) (sym c.deref.ensures.value)
          (regions_are c.args.topo c.args.windows.items c.args.start c.enabled-image.result founds machine image);
      rising = c.requires.opens.listed.rising;
      few = c.requires.opens.few;
    }

pub invariant_of-result : goal.invariant_of-result
invariant_of-result c =
    let live = c.in-Ok.ensures in
    let count : length c.in-Ok.live.names.items ≡ length c.args.founds.items = ap length live.names ∙ length-map-range_with_len auto_name 0 (length c.args.founds.items) in
    record {
      founds = ap length live.founds ∙ sym count;
      kepts = routes_long _ _ _ live.routes ∙ sym count;
      few = subst (λ (n : ℕ). n ≤ region_limit) (sym count) c.requires.opens.few;
      names_room = live.room.0;
      kepts_room = live.room.1;
      words = _;
    }

pub returns-clause-machine : goal.returns-clause-machine
returns-clause-machine c =
    machine_is c.openings_are_machines.ensures (system_of c.args.start c.args.topo c.args.windows.items) c.args.topo.frames c.args.founds.items c.requires.opens c.ports_are_bytes.ensures
    (subst AreFrames c.frames-frames.ensures.frames c.frames-frames.ensures.range)

pub returns-clause-stands : goal.returns-clause-stands
returns-clause-stands c =
    let s : System = system_of c.args.start c.args.topo c.args.windows.items in
    let live = c.in-Ok.ensures in
    let machine = machine_is c.openings_are_machines.ensures s c.args.topo.frames c.args.founds.items c.requires.opens c.ports_are_bytes.ensures
    (subst AreFrames c.frames-frames.ensures.frames c.frames-frames.ensures.range) in
    let image = image_is c.args.topo c.args.windows.items c.args.start c.enabled-image.result c.args.endpoints.now c.args.founds.items c.requires.opens c.requires.endpoints c.enabled-image.ensures in
    opened_stands c.regions_lie_in_windows.ensures.there c.args.topo c.args.windows.items c.args.start c.enabled-image.result c.args.founds.items c.in-Ok.live.founds
    c.in-Ok.live.names.items c.in-Ok.live.kepts.items machine image live.names live.founds
    (subst (λ (ws : List WindowFields). AreRoutesOf (system_of c.enabled-image.result c.args.topo ws) c.args.founds.items c.in-Ok.live.kepts.items) c.deref.ensures.value live.routes)

pub returns-clause-handed : goal.returns-clause-handed
returns-clause-handed c = (refl, refl)

pub returns-clause-image : goal.returns-clause-image
returns-clause-image c =
    image_is c.args.topo c.args.windows.items c.args.start c.enabled-image.result c.args.endpoints.now c.args.founds.items c.requires.opens c.requires.endpoints c.enabled-image.ensures
