use Rattle.std.proofs.Common.{Some, None, sym, arith}
use Rattle.cxl_topo.proofs.Trees.{KnownTree}
use Rattle.cxl_model.specs.Hosts.{as_system}
use Rattle.cxl_plan.proofs.UsedItems.{all_inside}
use Rattle.cxl_plan.proofs.FaultOrder.{faults_3, faults_4, faults_5, found_uneven, fits_endpoints}
use Rattle.cxl_plan.proofs.planning.node_fault.Goals as goal

pub first_full-requires : goal.first_full-requires
first_full-requires c k d below =
    let inside = all_inside c.args.host.now.topo.now.nodes c.args.request.now c.args.uses.now.nodes.items c.requires.uses.listed k d below in
    let count = c.requires.ready.system.caps.count in
    omega arith

pub returns-in-Some : goal.returns-in-Some
returns-in-Some c = record {
  some =
      record {
        holds = found_uneven c.args.host.now.topo.now.nodes c.args.request.now c.args.host.now.image.now c.args.host.now.windows.now (Some c.in-Some.node) (sym c.in-Some.ensures);
        first = faults_3 (as_system c.args.host.now) c.args.request.now c.requires.early;
      };
  none = tt;
}

pub returns-in-Some-first_full : goal.returns-in-Some-first_full
returns-in-Some-first_full c = record {
  some =
      record {
        holds = sym (c.in-Some-first_full.ensures c.args.host.now.topo.now.nodes c.args.request.now c.requires.ready.system.caps.count c.requires.uses);
        first = faults_4 (as_system c.args.host.now) c.args.request.now c.requires.early
            (found_uneven c.args.host.now.topo.now.nodes c.args.request.now c.args.host.now.image.now c.args.host.now.windows.now None (sym c.in_default.ensures));
      };
  none = tt;
}

pub returns-in-Some-first_refused : goal.returns-in-Some-first_refused
returns-in-Some-first_refused c = record {
  some =
      record {
        holds = c.in-Some-first_refused.ensures.refused;
        first = faults_5 (as_system c.args.host.now) c.args.request.now c.requires.early
            (found_uneven c.args.host.now.topo.now.nodes c.args.request.now c.args.host.now.image.now c.args.host.now.windows.now None (sym c.in_default.ensures))
            (sym (c.in_default-first_full.ensures c.args.host.now.topo.now.nodes c.args.request.now c.requires.ready.system.caps.count c.requires.uses));
      };
  none = tt;
}

pub returns-in-None : goal.returns-in-None
returns-in-None c = record {
  none =
      let nodes = c.args.host.now.topo.now.nodes in
      let tree : KnownTree nodes = record { tree = c.requires.ready.system.tree; laws = c.requires.ready.laws } in
      fits_endpoints nodes tree c.args.request.now c.requires.ready.named c.args.host.now.image.now c.args.host.now.windows.now c.requires.early (sym c.in_default.ensures)
      (sym (c.in_default-first_full.ensures nodes c.args.request.now c.requires.ready.system.caps.count c.requires.uses)) c.in-None.ensures.none;
  some = tt;
}
