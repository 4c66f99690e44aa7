use Rattle.std.proofs.Common.{get_or, ap, subst, ◌∙◌, arith, below_more}
use Rattle.cxl_topo.specs.Tree.{is_endpoint_at}
use Rattle.cxl_topo.proofs.Trees.{KnownTree}
use Rattle.cxl_model.specs.Hosts.{as_system}
use Rattle.cxl_legal.specs.Endpoints.{HasRoom}
use Rattle.cxl_plan.proofs.UsedItems.{item_inside, item_used, used_stands, asked_used, asked_endpoint, used_asked}
use Rattle.cxl_plan.proofs.room.first_refused.Goals as goal

pub refusal-requires : goal.refusal-requires
refusal-requires c = record {
  here = item_inside c.args.host.now.topo.now.nodes c.args.request.now c.deref-node-items.result.now (c.deref-node-items.ensures.value ∙ c.requires.uses.listed) c.loop-node.node-index (omega arith);
  ready = c.requires.ready;
  sound = c.requires.sound;
}

pub returns-in-Some : goal.returns-in-Some
returns-in-Some c = record {
  refused =
      let s = as_system c.args.host.now in
      let nodes = c.args.host.now.topo.now.nodes in
      let request = c.args.request.now in
      let items = c.deref-node-items.result.now in
      let i = c.loop-node.node-index in
      let tree : KnownTree nodes = record { tree = c.requires.ready.system.tree; laws = c.requires.ready.laws } in
      let named = c.requires.ready.named in
      let is = c.deref-node-items.ensures.value ∙ c.requires.uses.listed in
      let used = item_used nodes request items is i (omega arith) in
      record {
        asked = used_asked nodes tree request named (get_or items i 0) c.in-Some.ensures.endpoint used;
        refused = c.in-Some.ensures.refused;
        first = λ other asked before.
            let at = used_stands nodes tree request named items is other (asked_used nodes tree request named other asked) in
            let earlier = at.before i (omega arith) before in
            subst (HasRoom s request) at.here (c.loop-node.invariant at.place earlier (ap (is_endpoint_at nodes) at.here ∙ asked_endpoint nodes tree request named other asked));
      };
  none = tt;
}

pub returns : goal.returns
returns c = record {
  none = λ m asked.
      let s = as_system c.args.host.now in
      let nodes = c.args.host.now.topo.now.nodes in
      let request = c.args.request.now in
      let items = c.deref-node-items.result.now in
      let tree : KnownTree nodes = record { tree = c.requires.ready.system.tree; laws = c.requires.ready.laws } in
      let named = c.requires.ready.named in
      let is = c.deref-node-items.ensures.value ∙ c.requires.uses.listed in
      let at = used_stands nodes tree request named items is m (asked_used nodes tree request named m asked) in
      let within = at.within in
      subst (HasRoom s request) at.here (c.loop-node.invariant at.place (omega arith) (ap (is_endpoint_at nodes) at.here ∙ asked_endpoint nodes tree request named m asked));
  refused = tt;
}

pub loop-node-preserved : goal.loop-node-preserved
loop-node-preserved c = below_more _ _ c.loop-node.invariant c.in_default.ensures.none
