use Rattle.std.proofs.lemmas.Result.{IfOk-weaker}
use Rattle.cxl_model.specs.System.{IsSystem, system_of}
use Rattle.cxl_trace.proofs.hosts.hosts_of.Goals as goal

pub returns-clause-first : goal.returns-clause-first
returns-clause-first c =
    IfOk-weaker c.listed.result _ _
    (λ hosts are host. c.host_lists.ensures.first (system_of c.args.image.now c.args.topo.now c.args.windows.now) c.args.ep c.args.dpa hosts.items host are) c.listed.ensures

pub returns-clause-none : goal.returns-clause-none
returns-clause-none c =
    IfOk-weaker c.listed.result _ _
    (λ hosts are. (c.host_lists.ensures.none (system_of c.args.image.now c.args.topo.now c.args.windows.now) c.args.ep c.args.dpa hosts.items are).1) c.listed.ensures

pub returns-clause-one : goal.returns-clause-one
returns-clause-one c = λ accepted.
    let system : IsSystem (system_of c.args.image.now c.args.topo.now c.args.windows.now) =
    record { tree = c.count-nodes.ensures.tree; blocks = c.count-blocks.ensures.image.each; caps = c.requires.caps; made = c.requires.made } in
    IfOk-weaker c.listed.result _ _
    (λ hosts are. c.host_lists.ensures.one (system_of c.args.image.now c.args.topo.now c.args.windows.now) c.args.ep c.args.dpa hosts.items system accepted are) c.listed.ensures
