use Rattle.cxl_model.specs.System.{system_of}
use Rattle.cxl_model.proofs.laws.accepted_image_is_system.Goals as goal

pub returns : goal.returns
returns c =
    c.hosts_with_caps_are_systems.ensures.system (system_of c.args.image.now c.args.topo.now c.args.windows.now)
    (record { tree = c.count-count.ensures.tree; blocks = c.count-blocks.ensures.image.each; made = c.requires.made }) (c.requires.accepted.each 1)
