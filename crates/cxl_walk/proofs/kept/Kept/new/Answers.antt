use Rattle.cxl_model.specs.System.{System, IsSystem, system_of}
use Rattle.std.proofs.Common.{refl}
use Rattle.std.proofs.lemmas.Result.{IfOk-weaker}
use Rattle.cxl_walk.proofs.kept.Kept.new.Goals as goal

pub own_in-requires : goal.own_in-requires
own_in-requires c = record {
  windows = c.args.windows.now;
  window = c.requires.region.0;
  system = record { tree = c.count-nodes.ensures.tree; blocks = c.count-blocks.ensures.image.each; caps = c.requires.caps; made = c.requires.made };
  region = c.requires.region.1;
}

pub along-requires : goal.along-requires
along-requires c =
    let s : System = system_of c.args.image.now c.args.topo.now c.args.windows.now in
    let system : IsSystem s = record { tree = c.count-nodes.ensures.tree; blocks = c.count-blocks.ensures.image.each; caps = c.requires.caps; made = c.requires.made } in
    (s, record { w = c.requires.region.0; among = refl; is = record { system = system; tree = refl; region = c.requires.region.1; are = c.in_ok-own.ensures } })

pub returns : goal.returns
returns c =
    let s : System = system_of c.args.image.now c.args.topo.now c.args.windows.now in
    let system : IsSystem s = record { tree = c.count-nodes.ensures.tree; blocks = c.count-blocks.ensures.image.each; caps = c.requires.caps; made = c.requires.made } in
    IfOk-weaker c.along.result _ _
    (λ kept are w region. are s w (record { w = w; among = refl; is = record { system = system; tree = refl; region = region; are = c.in_ok-own.ensures } }) region)
    c.along.ensures
