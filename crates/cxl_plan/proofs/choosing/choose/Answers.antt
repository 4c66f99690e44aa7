use Rattle.cxl_plan.proofs.choosing.choose.Goals as goal

pub floor-floor-requires : goal.floor-floor-requires
floor-floor-requires c = record { ready = c.requires.ready; uses = c.requires.uses }

pub first_taking-requires : goal.first_taking-requires
first_taking-requires c = record {
  ready = c.requires.ready;
  sound = c.requires.sound;
  uses = c.requires.uses;
  stages = c.requires.stages;
  floor = c.floor-floor.ensures;
}

pub reasons-requires : goal.reasons-requires
reasons-requires c = record {
  ready = c.requires.ready;
  sound = c.requires.sound;
  uses = c.requires.uses;
  stages = c.requires.stages;
  floor = c.floor-floor.ensures;
  none = c.in_default.ensures.none;
}
