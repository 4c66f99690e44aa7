-- The way of a slot down the tree, a port at a time.
use Rattle.std.specs.Prelude.{ℕ, ◌+◌, ◌/◌, ◌%◌, slice_set}
use Rattle.cxl_model.specs.declared.chain.Step.{Step}
use Rattle.cxl_walk.specs.declared.own.Own.{Own}
use Rattle.cxl_walk.specs.declared.steps.StepsAbove.{StepsAbove}

-- the step of what is left of a slot at a port's decoder
abbrev pub step_at : Own → ℕ → Step
step_at port rest = record { node = port.node; decoder = port.index; entry = rest % port.ways }

-- the steps with that of one port more
abbrev pub stepped : StepsAbove → Own → StepsAbove
stepped above port = record {
  len = above.len + 1;
  steps = slice_set above.steps above.len (step_at port above.rest);
  rest = above.rest / port.ways;
}
