use Rattle.std.proofs.Common.{refl, ℕ, [], ◌∷◌}
use Rattle.cxl_model.specs.Chain.{Arrival, Arrives, on_step, at_end, held}
use Rattle.cxl_worked.specs.Examples.{window_of_both}
use Rattle.cxl_worked.specs.ExampleRegions.{step, with_map}
use Rattle.cxl_worked.specs.ExampleLayouts.{one_bridge, ports_out_of_order, twelve_ways, with_switch, both_kinds, two_by_map, window_of_one, window_of_twelve, step_by}
use Rattle.cxl_worked.proofs.ExamplesRegions.{keeps_block}
use Rattle.cxl_worked.proofs.layout_examples.chains_on_layouts.Goals as goal

-- the arrival at an endpoint's first decoder
abbrev arrives : ℕ → ℕ → Arrival
arrives endpoint dpa = record { endpoint = endpoint; decoder = 0; base = 0x100000000; dpa = dpa }

-- the arrival in the device's pmem
abbrev arrives_in_pmem : Arrival
arrives_in_pmem = record { endpoint = 1; decoder = 1; base = 0x110000000; dpa = 0x40000010 }

pub returns-clause-one : goal.returns-clause-one
returns-clause-one c =
    held window_of_one 0 0 (step 0 1 ∷ []) (Arrives (arrives 2 0x3ff)) record { there = refl; holds = refl; target = refl }
    (on_step 0 2 (step 0 1) ([]) (Arrives (arrives 2 0x3ff))
    record { here = refl; port = refl; decodes = record { own = refl; sound = keeps_block one_bridge refl 0 }; choice = record { holds = refl; sends = refl; listed = refl } }
    (at_end 2 (Arrives (arrives 2 0x3ff))
    record { here = refl; endpoint = refl; decodes = record { own = refl; sound = keeps_block one_bridge refl 2 }; place = record { holds = refl; base = refl; dpa = refl } }))
    refl

pub returns-clause-out_of_order : goal.returns-clause-out_of_order
returns-clause-out_of_order c =
    held window_of_one 0 0 (step 0 0 ∷ []) (Arrives (arrives 2 0)) record { there = refl; holds = refl; target = refl }
    (on_step 0 2 (step 0 0) ([]) (Arrives (arrives 2 0))
    record { here = refl; port = refl; decodes = record { own = refl; sound = keeps_block ports_out_of_order refl 0 }; choice = record { holds = refl; sends = refl; listed = refl } }
    (at_end 2 (Arrives (arrives 2 0))
    record { here = refl; endpoint = refl; decodes = record { own = refl; sound = keeps_block ports_out_of_order refl 2 }; place = record { holds = refl; base = refl; dpa = refl } }))
    refl

pub returns-clause-out_of_order_next : goal.returns-clause-out_of_order_next
returns-clause-out_of_order_next c =
    held window_of_one 0 0 (step 0 1 ∷ []) (Arrives (arrives 1 0)) record { there = refl; holds = refl; target = refl }
    (on_step 0 1 (step 0 1) ([]) (Arrives (arrives 1 0))
    record { here = refl; port = refl; decodes = record { own = refl; sound = keeps_block ports_out_of_order refl 0 }; choice = record { holds = refl; sends = refl; listed = refl } }
    (at_end 1 (Arrives (arrives 1 0))
    record { here = refl; endpoint = refl; decodes = record { own = refl; sound = keeps_block ports_out_of_order refl 1 }; place = record { holds = refl; base = refl; dpa = refl } }))
    refl

pub returns-clause-twelve : goal.returns-clause-twelve
returns-clause-twelve c =
    held window_of_twelve 5 5 (step 5 1 ∷ []) (Arrives (arrives 17 0)) record { there = refl; holds = refl; target = refl }
    (on_step 5 17 (step 5 1) ([]) (Arrives (arrives 17 0))
    record { here = refl; port = refl; decodes = record { own = refl; sound = keeps_block twelve_ways refl 5 }; choice = record { holds = refl; sends = refl; listed = refl } }
    (at_end 17 (Arrives (arrives 17 0))
    record { here = refl; endpoint = refl; decodes = record { own = refl; sound = keeps_block twelve_ways refl 17 }; place = record { holds = refl; base = refl; dpa = refl } }))
    refl

pub returns-clause-switch : goal.returns-clause-switch
returns-clause-switch c =
    held window_of_both 0 0 (step 0 0 ∷ step 2 0 ∷ []) (Arrives (arrives 3 0x100)) record { there = refl; holds = refl; target = refl }
    (on_step 0 2 (step 0 0) (step 2 0 ∷ []) (Arrives (arrives 3 0x100))
    record { here = refl; port = refl; decodes = record { own = refl; sound = keeps_block with_switch refl 0 }; choice = record { holds = refl; sends = refl; listed = refl } }
    (on_step 2 3 (step 2 0) ([]) (Arrives (arrives 3 0x100))
    record { here = refl; port = refl; decodes = record { own = refl; sound = keeps_block with_switch refl 2 }; choice = record { holds = refl; sends = refl; listed = refl } }
    (at_end 3 (Arrives (arrives 3 0x100))
    record { here = refl; endpoint = refl; decodes = record { own = refl; sound = keeps_block with_switch refl 3 }; place = record { holds = refl; base = refl; dpa = refl } })))
    refl

pub returns-clause-pmem : goal.returns-clause-pmem
returns-clause-pmem c =
    held window_of_one 0 0 (step_by 1 0 0 ∷ []) (Arrives arrives_in_pmem) record { there = refl; holds = refl; target = refl }
    (on_step 0 1 (step_by 1 0 0) ([]) (Arrives arrives_in_pmem)
    record { here = refl; port = refl; decodes = record { own = refl; sound = keeps_block both_kinds refl 0 }; choice = record { holds = refl; sends = refl; listed = refl } }
    (at_end 1 (Arrives arrives_in_pmem)
    record { here = refl; endpoint = refl; decodes = record { own = refl; sound = keeps_block both_kinds refl 1 }; place = record { holds = refl; base = refl; dpa = refl } }))
    refl

pub returns-clause-by_map : goal.returns-clause-by_map
unfolding lib.Count.ones
returns-clause-by_map c =
    held (with_map window_of_both) 1 1 (step 1 0 ∷ []) (Arrives (arrives 3 0x2000)) record { there = refl; holds = refl; target = refl }
    (on_step 1 3 (step 1 0) ([]) (Arrives (arrives 3 0x2000))
    record { here = refl; port = refl; decodes = record { own = refl; sound = keeps_block two_by_map refl 1 }; choice = record { holds = refl; sends = refl; listed = refl } }
    (at_end 3 (Arrives (arrives 3 0x2000))
    record { here = refl; endpoint = refl; decodes = record { own = refl; sound = keeps_block two_by_map refl 3 }; place = record { holds = refl; base = refl; dpa = refl } }))
    refl
