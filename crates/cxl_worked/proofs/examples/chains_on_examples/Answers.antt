use Rattle.std.proofs.Common.{refl, ◌≡◌, ℕ, [], ◌∷◌, subst}
use Rattle.std.specs.Prelude.{None}
use Rattle.cxl_window.specs.Fields.{WindowFields}
use Rattle.cxl_window.specs.Position.{position_at}
use Rattle.cxl_regs.specs.declared.decoder.Decoder.{Decoder}
use Rattle.cxl_regs.specs.Reading.{holds_address}
use Rattle.cxl_model.specs.declared.chain.Miss.TheVariants.{NoDecoder}
use Rattle.cxl_model.specs.System.{decoders_at}
use Rattle.cxl_model.specs.Chain.{Arrival, Arrives, Misses, on_step, on_forwarding, at_end, held, unheld}
use Rattle.cxl_worked.specs.Examples.{two_bridges, forwarding_bridges, six_ways, window_of_both}
use Rattle.cxl_worked.specs.ExampleRegions.{window_of_three, step}
use Rattle.cxl_worked.proofs.ExamplesRegions.{keeps_block, none_of, only_one}
use Rattle.cxl_worked.proofs.examples.chains_on_examples.Goals as goal

-- the arrival at an endpoint's first decoder
abbrev arrives : ℕ → ℕ → Arrival
arrives endpoint dpa = record { endpoint = endpoint; decoder = 0; base = 0x100000000; dpa = dpa }

pub returns-clause-two : goal.returns-clause-two
returns-clause-two c =
    held window_of_both 1 1 (step 1 0 ∷ []) (Arrives (arrives 3 0)) record { there = refl; holds = refl; target = refl }
    (on_step 1 3 (step 1 0) [] (Arrives (arrives 3 0))
    record { here = refl; port = refl; decodes = record { own = refl; sound = keeps_block two_bridges refl 1 }; choice = record { holds = refl; sends = refl; listed = refl } }
    (at_end 3 (Arrives (arrives 3 0))
    record { here = refl; endpoint = refl; decodes = record { own = refl; sound = keeps_block two_bridges refl 3 }; place = record { holds = refl; base = refl; dpa = refl } }))
    refl

pub returns-clause-forwarding : goal.returns-clause-forwarding
returns-clause-forwarding c =
    held window_of_both 1 1 [] (Arrives (arrives 3 0)) record { there = refl; holds = refl; target = refl }
    (on_forwarding 1 3 [] (Arrives (arrives 3 0)) (refl, refl)
    (at_end 3 (Arrives (arrives 3 0))
    record { here = refl; endpoint = refl; decodes = record { own = refl; sound = keeps_block forwarding_bridges refl 3 }; place = record { holds = refl; base = refl; dpa = refl } }))
    refl

pub returns-clause-six : goal.returns-clause-six
returns-clause-six c =
    held window_of_three 0 0 (step 0 0 ∷ []) (Arrives (arrives 3 0x100)) record { there = refl; holds = refl; target = refl }
    (on_step 0 3 (step 0 0) [] (Arrives (arrives 3 0x100))
    record { here = refl; port = refl; decodes = record { own = refl; sound = keeps_block six_ways refl 0 }; choice = record { holds = refl; sends = refl; listed = refl } }
    (at_end 3 (Arrives (arrives 3 0x100))
    record { here = refl; endpoint = refl; decodes = record { own = refl; sound = keeps_block six_ways refl 3 }; place = record { holds = refl; base = refl; dpa = refl } }))
    refl

pub returns-clause-six_by_port : goal.returns-clause-six_by_port
returns-clause-six_by_port c =
    held window_of_three 0 0 (step 0 1 ∷ []) (Arrives (arrives 4 0)) record { there = refl; holds = refl; target = refl }
    (on_step 0 4 (step 0 1) [] (Arrives (arrives 4 0))
    record { here = refl; port = refl; decodes = record { own = refl; sound = keeps_block six_ways refl 0 }; choice = record { holds = refl; sends = refl; listed = refl } }
    (at_end 4 (Arrives (arrives 4 0))
    record { here = refl; endpoint = refl; decodes = record { own = refl; sound = keeps_block six_ways refl 4 }; place = record { holds = refl; base = refl; dpa = refl } }))
    refl

pub returns-clause-past_region : goal.returns-clause-past_region
returns-clause-past_region c =
    held window_of_both 0 0 [] (Misses (NoDecoder 0)) record { there = refl; holds = refl; target = refl }
    (at_end 0 (Misses (NoDecoder 0)) (
      refl,
      record {
        decodes = record { own = refl; sound = keeps_block two_bridges refl 0 };
        none = λ i d at. none_of (λ (e : Decoder). holds_address e 0x120000000) (decoders_at two_bridges 0) i d refl at;
      },
    ))
    refl

pub returns-clause-past_window : goal.returns-clause-past_window
returns-clause-past_window c =
    unheld (λ i w at. subst (λ (v : WindowFields). position_at v 0x200000000 ≡ None) (only_one window_of_both w i at) refl) refl
