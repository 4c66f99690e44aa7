-- What a route says of the chain of an address.
use Rattle.std.specs.Prelude.{List, take, Result, Ok, Err}
use Rattle.cxl_model.specs.declared.chain.Step.{Step}
use Rattle.cxl_model.specs.declared.chain.Miss.{Miss}
use Rattle.cxl_model.specs.Chain.{Arrival, Routing, ChainEnd, Routed, Missed}
use Rattle.cxl_walk.specs.declared.route.Route.{Route}

-- a place of a route that is no step
abbrev pub no_step : Step
no_step = record { node = 0; decoder = 0; entry = 0 }

-- the steps of a route
abbrev pub steps_of : Route → List Step
steps_of route = take route.len route.steps

-- what a route says of its end
abbrev pub arrival_of : Route → Arrival
arrival_of route = record { endpoint = route.endpoint; decoder = route.decoder; base = route.base; dpa = route.dpa }

-- what a route says of the way of an address
abbrev pub routing_of : Route → Routing
routing_of route =
    record { window = route.window; position = route.position; steps = steps_of route; arrival = arrival_of route }

-- what an answer says of the chain
abbrev pub chain_end_of : Result Route Miss → ChainEnd
chain_end_of (Ok route) = Routed (routing_of route)
chain_end_of (Err miss) = Missed miss
