use Rattle.std.proofs.Common.{◌≡◌, ℕ, Option, Some, None, refl, sym, subst, ◌∙◌}
use Rattle.std.specs.Prelude.{IsSome, IfSome, IfNone}
use Rattle.cxl_window.specs.Fields.{WindowFields}
use Rattle.cxl_model.specs.declared.found.Found.{Found}
use Rattle.cxl_model.specs.System.{System, IsSystem, system_of}
use Rattle.cxl_model.specs.Regions.{Carries}
use Rattle.cxl_walk.specs.declared.upward.HostByte.{HostByte}
use Rattle.cxl_walk.specs.Hosts.{ComesTo, HasNoHost, IsLeastHost}
use Rattle.cxl_walk.proofs.upward.up.Goals as goal

some_of : (s : System) (ep dpa : ℕ) (o : Option HostByte) → IfNone o (HasNoHost s ep dpa) → (first h : ℕ) → ComesTo s ep dpa first h → IsSome o
some_of s ep dpa None none first h comes = absurd (none first h comes)
some_of s ep dpa (Some host) none first h comes = refl

each_of : (s : System) (ep dpa : ℕ) (o : Option HostByte) → IfSome o (IsLeastHost s ep dpa)
    → ((a first b other : ℕ) → ComesTo s ep dpa first a → ComesTo s ep dpa other b → a ≡ b)
    → IfSome o (λ host. (first h : ℕ) → ComesTo s ep dpa first h → h ≡ host.h)
each_of s ep dpa None is one = tt
each_of s ep dpa (Some host) is one = λ first h comes. one h first host.h host.base comes is.comes

host_of : (s : System) (ep dpa : ℕ) (o : Option HostByte) → IfSome o (IsLeastHost s ep dpa) → IsSome o → (host : HostByte) × IsLeastHost s ep dpa host
host_of s ep dpa None is some = cc
host_of s ep dpa (Some host) is some = (host, is)

pub returns-clause-spans : goal.returns-clause-spans
returns-clause-spans c = λ w found region lies.
    let s : System = system_of c.args.image.now c.args.topo.now c.args.windows.now in
    let system : IsSystem s = record { tree = c.count-nodes.ensures.tree; blocks = c.count-blocks.ensures.image.each; caps = c.requires.caps; made = c.requires.made } in
    let carried = c.bytes_are_carried_one_to_one.ensures.onto s w found c.args.ep c.args.dpa system region lies in
    let route = c.carries_where_chain_ends.ensures.ends s w found carried.0 c.args.ep c.args.dpa system region carried.1 in
    some_of s c.args.ep c.args.dpa c.least.result c.least.ensures.none route.0.arrival.base carried.0
    (record { routing = route.0; chain = route.1; endpoint = route.2; byte = route.3; base = refl })

pub returns-clause-one : goal.returns-clause-one
returns-clause-one c = λ accepted.
    let s : System = system_of c.args.image.now c.args.topo.now c.args.windows.now in
    let system : IsSystem s = record { tree = c.count-nodes.ensures.tree; blocks = c.count-blocks.ensures.image.each; caps = c.requires.caps; made = c.requires.made } in
    each_of s c.args.ep c.args.dpa c.least.result c.least.ensures.some
    (λ a first b other one two.
    c.routes_are_of_regions.ensures.apart s a b one.routing two.routing system accepted one.chain two.chain (one.endpoint ∙ sym two.endpoint) (one.byte ∙ sym two.byte))

pub returns-clause-only : goal.returns-clause-only
returns-clause-only c = λ accepted some.
    let s : System = system_of c.args.image.now c.args.topo.now c.args.windows.now in
    let system : IsSystem s = record { tree = c.count-nodes.ensures.tree; blocks = c.count-blocks.ensures.image.each; caps = c.requires.caps; made = c.requires.made } in
    let host = host_of s c.args.ep c.args.dpa c.least.result c.least.ensures.some some in
    let comes = host.1.comes in
    let region = c.routes_are_of_regions.ensures.only s host.0.h comes.routing system accepted comes.chain in
    let w : WindowFields = region.0 in
    let found : Found = region.1 in
    let place : Carries found w host.0.h c.args.ep c.args.dpa =
    subst (λ (n : ℕ). Carries found w host.0.h n c.args.dpa) comes.endpoint
    (subst (λ (n : ℕ). Carries found w host.0.h comes.routing.arrival.endpoint n) comes.byte region.3.place) in
    (w, found, region.2, c.bytes_are_carried_one_to_one.ensures.inside s w found host.0.h c.args.ep c.args.dpa system region.2 place)

pub returns-clause-committed : goal.returns-clause-committed
returns-clause-committed c = λ accepted.
    let s : System = system_of c.args.image.now c.args.topo.now c.args.windows.now in
    let system : IsSystem s = record { tree = c.count-nodes.ensures.tree; blocks = c.count-blocks.ensures.image.each; caps = c.requires.caps; made = c.requires.made } in (
      λ some.
          let region = returns-clause-only c accepted some in
          c.committed_spans_are_of_regions.ensures.committed s region.0 region.1 c.args.ep c.args.dpa region.2 region.3,
      λ lies.
          let region = c.committed_spans_are_of_regions.ensures.region s c.args.ep c.args.dpa system accepted c.requires.endpoint lies in
          returns-clause-spans c region.0 region.1 region.2 region.3,
    )
