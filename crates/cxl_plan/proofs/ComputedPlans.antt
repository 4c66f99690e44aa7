-- The plan that is stated in a window, as it is computed.
use Rattle.std.proofs.Common.{◌≡◌, ℕ, zero, suc, ◌+◌, ◌<◌, ◌≤◌, Bool, true, List, [], ◌∷◌, length, Option, Some, None, sym, ap, ◌∙◌, arith}
use Rattle.std.specs.Prelude.{slice_get, option_map, option_and_then, IsSomeAnd, if◌then◌else◌}
use Rattle.std.specs.List.{filter_map, range_with_len}
use Rattle.std.proofs.lemmas.Bool.{false≢true}
use Rattle.std.proofs.lemmas.Option.{same_Some, slice_get_within, option_and_then_some}
use Rattle.std.proofs.lemmas.List.FromFn.{length-range_with_len}
use Rattle.cxl_topo.specs.declared.node.Node.{Node}
use Rattle.cxl_topo.specs.Tree.{is_port_at, child_of, bridge_with}
use Rattle.cxl_window.specs.Fields.{WindowFields}
use Rattle.cxl_topo.proofs.Trees.{KnownTree, parent_is_port, endpoint_within, port_no_endpoint}
use Rattle.cxl_model.specs.declared.found.Place.{Place}
use Rattle.cxl_model.specs.declared.plan.Plan.{Plan}
use Rattle.cxl_model.specs.declared.request.Request.{Request}
use Rattle.cxl_model.specs.Regions.{target_position}
use Rattle.cxl_model.specs.System.{System}
use Rattle.cxl_legal.specs.Used.{request_ways}
use Rattle.cxl_legal.specs.Stated.{stated_start, planned_port, Reaches, at_endpoint, past_port, IsStatedPlace, IsStatedPlan}
use Rattle.cxl_plan.specs.Planned.{led_within, stated_place, stated_plan}
use Rattle.cxl_plan.proofs.FirstThere.{answers_of, number_at}

and_some : {A B : Type 0} (o : Option A) (f : A → Option B) (b : B) → IsSomeAnd o (λ x. f x ≡ Some b) → option_and_then f o ≡ Some b
and_some (Some x) f b is = is
and_some None f b is = absurd is

module _ (s : System) (known : KnownTree s.nodes) (request : Request) (w : WindowFields) where
  -- ---- places

  -- children come after their parents, so that there are more levels than nodes from here on
  led : (slot n m : ℕ) → Reaches s request w slot n m → (k : ℕ) → length s.nodes ≤ n + k → led_within k s request w slot n ≡ Some m
  led slot n m (at_endpoint _ endpoint) zero enough = let inside = endpoint_within s.nodes n endpoint in absurd (omega arith)
  led slot n m (at_endpoint _ endpoint) (suc k) enough =
      ap (λ (b : Bool). if b then Some n else option_and_then (led_within k s request w slot) (option_and_then (child_of s.nodes n) (planned_port s request w slot n))) endpoint
  led slot n m (past_port _ child _ port way rest) zero enough =
      let inside = port_inside s.nodes n port in
      absurd (omega arith)
    where
      port_inside : (nodes : List Node) (i : ℕ) → is_port_at nodes i ≡ true → i < length nodes
      port_inside [] i is = absurd (false≢true is)
      port_inside (x ∷ xs) zero is = omega arith
      port_inside (x ∷ xs) (suc i) is = let r = port_inside xs i is in omega arith
  led slot n m (past_port _ child _ port way rest) (suc k) enough =
      let low : n < child = option_and_then_some (child_of s.nodes n) (planned_port s request w slot n) child way
      (λ at _ here. (parent_is_port known child record { node = n; port = at } ((known.laws.children n at child).0 here)).0) in
      ap (λ (b : Bool). if b then Some n else option_and_then (led_within k s request w slot) (option_and_then (child_of s.nodes n) (planned_port s request w slot n)))
      (port_no_endpoint s.nodes n port)
      ∙ ap (option_and_then (led_within k s request w slot)) way
      ∙ led slot child m rest k (omega arith)

  place_told : (slot : ℕ) (place : Place) → IsStatedPlace s request w slot place → stated_place s request w slot ≡ Some place
  place_told slot place is =
      let at : option_and_then (bridge_with s.nodes) (slice_get w.targets (target_position w slot)) ≡ Some is.bridge =
      and_some (slice_get w.targets (target_position w slot)) (bridge_with s.nodes) is.bridge is.target in
      ap (λ (o : Option ℕ). option_map starting (option_and_then (led_within (length s.nodes) s request w slot) o)) at
      ∙ ap (option_map starting) (led slot is.bridge place.endpoint is.reaches (length s.nodes) (omega arith))
      ∙ ap (λ (n : ℕ). Some (record { endpoint = place.endpoint; start = n })) (sym is.start)
    where
      starting : ℕ → Place
      starting m = record { endpoint = m; start = stated_start s request m }

  -- ---- the plan

  pub plan_told : (base : ℕ) (plan : Plan) → IsStatedPlan s request w base plan → stated_plan s request w base ≡ plan
  plan_told base plan is =
      let name = sym is.name in
      let starts = sym is.starts in
      let size = sym is.size in
      let window = sym is.window in
      let code = sym is.code in
      let ways = sym is.ways in
      let kind = sym is.kind in
      let rows = sym is.rows in
      λ k. record {
        name = name k;
        found = record { base = starts k; size = size k; window = window k; gran = code k; ways = ways k; kind = kind k; spans = spans k };
        rows = rows k;
      }
    where
      spans : filter_map (stated_place s request w) (range_with_len 0 (request_ways request)) ≡ plan.found.spans
      spans =
          answers_of (stated_place s request w) (range_with_len 0 (request_ways request)) plan.found.spans (is.slots ∙ sym (length-range_with_len 0 (request_ways request)))
          (λ i slot place at there.
          let count = is.slots in
          let within = slice_get_within plan.found.spans i place there in
          let number : slice_get (range_with_len 0 (request_ways request)) i ≡ Some i = number_at 0 (request_ways request) i (omega arith) ∙ ap Some (omega arith) in
          let same : i ≡ slot = same_Some i slot (sym number ∙ at) in
          ap (stated_place s request w) (sym same) ∙ place_told i place (is.places i place there))
