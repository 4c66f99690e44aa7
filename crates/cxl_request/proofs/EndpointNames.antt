-- The endpoints that a line names are endpoints, and as many as its names where each name is one's.
use Rattle.std.proofs.Common.{◌≡◌, ℕ, suc, ◌≤◌, true, false, ◌&&◌, if◌then◌else◌, List, [], ◌∷◌, length, Option, Some, None, refl, ap, ◌∙◌, arith}
use Rattle.std.specs.Prelude.{All, is_none}
use Rattle.std.specs.Option.{option_map_or}
use Rattle.std.specs.List.{filter_map, cons_option}
use Rattle.std.proofs.lemmas.List.Elements.{All-nil, All-cons}
use Rattle.std.proofs.lemmas.Bool.{and_parts}
use Rattle.cxl_topo.specs.declared.node.Node.{Node}
use Rattle.cxl_topo.specs.Kinds.{is_endpoint}
use Rattle.cxl_topo.specs.Tree.{is_endpoint_at, is_named, endpoint_named}
use Rattle.cxl_topo.proofs.Earlier.{finds}
use Rattle.cxl_request.specs.Endpoints.{endpoints_named, first_unknown}

-- ---- the endpoints of a line

-- each of them is an endpoint
some_named : (nodes : List Node) (name : List ℕ) (n : ℕ) → endpoint_named nodes name ≡ Some n → is_endpoint_at nodes n ≡ true
some_named nodes name n is =
    let own = finds (λ (node : Node). is_endpoint node.kind && is_named name node) nodes n is in
    ap (λ (o : Option Node). option_map_or (λ (node : Node). is_endpoint node.kind) o false) own.there
    ∙ (and_parts (is_endpoint own.node.kind) (is_named name own.node) own.passes).0

cons_named : (nodes : List Node) (called : Option ℕ) (rest : List ℕ) → ((m : ℕ) → called ≡ Some m → is_endpoint_at nodes m ≡ true) → All (λ m. is_endpoint_at nodes m ≡ true) rest → All (λ m. is_endpoint_at nodes m ≡ true) (cons_option called rest)
cons_named nodes None rest one each = each
cons_named nodes (Some m) rest one each = All-cons (λ k. is_endpoint_at nodes k ≡ true) m rest (one m refl) each

pub are_endpoints : (nodes : List Node) (names : List (List ℕ)) → All (λ m. is_endpoint_at nodes m ≡ true) (filter_map (endpoint_named nodes) names)
are_endpoints nodes [] = All-nil (λ k. is_endpoint_at nodes k ≡ true)
are_endpoints nodes (name ∷ names) =
    cons_named nodes (endpoint_named nodes name) (filter_map (endpoint_named nodes) names) (some_named nodes name) (are_endpoints nodes names)

-- ---- the names of a line

-- there are no more of them than names
few_named : (nodes : List Node) (names : List (List ℕ)) → length (endpoints_named nodes names) ≤ length names
few_named nodes [] = omega arith
few_named nodes (name ∷ names) = step (endpoint_named nodes name) (few_named nodes names)
  where
    step : (called : Option ℕ) → length (endpoints_named nodes names) ≤ length names → length (cons_option called (endpoints_named nodes names)) ≤ suc (length names)
    step None few = omega (arith, few)
    step (Some m) few = omega (arith, few)

-- where there are as many, each name is an endpoint's
pub none_unknown : (nodes : List Node) (names : List (List ℕ)) → length (endpoints_named nodes names) ≡ length names → None ≡ first_unknown nodes names
none_unknown nodes [] as_many = refl
none_unknown nodes (name ∷ names) as_many = step (endpoint_named nodes name) (few_named nodes names) (λ long. none_unknown nodes names long) as_many
  where
    step : (called : Option ℕ) → length (endpoints_named nodes names) ≤ length names → (length (endpoints_named nodes names) ≡ length names → None ≡ first_unknown nodes names)
        → length (cons_option called (endpoints_named nodes names)) ≡ suc (length names) → None ≡ (if is_none called then Some name else first_unknown nodes names)
    step None few rest long = absurd (omega (arith, few, long))
    step (Some m) few rest long = rest (omega (arith, long))
