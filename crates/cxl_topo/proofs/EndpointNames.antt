-- The endpoint of a name is the node of that name, where that is one.
use Rattle.std.proofs.Common.{◌≡◌, ℕ, ◌↔◌, true, false, ◌&&◌, List, Option, Some, None, option_map, is_some, refl, sym, ap, ◌∙◌}
use Rattle.std.specs.Prelude.{slice_get}
use Rattle.std.specs.Option.{option_map_or}
use Rattle.std.proofs.lemmas.Bool.{false≢true, and_parts, and_from}
use Rattle.std.proofs.lemmas.Option.{none-some, same_Some}
use Rattle.std.proofs.lemmas.Slice.Eq.{bytes_eq-Decides}
use Rattle.cxl_topo.specs.declared.node.Node.{Node}
use Rattle.cxl_topo.specs.Kinds.{is_endpoint}
use Rattle.cxl_topo.specs.Tree.{is_endpoint_at, is_named, name_at, endpoint_named}
use Rattle.cxl_topo.proofs.Earlier.{finds, found}

module _ (nodes : List Node) (name : List ℕ) where
  -- a node of this name
  record IsNamed (i : ℕ) : Type 0 where
    node : Node
    there : slice_get nodes i ≡ Some node
    is : node.name ≡ name

  named : (i : ℕ) → name_at nodes i ≡ Some name → IsNamed i
  named i at = go (slice_get nodes i) refl at
    where
      go : (o : Option Node) → slice_get nodes i ≡ o → option_map (λ (node : Node). node.name) o ≡ Some name → IsNamed i
      go None there at = absurd (none-some name at)
      go (Some node) there at = record { node = node; there = there; is = same_Some node.name name at }

  module _ (o : Option ℕ) (is : (i : ℕ) → (o ≡ Some i) ↔ (name_at nodes i ≡ Some name)) where
    -- what is found has the name, and is an endpoint
    there : (j : ℕ) → endpoint_named nodes name ≡ Some j → (o ≡ Some j) × (is_endpoint_at nodes j ≡ true)
    there j at =
        let own = finds (λ (node : Node). is_endpoint node.kind && is_named name node) nodes j at in
        let parts = and_parts (is_endpoint own.node.kind) (is_named name own.node) own.passes in (
          (is j).1 (ap (option_map (λ (node : Node). node.name)) own.there ∙ ap Some ((bytes_eq-Decides own.node.name name).0 parts.1)),
          ap (λ (n : Option Node). option_map_or (λ (node : Node). is_endpoint node.kind) n false) own.there ∙ parts.0,
        )

    pub endpoint_none : o ≡ None → None ≡ endpoint_named nodes name
    endpoint_none none = go (endpoint_named nodes name) refl
      where
        go : (e : Option ℕ) → endpoint_named nodes name ≡ e → None ≡ e
        go None at = refl
        go (Some j) at = absurd (none-some j (sym none ∙ (there j at).0))

    pub endpoint_other : (i : ℕ) → o ≡ Some i → is_endpoint_at nodes i ≡ false → None ≡ endpoint_named nodes name
    endpoint_other i at other = go (endpoint_named nodes name) refl
      where
        go : (e : Option ℕ) → endpoint_named nodes name ≡ e → None ≡ e
        go None here = refl
        go (Some j) here =
            let own = there j here in
            let same : i ≡ j = same_Some i j (sym at ∙ own.0) in
            absurd (false≢true (sym other ∙ ap (is_endpoint_at nodes) same ∙ own.1))

    pub endpoint_is : (i : ℕ) → o ≡ Some i → is_endpoint_at nodes i ≡ true → Some i ≡ endpoint_named nodes name
    endpoint_is i at kept = go (endpoint_named nodes name) refl some
      where
        one : IsNamed i
        one = named i ((is i).0 at)

        kind : is_endpoint one.node.kind ≡ true
        kind = sym (ap (λ (n : Option Node). option_map_or (λ (node : Node). is_endpoint node.kind) n false) one.there) ∙ kept

        some : is_some (endpoint_named nodes name) ≡ true
        some =
            found (λ (node : Node). is_endpoint node.kind && is_named name node) nodes i one.node one.there
            (and_from (is_endpoint one.node.kind) (is_named name one.node) kind ((bytes_eq-Decides one.node.name name).1 one.is))

        go : (e : Option ℕ) → endpoint_named nodes name ≡ e → is_some e ≡ true → Some i ≡ e
        go None here lacks = absurd (false≢true lacks)
        go (Some j) here has = sym at ∙ (there j here).0
