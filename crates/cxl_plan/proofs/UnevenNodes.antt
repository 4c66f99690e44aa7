-- The parts of the test whether the endpoints lie unevenly under a node.
use Rattle.std.proofs.Common.{◌≡◌, ℕ, suc, ◌<◌, Bool, true, false, not, ◌&&◌, ◌||◌, List, [], ◌∷◌, length, get_or, Option, Some, None, refl, sym, ap, ◌∙◌, inl, inr, arith}
use Rattle.std.specs.Prelude.{◌==◌, nat_le, option_map}
use Rattle.std.specs.Option.{option_map_or}
use Rattle.std.specs.List.{All, list_all}
use Rattle.std.proofs.lemmas.Bool.{cases_Bool, and_parts, false≢true}
use Rattle.cxl_enc.specs.Caps.{targets_of, is_target_count}
use Rattle.cxl_topo.specs.declared.node.Node.{Node}
use Rattle.cxl_topo.specs.Tree.{is_endpoint_at, is_port_at, is_bridge_at}
use Rattle.cxl_topo.proofs.Trees.{port_no_endpoint}
use Rattle.cxl_model.specs.declared.request.Request.{Request}
use Rattle.cxl_legal.specs.Used.{is_used, is_port_used, count_under, count_at_port}
use Rattle.cxl_legal.specs.Endpoints.{cap_at, has_bridge_share, first_bridge}
use Rattle.cxl_plan.specs.inner.Uses.{tree_alone, ports_at}
use Rattle.cxl_plan.specs.inner.Judging.{uneven_at, even_at, same_at}
use Rattle.cxl_plan.proofs.Tables.{used_inside}

all_cong : (p q : ℕ → Bool) (xs : List ℕ) → All (λ x. p x ≡ q x) xs → list_all p xs ≡ list_all q xs
all_cong p q [] same = refl
all_cong p q (x ∷ xs) same =
    let here : p x ≡ q x = same 0 0 (omega arith) in
    let rest = all_cong p q xs (λ k d below. same (suc k) d (omega arith)) in
    rw (here, rest) refl

same_lists : (f g : ℕ → ℕ) (xs : List ℕ) → All (λ x. f x ≡ g x) xs → list_all (λ p. list_all (λ o. f p == f o) xs) xs ≡ list_all (λ p. list_all (λ o. g p == g o) xs) xs
same_lists f g xs same =
    all_cong (λ p. list_all (λ o. f p == f o) xs) (λ p. list_all (λ o. g p == g o) xs) xs
    (λ k d below. all_cong (λ o. f (get_or xs k d) == f o) (λ o. g (get_or xs k d) == g o) xs
    (λ j e within. ap (λ (m : ℕ). m == f (get_or xs j e)) (same k d below) ∙ ap (λ (m : ℕ). g (get_or xs k d) == m) (same j e within)))

module _ (nodes : List Node) (request : Request) (n : ℕ) where
  uneven_parts : Bool → Bool → Bool → Bool → Bool → Bool
  uneven_parts port used even same shared = port && used && not (even && same && shared)

  uneven_is : uneven_at nodes request n ≡ uneven_parts (is_port_at nodes n) (is_used (tree_alone nodes) request n) (even_at nodes request n) (same_at nodes request n) (has_bridge_share (tree_alone nodes) request n)
  unfolding uneven_at even_at same_at uneven_parts
  uneven_is = refl

  pub uneven_used : uneven_at nodes request n ≡ true → is_used (tree_alone nodes) request n ≡ true
  unfolding uneven_parts
  uneven_used uneven =
      let parts = and_parts (is_port_at nodes n && is_used (tree_alone nodes) request n) (not (even_at nodes request n && same_at nodes request n && has_bridge_share (tree_alone nodes) request n)) (sym uneven_is ∙ uneven) in
      (and_parts (is_port_at nodes n) (is_used (tree_alone nodes) request n) parts.0).1

  -- an endpoint is not
  pub uneven_endpoint : is_endpoint_at nodes n ≡ true → uneven_at nodes request n ≡ false
  unfolding uneven_parts
  uneven_endpoint endpoint =
      elim (cases_Bool (is_port_at nodes n)) [
        | inl port ↦ absurd (false≢true (sym (port_no_endpoint nodes n port) ∙ endpoint))
        | inr other ↦ uneven_is ∙ ap (λ (b : Bool). uneven_parts b (is_used (tree_alone nodes) request n) (even_at nodes request n) (same_at nodes request n) (has_bridge_share (tree_alone nodes) request n)) other
      ]

  with_true : (p : Bool) → p ≡ (p && true)
  with_true true = refl
  with_true false = refl

  pub uneven_tested : is_used (tree_alone nodes) request n ≡ true → (port even same shared : Bool) → port ≡ is_port_at nodes n → even ≡ even_at nodes request n → same ≡ same_at nodes request n
      → shared ≡ has_bridge_share (tree_alone nodes) request n → (port && not (even && same && shared)) ≡ uneven_at nodes request n
  unfolding uneven_parts
  uneven_tested used port even same shared p e s h =
      ap (λ (b : Bool). b && not (even && same && shared)) (with_true port)
      ∙ ap (λ (b : Bool). port && b && not (even && same && shared)) (sym used)
      ∙ ap (λ (b : Bool). b && is_used (tree_alone nodes) request n && not (even && same && shared)) p
      ∙ ap (λ (b : Bool). is_port_at nodes n && is_used (tree_alone nodes) request n && not (b && same && shared)) e
      ∙ ap (λ (b : Bool). is_port_at nodes n && is_used (tree_alone nodes) request n && not (even_at nodes request n && b && shared)) s
      ∙ ap (λ (b : Bool). is_port_at nodes n && is_used (tree_alone nodes) request n && not (even_at nodes request n && same_at nodes request n && b)) h
      ∙ sym uneven_is

  pub even_tested : (ports : List ℕ) (cap : ℕ) → ports ≡ ports_at nodes request n → cap ≡ cap_at (tree_alone nodes) n → (is_target_count (length ports) && nat_le (length ports) (targets_of cap)) ≡ even_at nodes request n
  unfolding even_at ports_at
  even_tested ports cap is own =
      ap (λ (xs : List ℕ). is_target_count (length xs) && nat_le (length xs) (targets_of cap)) is
      ∙ ap (λ (m : ℕ). is_target_count (length (ports_at nodes request n)) && nat_le (length (ports_at nodes request n)) (targets_of m)) own

  pub ports_bytes : All (λ p. p < 256) (ports_at nodes request n)
  unfolding ports_at
  ports_bytes = used_inside (is_port_used (tree_alone nodes) request n) 0 256

  pub same_tested : (ports at : List ℕ) → ports ≡ ports_at nodes request n → ((port : ℕ) → port < 256 → get_or at port 0 ≡ count_at_port (tree_alone nodes) request n port)
      → list_all (λ p. list_all (λ o. get_or at p 0 == get_or at o 0) ports) ports ≡ same_at nodes request n
  unfolding same_at ports_at
  same_tested ports at is known =
      ap (λ (xs : List ℕ). list_all (λ p. list_all (λ o. get_or at p 0 == get_or at o 0) xs) xs) is
      ∙ same_lists (λ p. get_or at p 0) (count_at_port (tree_alone nodes) request n) (ports_at nodes request n) (λ k d below. known (get_or (ports_at nodes request n) k d) (ports_bytes k d below))

  pub share_tested : (bridge : Bool) (count : ℕ) (share : Option ℕ) → bridge ≡ is_bridge_at nodes n → count ≡ count_under (tree_alone nodes) request n → share ≡ option_map (count_under (tree_alone nodes) request) (first_bridge (tree_alone nodes) request)
      → (not bridge || option_map_or (λ first. count == first) share true) ≡ has_bridge_share (tree_alone nodes) request n
  share_tested bridge count share b c s =
      ap (λ (x : Bool). not x || option_map_or (λ first. count == first) share true) b
      ∙ ap (λ (m : ℕ). not (is_bridge_at nodes n) || option_map_or (λ first. m == first) share true) c
      ∙ ap (λ (o : Option ℕ). not (is_bridge_at nodes n) || option_map_or (λ first. count_under (tree_alone nodes) request n == first) o true) s
      ∙ ap (λ (x : Bool). not (is_bridge_at nodes n) || x) (mapped (count_under (tree_alone nodes) request n) (first_bridge (tree_alone nodes) request))
    where
      mapped : (m : ℕ) (o : Option ℕ) → option_map_or (λ first. m == first) (option_map (count_under (tree_alone nodes) request) o) true ≡ option_map_or (λ first. m == count_under (tree_alone nodes) request first) o true
      mapped m None = refl
      mapped m (Some b) = refl

  -- a used port that is not uneven has 1, 2, 4 or 8 used ports
  pub even_of : is_used (tree_alone nodes) request n ≡ true → is_port_at nodes n ≡ true → uneven_at nodes request n ≡ false → is_target_count (length (ports_at nodes request n)) ≡ true
  even_of used port fails =
      elim (cases_Bool (is_target_count (length (ports_at nodes request n)))) [
        | inl is ↦ is
        | inr is_not ↦
            let uneven : (is_target_count (length (ports_at nodes request n)) && nat_le (length (ports_at nodes request n)) (targets_of (cap_at (tree_alone nodes) n))) ≡ even_at nodes request n =
            even_tested (ports_at nodes request n) (cap_at (tree_alone nodes) n) refl refl in
            let no_even : even_at nodes request n ≡ false = sym uneven ∙ ap (λ (b : Bool). b && nat_le (length (ports_at nodes request n)) (targets_of (cap_at (tree_alone nodes) n))) is_not in
            absurd (false≢true (sym fails ∙ sym (uneven_tested used true false (same_at nodes request n) (has_bridge_share (tree_alone nodes) request n) (sym port) (sym no_even) refl refl)))
      ]
