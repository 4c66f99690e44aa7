-- The table of children, as they are entered one after the other.
use Rattle.std.proofs.Common.{◌≡◌, ℕ, ◌+◌, ◌*◌, ◌/◌, ◌%◌, ◌<◌, ◌≤◌, Bool, if◌then◌else◌, List, length, get_or, set, replicate, Option, Some, None, refl, sym, ap, subst, ◌∙◌, inl, inr, arith}
use Rattle.std.proofs.lemmas.Bool.{cases_lt, cases_eq, lt-ltb, le-ltb}
use Rattle.std.proofs.lemmas.List.{get_or-set_same, get_or-set_other, get_or-replicate, length-set, length-replicate}
use Rattle.std.proofs.lemmas.Option.{same_Some}
use Rattle.cxl_topo.specs.declared.node.Node.{Node}
use Rattle.cxl_topo.specs.declared.node.Parent.{Parent}
use Rattle.cxl_topo.specs.Tree.{parent_of, child_of}
use Rattle.cxl_topo.proofs.Trees.{KnownTree, parent_within}
use Rattle.cxl_check.specs.inner.Children.{if_below, AreEntered, AreAllChildren}

below_same : (b c : ℕ) → c < b → if_below b (Some c) ≡ Some c
below_same b c low = ap (λ (t : Bool). if t then Some c else None) (lt-ltb c b low)

above_none : (b c : ℕ) → b ≤ c → if_below b (Some c) ≡ None
above_none b c past = ap (λ (t : Bool). if t then Some c else None) (le-ltb c b past)

-- one number more tells no other child apart
below_more : (b : ℕ) (o : Option ℕ) → (o ≡ Some b → ⊥) → if_below (b + 1) o ≡ if_below b o
below_more b None other = refl
below_more b (Some c) other =
    elim (cases_lt c b) [
      | inl low ↦ below_same (b + 1) c (omega (arith, low)) ∙ sym (below_same b c low)
      | inr past ↦
          elim (cases_eq c b) [
            | inl same ↦ absurd (other (ap (λ (k : ℕ). Some k) same))
            | inr apart ↦ above_none (b + 1) c (omega (arith, past, apart)) ∙ sym (above_none b c past)
          ]
    ]

none_below : (o : Option ℕ) → None ≡ if_below 0 o
none_below None = refl
none_below (Some c) = sym (above_none 0 c (omega arith))

-- no child is entered at first
pub none_entered : (nodes : List Node) (count : ℕ) (children : List (Option ℕ)) → count ≡ 8 * length nodes → children ≡ replicate count None → AreEntered nodes 0 children
none_entered nodes count children whole is = record {
  count = ap length is ∙ length-replicate count None ∙ whole;
  each = λ k low.
      ap (λ (cs : List (Option ℕ)). get_or cs k None) is ∙ get_or-replicate count k None None (subst (λ (n : ℕ). k < n) (sym whole) low)
      ∙ none_below (child_of nodes (k / 8) (k % 8));
}

module _ (nodes : List Node) (known : KnownTree nodes) where
  -- a node that stands at no such port enters nothing
  pub none_more : (n : ℕ) (children : List (Option ℕ)) → AreEntered nodes n children → ((p : Parent) → parent_of nodes n ≡ Some p → 8 ≤ p.port) → AreEntered nodes (n + 1) children
  none_more n children entered far = record {
    count = entered.count;
    each = λ k low. entered.each k low ∙ sym (below_more n (child_of nodes (k / 8) (k % 8)) (λ is.
        let past = far (record { node = k / 8; port = k % 8 }) ((known.laws.children (k / 8) (k % 8) n).0 is) in
        omega (arith, past)));
  }

  -- another one its number
  pub one_more : (n : ℕ) (p : Parent) (old new : List (Option ℕ)) → AreEntered nodes n old → parent_of nodes n ≡ Some p → p.port < 8 → p.node < length nodes
      → new ≡ set old (8 * p.node + p.port) (Some n) → AreEntered nodes (n + 1) new
  one_more n p old new entered up near inside is = record {
    count = ap length is ∙ length-set old (8 * p.node + p.port) (Some n) ∙ entered.count;
    each = λ k low. ap (λ (cs : List (Option ℕ)). get_or cs k None) is ∙ here k low;
  }
    where
      place : ℕ
      place = 8 * p.node + p.port

      here : (k : ℕ) → k < 8 * length nodes → get_or (set old place (Some n)) k None ≡ if_below (n + 1) (child_of nodes (k / 8) (k % 8))
      here k low =
          elim (cases_eq k place) [
            | inl same ↦
                let node : k / 8 ≡ p.node = omega (arith, same, near) in
                let port : k % 8 ≡ p.port = omega (arith, same, near) in
                let child : child_of nodes (k / 8) (k % 8) ≡ Some n = ap (λ (m : ℕ). child_of nodes m (k % 8)) node ∙ ap (child_of nodes p.node) port ∙ (known.laws.children p.node p.port n).1 up in
                let wide : place < length old = omega (arith, entered.count, inside, near) in
                ap (λ (j : ℕ). get_or (set old place (Some n)) j None) same ∙ get_or-set_same old place (Some n) None wide
                ∙ sym (ap (if_below (n + 1)) child ∙ below_same (n + 1) n (omega arith))
            | inr other ↦
                get_or-set_other old place k (Some n) None other ∙ entered.each k low
                ∙ sym (below_more n (child_of nodes (k / 8) (k % 8)) (λ is.
                let same : p ≡ record { node = k / 8; port = k % 8 } = same_Some p (record { node = k / 8; port = k % 8 }) (sym up ∙ (known.laws.children (k / 8) (k % 8) n).0 is) in
                let node = ap (λ (q : Parent). q.node) same in
                let port = ap (λ (q : Parent). q.port) same in
                other (omega (arith, node, port))))
          ]

  -- in the end all are
  pub all_entered : (children : List (Option ℕ)) → AreEntered nodes (length nodes) children → AreAllChildren nodes children
  all_entered children entered = record {
    count = entered.count;
    each = λ k low. entered.each k low ∙ whole (k / 8) (k % 8) (child_of nodes (k / 8) (k % 8)) refl;
  }
    where
      whole : (m e : ℕ) (o : Option ℕ) → child_of nodes m e ≡ o → if_below (length nodes) o ≡ o
      whole m e None is = refl
      whole m e (Some c) is = below_same (length nodes) c (parent_within nodes c (record { node = m; port = e }) ((known.laws.children m e c).0 is))
