-- Where K1 holds, a host is a system, and K1 holds of each system.
use Rattle.std.proofs.Common.{◌≡◌, ℕ, zero, suc, ◌<◌, Bool, true, false, not, ◌&&◌, List, [], ◌∷◌, length, Some, refl, sym, subst, ◌∙◌, inl, inr, arith}
use Rattle.std.specs.Prelude.{slice_get, ◌==◌, nat_lt}
use Rattle.std.proofs.lemmas.Bool.{and_parts, eqb-true, eq-eqb, cases_Bool, cases_lt, false≢true}
use Rattle.std.proofs.lemmas.Option.{get_or_from_slice_get, slice_get_within, slice_get_past}
use Rattle.cxl_enc.specs.Caps.{is_legal_cap, has_named_bits, targets_of, is_target_count}
use Rattle.cxl_topo.specs.declared.node.Node.{Node}
use Rattle.cxl_topo.specs.Kinds.{is_endpoint}
use Rattle.cxl_regs.specs.Registers.{Registers, IsBlock}
use Rattle.cxl_model.specs.System.{System, IsSystem}
use Rattle.cxl_model.specs.Hosts.{IsHost}
use Rattle.cxl_window.specs.Fields.{WindowFields}
use Rattle.cxl_model.specs.declared.found.Found.{Found}
use Rattle.cxl_model.specs.Accepted.{breaks, breaks_caps}
use Rattle.cxl_model.specs.Regions.{IsRegionIn}

-- no targets are no number of targets that a port has
some_targets : (n : ℕ) → (n == 0) ≡ true → is_target_count n ≡ true → ⊥
some_targets n none some = false≢true (rw (eqb-true n 0 none) at some)

-- a word is legal for an endpoint or for a port, and not for both
not_both : (cap : ℕ) → is_legal_cap cap true ≡ true → is_legal_cap cap false ≡ true → ⊥
not_both cap p q =
    some_targets (targets_of cap) (and_parts (has_named_bits cap) (targets_of cap == 0) p).1
    (and_parts (is_target_count (targets_of cap)) (nat_lt cap 2048) (and_parts (has_named_bits cap) (is_target_count (targets_of cap) && nat_lt cap 2048) q).1).0

one_kind : (cap : ℕ) (a b : Bool) → is_legal_cap cap a ≡ true → is_legal_cap cap b ≡ true → a ≡ b
one_kind cap true true p q = refl
one_kind cap false false p q = refl
one_kind cap true false p q = absurd (not_both cap p q)
one_kind cap false true p q = absurd (not_both cap q p)

module _ (s : System) where
  as_caps : (n i : ℕ) → breaks s 1 n i ≡ breaks_caps s n i
  unfolding breaks
  as_caps n i = refl

  count_differs : (length s.blocks == length s.nodes) ≡ false → breaks_caps s 0 0 ≡ true
  count_differs differ = rw differ refl

  count_kept : breaks_caps s 0 0 ≡ false → length s.blocks ≡ length s.nodes
  count_kept kept =
      elim (cases_Bool (length s.blocks == length s.nodes)) [
        | inl same ↦ eqb-true (length s.blocks) (length s.nodes) same
        | inr differ ↦ absurd (false≢true (sym kept ∙ count_differs differ))
      ]

  not_equal : (a b : ℕ) → not (a == b) ≡ false → a ≡ b
  not_equal a b kept =
      elim (cases_Bool (a == b)) [
        | inl same ↦ eqb-true a b same
        | inr differ ↦ absurd (false≢true (sym kept ∙ rw differ refl))
      ]

  word_kept : (n : ℕ) (block : Registers) (node : Node) → length s.blocks ≡ length s.nodes → slice_get s.blocks n ≡ Some block → slice_get s.nodes n ≡ Some node
      → breaks_caps s n 0 ≡ false → block.cap ≡ node.cap
  word_kept n block node count here there kept =
      not_equal block.cap node.cap (rw (eq-eqb (length s.blocks) (length s.nodes) count, here, there) at kept)

  pub system : IsHost s → ((n i : ℕ) → breaks s 1 n i ≡ false) → IsSystem s
  system host kept =
      let caps : (n i : ℕ) → breaks_caps s n i ≡ false = λ n i. sym (as_caps n i) ∙ kept n i in
      let count = count_kept (caps 0 0) in
      record {
        tree = host.tree;
        blocks = host.blocks;
        caps = record {
          count = count;
          each = λ n block node here there.
              let same = word_kept n block node count here there (caps n 0) in
              record {
                cap = same;
                endpoint = one_kind node.cap block.endpoint (is_endpoint node.kind)
                    (subst (λ (cap : ℕ). is_legal_cap cap block.endpoint ≡ true) same (block_at n block here).cap)
                    (host.tree.caps n node there);
              };
        };
        made = host.made;
      }
    where
      block_at : (n : ℕ) (block : Registers) → slice_get s.blocks n ≡ Some block → IsBlock block
      block_at n block here = subst IsBlock (get_or_from_slice_get s.blocks n block block here) (host.blocks n block (slice_get_within s.blocks n block here))

  pub host : IsSystem s → IsHost s
  host system = record { tree = system.tree; blocks = system.blocks; made = system.made }

  pub caps : (n i : ℕ) → IsSystem s → breaks s 1 n i ≡ false
  caps n i system =
      as_caps n i
      ∙ elim (cases_lt n (length s.nodes)) [
        | inl below ↦
            let node = item s.nodes n below in
            let block = item s.blocks n (omega (arith, system.caps.count)) in
            let same = (system.caps.each n block.0 node.0 block.1 node.1).cap in
            rw (eq-eqb (length s.blocks) (length s.nodes) system.caps.count, block.1, node.1, eq-eqb block.0.cap node.0.cap same) (and_false (i == 0))
        | inr past ↦
            rw (eq-eqb (length s.blocks) (length s.nodes) system.caps.count, slice_get_past s.nodes n past, slice_get_past s.blocks n (omega (arith, system.caps.count))) (and_false (i == 0))
      ]
    where
      and_false : (b : Bool) → (b && false) ≡ false
      and_false true = refl
      and_false false = refl

      item : {X : Type 0} (xs : List X) (i : ℕ) → i < length xs → (x : X) × (slice_get xs i ≡ Some x)
      item [] i lt = absurd (omega arith)
      item (x ∷ xs) zero lt = (x, refl)
      item (x ∷ xs) (suc i) lt = item xs i (omega arith)

-- an image that has a region is a system
pub region_system : (s : System) (w : WindowFields) (found : Found) → IsHost s → IsRegionIn s w found → IsSystem s
region_system s w found host region = system s host (λ n i. region.whole.blocks 1 n i (omega (arith)))
