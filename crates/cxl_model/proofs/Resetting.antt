-- Hosts after reset: no decoder is committed, and none breaks a rule.
use Rattle.std.proofs.Common.{◌≡◌, ℕ, zero, suc, Bool, true, false, ◌&&◌, List, [], ◌∷◌, Option, Some, None, refl, sym, ap, subst}
use Rattle.std.specs.Prelude.{slice_get, nat_lt, ◌==◌, if◌then◌else◌, not, replicate}
use Rattle.std.specs.Option.{option_map_or}
use Rattle.std.proofs.lemmas.Option.{none-some, same_Some}
use Rattle.cxl_enc.specs.Caps.{decoders_code, decoders_of}
use Rattle.cxl_image.specs.Images.{reset_blocks, reset_block_of}
use Rattle.cxl_model.specs.Accepted.{breaks, breaks_at, IsAccepted}
use Rattle.cxl_model.specs.Rules.{keeps_window, keeps_targets, keeps_reach, keeps_ways}
use Rattle.cxl_model.specs.System.{System, system_of, decoder_at, ram_at, pmem_at}
use Rattle.cxl_regs.specs.Registers.{Registers, reset_decoder}
use Rattle.cxl_regs.specs.Rules.{before as below}
use Rattle.cxl_regs.specs.declared.decoder.Decoder.{Decoder}
use Rattle.cxl_span.specs.Breaches.{breaks as block_breaks}
use Rattle.cxl_span.specs.Rules.{breaks_rule}
use Rattle.cxl_span.specs.Spans.{span_start_of}
use Rattle.cxl_topo.specs.Tree.{Tree}
use Rattle.cxl_topo.specs.declared.node.Node.{Node}
use Rattle.cxl_window.specs.Fields.{WindowFields}

-- ---- tests that fail

or_none : {A : Type 0} (test : A → Bool) (some : Option A) → ((x : A) → some ≡ Some x → test x ≡ false) → option_map_or test some false ≡ false
or_none test None each = refl
or_none test (Some x) each = each x refl

none_of : (b x y : Bool) → x ≡ false → y ≡ false → (if b then x else y) ≡ false
none_of true x y first second = first
none_of false x y first second = second

not_at : (b x : Bool) → (b && false && x) ≡ false
not_at true x = refl
not_at false x = refl

-- ---- decoders after reset

same_item : {A : Type 0} (k i : ℕ) (x y : A) → slice_get (replicate k x) i ≡ Some y → y ≡ x
same_item zero zero x y e = absurd (none-some y e)
same_item zero (suc i) x y e = absurd (none-some y e)
same_item (suc k) zero x y e = sym (same_Some x y e)
same_item (suc k) (suc i) x y e = same_item k i x y e

keeps_each : (rule : ℕ) (block : Registers) (ram pmem : ℕ) (below : Option Decoder) (start : ℕ) → breaks_rule rule block ram pmem below start reset_decoder ≡ false
keeps_each rule block ram pmem below start =
    none_of (rule == 2) _ _ refl
    (none_of (rule == 3) _ _ refl
    (none_of (rule == 4) _ _ refl
    (none_of (rule == 5) _ _ refl
    (none_of (rule == 6) _ _ refl
    (none_of (rule == 7) _ _ refl
    (none_of (rule == 8) _ _ (not_at block.endpoint _) refl))))))

-- every decoder is as after reset
pub record IsReset (block : Registers) : Type 0 where
  pub count : ℕ
  pub each : block.decoders ≡ replicate count reset_decoder

reset_at : (block : Registers) (i : ℕ) (d : Decoder) → IsReset block → slice_get block.decoders i ≡ Some d → d ≡ reset_decoder
reset_at block i d is there = same_item is.count i reset_decoder d (subst (λ ds. slice_get ds i ≡ Some d) is.each there)

keeps_block : (rule : ℕ) (block : Registers) (ram pmem i : ℕ) → IsReset block → block_breaks rule block ram pmem i ≡ false
unfolding block_breaks
keeps_block rule block ram pmem i is =
    or_none (breaks_rule rule block ram pmem (below block.decoders i) (span_start_of block.decoders i)) (slice_get block.decoders i)
    (λ d there. subst (λ (e : Decoder). breaks_rule rule block ram pmem (below block.decoders i) (span_start_of block.decoders i) e ≡ false) (sym (reset_at block i d is there)) (keeps_each rule block ram pmem (below block.decoders i) (span_start_of block.decoders i)))

-- ---- hosts after reset

reset_blocks_are : (nodes : List Node) (n : ℕ) (block : Registers) → slice_get (reset_blocks nodes) n ≡ Some block → IsReset block
reset_blocks_are [] zero block there = absurd (none-some block there)
reset_blocks_are [] (suc n) block there = absurd (none-some block there)
reset_blocks_are (node ∷ nodes) zero block there =
    subst IsReset (same_Some (reset_block_of node) block there) (record { count = decoders_of (decoders_code node.cap); each = refl })
reset_blocks_are (node ∷ nodes) (suc n) block there = reset_blocks_are nodes n block there

module _ (s : System) (fresh : (n : ℕ) (block : Registers) → slice_get s.blocks n ≡ Some block → IsReset block) where
  reset_decoders : (n i : ℕ) (d : Decoder) → (some : Option Registers) → slice_get s.blocks n ≡ some → slice_get (option_map_or (λ block. block.decoders) some []) i ≡ Some d → d ≡ reset_decoder
  reset_decoders n zero d None is there = absurd (none-some d there)
  reset_decoders n (suc i) d None is there = absurd (none-some d there)
  reset_decoders n i d (Some block) is there = reset_at block i d (fresh n block is) there

  keeps_at : (n i : ℕ) (keeps : Decoder → Bool) → breaks_at s n i keeps ≡ false
  keeps_at n i keeps =
      or_none (λ d. d.committed && not (keeps d)) (decoder_at s n i)
      (λ d there. ap (λ (e : Decoder). e.committed && not (keeps e)) (reset_decoders n i d (slice_get s.blocks n) refl there))

  pub none_broken : ((n i : ℕ) → breaks s 1 n i ≡ false) → (rule n i : ℕ) → breaks s rule n i ≡ false
  unfolding breaks
  none_broken caps rule n i =
      none_of (rule == 1) _ _ (caps n i)
      (none_of (nat_lt rule 9) _ _ (or_none _ (slice_get s.blocks n) (λ block there. keeps_block rule block (ram_at s n) (pmem_at s n) i (fresh n block there)))
      (none_of (rule == 9) _ _ (keeps_at n i (keeps_window s n i))
      (none_of (rule == 10) _ _ (keeps_at n i (keeps_targets s n))
      (none_of (rule == 11) _ _ (keeps_at n i (keeps_reach s n))
      (none_of (rule == 12) _ _ (keeps_at n i (keeps_ways s n i)) refl)))))

pub reset-accepted : (tree : Tree) (windows : List WindowFields) → ((n i : ℕ) → breaks (system_of (reset_blocks tree.nodes) tree windows) 1 n i ≡ false) → IsAccepted (system_of (reset_blocks tree.nodes) tree windows)
reset-accepted tree windows caps =
    record { each = none_broken (system_of (reset_blocks tree.nodes) tree windows) (reset_blocks_are tree.nodes) caps }
