-- What is found of a node is what is found of its block.
use Rattle.std.proofs.Common.{◌≡◌, ℕ, Option, Some, None, refl}
use Rattle.std.specs.Prelude.{◌↔◌, slice_get, IsNone, IfSome}
use Rattle.cxl_regs.specs.Registers.{Registers}
use Rattle.cxl_span.specs.declared.breach.BlockBreach.{BlockBreach}
use Rattle.cxl_span.specs.Breaches.{breaks, BlockKeeps, IsFirstBlockBreach}
use Rattle.cxl_model.specs.System.{System, ram_at, pmem_at}
use Rattle.cxl_model.specs.Accepted.{breaks_block}
use Rattle.cxl_check.specs.inner.Found.{IsFoundOfNode}

module _ (s : System) (n : ℕ) (block : Registers) (ram pmem : ℕ) (here : slice_get s.blocks n ≡ Some block) (ram_is : ram ≡ ram_at s n) (pmem_is : pmem ≡ pmem_at s n) where
  pub of_block : (rule i : ℕ) → breaks_block s rule n i ≡ breaks rule block ram pmem i
  of_block rule i = rw (here, ram_is, pmem_is) refl

  pub found_of_node : (found : Option BlockBreach) → IsNone found ↔ BlockKeeps block ram pmem → IfSome found (λ b. IsFirstBlockBreach block ram pmem b.rule b.decoder) → IsFoundOfNode (breaks_block s) n found
  found_of_node None none first = λ rule i. rw (of_block rule i) ((none.0 refl).each rule i)
  found_of_node (Some b) none first = record {
    broken = rw (of_block b.rule b.decoder) first.broken;
    rules = λ lower i below. rw (of_block lower i) (first.rules lower i below);
    decoders = λ lower below. rw (of_block b.rule lower) (first.decoders lower below);
  }
