-- An image with other blocks of the same capability words.
use Rattle.std.proofs.Common.{◌≡◌, ℕ, [], Option, Some, ap, ◌≢◌, ◌<◌, refl, not, ◌&&◌, if◌then◌else◌, List, length, ◌∙◌, false, None, sym, subst, inl, inr, arith}
use Rattle.std.specs.Prelude.{slice_get, ◌==◌, option_map}
use Rattle.std.specs.Option.{option_map_or, option_eq}
use Rattle.std.proofs.lemmas.Bool.{ne_eqb, lt-ltb, cases_eq}
use Rattle.cxl_regs.specs.Registers.{Registers}
use Rattle.cxl_span.specs.Breaches.{BlockKeeps, breaks as block_breaks}
use Rattle.cxl_model.specs.System.{System, decoders_at, ram_at, pmem_at}
use Rattle.cxl_model.specs.Accepted.{breaks, breaks_block, breaks_caps, KeepsBlocks}

pub decoders_are : (s : System) (n : ℕ) (block : Registers) → slice_get s.blocks n ≡ Some block → decoders_at s n ≡ block.decoders
decoders_are s n block is = ap (λ (o : Option Registers). option_map_or (λ b. b.decoders) o []) is

pub block_rule : (s : System) (rule n i : ℕ) → rule ≢ 1 → rule < 9 → breaks s rule n i ≡ breaks_block s rule n i
unfolding breaks
block_rule s rule n i other high = rw (ne_eqb rule 1 other, lt-ltb rule 9 high) refl

caps_rule : (u : System) (n i : ℕ) → breaks u 1 n i ≡ breaks_caps u n i
unfolding breaks
caps_rule u n i = refl

-- K1 says the same of it
same_caps : (s : System) (blocks : List Registers) (n i : ℕ) → length blocks ≡ length s.blocks → option_map (λ (b : Registers). b.cap) (slice_get blocks n) ≡ option_map (λ (b : Registers). b.cap) (slice_get s.blocks n)
    → breaks_caps (record s { blocks = blocks }) n i ≡ breaks_caps s n i
same_caps s blocks n i long caps =
    ap (λ (m : ℕ). (i == 0) && (if m == length s.nodes
    then not (option_eq ◌==◌ (option_map (λ (b : Registers). b.cap) (slice_get blocks n)) (option_map (λ node. node.cap) (slice_get s.nodes n))) else n == 0)) long
    ∙ ap (λ (o : Option ℕ). (i == 0) && (if length s.blocks == length s.nodes
    then not (option_eq ◌==◌ o (option_map (λ node. node.cap) (slice_get s.nodes n))) else n == 0)) caps

-- K1 to K8 hold of an image where they hold of each block, and the capability words are those of an image of which they hold
pub keeps_again : (s : System) (blocks : List Registers) → KeepsBlocks s → length blocks ≡ length s.blocks
    → ((n : ℕ) → option_map (λ (b : Registers). b.cap) (slice_get blocks n) ≡ option_map (λ (b : Registers). b.cap) (slice_get s.blocks n))
    → ((n : ℕ) (block : Registers) → slice_get blocks n ≡ Some block → BlockKeeps block (ram_at s n) (pmem_at s n)) → KeepsBlocks (record s { blocks = blocks })
keeps_again s blocks keeps long caps each = λ rule n i low. elim (cases_eq rule 1) [ inl e ↦ subst (λ (r : ℕ). breaks t r n i ≡ false) (sym e) (first n i) | inr other ↦ later rule n i other low ]
  where
    t : System
    t = record s { blocks = blocks }

    first : (n i : ℕ) → breaks t 1 n i ≡ false
    first n i = caps_rule t n i ∙ same_caps s blocks n i long (caps n) ∙ sym (caps_rule s n i) ∙ keeps 1 n i (omega arith)

    later : (rule n i : ℕ) → rule ≢ 1 → rule < 9 → breaks t rule n i ≡ false
    later rule n i other low = block_rule t rule n i other low ∙ go (slice_get blocks n) refl
      where
        go : (o : Option Registers) → slice_get blocks n ≡ o → option_map_or (λ b. block_breaks rule b (ram_at s n) (pmem_at s n) i) o false ≡ false
        go None is = refl
        go (Some block) is = (each n block is).each rule i
