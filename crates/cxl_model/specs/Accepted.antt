-- Which images are accepted, and what is the first breach of others (this project's rules).
use Rattle.std.specs.Prelude.{◌≡◌, ℕ, ◌<◌, ◌≤◌, ◌==◌, nat_lt, ◌&&◌, not, Bool, true, false, if◌then◌else◌, length, slice_get, Some, option_map}
use Rattle.std.specs.Option.{option_map_or, option_eq}
use Rattle.cxl_regs.specs.declared.decoder.Decoder.{Decoder}
use Rattle.cxl_regs.specs.declared.reading.Range.{Range}
use Rattle.cxl_regs.specs.Reading.{has_range}
use Rattle.cxl_span.specs.Breaches.{breaks as block_breaks}
use Rattle.cxl_model.specs.System.{System, IsSystem, decoder_at, ram_at, pmem_at}
use Rattle.cxl_model.specs.Rules.{keeps_window, keeps_targets, keeps_reach, keeps_ways}

-- K1: one block for each node, with its capability word; where the number differs node 0 is named, and decoder 0 in either case
abbrev pub breaks_caps : System → ℕ → ℕ → Bool
breaks_caps s n i =
    (i == 0)
    && (if length s.blocks == length s.nodes
    then not (option_eq ◌==◌ (option_map (λ block. block.cap) (slice_get s.blocks n)) (option_map (λ node. node.cap) (slice_get s.nodes n)))
    else n == 0)

-- K2 to K8, of the node's own block
abbrev pub breaks_block : System → ℕ → ℕ → ℕ → Bool
breaks_block s rule n i = option_map_or (λ block. block_breaks rule block (ram_at s n) (pmem_at s n) i) (slice_get s.blocks n) false

-- a committed decoder that does not keep a rule
abbrev pub breaks_at : System → ℕ → ℕ → (Decoder → Bool) → Bool
breaks_at s n i keeps = option_map_or (λ d. d.committed && not (keeps d)) (decoder_at s n i) false

-- decoder i of node n breaks the rule of this number, from 1 to 12
unfoldable pub breaks : System → ℕ → ℕ → ℕ → Bool
breaks s rule n i =
    if rule == 1 then breaks_caps s n i
    else (if nat_lt rule 9 then breaks_block s rule n i
    else (if rule == 9 then breaks_at s n i (keeps_window s n i)
    else (if rule == 10 then breaks_at s n i (keeps_targets s n)
    else (if rule == 11 then breaks_at s n i (keeps_reach s n)
    else (if rule == 12 then breaks_at s n i (keeps_ways s n i)
    else false)))))

-- no decoder breaks a rule
pub record IsAccepted (s : System) : Type 0 where
  pub each : (rule n i : ℕ) → breaks s rule n i ≡ false

-- the least rule that is broken, then the least node, then the least decoder
pub record IsFirstBreach (s : System) (rule node decoder : ℕ) : Type 0 where
  pub broken : breaks s rule node decoder ≡ true
  pub rules : (lower n i : ℕ) → lower < rule → breaks s lower n i ≡ false
  pub nodes : (lower i : ℕ) → lower < node → breaks s rule lower i ≡ false
  pub decoders : (lower : ℕ) → lower < decoder → breaks s rule node lower ≡ false

-- some rule is broken
abbrev pub HasFirstBreach : System → Type 0
HasFirstBreach s = (rule node decoder : ℕ) × IsFirstBreach s rule node decoder

-- the rules K1 to K8, which speak of blocks alone
abbrev pub KeepsBlocks : System → Type 0
KeepsBlocks s = (rule n i : ℕ) → rule < 9 → breaks s rule n i ≡ false

-- a system whose blocks keep K1 to K8; its ranges may break what they like
pub record IsOrderlySystem (s : System) : Type 0 where
  pub system : IsSystem s
  pub blocks : KeepsBlocks s

-- K1 to K8 hold of the image, and K9 to K12 of the committed decoders of the range
pub record IsWhole (s : System) (r : Range) : Type 0 where
  pub blocks : KeepsBlocks s
  pub range : (rule n i : ℕ) (d : Decoder) → 9 ≤ rule → decoder_at s n i ≡ Some d → has_range r d ≡ true → breaks s rule n i ≡ false
