-- Blocks with another decoder.
use Rattle.std.proofs.Common.{◌≡◌, ℕ, ◌<◌, List, Option, take, Some, length, refl, sym, ap, ◌∙◌, subst, inl, inr, arith}
use Rattle.std.proofs.lemmas.Bool.{cases_lt}
use Rattle.std.proofs.lemmas.Option.{slice_get_past}
use Rattle.std.proofs.Math.Seq.{take-set-lt}
use Rattle.std.proofs.lemmas.List.{length-set, take_all}
use Rattle.std.proofs.lemmas.List.Elements.{All-set}
use Rattle.std.specs.Prelude.{slice_get, slice_set, IsSomeAnd}
use Rattle.cxl_regs.specs.declared.decoder.Decoder.{Decoder}
use Rattle.cxl_regs.specs.Registers.{Registers, IsBlock, IsDecoder, IsSameShape}
use Rattle.cxl_regs.specs.Writes.{with_decoder}
use Rattle.cxl_topo.specs.declared.node.Node.{Node}
use Rattle.cxl_image.specs.Images.{HasCapsOf, CanHold, CanPut}
use Rattle.cxl_image.proofs.AfterWrite.{after_caps}

pub put_sound : (block : Registers) (i : ℕ) (d : Decoder) → IsBlock block → IsDecoder block.endpoint d → IsBlock (with_decoder block i d)
put_sound block i d is decoder = record {
  cap = is.cap;
  enabled = is.enabled;
  count = length-set block.decoders i d ∙ is.count;
  each = All-set (IsDecoder block.endpoint) block.decoders i d decoder is.each;
}

pub put_shape : (block : Registers) (i : ℕ) (d : Decoder) → IsSameShape block (with_decoder block i d)
put_shape block i d = record { cap = refl; endpoint = refl; count = length-set block.decoders i d }

-- the block of which it is said
pub held : (blocks : List Registers) (n i : ℕ) (d : Decoder) (block : Registers) → slice_get blocks n ≡ Some block → CanPut blocks n i d → CanHold block i d
held blocks n i d block there can = subst (λ (o : Option Registers). IsSomeAnd o (λ block. CanHold block i d)) there can

pub put_caps : (blocks : List Registers) (nodes : List Node) (n i : ℕ) (d : Decoder) (block : Registers) → slice_get blocks n ≡ Some block → HasCapsOf blocks nodes → HasCapsOf (slice_set blocks n (with_decoder block i d)) nodes
put_caps blocks nodes n i d block there caps = after_caps blocks nodes n block (with_decoder block i d) there (put_shape block i d) caps

pub put_within : (blocks : List Registers) (n i : ℕ) (d : Decoder) → CanPut blocks n i d → n < length blocks
put_within blocks n i d can =
    elim (cases_lt n (length blocks)) [
      | inl within ↦ within
      | inr past ↦ absurd (subst (λ (o : Option Registers). IsSomeAnd o (λ block. CanHold block i d)) (slice_get_past blocks n past) can)
    ]

-- all decoders, with another at one place
pub all_put : (own copied : List Decoder) (count upto i : ℕ) (d : Decoder) → count ≡ length own → i < length own → upto ≡ count → take upto copied ≡ take upto own → take count (slice_set copied i d) ≡ slice_set own i d
all_put own copied count upto i d is within end same =
    take-set-lt count copied i d (omega (arith, is, within))
    ∙ ap (λ (ds : List Decoder). slice_set ds i d) (ap (λ (k : ℕ). take k copied) (sym end) ∙ same ∙ ap (λ (k : ℕ). take k own) (end ∙ is) ∙ take_all (length own) own (omega arith))
