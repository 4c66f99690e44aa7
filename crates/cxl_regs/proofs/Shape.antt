-- No write changes the shape of its block.
use Rattle.std.proofs.Common.{ℕ, ◌+◌, ◌%◌, ◌==◌, ltb, Bool, true, false, cond, not, ◌&&◌, ◌||◌, drop, Option, Some, None, refl}
use Rattle.std.proofs.lemmas.List.{length-set}
use Rattle.std.specs.Prelude.{slice_get}
use Rattle.std.specs.Option.{option_map_or}
use Rattle.cxl_regs.specs.declared.decoder.Decoder.{Decoder}
use Rattle.cxl_regs.specs.declared.effect.CommitRule.{CommitRule}
use Rattle.cxl_regs.specs.declared.effect.Effect.{Effect}
use Rattle.cxl_regs.specs.declared.effect.Effect.TheVariants.{Written}
use Rattle.cxl_regs.specs.Registers.{Registers, IsSameShape}
use Rattle.cxl_regs.specs.Words.{has_bit, index_at, place_at}
use Rattle.cxl_regs.specs.Rules.{first_broken_rule}
use Rattle.cxl_regs.specs.Writes.{AfterWrite, dropped, any_committed, with_decoder, with_control, after_global, after_commit, after_control, after_release, after_decoder, after_word}

record Keeps (block : Registers) (o : AfterWrite) : Type 0 where
  shape : IsSameShape block o.block

keeps_all : (block : Registers) → Keeps block (dropped block)
keeps_all block = record { shape = record { cap = refl; endpoint = refl; count = refl } }

keeps_others : (block : Registers) (i : ℕ) (d : Decoder) (effect : Effect) → Keeps block record { block = with_decoder block i d; effect = effect }
keeps_others block i d effect = record { shape = record { cap = refl; endpoint = refl; count = length-set block.decoders i d } }

either : (block : Registers) (test : Bool) (x y : AfterWrite) → Keeps block x → Keeps block y → Keeps block (cond test x y)
either block true x y p q = p
either block false x y p q = q

commit_keeps : (block : Registers) (i : ℕ) (d : Decoder) (rule : Option CommitRule) → Keeps block (after_commit block i d rule)
commit_keeps block i d None = keeps_others block i _ _
commit_keeps block i d (Some rule) = keeps_others block i _ _

control_keeps : (block : Registers) (i : ℕ) (d : Decoder) (v : ℕ) → Keeps block (after_control block i d v)
control_keeps block i d v =
    either block (has_bit v 9) _ _ (commit_keeps block i (with_control d v) (first_broken_rule block i (with_control d v))) (keeps_others block i _ _)

release_keeps : (block : Registers) (i : ℕ) (d : Decoder) (v : ℕ) → Keeps block (after_release block i d v)
release_keeps block i d v =
    either block (d.lock || has_bit v 9 || any_committed (drop (i + 1) block.decoders)) _ _ (keeps_all block) (keeps_others block i _ _)

decoder_keeps : (block : Registers) (i : ℕ) (d : Decoder) (place v : ℕ) → Keeps block (after_decoder block i d place v)
decoder_keeps block i d place v =
    either block (place == 7) _ _ (keeps_all block) (either block (place == 4) _ _
    (either block d.committed _ _ (release_keeps block i d v) (control_keeps block i d v))
    (either block d.committed _ _ (keeps_all block) (keeps_others block i _ _)))

pub decoder_shape : (block : Registers) (i : ℕ) (d : Decoder) (place v : ℕ) → IsSameShape block (after_decoder block i d place v).block
decoder_shape block i d place v = (decoder_keeps block i d place v).shape

flag_keeps : (block : Registers) (enabled : Bool) (effect : Effect) → Keeps block record { block = record block { enabled = enabled }; effect = effect }
flag_keeps block enabled effect = record { shape = record { cap = refl; endpoint = refl; count = refl } }

global_keeps : (block : Registers) (v : ℕ) → Keeps block (after_global block v)
global_keeps block v =
    either block (has_bit v 1) _ _ (flag_keeps block true Written)
    (either block (any_committed block.decoders) _ _ (keeps_all block) (flag_keeps block false Written))

found_keeps : (block : Registers) (off v : ℕ) (d : Option Decoder) → Keeps block (option_map_or (λ d. after_decoder block (index_at off) d (place_at off) v) d (dropped block))
found_keeps block off v None = keeps_all block
found_keeps block off v (Some d) = decoder_keeps block (index_at off) d (place_at off) v

word_keeps : (block : Registers) (off v : ℕ) → Keeps block (after_word block off v)
unfolding after_word
word_keeps block off v =
    either block (not (off % 4 == 0)) _ _ (keeps_all block)
    (either block (ltb off 16) _ _
    (either block ((off == 4) && block.endpoint) _ _ (global_keeps block v) (keeps_all block))
    (found_keeps block off v (slice_get block.decoders (index_at off))))

pub after_word_shape : (block : Registers) (off v : ℕ) → IsSameShape block (after_word block off v).block
after_word_shape block off v = (word_keeps block off v).shape
