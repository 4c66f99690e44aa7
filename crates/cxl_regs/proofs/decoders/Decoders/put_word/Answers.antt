use Rattle.std.proofs.Common.{◌≡◌, ℕ, ◌<◌, ◌≤◌, List, Some, length, take, get_or, refl, sym, ap, subst, ◌∙◌, arith}
use Rattle.std.proofs.lemmas.List.{length-take-le, get_or-take}
use Rattle.std.proofs.lemmas.Option.{get_or_from_slice_get}
use Rattle.std.proofs.Math.Seq.{take-set-lt}
use Rattle.std.specs.Prelude.{slice_get, slice_set}
use Rattle.cxl_regs.specs.declared.decoder.Decoder.{Decoder}
use Rattle.cxl_regs.specs.Registers.{reset_decoder}
use Rattle.cxl_regs.specs.Writes.{with_word}
use Rattle.cxl_regs.proofs.decoders.Decoders.put_word.Goals as goal

-- the word of the decoder that is found among those that there are
here : (count : ℕ) (all there : List Decoder) (index : ℕ) (d written : Decoder) (word : Decoder → Decoder) → take count all ≡ there → count ≤ 10 → length all ≡ 10 → index < length there
    → slice_get there index ≡ Some d → written ≡ word (get_or all index reset_decoder) → take count (slice_set all index written) ≡ slice_set there index (word d)
here count all there index d written word view few long within found is =
    let within : index < length (take count all) = subst (λ (ds : List Decoder). index < length ds) (sym view) within in
    let length = length-take-le count all (omega arith) in
    let same : get_or all index reset_decoder ≡ d = sym (get_or-take count all index reset_decoder (omega arith)) ∙ ap (λ (ds : List Decoder). get_or ds index reset_decoder) view ∙ get_or_from_slice_get there index d reset_decoder found in
    take-set-lt count all index written (omega arith) ∙ rw (view, is, same) refl

pub returns : goal.returns
returns c = λ d there.
    here c.self.inside.count c.self.inside.all c.args.self.now c.args.index d _ (λ d. with_word c.args.endpoint d c.args.place c.args.value) c.self.view_is c.self.invariant.0 c.self.invariant.1 c.requires there
    c.write_word.ensures
