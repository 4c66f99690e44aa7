use Rattle.std.proofs.Common.{ℕ, ◌+◌, ◌++◌, [], ◌∷◌, List, take, refl, sym, ap, ◌∙◌, arith}
use Rattle.std.proofs.lemmas.List.{length-set, take_more, take_more_set}
use Rattle.std.proofs.lemmas.Option.{slice_get_within, get_or_from_slice_get}
use Rattle.cxl_regs.specs.declared.decoder.Decoder.{Decoder}
use Rattle.cxl_image.proofs.OtherDecoders.{put_sound, all_put}
use Rattle.cxl_image.proofs.putting.with_decoder.Goals as goal

pub loop-i-preserved : goal.loop-i-preserved
loop-i-preserved c =
    let own : List Decoder = c.args.block.now.decoders in
    let i : ℕ = c.loop-i.i in
    let d : Decoder = c.decoder.result in
    let within = slice_get_within own i d c.decoder.ensures.value in
    record {
      same =
          take_more_set c.loop-i.decoders i d (omega (arith, c.loop-i.invariant.all, c.count-count.ensures.few, c.loop-i-test.true))
          ∙ ap (λ (ds : List Decoder). ds ++ d ∷ []) c.loop-i.invariant.same
          ∙ sym (take_more own i d within ∙ ap (λ (e : Decoder). take i own ++ e ∷ []) (get_or_from_slice_get own i d d c.decoder.ensures.value));
      all = length-set c.loop-i.decoders i d ∙ c.loop-i.invariant.all;
    }

pub with_decoders-requires : goal.with_decoders-requires
with_decoders-requires c =
    let all = all_put c.args.block.now.decoders c.loop-i.decoders c.count-count.result c.loop-i.i c.args.index c.args.d.now c.count-count.ensures.value c.requires.here (omega arith) c.loop-i.invariant.same in
    rw (c.cap.ensures.value, c.endpoint.ensures.value, c.enabled.ensures.value, all) (put_sound c.args.block.now c.args.index c.args.d.now c.cap.ensures.block c.requires.decoder)

pub returns-clause-value : goal.returns-clause-value
returns-clause-value c =
    let all = all_put c.args.block.now.decoders c.loop-i.decoders c.count-count.result c.loop-i.i c.args.index c.args.d.now c.count-count.ensures.value c.requires.here (omega arith) c.loop-i.invariant.same in
    c.with_decoders.ensures ∙ rw (c.cap.ensures.value, c.endpoint.ensures.value, c.enabled.ensures.value, all) refl

pub returns-clause-block : goal.returns-clause-block
returns-clause-block c =
    rw (returns-clause-value c) (put_sound c.args.block.now c.args.index c.args.d.now c.cap.ensures.block c.requires.decoder)
