use Rattle.std.proofs.Common.{◌≡◌, ℕ, ◌+◌, ◌*◌, List, [], ◌∷◌, ◌++◌, map, take, refl, sym, ap, subst, ◌∙◌, arith}
use Rattle.std.proofs.lemmas.List.{length-set, take_more_set}
use Rattle.std.proofs.lemmas.List.Elements.{All-nil, All-push}
use Rattle.std.proofs.lemmas.List.FromFn.{map-range_with_len_more}
use Rattle.std.specs.Prelude.{All}
use Rattle.std.specs.List.{range_with_len}
use Rattle.cxl_regs.specs.declared.decoder.Decoder.{Decoder}
use Rattle.cxl_regs.specs.Registers.{IsDecoder}
use Rattle.cxl_regs.specs.Words.{decoder_of}
use Rattle.cxl_image.specs.Fields.{decoder_from}
use Rattle.cxl_image.proofs.reading.decoders_from.Goals as goal

pub loop-i-init : goal.loop-i-init
loop-i-init c = record { read = refl; each = All-nil (IsDecoder c.args.endpoint); all = refl }

pub loop-i-preserved : goal.loop-i-preserved
loop-i-preserved c =
    let read_at : ℕ → Decoder = λ i. decoder_from c.args.bytes.now c.args.endpoint (c.args.at + 32 * i) in
    let d : Decoder = c.decoder_of.result in
    let is : d ≡ read_at c.loop-i.i = c.decoder_of.ensures.value ∙ ap (λ (ws : List ℕ). decoder_of ws c.args.endpoint) c.decoder_words.ensures in
    let more = take_more_set c.loop-i.decoders c.loop-i.i d (omega (arith, c.loop-i.invariant.all, c.requires.few)) in
    record {
      read =
          more ∙ ap (λ (ds : List Decoder). ds ++ d ∷ []) c.loop-i.invariant.read
          ∙ ap (λ (e : Decoder). map read_at (range_with_len 0 c.loop-i.i) ++ e ∷ []) is
          ∙ sym (map-range_with_len_more read_at 0 c.loop-i.i c.loop-i.i (omega arith));
      each = subst (All (IsDecoder c.args.endpoint)) (sym more) (All-push (IsDecoder c.args.endpoint) (take c.loop-i.i c.loop-i.decoders) d c.loop-i.invariant.each c.decoder_of.ensures.decoder);
      all = length-set c.loop-i.decoders c.loop-i.i d ∙ c.loop-i.invariant.all;
    }

all_read : (c : goal.After-loop-i) → c.loop-i.i ≡ c.args.count
all_read c = omega arith

pub returns-clause-value : goal.returns-clause-value
returns-clause-value c =
    subst (λ (n : ℕ). take n c.loop-i.decoders ≡ map (λ (i : ℕ). decoder_from c.args.bytes.now c.args.endpoint (c.args.at + 32 * i)) (range_with_len 0 n)) (all_read c) c.loop-i.invariant.read

pub returns-clause-each : goal.returns-clause-each
returns-clause-each c =
    subst (λ (n : ℕ). All (IsDecoder c.args.endpoint) (take n c.loop-i.decoders)) (all_read c) c.loop-i.invariant.each
