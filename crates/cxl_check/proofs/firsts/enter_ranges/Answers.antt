use Rattle.std.proofs.Common.{◌≡◌, ℕ, ◌+◌, ◌||◌, Bool, true, Option, Some, None, take, if◌then◌else◌, refl, sym, ap, subst, ◌∙◌}
use Rattle.std.specs.Prelude.{IsSome}
use Rattle.std.specs.List.{list_any}
use Rattle.std.specs.Option.{option_or}
use Rattle.std.specs.BTreeMap.{BTreeMap, get}
use Rattle.std.proofs.lemmas.Option.{get_or_from_slice_get, slice_get_within}
use Rattle.std.proofs.lemmas.List.Folds.{list_any_more}
use Rattle.cxl_regs.specs.declared.decoder.Decoder.{Decoder}
use Rattle.cxl_regs.specs.declared.reading.Range.{Range}
use Rattle.cxl_regs.specs.Reading.{has_range}
use Rattle.cxl_model.specs.Hosts.{as_system}
use Rattle.cxl_check.specs.declared.firsts.RangeKey.{RangeKey}
use Rattle.cxl_check.specs.inner.Firsts.{key_cmp, range_at, first_below}
use Rattle.cxl_check.proofs.FirstFacts.{range_is}
use Rattle.cxl_check.proofs.Numbers.{or_twice, or_known}
use Rattle.cxl_check.proofs.firsts.enter_ranges.Goals as goal
use Rattle.cxl_check.proofs.firsts.enter_ranges.Goals.{then-not-has_earlier+in_ok-enter_range, else-not-has_earlier}

pub loop-i-preserved : goal.loop-i-preserved
loop-i-preserved c = λ key.
    let decoders = c.args.block.now.decoders in
    let d = c.decoder-d.result in
    let has : Decoder → Bool = has_range (range_at key) in
    let within = slice_get_within decoders c.loop-i.i d c.decoder-d.ensures.value in
    let more : list_any has (take (c.loop-i.i + 1) decoders) ≡ (list_any has (take c.loop-i.i decoders) || has d) =
    list_any_more has decoders c.loop-i.i d within ∙ ap (λ (e : Decoder). list_any has (take c.loop-i.i decoders) || has e) (get_or_from_slice_get decoders c.loop-i.i d d c.decoder-d.ensures.value) in
    let first = get key_cmp c.args.firsts.now key in
    let before = list_any has (take c.loop-i.i decoders) in
    let all = ap (λ (b : Bool). option_or first (if b then Some c.args.node else None)) (sym more) in
    elim c.if-not-has_earlier.branch [
      | then-not-has_earlier+in_ok-enter_range w ↦
          ap (λ (t : BTreeMap RangeKey ℕ). get key_cmp t key) w.firsts-is ∙ w.in_ok-enter_range.ensures key
          ∙ ap (λ (o : Option ℕ). option_or o (if has d then Some c.args.node else None)) (c.loop-i.invariant key)
          ∙ or_twice first c.args.node before (has d)
          ∙ all
      | else-not-has_earlier w ↦
          let known : has d ≡ true → IsSome first = λ passes.
          let earlier : IsSome (first_below (as_system c.args.host.now) c.args.node (range_at key)) =
          subst (λ (r : Range). IsSome (first_below (as_system c.args.host.now) c.args.node r)) (range_is (range_at key) d passes) (w.if-not-has_earlier.ensures refl) in
          subst (λ (o : Option ℕ). IsSome o) (sym (c.requires.listed key)) earlier in
          ap (λ (t : BTreeMap RangeKey ℕ). get key_cmp t key) w.firsts-is ∙ c.loop-i.invariant key ∙ or_known first c.args.node before (has d) known ∙ all
    ]
