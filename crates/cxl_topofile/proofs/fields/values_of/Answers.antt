use Rattle.std.proofs.Common.{◌≡◌, ◌<◌, ◌∷◌, ◌||◌, List, None, length, not, string_bytes, sym, ap, ◌∙◌, arith}
use Rattle.std.specs.Option.{option_or, unwrap_or}
use Rattle.std.proofs.lemmas.List.{length-set, get_or_default}
use Rattle.toml.specs.Data.{get_member}
use Rattle.toml.specs.View.{members_view}
use Rattle.toml.proofs.Views.{Entry}
use Rattle.cxl_topofile.specs.Keys.{key_text, has_unknown}
use Rattle.cxl_topofile.specs.inner.Fields.{slot_at, value_in}
use Rattle.cxl_topofile.proofs.Fielding.{keeps_each, keeps_others, other_slot}
use Rattle.cxl_topofile.proofs.fields.values_of.Goals as goal

pub entries-preserved : goal.entries-preserved
entries-preserved c =
    let e : Entry = (c.in-Some.text.now, c.in-Some.value.now) in
    let more : c.entries.text-iterator ≡ e ∷ c.next.new.self = c.in-Some.ensures.steps in
    let text = string_bytes e.0 in
    let slot = c.slot_at-slot.result in
    let slot_is : slot ≡ slot_at text = c.slot_at-slot.ensures.slot ∙ ap slot_at c.as_bytes.ensures.value in
    let values = c.entries.values in
    let long = c.entries.invariant.long in
    let within : slot < length values = omega (arith, c.slot_at-slot.ensures.few, long) in
    let found = get_or_default values slot c.index-values-slot.result None within in
    let first = c.unwrap_or.ensures ∙ ap (λ o. unwrap_or o c.in-Some.value) found in
    let unknown = has_unknown (members_view c.next.new.self) c.args.keys.now in
    record {
      long = length-set values slot _ ∙ long;
      each = λ key.
          keeps_each values slot c.in-Some.value c.unwrap_or.result within first text slot_is key (members_view c.next.new.self)
          ∙ ap (λ (es : List Entry). option_or (value_in values key) (get_member (key_text key) (members_view es))) (sym more)
          ∙ c.entries.invariant.each key;
      others =
          ap (λ own. (c.entries.others || not own) || unknown) (c.is_slot_of.ensures ∙ other_slot c.args.keys.now slot text slot_is)
          ∙ keeps_others c.entries.others unknown text c.args.keys.now
          ∙ ap (λ (es : List Entry). c.entries.others || has_unknown (members_view es) c.args.keys.now) (sym more)
          ∙ c.entries.invariant.others;
    }
