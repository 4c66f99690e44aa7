use Rattle.std.proofs.Common.{◌≡◌, ◌||◌, length}
use Rattle.std.specs.Option.{option_or}
use Rattle.toml.specs.Data.{get_member}
use Rattle.toml.specs.View.{members_view}
use Rattle.cxl_topofile.specs.declared.key.Key.{Key}
use Rattle.cxl_topofile.specs.Keys.{key_text, has_unknown}
use Rattle.cxl_topofile.specs.inner.Fields.{value_in}
use Rattle.cxl_topofile.proofs.fields.values_of.Given as goal

abbrev pub invariant-entries : goal.invariant-entries
invariant-entries l = record {
  long : length l.values ≡ 19;
  each : (key : Key) → option_or (value_in l.values key) (get_member (key_text key) (members_view l.text-iterator)) ≡ get_member (key_text key) (members_view l.table.entries);
  others : (l.others || has_unknown (members_view l.text-iterator) l.keys) ≡ has_unknown (members_view l.table.entries) l.keys;
}
