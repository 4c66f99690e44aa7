-- Steps of reading that are taken together.
use Rattle.std.proofs.Common.{◌≡◌, ℕ, ℤ, Bool, true, false, List, ◌++◌, Option, Some, pos, Result, Ok, Err, refl, sym, ap, ◌∙◌}
use Rattle.std.specs.Prelude.{if◌then◌else◌}
use Rattle.cxl_enc.specs.Caps.{word_of}
use Rattle.cxl_enc.specs.Limits.{address_limit, placeholder_cap}
use Rattle.cxl_enc.specs.declared.caps.Caps.{Caps}
use Rattle.cxl_topo.specs.declared.node.Capacity.{Capacity}
use Rattle.cxl_topo.specs.declared.node.Node.{Node}
use Rattle.cxl_topo.specs.declared.node.NodeKind.TheVariants as kinds
use Rattle.toml.specs.Data.{Items, Members, as_integer}
use Rattle.cxl_topofile.specs.declared.key.Key.{Key}
use Rattle.cxl_topofile.specs.declared.key.Key.TheVariants as keys
use Rattle.cxl_topofile.specs.declared.fault.Wrong.{Wrong}
use Rattle.cxl_topofile.specs.declared.fault.Section.TheVariants as sections
use Rattle.cxl_topofile.specs.declared.fault.TopoFault.{TopoFault}
use Rattle.cxl_topofile.specs.declared.fault.TopoFault.TheVariants as faults
use Rattle.cxl_topofile.specs.declared.draft.Draft.{Draft}
use Rattle.cxl_topofile.specs.declared.draft.Seat.{Seat}
use Rattle.cxl_topofile.specs.declared.draft.PortCaps.{PortCaps}
use Rattle.cxl_topofile.specs.Wrongs.{out_of_range}
use Rattle.cxl_topofile.specs.Values.{◌>>=◌, value_at, natural, within, number_at, is_within, flag_at, stated_name, stated_decoders, stated_targets}
use Rattle.cxl_topofile.specs.Drafts.{known_in, bridge_keys, switch_keys, endpoint_keys, port_of, port_caps_of, bridge_of, switch_of, endpoint_cap_of, endpoint_of}
use Rattle.cxl_topofile.specs.Groups.{FailsAs, tables_of, all_of, top_keys, Top, top_of, Stated, stated_of}
use Rattle.cxl_topofile.specs.inner.Steps.{natural_at, caps_of, seat_of, capacity_of, drafts_of}

module _ (table : Members) (key : Key) (default : Option ℤ) (test : ℕ → Bool) where
  number_by : number_at table key default test ≡ (natural_at table key default >>= within key test)
  unfolding number_at natural_at
  number_by = go (value_at as_integer table key default)
    where
      go : (r : Result ℤ Wrong) → (r >>= λ z. natural key z >>= λ n. within key test n) ≡ ((r >>= λ z. natural key z) >>= within key test)
      go (Ok z) = refl
      go (Err wrong) = refl

  pub number_fails : (wrong : Wrong) → Err wrong ≡ natural_at table key default → Err wrong ≡ number_at table key default test
  number_fails wrong is = ap (λ (r : Result ℕ Wrong). r >>= within key test) is ∙ sym number_by

  pub number_tested : (n : ℕ) (result : Result ℕ Wrong) → Ok n ≡ natural_at table key default → result ≡ within key test n → result ≡ number_at table key default test
  number_tested n result is tested = tested ∙ ap (λ (r : Result ℕ Wrong). r >>= within key test) is ∙ sym number_by

  pub number_passes : (n : ℕ) → Ok n ≡ natural_at table key default → test n ≡ true → Ok n ≡ number_at table key default test
  number_passes n is passes = number_tested n (Ok n) is (rw passes)

  pub number_refused : (n : ℕ) → Ok n ≡ natural_at table key default → test n ≡ false → Err (out_of_range key) ≡ number_at table key default test
  number_refused n is fails = number_tested n (Err (out_of_range key)) is (rw fails)

module _ (table : Members) where
  abbrev port_caps_with : Caps → Bool → Result PortCaps Wrong
  port_caps_with caps forwards = Ok (record { cap = if forwards then placeholder_cap else word_of caps; forwards = forwards })

  abbrev port_caps_by : Caps → Result PortCaps Wrong
  port_caps_by caps = flag_at table keys.Passthrough false >>= port_caps_with caps

  port_caps_are : port_caps_of table ≡ (caps_of table >>= port_caps_by)
  unfolding port_caps_of caps_of
  port_caps_are = go (stated_decoders table) (stated_targets table) (flag_at table keys.Low true) (flag_at table keys.High true)
    where
      with_caps : {A : Type 0} → Result ℕ Wrong → Result ℕ Wrong → Result Bool Wrong → Result Bool Wrong → (Caps → Result A Wrong) → Result A Wrong
      with_caps ds ts ls hs f =
          ds >>= λ decoders. ts >>= λ targets. ls >>= λ low. hs >>= λ high.
          f (record { decoders = decoders; targets = targets; low = low; high = high; ways3 = false; ways16 = false })

      go : (ds ts : Result ℕ Wrong) (ls hs : Result Bool Wrong) → with_caps ds ts ls hs port_caps_by ≡ (with_caps ds ts ls hs Ok >>= port_caps_by)
      go (Ok decoders) (Ok targets) (Ok low) (Ok high) = refl
      go (Ok decoders) (Ok targets) (Ok low) (Err wrong) = refl
      go (Ok decoders) (Ok targets) (Err wrong) hs = refl
      go (Ok decoders) (Err wrong) ls hs = refl
      go (Err wrong) ts ls hs = refl

  pub port_caps_fail : (wrong : Wrong) → Err wrong ≡ caps_of table → Err wrong ≡ port_caps_of table
  port_caps_fail wrong is = ap (λ (r : Result Caps Wrong). r >>= port_caps_by) is ∙ sym port_caps_are

  pub flag_fails : (caps : Caps) (wrong : Wrong) → Ok caps ≡ caps_of table → Err wrong ≡ flag_at table keys.Passthrough false → Err wrong ≡ port_caps_of table
  flag_fails caps wrong is fails =
      ap (λ (r : Result Bool Wrong). r >>= port_caps_with caps) fails ∙ ap (λ (r : Result Caps Wrong). r >>= port_caps_by) is ∙ sym port_caps_are

  pub port_caps_stated : (caps : Caps) (forwards : Bool) (result : PortCaps) → Ok caps ≡ caps_of table → Ok forwards ≡ flag_at table keys.Passthrough false
      → result.cap ≡ (if forwards then placeholder_cap else word_of caps) → result.forwards ≡ forwards → Ok result ≡ port_caps_of table
  port_caps_stated caps forwards result is forwards_is cap_is same =
      ap (λ (cap : ℕ). Ok (record { cap = cap; forwards = result.forwards })) cap_is
      ∙ ap (λ (f : Bool). Ok (record { cap = if forwards then placeholder_cap else word_of caps; forwards = f })) same
      ∙ ap (λ (r : Result Bool Wrong). r >>= port_caps_with caps) forwards_is
      ∙ ap (λ (r : Result Caps Wrong). r >>= port_caps_by) is
      ∙ sym port_caps_are

  -- an unknown key is the first fault
  pub unknown_bridge : (wrong : Wrong) → known_in table bridge_keys ≡ Err wrong → Err wrong ≡ bridge_of table
  unfolding bridge_of
  unknown_bridge wrong is = rw is

  pub unknown_switch : (wrong : Wrong) → known_in table switch_keys ≡ Err wrong → Err wrong ≡ switch_of table
  unfolding switch_of
  unknown_switch wrong is = rw is

  pub unknown_endpoint : (wrong : Wrong) → known_in table endpoint_keys ≡ Err wrong → Err wrong ≡ endpoint_of table
  unfolding endpoint_of
  unknown_endpoint wrong is = rw is

  pub unknown_top : (wrong : Wrong) → known_in table top_keys ≡ Err wrong → top_of table ≡ Err wrong
  unfolding top_of
  unknown_top wrong is = rw is

  abbrev with_seat : {A : Type 0} → Result (List ℕ) Wrong → Result (List ℕ) Wrong → Result ℕ Wrong → (Seat → Result A Wrong) → Result A Wrong
  with_seat ns ps qs f = ns >>= λ name. ps >>= λ parent. qs >>= λ port. f (record { name = name; parent = parent; port = port })

  placed_by : {A : Type 0} (known : Result (Unit {0}) Wrong) (ns ps : Result (List ℕ) Wrong) (qs : Result ℕ Wrong) (f : Seat → Result A Wrong)
      → known ≡ Ok tt → (known >>= λ _. with_seat ns ps qs f) ≡ (with_seat ns ps qs Ok >>= f)
  placed_by (Err wrong) ns ps qs f is = absurd cc
  placed_by (Ok done) (Ok name) (Ok parent) (Ok port) f is = refl
  placed_by (Ok done) (Ok name) (Ok parent) (Err wrong) f is = refl
  placed_by (Ok done) (Ok name) (Err wrong) qs f is = refl
  placed_by (Ok done) (Err wrong) ps qs f is = refl

  abbrev switch_by : Seat → Result Draft Wrong
  switch_by seat =
      port_caps_of table >>= λ caps.
      Ok (record { name = seat.name; kind = kinds.Switch; parent = seat.parent; port = seat.port; cap = caps.cap; forwards = caps.forwards })

  switch_is : known_in table switch_keys ≡ Ok tt → switch_of table ≡ (seat_of table >>= switch_by)
  unfolding switch_of seat_of stated_name
  switch_is known = placed_by (known_in table switch_keys) (stated_name table keys.Name) (stated_name table keys.Parent) (port_of table) switch_by known

  pub switch_fails : (wrong : Wrong) → known_in table switch_keys ≡ Ok tt → Err wrong ≡ seat_of table → Err wrong ≡ switch_of table
  switch_fails wrong known is = ap (λ (r : Result Seat Wrong). r >>= switch_by) is ∙ sym (switch_is known)

  pub switch_behind : (seat : Seat) (result : Result Draft Wrong) → known_in table switch_keys ≡ Ok tt → Ok seat ≡ seat_of table → result ≡ switch_by seat → result ≡ switch_of table
  switch_behind seat result known is by = by ∙ ap (λ (r : Result Seat Wrong). r >>= switch_by) is ∙ sym (switch_is known)

  abbrev endpoint_by : Seat → Result Draft Wrong
  endpoint_by seat =
      endpoint_cap_of table >>= λ cap. capacity_of table >>= λ capacity.
      Ok (record { name = seat.name; kind = kinds.Endpoint capacity; parent = seat.parent; port = seat.port; cap = cap; forwards = false })

  -- the same, with the capacity in two steps
  abbrev endpoint_step : Seat → Result Draft Wrong
  endpoint_step seat =
      endpoint_cap_of table >>= λ cap.
      number_at table keys.Ram (Some (pos 0)) (is_within 0 address_limit) >>= λ ram. number_at table keys.Pmem (Some (pos 0)) (is_within 0 address_limit) >>= λ pmem.
      Ok (record { name = seat.name; kind = kinds.Endpoint (record { ram = ram; pmem = pmem }); parent = seat.parent; port = seat.port; cap = cap; forwards = false })

  one_capacity : (r : Result Seat Wrong) → (r >>= endpoint_step) ≡ (r >>= endpoint_by)
  unfolding capacity_of
  one_capacity (Err wrong) = refl
  one_capacity (Ok seat) = go (endpoint_cap_of table) (number_at table keys.Ram (Some (pos 0)) (is_within 0 address_limit)) (number_at table keys.Pmem (Some (pos 0)) (is_within 0 address_limit))
    where
      draft : ℕ → Capacity → Draft
      draft cap capacity = record { name = seat.name; kind = kinds.Endpoint capacity; parent = seat.parent; port = seat.port; cap = cap; forwards = false }

      go : (cs rs ps : Result ℕ Wrong) → (cs >>= λ cap. rs >>= λ ram. ps >>= λ pmem. Ok (draft cap (record { ram = ram; pmem = pmem })))
          ≡ (cs >>= λ cap. (rs >>= λ ram. ps >>= λ pmem. Ok (record { ram = ram; pmem = pmem })) >>= λ capacity. Ok (draft cap capacity))
      go (Ok cap) (Ok ram) (Ok pmem) = refl
      go (Ok cap) (Ok ram) (Err wrong) = refl
      go (Ok cap) (Err wrong) ps = refl
      go (Err wrong) rs ps = refl

  endpoint_is : known_in table endpoint_keys ≡ Ok tt → endpoint_of table ≡ (seat_of table >>= endpoint_by)
  unfolding endpoint_of seat_of
  endpoint_is known =
      placed_by (known_in table endpoint_keys) (stated_name table keys.Name) (stated_name table keys.Parent) (port_of table) endpoint_step known
      ∙ one_capacity (seat_of table)

  pub endpoint_fails : (wrong : Wrong) → known_in table endpoint_keys ≡ Ok tt → Err wrong ≡ seat_of table → Err wrong ≡ endpoint_of table
  endpoint_fails wrong known is = ap (λ (r : Result Seat Wrong). r >>= endpoint_by) is ∙ sym (endpoint_is known)

  pub endpoint_behind : (seat : Seat) (result : Result Draft Wrong) → known_in table endpoint_keys ≡ Ok tt → Ok seat ≡ seat_of table → result ≡ endpoint_by seat → result ≡ endpoint_of table
  endpoint_behind seat result known is by = by ∙ ap (λ (r : Result Seat Wrong). r >>= endpoint_by) is ∙ sym (endpoint_is known)

-- ---- the drafts of a file

pub fails_then : {A B : Type 0} (fault : TopoFault) (r : Result A TopoFault) (f : A → Result B TopoFault) → FailsAs fault r → FailsAs fault (r >>= f)
fails_then faults.Toml r f is = ap (λ q. q >>= f) is
fails_then (faults.Key place) r f is = ap (λ q. q >>= f) is
fails_then (faults.Kind place) r f is = ap (λ q. q >>= f) is
fails_then (faults.Range place) r f is = ap (λ q. q >>= f) is
fails_then (faults.Tree fault) r f is = ap (λ q. q >>= f) is
fails_then faults.Memory r f is = tt

module _ (switches endpoints : Items) where
  abbrev lasts : List Draft → Result (List Draft) TopoFault
  lasts first = all_of sections.Endpoint endpoint_of 0 (tables_of endpoints) >>= λ last. Ok (first ++ last)

  pub switches_fail : (fault : TopoFault) → FailsAs fault (all_of sections.Switch switch_of 0 (tables_of switches)) → FailsAs fault (drafts_of switches endpoints)
  unfolding drafts_of
  switches_fail fault is = fails_then fault (all_of sections.Switch switch_of 0 (tables_of switches)) lasts is

  pub endpoints_fail : (first : List Draft) (fault : TopoFault) → all_of sections.Switch switch_of 0 (tables_of switches) ≡ Ok first
      → FailsAs fault (all_of sections.Endpoint endpoint_of 0 (tables_of endpoints)) → FailsAs fault (drafts_of switches endpoints)
  unfolding drafts_of
  endpoints_fail first fault is fails = rw is (fails_then fault (all_of sections.Endpoint endpoint_of 0 (tables_of endpoints)) (λ last. Ok (first ++ last)) fails)

  pub drafts_are : (first last : List Draft) → all_of sections.Switch switch_of 0 (tables_of switches) ≡ Ok first
      → all_of sections.Endpoint endpoint_of 0 (tables_of endpoints) ≡ Ok last → drafts_of switches endpoints ≡ Ok (first ++ last)
  unfolding drafts_of
  drafts_are first last is last_is = rw (is, last_is)

-- what a file states once its top and its bridges are read
module _ (members : Members) (top : Top) (bridges : List Node) (is_top : top_of members ≡ Ok top) (are_bridges : all_of sections.Bridge bridge_of 0 (tables_of top.bridges) ≡ Ok bridges) where
  abbrev stated_with : List Draft → Result Stated TopoFault
  stated_with drafts = Ok (record { bridges = bridges; drafts = drafts; frames = top.frames })

  stated_behind : stated_of members ≡ (drafts_of top.switches top.endpoints >>= stated_with)
  unfolding stated_of drafts_of
  stated_behind = rw (is_top, are_bridges) (regroup (all_of sections.Switch switch_of 0 (tables_of top.switches)) (all_of sections.Endpoint endpoint_of 0 (tables_of top.endpoints)))
    where
      regroup : (firsts lasts : Result (List Draft) TopoFault)
          → (firsts >>= λ first. lasts >>= λ last. stated_with (first ++ last)) ≡ ((firsts >>= λ first. lasts >>= λ last. Ok (first ++ last)) >>= stated_with)
      regroup (Ok first) (Ok last) = refl
      regroup (Ok first) (Err fault) = refl
      regroup (Err fault) lasts = refl

  pub drafts_fail : (fault : TopoFault) → FailsAs fault (drafts_of top.switches top.endpoints) → FailsAs fault (stated_of members)
  drafts_fail fault fails = rw stated_behind (fails_then fault (drafts_of top.switches top.endpoints) stated_with fails)

  pub stated_is : (drafts : List Draft) → drafts_of top.switches top.endpoints ≡ Ok drafts → stated_of members ≡ Ok (record { bridges = bridges; drafts = drafts; frames = top.frames })
  stated_is drafts is = stated_behind ∙ ap (λ (r : Result (List Draft) TopoFault). r >>= stated_with) is
