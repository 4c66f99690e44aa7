-- The records of a table that are judged by their types are enough for its windows.
use Rattle.std.proofs.Common.{◌≡◌, ℕ, List, [], ◌∷◌, ◌++◌, length, Option, refl, ap, ◌∙◌, inl, inr}
use Rattle.std.specs.Prelude.{find, position, ◌||◌, not}
use Rattle.std.specs.List.{filter_map, list_any}
use Rattle.std.proofs.lemmas.Bool.{cases_Bool}
use Rattle.cxl_table.specs.Fields.{CfmwsFields, CximsFields}
use Rattle.cxl_table.specs.Judged.{is_judged, judged_of}
use Rattle.cxl_table.specs.declared.cedt.Record.{Record}
use Rattle.cxl_table.specs.declared.cedt.Record.TheVariants.{Chbs, Cfmws, Cxims, Other}
use Rattle.cxl_window.specs.Fields.{WindowFields}
use Rattle.cxl_window.specs.Windows.{cfmws_in, cxims_in, is_cxl2_bridge, first_maps, maps_in, maps_of, topology_has, is_missing, overlaps, first_verdict, window_with, window_of, windows_from, windows_of}
use Rattle.cxl_window.proofs.WindowLists.{find-agree}

pub windows_judged : (records : List Record) → filter_map cfmws_in (judged_of records) ≡ filter_map cfmws_in records
windows_judged [] = refl
windows_judged (Chbs c ∷ records) = windows_judged records
windows_judged (Cfmws c ∷ records) = ap (λ (cs : List CfmwsFields). c ∷ cs) (windows_judged records)
windows_judged (Cxims c ∷ records) = windows_judged records
windows_judged (Other c ∷ records) =
    elim (cases_Bool (is_judged (Other c))) [
      | inl judged ↦ rw judged (windows_judged records)
      | inr other ↦ rw other (windows_judged records)
    ]

maps_judged : (records : List Record) → filter_map cxims_in (judged_of records) ≡ filter_map cxims_in records
maps_judged [] = refl
maps_judged (Chbs c ∷ records) = maps_judged records
maps_judged (Cfmws c ∷ records) = maps_judged records
maps_judged (Cxims c ∷ records) = ap (λ (cs : List CximsFields). c ∷ cs) (maps_judged records)
maps_judged (Other c ∷ records) =
    elim (cases_Bool (is_judged (Other c))) [
      | inl judged ↦ rw judged (maps_judged records)
      | inr other ↦ rw other (maps_judged records)
    ]

bridges_judged : (uid : ℕ) (records : List Record) → list_any (is_cxl2_bridge uid) (judged_of records) ≡ list_any (is_cxl2_bridge uid) records
bridges_judged uid [] = refl
bridges_judged uid (Chbs c ∷ records) = ap (λ b. is_cxl2_bridge uid (Chbs c) || b) (bridges_judged uid records)
bridges_judged uid (Cfmws c ∷ records) = bridges_judged uid records
bridges_judged uid (Cxims c ∷ records) = bridges_judged uid records
bridges_judged uid (Other c ∷ records) =
    elim (cases_Bool (is_judged (Other c))) [
      | inl judged ↦ rw judged (bridges_judged uid records)
      | inr other ↦ rw other (bridges_judged uid records)
    ]

module _ (records : List Record) (uids : Option (List ℕ)) where
  window_judged : (before : List CfmwsFields) (c : CfmwsFields) → window_of (judged_of records) uids before c ≡ window_of records uids before c
  window_judged before c =
      let missing = find-agree (is_missing (judged_of records) uids) (is_missing records uids) (λ uid. ap (λ b. not b || not (topology_has uids uid)) (bridges_judged uid records)) c.targets in
      let maps : maps_in c.gran (judged_of records) ≡ maps_in c.gran records = ap (first_maps c.gran) (maps_judged records) in
      let made : Option ℕ → Option (List ℕ) → WindowFields = λ m ms. window_with (length before) (maps_of ms c) (first_verdict (position (overlaps c) before) m ms c) c in
      ap (λ m. made m (maps_in c.gran (judged_of records))) missing ∙ ap (made (find (is_missing records uids) c.targets)) maps

  from_judged : (before cs : List CfmwsFields) → windows_from (judged_of records) uids before cs ≡ windows_from records uids before cs
  from_judged before [] = refl
  from_judged before (c ∷ cs) =
      ap (λ w. w ∷ windows_from (judged_of records) uids (before ++ c ∷ []) cs) (window_judged before c)
      ∙ ap (λ ws. window_of records uids before c ∷ ws) (from_judged (before ++ c ∷ []) cs)

  pub windows_of_judged : windows_of (judged_of records) uids ≡ windows_of records uids
  windows_of_judged = from_judged [] (filter_map cfmws_in (judged_of records)) ∙ ap (windows_from records uids []) (windows_judged records)
