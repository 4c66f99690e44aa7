-- The bridges of a table's records are those that no target misses.
use Rattle.std.proofs.Common.{◌≡◌, ℕ, Bool, true, false, cond, List, [], ◌∷◌, Option, refl, ap, ◌∙◌}
use Rattle.std.specs.Prelude.{◌==◌, ◌&&◌, ◌||◌, not}
use Rattle.std.specs.List.{list_any, flat_map}
use Rattle.std.proofs.lemmas.Bool.{eqb-true}
use Rattle.std.proofs.lemmas.List.Folds.{list_any-append}
use Rattle.cxl_table.specs.declared.cedt.Record.{Record}
use Rattle.cxl_table.specs.declared.cedt.Record.TheVariants.{Chbs, Cfmws, Cxims, Other}
use Rattle.cxl_window.specs.Judging.{is_no_bridge, bridges_in}
use Rattle.cxl_window.specs.Windows.{is_cxl2_bridge, is_missing, topology_has}

both_or : (a b t : Bool) → ((a && t) || (b && t)) ≡ ((a || b) && t)
both_or true true true = refl
both_or true true false = refl
both_or true false true = refl
both_or true false false = refl
both_or false true true = refl
both_or false true false = refl
both_or false false true = refl
both_or false false false = refl

not_both : (a t : Bool) → not (a && t) ≡ (not a || not t)
not_both true true = refl
not_both true false = refl
not_both false true = refl
not_both false false = refl

-- one that is kept, by whether it is the one that is looked for, of the version, and the topology's
kept : (same version has has' : Bool) → (same ≡ true → has ≡ has') → cond (version && has) (same || false) false ≡ ((same && version) && has')
kept true true true has' e = e refl
kept true true false has' e = e refl
kept true false has has' e = refl
kept false true true has' e = refl
kept false true false has' e = refl
kept false false has has' e = refl

any_kept : (p : ℕ → Bool) (b : Bool) (own : ℕ) → list_any p (cond b (own ∷ []) []) ≡ cond b (p own || false) false
any_kept p true own = refl
any_kept p false own = refl

module _ (uids : Option (List ℕ)) (uid : ℕ) where
  of_record : (r : Record) → list_any (λ b. b == uid) (bridges_in uids r) ≡ (is_cxl2_bridge uid r && topology_has uids uid)
  of_record (Chbs c) =
      any_kept (λ b. b == uid) ((c.version == 1) && topology_has uids c.uid) c.uid
      ∙ kept (c.uid == uid) (c.version == 1) (topology_has uids c.uid) (topology_has uids uid) (λ same. ap (topology_has uids) (eqb-true c.uid uid same))
  of_record (Cfmws c) = refl
  of_record (Cxims c) = refl
  of_record (Other c) = refl

  of_records : (records : List Record) → list_any (λ b. b == uid) (flat_map (bridges_in uids) records) ≡ (list_any (is_cxl2_bridge uid) records && topology_has uids uid)
  of_records [] = refl
  of_records (r ∷ records) =
      list_any-append (λ b. b == uid) (bridges_in uids r) (flat_map (bridges_in uids) records)
      ∙ ap (λ b. b || list_any (λ b. b == uid) (flat_map (bridges_in uids) records)) (of_record r)
      ∙ ap (λ b. (is_cxl2_bridge uid r && topology_has uids uid) || b) (of_records records)
      ∙ both_or (is_cxl2_bridge uid r) (list_any (is_cxl2_bridge uid) records) (topology_has uids uid)

pub no_bridge_missing : (records : List Record) (uids : Option (List ℕ)) (bridges : List ℕ) → bridges ≡ flat_map (bridges_in uids) records
    → (uid : ℕ) → is_no_bridge bridges uid ≡ is_missing records uids uid
no_bridge_missing records uids bridges are uid =
    ap (λ (bs : List ℕ). is_no_bridge bs uid) are ∙ ap not (of_records uids uid records) ∙ not_both (list_any (is_cxl2_bridge uid) records) (topology_has uids uid)
