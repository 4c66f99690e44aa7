-- The windows judged with a topology's bridges are made with them.
use Rattle.std.proofs.Common.{◌≡◌, ℕ, zero, suc, ◌+◌, ◌<◌, ◌≤◌, min, max, Bool, true, false, List, [], ◌∷◌, ◌++◌, length, get_or, Some, None, ⊎_elim, refl, sym, ap, subst, ◌∙◌, arith}
use Rattle.std.specs.Prelude.{◌==◌, not, find, position, slice_get, All, Contains}
use Rattle.std.specs.List.{list_any, position_from, filter_map}
use Rattle.std.proofs.lemmas.List.{length-append}
use Rattle.std.proofs.lemmas.Bool.{or_parts, not-false, lt-ltb, both_ways, cases_order}
use Rattle.std.proofs.lemmas.List.Elements.{All-nil, All-cons, Contains-append_left, Contains-push, All-contains, All-weaker}
use Rattle.std.proofs.lemmas.Option.{slice_get_read}
use Rattle.std.proofs.lemmas.Iterator.Adapters.{position_from-zero}
use Rattle.cxl_enc.proofs.Lists.{in_is}
use Rattle.cxl_table.specs.Fields.{CfmwsFields}
use Rattle.cxl_table.specs.declared.cedt.Record.{Record}
use Rattle.cxl_window.specs.declared.window.Verdict.{Verdict}
use Rattle.cxl_window.specs.declared.window.Verdict.TheVariants.{Usable}
use Rattle.cxl_window.specs.Fields.{WindowFields, IsWindow, IsUsable}
use Rattle.cxl_window.specs.Windows.{cfmws_in, maps_in, maps_of, is_cxl2_bridge, is_missing, overlaps, ranges_meet, verdict_of, window_with, window_of, windows_from, windows_of, AreMadeWith}
use Rattle.cxl_window.proofs.JudgedUsable.{first_fails, judged-Usable, IsJudgedUsable}

-- ---- searches that find nothing

find-none : (p : ℕ → Bool) (xs : List ℕ) → find p xs ≡ None → All (λ x. p x ≡ false) xs
find-none p [] none = All-nil (λ x. p x ≡ false)
find-none p (x ∷ xs) none =
    let rest = first_fails (p x) x (find p xs) none in
    All-cons (λ y. p y ≡ false) x xs rest.0 (find-none p xs rest.1)

position_from-none : {X : Type 0} (p : X → Bool) (i : ℕ) (xs : List X) → position_from p i xs ≡ None → All (λ x. p x ≡ false) xs
position_from-none p i [] none = All-nil (λ x. p x ≡ false)
position_from-none p i (x ∷ xs) none =
    let rest = first_fails (p x) i (position_from p (i + 1) xs) none in
    All-cons (λ y. p y ≡ false) x xs rest.0 (position_from-none p (i + 1) xs rest.1)

position-none : {X : Type 0} (p : X → Bool) (xs : List X) → position p xs ≡ None → All (λ x. p x ≡ false) xs
position-none p xs none = position_from-none p 0 xs (sym (position_from-zero p xs) ∙ none)

-- ---- one window

module _ (records : List Record) (bridges : List ℕ) where
  -- a target that is not missing is a bridge
  bridge_present : (u : ℕ) → is_missing records (Some bridges) u ≡ false → Contains bridges u
  bridge_present u present =
      let parts = or_parts (not (list_any (is_cxl2_bridge u) records)) (not (list_any (λ v. v == u) bridges)) present in
      in_is bridges u (not-false (list_any (λ v. v == u) bridges) parts.1)

  judged_usable : (before : List CfmwsFields) (c : CfmwsFields) → verdict_of records (Some bridges) before c ≡ Usable
      → IsJudgedUsable (position (overlaps c) before) (find (is_missing records (Some bridges)) c.targets) (maps_in c.gran records) c
  judged_usable before c usable = judged-Usable (position (overlaps c) before) (find (is_missing records (Some bridges)) c.targets) (maps_in c.gran records) c usable

  usable_made : (before : List CfmwsFields) (c : CfmwsFields) → (window_of records (Some bridges) before c).verdict ≡ Usable
      → IsUsable (window_of records (Some bridges) before c) × All (λ u. Contains bridges u) c.targets
  usable_made before c usable =
      let judged = judged_usable before c usable in
      let present = find-none (is_missing records (Some bridges)) c.targets judged.present in (
        subst (λ (v : Verdict). IsUsable (window_with (length before) (maps_of (maps_in c.gran records) c) v c)) (sym usable) (judged.usable (length before)),
        All-weaker (λ u. is_missing records (Some bridges) u ≡ false) (λ u. Contains bridges u) bridge_present c.targets present,
      )

  apart_made : (before : List CfmwsFields) (c d : CfmwsFields) → (window_of records (Some bridges) before c).verdict ≡ Usable → Contains before d → overlaps c d ≡ false
  apart_made before c d usable there =
      All-contains (λ x. overlaps c x ≡ false) before d (position-none (overlaps c) before (judged_usable before c usable).apart) there

  -- ---- the windows of a table

  indexed_made : (before cs : List CfmwsFields) (i : ℕ) (w : WindowFields) → slice_get (windows_from records (Some bridges) before cs) i ≡ Some w → w.index ≡ length before + i
  indexed_made before [] i w e = cc
  indexed_made before (c ∷ cs) zero w e =
      let same : window_of records (Some bridges) before c ≡ w = cc in
      omega (arith, ap (λ (v : WindowFields). v.index) same)
  indexed_made before (c ∷ cs) (suc i) w e =
      omega (arith, indexed_made (before ++ c ∷ []) cs i w e, length-append before (c ∷ []))

  all_usable_made : (before cs : List CfmwsFields)
      → All (λ w. w.verdict ≡ Usable → IsUsable w × All (λ u. Contains bridges u) w.targets) (windows_from records (Some bridges) before cs)
  all_usable_made before [] = All-nil (λ (w : WindowFields). w.verdict ≡ Usable → IsUsable w × All (λ u. Contains bridges u) w.targets)
  all_usable_made before (c ∷ cs) =
      All-cons (λ (w : WindowFields). w.verdict ≡ Usable → IsUsable w × All (λ u. Contains bridges u) w.targets)
      (window_of records (Some bridges) before c) (windows_from records (Some bridges) (before ++ c ∷ []) cs)
      (usable_made before c) (all_usable_made (before ++ c ∷ []) cs)

  -- a usable window overlaps no record that stands before these
  apart_from_before : (before cs : List CfmwsFields) (k : ℕ) (v : WindowFields) (d : CfmwsFields)
      → k < length (windows_from records (Some bridges) before cs) → get_or (windows_from records (Some bridges) before cs) k v ≡ v
      → v.verdict ≡ Usable → Contains before d → ranges_meet v.base v.size d.base d.size ≡ false
  apart_from_before before [] k v d inside there usable earlier = absurd (omega arith)
  apart_from_before before (c ∷ cs) zero v d inside there usable earlier =
      subst (λ (w : WindowFields). w.verdict ≡ Usable → ranges_meet w.base w.size d.base d.size ≡ false) there (λ u. apart_made before c d u earlier) usable
  apart_from_before before (c ∷ cs) (suc k) v d inside there usable earlier =
      apart_from_before (before ++ c ∷ []) cs k v d (omega arith) there usable (Contains-append_left before (c ∷ []) d earlier)

  -- nor an earlier one of these
  apart_from_earlier : (before cs : List CfmwsFields) (j k : ℕ) (w v : WindowFields) → j < k
      → k < length (windows_from records (Some bridges) before cs)
      → get_or (windows_from records (Some bridges) before cs) j w ≡ w → get_or (windows_from records (Some bridges) before cs) k v ≡ v
      → v.verdict ≡ Usable → ranges_meet v.base v.size w.base w.size ≡ false
  apart_from_earlier before [] j k w v order inside w-there v-there usable = absurd (omega arith)
  apart_from_earlier before (c ∷ cs) j zero w v order inside w-there v-there usable = absurd (omega arith)
  apart_from_earlier before (c ∷ cs) zero (suc k) w v order inside w-there v-there usable =
      subst (λ (x : WindowFields). ranges_meet v.base v.size x.base x.size ≡ false) w-there
      (apart_from_before (before ++ c ∷ []) cs k v c (omega arith) v-there usable (Contains-push before c))
  apart_from_earlier before (c ∷ cs) (suc j) (suc k) w v order inside w-there v-there usable =
      apart_from_earlier (before ++ c ∷ []) cs j k w v (omega arith) (omega arith) w-there v-there usable

-- two ranges that hold an address meet
meet_at : (h base size other_base other_size : ℕ) → base ≤ h → h < base + size → other_base ≤ h → h < other_base + other_size
    → ranges_meet base size other_base other_size ≡ true
meet_at h base size other_base other_size p q r s = lt-ltb (max base other_base) (min (base + size) (other_base + other_size)) (omega arith)

pub windows_made : (records : List Record) (bridges : List ℕ) → All IsWindow (windows_of records (Some bridges)) → AreMadeWith (windows_of records (Some bridges)) bridges
windows_made records bridges are_windows =
    let cs : List CfmwsFields = filter_map cfmws_in records in
    let ws : List WindowFields = windows_of records (Some bridges) in
    record {
      each = are_windows;
      indexed = λ i w there. omega (arith, indexed_made records bridges [] cs i w there);
      usable = all_usable_made records bridges [] cs;
      apart = λ w v w-in v-in h w-usable v-usable p q r s.
          let w-there : slice_get ws w-in.0 ≡ Some w = slice_get_read ws (length ws) w-in.0 w refl w-in.1 (sym w-in.2) in
          let v-there : slice_get ws v-in.0 ≡ Some v = slice_get_read ws (length ws) v-in.0 v refl v-in.1 (sym v-in.2) in
          let w-index = indexed_made records bridges [] cs w-in.0 w w-there in
          let v-index = indexed_made records bridges [] cs v-in.0 v v-there in
          ⊎_elim (λ same. omega arith)
          (λ order. ⊎_elim
          (λ earlier. absurd (both_ways _ (apart_from_earlier records bridges [] cs w-in.0 v-in.0 w v earlier v-in.1 w-in.2 v-in.2 v-usable) (meet_at h v.base v.size w.base w.size r s p q)))
          (λ later. absurd (both_ways _ (apart_from_earlier records bridges [] cs v-in.0 w-in.0 v w later w-in.1 v-in.2 w-in.2 w-usable) (meet_at h w.base w.size v.base v.size p q r s)))
          order)
          (cases_order w-in.0 v-in.0);
    }
