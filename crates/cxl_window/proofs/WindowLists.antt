-- The windows of a table, one window more, and one of them from what the code holds.
use Rattle.std.proofs.Common.{◌≡◌, ℕ, suc, ◌+◌, ◌≤◌, Bool, cond, List, [], ◌∷◌, ◌++◌, length, get_or, map, take, drop, ◌<◌, Option, Some, refl, sym, ap, ◌∙◌, append_assoc, arith}
use Rattle.std.specs.Prelude.{position, find, ◌==◌, All}
use Rattle.std.specs.List.{filter_map, position_from}
use Rattle.std.specs.Borrow.{Bor}
use Rattle.std.proofs.lemmas.List.{append-nil, length-append, length-map, take-append-drop, take_all, take-map, map_more}
use Rattle.std.proofs.lemmas.List.Sums.{sum_by-cons}
use Rattle.std.proofs.lemmas.Iterator.Adapters.{position_from-zero}
use Rattle.cxl_table.specs.Fields.{CfmwsFields, CximsFields}
use Rattle.cxl_table.specs.Records.{kind_of, count_of}
use Rattle.cxl_table.specs.declared.cedt.Record.{Record}
use Rattle.cxl_table.specs.declared.cedt.Record.TheVariants.{Chbs, Cfmws, Cxims, Other}
use Rattle.cxl_window.specs.Fields.{WindowFields, IsWindow}
use Rattle.cxl_window.specs.Judging.{is_no_bridge, windows_behind}
use Rattle.cxl_window.specs.Windows.{cfmws_in, cxims_in, first_maps, maps_in, maps_of, overlaps, first_verdict, ranges_meet, is_missing, window_with, window_of, windows_from, windows_of}

-- tests that agree find the same
pub find-agree : (p q : ℕ → Bool) → ((x : ℕ) → p x ≡ q x) → (xs : List ℕ) → find p xs ≡ find q xs
find-agree p q agree [] = refl
find-agree p q agree (x ∷ xs) = ap (λ b. cond b (Some x) (find p xs)) (agree x) ∙ ap (λ r. cond (q x) (Some x) r) (find-agree p q agree xs)

module _ (records : List Record) (uids : Option (List ℕ)) where
  windows_from-push : (before cs : List CfmwsFields) (c : CfmwsFields)
      → windows_from records uids before (cs ++ c ∷ []) ≡ windows_from records uids before cs ++ window_of records uids (before ++ cs) c ∷ []
  windows_from-push before [] c = ap (λ (b : List CfmwsFields). window_of records uids b c ∷ []) (sym (append-nil before))
  windows_from-push before (d ∷ cs) c =
      ap (λ (ws : List WindowFields). window_of records uids before d ∷ ws)
      (windows_from-push (before ++ d ∷ []) cs c
      ∙ ap (λ (b : List CfmwsFields). windows_from records uids (before ++ d ∷ []) cs ++ window_of records uids b c ∷ []) (append_assoc before (d ∷ []) cs))

  pub length-windows_from : (before cs : List CfmwsFields) → length (windows_from records uids before cs) ≡ length cs
  length-windows_from before [] = refl
  length-windows_from before (c ∷ cs) = ap suc (length-windows_from (before ++ c ∷ []) cs)

  -- windows overlap as their records do
  position_from-windows_from : (base size i : ℕ) (before cs : List CfmwsFields)
      → position_from (λ (w : WindowFields). ranges_meet base size w.base w.size) i (windows_from records uids before cs)
      ≡ position_from (λ (c : CfmwsFields). ranges_meet base size c.base c.size) i cs
  position_from-windows_from base size i before [] = refl
  position_from-windows_from base size i before (c ∷ cs) =
      ap (λ r. cond (ranges_meet base size c.base c.size) (Some i) r) (position_from-windows_from base size (i + 1) (before ++ c ∷ []) cs)

  position-windows_from : (base size : ℕ) (before cs : List CfmwsFields)
      → position (λ (w : WindowFields). ranges_meet base size w.base w.size) (windows_from records uids before cs)
      ≡ position (λ (c : CfmwsFields). ranges_meet base size c.base c.size) cs
  position-windows_from base size before cs =
      position_from-zero (λ (w : WindowFields). ranges_meet base size w.base w.size) (windows_from records uids before cs)
      ∙ position_from-windows_from base size 0 before cs
      ∙ sym (position_from-zero (λ (c : CfmwsFields). ranges_meet base size c.base c.size) cs)

  -- one window more is the one of the next record
  pub windows_from-next : (front next : List CfmwsFields) (c : CfmwsFields) (ws : List WindowFields) (w : WindowFields)
      → ws ≡ windows_from records uids [] front → w ≡ window_of records uids front c → next ≡ front ++ c ∷ []
      → ws ++ w ∷ [] ≡ windows_from records uids [] next
  windows_from-next front next c ws w ws-are w-is next-is =
      ap (λ (vs : List WindowFields). vs ++ w ∷ []) ws-are
      ∙ ap (λ (v : WindowFields). windows_from records uids [] front ++ v ∷ []) w-is
      ∙ sym (windows_from-push [] front c)
      ∙ ap (windows_from records uids []) (sym next-is)

  -- the window that the code makes is the one of the table
  pub window_of-judged : (cs : List CfmwsFields) (c : CfmwsFields) (ws : List WindowFields) (bridges : List ℕ) (tables : List CximsFields) (w : WindowFields)
      → ws ≡ windows_from records uids [] cs → ((u : ℕ) → is_no_bridge bridges u ≡ is_missing records uids u) → tables ≡ filter_map cxims_in records
      → w ≡ window_with (length ws) (maps_of (first_maps c.gran tables) c)
      (first_verdict (position (λ (v : WindowFields). ranges_meet c.base c.size v.base v.size) ws) (find (is_no_bridge bridges) c.targets) (first_maps c.gran tables) c) c
      → w ≡ window_of records uids cs c
  window_of-judged cs c ws bridges tables w ws-are bridges-are tables-are w-is =
      let index : length ws ≡ length cs = ap length ws-are ∙ length-windows_from [] cs in
      let overlap_in : List WindowFields → Option ℕ = λ vs. position (λ (v : WindowFields). ranges_meet c.base c.size v.base v.size) vs in
      let overlapped : overlap_in ws ≡ position (overlaps c) cs = ap overlap_in ws-are ∙ position-windows_from c.base c.size [] cs in
      let missing = find-agree (is_no_bridge bridges) (is_missing records uids) bridges-are c.targets in
      let maps : first_maps c.gran tables ≡ maps_in c.gran records = ap (first_maps c.gran) tables-are in
      let made : ℕ → Option ℕ → Option ℕ → Option (List ℕ) → WindowFields = λ n o m ms. window_with n (maps_of ms c) (first_verdict o m ms c) c in
      w-is
      ∙ ap (λ n. made n (overlap_in ws) (find (is_no_bridge bridges) c.targets) (first_maps c.gran tables)) index
      ∙ ap (λ o. made (length cs) o (find (is_no_bridge bridges) c.targets) (first_maps c.gran tables)) overlapped
      ∙ ap (λ m. made (length cs) (position (overlaps c) cs) m (first_maps c.gran tables)) missing
      ∙ ap (λ ms. made (length cs) (position (overlaps c) cs) (find (is_missing records uids) c.targets) ms) maps

-- the windows of the first i of these records, each of which is one
pub record IsSoFar (records : List Record) (uids : Option (List ℕ)) (cs : List CfmwsFields) (i : ℕ) (ws : List WindowFields) : Type 0 where
  pub are : ws ≡ windows_from records uids [] (take i cs)
  pub windows : All IsWindow ws

-- windows are counted among the records
length-cfmws_in : (records : List Record) → length (filter_map cfmws_in records) ≤ count_of 1 records
length-cfmws_in [] = omega arith
length-cfmws_in (Chbs c ∷ records) = omega (arith, sum_by-cons (λ (r : Record). cond (kind_of r == 1) 1 0) (Chbs c) records, length-cfmws_in records)
length-cfmws_in (Cfmws c ∷ records) = omega (arith, sum_by-cons (λ (r : Record). cond (kind_of r == 1) 1 0) (Cfmws c) records, length-cfmws_in records)
length-cfmws_in (Cxims c ∷ records) = omega (arith, sum_by-cons (λ (r : Record). cond (kind_of r == 1) 1 0) (Cxims c) records, length-cfmws_in records)
length-cfmws_in (Other c ∷ records) = omega (arith, sum_by-cons (λ (r : Record). cond (kind_of r == 1) 1 0) (Other c) records, length-cfmws_in records)

-- no more windows than records of their type stand in front
pub few_taken : (records : List Record) (cs : List CfmwsFields) (i : ℕ) → cs ≡ filter_map cfmws_in records → count_of 1 records ≤ 64 → length (take i cs) ≤ 64
few_taken records cs i are few =
    omega (arith, length-cfmws_in records, ap length are, ap length (take-append-drop i cs), length-append (take i cs) (drop i cs))

-- one record more of those that the references point to
pub behind_more : (items : List (Bor CfmwsFields)) (i : ℕ) (item : Bor CfmwsFields) → i < length items → item ≡ get_or items i item
    → take (i + 1) (windows_behind items) ≡ take i (windows_behind items) ++ item.now ∷ []
behind_more items i item there item-is =
    let now : Bor CfmwsFields → CfmwsFields = λ b. b.now in
    take-map now (i + 1) items ∙ map_more now items i item there
    ∙ ap (λ (b : Bor CfmwsFields). map now (take i items) ++ b.now ∷ []) (sym item-is)
    ∙ ap (λ (cs : List CfmwsFields). cs ++ item.now ∷ []) (sym (take-map now i items))

-- at the end of the windows' records stand all windows of the table
pub windows_at_end : (records : List Record) (uids : Option (List ℕ)) (items : List (Bor CfmwsFields)) (i : ℕ) (ws : List WindowFields)
    → windows_behind items ≡ filter_map cfmws_in records → length items ≤ i
    → ws ≡ windows_from records uids [] (take i (windows_behind items)) → ws ≡ windows_of records uids
windows_at_end records uids items i ws are end ws-are =
    let all : length (windows_behind items) ≤ i = rw length-map end in
    ws-are ∙ ap (windows_from records uids []) (take_all i (windows_behind items) all ∙ are)

pub length-windows_of : (records : List Record) (uids : Option (List ℕ)) → length (windows_of records uids) ≡ length (filter_map cfmws_in records)
length-windows_of records uids = length-windows_from records uids [] (filter_map cfmws_in records)
