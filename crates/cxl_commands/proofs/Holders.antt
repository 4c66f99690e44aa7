-- The first window that holds an address.
use Rattle.std.proofs.Common.{◌≡◌, ℕ, suc, ◌+◌, ◌<◌, true, false, ◌&&◌, ltb, leb, Some, None, List, [], ◌∷◌, ◌++◌, length, get_or, take, drop, refl, sym, ap, subst, ◌∙◌, drop-cons}
use Rattle.std.specs.List.{slice_get}
use Rattle.std.proofs.lemmas.Bool.{and_parts, and_from, false≢true, leb-true, ltb-true, le-leb, lt-ltb}
use Rattle.std.proofs.lemmas.List.{take-append-drop}
use Rattle.std.proofs.lemmas.Option.{slice_get-get_or}
use Rattle.std.proofs.lemmas.List.Elements.{All-head, All-tail, All-more}
use Rattle.cxl_enc.proofs.Options.{some_if, none_if}
use Rattle.cxl_window.specs.Fields.{WindowFields}
use Rattle.cxl_window.specs.Position.{is_usable, holds, position_of, position_at}
use Rattle.cxl_window.proofs.Usable.{usable_is}
use Rattle.cxl_commands.specs.commands.Route.{Holds, IsNowhere, IsSelection}
use Rattle.cxl_commands.specs.declared.commands.selection.Selection.{Selection}

-- ---- one window

pub position-from_slot : (w : WindowFields) (h position : ℕ) → position_at w h ≡ Some position → position ≡ position_of w h
position-from_slot w h position e = (some_if (is_usable w.verdict && holds w h) (position_of w h) position e).1

pub holds-from_slot : (w : WindowFields) (h position : ℕ) → position_at w h ≡ Some position → Holds h w
holds-from_slot w h position e =
    let tests = and_parts (is_usable w.verdict) (holds w h) (some_if (is_usable w.verdict && holds w h) (position_of w h) position e).0 in
    let ends = and_parts (leb w.base h) (ltb h (w.base + w.size)) tests.1 in
    record {
      usable = usable_is w.verdict tests.0;
      from = leb-true w.base h ends.0;
      to = ltb-true h (w.base + w.size) ends.1;
    }

pub holds_not-from_none : (w : WindowFields) (h : ℕ) → position_at w h ≡ None → ¬ (Holds h w)
holds_not-from_none w h e = λ held.
    let inside = and_from (leb w.base h) (ltb h (w.base + w.size)) (le-leb w.base h held.from) (lt-ltb h (w.base + w.size) held.to) in
    let usable : is_usable w.verdict ≡ true = ap is_usable held.usable in
    false≢true (sym (none_if (is_usable w.verdict && holds w h) (position_of w h) e) ∙ and_from (is_usable w.verdict) (holds w h) usable inside)

-- ---- windows in a row

-- the window at a place, behind those before it
split_at : (windows : List WindowFields) (i : ℕ) (w : WindowFields) → i < length windows → w ≡ get_or windows i w → windows ≡ take i windows ++ w ∷ drop (suc i) windows
split_at windows i w within is =
    sym (take-append-drop i windows) ∙ ap (λ rest. take i windows ++ rest) (drop-cons windows i w within ∙ ap (λ x. x ∷ drop (suc i) windows) (sym is))

pub selection_at : (windows : List WindowFields) (h i position : ℕ) (w : WindowFields) (index bridge : ℕ) → i < length windows → w ≡ get_or windows i w → IsNowhere (take i windows) h → position_at w h ≡ Some position → index ≡ w.index → slice_get w.targets (position_of w h) ≡ Some bridge → IsSelection windows h (record { window = index; position = position; bridge = bridge })
selection_at windows h i position w index bridge within is earlier slot index-is bridge-is = record {
  window = w;
  first = record {
    before = take i windows;
    after = drop (suc i) windows;
    place = split_at windows i w within is;
    earlier = earlier;
    holds = holds-from_slot w h position slot;
  };
  index = index-is;
  position = position-from_slot w h position slot;
  bridge = bridge-is;
}

pub nowhere-more : (windows : List WindowFields) (h i : ℕ) (w : WindowFields) → i < length windows → w ≡ get_or windows i w → IsNowhere (take i windows) h → position_at w h ≡ None → IsNowhere (take (i + 1) windows) h
nowhere-more windows h i w within is earlier none =
    All-more (λ v. ¬ (Holds h v)) windows i w within earlier (subst (λ v. ¬ (Holds h v)) is (holds_not-from_none w h none))

-- the bridge at a position
pub bridge_at : (targets lent : List ℕ) (position place : ℕ) → lent ≡ targets → position ≡ place → position < length targets → slice_get targets place ≡ Some (get_or lent position 0)
bridge_at targets lent position place same is within =
    let found : slice_get targets position ≡ Some (get_or targets position 0) = slice_get-get_or targets position 0 within in cc

-- ---- there is one at the most

same_first : (h : ℕ) (before after others rest : List WindowFields) (w v : WindowFields) → before ++ w ∷ after ≡ others ++ v ∷ rest → IsNowhere before h → Holds h w → IsNowhere others h → Holds h v → w ≡ v
same_first h [] after [] rest w v e none held none' held' = cc
same_first h [] after (x ∷ others) rest w v e none held none' held' =
    let first : w ≡ x = cc in absurd (All-head (λ u. ¬ (Holds h u)) x others none' (subst (Holds h) first held))
same_first h (x ∷ before) after [] rest w v e none held none' held' =
    let first : v ≡ x = cc in absurd (All-head (λ u. ¬ (Holds h u)) x before none (subst (Holds h) first held'))
same_first h (x ∷ before) after (y ∷ others) rest w v e none held none' held' =
    let tails : before ++ w ∷ after ≡ others ++ v ∷ rest = cc in
    same_first h before after others rest w v tails (All-tail (λ u. ¬ (Holds h u)) x before none) held (All-tail (λ u. ¬ (Holds h u)) y others none') held'

some_is : (a b : ℕ) → Some a ≡ Some b → a ≡ b
some_is a b e = cc

same_record : {w v p q b c : ℕ} → w ≡ v → p ≡ q → b ≡ c → ◌≡◌ {A = Selection} (record { window = w; position = p; bridge = b }) (record { window = v; position = q; bridge = c })
same_record windows positions bridges = cc

same_fields : (s t : Selection) → s.window ≡ t.window → s.position ≡ t.position → s.bridge ≡ t.bridge → s ≡ t
same_fields s t windows positions bridges = same_record windows positions bridges

pub one_selection : (windows : List WindowFields) (h : ℕ) (s t : Selection) → IsSelection windows h s → IsSelection windows h t → s ≡ t
one_selection windows h s t x y =
    let same : x.window ≡ y.window = same_first h x.first.before x.first.after y.first.before y.first.after x.window y.window (sym x.first.place ∙ y.first.place) x.first.earlier x.first.holds y.first.earlier y.first.holds in
    same_fields s t
    (x.index ∙ ap (λ w. w.index) same ∙ sym y.index)
    (x.position ∙ ap (λ w. position_of w h) same ∙ sym y.position)
    (some_is s.bridge t.bridge (sym x.bridge ∙ ap (λ w. slice_get w.targets (position_of w h)) same ∙ y.bridge))

holder_and_none : (windows before after : List WindowFields) (h : ℕ) (w : WindowFields) → windows ≡ before ++ w ∷ after → IsNowhere windows h → Holds h w → ⊥
holder_and_none windows [] after h w e none held = All-head (λ u. ¬ (Holds h u)) w after (subst (λ ws. IsNowhere ws h) e none) held
holder_and_none windows (x ∷ before) after h w e none held =
    holder_and_none (before ++ w ∷ after) before after h w refl (All-tail (λ u. ¬ (Holds h u)) x (before ++ w ∷ after) (subst (λ ws. IsNowhere ws h) e none)) held

pub selection_and_none : (windows : List WindowFields) (h : ℕ) (s : Selection) → IsSelection windows h s → IsNowhere windows h → ⊥
selection_and_none windows h s x none = holder_and_none windows x.first.before x.first.after h x.window x.first.place none x.first.holds
