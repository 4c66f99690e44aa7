-- What the index has at a key, and what adding a block or taking one out does to it.
use Rattle.std.proofs.Common.{◌≡◌, ◌≢◌, ℕ, zero, suc, ◌*◌, ◌<◌, ◌≤◌, [], ◌∷◌, ◌++◌, length, get_or, set, replicate, count_by, Option, None, Some, IsSome, is_some, refl, sym, ap, subst, ◌∙◌, inl, inr, arith}
use Rattle.std.specs.Prelude.{swap_remove}
use Rattle.std.proofs.lemmas.Bool.{cases_order}
use Rattle.std.proofs.lemmas.List.{length-set, length-append, length-replicate, get_or_past}
use Rattle.std.specs.FinMap as fin
use Rattle.cxl_enc.specs.Limits.{frame_limit}
use Rattle.cxl_media.specs.declared.cell.Cell.{Cell}
use Rattle.cxl_media.specs.Blocks.{Key}
use Rattle.cxl_media.specs.Table.{key_at, Cells, cell_at, items_in, frames_in, IsTable, StopsProbe, IsStop}
use Rattle.cxl_media.specs.Hash.{home_of}
use Rattle.cxl_media.specs.Index.{IsIndex}
use Rattle.cxl_media.proofs.Keys.{not_none}
use Rattle.cxl_media.proofs.Tables.{Stands, find_item, find_absent, get_frames, len_frames}
use Rattle.cxl_media.proofs.Changes.{none_is_not, added_table, added_frames}
use Rattle.cxl_media.proofs.Gap.{cell_within}
use Rattle.cxl_media.proofs.Homes.{stop_meets, passed_taken}
use Rattle.cxl_media.proofs.Kept.{more_whole, more_once, more_frames, left_whole, left_few, left_once, left_frames}

-- there are as many blocks as places
pub as_many : (cells kept : Cells) (room : ℕ) → IsIndex cells kept room → fin.len (frames_in kept) ≡ length kept
as_many cells kept room index = len_frames kept index.once ∙ index.whole

-- a block that stands at a place is found
pub found_at : (cells kept : Cells) (room place : ℕ) (p : Cell) → IsIndex cells kept room → cell_at kept place ≡ Some p → fin.get (frames_in kept) (key_at p) ≡ Some p.frame
found_at cells kept room place p index is = get_frames kept (key_at p) ∙ find_item kept place p (key_at p) index.once is refl

module _ (cells kept : Cells) (room : ℕ) (key : Key) (at : ℕ) (index : IsIndex cells kept room) (stop : IsStop cells (home_of (2 * room) key) key at) where
  pub stop_key : (p : Cell) → cell_at cells at ≡ Some p → key_at p ≡ key
  stop_key p is = subst (λ (o : Option Cell). StopsProbe key o) is (stop.stops (cell_within cells at p is)).1

  pub stop_found : (p : Cell) → cell_at cells at ≡ Some p → fin.get (frames_in kept) key ≡ Some p.frame
  stop_found p is = ap (λ m. fin.get m key) index.same ∙ get_frames cells key ∙ find_item cells at p key index.table.once is (stop_key p is)

  -- a block of this key would stand where the probe stopped, or below
  stop_missing : cell_at cells at ≡ None → (k : ℕ) (p : Cell) → cell_at cells k ≡ Some p → key_at p ≢ key
  stop_missing empty k p is same =
      let start : home_of (2 * room) (key_at p) ≡ home_of (2 * room) key = ap (home_of (2 * room)) same in
      let low : home_of (2 * room) key ≤ k = omega (arith, start, index.table.above k p is) in
      elim (cases_order k at) [
        | inl here ↦ not_none p (sym is ∙ ap (cell_at cells) here ∙ empty)
        | inr (inl before) ↦ stop.passed k low before (subst (λ (o : Option Cell). StopsProbe key o) (sym is) same)
        | inr (inr after) ↦
            let inside : at < length cells = omega (arith, after, cell_within cells k p is) in
            none_is_not _ empty (index.table.reach k p is at (omega (arith, start, (stop.stops inside).0)) after)
      ]

  pub stop_nothing : cell_at cells at ≡ None → fin.get (frames_in kept) key ≡ None
  stop_nothing empty = ap (λ m. fin.get m key) index.same ∙ get_frames cells key ∙ find_absent cells key (stop_missing empty)

  -- no cell is left
  pub stop_past : at ≡ length cells → fin.get (frames_in kept) key ≡ None
  stop_past end = stop_nothing (get_or_past cells at None (omega (arith, end)))

  -- the block is not there, and there is room
  module _ (p : Cell) (is_key : key_at p ≡ key) (absent : fin.get (frames_in kept) key ≡ None) (more : fin.len (frames_in kept) < room) where
    pub add_within : at < length cells
    add_within = stop_meets cells kept room key at index stop (omega (arith, more))

    pub add_empty : cell_at cells at ≡ None
    add_empty = by_case (cell_at cells at) refl
      where
        by_case : (o : Option Cell) → cell_at cells at ≡ o → cell_at cells at ≡ None
        by_case None is = is
        by_case (Some q) is = absurd (not_none q.frame (sym (stop_found q is) ∙ absent))

    pub add_room : 3 * length kept < length cells
    add_room = omega (arith, more, as_many cells kept room index, index.size)

    nowhere : (q : Cell) → Stands cells (key_at p) q → ⊥
    nowhere q s = not_none q.frame (sym (ap (λ m. fin.get m key) index.same ∙ get_frames cells key ∙ find_item cells s.at q key index.table.once s.is (s.key ∙ is_key)) ∙ absent)

    unkept : (q : Cell) → Stands kept (key_at p) q → ⊥
    unkept q s = not_none q.frame (sym (get_frames kept key ∙ find_item kept s.at q key index.once s.is (s.key ∙ is_key)) ∙ absent)

    above : home_of (2 * room) (key_at p) ≤ at
    above = let start : home_of (2 * room) (key_at p) ≡ home_of (2 * room) key = ap (home_of (2 * room)) is_key in omega (arith, start, (stop.stops add_within).0)

    path : (m : ℕ) → home_of (2 * room) (key_at p) ≤ m → m < at → IsSome (cell_at cells m)
    path m low high =
        let start : home_of (2 * room) (key_at p) ≡ home_of (2 * room) key = ap (home_of (2 * room)) is_key in
        passed_taken key (cell_at cells m) (stop.passed m (omega (arith, start, low)) high)

    pub add_frames : frames_in (kept ++ Some p ∷ []) ≡ fin.insert (frames_in kept) key p.frame
    add_frames = more_frames kept p index.once unkept ∙ ap (λ k. fin.insert (frames_in kept) k p.frame) is_key

    pub add_index : IsIndex (set cells at (Some p)) (kept ++ Some p ∷ []) room
    add_index = record {
      table = added_table (home_of (2 * room)) cells at p index.table add_within add_empty nowhere above path;
      size = length-set cells at (Some p) ∙ index.size;
      small = index.small;
      once = more_once kept p index.once unkept;
      same =
          more_frames kept p index.once unkept
          ∙ ap (λ m. fin.insert m (key_at p) p.frame) index.same
          ∙ sym (added_frames (home_of (2 * room)) cells at p index.table add_within add_empty nowhere above path);
      whole = more_whole kept p index.whole;
      few = omega (arith, more, as_many cells kept room index, length-append kept (Some p ∷ []));
    }

-- no block stands in a new table
pub frames_new : (n : ℕ) → frames_in (replicate n None) ≡ fin.empty
frames_new n = ap fin.from_entries (no_items n)
  where
    no_items : (n : ℕ) → items_in (replicate n None) ≡ []
    no_items zero = refl
    no_items (suc n) = no_items n

-- no block is in a new index
pub new_index : (cells kept : Cells) (room : ℕ) → cells ≡ replicate (3 * room) None → kept ≡ [] → room ≤ frame_limit → IsIndex cells kept room
new_index cells kept room new none few = record {
  table = record {
    once = λ k m p q is _ _. absurd (empty k p is);
    above = λ k p is. absurd (empty k p is);
    reach = λ k p is. absurd (empty k p is);
  };
  size = ap length new ∙ length-replicate {A = Option Cell} (3 * room) None;
  small = few;
  once = λ k m p q is _ _. absurd (not_none p (sym is ∙ ap (λ cs. cell_at cs k) none));
  same = ap frames_in none ∙ sym (frames_new (3 * room)) ∙ sym (ap frames_in new);
  whole = ap (count_by is_some) none ∙ sym (ap (λ (cs : Cells). length cs) none);
  few = omega (arith, ap (λ (cs : Cells). length cs) none);
}
  where
    none_at : (n k : ℕ) → ◌≡◌ {A = Option Cell} (get_or (replicate n None) k None) None
    none_at zero zero = refl
    none_at zero (suc k) = refl
    none_at (suc n) zero = refl
    none_at (suc n) (suc k) = none_at n k

    empty : (k : ℕ) (p : Cell) → cell_at cells k ≡ Some p → ⊥
    empty k p is = not_none p (sym is ∙ ap (λ cs. cell_at cs k) new ∙ none_at (3 * room) k)

-- a block is taken out
pub less_index : (cells kept less : Cells) (room place : ℕ) (p : Cell) → IsIndex cells kept room → cell_at kept place ≡ Some p → length less ≡ length cells → IsTable (home_of (2 * room)) less → frames_in less ≡ fin.remove (frames_in cells) (key_at p) → IsIndex less (swap_remove kept place (Some p)) room
less_index cells kept less room place p index is size table frames = record {
  table = table;
  size = size ∙ index.size;
  small = index.small;
  once = left_once kept place p is index.once;
  same = left_frames kept place p is index.once ∙ ap (λ m. fin.remove m (key_at p)) index.same ∙ sym frames;
  whole = left_whole kept place p is index.whole;
  few = omega (arith, index.few, left_few kept place p is);
}
