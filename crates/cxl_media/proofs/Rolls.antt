-- The places of both media are a roll of their blocks.
use Rattle.std.proofs.Common.{◌≡◌, ℕ, zero, suc, ◌<◌, true, List, [], ◌∷◌, map, length, get_or, Option, None, Some, is_some, refl, sym, ap, subst, ◌∙◌, inl, inr, arith}
use Rattle.std.specs.Option.{option_map}
use Rattle.std.proofs.lemmas.Bool.{false≢true}
use Rattle.std.proofs.lemmas.List.{get_or-map, length-map}
use Rattle.std.specs.FinMap as fin
use Rattle.std.specs.FinMap.{find, from_entries}
use Rattle.cxl_media.specs.Pool.{Frames}
use Rattle.cxl_media.specs.declared.cell.Cell.{Cell}
use Rattle.cxl_media.specs.Blocks.{Key, key_cmp}
use Rattle.cxl_media.specs.Roll.{key_at_place, IsRoll}
use Rattle.cxl_media.specs.declared.map_media.Block.{Block}
use Rattle.cxl_media.specs.MapInside.{Plain, plain_roll, item_of, items_of, AreKeysDistinct}
use Rattle.cxl_media.specs.Table.{Cells, key_at, cell_at, items_in, frames_in, IsOnce}
use Rattle.cxl_media.specs.Sim.{sim_of, blocks_of}
use Rattle.cxl_media.proofs.Keys.{key_total, keys_cases, not_none, same_some, find_here, find_later}
use Rattle.cxl_media.proofs.Tables.{find_item, find_nowhere_stands, get_frames, stands_cases}
use Rattle.cxl_media.proofs.Gap.{cell_within}
use Rattle.cxl_media.proofs.Sims.{held_by, get_block}

module _ {X : Type 0} where
  -- a place for each item
  abbrev places : List (Key × X) → List (Option Key)
  places es = map (λ e. Some e.0) es

  -- what stands at a place is found
  item_found : (es : List (Key × X)) (i : ℕ) (key : Key) → key_at_place (places es) i ≡ Some key → is_some (find key_cmp key es) ≡ true
  item_found [] i key is = absurd (not_none key (sym is))
  item_found (e ∷ es) zero key is = ap is_some (find_here key e es (sym (same_some e.0 key is)))
  item_found (e ∷ es) (suc i) key is =
      elim (keys_cases key e.0) [
        | inl here ↦ ap is_some (find_here key e es here)
        | inr other ↦ ap is_some (find_later key e es other) ∙ item_found es i key is
      ]

  -- what is found stands at a place
  item_place : (es : List (Key × X)) (key : Key) → is_some (find key_cmp key es) ≡ true → (i : ℕ) × (key_at_place (places es) i ≡ Some key)
  item_place [] key there = absurd (false≢true there)
  item_place (e ∷ es) key there =
      elim (keys_cases key e.0) [
        | inl here ↦ (0, ap (λ (k : Key). Some k) (sym here))
        | inr other ↦
            let later = item_place es key (sym (ap is_some (find_later key e es other)) ∙ there) in
            (suc later.0, later.1)
      ]

  -- a key does not stand at the first place and again
  item_apart : (e : Key × X) (es : List (Key × X)) (i : ℕ) (key : Key) → find key_cmp e.0 es ≡ None → Some e.0 ≡ Some key → key_at_place (places es) i ≡ Some key → ⊥
  item_apart e es i key none first again =
      false≢true (sym (ap is_some none) ∙ ap (λ k. is_some (find key_cmp k es)) (same_some e.0 key first) ∙ item_found es i key again)

  item_once : (es : List (Key × X)) → AreKeysDistinct es → (i j : ℕ) (key : Key) → key_at_place (places es) i ≡ Some key → key_at_place (places es) j ≡ Some key → i ≡ j
  item_once [] distinct i j key one two = absurd (not_none key (sym one))
  item_once (e ∷ es) distinct zero zero key one two = refl
  item_once (e ∷ es) distinct zero (suc j) key one two = absurd (item_apart e es j key distinct.0 one two)
  item_once (e ∷ es) distinct (suc i) zero key one two = absurd (item_apart e es i key distinct.0 two one)
  item_once (e ∷ es) distinct (suc i) (suc j) key one two = ap suc (item_once es distinct.1 i j key one two)

pub plain_lists : (es : List (Key × List ℕ)) → AreKeysDistinct es → IsRoll (map (λ e. Some e.0) es) (from_entries es)
plain_lists es distinct = record {
  held = λ i key is. ap is_some (fin.get-from_entries key_total es key) ∙ item_found es i key is;
  all = λ key there. item_place es key (sym (ap is_some (fin.get-from_entries key_total es key)) ∙ there);
  once = item_once es distinct;
}

-- a block tells its key
item_told : (blocks : List Block) (i : ℕ) (b : Block) → i < length blocks → b ≡ get_or blocks i b → Some (b.ep, b.number) ≡ key_at_place (map (λ e. Some e.0) (items_of blocks)) i
item_told blocks i b within read =
    let place = get_or-map (λ (e : Key × List ℕ). Some e.0) (items_of blocks) i (item_of b) None (omega (arith, length-map blocks item_of)) in
    ap (λ (c : Block). Some (c.ep, c.number)) read
    ∙ sym (place ∙ ap (λ (e : Key × List ℕ). Some e.0) (get_or-map item_of blocks i b (item_of b) within))

pub plain_told : (blocks : List Block) (frames : ℕ) (p : Plain) (i : ℕ) (b : Block) → ◌≡◌ {A = Plain} (record { items = items_of blocks; frames = frames }) p → i < length (plain_roll p) → b ≡ get_or blocks i b → Some (b.ep, b.number) ≡ key_at_place (plain_roll p) i
plain_told blocks frames p i b view within read =
    subst (λ (q : Plain). i < length (plain_roll q) → Some (b.ep, b.number) ≡ key_at_place (plain_roll q) i) view
    (λ inside. item_told blocks i b (omega (arith, inside, length-map (items_of blocks) (λ (e : Key × List ℕ). Some e.0), length-map blocks item_of)) read)
    within

-- a place tells its block
cell_told : (cells : Cells) (i : ℕ) (p : Cell) → cell_at cells i ≡ Some p → key_at_place (map (option_map key_at) cells) i ≡ Some (key_at p)
cell_told cells i p is =
    get_or-map (option_map key_at) cells i None None (cell_within cells i p is) ∙ ap (option_map key_at) is

told_cell : (cells : Cells) (i : ℕ) (key : Key) → key_at_place (map (option_map key_at) cells) i ≡ Some key → (p : Cell) × (cell_at cells i ≡ Some p) × (key_at p ≡ key)
told_cell [] i key is = absurd (not_none key (sym is))
told_cell (None ∷ cells) zero key is = absurd (not_none key (sym is))
told_cell (Some p ∷ cells) zero key is = (p, refl, same_some (key_at p) key is)
told_cell (o ∷ cells) (suc i) key is = told_cell cells i key is

-- a block is in the map exactly where it has a frame
there_framed : (pool : Frames) (cells : Cells) (key : Key) → is_some (fin.get (blocks_of (sim_of pool cells)) key) ≡ is_some (find key_cmp key (items_in cells))
there_framed pool cells key =
    ap is_some (get_block (sim_of pool cells) key) ∙ mapped (fin.get (frames_in cells) key) ∙ ap is_some (get_frames cells key)
  where
    mapped : (o : Option ℕ) → is_some (option_map (held_by pool) o) ≡ is_some o
    mapped None = refl
    mapped (Some n) = refl

pub shipped_lists : (pool : Frames) (cells : Cells) → IsOnce cells → IsRoll (map (option_map key_at) cells) (blocks_of (sim_of pool cells))
shipped_lists pool cells cells_once = record {
  held = λ i key is.
      let told = told_cell cells i key is in
      there_framed pool cells key ∙ ap is_some (find_item cells i told.0 key cells_once told.1 told.2);
  all = λ key there. by_case key (sym (there_framed pool cells key) ∙ there);
  once = λ i j key one two.
      let first = told_cell cells i key one in
      let second = told_cell cells j key two in
      cells_once i j first.0 second.0 first.1 second.1 (first.2 ∙ sym second.2);
}
  where
    by_case : (key : Key) → is_some (find key_cmp key (items_in cells)) ≡ true → (i : ℕ) × (key_at_place (map (option_map key_at) cells) i ≡ Some key)
    by_case key there =
        elim (stands_cases cells key) [
          | inl stands ↦ (stands.1.at, cell_told cells stands.1.at stands.0 stands.1.is ∙ ap (λ (k : Key). Some k) stands.1.key)
          | inr nowhere ↦ absurd (false≢true (sym (ap is_some (find_nowhere_stands cells key nowhere)) ∙ there))
        ]
