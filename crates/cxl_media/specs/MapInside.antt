-- What plain media holds, and what its fields stand for.
use Rattle.std.specs.Prelude.{◌≡◌, ℕ, ◌-◌, ◌^◌, ◌<◌, ◌≤◌, List, [], ◌∷◌, map, length, slice_index_or, Option, None, Some, refl}
use Rattle.std.specs.Coded.{Coded, code_by, coded×, coded_ℕ, coded_list}
use Rattle.std.specs.FinMap.{from_entries, find}
use Rattle.cxl_media.specs.Blocks.{Key, key_cmp}
use Rattle.cxl_media.specs.MediaState.{MediaState}
use Rattle.cxl_media.specs.declared.map_media.Block.{Block}

-- the blocks in the order in which they came, each under its key, and how many frames there are
pub record Plain : Type 0 where
  pub items : List (Key × List ℕ)
  pub frames : ℕ

-- as a pair
abbrev pub coded_plain : Coded Plain
coded_plain =
    code_by (List (Key × List ℕ) × ℕ) (coded× (coded_list (coded× (coded× coded_ℕ coded_ℕ) (coded_list coded_ℕ))) coded_ℕ)
    (λ p. (p.items, p.frames)) (λ p. record { items = p.0; frames = p.1 }) (λ _. refl)

-- a frame for each block is not free
abbrev pub plain_state : Plain → MediaState
plain_state p = record { blocks = from_entries p.items; free = p.frames - length p.items }

-- a place for each block
abbrev pub plain_roll : Plain → List (Option Key)
plain_roll p = map (λ item. Some item.0) p.items

-- the key of a block, and its bytes
abbrev pub item_of : Block → Key × List ℕ
item_of block = ((block.ep, block.number), block.bytes)

-- the blocks, each under its key
abbrev pub items_of : List Block → List (Key × List ℕ)
items_of blocks = map item_of blocks

-- no key stands twice
abbrev pub AreKeysDistinct : {X : Type 0} → List (Key × X) → Type 0
AreKeysDistinct [] = Unit {0}
AreKeysDistinct (e ∷ es) = (find key_cmp e.0 es ≡ None) × AreKeysDistinct es

-- the item at this index has this key
pub record IsItemAt {X : Type 0} (es : List (Key × X)) (key : Key) (at : ℕ) : Type 0 where
  pub within : at < length es
  pub is : (d : Key × X) → (slice_index_or es at d).0 ≡ key

-- each block once, and room for as many as there are frames
pub record IsPlain (blocks : List Block) (room frames : ℕ) : Type 0 where
  pub distinct : AreKeysDistinct (items_of blocks)
  pub few : length blocks ≤ frames
  pub fits : frames ≤ room
  pub small : frames < 2 ^ 32
