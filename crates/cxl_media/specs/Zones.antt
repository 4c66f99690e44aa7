-- The blocks by zone, of 2 ^ 20 blocks of an endpoint: a chain through the frames of all blocks whose zones have one home.
use Rattle.std.specs.Prelude.{◌≡◌, ℕ, ◌/◌, ◌^◌, ◌<◌, List, length, slice_index, slice_index_or, slice_set, Some}
use Rattle.std.proofs.Common.{zero, suc}
use Rattle.std.specs.FinMap.{FinMap, get}
use Rattle.cxl_media.specs.Blocks.{Key, key_cmp}
use Rattle.cxl_media.specs.Hash.{home_of}
use Rattle.cxl_media.specs.declared.zones.Node.{Node}

-- what stands for a frame that no block had so far
abbrev pub no_node : Node
no_node = record { number = 0; ep = 0; next = 0; before = 0 }

-- what is kept of a frame, by its number
abbrev pub node_at : List Node → ℕ → Node
node_at nodes n = slice_index_or nodes n no_node

-- the block of a frame
abbrev pub key_of_node : Node → Key
key_of_node node = (node.ep, node.number)

-- the home of a block's zone
abbrev pub zone_home : ℕ → Key → ℕ
zone_home homes key = home_of homes (key.0, key.1 / 2 ^ 20)

-- So many steps along a chain. A place on it is 0 at its end, and else one more than the number of a frame.
abbrev pub steps : (ℕ → ℕ) → ℕ → ℕ → ℕ
steps next zero at = at
steps next (suc k) zero = 0
steps next (suc k) (suc n) = steps next k (next n)

-- a frame that is met from a place on
abbrev pub IsAhead : (ℕ → ℕ) → ℕ → ℕ → Type 0
IsAhead next at n = (k : ℕ) × (steps next k at ≡ suc n)

-- Frames on chains, one for each home: the first of a chain has none before it, each other one is what the one before
-- it names, and no chain goes round.
pub record AreLinked (kept : ℕ → Type 0) (home next before firsts : ℕ → ℕ) : Type 0 where
  pub depth : ℕ → ℕ
  pub first : (n : ℕ) → kept n → before n ≡ 0 → firsts (home n) ≡ suc n
  pub after : (n g : ℕ) → kept n → before n ≡ suc g → kept g × (home g ≡ home n) × (next g ≡ suc n) × (depth g < depth n)
  pub head : (h g : ℕ) → firsts h ≡ suc g → kept g × (home g ≡ h) × (before g ≡ 0)
  pub later : (n g : ℕ) → kept n → next n ≡ suc g → kept g × (home g ≡ home n) × (before g ≡ suc n)

-- a frame's place behind another, or none, is written, and the other's place before it
abbrev pub put_next : List Node → ℕ → ℕ → List Node
put_next nodes zero next = nodes
put_next nodes (suc n) next = slice_set nodes n (record (node_at nodes n) { next = next })

abbrev pub put_before : List Node → ℕ → ℕ → List Node
put_before nodes zero before = nodes
put_before nodes (suc n) before = slice_set nodes n (record (node_at nodes n) { before = before })

-- the frame has the block that its node tells
abbrev pub HasItsBlock : FinMap key_cmp ℕ → List Node → ℕ → Type 0
HasItsBlock frames nodes n = get frames (key_of_node (node_at nodes n)) ≡ Some n

-- which frame is behind another, by numbers
abbrev pub nexts : List Node → ℕ → ℕ
nexts nodes n = (node_at nodes n).next

-- each frame of a block tells it, and stands on the chain of its zone's home
pub record AreZoned (frames : FinMap key_cmp ℕ) (homes : ℕ) (firsts : List ℕ) (nodes : List Node) : Type 0 where
  pub key : (q : Key) (n : ℕ) → get frames q ≡ Some n → key_of_node (node_at nodes n) ≡ q
  pub within : (q : Key) (n : ℕ) → get frames q ≡ Some n → n < length nodes
  pub links : AreLinked (HasItsBlock frames nodes) (λ n. zone_home homes (key_of_node (node_at nodes n))) (nexts nodes) (λ n. (node_at nodes n).before) (slice_index firsts)
  pub size : length firsts ≡ homes
