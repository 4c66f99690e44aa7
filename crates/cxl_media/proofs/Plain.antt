-- What plain media holds after a block was written, added or dropped.
use Rattle.std.proofs.Common.{◌≡◌, ℕ, ◌+◌, ◌-◌, ◌<◌, ◌≤◌, Bool, true, false, cond, not, List, [], ◌∷◌, ◌++◌, length, get_or, set, unwrap_or, Option, None, Some, is_some, refl, sym, ap, subst, ◌∙◌, arith}
use Rattle.std.specs.Prelude.{filter}
use Rattle.std.proofs.lemmas.List.{map-set, map-append, get_or-map, length-map, length-set, length_push}
use Rattle.std.proofs.lemmas.List.Sums.{length-filter, count_by-le-length}
use Rattle.std.specs.FinMap as fin
use Rattle.std.specs.FinMap.{find}
use Rattle.cxl_media.specs.Pool.{zeros}
use Rattle.cxl_media.specs.declared.map_media.Block.{Block}
use Rattle.cxl_media.specs.Blocks.{Key, key_cmp, Blocks, block_at, frames_needed, is_between, scrubbed}
use Rattle.cxl_media.specs.MediaState.{MediaState}
use Rattle.cxl_media.specs.MapInside.{plain_state, item_of, items_of, AreKeysDistinct, IsItemAt, IsPlain}
use Rattle.cxl_media.proofs.Keys.{key_total, key_exact}
use Rattle.cxl_media.proofs.Items.{find_at, distinct-set, distinct-push, distinct-filter, set_is_insert, filter_is_retain, len_distinct}

-- the blocks of the map
abbrev pub held : List Block → Blocks
held items = fin.from_entries (items_of items)

module _ (items : List Block) (q : Key) where
  -- a block that stands at a place
  module _ (at : ℕ) (is : IsItemAt (items_of items) q at) (distinct : AreKeysDistinct (items_of items)) where
    pub place_within : at < length items
    place_within = omega (arith, is.within, length-map items item_of)

    pub get_here : (d : Block) → fin.get (held items) q ≡ Some (get_or items at d).bytes
    get_here d =
        let entry = get_or-map item_of items at d (item_of d) place_within in
        fin.get-from_entries key_total (items_of items) q
        ∙ ap (λ k. find key_cmp k (items_of items)) (sym (is.is (item_of d)))
        ∙ find_at (items_of items) at (item_of d) is.within distinct
        ∙ ap (λ (e : Key × List ℕ). Some e.1) entry

    pub block_here : (d : Block) → block_at (held items) q ≡ (get_or items at d).bytes
    block_here d = ap (λ o. unwrap_or o zeros) (get_here d)

    pub needed_here : (d : Block) → frames_needed (held items) q ≡ 0
    needed_here d = ap (λ (o : Option (List ℕ)). cond (is_some o) 0 1) (get_here d)

  -- one that stands nowhere
  module _ (none : find key_cmp q (items_of items) ≡ None) where
    get_nowhere : fin.get (held items) q ≡ None
    get_nowhere = fin.get-from_entries key_total (items_of items) q ∙ none

    pub block_nowhere : block_at (held items) q ≡ zeros
    block_nowhere = ap (λ o. unwrap_or o zeros) get_nowhere

    pub needed_nowhere : frames_needed (held items) q ≡ 1
    needed_nowhere = ap (λ (o : Option (List ℕ)). cond (is_some o) 0 1) get_nowhere

-- what the fields stand for
abbrev pub held_in : List Block → ℕ → MediaState
held_in items frames = plain_state (record { items = items_of items; frames = frames })

-- the same, in the words of the code: h is what contracts see, and xs the blocks as a slice
module _ (items xs : List Block) (room frames : ℕ) (h : MediaState) (q : Key) (view : held_in items frames ≡ h) (same : xs ≡ items) (inside : IsPlain items room frames) where
  module _ (at : ℕ) (is : IsItemAt (items_of xs) q at) where
    is_here : IsItemAt (items_of items) q at
    is_here = subst (λ (bs : List Block). IsItemAt (items_of bs) q at) same is

    pub at_within : at < length items
    at_within = place_within items q at is_here inside.distinct

    pub block_is : (b : Block) → b ≡ get_or items at b → block_at h.blocks q ≡ b.bytes
    block_is b read = ap (λ (k : MediaState). block_at k.blocks q) (sym view) ∙ block_here items q at is_here inside.distinct b ∙ ap (λ (c : Block). c.bytes) (sym read)

    pub none_needed : (b : Block) → frames_needed h.blocks q ≡ 0
    none_needed b = ap (λ (k : MediaState). frames_needed k.blocks q) (sym view) ∙ needed_here items q at is_here inside.distinct b

    -- another block under the same key is written over it
    module _ (b w : Block) (read : b ≡ get_or items at b) (ep : w.ep ≡ b.ep) (number : w.number ≡ b.number) where
      item_read : (get_or (items_of items) at (item_of b)).0 ≡ (b.ep, b.number)
      item_read = ap (λ (e : Key × List ℕ). e.0) (get_or-map item_of items at b (item_of b) at_within) ∙ ap (λ (c : Block). (c.ep, c.number)) (sym read)

      key_kept : (item_of w).0 ≡ (get_or (items_of items) at (item_of b)).0
      key_kept = cc (item_read, ep, number)

      pub rewritten_blocks : held (set items at w) ≡ fin.insert h.blocks q w.bytes
      rewritten_blocks =
          ap fin.from_entries (map-set item_of items at w)
          ∙ set_is_insert (items_of items) at (item_of w) (item_of b) is_here.within key_kept inside.distinct
          ∙ ap (λ k. fin.insert (held items) k w.bytes) (key_kept ∙ is_here.is (item_of b))
          ∙ ap (λ (k : MediaState). fin.insert k.blocks q w.bytes) view

      pub rewritten_inside : IsPlain (set items at w) room frames
      rewritten_inside = record {
        distinct = subst (λ (es : List (Key × List ℕ)). AreKeysDistinct es) (sym (map-set item_of items at w)) (distinct-set (items_of items) at (item_of w) (item_of b) is_here.within key_kept inside.distinct);
        few = rw length-set inside.few;
        fits = inside.fits;
        small = inside.small;
      }

  module _ (none : find key_cmp q (items_of xs) ≡ None) where
    none_here : find key_cmp q (items_of items) ≡ None
    none_here = subst (λ (bs : List Block). find key_cmp q (items_of bs) ≡ None) same none

    pub block_is_zeros : block_at h.blocks q ≡ zeros
    block_is_zeros = ap (λ (k : MediaState). block_at k.blocks q) (sym view) ∙ block_nowhere items q none_here

    pub one_needed : frames_needed h.blocks q ≡ 1
    one_needed = ap (λ (k : MediaState). frames_needed k.blocks q) (sym view) ∙ needed_nowhere items q none_here

    -- a block with this key is added
    module _ (w : Block) (ep : w.ep ≡ q.0) (number : w.number ≡ q.1) where
      key : (w.ep, w.number) ≡ q
      key = λ i. (ep i, number i)

      pub added_blocks : held (items ++ w ∷ []) ≡ fin.insert h.blocks q w.bytes
      added_blocks =
          ap fin.from_entries (map-append item_of items (w ∷ []))
          ∙ fin.from_entries_push key_total key_exact (items_of items) (w.ep, w.number) w.bytes (ap (λ k. find key_cmp k (items_of items)) key ∙ none_here)
          ∙ ap (λ k. fin.insert (held items) k w.bytes) key
          ∙ ap (λ (k : MediaState). fin.insert k.blocks q w.bytes) view

      pub added_inside : length items < frames → IsPlain (items ++ w ∷ []) room frames
      added_inside more = record {
        distinct = subst (λ (es : List (Key × List ℕ)). AreKeysDistinct es) (sym (map-append item_of items (w ∷ []))) (distinct-push (items_of items) (w.ep, w.number) w.bytes (ap (λ k. find key_cmp k (items_of items)) key ∙ none_here) inside.distinct);
        few = omega (arith, length_push items w, more);
        fits = inside.fits;
        small = inside.small;
      }

-- the items of the blocks that pass
items-filter : (p : Key → Bool) (items : List Block) → items_of (filter (λ b. p (b.ep, b.number)) items) ≡ filter (λ e. p e.0) (items_of items)
items-filter p [] = refl
items-filter p (b ∷ rest) =
    let later = items-filter p rest in
    elim (p (b.ep, b.number)) as (λ t. items_of (cond t (b ∷ filter (λ c. p (c.ep, c.number)) rest) (filter (λ c. p (c.ep, c.number)) rest)) ≡ cond t (item_of b ∷ filter (λ e. p e.0) (items_of rest)) (filter (λ e. p e.0) (items_of rest))) [
      | true ↦ ap (λ es. item_of b ∷ es) later
      | false ↦ later
    ]

-- the blocks between two addresses of an endpoint are dropped
module _ (items kept : List Block) (room frames : ℕ) (h : MediaState) (ep from to : ℕ) (view : held_in items frames ≡ h) (inside : IsPlain items room frames) (is : kept ≡ filter (λ b. not (is_between ep from to (b.ep, b.number))) items) where
  items_kept : items_of kept ≡ filter (λ e. not (is_between ep from to e.0)) (items_of items)
  items_kept = ap items_of is ∙ items-filter (λ k. not (is_between ep from to k)) items

  distinct_kept : AreKeysDistinct (items_of kept)
  distinct_kept = subst (λ (es : List (Key × List ℕ)). AreKeysDistinct es) (sym items_kept) (distinct-filter (λ k. not (is_between ep from to k)) (items_of items) inside.distinct)

  pub kept_blocks : held kept ≡ scrubbed h.blocks ep from to
  kept_blocks =
      ap fin.from_entries items_kept
      ∙ filter_is_retain (λ k. not (is_between ep from to k)) (items_of items)
      ∙ ap (λ (k : MediaState). scrubbed k.blocks ep from to) view

  few_kept : length kept ≤ length items
  few_kept = omega (arith, ap length is, length-filter (λ (b : Block). not (is_between ep from to (b.ep, b.number))) items, count_by-le-length (λ (b : Block). not (is_between ep from to (b.ep, b.number))) items)

  pub kept_inside : (space : ℕ) → space ≡ room → IsPlain kept space frames
  kept_inside space same = record {
    distinct = distinct_kept;
    few = omega (arith, few_kept, inside.few);
    fits = omega (arith, inside.fits);
    small = inside.small;
  }

  -- as many frames are freed as blocks are dropped
  pub kept_frames : (frames - length (items_of kept)) + fin.len (held kept) ≡ h.free + fin.len h.blocks
  kept_frames =
      omega (
        arith,
        few_kept,
        inside.few,
        len_distinct (items_of kept) distinct_kept,
        length-map kept item_of,
        len_distinct (items_of items) inside.distinct,
        length-map items item_of,
        ap (λ (k : MediaState). k.free) view,
        ap (λ (k : MediaState). fin.len k.blocks) view,
      )
