-- An accepted image is accepted again without a region's decoders.
use Rattle.std.proofs.Common.{◌≡◌, ◌≢◌, ◌⊎◌, ℕ, ◌+◌, ◌<◌, true, false, List, [], ◌∷◌, length, get_or, set, map, drop, Option, Some, None, refl, sym, ap, ◌∙◌, subst, inl, inr, arith}
use Rattle.std.specs.Option.{option_map_or}
use Rattle.std.specs.Prelude.{slice_get, slice_set, All, Contains, fold, option_map}
use Rattle.std.proofs.lemmas.Bool.{cases_eq, cases_order, false≢true}
use Rattle.std.proofs.lemmas.List.{take_all}
use Rattle.std.proofs.lemmas.List.Elements.{All-set}
use Rattle.std.proofs.lemmas.List.Folds.{Any-from_list_any, list_any-from_Any}
use Rattle.std.proofs.lemmas.List.Quantifiers.{position-Some}
use Rattle.std.proofs.lemmas.Option.{slice_get-get_or, slice_get_within, get_or_from_slice_get, same_Some, none-some}
use Rattle.cxl_enc.proofs.Lists.{get_same, get_other}
use Rattle.cxl_enc.proofs.Options.{cases_Option}
use Rattle.cxl_regs.specs.declared.decoder.Decoder.{Decoder}
use Rattle.cxl_regs.specs.Registers.{Registers, IsBlock, reset_decoder}
use Rattle.cxl_regs.specs.Writes.{any_committed}
use Rattle.cxl_model.specs.declared.found.Found.{Found}
use Rattle.cxl_model.specs.declared.plan.Row.{Row}
use Rattle.cxl_model.specs.System.{System, decoders_at, decoder_at}
use Rattle.cxl_regs.specs.declared.reading.Range.{Range}
use Rattle.cxl_regs.specs.Reading.{has_range}
use Rattle.cxl_model.specs.Ranges.{index_for, IsCommittedRange}
use Rattle.cxl_model.specs.Accepted.{KeepsBlocks, IsWhole, IsAccepted}
use Rattle.cxl_model.specs.Changes.{HaveSameDecoders}
use Rattle.cxl_model.specs.Regions.{region_range}
use Rattle.cxl_model.proofs.OtherBlocks.{decoders_are}
use Rattle.cxl_model.proofs.ImageLaws.{AcceptedLaw}
use Rattle.cxl_apply.specs.declared.write.Write.{Write}
use Rattle.cxl_apply.specs.Jobs.{release_write, AreReleaseWrites, blocks_after_writes, blocks_done}
use Rattle.cxl_apply.specs.Releases.{row_for, rows_of, first_locked, first_not_last, released, block_without_row, blocks_without, system_without}
use Rattle.cxl_apply.proofs.Words.{WordsLaw}
use Rattle.cxl_apply.proofs.JobWrites.{AllGood, all_at}
use Rattle.cxl_apply.proofs.Bounds.{length_done}
use Rattle.cxl_apply.proofs.BlockRules.{each_above}
use Rattle.cxl_apply.proofs.Folds.{change, get_fold_none, get_fold_some}
use Rattle.cxl_apply.proofs.Systems.{block_of}
use Rattle.cxl_apply.proofs.Freed.{IsRowFor, row_parts, no_position, all_rows, row_there, rows_apart, rows_rise, IsLast, last_rows, InBlock, in_block, range_parts, HasRange, all_released}
use Rattle.cxl_apply.proofs.Staying.{StaysAt, stays_keep, stays_same, release_good}

-- ---- the whole release

-- the rows of a region, in their order, make the writes of its release
own_writes : (s : System) (found : Found) → AreReleaseWrites (rows_of s found) (map release_write (rows_of s found))
own_writes s found = record { rising = rows_of s found; order = record { order = rows_rise s found; same = λ row. ((λ there. there), (λ there. there)) }; each = refl }

-- a region whose decoders can be released
pub record CanGo (s : System) (found : Found) : Type 0 where
  pub are : All IsBlock s.blocks
  pub count : length s.blocks ≡ length s.nodes
  pub keeps : KeepsBlocks s
  pub unlocked : first_locked s found ≡ None
  pub last : first_not_last s found ≡ None

pub without_good : WordsLaw → (s : System) (found : Found) → CanGo s found → AllGood (StaysAt s (region_range found)) (blocks_without s found) × (length (blocks_without s found) ≡ length s.blocks)
without_good law s found can =
    let writes : List Write = map release_write (rows_of s found) in
    let whole : blocks_done s.blocks writes (length writes) ≡ blocks_without s found =
    ap (blocks_after_writes s.blocks) (take_all (length writes) writes (omega arith)) ∙ all_released law s found writes can.are can.keeps can.unlocked can.last (own_writes s found) in (
      subst (AllGood (StaysAt s (region_range found))) whole (release_good law s found writes (length writes) can.are can.keeps can.unlocked can.last (own_writes s found)),
      ap (λ (b : List Registers). length b) (sym whole) ∙ length_done s.blocks writes (length writes),
    )

-- ---- no decoder has the range any more

-- where a node has no decoder of the range there is no row, and its block stays
no_row : (s : System) (found : Found) (n : ℕ) → index_for s (region_range found) n ≡ None → slice_get (blocks_without s found) n ≡ slice_get s.blocks n
no_row s found n none =
    get_fold_none block_without_row (rows_of s found) s.blocks n
    (all_rows s found (λ (row : Row). row.node ≢ n) (λ m row is e.
    let parts : IsRowFor s (region_range found) m row = row_parts s (region_range found) m row is in
    let same : m ≡ n = sym parts.node ∙ e in
    none-some row.index (sym none ∙ ap (index_for s (region_range found)) (sym same) ∙ parts.index)))

-- the row of a node that has one
pub record RowAt (s : System) (r : Range) (n : ℕ) : Type 0 where
  pub row : Row
  pub is : row_for s r n ≡ Some row
  pub node : row.node ≡ n

pub row_at : (s : System) (r : Range) (n i : ℕ) → index_for s r n ≡ Some i → RowAt s r n
row_at s r n i at =
    let found = position-Some (has_range r) (decoders_at s n) i reset_decoder at in
    let d : Decoder = get_or (decoders_at s n) i reset_decoder in
    let here : decoder_at s n i ≡ Some d = slice_get-get_or (decoders_at s n) i reset_decoder found.0 in
    record { row = record { node = n; index = i; decoder = d }; is = rw at (rw here refl); node = refl }

gone_at_row : (s : System) (found : Found) (row : Row) (j : ℕ) (d : Decoder) → IsLast s (region_range found) row → Contains (rows_of s found) row
    → decoder_at (system_without s found) row.node j ≡ Some d → has_range (region_range found) d ≡ true → ⊥
gone_at_row s found row j d last there at has =
    elim (cases_order j row.index) [
      | inl e ↦
          let same : released row.decoder ≡ d = same_Some (released row.decoder) d (sym (get_same block.decoders row.index (released row.decoder) within) ∙ ap (slice_get (set block.decoders row.index (released row.decoder))) (sym e) ∙ mine) in
          false≢true (ap (λ (x : Decoder). x.committed) same ∙ is.committed)
      | inr rest ↦ elim rest [
        | inl less ↦
            let old : slice_get block.decoders j ≡ Some d = sym (get_other block.decoders row.index j (released row.decoder) (λ e. omega (arith, e))) ∙ mine in
            let first = (position-Some (has_range r) (decoders_at s row.node) row.index d last.is.index).2 j less in
            let value : get_or (decoders_at s row.node) j d ≡ d = ap (λ (ds : List Decoder). get_or ds j d) own.decoders ∙ get_or_from_slice_get block.decoders j d d old in
            false≢true (sym first ∙ ap (has_range r) value ∙ has)
        | inr more ↦
            let old : slice_get block.decoders j ≡ Some d = sym (get_other block.decoders row.index j (released row.decoder) (λ e. omega (arith, e))) ∙ mine in
            let top : any_committed (drop (row.index + 1) block.decoders) ≡ false = ap (λ (ds : List Decoder). any_committed (drop (row.index + 1) ds)) (sym own.decoders) ∙ last.top in
            false≢true (sym (each_above block.decoders row.index j d top more old) ∙ is.committed)
      ]
    ]
  where
    r : Range
    r = region_range found

    is : HasRange (region_range found) d
    is = range_parts (region_range found) d has

    own : InBlock s row
    own = in_block s (region_range found) row last.is

    block : Registers
    block = own.block

    within : row.index < length block.decoders
    within = slice_get_within block.decoders row.index row.decoder own.here

    changed : slice_get (blocks_without s found) row.node ≡ Some (block_without_row row block)
    changed = get_fold_some block_without_row (rows_of s found) s.blocks row (rows_apart s found) there ∙ ap (option_map (block_without_row row)) own.block_here

    mine : slice_get (set block.decoders row.index (released row.decoder)) j ≡ Some d
    mine = ap (λ (ds : List Decoder). slice_get ds j) (sym (decoders_are (system_without s found) row.node (block_without_row row block) changed)) ∙ at

-- no committed decoder has the range that was released
pub none_left : (s : System) (found : Found) → CanGo s found → (n j : ℕ) (d : Decoder) → decoder_at (system_without s found) n j ≡ Some d → has_range (region_range found) d ≡ true → ⊥
none_left s found can n j d at has =
    elim (cases_Option (index_for s (region_range found) n)) [
      | inl none ↦
          let stays = no_row s found n none in
          let new = block_of (system_without s found) n j (slice_get_within (decoders_at (system_without s found) n) j d at) in
          let old : decoder_at s n j ≡ Some d = ap (λ (ds : List Decoder). slice_get ds j) (decoders_are s n new.block (sym stays ∙ new.here) ∙ sym new.decoders) ∙ at in
          no_position (has_range (region_range found)) (decoders_at s n) j d none old has
      | inr some ↦
          let at_row : RowAt s (region_range found) n = row_at s (region_range found) n some.0 some.1 in
          let row : Row = at_row.row in
          let parts = row_parts s (region_range found) n row at_row.is in
          let own = block_of s n row.index (slice_get_within (decoders_at s n) row.index row.decoder parts.here) in
          let within : n < length s.nodes = let low = slice_get_within s.blocks n own.block own.here in let count = can.count in omega arith in
          let there : Contains (rows_of s found) row = row_there s found n row within at_row.is in
          gone_at_row s found row j d (last_of s found row can there) there (ap (λ (m : ℕ). decoder_at (system_without s found) m j) at_row.node ∙ at) has
    ]
  where
    last_of : (s : System) (found : Found) (row : Row) → CanGo s found → Contains (rows_of s found) row → IsLast s (region_range found) row
    last_of s found row can there = subst (IsLast s (region_range found)) there.2 (last_rows s found can.unlocked can.last there.0 row there.1)

-- a committed range is another one
pub other_range : (s : System) (found : Found) → CanGo s found → (r : Range) → IsCommittedRange (system_without s found) r → r ≢ region_range found
other_range s found can r committed e =
    let t : System = system_without s found in
    let at = Any-from_list_any (has_range r) (decoders_at t committed.0) committed.1 in
    let d : Decoder = at.1 in
    let here : decoder_at t committed.0 at.0 ≡ Some d = slice_get-get_or (decoders_at t committed.0) at.0 d at.2 ∙ ap (λ (x : Decoder). Some x) at.3 in
    none_left s found can committed.0 at.0 d here (ap (λ (x : Range). has_range x d) (sym e) ∙ at.4)

-- ---- every other range stays whole

-- a committed range of which another image has the same decoders is one there
pub old_range : (s t : System) (r : Range) → HaveSameDecoders s t r → IsCommittedRange t r → IsCommittedRange s r
old_range s t r same committed =
    let found_at = Any-from_list_any (has_range r) (decoders_at t committed.0) committed.1 in
    let d : Decoder = found_at.1 in
    let here : decoder_at t committed.0 found_at.0 ≡ Some d = slice_get-get_or (decoders_at t committed.0) found_at.0 d found_at.2 ∙ ap (λ (x : Decoder). Some x) found_at.3 in
    let there : decoder_at s committed.0 found_at.0 ≡ Some d = same.back committed.0 found_at.0 found_at.0 d here found_at.4 (omega arith) ∙ here in (
      committed.0,
      list_any-from_Any (has_range r) (decoders_at s committed.0)
          (found_at.0, d, slice_get_within (decoders_at s committed.0) found_at.0 d there, get_or_from_slice_get (decoders_at s committed.0) found_at.0 d d there, found_at.4),
    )

pub same_range : (r other : Range) → (r ≡ other) ⊎ (r ≢ other)
same_range r other =
    elim (cases_eq r.base other.base) [
      | inl base ↦ elim (cases_eq r.size other.size) [
        | inl size ↦ inl (λ i. record { base = base i; size = size i })
        | inr apart ↦ inr (λ e. apart (ap (λ (x : Range). x.size) e))
      ]
      | inr apart ↦ inr (λ e. apart (ap (λ (x : Range). x.base) e))
    ]

abbrev pub WholeLaw : Type 0
WholeLaw = (s t : System) (r : Range) → HaveSameDecoders s t r → KeepsBlocks t → IsWhole s r → IsWhole t r

pub accepted_again : WordsLaw → AcceptedLaw → WholeLaw → (s : System) (found : Found) → CanGo s found → IsAccepted s → IsAccepted (system_without s found)
accepted_again law where_whole stays s found can accepted = (where_whole t).1 (keeps, whole)
  where
    t : System
    t = system_without s found

    good : AllGood (StaysAt s (region_range found)) (blocks_without s found) × (length (blocks_without s found) ≡ length s.blocks)
    good = without_good law s found can

    keeps : KeepsBlocks t
    keeps = stays_keep s (region_range found) (blocks_without s found) can.keeps good.1 good.0

    whole : (r : Range) → IsCommittedRange t r → IsWhole t r
    whole r committed =
        elim (same_range r (region_range found)) [
          | inl e ↦
              absurd (other_range s found can r committed e)
          | inr apart ↦
              let same = stays_same s (region_range found) r (blocks_without s found) good.1 good.0 apart in
              stays s t r same keeps (((where_whole s).0 accepted).1 r (old_range s t r same committed))
        ]

-- ---- blocks that decode

abbrev Enabled : List Registers → Type 0
Enabled blocks = All (λ (block : Registers). block.enabled ≡ true) blocks

enabled_after : (blocks : List Registers) (row : Row) (o : Option Registers) → slice_get blocks row.node ≡ o → Enabled blocks → Enabled (option_map_or (λ block. slice_set blocks row.node (block_without_row row block)) o blocks)
enabled_after blocks row None is enabled = enabled
enabled_after blocks row (Some block) is enabled =
    All-set (λ (b : Registers). b.enabled ≡ true) blocks row.node (block_without_row row block) (all_at (λ (b : Registers). b.enabled ≡ true) blocks row.node block enabled is) enabled

pub enabled_again : (rows : List Row) (blocks : List Registers) → Enabled blocks → Enabled (fold (change block_without_row) blocks rows)
enabled_again [] blocks enabled = enabled
enabled_again (row ∷ rest) blocks enabled = enabled_again rest (change block_without_row blocks row) (enabled_after blocks row (slice_get blocks row.node) refl enabled)
