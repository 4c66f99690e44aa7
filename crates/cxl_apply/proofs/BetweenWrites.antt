-- Between two writes of a job the image is one of the same host, in which every block decodes that did.
use Rattle.std.proofs.Common.{◌≡◌, ℕ, zero, suc, ◌^◌, ◌<◌, true, List, [], ◌∷◌, get_or, map, Option, Some, None, refl, sym, ◌∙◌, subst, arith}
use Rattle.std.specs.Prelude.{slice_get, slice_set, All}
use Rattle.std.specs.List.{flat_map}
use Rattle.std.specs.Option.{option_map_or}
use Rattle.std.proofs.lemmas.List.Elements.{All-nil, All-cons, All-head, All-tail, All-append, All-from_recursion}
use Rattle.cxl_regs.specs.declared.decoder.Decoder.{Decoder}
use Rattle.cxl_regs.specs.Registers.{Registers, IsBlock, IsSameShape}
use Rattle.cxl_regs.specs.Words.{control_of}
use Rattle.cxl_regs.specs.Writes.{after_word}
use Rattle.cxl_regs.specs.declared.reading.Range.{Range}
use Rattle.cxl_regs.proofs.Fields.{bit_of_le}
use Rattle.cxl_model.specs.declared.found.Found.{Found}
use Rattle.cxl_model.specs.declared.plan.Row.{Row}
use Rattle.cxl_model.specs.System.{System, IsSystem}
use Rattle.cxl_model.specs.Accepted.{KeepsBlocks}
use Rattle.cxl_apply.specs.declared.write.Write.{Write}
use Rattle.cxl_apply.specs.Jobs.{unmarked, with_commit, HasWords, row_writes, release_write, CanCreate, CanRelease, AreCreateWrites, AreReleaseWrites, blocks_after_write, blocks_done, system_done}
use Rattle.cxl_apply.specs.Releases.{rows_of, first_locked, first_not_last}
use Rattle.cxl_apply.proofs.Words.{WordsLaw}
use Rattle.cxl_apply.proofs.Walks.{Walks, holds_at}
use Rattle.cxl_apply.proofs.JobWrites.{AllGood, FitsCreate, FitsRelease, good_put, all_at, create_walks, release_walks, all_falling, falling_apart, all_rising, rising_apart}
use Rattle.cxl_apply.proofs.Bounds.{length_done}
use Rattle.cxl_apply.proofs.BlockRules.{FirstLaw}
use Rattle.cxl_apply.proofs.Planned.{Planned, all_can}
use Rattle.cxl_apply.proofs.Freed.{all_can_release, all_rows}
use Rattle.cxl_apply.proofs.Shapes.{IsBlockAt, own_blocks, system_of_blocks, row_kept, Decodes, all_decode}

-- ---- the values are words

abbrev IsWord : Write → Type 0
IsWord write = write.value < 2 ^ 32

control_small : (d : Decoder) → d.gran < 16 → d.ways < 16 → control_of d < 2 ^ 32
control_small d gran ways =
    omega (arith, bit_of_le d.lock, bit_of_le d.commit, bit_of_le d.committed, bit_of_le d.error, bit_of_le d.host_only)

row_values : (blocks : List Registers) (row : Row) → HasWords row.decoder → All IsWord (row_writes blocks row)
row_values blocks row has =
    let base = has.base.wide in
    let size = has.size.wide in
    let tail = has.tail in
    All-from_recursion IsWord (row_writes blocks row) (
      omega arith,
      (omega arith, (omega arith, (omega arith, (omega arith, (omega arith, (control_small (unmarked row.decoder) has.gran has.ways, (control_small (with_commit row.decoder) has.gran has.ways, tt))))))),
    )

created_values : (blocks : List Registers) (rows : List Row) → All (λ (row : Row). HasWords row.decoder) rows → All IsWord (flat_map (row_writes blocks) rows)
created_values blocks [] has = All-nil IsWord
created_values blocks (row ∷ rest) has =
    All-append IsWord (row_writes blocks row) (flat_map (row_writes blocks) rest) (row_values blocks row (All-head (λ (r : Row). HasWords r.decoder) row rest has))
    (created_values blocks rest (All-tail (λ (r : Row). HasWords r.decoder) row rest has))

released_values : (rows : List Row) → All (λ (row : Row). (row.decoder.gran < 16) × (row.decoder.ways < 16)) rows → All IsWord (map release_write rows)
released_values [] small = All-nil IsWord
released_values (row ∷ rest) small =
    let codes = All-head (λ (r : Row). (r.decoder.gran < 16) × (r.decoder.ways < 16)) row rest small in
    All-cons IsWord (release_write row) (map release_write rest) (control_small (unmarked row.decoder) codes.0 codes.1)
    (released_values rest (All-tail (λ (r : Row). (r.decoder.gran < 16) × (r.decoder.ways < 16)) row rest small))

-- ---- the blocks stay those of their nodes

-- a write leaves a block of the same shape, and of words that a decoder can hold
abbrev pub ShapeLaw : Type 0
ShapeLaw = (block : Registers) (off v : ℕ) → IsSameShape block (after_word block off v).block

abbrev pub BlockLaw : Type 0
BlockLaw = (block : Registers) (off v : ℕ) → IsBlock block → v < 2 ^ 32 → IsBlock (after_word block off v).block

module _ (shapes : ShapeLaw) (leaves : BlockLaw) (s : System) where
  written_at : (write : Write) → IsWord write → (block : Registers) → IsBlockAt s write.node block → IsBlockAt s write.node (after_word block write.off write.value).block
  written_at write word block at =
      let shape = shapes block write.off write.value in
      record {
        is = leaves block write.off write.value at.is word;
        endpoint = at.endpoint ∙ sym shape.endpoint;
        of = λ node there. let own = at.of node there in record { cap = shape.cap ∙ own.cap; endpoint = shape.endpoint ∙ own.endpoint };
      }

  good_write : (blocks : List Registers) (write : Write) (o : Option Registers) → slice_get blocks write.node ≡ o → IsWord write → AllGood (IsBlockAt s) blocks
      → AllGood (IsBlockAt s) (option_map_or (λ block. slice_set blocks write.node (after_word block write.off write.value).block) o blocks)
  good_write blocks write None is word all = all
  good_write blocks write (Some block) is word all =
      good_put (IsBlockAt s) blocks write.node block (after_word block write.off write.value).block is all (written_at write word block (all write.node block is))

  good_done : (blocks : List Registers) (writes : List Write) (n : ℕ) → All IsWord writes → AllGood (IsBlockAt s) blocks → AllGood (IsBlockAt s) (blocks_done blocks writes n)
  good_done blocks [] zero words all = all
  good_done blocks [] (suc n) words all = all
  good_done blocks (w ∷ ws) zero words all = all
  good_done blocks (w ∷ ws) (suc n) words all =
      good_done (blocks_after_write blocks w) ws n (All-tail IsWord w ws words) (good_write blocks w (slice_get blocks w.node) refl (All-head IsWord w ws words) all)

  system_on_way : (writes : List Write) (n : ℕ) → IsSystem s → All IsWord writes → IsSystem (system_done s writes n)
  system_on_way writes n system words =
      system_of_blocks s (blocks_done s.blocks writes n) system (length_done s.blocks writes n) (good_done s.blocks writes n words (own_blocks s system))

  pub create_system : (rows : List Row) (writes : List Write) (n : ℕ) → IsSystem s → All (CanCreate s.blocks) rows → AreCreateWrites s.blocks rows writes → IsSystem (system_done s writes n)
  create_system rows writes n system can create =
      system_on_way writes n system
      (subst (All IsWord) (sym create.each)
      (created_values s.blocks create.falling
      (λ k d within. (all_falling (CanCreate s.blocks) rows create.falling create.order can k d within).kept)))

  pub release_system : (found : Found) (writes : List Write) (n : ℕ) → IsSystem s → AreReleaseWrites (rows_of s found) writes → IsSystem (system_done s writes n)
  release_system found writes n system is =
      system_on_way writes n system
      (subst (All IsWord) (sym is.each)
      (released_values is.rising
      (all_rising (λ (row : Row). (row.decoder.gran < 16) × (row.decoder.ways < 16)) (rows_of s found) is.rising is.order
      (all_rows s found (λ (row : Row). (row.decoder.gran < 16) × (row.decoder.ways < 16)) (λ m row there. let kept = row_kept s found m row system there in (kept.gran, kept.ways))))))

-- ---- every block decodes

pub create_decodes : WordsLaw → FirstLaw → (s : System) (r : Range) (rows : List Row) (writes : List Write) (n : ℕ) → Planned s r rows → AreCreateWrites s.blocks rows writes
    → All (λ (block : Registers). block.enabled ≡ true) (blocks_done s.blocks writes n)
create_decodes law first s r rows writes n is create =
    let own : AllGood Decodes s.blocks = λ m block here. all_at (λ (b : Registers). b.enabled ≡ true) s.blocks m block is.enabled here in
    let fits : All (FitsCreate Decodes s.blocks) rows = λ k e within. record {
      free = λ block d new free committed commit error. own (get_or rows k e).node block free.there.block_here;
      last = λ block d free. own (get_or rows k e).node block free.there.block_here;
    } in
    all_decode (blocks_done s.blocks writes n)
    (holds_at (AllGood Decodes) s.blocks writes n
    (subst (Walks (AllGood Decodes) s.blocks) (sym create.each)
    (create_walks law Decodes s.blocks is.are create.falling s.blocks (all_falling (CanCreate s.blocks) rows create.falling create.order (all_can first s r rows is))
    (all_falling (FitsCreate Decodes s.blocks) rows create.falling create.order fits) (falling_apart rows create.falling create.order) (λ k d within. refl) own)))

pub release_decodes : WordsLaw → (s : System) (found : Found) (writes : List Write) (n : ℕ) → All IsBlock s.blocks → KeepsBlocks s → first_locked s found ≡ None → first_not_last s found ≡ None
    → All (λ (block : Registers). block.enabled ≡ true) s.blocks → AreReleaseWrites (rows_of s found) writes → All (λ (block : Registers). block.enabled ≡ true) (blocks_done s.blocks writes n)
release_decodes law s found writes n are keeps unlocked last enabled is =
    let rows : List Row = rows_of s found in
    let own : AllGood Decodes s.blocks = λ m block here. all_at (λ (b : Registers). b.enabled ≡ true) s.blocks m block enabled here in
    let fits : All (FitsRelease Decodes s.blocks) rows = λ k e within. record { last = λ block bound. own (get_or rows k e).node block bound.there.block_here } in
    all_decode (blocks_done s.blocks writes n)
    (holds_at (AllGood Decodes) s.blocks writes n
    (subst (Walks (AllGood Decodes) s.blocks) (sym is.each)
    (release_walks law Decodes s.blocks are is.rising s.blocks (all_rising (CanRelease s.blocks) rows is.rising is.order (all_can_release s found keeps unlocked last))
    (all_rising (FitsRelease Decodes s.blocks) rows is.rising is.order fits) (rising_apart rows is.rising is.order) (λ k d within. refl) own)))
