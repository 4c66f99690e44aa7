-- Between two writes of a job the rules K1 to K8 hold, and the decoders of every other range are as they were.
use Rattle.std.proofs.Common.{◌≡◌, ◌≢◌, ℕ, ◌+◌, ◌<◌, ◌≤◌, true, false, List, length, get_or, set, drop, Option, Some, None, refl, sym, ap, ◌∙◌, subst, inl, inr, arith}
use Rattle.std.specs.Prelude.{slice_get, All, Contains, option_map}
use Rattle.std.proofs.lemmas.Bool.{cases_order, false≢true}
use Rattle.std.proofs.lemmas.List.Elements.{Contains-get_or}
use Rattle.std.proofs.lemmas.Option.{slice_get_within, same_Some, none-some}
use Rattle.cxl_enc.proofs.Lists.{get_same, get_other, item}
use Rattle.cxl_regs.specs.declared.decoder.Decoder.{Decoder}
use Rattle.cxl_regs.specs.Registers.{Registers, IsBlock}
use Rattle.cxl_regs.specs.Writes.{any_committed, with_decoder}
use Rattle.cxl_span.specs.Breaches.{BlockKeeps}
use Rattle.cxl_model.specs.declared.found.Found.{Found}
use Rattle.cxl_model.specs.declared.plan.Row.{Row}
use Rattle.cxl_model.specs.System.{System, decoders_at, ram_at, pmem_at}
use Rattle.cxl_regs.specs.declared.reading.Range.{Range}
use Rattle.cxl_regs.specs.Reading.{range_of}
use Rattle.cxl_model.specs.Accepted.{KeepsBlocks}
use Rattle.cxl_model.specs.Changes.{HaveSameDecoders}
use Rattle.cxl_model.specs.Plans.{committed_row}
use Rattle.cxl_model.specs.Regions.{region_range}
use Rattle.cxl_model.proofs.RangeRules.{block_keeps}
use Rattle.cxl_model.proofs.OtherBlocks.{decoders_are, keeps_again}
use Rattle.cxl_apply.specs.declared.write.Write.{Write}
use Rattle.cxl_apply.specs.Jobs.{CanCreate, CanRelease, AreCreateWrites, AreReleaseWrites, blocks_done}
use Rattle.cxl_apply.specs.Releases.{rows_of, first_locked, first_not_last}
use Rattle.cxl_apply.proofs.Words.{WordsLaw}
use Rattle.cxl_apply.proofs.Walks.{Walks, holds_at}
use Rattle.cxl_apply.proofs.RowWrites.{let_go, made8}
use Rattle.cxl_apply.proofs.JobWrites.{AllGood, FitsCreate, FitsRelease, create_walks, release_walks, all_falling, falling_apart, all_rising, rising_apart}
use Rattle.cxl_apply.proofs.BlockRules.{FirstLaw, each_above, clean_keeps}
use Rattle.cxl_apply.proofs.Systems.{block_of}
use Rattle.cxl_apply.proofs.Planned.{Planned, all_can, row_commits, with_row_keeps}
use Rattle.cxl_apply.proofs.Freed.{HasRange, range_parts, row_has_range, IsLast, last_rows, all_can_release}

-- ---- a block on the way

-- the committed decoders of other ranges, and all below each, stand in the other list too
abbrev KeepsOthers : Range → List Decoder → List Decoder → Type 0
KeepsOthers r ds es = (i j : ℕ) (d : Decoder) → slice_get ds i ≡ Some d → d.committed ≡ true → range_of d ≢ r → j ≤ i → slice_get es j ≡ slice_get ds j

-- the block of node m keeps its rules, and its decoders of other ranges are as they were
pub record StaysAt (s : System) (r : Range) (m : ℕ) (new : Registers) : Type 0 where
  pub block : Registers
  pub was : slice_get s.blocks m ≡ Some block
  pub cap : new.cap ≡ block.cap
  pub keeps : BlockKeeps new (ram_at s m) (pmem_at s m)
  pub there : KeepsOthers r block.decoders new.decoders
  pub back : KeepsOthers r new.decoders block.decoders

unchanged : (s : System) (r : Range) → KeepsBlocks s → AllGood (StaysAt s r) s.blocks
unchanged s r keeps m block here = record {
  block = block;
  was = here;
  cap = refl;
  keeps = block_keeps s keeps m block here;
  there = λ i j d at committed other low. refl;
  back = λ i j d at committed other low. refl;
}

-- another decoder in the place of the last committed one, or of one above: each of no range or of the job's
changed : (s : System) (r : Range) (m i : ℕ) (block : Registers) (old new : Decoder) → slice_get s.blocks m ≡ Some block → slice_get block.decoders i ≡ Some old
    → any_committed (drop (i + 1) block.decoders) ≡ false → (old.committed ≡ true → range_of old ≡ r) → (new.committed ≡ true → range_of new ≡ r)
    → BlockKeeps (with_decoder block i new) (ram_at s m) (pmem_at s m) → StaysAt s r m (with_decoder block i new)
changed s r m i block old new here at top was is keeps = record {
  block = block;
  was = here;
  cap = refl;
  keeps = keeps;
  there = λ k j d there committed other low.
      elim (cases_order k i) [
        | inl e ↦
            let same : old ≡ d = same_Some old d (sym at ∙ ap (slice_get block.decoders) (sym e) ∙ there) in
            absurd (other (ap range_of (sym same) ∙ was (ap (λ (x : Decoder). x.committed) same ∙ committed)))
        | inr rest ↦ elim rest [
          | inl less ↦ get_other block.decoders i j new (λ e. omega (arith, e))
          | inr more ↦ absurd (false≢true (sym (each_above block.decoders i k d top more there) ∙ committed))
        ]
      ];
  back = λ k j d there committed other low.
      elim (cases_order k i) [
        | inl e ↦
            let same : new ≡ d = same_Some new d (sym (get_same block.decoders i new (slice_get_within block.decoders i old at)) ∙ ap (slice_get (set block.decoders i new)) (sym e) ∙ there) in
            absurd (other (ap range_of (sym same) ∙ is (ap (λ (x : Decoder). x.committed) same ∙ committed)))
        | inr rest ↦ elim rest [
          | inl less ↦ sym (get_other block.decoders i j new (λ e. omega (arith, e)))
          | inr more ↦
              let mine : slice_get block.decoders k ≡ Some d = sym (get_other block.decoders i k new (λ e. omega (arith, e))) ∙ there in
              absurd (false≢true (sym (each_above block.decoders i k d top more mine) ∙ committed))
        ]
      ];
}

-- ---- an image on the way

stays_caps : (s : System) (r : Range) (blocks : List Registers) → length blocks ≡ length s.blocks → AllGood (StaysAt s r) blocks → (n : ℕ) (o : Option Registers) → slice_get blocks n ≡ o
    → option_map (λ (b : Registers). b.cap) o ≡ option_map (λ (b : Registers). b.cap) (slice_get s.blocks n)
stays_caps s r blocks long good n None is =
    none_too (slice_get s.blocks n) refl
  where
    none_too : (o : Option Registers) → slice_get s.blocks n ≡ o → None ≡ option_map (λ (b : Registers). b.cap) o
    none_too None at = refl
    none_too (Some b) at =
        let within : n < length s.blocks = slice_get_within s.blocks n b at in
        let some = item blocks n (omega arith) in
        absurd (none-some some.0 (sym is ∙ some.1))
stays_caps s r blocks long good n (Some new) is =
    let stays = good n new is in ap (λ (c : ℕ). Some c) stays.cap ∙ sym (ap (λ (o : Option Registers). option_map (λ (b : Registers). b.cap) o) stays.was)

pub stays_keep : (s : System) (r : Range) (blocks : List Registers) → KeepsBlocks s → length blocks ≡ length s.blocks → AllGood (StaysAt s r) blocks → KeepsBlocks (record s { blocks = blocks })
stays_keep s r blocks keeps long good =
    keeps_again s blocks keeps long (λ n. stays_caps s r blocks long good n (slice_get blocks n) refl) (λ n block here. (good n block here).keeps)

-- the decoders of another range are the same
pub stays_same : (s : System) (r other : Range) (blocks : List Registers) → length blocks ≡ length s.blocks → AllGood (StaysAt s r) blocks → other ≢ r → HaveSameDecoders s (record s { blocks = blocks }) other
stays_same s r other blocks long good apart = record {
  nodes = refl;
  windows = refl;
  there = λ n i j d at has low.
      let mine = block_of s n i (slice_get_within (decoders_at s n) i d at) in
      let within : n < length s.blocks = slice_get_within s.blocks n mine.block mine.here in
      let new = item blocks n (omega arith) in
      let stays = good n new.0 new.1 in
      let same : mine.block ≡ stays.block = same_Some mine.block stays.block (sym mine.here ∙ stays.was) in
      let is = range_parts other d has in
      let ds : decoders_at s n ≡ stays.block.decoders = mine.decoders ∙ ap (λ (b : Registers). b.decoders) same in
      ap (λ (xs : List Decoder). slice_get xs j) (decoders_are t n new.0 new.1)
      ∙ stays.there i j d (ap (λ (xs : List Decoder). slice_get xs i) (sym ds) ∙ at) is.committed (λ e. apart (sym is.is ∙ e)) low
      ∙ ap (λ (xs : List Decoder). slice_get xs j) (sym ds);
  back = λ n i j d at has low.
      let new = block_of t n i (slice_get_within (decoders_at t n) i d at) in
      let stays = good n new.block new.here in
      let is = range_parts other d has in
      ap (λ (xs : List Decoder). slice_get xs j) (decoders_are s n stays.block stays.was)
      ∙ stays.back i j d (ap (λ (xs : List Decoder). slice_get xs i) (sym new.decoders) ∙ at) is.committed (λ e. apart (sym is.is ∙ e)) low
      ∙ ap (λ (xs : List Decoder). slice_get xs j) (sym new.decoders);
}
  where
    t : System
    t = record s { blocks = blocks }

-- ---- a create

create_fits : (s : System) (r : Range) (rows : List Row) → Planned s r rows → All (FitsCreate (StaysAt s r) s.blocks) rows
create_fits s r rows is = λ k e within.
    let row : Row = get_or rows k e in
    let there : Contains rows row = Contains-get_or rows k e within in
    record {
      free = λ block d new free committed commit error.
          changed s r row.node row.index block d new free.there.block_here free.there.here free.top (λ set. absurd (false≢true (sym free.committed ∙ set))) (λ set. absurd (false≢true (sym committed ∙ set)))
          (clean_keeps block (ram_at s row.node) (pmem_at s row.node) row.index new (block_keeps s is.keeps row.node block free.there.block_here) (slice_get_within block.decoders row.index d free.there.here) free.top committed commit error);
      last = λ block d free.
          let commits : made8 block row.index d row.decoder ≡ committed_row row = row_commits s r rows row block d is there free in
          changed s r row.node row.index block d (made8 block row.index d row.decoder) free.there.block_here free.there.here free.top (λ set. absurd (false≢true (sym free.committed ∙ set)))
          (λ set. ap range_of commits ∙ (is.each k e within).range)
          (subst (λ (x : Decoder). BlockKeeps (with_decoder block row.index x) (ram_at s row.node) (pmem_at s row.node)) (sym commits) (with_row_keeps s r rows row block is there free.there.block_here));
    }

pub create_good : WordsLaw → FirstLaw → (s : System) (r : Range) (rows : List Row) (writes : List Write) (n : ℕ) → Planned s r rows → AreCreateWrites s.blocks rows writes → AllGood (StaysAt s r) (blocks_done s.blocks writes n)
create_good law first s r rows writes n is create =
    holds_at (AllGood (StaysAt s r)) s.blocks writes n
    (subst (Walks (AllGood (StaysAt s r)) s.blocks) (sym create.each)
    (create_walks law (StaysAt s r) s.blocks is.are create.falling s.blocks (all_falling (CanCreate s.blocks) rows create.falling create.order (all_can first s r rows is))
    (all_falling (FitsCreate (StaysAt s r) s.blocks) rows create.falling create.order (create_fits s r rows is)) (falling_apart rows create.falling create.order) (λ k d within. refl) (unchanged s r is.keeps)))

-- ---- a release

release_fits : (s : System) (found : Found) → KeepsBlocks s → first_locked s found ≡ None → first_not_last s found ≡ None → All (FitsRelease (StaysAt s (region_range found)) s.blocks) (rows_of s found)
release_fits s found keeps unlocked last = λ k e within.
    let row : Row = get_or (rows_of s found) k e in
    let is : IsLast s (region_range found) row = last_rows s found unlocked last k e within in
    let has : HasRange (region_range found) row.decoder = range_parts (region_range found) row.decoder (row_has_range s (region_range found) row.node row is.is) in
    record {
      last = λ block bound.
          changed s (region_range found) row.node row.index block row.decoder (let_go row.decoder) bound.there.block_here bound.there.here bound.top (λ set. has.is) (λ set. has.is)
          (clean_keeps block (ram_at s row.node) (pmem_at s row.node) row.index (let_go row.decoder) (block_keeps s keeps row.node block bound.there.block_here)
          (slice_get_within block.decoders row.index row.decoder bound.there.here) bound.top refl refl bound.error);
    }

pub release_good : WordsLaw → (s : System) (found : Found) (writes : List Write) (n : ℕ) → All IsBlock s.blocks → KeepsBlocks s → first_locked s found ≡ None → first_not_last s found ≡ None
    → AreReleaseWrites (rows_of s found) writes → AllGood (StaysAt s (region_range found)) (blocks_done s.blocks writes n)
release_good law s found writes n are keeps unlocked last is =
    let rows : List Row = rows_of s found in
    holds_at (AllGood (StaysAt s (region_range found))) s.blocks writes n
    (subst (Walks (AllGood (StaysAt s (region_range found))) s.blocks) (sym is.each)
    (release_walks law (StaysAt s (region_range found)) s.blocks are is.rising s.blocks (all_rising (CanRelease s.blocks) rows is.rising is.order (all_can_release s found keeps unlocked last))
    (all_rising (FitsRelease (StaysAt s (region_range found)) s.blocks) rows is.rising is.order (release_fits s found keeps unlocked last)) (rising_apart rows is.rising is.order) (λ k d within. refl)
    (unchanged s (region_range found) keeps)))
