-- The rows of a legal plan can be made, and their writes commit them.
use Rattle.std.proofs.Common.{◌≡◌, ℕ, zero, ◌%◌, ◌^◌, ◌<◌, Bool, true, false, cond, not, List, [], ◌∷◌, length, get_or, set, Option, Some, None, refl, sym, ap, ◌∙◌, subst, arith}
use Rattle.std.specs.Prelude.{slice_get, slice_set, All, Contains, IsSomeAnd, fold, option_map}
use Rattle.std.specs.Option.{option_map_or}
use Rattle.std.specs.List.{flat_map}
use Rattle.std.proofs.lemmas.Bool.{not-true}
use Rattle.std.proofs.lemmas.List.Elements.{All-head, All-tail, All-contains, Contains-get_or}
use Rattle.std.proofs.lemmas.List.Quantifiers.{position-Some}
use Rattle.std.proofs.lemmas.List.Sums.{fold-append}
use Rattle.std.proofs.lemmas.Option.{slice_get-get_or, slice_get_within}
use Rattle.cxl_enc.proofs.Lists.{get_same}
use Rattle.cxl_enc.proofs.Options.{and_some}
use Rattle.cxl_regs.specs.declared.decoder.Decoder.{Decoder}
use Rattle.cxl_regs.specs.declared.effect.CommitRule.{CommitRule}
use Rattle.cxl_regs.specs.Registers.{Registers, IsDecoder, IsBlock, reset_decoder}
use Rattle.cxl_image.specs.Images.{HasCapsOf}
use Rattle.cxl_regs.specs.Words.{low_half, high_half, top_bits}
use Rattle.cxl_regs.specs.Rules.{first_broken_rule}
use Rattle.cxl_regs.specs.Writes.{with_decoder, with_low, with_high}
use Rattle.cxl_model.specs.declared.plan.Row.{Row}
use Rattle.cxl_model.specs.declared.plan.Plan.{Plan}
use Rattle.cxl_model.specs.declared.request.Request.{Request}
use Rattle.cxl_model.specs.System.{System, IsSystem, decoders_at, ram_at, pmem_at}
use Rattle.cxl_regs.specs.declared.reading.Range.{Range}
use Rattle.cxl_model.specs.Accepted.{KeepsBlocks, IsAccepted}
use Rattle.cxl_model.specs.Regions.{region_range}
use Rattle.cxl_model.specs.Plans.{committed_row, block_with_row, with_rows, IsRow, IsLegalPlan}
use Rattle.cxl_model.proofs.RangeRules.{block_keeps}
use Rattle.cxl_span.specs.Breaches.{BlockKeeps}
use Rattle.cxl_span.proofs.RulesBroken.{kept_at}
use Rattle.cxl_apply.specs.declared.write.Write.{Write}
use Rattle.cxl_apply.specs.Jobs.{row_writes, CanCreate, AreOfDifferentNodes, AreCreateWrites, blocks_after_write, blocks_after_writes}
use Rattle.cxl_apply.proofs.Words.{WordsLaw, takes_words, takes_all_words}
use Rattle.cxl_apply.proofs.RowWrites.{IsFree, made7, made8, broken, tried, row_leads}
use Rattle.cxl_apply.proofs.JobWrites.{AreUntouched, free_of, free_in, apart_rest, untouched_rest, all_at, all_falling, falling_apart}
use Rattle.cxl_apply.proofs.BlockRules.{FirstLaw, clean_flags, no_rule, none_above_free, same_before}
use Rattle.cxl_apply.proofs.Folds.{change, get_fold_some, fold_order}
use Rattle.cxl_apply.proofs.Systems.{HasBlock, block_of, endpoint_is}

-- ---- a row of a plan

-- the decoder in a row's place
pub record HasPlace (s : System) (row : Row) : Type 0 where
  pub at : HasBlock s row.node
  pub d : Decoder
  pub here : slice_get at.block.decoders row.index ≡ Some d
  pub free : d.committed ≡ false

pub place_of_row : (s : System) (r : Range) (row : Row) → IsRow s r row → HasPlace s row
place_of_row s r row is =
    let found = position-Some (λ (d : Decoder). not d.committed) (decoders_at s row.node) row.index reset_decoder is.first in
    let at = block_of s row.node row.index found.0 in
    let within : row.index < length at.block.decoders = subst (λ (ds : List Decoder). row.index < length ds) at.decoders found.0 in
    record {
      at = at;
      d = get_or at.block.decoders row.index reset_decoder;
      here = slice_get-get_or at.block.decoders row.index reset_decoder within;
      free = not-true (get_or at.block.decoders row.index reset_decoder).committed (ap (λ (ds : List Decoder). not (get_or ds row.index reset_decoder).committed) (sym at.decoders) ∙ found.1);
    }

-- a row of a plan over an image that keeps its rules can be made
pub can_create : FirstLaw → (s : System) (r : Range) (row : Row) → KeepsBlocks s → IsRow s r row → CanCreate s.blocks row
can_create law s r row keeps is =
    let place = place_of_row s r row is in
    let block = place.at.block in
    let rules = block_keeps s keeps row.node block place.at.here in
    let flags = clean_flags place.d (kept_at block 3 (ram_at s row.node) (pmem_at s row.node) row.index place.d rules place.here) place.free in
    record {
      top = record {
        there = and_some (slice_get s.blocks row.node) (λ (b : Registers). row.index < length b.decoders) block place.at.here (slice_get_within block.decoders row.index place.d place.here);
        top = and_some (slice_get s.blocks row.node) (λ (b : Registers). (j : ℕ) (e : Decoder) → row.index < j → slice_get b.decoders j ≡ Some e → e.committed ≡ false) block place.at.here
            (λ j e above here. none_above_free law block (ram_at s row.node) (pmem_at s row.node) row.index j place.d e rules place.here place.free above here);
      };
      free = and_some (slice_get s.blocks row.node) (λ (b : Registers). IsSomeAnd (slice_get b.decoders row.index) (λ (d : Decoder). (d.committed ≡ false) × (d.commit ≡ false) × (d.error ≡ false))) block place.at.here
          (and_some (slice_get block.decoders row.index) (λ (d : Decoder). (d.committed ≡ false) × (d.commit ≡ false) × (d.error ≡ false)) place.d place.here (place.free, flags.1, flags.0));
      unlocked = is.unlocked;
      kept = record { base = is.kept.base; size = is.kept.size; ways = is.kept.ways; gran = is.kept.gran; tail = is.kept.tail };
    }

-- ---- what its writes leave

tail_taken : (e : Bool) (n m : ℕ) → (e ≡ true → m % 2 ^ 28 ≡ 0) → with_high (with_low n (cond e (top_bits (low_half m)) (low_half m))) (high_half m) ≡ m
tail_taken true n m aligned = takes_words n m (aligned refl)
tail_taken false n m aligned = takes_all_words n m

-- before its commit the decoder is the row's
pub row_made : (e : Bool) (d r : Decoder) → IsDecoder e r → r.commit ≡ false → r.committed ≡ false → r.error ≡ false → d.committed ≡ false → made7 e d r ≡ r
row_made e d r is commit committed error free =
    λ i. record r {
      base = takes_words d.base r.base is.base.multiple i;
      size = takes_words d.size r.size is.size.multiple i;
      tail = tail_taken e d.tail r.tail is.skip i;
      commit = sym commit i;
      committed = (free ∙ sym committed) i;
      error = sym error i;
    }

-- the commit rules look at no mark of a commit
same_rule : (block : Registers) (i : ℕ) (r : Decoder) → first_broken_rule (with_decoder block i (record r { commit = true; committed = true })) i (record r { commit = true; committed = true })
    ≡ first_broken_rule (with_decoder block i r) i r
same_rule block i r =
    rw (same_before block.decoders i i (record r { commit = true; committed = true }) (omega arith), same_before block.decoders i i r (omega arith)) refl

row_tried : (r : Decoder) (rule : Option CommitRule) → rule ≡ None → r.error ≡ false → tried rule r ≡ record r { commit = true; committed = true }
row_tried r rule none good = ap (λ (o : Option CommitRule). tried o r) none ∙ (λ i. record r { commit = true; committed = true; error = sym good i })

with_row_is : (row : Row) (block : Registers) → block.enabled ≡ true → block_with_row row block ≡ with_decoder block row.index (committed_row row)
with_row_is row block enabled = λ i. record block { enabled = sym enabled i; decoders = slice_set block.decoders row.index (committed_row row) }

-- a plan over an image that keeps its rules, with every block enabled
pub record Planned (s : System) (r : Range) (rows : List Row) : Type 0 where
  pub caps : HasCapsOf s.blocks s.nodes
  pub are : All IsBlock s.blocks
  pub keeps : KeepsBlocks s
  pub enabled : All (λ (block : Registers). block.enabled ≡ true) s.blocks
  pub each : All (IsRow s r) rows
  pub apart : AreOfDifferentNodes rows
  pub after : KeepsBlocks (with_rows s rows)

-- the block of a row with the row committed
pub with_row_keeps : (s : System) (r : Range) (rows : List Row) (row : Row) (block : Registers) → Planned s r rows → Contains rows row → slice_get s.blocks row.node ≡ Some block
    → BlockKeeps (with_decoder block row.index (committed_row row)) (ram_at s row.node) (pmem_at s row.node)
with_row_keeps s r rows row block is there here =
    let changed : slice_get (with_rows s rows).blocks row.node ≡ Some (block_with_row row block) = get_fold_some block_with_row rows s.blocks row is.apart there ∙ ap (option_map (block_with_row row)) here in
    let enabled : block.enabled ≡ true = all_at (λ (b : Registers). b.enabled ≡ true) s.blocks row.node block is.enabled here in
    subst (λ (b : Registers). BlockKeeps b (ram_at s row.node) (pmem_at s row.node)) (with_row_is row block enabled)
    (block_keeps (with_rows s rows) is.after row.node (block_with_row row block) changed)

-- its commit is the row's
pub row_commits : (s : System) (r : Range) (rows : List Row) (row : Row) (block : Registers) (d : Decoder) → Planned s r rows → Contains rows row → IsFree s.blocks row block d
    → made8 block row.index d row.decoder ≡ committed_row row
row_commits s r rows row block d is there free =
    let one : IsRow s r row = All-contains (IsRow s r) rows row is.each there in
    let kept : IsDecoder block.endpoint row.decoder = subst (λ (b : Bool). IsDecoder b row.decoder) (endpoint_is s row.node block is.caps free.there.block_here) one.kept in
    let made : made7 block.endpoint d row.decoder ≡ row.decoder = row_made block.endpoint d row.decoder kept one.uncommitted.0 one.uncommitted.1 one.uncommitted.2 free.committed in
    let within : row.index < length block.decoders = slice_get_within block.decoders row.index d free.there.here in
    let rule : broken block row.index d row.decoder ≡ None =
    ap (λ (x : Decoder). first_broken_rule (with_decoder block row.index x) row.index x) made ∙ sym (same_rule block row.index row.decoder)
    ∙ no_rule (with_decoder block row.index (committed_row row)) (ram_at s row.node) (pmem_at s row.node) row.index (committed_row row) (with_row_keeps s r rows row block is there free.there.block_here)
    (get_same block.decoders row.index (committed_row row) within) refl in
    ap (tried (broken block row.index d row.decoder)) made ∙ row_tried row.decoder (broken block row.index d row.decoder) rule one.uncommitted.2

-- ---- all rows

-- a row's writes change its block so
abbrev pub Changes : (Row → Registers → Registers) → List Registers → Row → Type 0
Changes g settled row = (block : Registers) (d : Decoder) → IsFree settled row block d → with_decoder block row.index (made8 block row.index d row.decoder) ≡ g row block

abbrev Anything : List Registers → Type 0
Anything blocks = Unit {0}

pub create_ends : WordsLaw → (g : Row → Registers → Registers) (settled : List Registers) → All IsBlock settled → (rows : List Row) (blocks : List Registers) → All (CanCreate settled) rows → All (Changes g settled) rows
    → AreOfDifferentNodes rows → AreUntouched settled blocks rows → blocks_after_writes blocks (flat_map (row_writes settled) rows) ≡ fold (change g) blocks rows
create_ends law g settled are [] blocks can changes apart same = refl
create_ends law g settled are (row ∷ rest) blocks can changes apart same =
    fold-append blocks_after_write blocks (row_writes settled row) (flat_map (row_writes settled) rest)
    ∙ ap (λ (b : List Registers). blocks_after_writes b (flat_map (row_writes settled) rest)) written
    ∙ create_ends law g settled are rest next (All-tail (CanCreate settled) row rest can) (All-tail (Changes g settled) row rest changes) (apart_rest row rest apart) (untouched_rest settled blocks row rest (g row block) apart same)
    ∙ ap (λ (b : List Registers). fold (change g) b rest) (sym changed)
  where
    known : (block : Registers) × (d : Decoder) × IsFree settled row block d
    known = free_of law settled row are (All-head (CanCreate settled) row rest can)

    block : Registers
    block = known.0

    next : List Registers
    next = set blocks row.node (g row block)

    here : slice_get blocks row.node ≡ slice_get settled row.node
    here = same zero row (omega arith)

    written : blocks_after_writes blocks (row_writes settled row) ≡ next
    written =
        (row_leads Anything settled blocks row block known.1 (free_in settled blocks row block known.1 here known.2) known.2.there (record { free = λ new u v w. tt; last = tt })).ends
        ∙ ap (set blocks row.node) (All-head (Changes g settled) row rest changes block known.1 known.2)

    changed : change g blocks row ≡ next
    changed = ap (λ (o : Option Registers). option_map_or (λ b. slice_set blocks row.node (g row b)) o blocks) (here ∙ known.2.there.block_here)

pub all_can : FirstLaw → (s : System) (r : Range) (rows : List Row) → Planned s r rows → All (CanCreate s.blocks) rows
all_can law s r rows is = λ k d within. can_create law s r (get_or rows k d) is.keeps (is.each k d within)

-- all writes of the create commit the rows
pub all_committed : WordsLaw → FirstLaw → (s : System) (r : Range) (rows : List Row) (writes : List Write) → Planned s r rows → AreCreateWrites s.blocks rows writes → blocks_after_writes s.blocks writes ≡ (with_rows s rows).blocks
all_committed law first s r rows writes is create =
    ap (blocks_after_writes s.blocks) create.each
    ∙ create_ends law block_with_row s.blocks is.are create.falling s.blocks (all_falling (CanCreate s.blocks) rows create.falling create.order (all_can first s r rows is))
    (all_falling (Changes block_with_row s.blocks) rows create.falling create.order changes) (falling_apart rows create.falling create.order) (λ k d within. refl)
    ∙ fold_order block_with_row create.falling rows s.blocks (falling_apart rows create.falling create.order) is.apart (λ row. (create.order.same row).1) (λ row. (create.order.same row).0)
  where
    changes : All (Changes block_with_row s.blocks) rows
    changes = λ k d within block e free.
        let row : Row = get_or rows k d in
        let enabled : block.enabled ≡ true = all_at (λ (b : Registers). b.enabled ≡ true) s.blocks row.node block is.enabled free.there.block_here in
        ap (with_decoder block row.index) (row_commits s r rows row block e is (Contains-get_or rows k d within) free) ∙ sym (with_row_is row block enabled)

-- ---- legal plans

pub plan_apart : (s : System) (request : Request) (plan : Plan) → IsLegalPlan s request plan → AreOfDifferentNodes plan.rows
plan_apart s request plan is = λ i j d less within e. let rises = is.1.rows_of.rising i j d less within in omega (arith, e)

pub planned : (s : System) (request : Request) (plan : Plan) → IsSystem s → IsAccepted s → All (λ (block : Registers). block.enabled ≡ true) s.blocks → IsLegalPlan s request plan
    → Planned s (region_range plan.found) plan.rows
planned s request plan system accepted enabled is = record {
  caps = system.caps;
  are = system.blocks;
  keeps = λ rule n i low. accepted.each rule n i;
  enabled = enabled;
  each = λ k d within. is.1.each_row (get_or plan.rows k d) (Contains-get_or plan.rows k d within);
  apart = plan_apart s request plan is;
  after = λ rule n i low. is.1.accepted.each rule n i;
}
