-- The decoders of a region can be released, and the writes of its release leave the image without them.
use Rattle.std.proofs.Common.{◌≡◌, ℕ, zero, suc, ◌+◌, ◌<◌, ◌≤◌, Bool, true, false, ◌&&◌, List, [], ◌∷◌, length, get_or, set, map, drop, Option, Some, None, refl, sym, ap, ◌∙◌, subst, inl, inr, arith}
use Rattle.std.specs.Prelude.{slice_get, slice_set, All, AllPairs, Contains, fold, find, position, option_map, option_and_then, ◌==◌}
use Rattle.std.specs.Option.{option_map_or}
use Rattle.std.specs.List.{filter_map, cons_option, range_with_len, position_or_len}
use Rattle.std.proofs.lemmas.Bool.{cases_Bool, cases_lt, cases_eq, eqb-true, and_parts, cond-true, cond-false, lt-ltb, false≢true}
use Rattle.std.proofs.lemmas.List.Elements.{All-nil, All-cons, All-head, All-tail, Contains-append_right}
use Rattle.std.proofs.lemmas.List.Quantifiers.{position-Some}
use Rattle.std.proofs.lemmas.List.Sums.{fails_before_first}
use Rattle.std.proofs.lemmas.Option.{slice_get_within, get_or_from_slice_get, same_Some, none-some}
use Rattle.cxl_enc.proofs.Options.{and_some}
use Rattle.cxl_regs.specs.declared.decoder.Decoder.{Decoder}
use Rattle.cxl_regs.specs.Registers.{Registers, IsBlock}
use Rattle.cxl_regs.specs.Rules.{first_broken_rule}
use Rattle.cxl_regs.specs.Writes.{any_committed}
use Rattle.cxl_model.specs.declared.found.Found.{Found}
use Rattle.cxl_model.specs.declared.plan.Row.{Row}
use Rattle.cxl_model.specs.System.{System, decoders_at, decoder_at, ram_at, pmem_at}
use Rattle.cxl_regs.specs.declared.reading.Range.{Range}
use Rattle.cxl_regs.specs.Reading.{range_of, has_range}
use Rattle.cxl_span.proofs.RulesBroken.{kept_at}
use Rattle.cxl_model.specs.Ranges.{index_for}
use Rattle.cxl_model.specs.Accepted.{KeepsBlocks}
use Rattle.cxl_model.specs.Regions.{region_range}
use Rattle.cxl_model.proofs.RangeRules.{block_keeps}
use Rattle.cxl_apply.specs.declared.write.Write.{Write}
use Rattle.cxl_apply.specs.Jobs.{release_write, CanRelease, AreOfDifferentNodes, AreReleaseWrites, blocks_after_write, blocks_after_writes}
use Rattle.cxl_apply.specs.Releases.{row_for, rows_of, first_locked, first_not_last, block_without_row, blocks_without}
use Rattle.cxl_apply.proofs.Words.{WordsLaw}
use Rattle.cxl_apply.proofs.RowWrites.{IsBound, release_leads}
use Rattle.cxl_apply.proofs.JobWrites.{AreUntouched, bound_of, bound_in, apart_rest, untouched_rest, all_rising, rising_apart}
use Rattle.cxl_apply.proofs.BlockRules.{set_flags, no_rule, each_above}
use Rattle.cxl_apply.proofs.Folds.{change, fold_order}
use Rattle.cxl_apply.proofs.Systems.{block_of}

-- ---- the rows of a range

-- what a row of the range is
pub record IsRowFor (s : System) (r : Range) (n : ℕ) (row : Row) : Type 0 where
  pub node : row.node ≡ n
  pub index : index_for s r n ≡ Some row.index
  pub here : decoder_at s n row.index ≡ Some row.decoder

pub row_parts : (s : System) (r : Range) (n : ℕ) (row : Row) → row_for s r n ≡ Some row → IsRowFor s r n row
row_parts s r n row is = go (index_for s r n) refl is
  where
    with_decoder_of : (i : ℕ) (o : Option Decoder) → index_for s r n ≡ Some i → decoder_at s n i ≡ o → option_map (λ d. record { node = n; index = i; decoder = d }) o ≡ Some row → IsRowFor s r n row
    with_decoder_of i None at none is = absurd (none-some row is)
    with_decoder_of i (Some d) at there is =
        let whole : Row = record { node = n; index = i; decoder = d } in
        let same : whole ≡ row = same_Some whole row is in
        subst (IsRowFor s r n) same (record { node = refl; index = at; here = there })

    go : (o : Option ℕ) → index_for s r n ≡ o → option_and_then (λ i. option_map (λ d. record { node = n; index = i; decoder = d }) (decoder_at s n i)) o ≡ Some row → IsRowFor s r n row
    go None none is = absurd (none-some row is)
    go (Some i) at is = with_decoder_of i (decoder_at s n i) at refl is

-- where there is no position none passes
pub no_position : (p : Decoder → Bool) (ds : List Decoder) (j : ℕ) (d : Decoder) → position p ds ≡ None → slice_get ds j ≡ Some d → p d ≡ true → ⊥
no_position p ds j d none here passes =
    elim (cases_lt (position_or_len p ds) (length ds)) [
      | inl some ↦ none-some (position_or_len p ds) (sym none ∙ cond-true _ (Some (position_or_len p ds)) None (lt-ltb (position_or_len p ds) (length ds) some))
      | inr past ↦
          let within : j < length ds = slice_get_within ds j d here in
          let fails = fails_before_first p ds j d (omega arith) in
          false≢true (sym fails ∙ ap p (get_or_from_slice_get ds j d d here) ∙ passes)
    ]

-- ---- lists of rows by node

all_more : (P : Row → Type 0) (rows : List Row) (o : Option Row) → ((row : Row) → o ≡ Some row → P row) → All P rows → All P (cons_option o rows)
all_more P rows None first rest = rest
all_more P rows (Some row) first rest = All-cons P row rows (first row refl) rest

all_found : (P : Row → Type 0) (f : ℕ → Option Row) → ((n : ℕ) (row : Row) → f n ≡ Some row → P row) → (ns : List ℕ) → All P (filter_map f ns)
all_found P f each [] = All-nil P
all_found P f each (n ∷ ns) = all_more P (filter_map f ns) (f n) (each n) (all_found P f each ns)

abbrev Rises : List Row → Type 0
Rises rows = AllPairs (λ (row next : Row). row.node < next.node) rows

rises_cons : (row : Row) (rest : List Row) → All (λ (next : Row). row.node < next.node) rest → Rises rest → Rises (row ∷ rest)
rises_cons row rest first others i zero d less within = absurd (omega arith)
rises_cons row rest first others zero (suc j) d less within = first j d (omega arith)
rises_cons row rest first others (suc i) (suc j) d less within = others i j d (omega arith) (omega arith)

rises_more : (low : ℕ) (rows : List Row) (o : Option Row) → ((row : Row) → o ≡ Some row → row.node ≡ low) → All (λ (row : Row). low + 1 ≤ row.node) rows → Rises rows → Rises (cons_option o rows)
rises_more low rows None first above rises = rises
rises_more low rows (Some row) first above rises =
    let at : row.node ≡ low = first row refl in
    rises_cons row rows (λ k d within. let high = above k d within in omega arith) rises

from_found : (f : ℕ → Option Row) → ((n : ℕ) (row : Row) → f n ≡ Some row → row.node ≡ n) → (low k : ℕ) → All (λ (row : Row). low ≤ row.node) (filter_map f (range_with_len low k))
from_found f each low zero = All-nil (λ (row : Row). low ≤ row.node)
from_found f each low (suc k) =
    all_more (λ (row : Row). low ≤ row.node) (filter_map f (range_with_len (low + 1) k)) (f low) (λ row is. let at = each low row is in omega arith)
    (λ i d within. let above = from_found f each (low + 1) k i d within in omega arith)

rises_found : (f : ℕ → Option Row) → ((n : ℕ) (row : Row) → f n ≡ Some row → row.node ≡ n) → (low k : ℕ) → Rises (filter_map f (range_with_len low k))
rises_found f each low zero = λ i j d less within. absurd (omega arith)
rises_found f each low (suc k) = rises_more low (filter_map f (range_with_len (low + 1) k)) (f low) (each low) (from_found f each (low + 1) k) (rises_found f each (low + 1) k)

contains_rest : (rows : List Row) (o : Option Row) (row : Row) → Contains rows row → Contains (cons_option o rows) row
contains_rest rows None row there = there
contains_rest rows (Some first) row there = Contains-append_right (first ∷ []) rows row there

contains_first : (rows : List Row) (o : Option Row) (row : Row) → o ≡ Some row → Contains (cons_option o rows) row
contains_first rows None row is = absurd (none-some row is)
contains_first rows (Some first) row is = (zero, (omega arith), same_Some first row is)

contains_found : (f : ℕ → Option Row) (low k n : ℕ) (row : Row) → f n ≡ Some row → low ≤ n → n < low + k → Contains (filter_map f (range_with_len low k)) row
contains_found f low zero n row is from below = absurd (omega arith)
contains_found f low (suc k) n row is from below =
    elim (cases_eq n low) [
      | inl e ↦ contains_first (filter_map f (range_with_len (low + 1) k)) (f low) row (ap f (sym e) ∙ is)
      | inr other ↦ contains_rest (filter_map f (range_with_len (low + 1) k)) (f low) row (contains_found f (low + 1) k n row is (omega (arith, other)) (omega arith))
    ]

-- ---- the rows of a region

pub rows_rise : (s : System) (found : Found) → AllPairs (λ (row next : Row). row.node < next.node) (rows_of s found)
rows_rise s found = rises_found (row_for s (region_range found)) (λ n row is. (row_parts s (region_range found) n row is).node) 0 (length s.nodes)

pub rows_apart : (s : System) (found : Found) → AreOfDifferentNodes (rows_of s found)
rows_apart s found = λ i j d less within e.
    let order = rises_found (row_for s (region_range found)) (λ n row is. (row_parts s (region_range found) n row is).node) 0 (length s.nodes) i j d less within in
    omega (arith, e)

pub all_rows : (s : System) (found : Found) (P : Row → Type 0) → ((n : ℕ) (row : Row) → row_for s (region_range found) n ≡ Some row → P row) → All P (rows_of s found)
all_rows s found P each = all_found P (row_for s (region_range found)) each (range_with_len 0 (length s.nodes))

pub row_there : (s : System) (found : Found) (n : ℕ) (row : Row) → n < length s.nodes → row_for s (region_range found) n ≡ Some row → Contains (rows_of s found) row
row_there s found n row within is = contains_found (row_for s (region_range found)) 0 (length s.nodes) n row is (omega arith) (omega arith)

-- none passes where none is found
none_found : (p : Row → Bool) (rows : List Row) → find p rows ≡ None → All (λ (row : Row). p row ≡ false) rows
none_found p [] none = All-nil (λ (row : Row). p row ≡ false)
none_found p (row ∷ rest) none =
    elim (cases_Bool (p row)) [
      | inl passes ↦ absurd (none-some row (sym none ∙ cond-true (p row) (Some row) (find p rest) passes))
      | inr fails ↦ All-cons (λ (r : Row). p r ≡ false) row rest fails (none_found p rest (sym (cond-false (p row) (Some row) (find p rest) fails) ∙ none))
    ]

-- a decoder of a range is committed with it
pub record HasRange (r : Range) (d : Decoder) : Type 0 where
  pub committed : d.committed ≡ true
  pub is : range_of d ≡ r

pub range_parts : (r : Range) (d : Decoder) → has_range r d ≡ true → HasRange r d
range_parts r d has =
    let outer = and_parts (d.committed && (d.base == r.base)) (d.size == r.size) has in
    let inner = and_parts d.committed (d.base == r.base) outer.0 in
    let base : d.base ≡ r.base = eqb-true d.base r.base inner.1 in
    let size : d.size ≡ r.size = eqb-true d.size r.size outer.1 in
    record { committed = inner.0; is = λ i. record { base = base i; size = size i } }

-- a row of a region
pub row_has_range : (s : System) (r : Range) (n : ℕ) (row : Row) → IsRowFor s r n row → has_range r row.decoder ≡ true
row_has_range s r n row is =
    let found = position-Some (has_range r) (decoders_at s n) row.index row.decoder is.index in
    ap (has_range r) (sym (get_or_from_slice_get (decoders_at s n) row.index row.decoder row.decoder is.here)) ∙ found.1

-- what is known of each row: it has the range, and none above it is committed
pub record IsLast (s : System) (r : Range) (row : Row) : Type 0 where
  pub is : IsRowFor s r row.node row
  pub unlocked : row.decoder.lock ≡ false
  pub top : any_committed (drop (row.index + 1) (decoders_at s row.node)) ≡ false

pub last_rows : (s : System) (found : Found) → first_locked s found ≡ None → first_not_last s found ≡ None → All (IsLast s (region_range found)) (rows_of s found)
last_rows s found unlocked last = λ k d within.
    let rows : List Row = rows_of s found in
    record {
      is = all_rows s found (λ (row : Row). IsRowFor s (region_range found) row.node row) (λ n row is. let parts = row_parts s (region_range found) n row is in subst (λ (m : ℕ). IsRowFor s (region_range found) m row) (sym parts.node) parts) k d within;
      unlocked = none_found (λ (row : Row). row.decoder.lock) rows unlocked k d within;
      top = none_found (λ (row : Row). any_committed (drop (row.index + 1) (decoders_at s row.node))) rows last k d within;
    }

-- the block of a row, and the row in it
pub record InBlock (s : System) (row : Row) : Type 0 where
  pub block : Registers
  pub block_here : slice_get s.blocks row.node ≡ Some block
  pub decoders : decoders_at s row.node ≡ block.decoders
  pub here : slice_get block.decoders row.index ≡ Some row.decoder

pub in_block : (s : System) (r : Range) (row : Row) → IsRowFor s r row.node row → InBlock s row
in_block s r row is =
    let at = block_of s row.node row.index (slice_get_within (decoders_at s row.node) row.index row.decoder is.here) in
    record { block = at.block; block_here = at.here; decoders = at.decoders; here = ap (λ (ds : List Decoder). slice_get ds row.index) (sym at.decoders) ∙ is.here }

pub can_release : (s : System) (r : Range) (row : Row) → KeepsBlocks s → IsLast s r row → CanRelease s.blocks row
can_release s r row keeps last =
    let at = in_block s r row last.is in
    let block = at.block in
    let rules = block_keeps s keeps row.node block at.block_here in
    let has = range_parts r row.decoder (row_has_range s r row.node row last.is) in
    let flags = set_flags row.decoder (kept_at block 3 (ram_at s row.node) (pmem_at s row.node) row.index row.decoder rules at.here) has.committed in
    let top : any_committed (drop (row.index + 1) block.decoders) ≡ false = ap (λ (ds : List Decoder). any_committed (drop (row.index + 1) ds)) (sym at.decoders) ∙ last.top in
    record {
      top = record {
        there = and_some (slice_get s.blocks row.node) (λ (b : Registers). row.index < length b.decoders) block at.block_here (slice_get_within block.decoders row.index row.decoder at.here);
        top = and_some (slice_get s.blocks row.node) (λ (b : Registers). (j : ℕ) (e : Decoder) → row.index < j → slice_get b.decoders j ≡ Some e → e.committed ≡ false) block at.block_here
            (λ j e above here. each_above block.decoders row.index j e top above here);
      };
      same = and_some (slice_get s.blocks row.node) (λ (b : Registers). slice_get b.decoders row.index ≡ Some row.decoder) block at.block_here at.here;
      committed = (has.committed, flags.1, flags.0);
      unlocked = last.unlocked;
      keeps = and_some (slice_get s.blocks row.node) (λ (b : Registers). first_broken_rule b row.index row.decoder ≡ None) block at.block_here
          (no_rule block (ram_at s row.node) (pmem_at s row.node) row.index row.decoder rules at.here has.committed);
    }

pub all_can_release : (s : System) (found : Found) → KeepsBlocks s → first_locked s found ≡ None → first_not_last s found ≡ None → All (CanRelease s.blocks) (rows_of s found)
all_can_release s found keeps unlocked last = λ k d within. can_release s (region_range found) (get_or (rows_of s found) k d) keeps (last_rows s found unlocked last k d within)

-- ---- what the writes leave

abbrev Anything : List Registers → Type 0
Anything blocks = Unit {0}

release_ends : WordsLaw → (settled : List Registers) → All IsBlock settled → (rows : List Row) (blocks : List Registers) → All (CanRelease settled) rows → AreOfDifferentNodes rows → AreUntouched settled blocks rows
    → blocks_after_writes blocks (map release_write rows) ≡ fold (change block_without_row) blocks rows
release_ends law settled are [] blocks can apart same = refl
release_ends law settled are (row ∷ rest) blocks can apart same =
    ap (λ (b : List Registers). blocks_after_writes b (map release_write rest)) written
    ∙ release_ends law settled are rest next (All-tail (CanRelease settled) row rest can) (apart_rest row rest apart) (untouched_rest settled blocks row rest (block_without_row row known.0) apart same)
    ∙ ap (λ (b : List Registers). fold (change block_without_row) b rest) (sym changed)
  where
    known : (block : Registers) × IsBound settled row block
    known = bound_of law settled row are (All-head (CanRelease settled) row rest can)

    next : List Registers
    next = set blocks row.node (block_without_row row known.0)

    here : slice_get blocks row.node ≡ slice_get settled row.node
    here = same zero row (omega arith)

    written : blocks_after_write blocks (release_write row) ≡ next
    written = (release_leads Anything blocks row known.0 (bound_in settled blocks row known.0 here known.1) tt tt).ends

    changed : change block_without_row blocks row ≡ next
    changed = ap (λ (o : Option Registers). option_map_or (λ b. slice_set blocks row.node (block_without_row row b)) o blocks) (here ∙ known.1.there.block_here)

pub all_released : WordsLaw → (s : System) (found : Found) (writes : List Write) → All IsBlock s.blocks → KeepsBlocks s → first_locked s found ≡ None → first_not_last s found ≡ None
    → AreReleaseWrites (rows_of s found) writes → blocks_after_writes s.blocks writes ≡ blocks_without s found
all_released law s found writes are keeps unlocked last is =
    let can = all_can_release s found keeps unlocked last in
    ap (blocks_after_writes s.blocks) is.each
    ∙ release_ends law s.blocks are is.rising s.blocks (all_rising (CanRelease s.blocks) (rows_of s found) is.rising is.order can) (rising_apart (rows_of s found) is.rising is.order) (λ k d within. refl)
    ∙ fold_order block_without_row is.rising (rows_of s found) s.blocks (rising_apart (rows_of s found) is.rising is.order) (rows_apart s found) (λ row. (is.order.same row).1) (λ row. (is.order.same row).0)
