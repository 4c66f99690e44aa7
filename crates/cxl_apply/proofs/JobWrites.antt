-- All writes of a job, forth and back.
use Rattle.std.proofs.Common.{◌≡◌, ◌≢◌, ℕ, zero, suc, ◌+◌, ◌-◌, ◌<◌, Bool, false, List, [], ◌∷◌, length, get_or, set, map, drop, Option, Some, None, refl, sym, ◌∙◌, subst, inl, inr, arith}
use Rattle.std.specs.Prelude.{slice_get, All, IsSomeAnd}
use Rattle.std.specs.List.{flat_map}
use Rattle.std.proofs.lemmas.Bool.{cases_eq}
use Rattle.std.proofs.lemmas.List.{get_or-drop, length-drop}
use Rattle.std.proofs.lemmas.List.Elements.{All-head, All-tail, All-contains, Contains-get_or}
use Rattle.std.proofs.lemmas.List.Folds.{list_any_none}
use Rattle.std.proofs.lemmas.Option.{slice_get_within, slice_get-get_or, get_or_from_slice_get, same_Some}
use Rattle.cxl_enc.proofs.Lists.{get_same, get_other}
use Rattle.cxl_enc.proofs.Options.{some_and}
use Rattle.cxl_regs.specs.declared.decoder.Decoder.{Decoder}
use Rattle.cxl_regs.specs.Registers.{Registers, IsDecoder, IsBlock}
use Rattle.cxl_regs.specs.Rules.{first_broken_rule}
use Rattle.cxl_regs.specs.Writes.{any_committed, with_decoder}
use Rattle.cxl_model.specs.declared.plan.Row.{Row}
use Rattle.cxl_apply.specs.declared.write.Write.{Write}
use Rattle.cxl_apply.specs.Jobs.{unmarked, with_commit, row_writes, release_write, HasWords, CanCreate, CanRelease, AreOfDifferentNodes, AreFalling, AreRising, AreCreateWrites, AreReleaseWrites, AreTakenBack}
use Rattle.cxl_apply.proofs.Words.{ControlReads, WordsLaw, control_reads}
use Rattle.cxl_apply.proofs.Walks.{Walks, Leads, walks_append, taken_back}
use Rattle.cxl_apply.proofs.RowWrites.{IsFree, HoldsOnWay, made8, row_leads, IsBound, let_go, release_leads}

-- ---- lists and options

pub some_at : {X : Type 0} (o : Option X) (P : X → Type 0) (x : X) → o ≡ Some x → IsSomeAnd o P → P x
some_at o P x is h = subst (λ p. IsSomeAnd p P) is h

pub all_at : {X : Type 0} (P : X → Type 0) (xs : List X) (i : ℕ) (x : X) → All P xs → slice_get xs i ≡ Some x → P x
all_at P xs i x all here = subst P (get_or_from_slice_get xs i x x here) (all i x (slice_get_within xs i x here))

-- none above the row is committed
none_above : (decoders : List Decoder) (i : ℕ) → ((j : ℕ) (d : Decoder) → i < j → slice_get decoders j ≡ Some d → d.committed ≡ false) → any_committed (drop (i + 1) decoders) ≡ false
none_above decoders i top = list_any_none (λ (d : Decoder). d.committed) (drop (i + 1) decoders) (λ k d within.
    let long : length (drop (i + 1) decoders) ≡ length decoders - (i + 1) = length-drop (i + 1) decoders in
    rw (get_or-drop (i + 1) decoders k d) (top (i + 1 + k) (get_or decoders (i + 1 + k) d) (omega arith) (slice_get-get_or decoders (i + 1 + k) d (omega arith))))

-- ---- what is known of a row's place

words_of_decoder : (e : Bool) (d : Decoder) → IsDecoder e d → HasWords d
words_of_decoder e d is = record { base = is.base; size = is.size; ways = is.ways; gran = is.gran; tail = is.tail }

reads_unmarked : WordsLaw → (d : Decoder) → HasWords d → ControlReads (unmarked d)
reads_unmarked law d has = control_reads law (unmarked d) (record { base = has.base; size = has.size; ways = has.ways; gran = has.gran; tail = has.tail })

reads_commit : WordsLaw → (d : Decoder) → HasWords d → ControlReads (with_commit d)
reads_commit law d has = control_reads law (with_commit d) (record { base = has.base; size = has.size; ways = has.ways; gran = has.gran; tail = has.tail })

pub free_of : WordsLaw → (blocks : List Registers) (row : Row) → All IsBlock blocks → CanCreate blocks row → (block : Registers) × (d : Decoder) × IsFree blocks row block d
free_of law blocks row are can =
    let block = some_and (slice_get blocks row.node) (λ (b : Registers). row.index < length b.decoders) can.top.there in
    let at = some_at (slice_get blocks row.node) (λ (b : Registers). IsSomeAnd (slice_get b.decoders row.index) (λ (d : Decoder). (d.committed ≡ false) × (d.commit ≡ false) × (d.error ≡ false))) block.0 block.1 can.free in
    let d = some_and (slice_get block.0.decoders row.index) (λ (d : Decoder). (d.committed ≡ false) × (d.commit ≡ false) × (d.error ≡ false)) at in
    let is : IsDecoder block.0.endpoint d.0 = all_at (IsDecoder block.0.endpoint) block.0.decoders row.index d.0 (all_at IsBlock blocks row.node block.0 are block.1).each d.1 in (
      block.0,
      d.0,
      record {
        there = record { block_here = block.1; here = d.1 };
        is = is;
        committed = d.2.0;
        commit = d.2.1;
        error = d.2.2;
        top = none_above block.0.decoders row.index (some_at (slice_get blocks row.node) (λ (b : Registers). (j : ℕ) (e : Decoder) → row.index < j → slice_get b.decoders j ≡ Some e → e.committed ≡ false) block.0 block.1 can.top.top);
        unlocked = can.unlocked;
        has = can.kept;
        own = control_reads law d.0 (words_of_decoder block.0.endpoint d.0 is);
        reads = reads_unmarked law row.decoder can.kept;
        asks = reads_commit law row.decoder can.kept;
      },
    )

pub free_in : (settled blocks : List Registers) (row : Row) (block : Registers) (d : Decoder) → slice_get blocks row.node ≡ slice_get settled row.node → IsFree settled row block d → IsFree blocks row block d
free_in settled blocks row block d same is = record {
  there = record { block_here = same ∙ is.there.block_here; here = is.there.here };
  is = is.is;
  committed = is.committed;
  commit = is.commit;
  error = is.error;
  top = is.top;
  unlocked = is.unlocked;
  has = is.has;
  own = is.own;
  reads = is.reads;
  asks = is.asks;
}

pub bound_of : WordsLaw → (blocks : List Registers) (row : Row) → All IsBlock blocks → CanRelease blocks row → (block : Registers) × IsBound blocks row block
bound_of law blocks row are can =
    let block = some_and (slice_get blocks row.node) (λ (b : Registers). row.index < length b.decoders) can.top.there in
    let here = some_at (slice_get blocks row.node) (λ (b : Registers). slice_get b.decoders row.index ≡ Some row.decoder) block.0 block.1 can.same in
    let is : IsDecoder block.0.endpoint row.decoder = all_at (IsDecoder block.0.endpoint) block.0.decoders row.index row.decoder (all_at IsBlock blocks row.node block.0 are block.1).each here in
    let has = words_of_decoder block.0.endpoint row.decoder is in (
      block.0,
      record {
        there = record { block_here = block.1; here = here };
        committed = can.committed.0;
        commit = can.committed.1;
        error = can.committed.2;
        top = none_above block.0.decoders row.index (some_at (slice_get blocks row.node) (λ (b : Registers). (j : ℕ) (e : Decoder) → row.index < j → slice_get b.decoders j ≡ Some e → e.committed ≡ false) block.0 block.1 can.top.top);
        unlocked = can.unlocked;
        keeps = some_at (slice_get blocks row.node) (λ (b : Registers). first_broken_rule b row.index row.decoder ≡ None) block.0 block.1 can.keeps;
        reads = reads_unmarked law row.decoder has;
        asks = reads_commit law row.decoder has;
      },
    )

pub bound_in : (settled blocks : List Registers) (row : Row) (block : Registers) → slice_get blocks row.node ≡ slice_get settled row.node → IsBound settled row block → IsBound blocks row block
bound_in settled blocks row block same is = record {
  there = record { block_here = same ∙ is.there.block_here; here = is.there.here };
  committed = is.committed;
  commit = is.commit;
  error = is.error;
  top = is.top;
  unlocked = is.unlocked;
  keeps = is.keeps;
  reads = is.reads;
  asks = is.asks;
}

-- ---- the blocks of other nodes

-- a fact of each node's block
abbrev pub AllGood : (ℕ → Registers → Type 0) → List Registers → Type 0
AllGood Good blocks = (m : ℕ) (block : Registers) → slice_get blocks m ≡ Some block → Good m block

pub good_put : (Good : ℕ → Registers → Type 0) (blocks : List Registers) (n : ℕ) (old new : Registers) → slice_get blocks n ≡ Some old → AllGood Good blocks → Good n new → AllGood Good (set blocks n new)
good_put Good blocks n old new there all good m block here =
    elim (cases_eq m n) [
      | inl e ↦
          let at : slice_get (set blocks n new) n ≡ Some block = subst (λ (k : ℕ). slice_get (set blocks n new) k ≡ Some block) e here in
          let is : new ≡ block = same_Some new block (sym (get_same blocks n new (slice_get_within blocks n old there)) ∙ at) in
          subst (λ (k : ℕ). Good k block) (sym e) (subst (Good n) is good)
      | inr other ↦ all m block (sym (get_other blocks n m new other) ∙ here)
    ]

-- the rows' blocks stand as they did
abbrev pub AreUntouched : List Registers → List Registers → List Row → Type 0
AreUntouched settled blocks rows = All (λ (row : Row). slice_get blocks row.node ≡ slice_get settled row.node) rows

-- the rows after the first stand in other nodes
abbrev pub StandElsewhere : Row → List Row → Type 0
StandElsewhere row rest = All (λ (other : Row). other.node ≢ row.node) rest

pub elsewhere : (row : Row) (rest : List Row) → AreOfDifferentNodes (row ∷ rest) → StandElsewhere row rest
elsewhere row rest apart = λ k d within e. apart zero (suc k) d (omega arith) (omega arith) (sym e)

pub apart_rest : (row : Row) (rest : List Row) → AreOfDifferentNodes (row ∷ rest) → AreOfDifferentNodes rest
apart_rest row rest apart = λ i j d less within. apart (suc i) (suc j) d (omega arith) (omega arith)

pub untouched_rest : (settled blocks : List Registers) (row : Row) (rest : List Row) (new : Registers) → AreOfDifferentNodes (row ∷ rest) → AreUntouched settled blocks (row ∷ rest) → AreUntouched settled (set blocks row.node new) rest
untouched_rest settled blocks row rest new apart same =
    λ k d within. get_other blocks row.node (get_or rest k d).node new (elsewhere row rest apart k d within) ∙ same (suc k) d (omega arith)

-- ---- the writes of a create

-- what holds of a block on the way of its row
pub record FitsCreate (Good : ℕ → Registers → Type 0) (settled : List Registers) (row : Row) : Type 0 where
  pub free : (block : Registers) (d new : Decoder) → IsFree settled row block d → new.committed ≡ false → new.commit ≡ false → new.error ≡ false → Good row.node (with_decoder block row.index new)
  pub last : (block : Registers) (d : Decoder) → IsFree settled row block d → Good row.node (with_decoder block row.index (made8 block row.index d row.decoder))

on_way : (Good : ℕ → Registers → Type 0) (settled blocks : List Registers) (row : Row) (block : Registers) (d : Decoder) → AllGood Good blocks → slice_get blocks row.node ≡ slice_get settled row.node
    → FitsCreate Good settled row → IsFree settled row block d → HoldsOnWay (AllGood Good) blocks row block d
on_way Good settled blocks row block d all same fits is = record {
  free = λ new committed commit error. good_put Good blocks row.node block (with_decoder block row.index new) (same ∙ is.there.block_here) all (fits.free block d new is committed commit error);
  last = good_put Good blocks row.node block (with_decoder block row.index (made8 block row.index d row.decoder)) (same ∙ is.there.block_here) all (fits.last block d is);
}

pub create_walks : WordsLaw → (Good : ℕ → Registers → Type 0) (settled : List Registers) → All IsBlock settled → (rows : List Row) (blocks : List Registers) → All (CanCreate settled) rows → All (FitsCreate Good settled) rows
    → AreOfDifferentNodes rows → AreUntouched settled blocks rows → AllGood Good blocks → Walks (AllGood Good) blocks (flat_map (row_writes settled) rows)
create_walks law Good settled are [] blocks can fits apart same all = all
create_walks law Good settled are (row ∷ rest) blocks can fits apart same all =
    walks_append (AllGood Good) blocks (row_writes settled row) (flat_map (row_writes settled) rest) leads.walks
    (subst (λ (b : List Registers). Walks (AllGood Good) b (flat_map (row_writes settled) rest)) (sym leads.ends)
    (create_walks law Good settled are rest (set blocks row.node new) (All-tail (CanCreate settled) row rest can) (All-tail (FitsCreate Good settled) row rest fits) (apart_rest row rest apart)
    (untouched_rest settled blocks row rest new apart same) (good_put Good blocks row.node block new (here ∙ is.there.block_here) all (first.last block d is))))
  where
    known : (block : Registers) × (d : Decoder) × IsFree settled row block d
    known = free_of law settled row are (All-head (CanCreate settled) row rest can)

    block : Registers
    block = known.0

    d : Decoder
    d = known.1

    is : IsFree settled row block d
    is = known.2

    here : slice_get blocks row.node ≡ slice_get settled row.node
    here = same zero row (omega arith)

    first : FitsCreate Good settled row
    first = All-head (FitsCreate Good settled) row rest fits

    new : Registers
    new = with_decoder block row.index (made8 block row.index d row.decoder)

    leads : Leads (AllGood Good) blocks (row_writes settled row) (set blocks row.node new)
    leads = row_leads (AllGood Good) settled blocks row block d (free_in settled blocks row block d here is) is.there (on_way Good settled blocks row block d all here first is)

-- ---- the writes of a release

pub record FitsRelease (Good : ℕ → Registers → Type 0) (settled : List Registers) (row : Row) : Type 0 where
  pub last : (block : Registers) → IsBound settled row block → Good row.node (with_decoder block row.index (let_go row.decoder))

pub release_walks : WordsLaw → (Good : ℕ → Registers → Type 0) (settled : List Registers) → All IsBlock settled → (rows : List Row) (blocks : List Registers) → All (CanRelease settled) rows → All (FitsRelease Good settled) rows
    → AreOfDifferentNodes rows → AreUntouched settled blocks rows → AllGood Good blocks → Walks (AllGood Good) blocks (map release_write rows)
release_walks law Good settled are [] blocks can fits apart same all = all
release_walks law Good settled are (row ∷ rest) blocks can fits apart same all =
    walks_append (AllGood Good) blocks (release_write row ∷ []) (map release_write rest) leads.walks
    (subst (λ (b : List Registers). Walks (AllGood Good) b (map release_write rest)) (sym leads.ends)
    (release_walks law Good settled are rest (set blocks row.node new) (All-tail (CanRelease settled) row rest can) (All-tail (FitsRelease Good settled) row rest fits) (apart_rest row rest apart)
    (untouched_rest settled blocks row rest new apart same) good))
  where
    known : (block : Registers) × IsBound settled row block
    known = bound_of law settled row are (All-head (CanRelease settled) row rest can)

    block : Registers
    block = known.0

    here : slice_get blocks row.node ≡ slice_get settled row.node
    here = same zero row (omega arith)

    new : Registers
    new = with_decoder block row.index (let_go row.decoder)

    good : AllGood Good (set blocks row.node new)
    good = good_put Good blocks row.node block new (here ∙ known.1.there.block_here) all ((All-head (FitsRelease Good settled) row rest fits).last block known.1)

    leads : Leads (AllGood Good) blocks (release_write row ∷ []) (set blocks row.node new)
    leads = release_leads (AllGood Good) blocks row block (bound_in settled blocks row block here known.1) all good

-- ---- rows in order

pub all_falling : (P : Row → Type 0) (rows falling : List Row) → AreFalling rows falling → All P rows → All P falling
all_falling P rows falling is all = λ k d within. All-contains P rows (get_or falling k d) all ((is.same (get_or falling k d)).1 (Contains-get_or falling k d within))

pub all_rising : (P : Row → Type 0) (rows rising : List Row) → AreRising rows rising → All P rows → All P rising
all_rising P rows rising is all = λ k d within. All-contains P rows (get_or rising k d) all ((is.same (get_or rising k d)).1 (Contains-get_or rising k d within))

pub falling_apart : (rows falling : List Row) → AreFalling rows falling → AreOfDifferentNodes falling
falling_apart rows falling is = λ i j d less within e. let order = is.order i j d less within in omega (arith, e)

pub rising_apart : (rows rising : List Row) → AreRising rows rising → AreOfDifferentNodes rising
rising_apart rows rising is = λ i j d less within e. let order = is.order i j d less within in omega (arith, e)

-- ---- what is not asked of blocks

abbrev Anything : ℕ → Registers → Type 0
Anything m block = Unit {0}

pub create_taken_back : WordsLaw → (blocks : List Registers) (rows : List Row) (writes : List Write) → All IsBlock blocks → All (CanCreate blocks) rows → AreCreateWrites blocks rows writes → AreTakenBack blocks writes
create_taken_back law blocks rows writes are can is =
    taken_back (AllGood Anything) blocks writes (subst (Walks (AllGood Anything) blocks) (sym is.each)
    (create_walks law Anything blocks are is.falling blocks (all_falling (CanCreate blocks) rows is.falling is.order can)
    (λ k d within. record { free = λ b e n f u v w. tt; last = λ b e f. tt }) (falling_apart rows is.falling is.order) (λ k d within. refl) (λ m b here. tt)))

pub release_taken_back : WordsLaw → (blocks : List Registers) (rows : List Row) (writes : List Write) → All IsBlock blocks → All (CanRelease blocks) rows → AreReleaseWrites rows writes → AreTakenBack blocks writes
release_taken_back law blocks rows writes are can is =
    taken_back (AllGood Anything) blocks writes (subst (Walks (AllGood Anything) blocks) (sym is.each)
    (release_walks law Anything blocks are is.rising blocks (all_rising (CanRelease blocks) rows is.rising is.order can)
    (λ k d within. record { last = λ b f. tt }) (rising_apart rows is.rising is.order) (λ k d within. refl) (λ m b here. tt)))
