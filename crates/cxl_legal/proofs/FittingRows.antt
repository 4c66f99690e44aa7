-- The image with a plan's rows committed, node by node.
use Rattle.std.proofs.Common.{◌≡◌, ◌≢◌, ℕ, zero, suc, ◌<◌, Bool, true, false, cond, not, List, [], ◌∷◌, length, get_or, set, Option, Some, None, refl, sym, ap, ◌∙◌, subst, inl, inr, arith}
use Rattle.std.specs.Prelude.{slice_get, slice_set, nat_lt, ◌==◌, All, AllPairs, Contains, fold, find, position, option_map}
use Rattle.std.specs.Option.{option_map_or}
use Rattle.std.specs.List.{list_any, position_or_len}
use Rattle.std.proofs.lemmas.Bool.{cases_Bool, and_parts, and_from, eqb-true, eq-eqb, false_from_ne_true, false≢true, not-true, not_from_false, lt-ltb, cond-true}
use Rattle.std.proofs.lemmas.List.{length-set, get_or-set_same, get_or-set_other}
use Rattle.std.proofs.lemmas.List.Elements.{All-tail, All-set}
use Rattle.std.proofs.lemmas.List.Folds.{Any-from_list_any, list_any_at, find_at}
use Rattle.std.proofs.lemmas.List.Sums.{position_or_len_is}
use Rattle.std.proofs.lemmas.List.Quantifiers.{position-Some}
use Rattle.std.proofs.lemmas.Option.{slice_get_within, slice_get-get_or, get_or_from_slice_get, same_Some}
use Rattle.cxl_enc.proofs.Lists.{All-at, get_same, get_other}
use Rattle.cxl_topo.specs.Tree.{forwards_at, path_of}
use Rattle.cxl_regs.specs.declared.decoder.Decoder.{Decoder}
use Rattle.cxl_regs.specs.declared.reading.Range.{Range}
use Rattle.cxl_regs.specs.Reading.{has_range}
use Rattle.cxl_regs.specs.Registers.{Registers, IsBlock, IsDecoder, reset_decoder}
use Rattle.cxl_model.specs.declared.plan.Row.{Row}
use Rattle.cxl_model.specs.declared.request.Request.{Request}
use Rattle.cxl_model.specs.System.{System, IsSystem, decoders_at, decoder_at}
use Rattle.cxl_model.specs.Ranges.{serves, decoder_for, index_for}
use Rattle.cxl_model.specs.Counts.{is_under}
use Rattle.cxl_model.specs.Plans.{committed_row, block_with_row, blocks_with_row, with_rows, IsUsed, AreRowsOf, IsRow}
use Rattle.cxl_model.proofs.RangeServers.{in_block}
use Rattle.cxl_legal.specs.Used.{is_used}
use Rattle.cxl_legal.specs.Stated.{has_row}
use Rattle.cxl_legal.proofs.FittingBlocks.{of_node}

-- ---- lists with one element set

pub none_at : {X : Type 0} (d : X) (p : X → Bool) (xs : List X) (k : ℕ) → list_any p xs ≡ false → k < length xs → p (get_or xs k d) ≡ false
none_at d p xs k none within = false_from_ne_true (p (get_or xs k d)) (λ passes. false≢true (sym none ∙ list_any_at p xs k d within passes))

-- where no element passes, the one that is set is the first that does
pub record SetPasses {X : Type 0} (p : X → Bool) (xs : List X) (i : ℕ) (x : X) : Type 0 where
  pub any : list_any p (set xs i x) ≡ true
  pub found : find p (set xs i x) ≡ Some x
  pub place : position p (set xs i x) ≡ Some i

pub set_passes : {X : Type 0} (p : X → Bool) (xs : List X) (i : ℕ) (x : X) → list_any p xs ≡ false → i < length xs → p x ≡ true → SetPasses p xs i x
set_passes {X} p xs i x none within passes = record {
  any = list_any_at p (set xs i x) i x inside here;
  found = find_at p (set xs i x) ∙ ap (slice_get (set xs i x)) first ∙ get_same xs i x within;
  place = ap (λ (k : ℕ). cond (nat_lt k (length (set xs i x))) (Some k) None) first ∙ cond-true (nat_lt i (length (set xs i x))) (Some i) None (lt-ltb i (length (set xs i x)) inside);
}
  where
    inside : i < length (set xs i x)
    inside = omega (arith, length-set xs i x, within)

    here : p (get_or (set xs i x) i x) ≡ true
    here = ap p (get_or-set_same xs i x x within) ∙ passes

    first : position_or_len p (set xs i x) ≡ i
    first = position_or_len_is p (set xs i x) i x (omega (arith, inside))
        (λ k less. ap p (get_or-set_other xs i k x x (λ e. omega (arith, e, less))) ∙ none_at x p xs k none (omega (arith, less, within)))
        (λ low. here)

-- ---- the blocks

-- no two rows are of one node
abbrev pub StandApart : List Row → Type 0
StandApart rows = AllPairs (λ row next. row.node ≢ next.node) rows

elsewhere : (row : Row) (rest : List Row) → StandApart (row ∷ rest) → All (λ (other : Row). other.node ≢ row.node) rest
elsewhere row rest apart = λ k d within e. apart zero (suc k) d (omega arith) (omega arith) (sym e)

apart_rest : (row : Row) (rest : List Row) → StandApart (row ∷ rest) → StandApart rest
apart_rest row rest apart = λ i j d less within. apart (suc i) (suc j) d (omega arith) (omega arith)

changed_here : (blocks : List Registers) (row : Row) (o : Option Registers) → slice_get blocks row.node ≡ o
    → slice_get (option_map_or (λ block. slice_set blocks row.node (block_with_row row block)) o blocks) row.node ≡ option_map (block_with_row row) o
changed_here blocks row None is = is
changed_here blocks row (Some block) is = get_same blocks row.node (block_with_row row block) (slice_get_within blocks row.node block is)

get_changed : (blocks : List Registers) (row : Row) → slice_get (blocks_with_row blocks row) row.node ≡ option_map (block_with_row row) (slice_get blocks row.node)
get_changed blocks row = changed_here blocks row (slice_get blocks row.node) refl

changed_else : (blocks : List Registers) (row : Row) (m : ℕ) (o : Option Registers) → m ≢ row.node
    → slice_get (option_map_or (λ block. slice_set blocks row.node (block_with_row row block)) o blocks) m ≡ slice_get blocks m
changed_else blocks row m None other = refl
changed_else blocks row m (Some block) other = get_other blocks row.node m (block_with_row row block) other

get_unchanged : (blocks : List Registers) (row : Row) (m : ℕ) → m ≢ row.node → slice_get (blocks_with_row blocks row) m ≡ slice_get blocks m
get_unchanged blocks row m other = changed_else blocks row m (slice_get blocks row.node) other

-- a node of no row keeps its block
pub get_fold_none : (rows : List Row) (blocks : List Registers) (m : ℕ) → All (λ (row : Row). row.node ≢ m) rows
    → slice_get (fold blocks_with_row blocks rows) m ≡ slice_get blocks m
get_fold_none [] blocks m none = refl
get_fold_none (row ∷ rest) blocks m none =
    get_fold_none rest (blocks_with_row blocks row) m (All-tail (λ (r : Row). r.node ≢ m) row rest none)
    ∙ get_unchanged blocks row m (λ e. none zero row (omega arith) (sym e))

get_fold_at : (rows : List Row) (blocks : List Registers) (row : Row) (k : ℕ) → StandApart rows → k < length rows → get_or rows k row ≡ row
    → slice_get (fold blocks_with_row blocks rows) row.node ≡ option_map (block_with_row row) (slice_get blocks row.node)
get_fold_at [] blocks row k apart within is = absurd (omega arith)
get_fold_at (first ∷ rest) blocks row zero apart within is =
    subst (λ (r : Row). slice_get (fold blocks_with_row blocks (first ∷ rest)) r.node ≡ option_map (block_with_row r) (slice_get blocks r.node)) is
    (get_fold_none rest (blocks_with_row blocks first) first.node (elsewhere first rest apart) ∙ get_changed blocks first)
get_fold_at (first ∷ rest) blocks row (suc k) apart within is =
    let inside : k < length rest = omega arith in
    let other : row.node ≢ first.node = subst (λ (r : Row). r.node ≢ first.node) is (elsewhere first rest apart k row inside) in
    get_fold_at rest (blocks_with_row blocks first) row k (apart_rest first rest apart) inside is ∙ ap (option_map (block_with_row row)) (get_unchanged blocks first row.node other)

-- the node of a row has its block changed once
pub get_fold_some : (rows : List Row) (blocks : List Registers) (row : Row) → StandApart rows → Contains rows row
    → slice_get (fold blocks_with_row blocks rows) row.node ≡ option_map (block_with_row row) (slice_get blocks row.node)
get_fold_some rows blocks row apart there = get_fold_at rows blocks row there.0 apart there.1 there.2

length_step : (blocks : List Registers) (row : Row) (o : Option Registers)
    → length (option_map_or (λ block. slice_set blocks row.node (block_with_row row block)) o blocks) ≡ length blocks
length_step blocks row None = refl
length_step blocks row (Some block) = length-set blocks row.node (block_with_row row block)

pub length-fold : (rows : List Row) (blocks : List Registers) → length (fold blocks_with_row blocks rows) ≡ length blocks
length-fold [] blocks = refl
length-fold (row ∷ rest) blocks = length-fold rest (blocks_with_row blocks row) ∙ length_step blocks row (slice_get blocks row.node)

-- ---- used nodes, as a set and as a test

pub used_is : (s : System) (request : Request) (n : ℕ) → IsUsed s request n → is_used s request n ≡ true
used_is s request n used =
    let m : ℕ = used.0 in
    let there = used.1 in
    let on = used.2 in
    let under : is_under s.nodes n m ≡ true = list_any_at (λ q. q == n) (path_of s.nodes m) on.0 n on.1 (eq-eqb (get_or (path_of s.nodes m) on.0 n) n on.2) in
    list_any_at (is_under s.nodes n) request.endpoints there.0 m there.1 (ap (is_under s.nodes n) there.2 ∙ under)

pub used_from : (s : System) (request : Request) (n : ℕ) → is_used s request n ≡ true → IsUsed s request n
used_from s request n is =
    let some = Any-from_list_any (is_under s.nodes n) request.endpoints is in
    let on = Any-from_list_any (λ q. q == n) (path_of s.nodes some.1) some.4 in
    let same : on.1 ≡ n = eqb-true on.1 n on.4 in
    (some.1, (some.0, some.2, some.3), subst (λ (q : ℕ). Contains (path_of s.nodes some.1) q) same (on.0, on.2, on.3))

-- ---- the rows of a plan

-- rows for a request, of a range that is new
pub record Rowed (s : System) (request : Request) (r : Range) (rows : List Row) : Type 0 where
  pub system : IsSystem s
  pub rows_of : AreRowsOf s request rows
  pub each : (row : Row) → Contains rows row → IsRow s r row
  pub new : (n : ℕ) → serves s r n ≡ false

pub apart_of : (s : System) (request : Request) (rows : List Row) → AreRowsOf s request rows → StandApart rows
apart_of s request rows are = λ i j d less within e. let rises = are.rising i j d less within in omega (arith, e)

-- some row is of a node, or none is
pub record RowAt (s : System) (request : Request) (rows : List Row) (n : ℕ) : Type 0 where
  pub row : Row
  pub there : Contains rows row
  pub node : row.node ≡ n

pub row_of : (s : System) (request : Request) (rows : List Row) (n : ℕ) → AreRowsOf s request rows → has_row s request n ≡ true → RowAt s request rows n
row_of s request rows n are is =
    let parts = and_parts (is_used s request n) (not (forwards_at s.nodes n)) is in
    let at = are.all n (used_from s request n parts.0) (not-true (forwards_at s.nodes n) parts.1) in
    record { row = at.0; there = at.1; node = at.2 }

pub no_row_of : (s : System) (request : Request) (rows : List Row) (n : ℕ) → AreRowsOf s request rows → has_row s request n ≡ false → All (λ (row : Row). row.node ≢ n) rows
no_row_of s request rows n are none = λ k d within e.
    let row : Row = get_or rows k d in
    let is = are.used row (k, within, get_or_default_of rows k d within) in
    let used : is_used s request n ≡ true = subst (λ (m : ℕ). is_used s request m ≡ true) e (used_is s request row.node is.0) in
    let own : forwards_at s.nodes n ≡ false = subst (λ (m : ℕ). forwards_at s.nodes m ≡ false) e is.1 in
    false≢true (sym none ∙ and_from (is_used s request n) (not (forwards_at s.nodes n)) used (not_from_false (forwards_at s.nodes n) own))
  where
    get_or_default_of : (xs : List Row) (k : ℕ) (d : Row) → k < length xs → get_or xs k (get_or xs k d) ≡ get_or xs k d
    get_or_default_of xs k d within = get_or_from_slice_get xs k (get_or xs k d) (get_or xs k d) (slice_get-get_or xs k d within)

-- ---- the decoders of a node

-- a node of no row has the decoders that it had
pub same_decoders : (s : System) (rows : List Row) (n : ℕ) → All (λ (row : Row). row.node ≢ n) rows → decoders_at (with_rows s rows) n ≡ decoders_at s n
same_decoders s rows n none = ap (λ (o : Option Registers). option_map_or (λ block. block.decoders) o []) (get_fold_none rows s.blocks n none)

-- the block of a row, with the place of its decoder
pub record RowPlace (s : System) (rows : List Row) (row : Row) : Type 0 where
  pub block : Registers
  pub here : slice_get s.blocks row.node ≡ Some block
  pub within : row.index < length block.decoders
  pub changed : slice_get (with_rows s rows).blocks row.node ≡ Some (block_with_row row block)

pub row_place : (s : System) (r : Range) (rows : List Row) (row : Row) → StandApart rows → Contains rows row → IsRow s r row → RowPlace s rows row
row_place s r rows row apart there is =
    let first = position-Some (λ (d : Decoder). not d.committed) (decoders_at s row.node) row.index reset_decoder is.first in
    let own = in_block s row.node row.index (get_or (decoders_at s row.node) row.index reset_decoder) (slice_get-get_or (decoders_at s row.node) row.index reset_decoder first.0) in
    record {
      block = own.block;
      here = own.at;
      within = slice_get_within own.block.decoders row.index (get_or (decoders_at s row.node) row.index reset_decoder) own.there;
      changed = get_fold_some rows s.blocks row apart there ∙ ap (option_map (block_with_row row)) own.at;
    }

pub decoders_before : (s : System) (rows : List Row) (row : Row) → (place : RowPlace s rows row) → decoders_at s row.node ≡ place.block.decoders
decoders_before s rows row place = ap (λ (o : Option Registers). option_map_or (λ block. block.decoders) o []) place.here

pub decoders_after : (s : System) (rows : List Row) (row : Row) → (place : RowPlace s rows row) → decoders_at (with_rows s rows) row.node ≡ set place.block.decoders row.index (committed_row row)
decoders_after s rows row place = ap (λ (o : Option Registers). option_map_or (λ block. block.decoders) o []) place.changed

-- a row's decoder has the range
row_has : (s : System) (r : Range) (row : Row) → IsRow s r row → has_range r (committed_row row) ≡ true
row_has s r row is =
    let base : row.decoder.base ≡ r.base = ap (λ (q : Range). q.base) is.range in
    let size : row.decoder.size ≡ r.size = ap (λ (q : Range). q.size) is.range in
    and_from (row.decoder.base == r.base) (row.decoder.size == r.size) (eq-eqb row.decoder.base r.base base) (eq-eqb row.decoder.size r.size size)

-- the node's row, and that its decoder is the node's of the range
pub record ByRow (s : System) (request : Request) (r : Range) (rows : List Row) (n : ℕ) : Type 0 where
  pub row : Row
  pub there : Contains rows row
  pub node : row.node ≡ n
  pub is : IsRow s r row
  pub has : has_range r (committed_row row) ≡ true
  pub serves : serves (with_rows s rows) r n ≡ true
  pub first : decoder_for (with_rows s rows) r n ≡ Some (committed_row row)
  pub number : index_for (with_rows s rows) r n ≡ Some row.index
  pub at : decoder_at (with_rows s rows) n row.index ≡ Some (committed_row row)
  pub within : row.index < length (decoders_at s n)
  pub set_in : decoders_at (with_rows s rows) n ≡ set (decoders_at s n) row.index (committed_row row)
  pub others : (i : ℕ) → i ≢ row.index → decoder_at (with_rows s rows) n i ≡ decoder_at s n i

pub by_row : (s : System) (request : Request) (r : Range) (rows : List Row) → Rowed s request r rows → (n : ℕ) → has_row s request n ≡ true → ByRow s request r rows n
by_row s request r rows rowed n is =
    let own = row_of s request rows n rowed.rows_of is in
    let row : Row = own.row in
    let fits : IsRow s r row = rowed.each row own.there in
    let place = row_place s r rows row (apart_of s request rows rowed.rows_of) own.there fits in
    let none : list_any (has_range r) place.block.decoders ≡ false = ap (list_any (has_range r)) (sym (decoders_before s rows row place)) ∙ rowed.new row.node in
    let has = row_has s r row fits in
    let passes = set_passes (has_range r) place.block.decoders row.index (committed_row row) none place.within has in
    let after : decoders_at (with_rows s rows) n ≡ set place.block.decoders row.index (committed_row row) =
    ap (decoders_at (with_rows s rows)) (sym own.node) ∙ decoders_after s rows row place in
    let before : decoders_at s n ≡ place.block.decoders = ap (decoders_at s) (sym own.node) ∙ decoders_before s rows row place in
    record {
      row = row;
      there = own.there;
      node = own.node;
      is = fits;
      has = has;
      serves = ap (list_any (has_range r)) after ∙ passes.any;
      first = ap (find (has_range r)) after ∙ passes.found;
      number = ap (position (has_range r)) after ∙ passes.place;
      at = ap (λ (ds : List Decoder). slice_get ds row.index) after ∙ get_same place.block.decoders row.index (committed_row row) place.within;
      within = subst (λ (ds : List Decoder). row.index < length ds) (sym before) place.within;
      set_in = after ∙ ap (λ (ds : List Decoder). set ds row.index (committed_row row)) (sym before);
      others = λ i other.
          ap (λ (ds : List Decoder). slice_get ds i) after ∙ get_other place.block.decoders row.index i (committed_row row) other
          ∙ ap (λ (ds : List Decoder). slice_get ds i) (sym before);
    }

-- a node serves the range exactly where it has a row
pub serves_row : (s : System) (request : Request) (r : Range) (rows : List Row) → Rowed s request r rows → (n : ℕ) → serves (with_rows s rows) r n ≡ has_row s request n
serves_row s request r rows rowed n =
    elim (cases_Bool (has_row s request n)) [
      | inl is ↦ (by_row s request r rows rowed n is).serves ∙ sym is
      | inr none ↦
          ap (list_any (has_range r)) (same_decoders s rows n (no_row_of s request rows n rowed.rows_of none)) ∙ rowed.new n ∙ sym none
    ]

-- ---- the image is a system

-- each block is as it was, or has its row's decoder in place
pub record ThenBlock (s : System) (r : Range) (n : ℕ) (block : Registers) : Type 0 where
  pub old : Registers
  pub here : slice_get s.blocks n ≡ Some old
  pub is : IsBlock block
  pub cap : block.cap ≡ old.cap
  pub endpoint : block.endpoint ≡ old.endpoint

row_block : (s : System) (r : Range) (row : Row) (block : Registers) → IsSystem s → slice_get s.blocks row.node ≡ Some block → IsRow s r row → IsBlock (block_with_row row block)
row_block s r row block system here is =
    let own : IsBlock block = All-at IsBlock s.blocks row.node block here system.blocks in
    let kept : IsDecoder block.endpoint row.decoder = subst (λ (b : Bool). IsDecoder b row.decoder) (sym (of_node s row.node block system here).endpoint) is.kept in
    let committed : IsDecoder block.endpoint (committed_row row) = record { base = kept.base; size = kept.size; ways = kept.ways; gran = kept.gran; tail = kept.tail; skip = kept.skip } in
    record {
      cap = own.cap;
      enabled = λ port. refl;
      count = length-set block.decoders row.index (committed_row row) ∙ own.count;
      each = All-set (IsDecoder block.endpoint) block.decoders row.index (committed_row row) committed own.each;
    }

pub then_block : (s : System) (request : Request) (r : Range) (rows : List Row) → Rowed s request r rows → (n : ℕ) (block : Registers) → slice_get (with_rows s rows).blocks n ≡ Some block → ThenBlock s r n block
then_block s request r rows rowed n block at =
    elim (cases_Bool (has_row s request n)) [
      | inl is ↦
          let own = row_of s request rows n rowed.rows_of is in
          let place = row_place s r rows own.row (apart_of s request rows rowed.rows_of) own.there (rowed.each own.row own.there) in
          let same : block_with_row own.row place.block ≡ block = same_Some (block_with_row own.row place.block) block (sym place.changed ∙ ap (slice_get (with_rows s rows).blocks) own.node ∙ at) in
          record {
            old = place.block;
            here = ap (slice_get s.blocks) (sym own.node) ∙ place.here;
            is = subst IsBlock same (row_block s r own.row place.block rowed.system place.here (rowed.each own.row own.there));
            cap = ap (λ (b : Registers). b.cap) (sym same);
            endpoint = ap (λ (b : Registers). b.endpoint) (sym same);
          }
      | inr none ↦
          let here : slice_get s.blocks n ≡ Some block = sym (get_fold_none rows s.blocks n (no_row_of s request rows n rowed.rows_of none)) ∙ at in
          record { old = block; here = here; is = All-at IsBlock s.blocks n block here rowed.system.blocks; cap = refl; endpoint = refl }
    ]

pub still_system : (s : System) (request : Request) (r : Range) (rows : List Row) → Rowed s request r rows → IsSystem (with_rows s rows)
still_system s request r rows rowed = record {
  tree = rowed.system.tree;
  blocks = λ k d within. (then_block s request r rows rowed k (get_or (with_rows s rows).blocks k d) (slice_get-get_or (with_rows s rows).blocks k d within)).is;
  caps = record {
    count = length-fold rows s.blocks ∙ rowed.system.caps.count;
    each = λ i block node here there.
        let before = then_block s request r rows rowed i block here in
        let own = rowed.system.caps.each i before.old node before.here there in
        record { cap = before.cap ∙ own.cap; endpoint = before.endpoint ∙ own.endpoint };
  };
  made = rowed.system.made;
}
