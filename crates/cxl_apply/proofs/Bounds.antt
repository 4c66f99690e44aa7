-- How many rows and writes a job has, and the words that it writes.
use Rattle.std.proofs.Common.{◌≡◌, ℕ, zero, suc, ◌+◌, ◌-◌, ◌*◌, ◌<◌, ◌≤◌, List, [], ◌∷◌, ◌++◌, length, get_or, map, take, drop, Option, Some, None, refl, sym, ap, ◌∙◌, subst, arith}
use Rattle.std.specs.Prelude.{slice_get, slice_set, All, AllPairs, IsSomeAnd}
use Rattle.std.specs.List.{flat_map}
use Rattle.std.specs.Option.{option_map_or}
use Rattle.std.proofs.lemmas.List.{length-append, length-set, take_all, take_rest, take-append-drop}
use Rattle.std.proofs.lemmas.List.Elements.{All-nil, All-from_recursion, All-cons, All-head, All-tail, All-append}
use Rattle.std.proofs.lemmas.List.Sums.{fold-append}
use Rattle.std.proofs.lemmas.Option.{slice_get_within}
use Rattle.cxl_enc.proofs.Options.{some_and}
use Rattle.cxl_regs.specs.Registers.{Registers}
use Rattle.cxl_regs.specs.Words.{HasWord, offset_of}
use Rattle.cxl_regs.specs.Writes.{after_word}
use Rattle.cxl_regs.specs.Blocks.{IsPlace}
use Rattle.cxl_model.specs.declared.plan.Row.{Row}
use Rattle.cxl_apply.specs.declared.write.Write.{Write}
use Rattle.cxl_apply.specs.Jobs.{row_writes, release_write, CanCreate, CanRelease, IsTopRow, AreFalling, AreRising, blocks_after_write, blocks_after_writes, blocks_done}
use Rattle.cxl_apply.specs.Steps.{HasWordsOf}
use Rattle.cxl_apply.proofs.JobWrites.{all_falling, all_rising}

-- ---- how many

abbrev Falls : List Row → Type 0
Falls rows = AllPairs (λ (row next : Row). next.node < row.node) rows

abbrev Rises : List Row → Type 0
Rises rows = AllPairs (λ (row next : Row). row.node < next.node) rows

falls_rest : (row : Row) (rest : List Row) → Falls (row ∷ rest) → Falls rest
falls_rest row rest falls = λ i j d less within. falls (suc i) (suc j) d (omega arith) (omega arith)

rises_rest : (row : Row) (rest : List Row) → Rises (row ∷ rest) → Rises rest
rises_rest row rest rises = λ i j d less within. rises (suc i) (suc j) d (omega arith) (omega arith)

-- numbers that fall below n are no more than n
below_falling : (rows : List Row) (n : ℕ) → Falls rows → All (λ (row : Row). row.node < n) rows → length rows ≤ n
below_falling [] n falls below = omega arith
below_falling (row ∷ rest) n falls below =
    let first : row.node < n = below zero row (omega arith) in
    let others : length rest ≤ row.node = below_falling rest row.node (falls_rest row rest falls) (λ k d within. falls zero (suc k) d (omega arith) (omega arith)) in
    omega arith

below_rising : (rows : List Row) (low n : ℕ) → Rises rows → All (λ (row : Row). low ≤ row.node) rows → All (λ (row : Row). row.node < n) rows → length rows ≤ n - low
below_rising [] low n rises from below = omega arith
below_rising (row ∷ rest) low n rises from below =
    let first : row.node < n = below zero row (omega arith) in
    let above : low ≤ row.node = from zero row (omega arith) in
    let others : length rest ≤ n - (row.node + 1) = below_rising rest (row.node + 1) n (rises_rest row rest rises)
    (λ k d within. let less = rises zero (suc k) d (omega arith) (omega arith) in omega arith)
    (All-tail (λ (r : Row). r.node < n) row rest below) in
    omega arith

top_within : (blocks : List Registers) (row : Row) → IsTopRow blocks row → row.node < length blocks
top_within blocks row top = let block = some_and (slice_get blocks row.node) _ top.there in slice_get_within blocks row.node block.0 block.1

pub few_falling : (blocks : List Registers) (rows falling : List Row) → AreFalling rows falling → All (CanCreate blocks) rows → length falling ≤ length blocks
few_falling blocks rows falling is can =
    let all = all_falling (CanCreate blocks) rows falling is can in
    below_falling falling (length blocks) is.order (λ k d within. top_within blocks (get_or falling k d) (all k d within).top)

pub few_rising : (blocks : List Registers) (rows rising : List Row) → AreRising rows rising → All (CanRelease blocks) rows → length rising ≤ length blocks
few_rising blocks rows rising is can =
    let all = all_rising (CanRelease blocks) rows rising is can in
    let few : length rising ≤ length blocks - 0 = below_rising rising 0 (length blocks) is.order (λ k d within. omega arith) (λ k d within. top_within blocks (get_or rising k d) (all k d within).top) in
    omega arith

pub length_created : (blocks : List Registers) (rows : List Row) → length (flat_map (row_writes blocks) rows) ≡ 8 * length rows
length_created blocks [] = refl
length_created blocks (row ∷ rest) =
    let more : length (row_writes blocks row ++ flat_map (row_writes blocks) rest) ≡ 8 + length (flat_map (row_writes blocks) rest) = length-append (row_writes blocks row) (flat_map (row_writes blocks) rest) in
    more ∙ ap (λ (n : ℕ). 8 + n) (length_created blocks rest) ∙ omega arith

-- ---- the words that are written

place_of : (blocks : List Registers) (row : Row) (p : ℕ) → IsTopRow blocks row → p < 8 → IsPlace blocks row.node (offset_of row.index p)
place_of blocks row p top word =
    let block = some_and (slice_get blocks row.node) (λ (b : Registers). row.index < length b.decoders) top.there in
    let inside : row.index < length block.0.decoders = block.2 in
    subst (λ (o : Option Registers). IsSomeAnd o (λ b. HasWord b (offset_of row.index p))) (sym block.1) (record { whole = omega arith; inside = omega arith })

abbrev Stands : List Registers → Write → Type 0
Stands blocks w = IsPlace blocks w.node w.off

row_words : (blocks settled : List Registers) (row : Row) → IsTopRow blocks row → HasWordsOf blocks (row_writes settled row)
row_words blocks settled row top =
    All-from_recursion (Stands blocks) (row_writes settled row)
    (at 0 (omega arith), (at 1 (omega arith), (at 2 (omega arith), (at 3 (omega arith), (at 5 (omega arith), (at 6 (omega arith), (at 4 (omega arith), (at 4 (omega arith), tt))))))))
  where
    at : (p : ℕ) → p < 8 → IsPlace blocks row.node (offset_of row.index p)
    at p word = place_of blocks row p top word

pub created_words : (blocks settled : List Registers) (rows : List Row) → All (CanCreate blocks) rows → HasWordsOf blocks (flat_map (row_writes settled) rows)
created_words blocks settled [] can = All-nil (Stands blocks)
created_words blocks settled (row ∷ rest) can =
    All-append (Stands blocks) (row_writes settled row) (flat_map (row_writes settled) rest) (row_words blocks settled row (All-head (CanCreate blocks) row rest can).top)
    (created_words blocks settled rest (All-tail (CanCreate blocks) row rest can))

pub released_words : (blocks : List Registers) (rows : List Row) → All (CanRelease blocks) rows → HasWordsOf blocks (map release_write rows)
released_words blocks [] can = All-nil (Stands blocks)
released_words blocks (row ∷ rest) can =
    All-cons (Stands blocks) (release_write row) (map release_write rest) (place_of blocks row 4 (All-head (CanRelease blocks) row rest can).top (omega arith))
    (released_words blocks rest (All-tail (CanRelease blocks) row rest can))

-- ---- the image ahead

length_set_at : (blocks : List Registers) (w : Write) (o : Option Registers) → length (option_map_or (λ b. slice_set blocks w.node (after_word b w.off w.value).block) o blocks) ≡ length blocks
length_set_at blocks w None = refl
length_set_at blocks w (Some b) = length-set blocks w.node (after_word b w.off w.value).block

pub length_after : (blocks : List Registers) (writes : List Write) → length (blocks_after_writes blocks writes) ≡ length blocks
length_after blocks [] = refl
length_after blocks (w ∷ ws) = length_after (blocks_after_write blocks w) ws ∙ length_set_at blocks w (slice_get blocks w.node)

pub length_done : (blocks : List Registers) (writes : List Write) (n : ℕ) → length (blocks_done blocks writes n) ≡ length blocks
length_done blocks writes n = length_after blocks (take n writes)

pub all_ahead : (blocks after : List Registers) (writes items : List Write) (done i : ℕ) → after ≡ blocks_after_writes blocks (take i items) → length items ≤ i
    → items ≡ take (length writes - done) (drop done writes) → after ≡ blocks_after_writes blocks (drop done writes)
all_ahead blocks after writes items done i is past items_is = is ∙ ap (blocks_after_writes blocks) (take_all i items past ∙ items_is ∙ take_rest writes done)

pub ahead_whole : (start blocks after : List Registers) (writes : List Write) (done : ℕ) → after ≡ blocks_after_writes blocks (drop done writes) → blocks ≡ blocks_after_writes start (take done writes)
    → after ≡ blocks_after_writes start writes
ahead_whole start blocks after writes done left is =
    left ∙ ap (λ (b : List Registers). blocks_after_writes b (drop done writes)) is ∙ sym (fold-append blocks_after_write start (take done writes) (drop done writes))
    ∙ ap (blocks_after_writes start) (take-append-drop done writes)
