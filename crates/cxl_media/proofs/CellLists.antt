-- Cells by number, and the blocks that are kept by place: what putting a block, taking one out and bringing one to another cell leave.
use Rattle.std.proofs.Common.{◌≡◌, ◌≢◌, ◌⊎◌, ℕ, zero, suc, ◌+◌, ◌*◌, ◌-◌, ◌<◌, ◌≤◌, List, [], ◌∷◌, ◌++◌, length, map, take, get_or, set, replicate, Option, None, Some, IsSome, is_some, inl, inr, refl, sym, ap, ◌∙◌, subst, arith}
use Rattle.std.specs.Prelude.{swap, swap_remove}
use Rattle.std.proofs.lemmas.Bool.{cases_eq, cases_lt, false≢true}
use Rattle.std.proofs.lemmas.List.{same_lists, length-map, length-append, length-replicate, length-set, map-append, map-set, take-map, set-get_or, get_or-map, get_or-set_same, get_or-set_other, get_or_past, get_or_append_left}
use Rattle.std.proofs.lemmas.List.Edits.{swap_is}
use Rattle.std.proofs.Math.ListN as seq
use Rattle.cxl_enc.specs.Limits.{frame_limit}
use Rattle.cxl_enc.proofs.Lists.{zeros_at}
use Rattle.cxl_media.specs.declared.cell.Cell.{Cell}
use Rattle.cxl_media.specs.declared.cell_list.KeptBlock.{KeptBlock}
use Rattle.cxl_media.specs.Table.{Cells, cell_at}
use Rattle.cxl_media.specs.CellList.{kept_of, block_named, cells_of, place_at, ArePlaced}
use Rattle.cxl_media.proofs.Keys.{not_none, same_some}

-- what stands at a cell is what its number names
pub cell_here : (numbers : List ℕ) (kept : Cells) (i : ℕ) → cell_at (cells_of numbers kept) i ≡ block_named kept (get_or numbers i 0)
cell_here numbers kept i = seq.get_or-map (block_named kept) numbers i 0

pub length_of : (numbers : List ℕ) (kept : Cells) → length (cells_of numbers kept) ≡ length numbers
length_of numbers kept = length-map numbers (block_named kept)

pub length_kept : (places : List KeptBlock) → length (kept_of places) ≡ length places
length_kept places = length-map places (λ (p : KeptBlock). Some p.cell)

-- a number above 0 names what is kept one below
pub named_below : (kept : Cells) (number : ℕ) → number ≢ 0 → block_named kept number ≡ cell_at kept (number - 1)
named_below kept zero some = absurd (some refl)
named_below kept (suc n) some =
    let below : n ≡ suc n - 1 = omega arith in
    ap (cell_at kept) below

-- cells whose numbers name the same blocks
pub cells_same : (numbers new : List ℕ) (kept other : Cells) → length new ≡ length numbers → ((k : ℕ) → k < length numbers → block_named other (get_or new k 0) ≡ block_named kept (get_or numbers k 0)) → cells_of new other ≡ cells_of numbers kept
cells_same numbers new kept other long alike =
    same_lists (cells_of new other) (cells_of numbers kept) (length_of new other ∙ long ∙ sym (length_of numbers kept)) (λ k d within.
    let inside : k < length new = omega (arith, length_of new other, within) in
    get_or-map (block_named other) new k 0 d inside ∙ alike k (omega (arith, inside, long)) ∙ sym (get_or-map (block_named kept) numbers k 0 d (omega (arith, inside, long))))

cells_new : (kept : Cells) (n : ℕ) → cells_of (replicate n 0) kept ≡ replicate n None
cells_new kept zero = refl
cells_new kept (suc n) = ap (λ cells. None ∷ cells) (cells_new kept n)

pub new_cells : (numbers : List ℕ) (kept : Cells) (n : ℕ) → numbers ≡ replicate n 0 → cells_of numbers kept ≡ replicate n None
new_cells numbers kept n is = ap (λ ns. cells_of ns kept) is ∙ cells_new kept n

-- without a block
pub placed_none : (numbers : List ℕ) (places : List KeptBlock) (n room : ℕ) → numbers ≡ replicate n 0 → places ≡ [] → n ≤ 3 * room → n ≤ 3 * frame_limit → ArePlaced numbers places room
placed_none numbers places n room are none fits small =
    rw (are, none) (record {
      own = λ i m is.
          let both : 0 ≡ suc m = sym (zeros_at n i) ∙ is in
          absurd (omega arith);
      named = λ m p is. absurd (not_none p (sym is));
      fits = omega (arith, length-replicate {A = ℕ} n 0, fits);
      small = omega (arith, length-replicate {A = ℕ} n 0, small);
      few = omega arith;
    })

pub number_within : (numbers : List ℕ) (i n : ℕ) → get_or numbers i 0 ≡ suc n → i < length numbers
number_within numbers i n is =
    elim (cases_lt i (length numbers)) [
      | inl within ↦ within
      | inr past ↦
          let both : 0 ≡ suc n = sym (get_or_past numbers i 0 past) ∙ is in
          absurd (omega arith)
    ]

-- a place keeps its block
pub kept_at : (places : List KeptBlock) (n : ℕ) (p : KeptBlock) → place_at places n ≡ Some p → cell_at (kept_of places) n ≡ Some p.cell
kept_at [] n p is = absurd (not_none p (sym is))
kept_at (x ∷ rest) zero p is = ap (λ (y : KeptBlock). Some y.cell) (same_some x p is)
kept_at (x ∷ rest) (suc n) p is = kept_at rest n p is

pub place_within : (places : List KeptBlock) (n : ℕ) (p : KeptBlock) → place_at places n ≡ Some p → n < length places
place_within [] n p is = absurd (not_none p (sym is))
place_within (x ∷ rest) zero p is = omega arith
place_within (x ∷ rest) (suc n) p is = omega (arith, place_within rest n p is)

pub place_read : (places : List KeptBlock) (n : ℕ) (d : KeptBlock) → n < length places → place_at places n ≡ Some (get_or places n d)
place_read places n d within = get_or-map (λ (p : KeptBlock). Some p) places n d None within

kept_read : (places : List KeptBlock) (n : ℕ) (d : KeptBlock) → n < length places → cell_at (kept_of places) n ≡ Some (get_or places n d).cell
kept_read places n d within = get_or-map (λ (p : KeptBlock). Some p.cell) places n d None within

-- a place more
place_more : (places : List KeptBlock) (new : KeptBlock) (n : ℕ) (p : KeptBlock) → place_at places n ≡ Some p → place_at (places ++ new ∷ []) n ≡ Some p
place_more [] new n p is = absurd (not_none p (sym is))
place_more (x ∷ rest) new zero p is = is
place_more (x ∷ rest) new (suc n) p is = place_more rest new n p is

place_last : (places : List KeptBlock) (new : KeptBlock) → place_at (places ++ new ∷ []) (length places) ≡ Some new
place_last [] new = refl
place_last (x ∷ rest) new = place_last rest new

place_fewer : (places : List KeptBlock) (new : KeptBlock) (n : ℕ) (p : KeptBlock) → place_at (places ++ new ∷ []) n ≡ Some p → n ≢ length places → place_at places n ≡ Some p
place_fewer [] new zero p is other = absurd (other refl)
place_fewer [] new (suc n) p is other = absurd (not_none p (sym is))
place_fewer (x ∷ rest) new zero p is other = is
place_fewer (x ∷ rest) new (suc n) p is other = place_fewer rest new n p is (λ same. other (ap suc same))

-- what is put at a place
set_here : (places : List KeptBlock) (n : ℕ) (new : KeptBlock) → n < length places → place_at (set places n new) n ≡ Some new
set_here places n new within =
    ap (λ os. get_or os n None) (map-set (λ (p : KeptBlock). Some p) places n new)
    ∙ get_or-set_same (map (λ (p : KeptBlock). Some p) places) n (Some new) None (omega (arith, within, length-map places (λ (p : KeptBlock). Some p)))

set_beside : (places : List KeptBlock) (n m : ℕ) (new : KeptBlock) → m ≢ n → place_at (set places n new) m ≡ place_at places m
set_beside places n m new other =
    ap (λ os. get_or os m None) (map-set (λ (p : KeptBlock). Some p) places n new)
    ∙ get_or-set_other (map (λ (p : KeptBlock). Some p) places) n m (Some new) None other

-- the block of a cell was taken out, and that of the last place has this one: so the numbers are then
pub record Renamed (numbers : List ℕ) (cell place last : ℕ) (new : List ℕ) : Type 0 where
  pub gone : get_or new cell 0 ≡ 0
  pub renamed : (i : ℕ) → i ≢ cell → get_or numbers i 0 ≡ suc last → get_or new i 0 ≡ suc place
  pub rest : (i : ℕ) → i ≢ cell → get_or numbers i 0 ≢ suc last → get_or new i 0 ≡ get_or numbers i 0
  pub long : length new ≡ length numbers

-- the last block takes the place of one that is taken out
pub swapped_kept : (places : List KeptBlock) (i : ℕ) (out : KeptBlock) → kept_of (swap_remove places i out) ≡ swap_remove (kept_of places) i (Some out.cell)
swapped_kept places i out =
    let f = λ (p : KeptBlock). Some p.cell in
    let last = length places - 1 in
    sym (take-map f last (set places i (get_or places last out)))
    ∙ ap (take last) (map-set f places i (get_or places last out))
    ∙ ap (λ o. take last (set (kept_of places) i o)) (sym (seq.get_or-map f places last out))
    ∙ ap (λ n. take (n - 1) (set (kept_of places) i (get_or (kept_of places) (n - 1) (Some out.cell)))) (sym (length_kept places))

module _ (numbers : List ℕ) (places : List KeptBlock) (room : ℕ) (are : ArePlaced numbers places room) where
  pub filled : (i n : ℕ) → get_or numbers i 0 ≡ suc n → n < length places
  filled i n is = let found = are.own i n is in place_within places n found.0 found.1

  -- two cells do not have one number
  one_cell : (i j n : ℕ) → get_or numbers i 0 ≡ suc n → get_or numbers j 0 ≡ suc n → i ≡ j
  one_cell i j n a b =
      let one = are.own i n a in
      let two = are.own j n b in
      sym one.2 ∙ ap (λ (p : KeptBlock). p.at) (same_some one.0 two.0 (sym one.1 ∙ two.1)) ∙ two.2

  -- an empty cell has the number 0, and one that is taken another
  pub empty_number : (at : ℕ) → cell_at (cells_of numbers (kept_of places)) at ≡ None → get_or numbers at 0 ≡ 0
  empty_number at empty = by_case (get_or numbers at 0) refl
    where
      by_case : (m : ℕ) → get_or numbers at 0 ≡ m → get_or numbers at 0 ≡ 0
      by_case zero is = is
      by_case (suc n) is =
          let found = are.own at n is in
          absurd (not_none found.0.cell (sym (kept_at places n found.0 found.1) ∙ sym (cell_here numbers (kept_of places) at ∙ ap (block_named (kept_of places)) is) ∙ empty))

  pub taken_number : (at : ℕ) → IsSome (cell_at (cells_of numbers (kept_of places)) at) → get_or numbers at 0 ≢ 0
  taken_number at taken none =
      false≢true (sym (ap is_some (cell_here numbers (kept_of places) at ∙ ap (block_named (kept_of places)) none)) ∙ taken)

  -- a block is put into an empty cell, and kept behind the others
  module _ (at : ℕ) (new : KeptBlock) (within : at < length numbers) (empty : cell_at (cells_of numbers (kept_of places)) at ≡ None) (its : new.at ≡ at) (more : 3 * length places < length numbers) where
    pub put_kept : kept_of (places ++ new ∷ []) ≡ kept_of places ++ Some new.cell ∷ []
    put_kept = map-append (λ (p : KeptBlock). Some p.cell) places (new ∷ [])

    -- no cell has its number yet
    unused : (i : ℕ) → get_or numbers i 0 ≢ suc (length places)
    unused i is = omega (arith, filled i (length places) is)

    still : (name : ℕ) → ((n : ℕ) → name ≡ suc n → n < length places) → block_named (kept_of (places ++ new ∷ [])) name ≡ block_named (kept_of places) name
    still zero low = refl
    still (suc n) low =
        ap (λ kept. cell_at kept n) put_kept
        ∙ get_or_append_left (kept_of places) (Some new.cell ∷ []) None n (omega (arith, low n refl, length_kept places))

    pub put_cells : cells_of (set numbers at (suc (length places))) (kept_of (places ++ new ∷ [])) ≡ set (cells_of numbers (kept_of places)) at (Some new.cell)
    put_cells =
        map-set (block_named (kept_of (places ++ new ∷ []))) numbers at (suc (length places))
        ∙ ap (λ cells. set cells at (cell_at (kept_of (places ++ new ∷ [])) (length places)))
        (cells_same numbers numbers (kept_of places) (kept_of (places ++ new ∷ [])) refl (λ k _. still (get_or numbers k 0) (filled k)))
        ∙ ap (set (cells_of numbers (kept_of places)) at) (kept_at (places ++ new ∷ []) (length places) new (place_last places new))

    new_number : (i n : ℕ) → get_or (set numbers at (suc (length places))) i 0 ≡ suc n → ((i ≡ at) × (n ≡ length places)) ⊎ ((i ≢ at) × (get_or numbers i 0 ≡ suc n))
    new_number i n is =
        elim (cases_eq i at) [
          | inl here ↦
              let number : suc n ≡ suc (length places) = sym is ∙ ap (λ k. get_or (set numbers at (suc (length places))) k 0) here ∙ get_or-set_same numbers at (suc (length places)) 0 within in
              inl (here, omega arith)
          | inr other ↦ inr (other, sym (get_or-set_other numbers at i (suc (length places)) 0 other) ∙ is)
        ]

    pub put_placed : ArePlaced (set numbers at (suc (length places))) (places ++ new ∷ []) room
    put_placed = record {
      own = λ i n is. elim (new_number i n is) [
        | inl one ↦ (new, ap (place_at (places ++ new ∷ [])) one.1 ∙ place_last places new, its ∙ sym one.0)
        | inr old ↦
            let found = are.own i n old.1 in
            (found.0, place_more places new n found.0 found.1, found.2)
      ];
      named = λ n p there. elim (cases_eq n (length places)) [
        | inl last ↦
            let same : p ≡ new = same_some p new (sym there ∙ ap (place_at (places ++ new ∷ [])) last ∙ place_last places new) in
            let cell : p.at ≡ at = ap (λ (q : KeptBlock). q.at) same ∙ its in
            ap (λ k. get_or (set numbers at (suc (length places))) k 0) cell ∙ get_or-set_same numbers at (suc (length places)) 0 within ∙ sym (ap suc last)
        | inr low ↦
            let was = are.named n p (place_fewer places new n p there low) in
            let other : p.at ≢ at = λ same.
            let both : 0 ≡ suc n = sym (empty_number at empty) ∙ sym (ap (λ k. get_or numbers k 0) same) ∙ was in
            omega arith in
            get_or-set_other numbers at p.at (suc (length places)) 0 other ∙ was
      ];
      fits = omega (arith, are.fits, length-set numbers at (suc (length places)));
      small = omega (arith, are.small, length-set numbers at (suc (length places)));
      few = omega (arith, more, are.small, length-append places (new ∷ []));
    }

  -- the block at a place is taken out, and the last one takes its place: so the places are then
  module _ (place : ℕ) (out : KeptBlock) (there : place_at places place ≡ Some out) (left : List KeptBlock) (fewer : length left + 1 ≡ length places) (moved : (d : KeptBlock) → place + 1 < length places → get_or left place d ≡ get_or places (length places - 1) d) (others : (k : ℕ) (d : KeptBlock) → k ≢ place → k + 1 < length places → get_or left k d ≡ get_or places k d) where
    -- the last block, where it is moved
    moved_last : place < length left → place_at places (length places - 1) ≡ Some (get_or left place out)
    moved_last within = place_read places (length places - 1) out (omega (arith, within, fewer)) ∙ ap (λ (p : KeptBlock). Some p) (sym (moved out (omega (arith, within, fewer))))

    pub moved_number : place < length left → get_or numbers (get_or left place out).at 0 ≡ suc (length places - 1)
    moved_number within = are.named (length places - 1) (get_or left place out) (moved_last within)

    moved_beside : place < length left → (get_or left place out).at ≢ out.at
    moved_beside within same =
        let both : suc (length places - 1) ≡ suc place = sym (moved_number within) ∙ ap (λ k. get_or numbers k 0) same ∙ are.named place out there in
        omega (arith, within, fewer)

    pub out_cell : cell_at (cells_of numbers (kept_of places)) out.at ≡ Some out.cell
    out_cell = cell_here numbers (kept_of places) out.at ∙ ap (block_named (kept_of places)) (are.named place out there) ∙ kept_at places place out there

    pub out_within : out.at < length numbers
    out_within = number_within numbers out.at place (are.named place out there)

    -- the cell that is left is 0, and that of the last block names its new place
    pub renamed_so : (new : List ℕ) → (place < length left → new ≡ set (set numbers out.at 0) (get_or left place out).at (suc place)) → (length left ≤ place → new ≡ set numbers out.at 0) → Renamed numbers out.at place (length places - 1) new
    renamed_so new one none =
        elim (cases_lt place (length left)) [
          | inl within ↦
              let cell = (get_or left place out).at in
              let zeroed = set numbers out.at 0 in
              let number = moved_number within in
              record {
                gone =
                    ap (λ ns. get_or ns out.at 0) (one within)
                    ∙ get_or-set_other zeroed cell out.at (suc place) 0 (λ same. moved_beside within (sym same))
                    ∙ get_or-set_same numbers out.at 0 0 out_within;
                renamed = λ i other is.
                    ap (λ ns. get_or ns i 0) (one within)
                    ∙ ap (λ k. get_or (set zeroed cell (suc place)) k 0) (one_cell i cell (length places - 1) is number)
                    ∙ get_or-set_same zeroed cell (suc place) 0 (omega (arith, number_within numbers cell (length places - 1) number, length-set numbers out.at 0));
                rest = λ i other low.
                    let beside : i ≢ cell = λ same. low (ap (λ k. get_or numbers k 0) same ∙ number) in
                    ap (λ ns. get_or ns i 0) (one within)
                    ∙ get_or-set_other zeroed cell i (suc place) 0 beside
                    ∙ get_or-set_other numbers out.at i 0 0 other;
                long = ap length (one within) ∙ length-set zeroed cell (suc place) ∙ length-set numbers out.at 0;
              }
          | inr past ↦
              record {
                gone = ap (λ ns. get_or ns out.at 0) (none past) ∙ get_or-set_same numbers out.at 0 0 out_within;
                renamed = λ i other is.
                    let last : length places - 1 ≡ place = omega (arith, past, fewer, place_within places place out there) in
                    absurd (other (one_cell i out.at place (is ∙ ap suc last) (are.named place out there)));
                rest = λ i other low. ap (λ ns. get_or ns i 0) (none past) ∙ get_or-set_other numbers out.at i 0 0 other;
                long = ap length (none past) ∙ length-set numbers out.at 0;
              }
        ]

  -- and the numbers
  module _ (place : ℕ) (out : KeptBlock) (there : place_at places place ≡ Some out) (left : List KeptBlock) (fewer : length left + 1 ≡ length places) (moved : (d : KeptBlock) → place + 1 < length places → get_or left place d ≡ get_or places (length places - 1) d) (others : (k : ℕ) (d : KeptBlock) → k ≢ place → k + 1 < length places → get_or left k d ≡ get_or places k d) (new : List ℕ) (so : Renamed numbers out.at place (length places - 1) new) where
    -- another cell has another number
    elsewhere : (i n : ℕ) → i ≢ out.at → get_or numbers i 0 ≡ suc n → n ≢ place
    elsewhere i n other is same = other (one_cell i out.at n is (are.named place out there ∙ ap suc (sym same)))

    last_left : (i : ℕ) → i ≢ out.at → get_or numbers i 0 ≡ suc (length places - 1) → place < length left
    last_left i other is =
        let apart : length places - 1 ≢ place = elsewhere i (length places - 1) other is in
        omega (arith, fewer, place_within places place out there)

    -- what is left at the place was last, and elsewhere what was there
    left_moved : place < length left → place_at left place ≡ place_at places (length places - 1)
    left_moved within =
        place_read left place out within ∙ ap (λ (p : KeptBlock). Some p) (moved out (omega (arith, within, fewer)))
        ∙ sym (place_read places (length places - 1) out (omega (arith, within, fewer)))

    left_other : (k : ℕ) → k ≢ place → k < length left → place_at left k ≡ place_at places k
    left_other k other within =
        place_read left k out within ∙ ap (λ (p : KeptBlock). Some p) (others k out other (omega (arith, within, fewer)))
        ∙ sym (place_read places k out (omega (arith, within, fewer)))

    -- where a cell's block is then
    found_left : (i n : ℕ) → i ≢ out.at → get_or numbers i 0 ≡ suc n → (m : ℕ) × (get_or new i 0 ≡ suc m) × (place_at left m ≡ place_at places n)
    found_left i n other is =
        elim (cases_eq n (length places - 1)) [
          | inl last ↦
              let number = is ∙ ap suc last in
              (place, so.renamed i other number, left_moved (last_left i other number) ∙ ap (place_at places) (sym last))
          | inr low ↦
              let apart : get_or numbers i 0 ≢ suc (length places - 1) = λ same.
              let both : suc n ≡ suc (length places - 1) = sym is ∙ same in
              low (omega arith) in
              (n, so.rest i other apart ∙ is, left_other n (elsewhere i n other is) (omega (arith, fewer, low, filled i n is)))
        ]

    named_left : (i name : ℕ) → i ≢ out.at → get_or numbers i 0 ≡ name → block_named (kept_of left) (get_or new i 0) ≡ block_named (kept_of places) name
    named_left i zero other is =
        let apart : get_or numbers i 0 ≢ suc (length places - 1) = λ same.
        let both : 0 ≡ suc (length places - 1) = sym is ∙ same in
        omega arith in
        ap (block_named (kept_of left)) (so.rest i other apart ∙ is)
    named_left i (suc n) other is =
        let found = found_left i n other is in
        let own = are.own i n is in
        ap (block_named (kept_of left)) found.1
        ∙ kept_at left found.0 own.0 (found.2 ∙ own.1)
        ∙ sym (kept_at places n own.0 own.1)

    pub taken_cells : cells_of new (kept_of left) ≡ set (cells_of numbers (kept_of places)) out.at None
    taken_cells =
        same_lists (cells_of new (kept_of left)) (set (cells_of numbers (kept_of places)) out.at None)
        (length_of new (kept_of left) ∙ so.long ∙ sym (length-set {A = Option Cell} (cells_of numbers (kept_of places)) out.at None ∙ length_of numbers (kept_of places))) (λ k d within.
        let inside : k < length new = omega (arith, within, length_of new (kept_of left)) in
        let before : k < length numbers = omega (arith, inside, so.long) in
        get_or-map (block_named (kept_of left)) new k 0 d inside
        ∙ elim (cases_eq k out.at) [
          | inl here ↦
              ap (λ i. block_named (kept_of left) (get_or new i 0)) here ∙ ap (block_named (kept_of left)) so.gone
              ∙ sym (ap (λ i. get_or (set (cells_of numbers (kept_of places)) out.at None) i d) here
              ∙ get_or-set_same (cells_of numbers (kept_of places)) out.at None d (subst (λ (i : ℕ). i < length (cells_of numbers (kept_of places))) here (omega (arith, before, length_of numbers (kept_of places)))))
          | inr other ↦
              named_left k (get_or numbers k 0) other refl
              ∙ sym (get_or-set_other (cells_of numbers (kept_of places)) out.at k None d other ∙ get_or-map (block_named (kept_of places)) numbers k 0 d before)
        ])

    -- a cell that has a number had one
    had : (i n : ℕ) → get_or new i 0 ≡ suc n → (i ≢ out.at) × (m : ℕ) × (get_or numbers i 0 ≡ suc m)
    had i n is =
        let other : i ≢ out.at = λ same.
        let both : 0 ≡ suc n = sym so.gone ∙ ap (λ k. get_or new k 0) (sym same) ∙ is in
        omega arith in
        let number = by_case (get_or numbers i 0) other refl in
        (other, number.0, number.1)
      where
        by_case : (name : ℕ) → i ≢ out.at → get_or numbers i 0 ≡ name → (m : ℕ) × (get_or numbers i 0 ≡ suc m)
        by_case (suc m) other was = (m, was)
        by_case zero other was =
            let apart : get_or numbers i 0 ≢ suc (length places - 1) = λ same.
            let both : 0 ≡ suc (length places - 1) = sym was ∙ same in
            omega arith in
            let both : suc n ≡ 0 = sym is ∙ so.rest i other apart ∙ was in
            absurd (omega arith)

    pub taken_placed : ArePlaced new left room
    taken_placed = record {
      own = λ i n is.
          let old = had i n is in
          let own = are.own i old.1 old.2 in
          let found = found_left i old.1 old.0 old.2 in
          let same : suc n ≡ suc found.0 = sym is ∙ found.1 in
          let one : n ≡ found.0 = omega arith in
          (own.0, ap (place_at left) one ∙ found.2 ∙ own.1, own.2);
      named = λ n p is.
          let within = place_within left n p is in
          elim (cases_eq n place) [
            | inl here ↦
                let last = ap (place_at left) (sym here) ∙ is in
                let number = are.named (length places - 1) p (sym (left_moved (subst (λ (k : ℕ). k < length left) here within)) ∙ last) in
                let other : p.at ≢ out.at = λ same.
                let both : suc (length places - 1) ≡ suc place = sym number ∙ ap (λ k. get_or numbers k 0) same ∙ are.named place out there in
                omega (arith, here, within, fewer) in
                so.renamed p.at other number ∙ ap suc (sym here)
            | inr beside ↦
                let number = are.named n p (sym (left_other n beside within) ∙ is) in
                let other : p.at ≢ out.at = λ same.
                let both : suc n ≡ suc place = sym number ∙ ap (λ k. get_or numbers k 0) same ∙ are.named place out there in
                beside (omega arith) in
                let low : get_or numbers p.at 0 ≢ suc (length places - 1) = λ same.
                let both : suc n ≡ suc (length places - 1) = sym number ∙ same in
                omega (arith, within, fewer) in
                so.rest p.at other low ∙ number
          ];
      fits = omega (arith, are.fits, so.long);
      small = omega (arith, are.small, so.long);
      few = omega (arith, are.few, fewer);
    }

  -- a block stands at an empty cell in place of its own
  module _ (empty from n : ℕ) (p : KeptBlock) (within : empty < length numbers) (none : get_or numbers empty 0 ≡ 0) (number : get_or numbers from 0 ≡ suc n) (there : place_at places n ≡ Some p) (from_within : from < length numbers) where
    pub apart : empty ≢ from
    apart same =
        let both : 0 ≡ suc n = sym none ∙ ap (λ k. get_or numbers k 0) same ∙ number in
        omega arith

    pub brought_kept : kept_of (set places n (record p { at = empty })) ≡ kept_of places
    brought_kept =
        map-set (λ (q : KeptBlock). Some q.cell) places n (record p { at = empty })
        ∙ ap (set (kept_of places) n) (sym (kept_at places n p there))
        ∙ set-get_or (kept_of places) n None

    pub brought_cells : cells_of (set (set numbers empty (suc n)) from 0) (kept_of (set places n (record p { at = empty }))) ≡ swap (cells_of numbers (kept_of places)) empty from
    brought_cells =
        let f = block_named (kept_of places) in
        let cells = cells_of numbers (kept_of places) in
        ap (cells_of (set (set numbers empty (suc n)) from 0)) brought_kept
        ∙ map-set f (set numbers empty (suc n)) from 0
        ∙ ap (λ cs. set cs from None) (map-set f numbers empty (suc n))
        ∙ ap (λ o. set (set cells empty (f (suc n))) from o) (sym (cell_here numbers (kept_of places) empty ∙ ap f none))
        ∙ ap (λ o. set (set cells empty o) from (cell_at cells empty)) (sym (cell_here numbers (kept_of places) from ∙ ap f number))
        ∙ swap_is cells empty from None (omega (arith, length_of numbers (kept_of places), within)) (omega (arith, length_of numbers (kept_of places), from_within))

    length_brought : length (set (set numbers empty (suc n)) from 0) ≡ length numbers
    length_brought = length-set (set numbers empty (suc n)) from 0 ∙ length-set numbers empty (suc n)

    -- the numbers then
    at_from : get_or (set (set numbers empty (suc n)) from 0) from 0 ≡ 0
    at_from = get_or-set_same (set numbers empty (suc n)) from 0 0 (omega (arith, from_within, length-set numbers empty (suc n)))

    at_empty : get_or (set (set numbers empty (suc n)) from 0) empty 0 ≡ suc n
    at_empty = get_or-set_other (set numbers empty (suc n)) from empty 0 0 apart ∙ get_or-set_same numbers empty (suc n) 0 within

    beside : (i : ℕ) → i ≢ empty → i ≢ from → get_or (set (set numbers empty (suc n)) from 0) i 0 ≡ get_or numbers i 0
    beside i not_empty not_from = get_or-set_other (set numbers empty (suc n)) from i 0 0 not_from ∙ get_or-set_other numbers empty i (suc n) 0 not_empty

    pub brought_placed : ArePlaced (set (set numbers empty (suc n)) from 0) (set places n (record p { at = empty })) room
    brought_placed = record {
      own = λ i m is. elim (cases_eq i from) [
        | inl up ↦
            let both : 0 ≡ suc m = sym at_from ∙ ap (λ k. get_or (set (set numbers empty (suc n)) from 0) k 0) (sym up) ∙ is in
            absurd (omega arith)
        | inr not_from ↦ elim (cases_eq i empty) [
          | inl down ↦
              let both : suc m ≡ suc n = sym is ∙ ap (λ k. get_or (set (set numbers empty (suc n)) from 0) k 0) down ∙ at_empty in
              let same : m ≡ n = omega arith in
              (record p { at = empty }, ap (place_at (set places n (record p { at = empty }))) same ∙ set_here places n (record p { at = empty }) (place_within places n p there), sym down)
          | inr not_empty ↦
              let was = sym (beside i not_empty not_from) ∙ is in
              let found = are.own i m was in
              let other : m ≢ n = λ same. not_from (one_cell i from m was (number ∙ ap suc (sym same))) in
              (found.0, set_beside places n m (record p { at = empty }) other ∙ found.1, found.2)
        ]
      ];
      named = λ m q is. elim (cases_eq m n) [
        | inl same ↦
            let one : q ≡ record p { at = empty } = same_some q (record p { at = empty }) (sym is ∙ ap (place_at (set places n (record p { at = empty }))) same ∙ set_here places n (record p { at = empty }) (place_within places n p there)) in
            ap (λ (r : KeptBlock). get_or (set (set numbers empty (suc n)) from 0) r.at 0) one ∙ at_empty ∙ ap suc (sym same)
        | inr other ↦
            let was = are.named m q (sym (set_beside places n m (record p { at = empty }) other) ∙ is) in
            let not_empty : q.at ≢ empty = λ same.
            let both : 0 ≡ suc m = sym none ∙ ap (λ k. get_or numbers k 0) (sym same) ∙ was in
            omega arith in
            let not_from : q.at ≢ from = λ same.
            let both : suc m ≡ suc n = sym was ∙ ap (λ k. get_or numbers k 0) same ∙ number in
            other (omega arith) in
            beside q.at not_empty not_from ∙ was
      ];
      fits = omega (arith, are.fits, length_brought);
      small = omega (arith, are.small, length_brought);
      few = omega (arith, are.few, length-set places n (record p { at = empty }));
    }
