-- How far a walk over a table's records has come: the lines of those before it are written, or stand in the block.
use Rattle.std.proofs.Common.{◌≡◌, ℕ, ◌+◌, ◌<◌, ◌≤◌, None, IsSome, List, [], ◌∷◌, ◌++◌, length, get_or, take, refl, sym, ap, subst, ◌∙◌, arith, append_assoc, length-append}
use Rattle.std.specs.List.{concat, filter_map}
use Rattle.std.proofs.Math.Seq.{take-append_seam}
use Rattle.std.proofs.lemmas.List.Elements.{filter_map-append}
use Rattle.cxl_table.specs.declared.cedt.Record.{Record}
use Rattle.cxl_io.specs.Sink.{SinkState, Takes}
use Rattle.cxl_window.specs.Fields.{WindowFields}
use Rattle.cxl_window.proofs.WindowLists.{length-windows_of}
use Rattle.cxl_window.specs.Windows.{cfmws_in, windows_of}
use Rattle.cxl_commands.specs.commands.LinePlaces.{line_at}
use Rattle.cxl_commands.specs.commands.Lines.{list_lines}
use Rattle.cxl_commands.proofs.InBlocks.{IsInBlocks}
use Rattle.cxl_commands.proofs.ListLines.{place_within, blocks-line, all_lines}

-- `rest` is left of the table, and `place` windows stand before it
pub record IsListedTo (table rest : List Record) (place : ℕ) (block : List ℕ) (old now : SinkState) : Type 0 where
  pub before : List Record
  pub split : table ≡ before ++ rest
  pub windows : place ≡ length (filter_map cfmws_in before)
  pub blocks : IsInBlocks (list_lines table) (length before) block old now

-- The record r stands behind those before it.
module _ (table before rest : List Record) (r : Record) (split : table ≡ before ++ r ∷ rest) where
  pub stands_within : length before < length table
  stands_within = let n = ap length split ∙ length-append before (r ∷ rest) in omega arith

  get_behind : (xs ys : List Record) → r ≡ get_or (xs ++ r ∷ ys) (length xs) r
  get_behind [] ys = refl
  get_behind (x ∷ xs) ys = get_behind xs ys

  pub stands_there : r ≡ get_or table (length before) r
  stands_there = get_behind before rest ∙ ap (λ t. get_or t (length before) r) (sym split)

  pub stand_before : take (length before) table ≡ before
  stand_before = ap (take (length before)) split ∙ take-append_seam before (r ∷ rest)

  -- what is asked of the line of r
  module _ (windows : List WindowFields) (windows-are : windows ≡ windows_of table None) (place : ℕ) (place-is : place ≡ length (filter_map cfmws_in before)) where
    placed : place ≡ length (filter_map cfmws_in (take (length before) table))
    placed = place-is ∙ ap (λ rs. length (filter_map cfmws_in rs)) (sym stand_before)

    pub place_there : IsSome (cfmws_in r) → place < length windows
    place_there = place_within table windows windows-are (length before) place placed stands_within r stands_there

    pub place_left : (count : ℕ) → count ≡ length (filter_map cfmws_in (r ∷ [])) → place + count ≤ length windows
    place_left count count-is =
        let all : length windows ≡ length (filter_map cfmws_in table) = ap length windows-are ∙ length-windows_of table None in
        let parts : length (filter_map cfmws_in table) ≡ length (filter_map cfmws_in before) + length (filter_map cfmws_in (r ∷ rest)) =
        ap (λ rs. length (filter_map cfmws_in rs)) split ∙ ap length (filter_map-append cfmws_in before (r ∷ rest)) ∙ length-append (filter_map cfmws_in before) (filter_map cfmws_in (r ∷ rest)) in
        let here : length (filter_map cfmws_in (r ∷ rest)) ≡ length (filter_map cfmws_in (r ∷ [])) + length (filter_map cfmws_in rest) =
        ap length (filter_map-append cfmws_in (r ∷ []) rest) ∙ length-append (filter_map cfmws_in (r ∷ [])) (filter_map cfmws_in rest) in
        omega (arith, place-is, count-is, all, parts, here)

    -- its line behind those before it
    pub listed_next : (count : ℕ) (block block' : List ℕ) (old now : SinkState) → count ≡ length (filter_map cfmws_in (r ∷ [])) → block' ≡ block ++ line_at windows place r
        → IsInBlocks (list_lines table) (length before) block old now → IsListedTo table rest (place + count) block' old now
    listed_next count block block' old now count-is more so_far = record {
      before = before ++ r ∷ [];
      split = split ∙ sym (append_assoc before (r ∷ []) rest);
      windows =
          ap (λ p. p + count) place-is ∙ ap (λ n. length (filter_map cfmws_in before) + n) count-is
          ∙ sym (ap length (filter_map-append cfmws_in before (r ∷ [])) ∙ length-append (filter_map cfmws_in before) (filter_map cfmws_in (r ∷ [])));
      blocks =
          subst (λ n. IsInBlocks (list_lines table) n block' old now) (sym (length-append before (r ∷ [])))
          (blocks-line table windows windows-are (length before) place placed stands_within r stands_there block block' old now more so_far);
    }

-- a record that is next stands behind those before it
pub stands_next : (table before rest left : List Record) (r : Record) → table ≡ before ++ left → left ≡ r ∷ rest → table ≡ before ++ r ∷ rest
stands_next table before rest left r split next = split ∙ ap (λ rs. before ++ rs) next

-- before the first record
pub listed_none : (table : List Record) (now : SinkState) → (Takes now now []) → IsListedTo table table 0 [] now now
listed_none table now nothing = record {
  before = [];
  split = refl;
  windows = refl;
  blocks = record { written = 0; few = omega arith; taken = nothing; together = refl };
}

-- all lines
pub listed_all : (table : List Record) (place : ℕ) (block : List ℕ) (old now : SinkState) (so_far : IsListedTo table [] place block old now) → concat (take (length so_far.before) (list_lines table)) ≡ concat (list_lines table)
listed_all table place block old now so_far =
    let n = ap length so_far.split ∙ length-append so_far.before [] in
    all_lines table (length so_far.before) (omega arith)
