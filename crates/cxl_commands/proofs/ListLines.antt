-- The lines of a table's records, one record after another.
use Rattle.std.proofs.Common.{◌≡◌, ℕ, zero, suc, ◌+◌, ◌<◌, ◌≤◌, Some, None, IsSome, List, [], ◌∷◌, ◌++◌, length, get_or, take, drop, refl, sym, ap, ◌∙◌, arith, append_assoc, drop-cons, length-append}
use Rattle.std.specs.List.{concat, filter_map, slice_get}
use Rattle.std.proofs.lemmas.List.{take-append-drop, take_more, take_all, append-nil}
use Rattle.std.proofs.lemmas.List.Elements.{filter_map-append}
use Rattle.std.proofs.lemmas.Option.{slice_get_within}
use Rattle.cxl_table.specs.Fields.{CfmwsFields}
use Rattle.cxl_table.specs.declared.cedt.Record.{Record}
use Rattle.cxl_table.specs.declared.cedt.Record.TheVariants.{Chbs, Cfmws, Cxims, Other}
use Rattle.cxl_io.specs.Sink.{SinkState}
use Rattle.cxl_window.specs.Fields.{WindowFields}
use Rattle.cxl_window.specs.Windows.{cfmws_in, window_of, windows_from, windows_of}
use Rattle.cxl_commands.specs.commands.LinePlaces.{window_line_at, line_at}
use Rattle.cxl_commands.specs.commands.Lines.{record_line, lines_behind, list_lines}
use Rattle.cxl_commands.proofs.InBlocks.{concat-append, IsInBlocks, blocks-next}

-- the record at a place, behind those before it
split_at : (table : List Record) (i : ℕ) (r : Record) → i < length table → r ≡ get_or table i r → table ≡ take i table ++ r ∷ drop (suc i) table
split_at table i r within is =
    sym (take-append-drop i table) ∙ ap (λ rest. take i table ++ rest) (drop-cons table i r within ∙ ap (λ x. x ∷ drop (suc i) table) (sym is))

module _ (table : List Record) where
  length-lines_behind : (before rs : List Record) → length (lines_behind table before rs) ≡ length rs
  length-lines_behind before [] = refl
  length-lines_behind before (r ∷ rs) = ap suc (length-lines_behind (before ++ r ∷ []) rs)

  -- there is a line for each record
  pub length-list_lines : length (list_lines table) ≡ length table
  length-list_lines = length-lines_behind [] table

  line_behind : (before rs : List Record) (i : ℕ) (r : Record) (d : List ℕ) → i < length rs → r ≡ get_or rs i r → get_or (lines_behind table before rs) i d ≡ record_line table (before ++ take i rs) r
  line_behind before [] i r d within is = absurd (omega arith)
  line_behind before (x ∷ rs) zero r d within is = ap (record_line table before) (sym is) ∙ ap (λ b. record_line table b r) (sym (append-nil before))
  line_behind before (x ∷ rs) (suc k) r d within is =
      line_behind (before ++ x ∷ []) rs k r d (omega arith) is ∙ ap (λ b. record_line table b r) (append_assoc before (x ∷ []) (take k rs))

  -- the window behind others
  windows_from_at : (before xs ys : List CfmwsFields) (c : CfmwsFields) → slice_get (windows_from table None before (xs ++ c ∷ ys)) (length xs) ≡ Some (window_of table None (before ++ xs) c)
  windows_from_at before [] ys c = ap (λ b. Some (window_of table None b c)) (sym (append-nil before))
  windows_from_at before (x ∷ xs) ys c = windows_from_at (before ++ x ∷ []) xs ys c ∙ ap (λ b. Some (window_of table None b c)) (append_assoc before (x ∷ []) xs)

  -- The record r stands at place i.
  module _ (i : ℕ) (r : Record) (within : i < length table) (is : r ≡ get_or table i r) where
    take_next : take (i + 1) table ≡ take i table ++ r ∷ []
    take_next = take_more table i r within ∙ ap (λ x. take i table ++ x ∷ []) (sym is)

    -- one line more
    pub lines-next : concat (take (i + 1) (list_lines table)) ≡ concat (take i (list_lines table)) ++ record_line table (take i table) r
    lines-next =
        let there : i < length (list_lines table) = omega (arith, length-list_lines) in
        ap concat (take_more (list_lines table) i [] there) ∙ concat-append (take i (list_lines table)) (get_or (list_lines table) i [] ∷ [])
        ∙ ap (λ t. concat (take i (list_lines table)) ++ t) (append-nil (get_or (list_lines table) i []) ∙ line_behind [] table i r [] within is)

    windows_in_front : (c : CfmwsFields) → r ≡ Cfmws c → filter_map cfmws_in table ≡ filter_map cfmws_in (take i table) ++ c ∷ filter_map cfmws_in (drop (suc i) table)
    windows_in_front c window =
        ap (filter_map cfmws_in) (split_at table i r within is ∙ ap (λ x. take i table ++ x ∷ drop (suc i) table) window)
        ∙ filter_map-append cfmws_in (take i table) (Cfmws c ∷ drop (suc i) table)

    pub window_there : (c : CfmwsFields) → r ≡ Cfmws c → slice_get (windows_of table None) (length (filter_map cfmws_in (take i table))) ≡ Some (window_of table None (filter_map cfmws_in (take i table)) c)
    window_there c window =
        ap (λ cs. slice_get (windows_from table None [] cs) (length (filter_map cfmws_in (take i table)))) (windows_in_front c window)
        ∙ windows_from_at [] (filter_map cfmws_in (take i table)) (filter_map cfmws_in (drop (suc i) table)) c

    pub place-next : (place count : ℕ) → place ≡ length (filter_map cfmws_in (take i table)) → count ≡ length (filter_map cfmws_in (r ∷ [])) → place + count ≡ length (filter_map cfmws_in (take (i + 1) table))
    place-next place count place-is count-is =
        ap (λ p. p + count) place-is ∙ ap (λ n. length (filter_map cfmws_in (take i table)) + n) count-is
        ∙ sym (ap (λ rs. length (filter_map cfmws_in rs)) take_next ∙ ap length (filter_map-append cfmws_in (take i table) (r ∷ [])) ∙ length-append (filter_map cfmws_in (take i table)) (filter_map cfmws_in (r ∷ [])))

-- The line of a record by the windows in order is the line behind the records before it.
module _ (table : List Record) (windows : List WindowFields) (windows-are : windows ≡ windows_of table None) (i place : ℕ) (place-is : place ≡ length (filter_map cfmws_in (take i table))) (within : i < length table) where
  window_at_place : (c : CfmwsFields) → Cfmws c ≡ get_or table i (Cfmws c) → slice_get windows place ≡ Some (window_of table None (filter_map cfmws_in (take i table)) c)
  window_at_place c is =
      ap (λ ws. slice_get ws place) windows-are ∙ ap (slice_get (windows_of table None)) place-is
      ∙ window_there table i (Cfmws c) within is c refl

  pub place_within : (r : Record) → r ≡ get_or table i r → IsSome (cfmws_in r) → place < length windows
  place_within (Chbs c) is some = absurd (cc)
  place_within (Cfmws c) is some = slice_get_within windows place (window_of table None (filter_map cfmws_in (take i table)) c) (window_at_place c is)
  place_within (Cxims c) is some = absurd (cc)
  place_within (Other c) is some = absurd (cc)

  pub line_at-record_line : (r : Record) → r ≡ get_or table i r → line_at windows place r ≡ record_line table (take i table) r
  unfolding record_line
  line_at-record_line (Chbs c) is = refl
  line_at-record_line (Cfmws c) is = ap (λ w. window_line_at w c.qtg) (window_at_place c is)
  line_at-record_line (Cxims c) is = refl
  line_at-record_line (Other c) is = refl

-- the line of the record r, which stands at place i, behind those before it
pub blocks-line : (table : List Record) (windows : List WindowFields) (windows-are : windows ≡ windows_of table None) (i place : ℕ) (place-is : place ≡ length (filter_map cfmws_in (take i table))) (within : i < length table) (r : Record) → r ≡ get_or table i r → (block block' : List ℕ) (old now : SinkState) → block' ≡ block ++ line_at windows place r → IsInBlocks (list_lines table) i block old now → IsInBlocks (list_lines table) (i + 1) block' old now
blocks-line table windows windows-are i place place-is within r is block block' old now more so_far =
    blocks-next (list_lines table) i (record_line table (take i table) r) block block' old now (lines-next table i r within is)
    (more ∙ ap (λ l. block ++ l) (line_at-record_line table windows windows-are i place place-is within r is)) so_far

-- all lines
pub all_lines : (table : List Record) (i : ℕ) → length table ≤ i → concat (take i (list_lines table)) ≡ concat (list_lines table)
all_lines table i all = ap concat (take_all i (list_lines table) (omega (arith, length-list_lines table)))
