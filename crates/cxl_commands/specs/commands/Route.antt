-- Where a host address goes.
use Rattle.std.specs.Prelude.{◌≡◌, ℕ, ◌+◌, ◌<◌, ◌≤◌, Some, None, List, ◌∷◌, ◌++◌, All, slice_get, codes, decimal}
use Rattle.cxl_table.specs.CedtFields.{CedtFields}
use Rattle.cxl_inputs.specs.Outcome.{Outcome, one_piece}
use Rattle.cxl_inputs.specs.Table.{IsTableOf}
use Rattle.cxl_inputs.specs.declared.status.Status.TheVariants.{Done, Refused}
use Rattle.cxl_io.specs.Told.{Told}
use Rattle.cxl_window.specs.Fields.{WindowFields}
use Rattle.cxl_window.specs.Position.{position_of}
use Rattle.cxl_window.specs.Windows.{windows_of}
use Rattle.cxl_window.specs.declared.window.Verdict.TheVariants.{Usable}
use Rattle.cxl_reply.specs.Words.{line}
use Rattle.cxl_commands.specs.declared.commands.selection.Selection.{Selection}

-- the window can be used, and holds the address
pub record Holds (h : ℕ) (window : WindowFields) : Type 0 where
  pub usable : window.verdict ≡ Usable
  pub from : window.base ≤ h
  pub to : h < window.base + window.size

-- no window does
abbrev pub IsNowhere : List WindowFields → ℕ → Type 0
IsNowhere windows h = All (λ window. ¬ (Holds h window)) windows

-- it is the first window that does
pub record IsFirstHolder (windows : List WindowFields) (h : ℕ) (window : WindowFields) : Type 0 where
  pub before : List WindowFields
  pub after : List WindowFields
  pub place : windows ≡ before ++ window ∷ after
  pub earlier : IsNowhere before h
  pub holds : Holds h window

-- the first window that holds the address, the position of the address among its targets, and the bridge that stands there
pub record IsSelection (windows : List WindowFields) (h : ℕ) (selection : Selection) : Type 0 where
  pub window : WindowFields
  pub first : IsFirstHolder windows h window
  pub index : selection.window ≡ window.index
  pub position : selection.position ≡ position_of window h
  pub bridge : slice_get window.targets (position_of window h) ≡ Some selection.bridge

-- ---- what it comes to

-- the window that holds the address, the position among its targets, and the bridge there
abbrev pub route_text : Selection → List ℕ
route_text s =
    line (codes "window " ++ decimal s.window ++ codes " position " ++ decimal s.position ++ codes " bridge " ++ decimal s.bridge)

-- its line, and a good status
abbrev pub routed : Selection → Outcome
routed selection = one_piece Done (route_text selection)

-- no window that can be used holds the address
abbrev pub no_window : Outcome
no_window = one_piece Refused (line (codes "no window"))

-- where a host address goes by a table: by the first window that can be used and holds it, or nowhere
pub data IsRouted (table : CedtFields) (h : ℕ) (outcome : Outcome) : Type 0 where
  to_bridge : (selection : Selection) → IsSelection (windows_of table.records None) h selection → outcome ≡ routed selection → IsRouted table h outcome
  nowhere : IsNowhere (windows_of table.records None) h → outcome ≡ no_window → IsRouted table h outcome

-- the line names the window, the position and the bridge of the address, by the table that the file's bytes spell
pub record IsRouteLine (told : Told) (h : ℕ) (text : List ℕ) : Type 0 where
  pub table : CedtFields
  pub is_table : IsTableOf told table
  pub selection : Selection
  pub selected : IsSelection (windows_of table.records None) h selection
  pub names : text ≡ route_text selection
