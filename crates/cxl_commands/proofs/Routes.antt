-- Where an address goes by one table.
use Rattle.std.proofs.Common.{◌≡◌, ℕ, Option, Some, None, Result, Ok, MatchOption, IfSome, IfOk, refl, ap, subst, ◌∙◌, sym, ◌⊎◌, inl, inr}
use Rattle.std.proofs.lemmas.Result.{IfOk-weaker}
use Rattle.cxl_table.specs.CedtFields.{CedtFields}
use Rattle.cxl_inputs.specs.Outcome.{Outcome}
use Rattle.cxl_inputs.specs.declared.status.Status.TheVariants.{Done, Refused}
use Rattle.cxl_window.specs.Windows.{windows_of}
use Rattle.cxl_commands.specs.commands.Route.{IsSelection, IsNowhere, routed, no_window, IsRouted, to_bridge, nowhere}
use Rattle.cxl_commands.specs.declared.commands.selection.Selection.{Selection}
use Rattle.cxl_commands.proofs.Holders.{one_selection, selection_and_none}

module _ (table : CedtFields) (h : ℕ) where
  -- there is one outcome at the most
  pub one_route : (outcome other : Outcome) → IsRouted table h outcome → IsRouted table h other → outcome ≡ other
  one_route outcome other (to_bridge s selected e) (to_bridge t again e') = e ∙ ap routed (one_selection (windows_of table.records None) h s t selected again) ∙ sym e'
  one_route outcome other (to_bridge s selected e) (nowhere none e') = absurd (selection_and_none (windows_of table.records None) h s selected none)
  one_route outcome other (nowhere none e) (to_bridge s selected e') = absurd (selection_and_none (windows_of table.records None) h s selected none)
  one_route outcome other (nowhere none e) (nowhere again e') = e ∙ sym e'

  pub route_status : (outcome : Outcome) → IsRouted table h outcome → (outcome.status ≡ Done) ⊎ (outcome.status ≡ Refused)
  route_status outcome (to_bridge s selected e) = inl (ap (λ o. o.status) e)
  route_status outcome (nowhere none e) = inr (ap (λ o. o.status) e)

  pub done_selection : (outcome : Outcome) → outcome.status ≡ Done → IsRouted table h outcome → (s : Selection) × IsSelection (windows_of table.records None) h s × (outcome ≡ routed s)
  done_selection outcome done (to_bridge s selected e) = (s, selected, e)
  done_selection outcome done (nowhere none e) = let refused = ap (λ o. o.status) e in absurd (cc)

  pub refused_nowhere : (outcome : Outcome) → outcome.status ≡ Refused → IsRouted table h outcome → IsNowhere (windows_of table.records None) h
  refused_nowhere outcome refused (to_bridge s selected e) = let done = ap (λ o. o.status) e in absurd (cc)
  refused_nowhere outcome refused (nowhere none e) = none

  -- what is answered of a selection
  pub routed_by : {E : Type 0} (selection : Option Selection) (answer : Result Outcome E) → MatchOption selection (IsNowhere (windows_of table.records None) h) (λ s. IsSelection (windows_of table.records None) h s) → IfSome selection (λ s. IfOk answer (λ outcome. outcome ≡ routed s)) → (selection ≡ None → answer ≡ Ok no_window) → IfOk answer (IsRouted table h)
  routed_by None answer selected some none = subst (λ r. IfOk r (IsRouted table h)) (sym (none refl)) (nowhere selected refl)
  routed_by (Some s) answer selected some none = IfOk-weaker answer (λ o. o ≡ routed s) (IsRouted table h) (λ o e. to_bridge s selected e) some
