-- The committed ranges of the image with a legal plan's rows committed.
use Rattle.std.proofs.Common.{◌≡◌, ◌≢◌, ℕ, ◌⊎◌, true, not, List, get_or, Some, sym, ap, ◌∙◌, subst, inl, inr}
use Rattle.std.specs.Prelude.{slice_get}
use Rattle.std.proofs.lemmas.Bool.{cases_Bool, cases_eq, not-true, false≢true}
use Rattle.std.proofs.lemmas.List.Quantifiers.{position-Some}
use Rattle.std.proofs.lemmas.Option.{get_or_from_slice_get, same_Some}
use Rattle.std.specs.List.{list_any}
use Rattle.std.proofs.lemmas.Map.Keys.{any_passes_from_place}
use Rattle.cxl_regs.specs.declared.decoder.Decoder.{Decoder}
use Rattle.cxl_regs.specs.Registers.{reset_decoder}
use Rattle.cxl_regs.specs.declared.reading.Range.{Range}
use Rattle.cxl_regs.specs.Reading.{has_range}
use Rattle.cxl_regs.proofs.DecoderRanges.{has_parts, same_range}
use Rattle.cxl_model.specs.declared.plan.Plan.{Plan}
use Rattle.cxl_model.specs.declared.request.Request.{Request}
use Rattle.cxl_model.specs.System.{System, IsSystem, decoders_at, decoder_at}
use Rattle.cxl_model.specs.Ranges.{serves, IsCommittedRange}
use Rattle.cxl_model.specs.Changes.{AddsOneRange}
use Rattle.cxl_model.specs.Regions.{region_range}
use Rattle.cxl_model.specs.Plans.{committed_row, with_rows, IsLegalPlan}
use Rattle.cxl_model.proofs.RangeRules.{served}
use Rattle.cxl_legal.specs.Stated.{has_row}
use Rattle.cxl_legal.proofs.FittingRows.{Rowed, ByRow, by_row, no_row_of, same_decoders}

-- a decoder of two ranges has one
one_range : (r q : Range) (d e : Decoder) → has_range r d ≡ true → has_range q e ≡ true → d ≡ e → r ≡ q
one_range r q d e has also same =
    let moved : has_range q d ≡ true = ap (has_range q) same ∙ also in
    sym (same_range r d (has_parts r d has)) ∙ same_range q d (has_parts q d moved)

module _ (s : System) (request : Request) (r : Range) (plan : Plan) (rowed : Rowed s request r plan.rows) where
  abbrev t : System
  t = with_rows s plan.rows

  -- a row takes the place of a decoder that is not committed
  other_place : (q : Range) (n i : ℕ) (d : Decoder) (own : ByRow s request r plan.rows n) → decoder_at s n i ≡ Some d → has_range q d ≡ true → i ≢ own.row.index
  other_place q n i d own there has same =
      let first = position-Some (λ (e : Decoder). not e.committed) (decoders_at s own.row.node) own.row.index reset_decoder own.is.first in
      let at : get_or (decoders_at s n) own.row.index reset_decoder ≡ d =
      get_or_from_slice_get (decoders_at s n) own.row.index d reset_decoder (ap (slice_get (decoders_at s n)) (sym same) ∙ there) in
      let open_ : not d.committed ≡ true = ap (λ (e : Decoder). not e.committed) (sym at) ∙ subst (λ (m : ℕ). not (get_or (decoders_at s m) own.row.index reset_decoder).committed ≡ true) own.node first.1 in
      false≢true (sym (not-true d.committed open_) ∙ (has_parts q d has).committed)

  -- what served before serves still
  serves_still : (q : Range) (n : ℕ) → serves s q n ≡ true → serves t q n ≡ true
  serves_still q n serving =
      elim (cases_Bool (has_row s request n)) [
        | inl is ↦
            let own = by_row s request r plan.rows rowed n is in
            let at = served s q n serving in
            any_passes_from_place (has_range q) (decoders_at t n) at.i at.d (own.others at.i (other_place q n at.i at.d own at.there at.has) ∙ at.there) at.has
        | inr none ↦ ap (λ (ds : List Decoder). list_any (has_range q) ds) (same_decoders s plan.rows n (no_row_of s request plan.rows n rowed.rows_of none)) ∙ serving
      ]

  -- and what serves now did so, or has the plan's range
  served_or_new : (q : Range) (n : ℕ) → serves t q n ≡ true → IsCommittedRange s q ⊎ (q ≡ r)
  served_or_new q n serving =
      elim (cases_Bool (has_row s request n)) [
        | inl is ↦
            let own = by_row s request r plan.rows rowed n is in
            let at = served t q n serving in
            elim (cases_eq at.i own.row.index) [
              | inl same ↦
                  let decoder : at.d ≡ committed_row own.row = same_Some at.d (committed_row own.row) (sym at.there ∙ ap (decoder_at t n) same ∙ own.at) in
                  inr (one_range q r at.d (committed_row own.row) at.has own.has decoder)
              | inr other ↦ inl (n, any_passes_from_place (has_range q) (decoders_at s n) at.i at.d (sym (own.others at.i other) ∙ at.there) at.has)
            ]
        | inr none ↦ inl (n, ap (λ (ds : List Decoder). list_any (has_range q) ds) (sym (same_decoders s plan.rows n (no_row_of s request plan.rows n rowed.rows_of none))) ∙ serving)
      ]

pub one_more : (s : System) (request : Request) (plan : Plan) → IsSystem s → IsLegalPlan s request plan → AddsOneRange s (with_rows s plan.rows) (region_range plan.found)
one_more s request plan system legal =
    let r : Range = region_range plan.found in
    let is = legal.1 in
    let rowed : Rowed s request r plan.rows = record { system = system; rows_of = is.rows_of; each = is.each_row; new = is.new } in
    record {
      each = λ q. (
        λ committed. served_or_new s request r plan rowed q committed.0 committed.1,
        λ either. elim either [
          | inl before ↦ (before.0, serves_still s request r plan rowed q before.0 before.1)
          | inr same ↦ subst (IsCommittedRange (with_rows s plan.rows)) (sym same) is.region.committed
        ],
      );
      new = λ committed. false≢true (sym (is.new committed.0) ∙ committed.1);
    }
