use Rattle.std.proofs.Common.{◌≡◌, ◌≢◌, ℕ, zero, suc, ◌≤◌, true, false, Some, refl, sym, ap, ◌∙◌, subst, inl, inr, arith}
use Rattle.std.proofs.lemmas.Bool.{cases_eq, false≢true}
use Rattle.std.proofs.lemmas.Option.{none-some, same_Some}
use Rattle.cxl_regs.specs.declared.decoder.Decoder.{Decoder}
use Rattle.cxl_regs.specs.Registers.{reset_decoder}
use Rattle.cxl_model.specs.System.{System, decoder_at}
use Rattle.cxl_regs.specs.Reading.{has_range}
use Rattle.cxl_model.specs.Regions.{region_range}
use Rattle.cxl_model.specs.Changes.{KeepsDecoders}
use Rattle.cxl_worked.specs.Examples.{two_bridges, with_stray_range, decoder}
use Rattle.cxl_worked.specs.ExampleRegions.{region_of_two}
use Rattle.cxl_worked.proofs.region_examples.changes_on_examples.Goals as goal

abbrev AtEndpoint : System → System → Type 0
AtEndpoint s t = (i j : ℕ) (d : Decoder) → decoder_at s 2 i ≡ Some d → has_range (region_range region_of_two) d ≡ true → j ≤ i → decoder_at t 2 j ≡ decoder_at s 2 j

-- a decoder with another range
other : (own d : Decoder) → has_range (region_range region_of_two) own ≡ false → Some own ≡ Some d → has_range (region_range region_of_two) d ≡ true → ⊥
other own d not_own at has = false≢true (sym not_own ∙ ap (has_range (region_range region_of_two)) (same_Some own d at) ∙ has)

there : AtEndpoint two_bridges with_stray_range
there zero zero d at has below = refl
there zero (suc j) d at has below = absurd (omega arith)
there (suc zero) j d at has below = absurd (other reset_decoder d refl at has)
there (suc (suc zero)) j d at has below = absurd (other reset_decoder d refl at has)
there (suc (suc (suc zero))) j d at has below = absurd (other reset_decoder d refl at has)
there (suc (suc (suc (suc i)))) j d at has below = absurd (none-some d at)

back : AtEndpoint with_stray_range two_bridges
back zero zero d at has below = refl
back zero (suc j) d at has below = absurd (omega arith)
back (suc zero) j d at has below = absurd (other (decoder 0x120000000 0x20000000 0x1610 0) d refl at has)
back (suc (suc zero)) j d at has below = absurd (other reset_decoder d refl at has)
back (suc (suc (suc zero))) j d at has below = absurd (other reset_decoder d refl at has)
back (suc (suc (suc (suc i)))) j d at has below = absurd (none-some d at)

-- the other nodes are the same
at_nodes : (s t : System) → AtEndpoint s t → ((n j : ℕ) → n ≢ 2 → decoder_at t n j ≡ decoder_at s n j) → KeepsDecoders s t (region_range region_of_two)
at_nodes s t at_endpoint others n i j d at has below =
    elim (cases_eq n 2) [
      | inl same ↦ subst (λ (m : ℕ). decoder_at s m i ≡ Some d → decoder_at t m j ≡ decoder_at s m j) (sym same) (λ here. at_endpoint i j d here has below) at
      | inr other ↦ others n j other
    ]

same_elsewhere : (n j : ℕ) → n ≢ 2 → decoder_at with_stray_range n j ≡ decoder_at two_bridges n j
same_elsewhere zero j other = refl
same_elsewhere (suc zero) j other = refl
same_elsewhere (suc (suc zero)) j other = absurd (other refl)
same_elsewhere (suc (suc (suc n))) j other = refl

pub returns : goal.returns
returns c = record {
  nodes = refl;
  windows = refl;
  there = at_nodes two_bridges with_stray_range there same_elsewhere;
  back = at_nodes with_stray_range two_bridges back (λ n j other. sym (same_elsewhere n j other));
}
