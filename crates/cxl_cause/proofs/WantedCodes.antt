-- The granularity code with which a port does not break K12.
use Rattle.std.proofs.Common.{◌≡◌, ℕ, ◌+◌, ◌<◌, ◌≤◌, Bool, true, false, not, ◌&&◌, ◌||◌, [], ◌∷◌, length, Option, Some, None, refl, sym, ap, ◌∙◌, inl, inr, arith}
use Rattle.std.specs.Prelude.{◌==◌, find}
use Rattle.std.specs.List.{range_with_len}
use Rattle.std.specs.Option.{option_and_then}
use Rattle.std.proofs.lemmas.Bool.{cases_Bool, eq-eqb, true≢false}
use Rattle.cxl_enc.proofs.Lists.{get_other}
use Rattle.cxl_enc.proofs.Numbers.{from_lower}
use Rattle.cxl_enc.proofs.Tests.{and_false}
use Rattle.cxl_topo.specs.declared.node.Parent.{Parent}
use Rattle.cxl_topo.specs.Tree.{is_endpoint_at, parent_of, ports_above}
use Rattle.cxl_topo.specs.Faults.{IsTree}
use Rattle.cxl_topo.specs.Laws.{AreTreeLaws}
use Rattle.cxl_regs.specs.declared.decoder.Decoder.{Decoder}
use Rattle.cxl_regs.specs.declared.reading.Range.{Range}
use Rattle.cxl_regs.specs.Registers.{Registers}
use Rattle.cxl_regs.specs.Reading.{decoder_ways, select_bits, range_of}
use Rattle.cxl_window.specs.Fields.{WindowFields}
use Rattle.cxl_model.specs.System.{System, decoders_at}
use Rattle.cxl_model.specs.Ranges.{serves, decoder_for, window_for, bits_above, first_endpoint, first_decoder, range_code}
use Rattle.cxl_model.specs.Accepted.{breaks}
use Rattle.cxl_check.proofs.Numbers.{found}
use Rattle.cxl_check.proofs.Trees.{below_parent}
use Rattle.cxl_check.proofs.WaysUp.{top_bits, more_bits, same_bits}
use Rattle.cxl_cause.specs.RangeCauses.{port_code}
use Rattle.cxl_cause.specs.Wanted.{put_in_block, with_decoder, StandsIn}
use Rattle.cxl_cause.proofs.WantedValues.{put_there, decoder_put}

module _ (s : System) (n i : ℕ) (block : Registers) (own d : Decoder) (stands : StandsIn s n i block own) where
  abbrev changed : System
  changed = with_decoder s n i d

  -- the decoders of other nodes stay
  others : (m : ℕ) → (m ≡ n → ⊥) → decoders_at changed m ≡ decoders_at s m
  others m other = rw stands.block_there (rw (get_other s.blocks n m (put_in_block i d block) other) refl)

  module _ (port : is_endpoint_at s.nodes n ≡ false) (r : Range) where
    other_than : (m : ℕ) → is_endpoint_at s.nodes m ≡ true → m ≡ n → ⊥
    other_than m endpoint same = true≢false (sym endpoint ∙ ap (is_endpoint_at s.nodes) same ∙ port)

    -- so do the endpoints of a range, where the node is a port
    same_test : (m : ℕ) → (is_endpoint_at s.nodes m && serves changed r m) ≡ (is_endpoint_at s.nodes m && serves s r m)
    same_test m =
        elim (cases_Bool (is_endpoint_at s.nodes m)) [
          | inl endpoint ↦ rw (others m (other_than m endpoint)) refl
          | inr none ↦ rw none refl
        ]

    same_first : first_endpoint changed r ≡ first_endpoint s r
    same_first = ap (λ (test : ℕ → Bool). find test (range_with_len 0 (length s.nodes))) (λ j m. same_test m j)

    of_first : (o : Option ℕ) → first_endpoint s r ≡ o → option_and_then (decoder_for changed r) o ≡ option_and_then (decoder_for s r) o
    of_first None is = refl
    of_first (Some m) is =
        let endpoint = (found (λ k. is_endpoint_at s.nodes k && serves s r k) (length s.nodes) m is).1 in
        rw (others m (other_than m (parts (is_endpoint_at s.nodes m) (serves s r m) endpoint))) refl
      where
        parts : (a b : Bool) → (a && b) ≡ true → a ≡ true
        parts true b is = refl
        parts false b is = is

    same_decoder : first_decoder changed r ≡ first_decoder s r
    same_decoder = ap (option_and_then (decoder_for changed r)) same_first ∙ of_first (first_endpoint s r) refl

    same_code : (w : WindowFields) → range_code changed w r ≡ range_code s w r
    same_code w = rw same_decoder refl

    -- and the ports above it
    module _ (tree : IsTree s.nodes) (laws : AreTreeLaws s.nodes) where
      above_step : (m : ℕ) → ((k : ℕ) → k < m → k ≤ n → bits_above changed r k ≡ bits_above s r k) → m ≤ n → bits_above changed r m ≡ bits_above s r m
      above_step m lower within = go (parent_of s.nodes m) refl
        where
          with : (p : Parent) → ports_above s.nodes m ≡ p ∷ ports_above s.nodes p.node → bits_above changed r p.node ≡ bits_above s r p.node → (o : Option Decoder) → decoder_for s r p.node ≡ o → decoder_for changed r p.node ≡ o
              → bits_above changed r m ≡ bits_above s r m
          with p ports rest None lacks also = same_bits changed r m p ports also ∙ rest ∙ sym (same_bits s r m p ports lacks)
          with p ports rest (Some e) has also = more_bits changed r m p ports e also ∙ ap (λ (k : ℕ). select_bits e.ways + k) rest ∙ sym (more_bits s r m p ports e has)

          go : (o : Option Parent) → parent_of s.nodes m ≡ o → bits_above changed r m ≡ bits_above s r m
          go None up =
              let top : ports_above s.nodes m ≡ [] = laws.ports m ∙ rw up refl in
              top_bits changed r m top ∙ sym (top_bits s r m top)
          go (Some p) up =
              let ports : ports_above s.nodes m ≡ p ∷ ports_above s.nodes p.node = laws.ports m ∙ rw up refl in
              let later : p.node < m = (below_parent s.nodes tree m p up).later in
              let other : (p.node ≡ n → ⊥) = λ same. absurd (omega (arith, same, later, within)) in
              let same : decoder_for changed r p.node ≡ decoder_for s r p.node = rw (others p.node other) refl in
              with p ports (lower p.node later (omega (arith, later, within))) (decoder_for s r p.node) refl same

      same_above : bits_above changed r n ≡ bits_above s r n
      same_above = from_lower (λ (m : ℕ). m ≤ n → bits_above changed r m ≡ bits_above s r m) above_step n (omega arith)

-- with the code of its level a port does not break K12
pub code_kept : (s : System) (n i : ℕ) (block : Registers) (d : Decoder) (w : WindowFields) → IsTree s.nodes → AreTreeLaws s.nodes → StandsIn s n i block d → is_endpoint_at s.nodes n ≡ false
    → window_for s (range_of d) ≡ Some w → breaks (with_decoder s n i (record d { gran = port_code s w n (range_of d) })) 12 n i ≡ false
unfolding breaks
code_kept s n i block d w tree laws stands port window =
    let r = range_of d in
    let new = record d { gran = port_code s w n r } in
    let code = same_code s n i block d new stands port r w in
    let above = same_above s n i block d new stands port r tree laws in
    let same : (port_code s w n r == port_code s w n r) ≡ true = eq-eqb (port_code s w n r) (port_code s w n r) refl in
    rw (put_there s n i block d new stands)
    (rw (decoder_put s n i block d new stands, window, port, code, above) (rw same (last (decoder_ways d == 1) d.committed)))
  where
    last : (one committed : Bool) → (committed && not (one || true)) ≡ false
    last true committed = and_false committed
    last false committed = and_false committed
