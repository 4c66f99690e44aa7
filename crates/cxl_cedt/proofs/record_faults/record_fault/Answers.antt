use Rattle.std.proofs.Common.{◌≡◌, false, sym, ◌∙◌, arith, cond, eqb, ltb, ◌&&◌, Some, None, is_none}
use Rattle.std.proofs.lemmas.Bool.{le-ltb}
use Rattle.cxl_cedt.specs.declared.fault.CedtFault.TheVariants.{RecordLength}
use Rattle.cxl_cedt.specs.Table.{field, kind_said, length_said, ways_said, is_cut}
use Rattle.cxl_cedt.proofs.RecordTests.{unless, not_none, no_fault, fault_of_other}
use Rattle.cxl_cedt.proofs.record_faults.record_fault.Goals as goal
use Rattle.cxl_cedt.proofs.record_faults.record_fault.Goals.{else-kind-eq-CFMWS_KIND-via-then-kind-eq-CFMWS_KIND+else-is_none, else-kind-eq-CFMWS_KIND-via-else-kind-eq-CFMWS_KIND, else-kind-eq-CFMWS_KIND-2-via-then-kind-eq-CFMWS_KIND-2+else-u8_at-gt1, else-kind-eq-CFMWS_KIND-2-via-else-kind-eq-CFMWS_KIND-2}

pub returns-then-kind-gt-CXIMS_KIND : goal.returns-then-kind-gt-CXIMS_KIND
returns-then-kind-gt-CXIMS_KIND c =
    let cut : is_cut c.args.rest.now ≡ false = cc in
    let said : c.other_fault.result ≡ cond (ltb (length_said c.args.rest.now) 4) (Some (RecordLength c.args.at)) None = rw (← c.length_said.ensures) c.other_fault.ensures in
    said ∙ sym (fault_of_other c.args.before.now.records c.args.rest.now c.args.at cut (omega arith))

pub returns : goal.returns
returns c =
    let rest = c.args.rest.now in
    let kind : c.u8_at-kind.result ≡ kind_said rest = c.u8_at-kind.ensures in
    let ways : (eqb (kind_said rest) 1 && is_none (ways_said rest)) ≡ false = unless (kind_said rest) 1 _ (λ window. elim c.else-kind-eq-CFMWS_KIND.branch [
      | else-kind-eq-CFMWS_KIND-via-then-kind-eq-CFMWS_KIND+else-is_none w ↦ rw (← w.ways_said.ensures) (not_none w.ways_said.result w.is_none.result w.is_none.ensures w.if-is_none.false)
      | else-kind-eq-CFMWS_KIND-via-else-kind-eq-CFMWS_KIND w ↦ absurd (omega (arith, w.if-kind-eq-CFMWS_KIND.false, kind, window))
    ]) in
    let arithmetic : (eqb (kind_said rest) 1 && ltb 1 (field rest 25 1)) ≡ false = unless (kind_said rest) 1 _ (λ window. elim c.else-kind-eq-CFMWS_KIND-2.branch [
      | else-kind-eq-CFMWS_KIND-2-via-then-kind-eq-CFMWS_KIND-2+else-u8_at-gt1 w ↦ rw (← w.u8_at.ensures) (le-ltb 1 w.u8_at.result w.if-u8_at-gt1.false)
      | else-kind-eq-CFMWS_KIND-2-via-else-kind-eq-CFMWS_KIND-2 w ↦ absurd (omega (arith, w.if-kind-eq-CFMWS_KIND-2.false, kind, window))
    ]) in
    sym (no_fault c.args.before.now.records rest c.args.at (record {
      whole = sym c.if-is_cut.ensures.value;
      long = rw (← kind, ← c.length_said-2.ensures) (sym c.if-has_short_length.ensures.value);
      ways = ways;
      size = rw (← kind) (sym c.if-has_other_length.ensures);
      gran = rw (← kind) (sym c.if-has_unknown_gran.ensures);
      arithmetic = arithmetic;
      room = rw (← kind) (sym c.if-is_kind_full.ensures);
    }))
