use Rattle.std.proofs.Common.{◌≡◌, List, false, sym, ap, subst, ◌∙◌, arith}
use Rattle.cxl_table.specs.declared.cedt.Record.{Record}
use Rattle.cxl_table.specs.Records.{kind_of, is_kind_full}
use Rattle.cxl_cedt.proofs.Counts.{counted_push}
use Rattle.cxl_cedt.proofs.counted.CountedRecords.push.Goals as goal

pub invariant_of-self-2 : goal.invariant_of-self-2
invariant_of-self-2 c =
    let room : is_kind_full (kind_of c.args.next) c.self.inside.records.items ≡ false = subst (λ (l : List Record). is_kind_full (kind_of c.args.next) l ≡ false) (sym (ap (λ k. k.records) c.self.view_is)) c.requires.room in
    counted_push c.from.result c.self.inside.records.items c.push-2.new.self.items c.args.next c.self.inside.counts (omega (arith, c.from.ensures, c.kind_of-kind.ensures, c.requires.judged)) (sym (c.from.ensures ∙ c.kind_of-kind.ensures)) c.in_ok-push-2.ensures.items room c.self.invariant
