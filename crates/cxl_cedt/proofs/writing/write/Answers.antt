use Rattle.std.proofs.Common.{◌≤◌, ◌%◌, ℕ, List, length, sum, sym, ap, subst, ◌∙◌}
use Rattle.cxl_enc.specs.Limits.{file_limit}
use Rattle.cxl_cedt.specs.Table.{IsTableText}
use Rattle.cxl_cedt.proofs.Laws.{one_table}
use Rattle.cxl_cedt.proofs.Spelled.{spelled_table, spelled_fits, sealed}
use Rattle.cxl_cedt.proofs.writing.write.Goals as goal

pub returns-clause-spelling : goal.returns-clause-spelling
returns-clause-spelling c =
    sealed c.args.cedt.now c.in_ok-out.out.items c.checksum.result c.in_ok-out.ensures.spelled (c.checksum.ensures ∙ ap (λ (t : List ℕ). sum t % 256) c.deref.ensures.value)

pub returns-clause-fits : goal.returns-clause-fits
returns-clause-fits c =
    let is = sealed c.args.cedt.now c.in_ok-out.out.items c.checksum.result c.in_ok-out.ensures.spelled (c.checksum.ensures ∙ ap (λ (t : List ℕ). sum t % 256) c.deref.ensures.value) in
    subst (λ (t : List ℕ). length t ≤ file_limit) (sym is) (spelled_fits c.args.cedt.now c.in_ok-out.ensures.sound)

pub returns-clause-table : goal.returns-clause-table
returns-clause-table c =
    let is = sealed c.args.cedt.now c.in_ok-out.out.items c.checksum.result c.in_ok-out.ensures.spelled (c.checksum.ensures ∙ ap (λ (t : List ℕ). sum t % 256) c.deref.ensures.value) in
    subst (λ (t : List ℕ). IsTableText t c.args.cedt.now) (sym is) (spelled_table c.args.cedt.now c.in_ok-out.ensures.sound)

pub returns-clause-only : goal.returns-clause-only
returns-clause-only c =
    let is = sealed c.args.cedt.now c.in_ok-out.out.items c.checksum.result c.in_ok-out.ensures.spelled (c.checksum.ensures ∙ ap (λ (t : List ℕ). sum t % 256) c.deref.ensures.value) in
    λ other h. one_table _ other c.args.cedt.now h (subst (λ (t : List ℕ). IsTableText t c.args.cedt.now) (sym is) (spelled_table c.args.cedt.now c.in_ok-out.ensures.sound))
