use Rattle.std.proofs.Common.{ℕ, List, [], take, subst}
use Rattle.cxl_commands.specs.Form.{Form, plan_form_over, create_on_line}
use Rattle.cxl_library.specs.Answered.{IsAnswered}
use Rattle.cxl_reads.specs.Answers.{table_name, topology_name}
use Rattle.cxl_library.specs.Slices.{Slices, slices}
use Rattle.cxl_library.proofs.forms.plan.Goals as goal

pub returns-in-Ok-clause-answered : goal.returns-in-Ok-clause-answered
returns-in-Ok-clause-answered c utf8 =
    let text = take c.answered.new.written c.answered.new.out in
    let asks : List ℕ → Form = λ line. plan_form_over table_name topology_name (create_on_line line) in
    subst (λ line. IsAnswered (asks line) (slices c.args.cedt.now c.args.topo.now []) [] c.answered.result text) c.in-Ok.ensures.cases.0
    (subst (λ (files : Slices). IsAnswered (asks c.in-Ok.line.now) files [] c.answered.result text) c.new-files.ensures
    (c.answered.ensures.answered (asks c.in-Ok.line.now) c.plan_words.ensures))
