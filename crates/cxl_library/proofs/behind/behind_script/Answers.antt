use Rattle.std.proofs.Common.{◌∙◌, ℕ, List, [], length, refl, sym, subst}
use Rattle.std.proofs.lemmas.Result.{IfOk-weaker}
use Rattle.cxl_io.specs.Lines.{lines_of}
use Rattle.cxl_machine.specs.Scripts.{lines_asked}
use Rattle.cxl_machine.specs.Turns.{AreTurns, machine_after}
use Rattle.cxl_library.specs.Behind.{HasCarriedOutScript}
use Rattle.cxl_library.proofs.LastLine.{is_none, is_some, behind_none, words_of_none, words_of_some}
use Rattle.cxl_library.proofs.behind.behind_script.Goals as goal

pub returns-then-is_empty-clause-answered : goal.returns-then-is_empty-clause-answered
returns-then-is_empty-clause-answered c = λ first at words.
    let script = c.args.script.now in
    let none = is_none (length script) c.if-is_empty.ensures in
    (first, [], behind_none first script none, at, words ∙ sym (words_of_none script none first.settled.nodes []))

pub returns-clause-answered : goal.returns-clause-answered
returns-clause-answered c =
    IfOk-weaker c.behind_last.result _ _ (λ after is. λ first at words.
    let one = c.in_ok-between.ensures.answered first at in
    let mid = machine_after first one.0 in
    let two = is mid one.2 in
    let last = machine_after mid two.0 in
    let behind : HasCarriedOutScript first c.args.script.now last two.0 = record {
      at = c.last_line.result;
      begins = c.last_line.ensures;
      earlier = one.0;
      before = subst (λ (lines : List ℕ). AreTurns first (lines_asked (lines_of lines)) one.0) c.split_at.ensures.front one.1;
      answered = subst (λ (lines : List ℕ). AreTurns mid (lines_asked (lines_of lines)) two.0) c.split_at.ensures.back two.1;
      last_is = refl;
      unfailed_before = one.3;
      unfailed = two.4;
    } in
    (last, two.0, behind, two.2, two.3 ∙ sym (words_of_some c.args.script.now (is_some (length c.args.script.now) c.if-is_empty.ensures) last.settled.nodes two.0)))
    c.behind_last.ensures.answered
