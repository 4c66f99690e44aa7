use Rattle.std.proofs.Common.{◌≡◌, true, refl, sym, subst, take, List, ℕ, rules}
use Rattle.std.specs.Vec.{with_items}
use Rattle.std.proofs.lemmas.List.{with_items_is}
use Rattle.cxl_pipe.specs.Pipe.{Pipe, IsUnheard}
use Rattle.cxl_pipe.specs.Talk.{IsAstray}
use Rattle.cxl_pipe.proofs.pipe_bus.PipeBus.hears.Goals as goal

pub returns-in-Err-clause-no : goal.returns-in-Err-clause-no
returns-in-Err-clause-no g c =
    let inside = c.self.inside in
    let how = c.in-Err.astray.how in
    let came = c.in-Err.astray.came in
    let line = with_items inside.line c.ask-answer.new.line in
    let before = g.P.Peer.state inside.peer in
    let after = g.P.Peer.state c.ask-answer.new.self in
    let same : line.items ≡ c.ask-answer.new.line = with_items_is inside.line c.ask-answer.new.line (search rules) in
    let new : Pipe = record { blocks = inside.blocks.items; peer = after; line = take came line.items; strange = true; reads_back = inside.reads_back; faults = inside.faults } in
    subst (λ (old : Pipe). IsUnheard c.args.question old new) c.self.view_is
    (record {
      how = how;
      astray = subst (λ (bytes : List ℕ). IsAstray c.args.question (take came bytes) how before after) (sym same) (subst (λ (q : List ℕ). IsAstray q (take came c.ask-answer.new.line) how before after) c.bytes.ensures c.in-Err.ensures.astray);
      kept = record { blocks = refl; reads_back = refl; faults = refl };
      strange = refl;
    })
