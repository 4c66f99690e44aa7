use Rattle.std.proofs.Common.{◌≡◌, ◌*◌, ◌<◌, ◌≤◌, Some, arith, rules}
use Rattle.cxl_regs.specs.Words.{word_at}
use Rattle.cxl_pipe.specs.Peer.{word_count}
use Rattle.cxl_pipe.proofs.Asking.{leads_from_start, all_left, word_told, word_untold, none_left, all_told}
use Rattle.cxl_pipe.proofs.pipe_bus.PipeBus.tells_block.Goals as goal

pub loop-place-init : goal.loop-place-init
loop-place-init g c = leads_from_start _ _ _ (all_left c.args.node c.args.block.now)

pub loop-place-preserved : goal.loop-place-preserved
loop-place-preserved g c =
    let place = c.loop-place.place in
    let here : word_at c.args.block.now (4 * place) ≡ Some c.unwrap-word.result = search rules in
    let below : place < word_count c.args.block.now = omega (arith, c.count.ensures.value, c.from.ensures, c.loop-place-test.true) in
    word_told c.args.node c.args.block.now place c.unwrap-word.result _ _ c.loop-place.self c.tells.new.self below here c.loop-place.invariant c.if-not-tells.ensures.yes

pub returns-then-not-tells-clause-no : goal.returns-then-not-tells-clause-no
returns-then-not-tells-clause-no g c =
    let place = c.loop-place.place in
    let here : word_at c.args.block.now (4 * place) ≡ Some c.unwrap-word.result = search rules in
    let below : place < word_count c.args.block.now = omega (arith, c.count.ensures.value, c.from.ensures, c.loop-place-test.true) in
    word_untold c.args.node c.args.block.now place c.unwrap-word.result _ _ c.loop-place.self c.tells.new.self below here c.loop-place.invariant c.if-not-tells.ensures.no

pub returns-clause-yes : goal.returns-clause-yes
returns-clause-yes g c =
    let past : word_count c.args.block.now ≤ c.loop-place.place = omega (arith, c.count.ensures.value, c.from.ensures, c.loop-place-test.false) in
    all_told _ _ _ _ (none_left c.args.node c.args.block.now c.loop-place.place past) c.loop-place.invariant
