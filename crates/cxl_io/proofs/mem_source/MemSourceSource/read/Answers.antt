use Rattle.std.proofs.Common.{Some, ◌++◌, ◌+◌, ◌-◌, length, take, drop, sym, ap, ◌∙◌, arith, length-drop}
use Rattle.std.proofs.lemmas.List.{take-append-drop, take_all, drop-drop}
use Rattle.cxl_io.proofs.mem_source.MemSourceSource.read.Goals as goal

pub returns-clause-given : goal.returns-clause-given
returns-clause-given c =
    let n = c.copy_front-n.result in
    let at = c.self.inside.at in
    let bytes = c.deref.result.now in
    let left = drop at bytes in
    let whole = take_all (length bytes - at) left (omega (arith, length-drop at bytes)) in
    let front = c.copy_front-n.ensures.front ∙ ap (take n) whole in
    ap (λ told. Some told)
    (sym (ap (λ m. m.left) c.self.view_is) ∙ ap (drop at) (sym c.deref.ensures.value) ∙ sym (take-append-drop n left)
    ∙ ap (λ given. given ++ drop n left) (sym front)
    ∙ ap (λ rest. take n c.copy_front-n.new.into ++ rest) (drop-drop n at bytes ∙ ap (drop (at + n)) c.deref.ensures.value))

pub returns-then-begin-clause-failed : goal.returns-then-begin-clause-failed
returns-then-begin-clause-failed c = ap (λ m. Some m.left) c.self.view_is
