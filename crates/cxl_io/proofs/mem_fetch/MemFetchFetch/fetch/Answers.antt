use Rattle.std.proofs.Common.{Err, ap, ◌∙◌, inl, inr}
use Rattle.std.proofs.lemmas.Result.{err_from_is_err_and}
use Rattle.cxl_io.proofs.MemoryFetches.{memory_with, memory_no_other, asks_no_more}
use Rattle.cxl_io.proofs.mem_fetch.MemFetchFetch.fetch.Goals as goal

pub returns-in_err-note-clause-ok : goal.returns-in_err-note-clause-ok
returns-in_err-note-clause-ok c =
    let p = err_from_is_err_and c.from_residual.result c.from_residual.ensures.1 in rw p.1 tt

pub returns-in_err-note-clause-given : goal.returns-in_err-note-clause-given
returns-in_err-note-clause-given c =
    let p = err_from_is_err_and c.from_residual.result c.from_residual.ensures.1 in rw p.1 tt

pub returns-in_err-note-clause-too_large : goal.returns-in_err-note-clause-too_large
returns-in_err-note-clause-too_large c =
    let p = err_from_is_err_and c.from_residual.result c.from_residual.ensures.1 in
    λ other. absurd (memory_no_other c.from_residual.result (p.1 ∙ ap Err p.2) (inl other))

pub returns-in_err-note-clause-failed : goal.returns-in_err-note-clause-failed
returns-in_err-note-clause-failed c =
    let p = err_from_is_err_and c.from_residual.result c.from_residual.ensures.1 in
    λ other. absurd (memory_no_other c.from_residual.result (p.1 ∙ ap Err p.2) (inr other))

pub returns-in_err-note-clause-unswallowed : goal.returns-in_err-note-clause-unswallowed
returns-in_err-note-clause-unswallowed c = λ _. ap (λ m. m.counters.faults) c.self.view_is

pub returns-in_err-note-clause-refused : goal.returns-in_err-note-clause-refused
returns-in_err-note-clause-refused c =
    let p = err_from_is_err_and c.from_residual.result c.from_residual.ensures.1 in rw p.1 (inl p.2)

pub returns-in_err-note-clause-asked : goal.returns-in_err-note-clause-asked
returns-in_err-note-clause-asked c =
    let p = err_from_is_err_and c.from_residual.result c.from_residual.ensures.1 in
    inr (p.1 ∙ ap Err p.2, asks_no_more _ _ c.in_err-note.ensures.err c.args.self.now (ap (λ m. m.asked) c.self.view_is))

pub returns-in_err-note-clause-after : goal.returns-in_err-note-clause-after
returns-in_err-note-clause-after c =
    let p = err_from_is_err_and c.from_residual.result c.from_residual.ensures.1 in
    inr
    (p.1 ∙ ap Err p.2, ap (memory_with c.self.inside.files.items c.self.inside.counters) c.in_err-note.ensures.err ∙ c.self.view_is)
