use Rattle.cxl_session.proofs.Passing.{and_if_ok, and_on_err, and_is_ok}
use Rattle.cxl_session.proofs.session.Session.act.Goals as goal

pub act_into-requires : goal.act_into-requires
act_into-requires g c = record { stands = c.requires.stands; ranged = c.requires.ranged }

pub returns-clause-answer : goal.returns-clause-answer
returns-clause-answer g c = and_if_ok c.act_into.result c.act_into.new.reply c.and.result _ c.and.ensures c.act_into.ensures.answer

pub returns-clause-refused : goal.returns-clause-refused
returns-clause-refused g c = and_if_ok c.act_into.result c.act_into.new.reply c.and.result _ c.and.ensures c.act_into.ensures.refused

pub returns-clause-memory : goal.returns-clause-memory
returns-clause-memory g c = and_on_err c.act_into.result c.act_into.new.reply c.and.result _ c.and.ensures c.act_into.ensures.memory

pub returns-clause-unfailed : goal.returns-clause-unfailed
returns-clause-unfailed g c = and_on_err c.act_into.result c.act_into.new.reply c.and.result _ c.and.ensures c.act_into.ensures.unfailed

pub returns-clause-ready : goal.returns-clause-ready
returns-clause-ready g c = λ none. and_is_ok c.act_into.result c.act_into.new.reply c.and.result c.and.ensures (c.act_into.ensures.ready none)

pub returns-clause-outright : goal.returns-clause-outright
returns-clause-outright g c = λ m stands is refused.
    and_is_ok c.act_into.result c.act_into.new.reply c.and.result c.and.ensures (c.act_into.ensures.outright m stands is refused)

pub returns-clause-image : goal.returns-clause-image
returns-clause-image g c = c.act_into.ensures.image

pub returns-clause-host : goal.returns-clause-host
returns-clause-host g c = c.act_into.ensures.host

pub returns-clause-counts : goal.returns-clause-counts
returns-clause-counts g c = c.act_into.ensures.counts
