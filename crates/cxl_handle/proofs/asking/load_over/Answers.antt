use Rattle.std.proofs.Common.{inl, sym, subst}
use Rattle.cxl_handle.specs.Replies.{HasLoaded}
use Rattle.cxl_handle.proofs.Loads.{loads_all}
use Rattle.cxl_handle.proofs.asking.load_over.Goals as goal

pub tell_bytes-requires : goal.tell_bytes-requires
tell_bytes-requires c =
    let m = c.requires.kept.0 in let turn = c.in-Ok.ensures.answer m c.requires.kept.1 in
    subst (HasLoaded c.args.bytes.now) (sym turn.2.told) (loads_all c.args.bytes.now m c.args.h turn.0 turn.1)

pub returns-in-Ok-clause-told : goal.returns-in-Ok-clause-told
returns-in-Ok-clause-told c = inl (record {
  reply = c.in-Ok.reply;
  answered = record { turn = c.in-Ok.ensures.answer; refused = c.in-Ok.ensures.refused };
  tells = c.tell_bytes.ensures;
  refusal = c.refusal_of.ensures;
})
