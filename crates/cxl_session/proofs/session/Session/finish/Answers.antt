use Rattle.std.proofs.Common.{Option, [], ◌∷◌, ◌++◌, refl, ap, ◌∙◌}
use Rattle.cxl_reply.specs.declared.reply.Reply.TheVariants as replies
use Rattle.cxl_session.specs.State.{JobFields}
use Rattle.cxl_session.proofs.session.Session.finish.Goals as goal

pub returns-in-Creates : goal.returns-in-Creates
returns-in-Creates g c =
    let session = c.args.self.now in
    let own = c.args.pending in
    record {
      session =
          rw c.in-Creates.is
          (c.push.ensures
          ∙ ap (λ (job : Option JobFields). record session { names = session.names ++ own.name ∷ []; founds = session.founds ++ own.found ∷ []; kept = session.kept ++ own.kept ∷ []; job = job }) c.requires.idle);
      reply = rw c.in-Creates.is (ap replies.Created c.region_details.ensures);
      media = rw c.in-Creates.is refl;
    }
