use Rattle.std.proofs.Common.{refl}
use Rattle.std.proofs.lemmas.Bool.{false≢true}
use Rattle.cxl_opening.proofs.Errors.{not_ok, at_any_err}
use Rattle.cxl_session.proofs.Acts.{of_reply, refusal_told}
use Rattle.cxl_session.proofs.session.Session.act_on_regions_into.Goals as goal

pub act_on_regions-requires : goal.act_on_regions-requires
act_on_regions-requires g c = record { stands = c.requires.stands; ranged = c.requires.ranged; other = c.requires.other }

pub returns-in_err-act_on_regions : goal.returns-in_err-act_on_regions
returns-in_err-act_on_regions g c =
    let told = c.in_err-act_on_regions.ensures in
    let failed = c.from_residual.ensures.1 in
    record {
      answer = not_ok _ c.from_residual.result _ failed;
      refused = not_ok _ c.from_residual.result _ failed;
      memory = at_any_err c.from_residual.result _ told.memory;
      unfailed = at_any_err c.from_residual.result _ told.unfailed;
      ready = λ none. absurd (false≢true (told.ready none));
      outright = λ m stands is refused. absurd (false≢true (told.outright m stands is refused));
      image = told.image;
      host = told.host;
      counts = told.counts;
    }

pub returns : goal.returns
returns g c =
    let told = c.in_ok-act_on_regions.ensures in
    record {
      answer =
          of_reply c.args.self.now c.act_on_regions.new.self (g.R.Regs.state c.args.regs.now) (g.R.Regs.state c.act_on_regions.new.regs) (g.M.Media.state c.args.media.now)
          (g.M.Media.state c.act_on_regions.new.media) c.args.command.now c.args.command.now _ _ told.answer (cc);
      refused = λ is. told.refused (refusal_told _ _ is (cc));
      memory = tt;
      unfailed = tt;
      ready = λ _. refl;
      outright = λ _ _ _ _. refl;
      image = told.image;
      host = told.host;
      counts = told.counts;
    }
