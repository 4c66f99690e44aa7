use Rattle.std.proofs.Common.{refl, sym, ◌∙◌, subst}
use Rattle.std.proofs.lemmas.Result.{IfOk-weaker, IfErr-weaker}
use Rattle.std.proofs.Math.Nat.{le_refl}
use Rattle.cxl_bus.proofs.Failed.{fails_nowhere, fails_same}
use Rattle.cxl_script.specs.Grammar.{IsRanged}
use Rattle.cxl_script.specs.declared.command.Command.TheVariants as commands
use Rattle.cxl_machine.specs.Copies.{copy_answer, move_answer}
use Rattle.cxl_session.specs.inner.Answering.{IsTurnFor}
use Rattle.cxl_session.proofs.Acts.{of_command, of_result, read_turn, write_turn, image_held, some_machine, holds_some, image_after, image_after_result, untouched_by, owes_none, owes_same, ok_always, err_always}
use Rattle.cxl_session.proofs.session.Session.act_on_regions.Goals as goal

pub create-requires : goal.create-requires
create-requires g c = record { stands = c.requires.stands; code = subst IsRanged c.in-Create.is c.requires.ranged }

pub returns-in-Create : goal.returns-in-Create
returns-in-Create g c =
    let session = c.args.self.now in
    let next = c.create.new.self in
    let old = g.R.Regs.state c.args.regs.now in
    let new = g.R.Regs.state c.create.new.regs in
    let media = g.M.Media.state c.args.media.now in
    let left = g.M.Media.state c.create.new.media in
    record {
      answer =
          of_result session next old new media left c.args.command.now (commands.Create c.in-Create.create) c.create.result c.in-Create.is
          c.create.ensures.turn;
      refused = c.create.ensures.refused;
      memory = IfErr-weaker c.create.result _ _ (λ _ same. (same.0, untouched_by old new same.1, same.2)) c.create.ensures.memory;
      unfailed = IfErr-weaker c.create.result _ _ (λ _ same. fails_same old new same.1) c.create.ensures.memory;
      ready = owes_none c.args.command.now (commands.Create c.in-Create.create) c.create.result c.in-Create.is refl;
      outright = owes_same c.args.self.now c.args.command.now (commands.Create c.in-Create.create) c.create.result c.in-Create.is c.create.ensures.outright;
      image = image_after_result session next old new media left (commands.Create c.in-Create.create) c.create.result c.requires.stands c.create.ensures.turn (IfErr-weaker c.create.result _ _ (λ _ same. (same.0, same.1)) c.create.ensures.memory);
      host = c.create.ensures.host;
      counts = c.create.ensures.counts;
    }

pub destroy-requires : goal.destroy-requires
destroy-requires g c = c.requires.stands

pub returns-in-Destroy : goal.returns-in-Destroy
returns-in-Destroy g c =
    let session = c.args.self.now in
    let next = c.destroy.new.self in
    let old = g.R.Regs.state c.args.regs.now in
    let new = g.R.Regs.state c.destroy.new.regs in
    let media = g.M.Media.state c.args.media.now in
    let left = g.M.Media.state c.destroy.new.media in
    record {
      answer =
          of_result session next old new media left c.args.command.now (commands.Destroy c.in-Destroy.name) c.destroy.result c.in-Destroy.is
          c.destroy.ensures.turn;
      refused = c.destroy.ensures.refused;
      memory = IfErr-weaker c.destroy.result _ _ (λ _ same. (same.0, untouched_by old new same.1, same.2)) c.destroy.ensures.memory;
      unfailed = IfErr-weaker c.destroy.result _ _ (λ _ same. fails_same old new same.1) c.destroy.ensures.memory;
      ready = owes_none c.args.command.now (commands.Destroy c.in-Destroy.name) c.destroy.result c.in-Destroy.is refl;
      outright = owes_same c.args.self.now c.args.command.now (commands.Destroy c.in-Destroy.name) c.destroy.result c.in-Destroy.is c.destroy.ensures.outright;
      image = image_after_result session next old new media left (commands.Destroy c.in-Destroy.name) c.destroy.result c.requires.stands c.destroy.ensures.turn (IfErr-weaker c.destroy.result _ _ (λ _ same. (same.0, same.1)) c.destroy.ensures.memory);
      host = c.destroy.ensures.host;
      counts = c.destroy.ensures.counts;
    }

pub show-requires : goal.show-requires
show-requires g c = (g.M.Media.state c.args.media.now, c.requires.stands)

pub returns-in-Show : goal.returns-in-Show
returns-in-Show g c =
    let session = c.args.self.now in
    let old = g.R.Regs.state c.args.regs.now in
    let new = g.R.Regs.state c.show.new.regs in
    let media = g.M.Media.state c.args.media.now in
    record {
      answer =
          of_result session session old new media media c.args.command.now (commands.Show c.in-Show.name) c.show.result c.in-Show.is
          (IfOk-weaker c.show.result _ _ (λ _ turn. turn media) c.show.ensures.turn);
      refused = ok_always c.show.result _ (λ _ _. (refl, c.show.ensures.untouched.blocks, refl));
      memory = err_always c.show.result _ (λ _. (refl, c.show.ensures.untouched, refl));
      unfailed = IfErr-weaker c.show.result _ _ (λ _ same. fails_same old new same) c.show.ensures.memory;
      ready = owes_none c.args.command.now (commands.Show c.in-Show.name) c.show.result c.in-Show.is refl;
      outright = owes_same c.args.self.now c.args.command.now (commands.Show c.in-Show.name) c.show.result c.in-Show.is c.show.ensures.outright;
      image = image_held session old media c.requires.stands ∙ sym c.show.ensures.untouched.blocks;
      host = (refl, refl);
      counts = c.show.ensures.counts;
    }

pub poison-requires : goal.poison-requires
poison-requires g c = some_machine c.args.self.now (g.R.Regs.state c.args.regs.now) (g.M.Media.state c.args.media.now) c.requires.stands

pub returns-in-Poison : goal.returns-in-Poison
returns-in-Poison g c =
    let session = c.args.self.now in
    let old = g.R.Regs.state c.args.regs.now in
    let media = g.M.Media.state c.args.media.now in
    record {
      answer =
          of_result session session old old media media c.args.command.now (commands.Poison c.in-Poison.poison) c.poison.result c.in-Poison.is
          (IfOk-weaker c.poison.result _ _ (λ reply reads. read_turn session old (commands.Poison c.in-Poison.poison) (λ m. refl) media reply
          (λ m stands is memory. (refl, reads m stands is))) c.poison.ensures.tells);
      refused = ok_always c.poison.result _ (λ _ _. (refl, refl, refl));
      memory = err_always c.poison.result _ (λ _. (refl, untouched_by old old refl, refl));
      unfailed = err_always c.poison.result _ (λ _. fails_nowhere old);
      ready = owes_none c.args.command.now (commands.Poison c.in-Poison.poison) c.poison.result c.in-Poison.is refl;
      outright = owes_same c.args.self.now c.args.command.now (commands.Poison c.in-Poison.poison) c.poison.result c.in-Poison.is c.poison.ensures.outright;
      image = image_held session old media c.requires.stands;
      host = (refl, refl);
      counts = le_refl old.faults;
    }

pub begin_create-requires : goal.begin_create-requires
begin_create-requires g c = record { stands = (g.R.Regs.state c.args.regs.now, g.M.Media.state c.args.media.now, c.requires.stands); code = subst IsRanged c.in-BeginCreate.is c.requires.ranged }

pub returns-in-BeginCreate : goal.returns-in-BeginCreate
returns-in-BeginCreate g c =
    let session = c.args.self.now in
    let next = c.begin_create.new.self in
    let old = g.R.Regs.state c.args.regs.now in
    let media = g.M.Media.state c.args.media.now in
    let turn = IfOk-weaker c.begin_create.result _ (IsTurnFor session next old old media media (commands.BeginCreate c.in-BeginCreate.create)) (λ _ turn. turn old media) c.begin_create.ensures.turn in
    record {
      answer =
          of_result session next old old media media c.args.command.now (commands.BeginCreate c.in-BeginCreate.create) c.begin_create.result c.in-BeginCreate.is
          turn;
      refused = IfOk-weaker c.begin_create.result _ _ (λ _ same is. (same is, refl, refl)) c.begin_create.ensures.refused;
      memory = IfErr-weaker c.begin_create.result _ _ (λ _ same. (same, untouched_by old old refl, refl)) c.begin_create.ensures.memory;
      unfailed = err_always c.begin_create.result _ (λ _. fails_nowhere old);
      ready = owes_none c.args.command.now (commands.BeginCreate c.in-BeginCreate.create) c.begin_create.result c.in-BeginCreate.is refl;
      outright = owes_same c.args.self.now c.args.command.now (commands.BeginCreate c.in-BeginCreate.create) c.begin_create.result c.in-BeginCreate.is c.begin_create.ensures.outright;
      image = image_after_result session next old old media media (commands.BeginCreate c.in-BeginCreate.create) c.begin_create.result c.requires.stands turn (IfErr-weaker c.begin_create.result _ _ (λ _ same. (same, refl)) c.begin_create.ensures.memory);
      host = c.begin_create.ensures.host;
      counts = le_refl old.faults;
    }

pub begin_destroy-requires : goal.begin_destroy-requires
begin_destroy-requires g c = (g.R.Regs.state c.args.regs.now, g.M.Media.state c.args.media.now, c.requires.stands)

pub returns-in-BeginDestroy : goal.returns-in-BeginDestroy
returns-in-BeginDestroy g c =
    let session = c.args.self.now in
    let next = c.begin_destroy.new.self in
    let old = g.R.Regs.state c.args.regs.now in
    let media = g.M.Media.state c.args.media.now in
    let turn = IfOk-weaker c.begin_destroy.result _ (IsTurnFor session next old old media media (commands.BeginDestroy c.in-BeginDestroy.name)) (λ _ turn. turn old media) c.begin_destroy.ensures.turn in
    record {
      answer =
          of_result session next old old media media c.args.command.now (commands.BeginDestroy c.in-BeginDestroy.name) c.begin_destroy.result c.in-BeginDestroy.is
          turn;
      refused = IfOk-weaker c.begin_destroy.result _ _ (λ _ same is. (same is, refl, refl)) c.begin_destroy.ensures.refused;
      memory = IfErr-weaker c.begin_destroy.result _ _ (λ _ same. (same, untouched_by old old refl, refl)) c.begin_destroy.ensures.memory;
      unfailed = err_always c.begin_destroy.result _ (λ _. fails_nowhere old);
      ready = owes_none c.args.command.now (commands.BeginDestroy c.in-BeginDestroy.name) c.begin_destroy.result c.in-BeginDestroy.is refl;
      outright = owes_same c.args.self.now c.args.command.now (commands.BeginDestroy c.in-BeginDestroy.name) c.begin_destroy.result c.in-BeginDestroy.is c.begin_destroy.ensures.outright;
      image = image_after_result session next old old media media (commands.BeginDestroy c.in-BeginDestroy.name) c.begin_destroy.result c.requires.stands turn (IfErr-weaker c.begin_destroy.result _ _ (λ _ same. (same, refl)) c.begin_destroy.ensures.memory);
      host = c.begin_destroy.ensures.host;
      counts = le_refl old.faults;
    }

pub step-requires : goal.step-requires
step-requires g c = c.requires.stands

pub returns-in-Step : goal.returns-in-Step
returns-in-Step g c =
    let session = c.args.self.now in
    let next = c.step.new.self in
    let old = g.R.Regs.state c.args.regs.now in
    let new = g.R.Regs.state c.step.new.regs in
    let media = g.M.Media.state c.args.media.now in
    let left = g.M.Media.state c.step.new.media in
    record {
      answer =
          of_command session next old new media left c.args.command.now (commands.Step c.in-Step.steps) c.step.result c.in-Step.is
          c.step.ensures.turn;
      refused = c.step.ensures.refused;
      memory = tt;
      unfailed = tt;
      ready = λ _. refl;
      outright = λ _ _ _ _. refl;
      image = image_after session next old new media left (commands.Step c.in-Step.steps) c.step.result c.requires.stands c.step.ensures.turn;
      host = c.step.ensures.host;
      counts = c.step.ensures.counts;
    }

pub abort-requires : goal.abort-requires
abort-requires g c = (g.M.Media.state c.args.media.now, c.requires.stands)

pub returns-in-Abort : goal.returns-in-Abort
returns-in-Abort g c =
    let session = c.args.self.now in
    let next = c.abort.new.self in
    let old = g.R.Regs.state c.args.regs.now in
    let new = g.R.Regs.state c.abort.new.regs in
    let media = g.M.Media.state c.args.media.now in
    record {
      answer =
          of_command session next old new media media c.args.command.now commands.Abort c.abort.result c.in-Abort.is
          (c.abort.ensures.turn media);
      refused = λ is. ((c.abort.ensures.refused is).0, (c.abort.ensures.refused is).1, refl);
      memory = tt;
      unfailed = tt;
      ready = λ _. refl;
      outright = λ _ _ _ _. refl;
      image = image_after session next old new media media commands.Abort c.abort.result c.requires.stands (c.abort.ensures.turn media);
      host = c.abort.ensures.host;
      counts = c.abort.ensures.counts;
    }

pub range-requires : goal.range-requires
range-requires g c =
    let ranged = subst IsRanged c.in-Range.is c.requires.ranged in record { stands = some_machine c.args.self.now (g.R.Regs.state c.args.regs.now) (g.M.Media.state c.args.media.now) c.requires.stands; some = ranged.0; few = ranged.1 }

pub returns-in-Range : goal.returns-in-Range
returns-in-Range g c =
    let session = c.args.self.now in
    let old = g.R.Regs.state c.args.regs.now in
    let media = g.M.Media.state c.args.media.now in
    record {
      answer =
          of_result session session old old media media c.args.command.now (commands.Range c.in-Range.reach) c.range.result c.in-Range.is
          (IfOk-weaker c.range.result _ _ (λ reply reads. read_turn session old (commands.Range c.in-Range.reach) (λ m. refl) media reply
          (λ m stands is memory. record { unfailing = refl; told = sym (reads m stands is) })) c.range.ensures.tells);
      refused = ok_always c.range.result _ (λ _ _. (refl, refl, refl));
      memory = err_always c.range.result _ (λ _. (refl, untouched_by old old refl, refl));
      unfailed = err_always c.range.result _ (λ _. fails_nowhere old);
      ready = owes_none c.args.command.now (commands.Range c.in-Range.reach) c.range.result c.in-Range.is refl;
      outright = owes_same c.args.self.now c.args.command.now (commands.Range c.in-Range.reach) c.range.result c.in-Range.is c.range.ensures.outright;
      image = image_held session old media c.requires.stands;
      host = (refl, refl);
      counts = le_refl old.faults;
    }

pub spread-requires : goal.spread-requires
spread-requires g c = record { stands = some_machine c.args.self.now (g.R.Regs.state c.args.regs.now) (g.M.Media.state c.args.media.now) c.requires.stands; some = subst IsRanged c.in-Spread.is c.requires.ranged }

pub returns-in-Spread : goal.returns-in-Spread
returns-in-Spread g c =
    let session = c.args.self.now in
    let old = g.R.Regs.state c.args.regs.now in
    let media = g.M.Media.state c.args.media.now in
    record {
      answer =
          of_result session session old old media media c.args.command.now (commands.Spread c.in-Spread.reach) c.spread.result c.in-Spread.is
          (IfOk-weaker c.spread.result _ _ (λ reply reads. read_turn session old (commands.Spread c.in-Spread.reach) (λ m. refl) media reply
          (λ m stands is memory. record { unfailing = refl; told = sym (reads m stands is) })) c.spread.ensures.tells);
      refused = ok_always c.spread.result _ (λ _ _. (refl, refl, refl));
      memory = err_always c.spread.result _ (λ _. (refl, untouched_by old old refl, refl));
      unfailed = err_always c.spread.result _ (λ _. fails_nowhere old);
      ready = owes_none c.args.command.now (commands.Spread c.in-Spread.reach) c.spread.result c.in-Spread.is refl;
      outright = owes_same c.args.self.now c.args.command.now (commands.Spread c.in-Spread.reach) c.spread.result c.in-Spread.is c.spread.ensures.outright;
      image = image_held session old media c.requires.stands;
      host = (refl, refl);
      counts = le_refl old.faults;
    }

pub copy_region-requires : goal.copy_region-requires
copy_region-requires g c = holds_some c.args.self.now (g.R.Regs.state c.args.regs.now) (g.M.Media.state c.args.media.now) c.requires.stands

pub returns-in-Copy : goal.returns-in-Copy
returns-in-Copy g c =
    let session = c.args.self.now in
    let old = g.R.Regs.state c.args.regs.now in
    let media = g.M.Media.state c.args.media.now in
    let left = g.M.Media.state c.copy_region.new.media in
    record {
      answer =
          of_result session session old old media left c.args.command.now (commands.Copy c.in-Copy.pair) c.copy_region.result c.in-Copy.is
          (IfOk-weaker c.copy_region.result _ _ (λ reply written. write_turn session old (commands.Copy c.in-Copy.pair) (λ m. refl) media left reply
          (λ m. copy_answer m c.in-Copy.pair) (λ m. record { unfailing = refl; told = refl }) written) c.copy_region.ensures.answer);
      refused = IfOk-weaker c.copy_region.result _ _ (λ _ same is. (refl, refl, same is)) c.copy_region.ensures.refused;
      memory = IfErr-weaker c.copy_region.result _ _ (λ _ same. (refl, untouched_by old old refl, same)) c.copy_region.ensures.memory;
      unfailed = err_always c.copy_region.result _ (λ _. fails_nowhere old);
      ready = owes_none c.args.command.now (commands.Copy c.in-Copy.pair) c.copy_region.result c.in-Copy.is refl;
      outright = owes_same c.args.self.now c.args.command.now (commands.Copy c.in-Copy.pair) c.copy_region.result c.in-Copy.is c.copy_region.ensures.outright;
      image = image_held session old media c.requires.stands;
      host = (refl, refl);
      counts = le_refl old.faults;
    }

pub move_region-requires : goal.move_region-requires
move_region-requires g c = holds_some c.args.self.now (g.R.Regs.state c.args.regs.now) (g.M.Media.state c.args.media.now) c.requires.stands

pub returns-in-Move : goal.returns-in-Move
returns-in-Move g c =
    let session = c.args.self.now in
    let old = g.R.Regs.state c.args.regs.now in
    let media = g.M.Media.state c.args.media.now in
    let left = g.M.Media.state c.move_region.new.media in
    record {
      answer =
          of_result session session old old media left c.args.command.now (commands.Move c.in-Move.pair) c.move_region.result c.in-Move.is
          (IfOk-weaker c.move_region.result _ _ (λ reply written. write_turn session old (commands.Move c.in-Move.pair) (λ m. refl) media left reply
          (λ m. move_answer m c.in-Move.pair) (λ m. record { unfailing = refl; told = refl }) written) c.move_region.ensures.answer);
      refused = IfOk-weaker c.move_region.result _ _ (λ _ same is. (refl, refl, same is)) c.move_region.ensures.refused;
      memory = IfErr-weaker c.move_region.result _ _ (λ _ same. (refl, untouched_by old old refl, same)) c.move_region.ensures.memory;
      unfailed = err_always c.move_region.result _ (λ _. fails_nowhere old);
      ready = owes_none c.args.command.now (commands.Move c.in-Move.pair) c.move_region.result c.in-Move.is refl;
      outright = owes_same c.args.self.now c.args.command.now (commands.Move c.in-Move.pair) c.move_region.result c.in-Move.is c.move_region.ensures.outright;
      image = image_held session old media c.requires.stands;
      host = (refl, refl);
      counts = le_refl old.faults;
    }
