use Rattle.std.proofs.Common.{refl, sym, subst}
use Rattle.std.proofs.lemmas.Result.{on_ok_weaker}
use Rattle.std.proofs.Math.Nat.{le_refl}
use Rattle.cxl_bus.proofs.Failed.{fails_nowhere}
use Rattle.cxl_script.specs.Grammar.{IsRanged}
use Rattle.cxl_script.specs.declared.command.Command.TheVariants as commands
use Rattle.cxl_reply.specs.declared.reply.Reply.{Reply}
use Rattle.cxl_machine.specs.Accesses.{store_answer}
use Rattle.cxl_session.specs.inner.Answering.{IsWrittenFor}
use Rattle.cxl_session.proofs.Acts.{of_command, read_turn, write_turn, image_held, some_machine, somehow, holds_some, untouched_by, owes_none, owes_same, refusal_told, no_access, on_ok_always, err_always}
use Rattle.cxl_session.proofs.session.Session.act_into.Goals as goal

pub load-requires : goal.load-requires
load-requires g c =
    let ranged = subst IsRanged c.in-Load.is c.requires.ranged in record { stands = somehow c.args.self.now (g.R.Regs.state c.args.regs.now) (g.M.Media.state c.args.media.now) c.requires.stands; some = ranged.0; few = ranged.1 }

pub returns-in-Load : goal.returns-in-Load
returns-in-Load g c =
    let session = c.args.self.now in
    let old = g.R.Regs.state c.args.regs.now in
    let media = g.M.Media.state c.args.media.now in
    record {
      answer =
          on_ok_weaker c.load.result (λ reads. of_command session session old old media media c.args.command.now (commands.Load c.in-Load.load) c.load.new.reply c.in-Load.is
          (read_turn session old (commands.Load c.in-Load.load) (λ m. refl) media c.load.new.reply
          (λ m stands is memory. record { unfailing = refl; told = sym (reads m stands is memory) }))) c.load.ensures.reads;
      refused = on_ok_always c.load.result (λ _. (refl, refl, refl));
      memory = err_always c.load.result _ (λ _. (refl, untouched_by old old refl, refl));
      unfailed = err_always c.load.result _ (λ _. fails_nowhere old);
      ready = owes_none c.args.command.now (commands.Load c.in-Load.load) c.load.result c.in-Load.is refl;
      outright = owes_same c.args.self.now c.args.command.now (commands.Load c.in-Load.load) c.load.result c.in-Load.is c.load.ensures.outright;
      image = image_held session old media c.requires.stands;
      host = (refl, refl);
      counts = le_refl old.faults;
    }

pub store-requires : goal.store-requires
store-requires g c = record { holds = holds_some c.args.self.now (g.R.Regs.state c.args.regs.now) (g.M.Media.state c.args.media.now) c.requires.stands; ranged = subst IsRanged c.in-Store.is c.requires.ranged }

pub returns-in-Store : goal.returns-in-Store
returns-in-Store g c =
    let session = c.args.self.now in
    let old = g.R.Regs.state c.args.regs.now in
    let media = g.M.Media.state c.args.media.now in
    let left = g.M.Media.state c.store.new.media in
    let reply = c.put_reply.new.place in
    record {
      answer =
          of_command session session old old media left c.args.command.now (commands.Store c.in-Store.store) reply c.in-Store.is
          (write_turn session old (commands.Store c.in-Store.store) (λ m. refl) media left reply
          (λ m. store_answer m c.in-Store.store) (λ m. record { unfailing = refl; told = refl })
          (subst (λ (told : Reply). IsWrittenFor session media left (λ m. store_answer m c.in-Store.store) told) (sym c.put_reply.ensures) c.store.ensures.answer));
      refused = λ is. (refl, refl, c.store.ensures.refused (refusal_told reply c.store.result is c.put_reply.ensures));
      memory = tt;
      unfailed = tt;
      ready = λ _. cc;
      outright = λ _ _ _ _. cc;
      image = image_held session old media c.requires.stands;
      host = (refl, refl);
      counts = le_refl old.faults;
    }

pub put_down-requires : goal.put_down-requires
put_down-requires g c = some_machine c.args.self.now (g.R.Regs.state c.args.regs.now) (g.M.Media.state c.args.media.now) c.requires.stands

pub returns-in-Down : goal.returns-in-Down
returns-in-Down g c =
    let session = c.args.self.now in
    let old = g.R.Regs.state c.args.regs.now in
    let media = g.M.Media.state c.args.media.now in
    record {
      answer =
          of_command session session old old media media c.args.command.now (commands.Down c.in-Down.h) c.put_down.new.reply c.in-Down.is
          (read_turn session old (commands.Down c.in-Down.h) (λ m. refl) media c.put_down.new.reply
          (λ m stands is memory. record { unfailing = refl; told = sym (c.put_down.ensures m stands is) }));
      refused = λ _. (refl, refl, refl);
      memory = tt;
      unfailed = tt;
      ready = λ _. refl;
      outright = λ _ _ _ _. refl;
      image = image_held session old media c.requires.stands;
      host = (refl, refl);
      counts = le_refl old.faults;
    }

pub put_up-requires : goal.put_up-requires
put_up-requires g c = some_machine c.args.self.now (g.R.Regs.state c.args.regs.now) (g.M.Media.state c.args.media.now) c.requires.stands

pub returns-in-Up : goal.returns-in-Up
returns-in-Up g c =
    let session = c.args.self.now in
    let old = g.R.Regs.state c.args.regs.now in
    let media = g.M.Media.state c.args.media.now in
    record {
      answer =
          of_command session session old old media media c.args.command.now (commands.Up c.in-Up.up) c.put_up.new.reply c.in-Up.is
          (read_turn session old (commands.Up c.in-Up.up) (λ m. refl) media c.put_up.new.reply
          (λ m stands is memory. (refl, c.put_up.ensures m stands is)));
      refused = λ _. (refl, refl, refl);
      memory = tt;
      unfailed = tt;
      ready = λ _. refl;
      outright = λ _ _ _ _. refl;
      image = image_held session old media c.requires.stands;
      host = (refl, refl);
      counts = le_refl old.faults;
    }

pub act_on_regions_into-requires : goal.act_on_regions_into-requires
act_on_regions_into-requires g c = record { stands = c.requires.stands; ranged = c.requires.ranged; other = no_access c.args.command.now c.in_default.not-Load c.in_default.not-Store c.in_default.not-Down c.in_default.not-Up }

pub returns-in_default : goal.returns-in_default
returns-in_default g c =
    let made = c.act_on_regions_into.ensures in
    record {
      answer = made.answer;
      refused = made.refused;
      memory = made.memory;
      unfailed = made.unfailed;
      ready = made.ready;
      outright = made.outright;
      image = made.image;
      host = made.host;
      counts = made.counts;
    }
