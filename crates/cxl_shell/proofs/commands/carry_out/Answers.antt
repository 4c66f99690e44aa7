use Rattle.std.proofs.Common.{◌≡◌, true, false, Some, None, refl}
use Rattle.std.proofs.Math.Nat.{le_refl}
use Rattle.cxl_shell.specs.Devices.{devices}
use Rattle.cxl_commands.specs.Form.{Plan, OfWords}
use Rattle.cxl_commands.specs.Outside.{outside}
use Rattle.cxl_shell.proofs.Generated.{run-made}
use Rattle.cxl_shell.proofs.ResetHosts.{none_listed}
use Rattle.cxl_shell.proofs.Scripts.{run-left, from_reset, reset-unread, from_image, image-unread}
use Rattle.cxl_commands.proofs.Stops.{asks_nothing, run-ended, run-finished}
use Rattle.cxl_shell.proofs.commands.carry_out.Goals as goal

never : {P : Type 0} → true ≡ false → P
never none = absurd (cc)

never_none : {T P : Type 0} {x : T} → Some x ≡ None → P
never_none none = absurd (cc)

pub returns-in-OfTable : goal.returns-in-OfTable
returns-in-OfTable g c =
    record {
      run = rw c.in-OfTable.is (run-left _ _ _ _ _ _ c.of_table.ensures.run refl);
      left = λ none. (refl, refl, refl);
      unread = λ none. refl;
      files = c.of_table.ensures.files;
      source = le_refl (g.S.Source.state c.args.source.now).faults;
      sink = c.of_table.ensures.sink;
      bus = le_refl (g.R.Regs.state c.args.regs.now).faults;
      told = c.of_table.ensures.told;
      idle = rw c.in-OfTable.is (λ none. never_none none);
    }

pub returns-in-Plan : goal.returns-in-Plan
returns-in-Plan g c =
    let arm = c.in-OfResetHost in
    record {
      run = rw (arm.is, c.in-Plan.is) (run-left _ _ _ _ _ (Plan arm.cedt.now arm.topo.now c.in-Plan.create) (run-finished (Plan arm.cedt.now arm.topo.now c.in-Plan.create) _ _ _ refl c.plan.result c.plan.ensures.comes c.finish.ensures.finishes) refl);
      left = λ none. (refl, refl, refl);
      unread = λ none. refl;
      files = c.plan.ensures.counts;
      source = le_refl (g.S.Source.state c.args.source.now).faults;
      sink = c.finish.ensures.counts;
      bus = le_refl (g.R.Regs.state c.args.regs.now).faults;
      told = c.plan.ensures.told;
      idle = rw arm.is (λ none. never_none none);
    }

pub script_over_regions-requires-clause-listed : goal.script_over_regions-requires-clause-listed
script_over_regions-requires-clause-listed g c =
    let host = c.in-Ok.host in
    rw (c.in-Ok.ensures.reset, c.new.ensures.items) (none_listed host.topo host.windows.items)

pub returns-in-Ok : goal.returns-in-Ok
returns-in-Ok g c =
    let arm = c.in-OfResetHost in
    let host = c.in-Ok.host in
    let read = c.in-Ok.ensures.read in
    record {
      run = rw (arm.is, c.in-Script.is) (from_reset (outside (g.F.Fetch.state c.args.files.now) (g.K.Sink.state c.args.out.now)) (outside (g.F.Fetch.state c.fetch_reset_host.new.files) (g.K.Sink.state c.script_over_regions.new.out)) (devices (g.S.Source.state c.args.source.now) (g.R.Regs.state c.args.regs.now) (g.M.Media.state c.args.media.now)) (devices (g.S.Source.state c.script_over_regions.new.source) (g.R.Regs.state c.script_over_regions.new.regs) (g.M.Media.state c.script_over_regions.new.media)) c.script_over_regions.result
          arm.cedt.now arm.topo.now read.0 host.topo host.image host.windows.items read.1 read.2 c.in-Ok.ensures.reset c.in-Ok.ensures.asked c.script_over_regions.ensures.ends);
      left = rw (arm.is, c.in-Script.is) (λ none. never none);
      unread = rw (arm.is, c.in-Script.is) (λ none. never none);
      files = c.fetch_reset_host.ensures.counts;
      source = c.script_over_regions.ensures.source;
      sink = c.script_over_regions.ensures.sink;
      bus = c.script_over_regions.ensures.bus;
      told = c.fetch_reset_host.ensures.stays;
      idle = rw arm.is (λ none. never_none none);
    }

pub returns-in-Err : goal.returns-in-Err
returns-in-Err g c =
    let arm = c.in-OfResetHost in
    record {
      run = rw (arm.is, c.in-Script.is) (reset-unread (outside (g.F.Fetch.state c.args.files.now) (g.K.Sink.state c.args.out.now)) (outside (g.F.Fetch.state c.fetch_reset_host.new.files) (g.K.Sink.state c.finish-in-Err.new.out)) (devices (g.S.Source.state c.args.source.now) (g.R.Regs.state c.args.regs.now) (g.M.Media.state c.args.media.now)) (devices (g.S.Source.state c.args.source.now) (g.R.Regs.state c.args.regs.now) (g.M.Media.state c.args.media.now)) c.finish-in-Err.result
          arm.cedt.now arm.topo.now c.in-Err.stop refl c.in-Err.ensures.stops c.finish-in-Err.ensures.finishes);
      left = λ none. (refl, refl, refl);
      unread = λ none. refl;
      files = c.fetch_reset_host.ensures.counts;
      source = le_refl (g.S.Source.state c.args.source.now).faults;
      sink = c.finish-in-Err.ensures.counts;
      bus = le_refl (g.R.Regs.state c.args.regs.now).faults;
      told = c.fetch_reset_host.ensures.stays;
      idle = rw arm.is (λ none. never_none none);
    }

pub returns-in-Check : goal.returns-in-Check
returns-in-Check g c =
    record {
      run = rw (c.in-OfHost.is, c.in-Check.is) (run-left _ _ _ _ _ _ c.check.ensures.run refl);
      left = λ none. (refl, refl, refl);
      unread = λ none. refl;
      files = c.check.ensures.files;
      source = le_refl (g.S.Source.state c.args.source.now).faults;
      sink = c.check.ensures.sink;
      bus = le_refl (g.R.Regs.state c.args.regs.now).faults;
      told = c.check.ensures.told;
      idle = rw c.in-OfHost.is (λ none. never_none none);
    }

pub returns-in-Ok-fetch_host : goal.returns-in-Ok-fetch_host
returns-in-Ok-fetch_host g c =
    let arm = c.in-OfHost in
    let found = c.in-Ok-fetch_host in
    let read = found.ensures.read in
    record {
      run = rw (arm.is, c.in-Script-ask.is) (from_image (outside (g.F.Fetch.state c.args.files.now) (g.K.Sink.state c.args.out.now)) (outside (g.F.Fetch.state c.fetch_host.new.files) (g.K.Sink.state c.script_from_image.new.out)) (devices (g.S.Source.state c.args.source.now) (g.R.Regs.state c.args.regs.now) (g.M.Media.state c.args.media.now)) (devices (g.S.Source.state c.script_from_image.new.source) (g.R.Regs.state c.script_from_image.new.regs) (g.M.Media.state c.script_from_image.new.media)) c.script_from_image.result
          arm.cedt.now arm.topo.now arm.image.now read.0 found.host.topo found.host.image found.host.windows.items read.1 read.2 found.ensures.asked c.script_from_image.ensures.ends);
      left = rw (arm.is, c.in-Script-ask.is) (λ none. never none);
      unread = rw (arm.is, c.in-Script-ask.is) (λ none. never none);
      files = c.fetch_host.ensures.counts;
      source = c.script_from_image.ensures.source;
      sink = c.script_from_image.ensures.sink;
      bus = c.script_from_image.ensures.bus;
      told = c.fetch_host.ensures.stays;
      idle = rw arm.is (λ none. never_none none);
    }

pub returns-in-Err-fetch_host : goal.returns-in-Err-fetch_host
returns-in-Err-fetch_host g c =
    let arm = c.in-OfHost in
    let none = c.in-Err-fetch_host in
    record {
      run = rw (arm.is, c.in-Script-ask.is) (image-unread (outside (g.F.Fetch.state c.args.files.now) (g.K.Sink.state c.args.out.now)) (outside (g.F.Fetch.state c.fetch_host.new.files) (g.K.Sink.state c.finish-in-Err-fetch_host.new.out)) (devices (g.S.Source.state c.args.source.now) (g.R.Regs.state c.args.regs.now) (g.M.Media.state c.args.media.now)) (devices (g.S.Source.state c.args.source.now) (g.R.Regs.state c.args.regs.now) (g.M.Media.state c.args.media.now)) c.finish-in-Err-fetch_host.result
          arm.cedt.now arm.topo.now arm.image.now none.stop refl none.ensures.stops c.finish-in-Err-fetch_host.ensures.finishes);
      left = λ none. (refl, refl, refl);
      unread = λ none. refl;
      files = c.fetch_host.ensures.counts;
      source = le_refl (g.S.Source.state c.args.source.now).faults;
      sink = c.finish-in-Err-fetch_host.ensures.counts;
      bus = le_refl (g.R.Regs.state c.args.regs.now).faults;
      told = c.fetch_host.ensures.stays;
      idle = rw arm.is (λ none. never_none none);
    }

pub returns-in-Gen : goal.returns-in-Gen
returns-in-Gen g c =
    let n = c.in-Gen.n in
    let before = devices (g.S.Source.state c.args.source.now) (g.R.Regs.state c.args.regs.now) (g.M.Media.state c.args.media.now) in
    let after = devices (g.S.Source.state c.args.source.now) (g.R.Regs.state c.generated.new.regs) (g.M.Media.state c.generated.new.media) in
    record {
      run = rw (c.in-OfWords.is, c.in-Gen.is) (run-made n (outside (g.F.Fetch.state c.args.files.now) (g.K.Sink.state c.args.out.now)) (outside (g.F.Fetch.state c.args.files.now) (g.K.Sink.state c.generated.new.out)) before after c.generated.result
          (asks_nothing (g.F.Fetch.state c.args.files.now)) refl (c.generated.ensures.ends (g.S.Source.state c.args.source.now)));
      left = rw (c.in-OfWords.is, c.in-Gen.is) (λ none. never none);
      unread = λ none. refl;
      files = le_refl (g.F.Fetch.state c.args.files.now).faults;
      source = le_refl (g.S.Source.state c.args.source.now).faults;
      sink = c.generated.ensures.sink;
      bus = c.generated.ensures.bus;
      told = refl;
      idle = λ none. refl;
    }

pub returns-in_default : goal.returns-in_default
returns-in_default g c =
    record {
      run = rw c.in-OfWords.is (run-left _ _ _ _ _ (OfWords c.in-OfWords.ask) (run-ended (OfWords c.in-OfWords.ask) _ _ _ c.said.result (c.said.ensures (g.F.Fetch.state c.args.files.now)) c.finish-in_default.ensures.finishes) refl);
      left = λ none. (refl, refl, refl);
      unread = λ none. refl;
      files = le_refl (g.F.Fetch.state c.args.files.now).faults;
      source = le_refl (g.S.Source.state c.args.source.now).faults;
      sink = c.finish-in_default.ensures.counts;
      bus = le_refl (g.R.Regs.state c.args.regs.now).faults;
      told = refl;
      idle = λ none. refl;
    }
