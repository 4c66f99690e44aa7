use Rattle.std.proofs.Common.{ℕ, Ok, refl, subst}
use Rattle.std.proofs.lemmas.Result.{on_ok_weaker}
use Rattle.cxl_machine.specs.Machine.{region_window}
use Rattle.cxl_session.specs.inner.Answering.{IsWithin}
use Rattle.cxl_session.proofs.Within.{found_within, kept_within, within_unrefused}
use Rattle.cxl_session.proofs.Loads.{lies_from, woven_within, loaded}
use Rattle.cxl_session.proofs.session.Session.load.Goals as goal

pub kept_at-requires : goal.kept_at-requires
kept_at-requires g c =
    let (m, stands, is, memory) = c.requires.stands in
    let within = c.in-Ok.ensures m stands is in
    kept_within c.args.self.now m c.in-Ok.place within.0 within.1

pub found_at-requires : goal.found_at-requires
found_at-requires g c =
    let (m, stands, is, memory) = c.requires.stands in
    let within = c.in-Ok.ensures m stands is in
    found_within c.args.self.now m c.in-Ok.place within.0 within.1

pub put_loaded-requires-clause-region : goal.put_loaded-requires-clause-region
put_loaded-requires-clause-region g c =
    let (m, stands, is, memory) = c.requires.stands in
    let within : IsWithin c.args.self.now m c.args.load.h c.args.load.len (Ok c.in-Ok.place) =
    subst (λ (n : ℕ). IsWithin c.args.self.now m c.args.load.h n (Ok c.in-Ok.place)) c.from.ensures (c.in-Ok.ensures m stands is) in (
      m.settled,
      region_window m.settled within.0.found,
      woven_within c.args.self.now m is c.args.load.h c.args.load.len c.in-Ok.place within c.found_at.result.now c.found_at.ensures c.kept_at.result.now c.weave-weave.result.now c.kept_at.ensures c.weave-weave.ensures,
    )

pub put_loaded-requires-clause-from : goal.put_loaded-requires-clause-from
put_loaded-requires-clause-from g c =
    let (m, stands, is, memory) = c.requires.stands in
    lies_from c.args.self.now m is c.args.load.h c.args.load.len c.in-Ok.place
    (subst (λ (n : ℕ). IsWithin c.args.self.now m c.args.load.h n (Ok c.in-Ok.place)) c.from.ensures (c.in-Ok.ensures m stands is)) c.found_at.result.now c.found_at.ensures

pub returns-clause-reads : goal.returns-clause-reads
returns-clause-reads g c = on_ok_weaker c.put_loaded.result (λ reads m stands is memory.
    let within : IsWithin c.args.self.now m c.args.load.h c.args.load.len (Ok c.in-Ok.place) =
    subst (λ (n : ℕ). IsWithin c.args.self.now m c.args.load.h n (Ok c.in-Ok.place)) c.from.ensures (c.in-Ok.ensures m stands is) in
    loaded c.regions_lie_in_windows.ensures.there c.blocks_hold_their_pieces.ensures c.args.self.now m is (g.M.Media.state c.args.media.now) memory c.args.load c.in-Ok.place within c.found_at.result.now c.found_at.ensures c.weave-weave.result.now
    (woven_within c.args.self.now m is c.args.load.h c.args.load.len c.in-Ok.place within c.found_at.result.now c.found_at.ensures c.kept_at.result.now c.weave-weave.result.now c.kept_at.ensures c.weave-weave.ensures)
    c.put_loaded.new.reply reads) c.put_loaded.ensures

pub returns-clause-outright : goal.returns-clause-outright
returns-clause-outright g c = λ m stands is refused.
    let within : IsWithin c.args.self.now m c.args.load.h c.args.load.len (Ok c.in-Ok.place) =
    subst (λ (n : ℕ). IsWithin c.args.self.now m c.args.load.h n (Ok c.in-Ok.place)) c.from.ensures (c.in-Ok.ensures m stands is) in
    absurd (within_unrefused c.args.self.now m c.args.load.h c.args.load.len c.in-Ok.place within _ refl refused)

pub returns-in-Err-clause-outright : goal.returns-in-Err-clause-outright
returns-in-Err-clause-outright g c = λ _ _ _ _. refl
