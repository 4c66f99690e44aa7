use Rattle.std.proofs.Common.{◌≡◌, ℕ, ◌+◌, ◌-◌, ◌%◌, ◌≤◌, List, ◌++◌, length, sym, ap, subst, ◌∙◌, arith}
use Rattle.std.proofs.lemmas.Bool.{eqb-true, eqb-false}
use Rattle.std.proofs.lemmas.List.{length-append}
use Rattle.cxl_script.specs.declared.command.Store.{Store}
use Rattle.cxl_deal.specs.Weaves.{WeaveFields}
use Rattle.cxl_media.specs.MediaState.{MediaState}
use Rattle.cxl_model.specs.declared.found.Found.{Found}
use Rattle.cxl_machine.specs.Machine.{Machine, region_window}
use Rattle.cxl_machine.specs.Accesses.{offset_in}
use Rattle.cxl_window.specs.Fields.{WindowFields}
use Rattle.cxl_session.specs.State.{SessionState}
use Rattle.cxl_move.specs.Puts.{PutsOne}
use Rattle.cxl_session.proofs.Sites.{site, region_carries, store_written}
use Rattle.cxl_session.proofs.Stores.{one_fits, cut_is, cut_ends, refused_one, refused_two}
use Rattle.cxl_session.proofs.Within.{found_within, kept_within}
use Rattle.cxl_session.proofs.session.Session.store.Goals as goal

pub overflow_sub-store : goal.overflow_sub-store
overflow_sub-store g c =
    let session : SessionState = c.args.self.now in
    let store : Store = c.args.store.now in
    let found : Found = c.found_at-found.result.now in
    let weave : WeaveFields = c.weave-weave.result.now in
    let bytes : List ℕ = c.items-bytes.result.now in
    let m : Machine = c.requires.holds.0 in
    let holds = c.requires.holds.1 in
    let here =
    site session m holds.machine store bytes c.in-Ok.place c.items-bytes.ensures (c.in-Ok.ensures m holds.stands holds.machine) found c.found_at-found.ensures c.kept_at.result.now c.kept_at.ensures weave c.weave-weave.ensures in
    let w : WindowFields = region_window m.settled here.region.found in
    let long : length bytes ≡ length store.bytes = ap (λ (xs : List ℕ). length xs) c.items-bytes.ensures in
    here.from

pub device_byte-first-requires-clause-region : goal.device_byte-first-requires-clause-region
device_byte-first-requires-clause-region g c =
    let session : SessionState = c.args.self.now in
    let store : Store = c.args.store.now in
    let found : Found = c.found_at-found.result.now in
    let weave : WeaveFields = c.weave-weave.result.now in
    let bytes : List ℕ = c.items-bytes.result.now in
    let m : Machine = c.requires.holds.0 in
    let holds = c.requires.holds.1 in
    let here =
    site session m holds.machine store bytes c.in-Ok.place c.items-bytes.ensures (c.in-Ok.ensures m holds.stands holds.machine) found c.found_at-found.ensures c.kept_at.result.now c.kept_at.ensures weave c.weave-weave.ensures in
    let w : WindowFields = region_window m.settled here.region.found in
    let long : length bytes ≡ length store.bytes = ap (λ (xs : List ℕ). length xs) c.items-bytes.ensures in
    (m.settled, w, here.woven)

pub device_byte-first-requires-clause-from : goal.device_byte-first-requires-clause-from
device_byte-first-requires-clause-from g c =
    let session : SessionState = c.args.self.now in
    let store : Store = c.args.store.now in
    let found : Found = c.found_at-found.result.now in
    let weave : WeaveFields = c.weave-weave.result.now in
    let bytes : List ℕ = c.items-bytes.result.now in
    let m : Machine = c.requires.holds.0 in
    let holds = c.requires.holds.1 in
    let here =
    site session m holds.machine store bytes c.in-Ok.place c.items-bytes.ensures (c.in-Ok.ensures m holds.stands holds.machine) found c.found_at-found.ensures c.kept_at.result.now c.kept_at.ensures weave c.weave-weave.ensures in
    let w : WindowFields = region_window m.settled here.region.found in
    let long : length bytes ≡ length store.bytes = ap (λ (xs : List ℕ). length xs) c.items-bytes.ensures in
    here.from

pub put_one-requires : goal.put_one-requires
put_one-requires g c =
    let session : SessionState = c.args.self.now in
    let store : Store = c.args.store.now in
    let found : Found = c.found_at-found.result.now in
    let weave : WeaveFields = c.weave-weave.result.now in
    let bytes : List ℕ = c.items-bytes.result.now in
    let m : Machine = c.requires.holds.0 in
    let holds = c.requires.holds.1 in
    let here =
    site session m holds.machine store bytes c.in-Ok.place c.items-bytes.ensures (c.in-Ok.ensures m holds.stands holds.machine) found c.found_at-found.ensures c.kept_at.result.now c.kept_at.ensures weave c.weave-weave.ensures in
    let w : WindowFields = region_window m.settled here.region.found in
    let long : length bytes ≡ length store.bytes = ap (λ (xs : List ℕ). length xs) c.items-bytes.ensures in
    let offset : ℕ = store.h - found.base in
    let front : List ℕ = c.split_at.result.0.now in
    let back : List ℕ = c.split_at.result.1.now in
    let none : length back ≡ 0 = eqb-true (length back) 0 (sym c.is_empty.ensures ∙ c.if-is_empty.true) in
    let carries = c.device_byte-first.ensures m.settled w here.woven in
    c.parts_are_answers.ensures.within m.settled w found store.h c.device_byte-first.result.ep c.device_byte-first.result.dpa (length bytes) here.woven.system here.woven.region carries
    (omega (arith, long, c.requires.ranged.0)) (one_fits bytes front back offset c.first_part.result c.first_part.ensures c.split_at.ensures.front c.split_at.ensures.back none)

pub returns-then-is_empty-clause-answer : goal.returns-then-is_empty-clause-answer
returns-then-is_empty-clause-answer g c = λ m holds.
    let session : SessionState = c.args.self.now in
    let store : Store = c.args.store.now in
    let found : Found = c.found_at-found.result.now in
    let weave : WeaveFields = c.weave-weave.result.now in
    let bytes : List ℕ = c.items-bytes.result.now in
    let here =
    site session m holds.machine store bytes c.in-Ok.place c.items-bytes.ensures (c.in-Ok.ensures m holds.stands holds.machine) found c.found_at-found.ensures c.kept_at.result.now c.kept_at.ensures weave c.weave-weave.ensures in
    let w : WindowFields = region_window m.settled here.region.found in
    let long : length bytes ≡ length store.bytes = ap (λ (xs : List ℕ). length xs) c.items-bytes.ensures in
    let offset : ℕ = store.h - found.base in
    let front : List ℕ = c.split_at.result.0.now in
    let back : List ℕ = c.split_at.result.1.now in
    let none : length back ≡ 0 = eqb-true (length back) 0 (sym c.is_empty.ensures ∙ c.if-is_empty.true) in
    let carries = c.device_byte-first.ensures m.settled w here.woven in
    let within =
    c.parts_are_answers.ensures.within m.settled w found store.h c.device_byte-first.result.ep c.device_byte-first.result.dpa (length store.bytes) here.woven.system here.woven.region carries c.requires.ranged.0
    (let fits = one_fits bytes front back offset c.first_part.result c.first_part.ensures c.split_at.ensures.front c.split_at.ensures.back none in omega (arith, fits, long)) in
    let old : MediaState = g.M.Media.state c.args.media.now in
    let new : MediaState = g.M.Media.state c.put_one.new.media in
    let puts = subst (λ (xs : List ℕ). PutsOne c.device_byte-first.result.ep c.device_byte-first.result.dpa xs old new c.put_one.result) c.items-bytes.ensures c.put_one.ensures in
    store_written m store found weave here session new c.put_one.result
    (c.parts_are_answers.ensures.one session old new m store here.region c.device_byte-first.result.ep c.device_byte-first.result.dpa c.put_one.result holds here.there here.fits c.requires.ranged.2
    (region_carries m store found weave here store.h c.device_byte-first.result.ep c.device_byte-first.result.dpa carries) within puts)

pub overflow_add-store : goal.overflow_add-store
overflow_add-store g c =
    let session : SessionState = c.args.self.now in
    let store : Store = c.args.store.now in
    let found : Found = c.found_at-found.result.now in
    let weave : WeaveFields = c.weave-weave.result.now in
    let bytes : List ℕ = c.items-bytes.result.now in
    let m : Machine = c.requires.holds.0 in
    let holds = c.requires.holds.1 in
    let here =
    site session m holds.machine store bytes c.in-Ok.place c.items-bytes.ensures (c.in-Ok.ensures m holds.stands holds.machine) found c.found_at-found.ensures c.kept_at.result.now c.kept_at.ensures weave c.weave-weave.ensures in
    let w : WindowFields = region_window m.settled here.region.found in
    let long : length bytes ≡ length store.bytes = ap (λ (xs : List ℕ). length xs) c.items-bytes.ensures in
    let offset : ℕ = store.h - found.base in
    let front : List ℕ = c.split_at.result.0.now in
    let back : List ℕ = c.split_at.result.1.now in
    let some : 1 ≤ length back = let other = eqb-false (length back) 0 (sym c.is_empty.ensures ∙ c.if-is_empty.false) in omega (arith, other) in
    let both : length bytes ≡ length front + length back = ap (λ (xs : List ℕ). length xs) (cut_is bytes front back offset c.first_part.result c.first_part.ensures c.split_at.ensures.front c.split_at.ensures.back) ∙ length-append front back in
    let low = c.regions_lie_in_windows.ensures.low m.settled w found here.woven.system here.woven.region in
    let ends = here.ends in
    omega (arith, both, long, low, ends)

pub device_byte-second-requires-clause-region : goal.device_byte-second-requires-clause-region
device_byte-second-requires-clause-region g c =
    let session : SessionState = c.args.self.now in
    let store : Store = c.args.store.now in
    let found : Found = c.found_at-found.result.now in
    let weave : WeaveFields = c.weave-weave.result.now in
    let bytes : List ℕ = c.items-bytes.result.now in
    let m : Machine = c.requires.holds.0 in
    let holds = c.requires.holds.1 in
    let here =
    site session m holds.machine store bytes c.in-Ok.place c.items-bytes.ensures (c.in-Ok.ensures m holds.stands holds.machine) found c.found_at-found.ensures c.kept_at.result.now c.kept_at.ensures weave c.weave-weave.ensures in
    let w : WindowFields = region_window m.settled here.region.found in
    let long : length bytes ≡ length store.bytes = ap (λ (xs : List ℕ). length xs) c.items-bytes.ensures in
    (m.settled, w, here.woven)

pub put_two-requires-clause-front : goal.put_two-requires-clause-front
put_two-requires-clause-front g c =
    let session : SessionState = c.args.self.now in
    let store : Store = c.args.store.now in
    let found : Found = c.found_at-found.result.now in
    let weave : WeaveFields = c.weave-weave.result.now in
    let bytes : List ℕ = c.items-bytes.result.now in
    let m : Machine = c.requires.holds.0 in
    let holds = c.requires.holds.1 in
    let here =
    site session m holds.machine store bytes c.in-Ok.place c.items-bytes.ensures (c.in-Ok.ensures m holds.stands holds.machine) found c.found_at-found.ensures c.kept_at.result.now c.kept_at.ensures weave c.weave-weave.ensures in
    let w : WindowFields = region_window m.settled here.region.found in
    let long : length bytes ≡ length store.bytes = ap (λ (xs : List ℕ). length xs) c.items-bytes.ensures in
    let offset : ℕ = store.h - found.base in
    let front : List ℕ = c.split_at.result.0.now in
    let back : List ℕ = c.split_at.result.1.now in
    let some : 1 ≤ length back = let other = eqb-false (length back) 0 (sym c.is_empty.ensures ∙ c.if-is_empty.false) in omega (arith, other) in
    let carries = c.device_byte-first.ensures m.settled w here.woven in
    let ends = cut_ends bytes front back offset c.first_part.result c.first_part.ensures c.split_at.ensures.front c.split_at.ensures.back some in
    c.parts_are_answers.ensures.within m.settled w found store.h c.device_byte-first.result.ep c.device_byte-first.result.dpa (length front) here.woven.system here.woven.region carries
    (omega (arith, ends)) (omega (arith, ends))

pub put_two-requires-clause-back : goal.put_two-requires-clause-back
put_two-requires-clause-back g c =
    let session : SessionState = c.args.self.now in
    let store : Store = c.args.store.now in
    let found : Found = c.found_at-found.result.now in
    let weave : WeaveFields = c.weave-weave.result.now in
    let bytes : List ℕ = c.items-bytes.result.now in
    let m : Machine = c.requires.holds.0 in
    let holds = c.requires.holds.1 in
    let here =
    site session m holds.machine store bytes c.in-Ok.place c.items-bytes.ensures (c.in-Ok.ensures m holds.stands holds.machine) found c.found_at-found.ensures c.kept_at.result.now c.kept_at.ensures weave c.weave-weave.ensures in
    let w : WindowFields = region_window m.settled here.region.found in
    let long : length bytes ≡ length store.bytes = ap (λ (xs : List ℕ). length xs) c.items-bytes.ensures in
    let offset : ℕ = store.h - found.base in
    let front : List ℕ = c.split_at.result.0.now in
    let back : List ℕ = c.split_at.result.1.now in
    let some : 1 ≤ length back = let other = eqb-false (length back) 0 (sym c.is_empty.ensures ∙ c.if-is_empty.false) in omega (arith, other) in
    let further = c.device_byte-second.ensures m.settled w here.woven in
    let ends = cut_ends bytes front back offset c.first_part.result c.first_part.ensures c.split_at.ensures.front c.split_at.ensures.back some in
    let both : length bytes ≡ length front + length back = ap (λ (xs : List ℕ). length xs) (cut_is bytes front back offset c.first_part.result c.first_part.ensures c.split_at.ensures.front c.split_at.ensures.back) ∙ length-append front back in
    let from = here.from in
    c.parts_are_answers.ensures.within m.settled w found (store.h + length front) c.device_byte-second.result.ep c.device_byte-second.result.dpa (length back) here.woven.system here.woven.region further some
    (omega (arith, ends, from, both, long, c.requires.ranged.1))

pub put_two-requires-clause-apart : goal.put_two-requires-clause-apart
put_two-requires-clause-apart g c =
    let session : SessionState = c.args.self.now in
    let store : Store = c.args.store.now in
    let found : Found = c.found_at-found.result.now in
    let weave : WeaveFields = c.weave-weave.result.now in
    let bytes : List ℕ = c.items-bytes.result.now in
    let m : Machine = c.requires.holds.0 in
    let holds = c.requires.holds.1 in
    let here =
    site session m holds.machine store bytes c.in-Ok.place c.items-bytes.ensures (c.in-Ok.ensures m holds.stands holds.machine) found c.found_at-found.ensures c.kept_at.result.now c.kept_at.ensures weave c.weave-weave.ensures in
    let w : WindowFields = region_window m.settled here.region.found in
    let long : length bytes ≡ length store.bytes = ap (λ (xs : List ℕ). length xs) c.items-bytes.ensures in
    let offset : ℕ = store.h - found.base in
    let front : List ℕ = c.split_at.result.0.now in
    let back : List ℕ = c.split_at.result.1.now in
    let some : 1 ≤ length back = let other = eqb-false (length back) 0 (sym c.is_empty.ensures ∙ c.if-is_empty.false) in omega (arith, other) in
    let carries = c.device_byte-first.ensures m.settled w here.woven in
    let further = c.device_byte-second.ensures m.settled w here.woven in
    let ends = cut_ends bytes front back offset c.first_part.result c.first_part.ensures c.split_at.ensures.front c.split_at.ensures.back some in
    c.parts_are_answers.ensures.apart m.settled w found store.h (length front) c.device_byte-first.result.ep c.device_byte-first.result.dpa c.device_byte-second.result.ep c.device_byte-second.result.dpa
    here.woven.system here.woven.region carries further ends

pub returns-clause-answer : goal.returns-clause-answer
returns-clause-answer g c = λ m holds.
    let session : SessionState = c.args.self.now in
    let store : Store = c.args.store.now in
    let found : Found = c.found_at-found.result.now in
    let weave : WeaveFields = c.weave-weave.result.now in
    let bytes : List ℕ = c.items-bytes.result.now in
    let here =
    site session m holds.machine store bytes c.in-Ok.place c.items-bytes.ensures (c.in-Ok.ensures m holds.stands holds.machine) found c.found_at-found.ensures c.kept_at.result.now c.kept_at.ensures weave c.weave-weave.ensures in
    let w : WindowFields = region_window m.settled here.region.found in
    let long : length bytes ≡ length store.bytes = ap (λ (xs : List ℕ). length xs) c.items-bytes.ensures in
    let offset : ℕ = store.h - found.base in
    let front : List ℕ = c.split_at.result.0.now in
    let back : List ℕ = c.split_at.result.1.now in
    let some : 1 ≤ length back = let other = eqb-false (length back) 0 (sym c.is_empty.ensures ∙ c.if-is_empty.false) in omega (arith, other) in
    let carries = c.device_byte-first.ensures m.settled w here.woven in
    let further = c.device_byte-second.ensures m.settled w here.woven in
    let same : offset % 256 ≡ offset_in here.region store.h % 256 = ap (λ (f : Found). (store.h - f.base) % 256) here.same in
    let ends = cut_ends bytes front back offset c.first_part.result c.first_part.ensures c.split_at.ensures.front c.split_at.ensures.back some in
    let cut : store.bytes ≡ front ++ back = sym c.items-bytes.ensures ∙ cut_is bytes front back offset c.first_part.result c.first_part.ensures c.split_at.ensures.front c.split_at.ensures.back in
    let old : MediaState = g.M.Media.state c.args.media.now in
    let new : MediaState = g.M.Media.state c.put_two.new.media in
    store_written m store found weave here session new c.put_two.result
    (c.parts_are_answers.ensures.two session old new m store here.region c.device_byte-first.result.ep c.device_byte-first.result.dpa c.device_byte-second.result.ep c.device_byte-second.result.dpa front back
    c.put_two.result holds here.there here.fits c.requires.ranged.2 cut (sym (ap (λ (k : ℕ). k + length front) same) ∙ ends) some c.requires.ranged.1
    (region_carries m store found weave here store.h c.device_byte-first.result.ep c.device_byte-first.result.dpa carries)
    (region_carries m store found weave here (store.h + length front) c.device_byte-second.result.ep c.device_byte-second.result.dpa further) c.put_two.ensures)

pub found_at-found-requires : goal.found_at-found-requires
found_at-found-requires g c =
    let holds = c.requires.holds.1 in
    let within = c.in-Ok.ensures c.requires.holds.0 holds.stands holds.machine in
    found_within c.args.self.now c.requires.holds.0 c.in-Ok.place within.0 within.1

pub kept_at-requires : goal.kept_at-requires
kept_at-requires g c =
    let holds = c.requires.holds.1 in
    let within = c.in-Ok.ensures c.requires.holds.0 holds.stands holds.machine in
    kept_within c.args.self.now c.requires.holds.0 c.in-Ok.place within.0 within.1

pub device_byte-first-requires-clause-below : goal.device_byte-first-requires-clause-below
device_byte-first-requires-clause-below g c =
    let session : SessionState = c.args.self.now in
    let store : Store = c.args.store.now in
    let found : Found = c.found_at-found.result.now in
    let weave : WeaveFields = c.weave-weave.result.now in
    let bytes : List ℕ = c.items-bytes.result.now in
    let m : Machine = c.requires.holds.0 in
    let holds = c.requires.holds.1 in
    let here =
    site session m holds.machine store bytes c.in-Ok.place c.items-bytes.ensures (c.in-Ok.ensures m holds.stands holds.machine) found c.found_at-found.ensures c.kept_at.result.now c.kept_at.ensures weave c.weave-weave.ensures in
    let ends = here.ends in
    let some = c.requires.ranged.0 in
    omega (arith, ends, some)

pub device_byte-second-requires-clause-from : goal.device_byte-second-requires-clause-from
device_byte-second-requires-clause-from g c =
    let session : SessionState = c.args.self.now in
    let store : Store = c.args.store.now in
    let found : Found = c.found_at-found.result.now in
    let weave : WeaveFields = c.weave-weave.result.now in
    let bytes : List ℕ = c.items-bytes.result.now in
    let m : Machine = c.requires.holds.0 in
    let holds = c.requires.holds.1 in
    let here =
    site session m holds.machine store bytes c.in-Ok.place c.items-bytes.ensures (c.in-Ok.ensures m holds.stands holds.machine) found c.found_at-found.ensures c.kept_at.result.now c.kept_at.ensures weave c.weave-weave.ensures in
    let from = here.from in
    omega (arith, from)

pub device_byte-second-requires-clause-below : goal.device_byte-second-requires-clause-below
device_byte-second-requires-clause-below g c =
    let session : SessionState = c.args.self.now in
    let store : Store = c.args.store.now in
    let found : Found = c.found_at-found.result.now in
    let weave : WeaveFields = c.weave-weave.result.now in
    let bytes : List ℕ = c.items-bytes.result.now in
    let m : Machine = c.requires.holds.0 in
    let holds = c.requires.holds.1 in
    let here =
    site session m holds.machine store bytes c.in-Ok.place c.items-bytes.ensures (c.in-Ok.ensures m holds.stands holds.machine) found c.found_at-found.ensures c.kept_at.result.now c.kept_at.ensures weave c.weave-weave.ensures in
    let long : length bytes ≡ length store.bytes = ap (λ (xs : List ℕ). length xs) c.items-bytes.ensures in
    let offset : ℕ = store.h - found.base in
    let front : List ℕ = c.split_at.result.0.now in
    let back : List ℕ = c.split_at.result.1.now in
    let some : 1 ≤ length back = let other = eqb-false (length back) 0 (sym c.is_empty.ensures ∙ c.if-is_empty.false) in omega (arith, other) in
    let both : length bytes ≡ length front + length back = ap (λ (xs : List ℕ). length xs) (cut_is bytes front back offset c.first_part.result c.first_part.ensures c.split_at.ensures.front c.split_at.ensures.back) ∙ length-append front back in
    let ends = here.ends in
    omega (arith, some, both, long, ends)

pub returns-then-is_empty-clause-refused : goal.returns-then-is_empty-clause-refused
returns-then-is_empty-clause-refused g c = refused_one _ _ _ _ _ _ c.put_one.ensures

pub returns-clause-refused : goal.returns-clause-refused
returns-clause-refused g c = refused_two _ _ _ _ _ _ _ _ _ c.put_two.ensures
