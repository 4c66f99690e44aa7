-- The first of the frames given back is taken, zeroed, and one is made where there is none.
use Rattle.std.proofs.Common.{◌≡◌, ℕ, ◌<◌, ◌-◌, length, ap, ◌∙◌, Some, set, subst, arith, rules}
use Rattle.cxl_media.specs.Pool.{Frames, IsFree}
use Rattle.cxl_media.specs.Inside.{pool_of}
use Rattle.cxl_media.proofs.Steps.{take_pool, take_free, take_frames, take_within}
use Rattle.cxl_media.proofs.Untaken.{free_made, set_of, set_pool, made_of, made_free, made_pool}
use Rattle.cxl_media.proofs.pool.Pool.take.Goals as goal

-- a frame is made

fewer : (c : goal.After-push_reserved) → length c.self.inside.frames.items < c.self.inside.total
fewer c = omega (arith, c.if-len-self.false, c.len.ensures, c.self.inside.frames.ok.0, c.self.invariant.some)

number_is : (c : goal.After-push_reserved) → length c.self.inside.frames.items ≡ c.len-number.result
number_is c = omega (arith, c.len-number.ensures, c.self.inside.frames.ok.0)

pub invariant_of-self : goal.invariant_of-self
invariant_of-self c =
    rw (c.push_reserved.ensures.items, c.push_reserved.ensures.capacity) (made_pool _ _ _ _ _ c.zeroed.result c.if-self-eq0.true (fewer c) c.self.invariant)

pub returns-then-self-eq0-clause-was_free : goal.returns-then-self-eq0-clause-was_free
returns-then-self-eq0-clause-was_free c =
    subst (λ (pool : Frames). IsFree pool c.len-number.result) c.self.view_is
    (subst (λ (n : ℕ). IsFree (pool_of c.self.inside.frames.items c.self.inside.given c.self.inside.first c.self.inside.total) n) (number_is c)
    (made_free _ _ _ _ _ c.zeroed.result c.if-self-eq0.true (fewer c) c.self.invariant))

pub returns-then-self-eq0-clause-taken : goal.returns-then-self-eq0-clause-taken
returns-then-self-eq0-clause-taken c =
    ap (λ fs. pool_of fs c.self.inside.given c.self.inside.first c.self.inside.total) c.push_reserved.ensures.items
    ∙ made_of _ _ _ _ _ c.zeroed.result c.if-self-eq0.true (fewer c) c.self.invariant
    ∙ ap (λ pool. set pool (length c.self.inside.frames.items) (Some c.zeroed.result)) c.self.view_is
    ∙ ap (λ n. set c.args.self.now n (Some c.zeroed.result)) (number_is c)
    ∙ ap (λ w. set c.args.self.now c.len-number.result (Some w)) c.zeroed.ensures

-- one that was given back is taken

pub invariant_of-self-2 : goal.invariant_of-self-2
invariant_of-self-2 c =
    set_pool _ _ _ _ _ c.self.invariant c.self.inside.first c.zero.new.bytes (c.self.inside.given - 1) c.next-after.result
    (take_pool c.self.inside.frames.items c.self.inside.given c.self.inside.first c.next-after.result c.zero.new.bytes c.index.result.now c.if-self-eq0.false c.index.ensures c.next-after.ensures c.self.invariant.made)

pub returns-clause-was_free : goal.returns-clause-was_free
returns-clause-was_free c =
    subst (λ (pool : Frames). IsFree pool c.self.inside.first) c.self.view_is
    (free_made _ _ _ _ _ c.self.invariant c.self.inside.first
    (take_free c.self.inside.frames.items c.self.inside.given c.self.inside.first c.next-after.result c.zero.new.bytes c.index.result.now c.if-self-eq0.false c.index.ensures c.next-after.ensures c.self.invariant.made))

pub returns-clause-taken : goal.returns-clause-taken
returns-clause-taken c =
    let within = take_within c.self.inside.frames.items c.self.inside.given c.self.inside.first c.next-after.result c.zero.new.bytes c.index.result.now c.if-self-eq0.false c.index.ensures c.next-after.ensures c.self.invariant.made in
    set_of _ _ _ _ _ c.self.invariant c.self.inside.first c.zero.new.bytes (c.self.inside.given - 1) c.next-after.result (Some c.zero.new.bytes) within
    (take_frames c.self.inside.frames.items c.self.inside.given c.self.inside.first c.next-after.result c.zero.new.bytes c.index.result.now c.if-self-eq0.false c.index.ensures c.next-after.ensures c.self.invariant.made)
    ∙ ap (λ pool. set pool c.self.inside.first (Some c.zero.new.bytes)) c.self.view_is
    ∙ ap (λ w. set c.args.self.now c.self.inside.first (Some w)) c.zero.ensures

pub returns-then-len-self-clause-none : goal.returns-then-len-self-clause-none
returns-then-len-self-clause-none c = search rules
