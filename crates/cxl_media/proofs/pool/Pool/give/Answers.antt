-- The frame becomes the first free one, and names the one that was.
use Rattle.std.proofs.Common.{ap, ◌∙◌, None, set, arith, add-one, ◌+◌}
use Rattle.cxl_media.specs.Inside.{frames_of}
use Rattle.cxl_media.proofs.Steps.{out_within, given_fits, given_pool, given_frames}
use Rattle.cxl_media.proofs.Untaken.{out_made, set_of, set_pool}
use Rattle.cxl_media.proofs.pool.Pool.give.Goals as goal

pub index_mut-requires : goal.index_mut-requires
index_mut-requires c =
    omega (arith, c.self.inside.frames.ok.0, out_within c.self.inside.frames.items c.self.inside.given c.self.inside.first c.frame.inside.number c.self.invariant.made (out_made _ _ _ _ _ c.self.invariant _ _ _ c.self.view_is c.frame.view_is c.requires))

pub overflow_add-self : goal.overflow_add-self
overflow_add-self c =
    let fits = given_fits c.self.inside.frames.items c.self.inside.given c.self.inside.first c.frame.inside.number c.link.new.bytes c.self.invariant.made (out_made _ _ _ _ _ c.self.invariant _ _ _ c.self.view_is c.frame.view_is c.requires) c.link.ensures in
    omega (arith, fits, c.self.invariant.made.few)

pub invariant_of-self : goal.invariant_of-self
invariant_of-self c =
    set_pool _ _ _ _ _ c.self.invariant c.frame.inside.number c.link.new.bytes (c.self.inside.given + 1) c.frame.inside.number
    (rw add-one (given_pool c.self.inside.frames.items c.self.inside.given c.self.inside.first c.frame.inside.number c.link.new.bytes c.self.invariant.made (out_made _ _ _ _ _ c.self.invariant _ _ _ c.self.view_is c.frame.view_is c.requires) c.link.ensures))

pub returns : goal.returns
returns c =
    let out = out_made _ _ _ _ _ c.self.invariant _ _ _ c.self.view_is c.frame.view_is c.requires in
    let within = out_within c.self.inside.frames.items c.self.inside.given c.self.inside.first c.frame.inside.number c.self.invariant.made out in
    set_of _ _ _ _ _ c.self.invariant c.frame.inside.number c.link.new.bytes (c.self.inside.given + 1) c.frame.inside.number None within
    (ap (λ n. frames_of (set c.self.inside.frames.items c.frame.inside.number c.link.new.bytes) n c.frame.inside.number) (add-one c.self.inside.given)
    ∙ given_frames c.self.inside.frames.items c.self.inside.given c.self.inside.first c.frame.inside.number c.link.new.bytes c.self.invariant.made out c.link.ensures)
    ∙ ap (λ pool. set pool c.frame.inside.number None) c.self.view_is
    ∙ ap (λ n. set c.args.self.now n None) c.frame.view_is
