use Rattle.std.proofs.Common.{◌≡◌, ℕ, ap, ◌∙◌, Some, List, length, set, refl, sym, arith}
use Rattle.std.proofs.lemmas.List.{get_or_read}
use Rattle.cxl_media.specs.Pool.{frame_bytes}
use Rattle.cxl_media.specs.Inside.{pool_of}
use Rattle.cxl_media.proofs.Steps.{out_within, out_bytes, written_pool, written_frames}
use Rattle.cxl_media.proofs.Untaken.{out_made, bytes_of, set_of, set_pool}
use Rattle.cxl_media.proofs.pool.Pool.bytes_mut.Goals as goal

same_some : (x y : List ℕ) → Some x ≡ Some y → x ≡ y
same_some x y e = cc

pub index_mut-requires : goal.index_mut-requires
index_mut-requires c =
    omega (arith, c.self.inside.frames.ok.0, out_within c.self.inside.frames.items c.self.inside.given c.self.inside.first c.frame.inside.number c.self.invariant.made (out_made _ _ _ _ _ c.self.invariant _ _ _ c.self.view_is c.frame.view_is c.requires))

pub invariant_of-self-lent : goal.invariant_of-self-lent
invariant_of-self-lent c w =
    set_pool _ _ _ _ _ c.self.invariant c.frame.inside.number w c.self.inside.given c.self.inside.first
    (written_pool c.self.inside.frames.items c.self.inside.given c.self.inside.first c.frame.inside.number c.self.invariant.made (out_made _ _ _ _ _ c.self.invariant _ _ _ c.self.view_is c.frame.view_is c.requires) w)

pub returns : goal.returns
returns c =
    let frames = c.self.inside.frames.items in
    let out = out_made _ _ _ _ _ c.self.invariant _ _ _ c.self.view_is c.frame.view_is c.requires in
    let within = out_within frames c.self.inside.given c.self.inside.first c.frame.inside.number c.self.invariant.made out in
    let written : (w : List ℕ) → pool_of (set frames c.frame.inside.number w) c.self.inside.given c.self.inside.first c.self.inside.total ≡ set (pool_of frames c.self.inside.given c.self.inside.first c.self.inside.total) c.frame.inside.number (Some w) =
    λ w. set_of _ _ _ _ _ c.self.invariant c.frame.inside.number w c.self.inside.given c.self.inside.first (Some w) within (written_frames frames c.self.inside.given c.self.inside.first c.frame.inside.number c.self.invariant.made out w) in
    let value : frame_bytes c.args.self.now c.args.frame.now ≡ Some c.as_mut_slice.result.now =
    ap (λ pool. frame_bytes pool c.args.frame.now) (sym c.self.view_is)
    ∙ ap (frame_bytes _) (sym c.frame.view_is)
    ∙ bytes_of _ _ _ _ _ c.self.invariant c.frame.inside.number within
    ∙ out_bytes frames c.self.inside.given c.self.inside.first c.frame.inside.number c.self.invariant.made out
    ∙ ap Some (sym (c.as_mut_slice.ensures.value ∙ get_or_read frames c.frame.inside.number c.index_mut.result.now within c.index_mut.ensures.value _)) in (
      (refl, λ w. written w ∙ ap (λ pool. set pool c.frame.inside.number (Some w)) c.self.view_is ∙ ap (λ n. set c.args.self.now n (Some w)) c.frame.view_is),
      record {
        writes_back = tt;
        value = value;
        length = ap length (same_some _ _ (sym value ∙ ap (λ pool. frame_bytes pool c.args.frame.now) (sym c.self.view_is) ∙ c.bytes.ensures.value)) ∙ c.bytes.ensures.length;
      },
    )
