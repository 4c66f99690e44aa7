use Rattle.std.proofs.Common.{◌≡◌, ℕ, ◌+◌, Bool, cond, List, [], ◌∷◌, ◌++◌, length, sym, subst, ap, ◌∙◌, arith}
use Rattle.std.proofs.lemmas.List.{length-append}
use Rattle.cxl_model.specs.declared.found.Found.{Found}
use Rattle.cxl_live.specs.declared.ordering.BaseAt.{BaseAt}
use Rattle.cxl_live.specs.ByBase.{base_at, AreByBase}
use Rattle.cxl_live.proofs.Bases.{one_more}
use Rattle.cxl_live.proofs.regions.LiveRegions.push.Goals as goal

pub insert_by_base-requires-clause-room : goal.insert_by_base-requires-clause-room
insert_by_base-requires-clause-room c =
    let many = c.self.invariant.order.few in
    let same = ap length c.self.view_is in
    omega (arith, many, same, c.requires, c.self.invariant.bases_room)

pub invariant_of-self : goal.invariant_of-self
invariant_of-self c =
    let founds : List Found = c.self.inside.founds.items in
    let bases : List BaseAt = c.self.inside.bases.items in
    let entry : BaseAt = record { base = c.args.found.base; place = c.len-place.result } in
    let same : length founds ≡ length c.args.self.now = ap length c.self.view_is in
    let long = c.self.inside.founds.ok.0 in
    let room = c.self.invariant.founds_room in
    let fits = c.push-found.ensures.succeeds (omega (arith, long, same, c.requires, room)) in
    let items : c.push-found.new.self.items ≡ founds ++ c.args.found ∷ [] =
    c.push-found.ensures.items ∙ ap (λ (b : Bool). cond b (founds ++ c.args.found ∷ []) founds) fits in
    let last : entry ≡ base_at (length founds, c.args.found) =
    (let place : c.len-place.result ≡ length founds = omega (arith, c.len-place.ensures, long) in ap (λ (i : ℕ). base_at (i, c.args.found)) place) in
    let many : length c.push-found.new.self.items ≡ length founds + 1 = ap length items ∙ length-append founds (c.args.found ∷ []) in
    record {
      few = omega (arith, many, same, c.requires);
      founds_room = omega (arith, room, c.push-found.ensures.capacity);
      bases_room = omega (arith, c.self.invariant.bases_room, c.insert_by_base.ensures.capacity);
      order =
          subst (λ (fs : List Found). AreByBase fs c.insert_by_base.new.bases.items) (sym items)
          (one_more founds bases c.self.invariant.order c.args.found entry c.insert_by_base.new.bases.items last c.insert_by_base.ensures.same c.insert_by_base.ensures.rising);
    }
