use Rattle.std.proofs.Common.{◌≡◌, ℕ, List, [], Some, Vec, Global, length, length-append, sym, ap, subst, arith}
use Rattle.std.specs.Prelude.{slice_get}
use Rattle.cxl_walk.specs.declared.own.Own.{Own}
use Rattle.cxl_walk.proofs.Keepings.{one_more}
use Rattle.cxl_walk.proofs.gathering.none_gathered.Goals as goal

pub loop-found-preserved : goal.loop-found-preserved
loop-found-preserved c =
    let own : Vec Own Global = c.in_ok-own.own in
    let items = c.in_ok-push.ensures.items in
    let more = simp length-append at (ap length items) in
    record {
      long = omega (arith, more, c.loop-found.invariant.long);
      empty =
          subst (λ (xs : List (Vec Own Global)). (k : ℕ) (it : Vec Own Global) → slice_get xs k ≡ Some it → it.items ≡ []) (sym items)
          (one_more (λ (k : ℕ) (it : Vec Own Global). it.items ≡ []) c.loop-found.owns.items own c.loop-found.invariant.empty c.in_ok-own.ensures.items);
    }
