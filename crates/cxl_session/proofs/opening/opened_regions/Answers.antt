use Rattle.std.proofs.Common.{◌≡◌, ◌<◌, ◌≤◌, ℕ, List, length, map, sym, ap, subst, ◌∙◌, arith}
use Rattle.std.specs.Prelude.{All, AllPairs}
use Rattle.std.specs.List.{range_with_len}
use Rattle.cxl_machine.specs.Sound.{auto_name}
use Rattle.cxl_model.specs.Listed.{region_limit}
use Rattle.cxl_model.specs.declared.found.Found.{Found}
use Rattle.cxl_model.specs.Regions.{IsRegion}
use Rattle.cxl_model.specs.System.{system_of}
use Rattle.cxl_opening.specs.Opened.{AreRoutesOf}
use Rattle.cxl_opening.proofs.Errors.{not_ok}
use Rattle.cxl_session.proofs.opening.opened_regions.Goals as goal

pub auto_names-requires : goal.auto_names-requires
auto_names-requires c =
    let len = c.len.ensures in
    let size = c.args.founds.ok.0 in
    let few = c.requires.few in
    omega (arith, len, size, few)

pub routes_of-requires : goal.routes_of-requires
routes_of-requires c = record {
  caps = c.requires.caps;
  made = c.requires.made;
  regions = subst (All (IsRegion (system_of c.args.image.now c.args.topo.now c.args.windows.now))) (sym c.deref.ensures.value) c.requires.regions;
  rising = subst (AllPairs (λ (a b : Found). a.base < b.base)) (sym c.deref.ensures.value) c.requires.rising;
  few = subst (λ (founds : List Found). length founds ≤ region_limit) (sym c.deref.ensures.value) c.requires.few;
}

pub new-requires : goal.new-requires
new-requires c = c.requires.few

pub returns-clause-founds : goal.returns-clause-founds
returns-clause-founds c = c.in_ok-founds.ensures

pub returns-clause-names : goal.returns-clause-names
returns-clause-names c =
    let len = c.len.ensures in
    let size = c.args.founds.ok.0 in
    let count : c.len.result ≡ length c.args.founds.items = omega (arith, len, size) in
    c.in_ok-names.ensures.names ∙ ap (λ (n : ℕ). map auto_name (range_with_len 0 n)) count

pub returns-clause-routes : goal.returns-clause-routes
returns-clause-routes c =
    subst (λ (founds : List Found). AreRoutesOf (system_of c.args.image.now c.args.topo.now c.args.windows.now) founds c.in_ok-kepts.kepts.items) c.deref.ensures.value c.in_ok-kepts.ensures.routes

pub returns-clause-room : goal.returns-clause-room
returns-clause-room c = (c.in_ok-names.ensures.room, c.in_ok-kepts.ensures.room)

pub returns-in_err-names-clause-founds : goal.returns-in_err-names-clause-founds
returns-in_err-names-clause-founds c = not_ok _ c.from_residual.result _ c.from_residual.ensures.1

pub returns-in_err-names-clause-names : goal.returns-in_err-names-clause-names
returns-in_err-names-clause-names c = not_ok _ c.from_residual.result _ c.from_residual.ensures.1

pub returns-in_err-names-clause-routes : goal.returns-in_err-names-clause-routes
returns-in_err-names-clause-routes c = not_ok _ c.from_residual.result _ c.from_residual.ensures.1

pub returns-in_err-names-clause-room : goal.returns-in_err-names-clause-room
returns-in_err-names-clause-room c = not_ok _ c.from_residual.result _ c.from_residual.ensures.1

pub returns-in_err-kepts-clause-founds : goal.returns-in_err-kepts-clause-founds
returns-in_err-kepts-clause-founds c = not_ok _ c.from_residual-in_err-kepts.result _ c.from_residual-in_err-kepts.ensures.1

pub returns-in_err-kepts-clause-names : goal.returns-in_err-kepts-clause-names
returns-in_err-kepts-clause-names c = not_ok _ c.from_residual-in_err-kepts.result _ c.from_residual-in_err-kepts.ensures.1

pub returns-in_err-kepts-clause-routes : goal.returns-in_err-kepts-clause-routes
returns-in_err-kepts-clause-routes c = not_ok _ c.from_residual-in_err-kepts.result _ c.from_residual-in_err-kepts.ensures.1

pub returns-in_err-kepts-clause-room : goal.returns-in_err-kepts-clause-room
returns-in_err-kepts-clause-room c = not_ok _ c.from_residual-in_err-kepts.result _ c.from_residual-in_err-kepts.ensures.1

pub returns-in_err-founds-clause-founds : goal.returns-in_err-founds-clause-founds
returns-in_err-founds-clause-founds c = not_ok _ c.from_residual-in_err-founds.result _ c.from_residual-in_err-founds.ensures.1

pub returns-in_err-founds-clause-names : goal.returns-in_err-founds-clause-names
returns-in_err-founds-clause-names c = not_ok _ c.from_residual-in_err-founds.result _ c.from_residual-in_err-founds.ensures.1

pub returns-in_err-founds-clause-routes : goal.returns-in_err-founds-clause-routes
returns-in_err-founds-clause-routes c = not_ok _ c.from_residual-in_err-founds.result _ c.from_residual-in_err-founds.ensures.1

pub returns-in_err-founds-clause-room : goal.returns-in_err-founds-clause-room
returns-in_err-founds-clause-room c = not_ok _ c.from_residual-in_err-founds.result _ c.from_residual-in_err-founds.ensures.1
