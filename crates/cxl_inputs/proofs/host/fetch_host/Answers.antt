use Rattle.std.proofs.Common.{[], ◌∷◌, List, ℕ, Err, ap, ◌∙◌, sym, subst}
use Rattle.std.proofs.lemmas.Result.{IfOk-from_err, IfOk-weaker, IfErr-weaker, on_ok_weaker, err_from_is_err_and}
use Rattle.cxl_io.specs.Told.{Told}
use Rattle.cxl_inputs.specs.File.{RunsOutBehind}
use Rattle.cxl_inputs.specs.Host.{HasNoHost, no_image}
use Rattle.cxl_inputs.specs.Image.{HasNoImage, IsImageOf}
use Rattle.cxl_inputs.specs.ResetHost.{HasNoResetHost}
use Rattle.cxl_inputs.specs.Topology.{IsTreeOf}
use Rattle.cxl_inputs.proofs.Hosts.{asks_behind, host_behind, image_behind, first_of_three, third_of_three}
use Rattle.cxl_inputs.proofs.Stops.{stop-weaker, stopped-behind, unfailed_twice}
use Rattle.cxl_inputs.proofs.host.fetch_host.Goals as goal

pub returns-in_err-table-clause-read : goal.returns-in_err-table-clause-read
returns-in_err-table-clause-read g c = IfOk-from_err c.from_residual.result _ c.from_residual.ensures.0

pub returns-in_err-table-clause-system : goal.returns-in_err-table-clause-system
returns-in_err-table-clause-system g c = IfOk-from_err c.from_residual.result _ c.from_residual.ensures.0

pub returns-in_err-table-clause-asked : goal.returns-in_err-table-clause-asked
returns-in_err-table-clause-asked g c = IfOk-from_err c.from_residual.result _ c.from_residual.ensures.0

pub returns-in_err-table-clause-unfailed : goal.returns-in_err-table-clause-unfailed
returns-in_err-table-clause-unfailed g c = IfOk-from_err c.from_residual.result _ c.from_residual.ensures.0

pub returns-in_err-table-clause-stops : goal.returns-in_err-table-clause-stops
returns-in_err-table-clause-stops g c =
    let p = err_from_is_err_and c.from_residual.result c.from_residual.ensures.1 in
    let cedt = c.args.cedt.now in
    let topo = c.args.topo.now in
    let image = c.args.image.now in
    let old = g.F.Fetch.state c.args.files.now in
    let new = g.F.Fetch.state c.fetch_both.new.files in
    stopped-behind (HasNoResetHost cedt topo old new) (HasNoHost cedt topo image old new)
    (RunsOutBehind (cedt ∷ topo ∷ []) old new) (RunsOutBehind (cedt ∷ topo ∷ image ∷ []) old new) c.from_residual.result _ (p.1 ∙ ap Err p.2)
    (λ o none. host_behind cedt topo image old new o none)
    (first_of_three cedt topo image old new) c.in_err-table.ensures.stops

pub returns-clause-read : goal.returns-clause-read
returns-clause-read g c =
    let both = c.in_ok-table.ensures in
    IfOk-weaker c.fetch_over-host.result _ _ (λ host is. (
      c.in_ok-table.table,
      record {
        of_table = both.read.of_table;
        of_tree = rw (sym is.0) at both.read.of_tree;
        of_image = subst (λ (t : List ℕ → Told). IsImageOf (t c.args.image.now) host.topo.nodes host.image) both.stays is.1;
      },
      is.2,
    )) c.fetch_over-host.ensures.read

pub returns-clause-system : goal.returns-clause-system
returns-clause-system g c = c.fetch_over-host.ensures.system

pub returns-clause-asked : goal.returns-clause-asked
returns-clause-asked g c =
    let old = g.F.Fetch.state c.args.files.now in
    let mid = g.F.Fetch.state c.fetch_both.new.files in
    let new = g.F.Fetch.state c.fetch_over-host.new.files in
    let both = c.in_ok-table.ensures in
    on_ok_weaker c.fetch_over-host.result
    (asks_behind old mid new (c.args.cedt.now ∷ c.args.topo.now ∷ []) both.asked both.stays both.counts (c.args.image.now ∷ [])) c.fetch_over-host.ensures.asked

pub returns-clause-unfailed : goal.returns-clause-unfailed
returns-clause-unfailed g c =
    let old = g.F.Fetch.state c.args.files.now in
    let mid = g.F.Fetch.state c.fetch_both.new.files in
    let new = g.F.Fetch.state c.fetch_over-host.new.files in
    on_ok_weaker c.fetch_over-host.result (unfailed_twice old mid new c.in_ok-table.ensures.unfailed) c.fetch_over-host.ensures.unfailed

pub returns-clause-stops : goal.returns-clause-stops
returns-clause-stops g c =
    let cedt = c.args.cedt.now in
    let topo = c.args.topo.now in
    let image = c.args.image.now in
    let nodes = c.in_ok-table.topo.nodes in
    let old = g.F.Fetch.state c.args.files.now in
    let mid = g.F.Fetch.state c.fetch_both.new.files in
    let new = g.F.Fetch.state c.fetch_over-host.new.files in
    let both = c.in_ok-table.ensures in
    IfErr-weaker c.fetch_over-host.result _ _
    (λ reason. stop-weaker (HasNoImage [] image nodes mid new) (HasNoHost cedt topo image old new)
    (RunsOutBehind (image ∷ []) mid new) (RunsOutBehind (cedt ∷ topo ∷ image ∷ []) old new) reason
    (λ o none. no_image c.in_ok-table.table c.in_ok-table.topo both.read.of_table both.read.of_tree
    (image_behind old mid new (cedt ∷ topo ∷ []) both.asked both.stays both.counts image nodes o none))
    (third_of_three cedt topo image old mid new both.asked both.unfailed both.stays both.counts)) c.fetch_over-host.ensures.stops
