-- What the decoders of the used nodes would have in any window.
use Rattle.std.specs.Prelude.{◌≡◌, ℕ, ◌==◌, List, length, slice_get, slice_index_or, Some}
use Rattle.cxl_enc.specs.Codes.{bits_of}
use Rattle.cxl_topo.specs.declared.node.Node.{Node}
use Rattle.cxl_topo.specs.Tree.{is_endpoint_at}
use Rattle.cxl_model.specs.declared.request.Request.{Request}
use Rattle.cxl_legal.specs.Endpoints.{cap_at}
use Rattle.cxl_plan.specs.declared.stages.Stage.{Stage}
use Rattle.cxl_plan.specs.inner.Uses.{tree_alone, ways_at, bits_above_at}

-- of node n
abbrev pub stage_at : List Node → Request → ℕ → Stage
stage_at nodes request n = record {
  cap = cap_at (tree_alone nodes) n;
  endpoint = is_endpoint_at nodes n;
  single = ways_at nodes request n == 1;
  bits = bits_of (ways_at nodes request n);
  above = bits_above_at nodes request n;
}

-- of each of the used nodes
pub record AreStages (nodes : List Node) (request : Request) (used : List ℕ) (stages : List Stage) : Type 0 where
  pub count : length stages ≡ length used
  pub each : (k : ℕ) (stage : Stage) → slice_get stages k ≡ Some stage → stage ≡ stage_at nodes request (slice_index_or used k 0)
