-- What is kept of each frame stays, and the counter is the length.
use Rattle.std.proofs.Common.{◌≡◌, ℕ, ◌≤◌, length}
use Rattle.std.specs.Vec.{vec_capacity}
use Rattle.cxl_media.specs.Zones.{node_at}
use Rattle.cxl_media.proofs.zones.make.Given as goal

abbrev pub invariant-loop : goal.invariant-loop
invariant-loop l = record {
  same : (n : ℕ) → node_at l.nodes.items n ≡ node_at l.fn.nodes.items n;
  more : length l.fn.nodes.items ≤ length l.nodes.items;
  counted : length l.nodes.items ≡ l.counter;
  capacity : vec_capacity l.nodes ≡ vec_capacity l.fn.nodes;
}
