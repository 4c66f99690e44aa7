use Rattle.std.proofs.Common.{◌≡◌, ℕ, [], Some, Vec, Global, length}
use Rattle.std.specs.Prelude.{slice_get}
use Rattle.cxl_walk.specs.declared.own.Own.{Own}
use Rattle.cxl_walk.proofs.gathering.none_gathered.Given as goal

abbrev pub invariant-loop-found : goal.invariant-loop-found
invariant-loop-found l = record {
  long : length l.owns.items ≡ l.found-index;
  empty : (k : ℕ) (own : Vec Own Global) → slice_get l.owns.items k ≡ Some own → own.items ≡ [];
}
