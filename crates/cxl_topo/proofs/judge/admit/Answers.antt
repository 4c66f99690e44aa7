use Rattle.std.proofs.Common.{refl, sym, ◌∙◌, length, take, arith}
use Rattle.std.proofs.lemmas.List.{length-take}
use Rattle.std.proofs.lemmas.Result.{err_from_is_err_and}
use Rattle.cxl_topo.proofs.ChildPlaces.{few, free_port, parent_within}
use Rattle.cxl_topo.proofs.Judged.{holds, passes, none_lacks}
use Rattle.cxl_topo.proofs.judge.admit.Goals as goal

pub slice_bounds-earlier-end : goal.slice_bounds-earlier-end
slice_bounds-earlier-end c = omega (arith, c.requires.below, length-take c.args.i c.args.nodes.now)

pub returns-then-lacks_parent : goal.returns-then-lacks_parent
returns-then-lacks_parent c = record {
  tables = tt;
  none = tt;
  fault = λ _.
      holds _ _ (sym c.lacks_parent.ensures ∙ c.if-lacks_parent.true);
}

pub returns-then-has_taken_port : goal.returns-then-has_taken_port
returns-then-has_taken_port c = record {
  tables = tt;
  none = tt;
  fault = λ _.
      passes _ _ (sym c.lacks_parent.ensures ∙ c.if-lacks_parent.false) (
      holds _ _ (sym (c.has_taken_port.ensures (length c.args.nodes.now) (take c.args.i c.args.nodes.now) c.requires.tables.children (few c.args.nodes.now c.args.i c.requires.below) (sym c.lacks_parent.ensures ∙ c.if-lacks_parent.false)) ∙ c.if-has_taken_port.true));
}

pub forks-requires : goal.forks-requires
forks-requires c = sym c.lacks_parent.ensures ∙ c.if-lacks_parent.false

pub returns-then-forks : goal.returns-then-forks
returns-then-forks c = record {
  tables = tt;
  none = tt;
  fault = λ _.
      passes _ _ (sym c.lacks_parent.ensures ∙ c.if-lacks_parent.false) (
      passes _ _ (sym (c.has_taken_port.ensures (length c.args.nodes.now) (take c.args.i c.args.nodes.now) c.requires.tables.children (few c.args.nodes.now c.args.i c.requires.below) (sym c.lacks_parent.ensures ∙ c.if-lacks_parent.false)) ∙ c.if-has_taken_port.false) (
      holds _ _ (sym (c.forks.ensures (length c.args.nodes.now) c.requires.tables.children (few c.args.nodes.now c.args.i c.requires.below)) ∙ c.if-forks.true)));
}

pub enter_name-requires : goal.enter_name-requires
enter_name-requires c = record { below = c.requires.below; here = c.requires.here; listed = c.requires.tables.names }

pub returns-in_err-name_taken : goal.returns-in_err-name_taken
returns-in_err-name_taken c =
    let p = err_from_is_err_and c.from_residual.result c.from_residual.ensures.1 in
    rw p.1 (record { tables = tt; none = tt; fault = λ other. absurd (other p.2) })

pub returns-then-name_taken : goal.returns-then-name_taken
returns-then-name_taken c = record {
  tables = tt;
  none = tt;
  fault = λ _.
      passes _ _ (sym c.lacks_parent.ensures ∙ c.if-lacks_parent.false) (
      passes _ _ (sym (c.has_taken_port.ensures (length c.args.nodes.now) (take c.args.i c.args.nodes.now) c.requires.tables.children (few c.args.nodes.now c.args.i c.requires.below) (sym c.lacks_parent.ensures ∙ c.if-lacks_parent.false)) ∙ c.if-has_taken_port.false) (
      passes _ _ (sym (c.forks.ensures (length c.args.nodes.now) c.requires.tables.children (few c.args.nodes.now c.args.i c.requires.below)) ∙ c.if-forks.false) (
      holds _ _ (sym c.in_ok-name_taken.ensures.taken ∙ c.if-name_taken.true))));
}

pub returns-then-has_taken_uid : goal.returns-then-has_taken_uid
returns-then-has_taken_uid c = record {
  tables = tt;
  none = tt;
  fault = λ _.
      passes _ _ (sym c.lacks_parent.ensures ∙ c.if-lacks_parent.false) (
      passes _ _ (sym (c.has_taken_port.ensures (length c.args.nodes.now) (take c.args.i c.args.nodes.now) c.requires.tables.children (few c.args.nodes.now c.args.i c.requires.below) (sym c.lacks_parent.ensures ∙ c.if-lacks_parent.false)) ∙ c.if-has_taken_port.false) (
      passes _ _ (sym (c.forks.ensures (length c.args.nodes.now) c.requires.tables.children (few c.args.nodes.now c.args.i c.requires.below)) ∙ c.if-forks.false) (
      passes _ _ (sym c.in_ok-name_taken.ensures.taken ∙ c.if-name_taken.false) (
      holds _ _ (sym (c.has_taken_uid.ensures (take c.args.i c.args.nodes.now) c.requires.tables.bridges) ∙ c.if-has_taken_uid.true)))));
}

pub is_too_deep-requires : goal.is_too_deep-requires
is_too_deep-requires c = record {
  below = c.requires.below;
  few = c.requires.few;
  sound = none_lacks c.args.nodes.now c.args.i c.args.node.now c.requires.here c.requires.earlier (sym c.lacks_parent.ensures ∙ c.if-lacks_parent.false);
  here = c.requires.here;
}

pub returns-then-is_too_deep : goal.returns-then-is_too_deep
returns-then-is_too_deep c = record {
  tables = tt;
  none = tt;
  fault = λ _.
      passes _ _ (sym c.lacks_parent.ensures ∙ c.if-lacks_parent.false) (
      passes _ _ (sym (c.has_taken_port.ensures (length c.args.nodes.now) (take c.args.i c.args.nodes.now) c.requires.tables.children (few c.args.nodes.now c.args.i c.requires.below) (sym c.lacks_parent.ensures ∙ c.if-lacks_parent.false)) ∙ c.if-has_taken_port.false) (
      passes _ _ (sym (c.forks.ensures (length c.args.nodes.now) c.requires.tables.children (few c.args.nodes.now c.args.i c.requires.below)) ∙ c.if-forks.false) (
      passes _ _ (sym c.in_ok-name_taken.ensures.taken ∙ c.if-name_taken.false) (
      passes _ _ (sym (c.has_taken_uid.ensures (take c.args.i c.args.nodes.now) c.requires.tables.bridges) ∙ c.if-has_taken_uid.false) (
      holds _ _ (sym c.is_too_deep.ensures ∙ c.if-is_too_deep.true))))));
}

pub returns-then-has_wrong_caps : goal.returns-then-has_wrong_caps
returns-then-has_wrong_caps c = record {
  tables = tt;
  none = tt;
  fault = λ _.
      passes _ _ (sym c.lacks_parent.ensures ∙ c.if-lacks_parent.false) (
      passes _ _ (sym (c.has_taken_port.ensures (length c.args.nodes.now) (take c.args.i c.args.nodes.now) c.requires.tables.children (few c.args.nodes.now c.args.i c.requires.below) (sym c.lacks_parent.ensures ∙ c.if-lacks_parent.false)) ∙ c.if-has_taken_port.false) (
      passes _ _ (sym (c.forks.ensures (length c.args.nodes.now) c.requires.tables.children (few c.args.nodes.now c.args.i c.requires.below)) ∙ c.if-forks.false) (
      passes _ _ (sym c.in_ok-name_taken.ensures.taken ∙ c.if-name_taken.false) (
      passes _ _ (sym (c.has_taken_uid.ensures (take c.args.i c.args.nodes.now) c.requires.tables.bridges) ∙ c.if-has_taken_uid.false) (
      passes _ _ (sym c.is_too_deep.ensures ∙ c.if-is_too_deep.false) (
      holds _ _ (sym c.has_wrong_caps.ensures ∙ c.if-has_wrong_caps.true)))))));
}

pub returns-then-has_wrong_capacity : goal.returns-then-has_wrong_capacity
returns-then-has_wrong_capacity c = record {
  tables = tt;
  none = tt;
  fault = λ _.
      passes _ _ (sym c.lacks_parent.ensures ∙ c.if-lacks_parent.false) (
      passes _ _ (sym (c.has_taken_port.ensures (length c.args.nodes.now) (take c.args.i c.args.nodes.now) c.requires.tables.children (few c.args.nodes.now c.args.i c.requires.below) (sym c.lacks_parent.ensures ∙ c.if-lacks_parent.false)) ∙ c.if-has_taken_port.false) (
      passes _ _ (sym (c.forks.ensures (length c.args.nodes.now) c.requires.tables.children (few c.args.nodes.now c.args.i c.requires.below)) ∙ c.if-forks.false) (
      passes _ _ (sym c.in_ok-name_taken.ensures.taken ∙ c.if-name_taken.false) (
      passes _ _ (sym (c.has_taken_uid.ensures (take c.args.i c.args.nodes.now) c.requires.tables.bridges) ∙ c.if-has_taken_uid.false) (
      passes _ _ (sym c.is_too_deep.ensures ∙ c.if-is_too_deep.false) (
      passes _ _ (sym c.has_wrong_caps.ensures ∙ c.if-has_wrong_caps.false) (
      holds _ _ (sym c.has_wrong_capacity.ensures ∙ c.if-has_wrong_capacity.true))))))));
}

pub add-requires : goal.add-requires
add-requires c = record {
  below = c.requires.below;
  within = parent_within c.args.nodes.now c.args.i c.args.node.now c.requires.here (sym c.lacks_parent.ensures ∙ c.if-lacks_parent.false);
  free = free_port c.args.nodes.now c.args.i c.args.node.now c.requires.here (sym (c.has_taken_port.ensures (length c.args.nodes.now) (take c.args.i c.args.nodes.now) c.requires.tables.children (few c.args.nodes.now c.args.i c.requires.below) (sym c.lacks_parent.ensures ∙ c.if-lacks_parent.false)) ∙ c.if-has_taken_port.false);
  children = c.requires.tables.children;
  names = c.in_ok-name_taken.ensures.entered c.if-name_taken.false;
  bridges = c.requires.tables.bridges;
  uids = c.requires.tables.uids;
}

pub returns-in_err-add : goal.returns-in_err-add
returns-in_err-add c =
    let p = err_from_is_err_and c.from_residual-in_err-add.result c.from_residual-in_err-add.ensures.1 in
    rw p.1 (record { tables = tt; none = tt; fault = λ other. absurd (other p.2) })

pub returns : goal.returns
returns c = record {
  tables = c.in_ok-add.ensures;
  fault = tt;
  none =
      passes _ _ (sym c.lacks_parent.ensures ∙ c.if-lacks_parent.false) (
      passes _ _ (sym (c.has_taken_port.ensures (length c.args.nodes.now) (take c.args.i c.args.nodes.now) c.requires.tables.children (few c.args.nodes.now c.args.i c.requires.below) (sym c.lacks_parent.ensures ∙ c.if-lacks_parent.false)) ∙ c.if-has_taken_port.false) (
      passes _ _ (sym (c.forks.ensures (length c.args.nodes.now) c.requires.tables.children (few c.args.nodes.now c.args.i c.requires.below)) ∙ c.if-forks.false) (
      passes _ _ (sym c.in_ok-name_taken.ensures.taken ∙ c.if-name_taken.false) (
      passes _ _ (sym (c.has_taken_uid.ensures (take c.args.i c.args.nodes.now) c.requires.tables.bridges) ∙ c.if-has_taken_uid.false) (
      passes _ _ (sym c.is_too_deep.ensures ∙ c.if-is_too_deep.false) (
      passes _ _ (sym c.has_wrong_caps.ensures ∙ c.if-has_wrong_caps.false) (
      passes _ _ (sym c.has_wrong_capacity.ensures ∙ c.if-has_wrong_capacity.false) (
      refl))))))));
}
