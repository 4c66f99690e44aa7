use Rattle.std.proofs.Common.{◌≡◌, ℕ, ◌≤◌, true, get_or, sym, subst, ◌∙◌, inl, inr, arith}
use Rattle.std.proofs.lemmas.Bool.{cases_eq}
use Rattle.cxl_topo.proofs.Trees.{KnownTree}
use Rattle.cxl_model.specs.Hosts.{as_system}
use Rattle.cxl_model.specs.System.{System}
use Rattle.cxl_pick.specs.inner.Gifts.{AreChildrenOf, is_known}
use Rattle.cxl_pick.proofs.Known.{child_at, all_known}
use Rattle.cxl_pick.proofs.asking.+ask.Goals as goal

pub ask-requires : goal.ask-requires
ask-requires t c =
    let s : System = as_system c.args.host.now in
    let known : KnownTree s.nodes = record { tree = c.requires.ready.system.tree; laws = c.tree_laws.ensures.laws s.nodes c.requires.ready.system.tree } in
    let own : AreChildrenOf s.nodes c.args.node c.as_slice-children.result.now = subst (AreChildrenOf s.nodes c.args.node) (sym c.as_slice-children.ensures.value) c.in_ok-own.ensures in
    let at = child_at s known c.args.node c.loop-child.child-index c.as_slice-children.result.now own c.loop-child-test.true in
    let later = at.0 in
    (omega (arith, later, c.decreases), (c.requires.ready, (c.requires.sound, (c.requires.count, (c.requires.highest, (at.1, (c.loop-child.invariant.0, c.loop-child.invariant.1)))))))

pub loop-child-preserved : goal.loop-child-preserved
loop-child-preserved t c = (
  c.in_ok-ask.ensures.gifts,
  c.in_ok-ask.ensures.asked,
  (λ n there. c.in_ok-ask.ensures.kept n (c.loop-child.invariant.2 n there)),
  (λ i less. elim (cases_eq i c.loop-child.child-index) [
    | inl same ↦ subst (λ (j : ℕ). is_known c.ask.new.gifts.known.items (get_or c.as_slice-children.result.now j 0) ≡ true) (sym same) c.in_ok-ask.ensures.here
    | inr other ↦ c.in_ok-ask.ensures.kept (get_or c.as_slice-children.result.now i 0) (c.loop-child.invariant.3 i (omega (arith, less, other)))
  ]),
)

pub returns-then-is_known : goal.returns-then-is_known
returns-then-is_known t c = record {
  gifts = c.requires.gifts;
  asked = c.requires.asked;
  kept = λ n there. there;
  here = sym c.is_known.ensures ∙ c.if-is_known.true;
}

pub note_endpoint-requires : goal.note_endpoint-requires
note_endpoint-requires t c = record {
  ready = c.requires.ready;
  sound = c.requires.sound;
  endpoint = sym c.is_endpoint.ensures ∙ c.if-is_endpoint.true;
  here = c.requires.here;
  gifts = c.requires.gifts;
  asked = c.requires.asked;
}

pub returns-then-is_endpoint : goal.returns-then-is_endpoint
returns-then-is_endpoint t c = record {
  gifts = c.note_endpoint.ensures.gifts;
  asked = c.note_endpoint.ensures.asked;
  kept = c.note_endpoint.ensures.kept;
  here = c.note_endpoint.ensures.here;
}

pub children_of-requires : goal.children_of-requires
children_of-requires t c = record {
  here = c.requires.here;
  highest = λ k parent is same. subst (λ (n : ℕ). parent.port ≤ get_or c.args.highest.now n 0) same (c.requires.highest k parent is);
}

pub note_port-requires : goal.note_port-requires
note_port-requires t c =
    let s : System = as_system c.args.host.now in
    let own : AreChildrenOf s.nodes c.args.node c.as_slice-children.result.now = subst (AreChildrenOf s.nodes c.args.node) (sym c.as_slice-children.ensures.value) c.in_ok-own.ensures in
    let past = c.loop-child-test.false in
    record {
      ready = c.requires.ready;
      sound = c.requires.sound;
      port = sym c.is_endpoint.ensures ∙ c.if-is_endpoint.false;
      here = c.requires.here;
      own = own;
      children = all_known s c.loop-child.gifts.known.items c.args.node c.as_slice-children.result.now own (λ i within. c.loop-child.invariant.3 i (omega (arith, within, past)));
      gifts = c.loop-child.invariant.0;
      asked = c.loop-child.invariant.1;
    }

pub returns : goal.returns
returns t c = record {
  gifts = c.note_port.ensures.gifts;
  asked = c.note_port.ensures.asked;
  kept = λ n there. c.note_port.ensures.kept n (c.loop-child.invariant.2 n there);
  here = c.note_port.ensures.here;
}
