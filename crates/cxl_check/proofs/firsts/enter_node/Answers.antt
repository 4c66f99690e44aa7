use Rattle.std.proofs.Common.{◌≡◌, ℕ, ◌+◌, ◌&&◌, Bool, true, false, refl, sym, ◌∙◌, arith, Some, None, if◌then◌else◌}
use Rattle.std.specs.Option.{option_or}
use Rattle.std.specs.Prelude.{slice_get}
use Rattle.std.proofs.lemmas.Option.{slice_get_past}
use Rattle.std.proofs.lemmas.Result.{on_ok_weaker}
use Rattle.std.specs.List.{list_any}
use Rattle.cxl_topo.specs.Tree.{is_endpoint_at}
use Rattle.cxl_regs.specs.Reading.{has_range}
use Rattle.cxl_model.specs.Hosts.{as_system}
use Rattle.cxl_model.specs.System.{System}
use Rattle.cxl_model.specs.Ranges.{serves}
use Rattle.cxl_check.specs.inner.Firsts.{range_at, first_below}
use Rattle.cxl_regs.specs.declared.reading.Range.{Range}
use Rattle.cxl_check.proofs.Numbers.{find_more, or_none}
use Rattle.cxl_check.proofs.firsts.enter_node.Goals as goal
use Rattle.cxl_check.proofs.firsts.enter_node.Goals.{then-not-is_endpoint-via-then-not-is_endpoint, then-not-is_endpoint-via-else-not-is_endpoint+then-node-count}

-- what the next node adds
next : (s : System) (r : Range) (n : ℕ) (b : Bool) → (is_endpoint_at s.nodes n && serves s r n) ≡ b → first_below s (n + 1) r ≡ option_or (first_below s n r) (if b then Some n else None)
next s r n b is = find_more (λ m. is_endpoint_at s.nodes m && serves s r m) n ∙ rw is refl

and_false : (b : Bool) → (b && false) ≡ false
and_false true = refl
and_false false = refl

pub returns-then-not-is_endpoint : goal.returns-then-not-is_endpoint
returns-then-not-is_endpoint c key =
    let s = as_system c.args.host.now in
    let r = range_at key in
    let none : (is_endpoint_at s.nodes c.args.node && serves s r c.args.node) ≡ false =
    elim c.then-not-is_endpoint.branch [
      | then-not-is_endpoint-via-then-not-is_endpoint w ↦ let port : is_endpoint_at s.nodes c.args.node ≡ false = sym c.is_endpoint.ensures ∙ w.if-not-is_endpoint.true in rw port refl
      | then-not-is_endpoint-via-else-not-is_endpoint+then-node-count w ↦
          let past : slice_get c.args.host.now.image.now c.args.node ≡ None = slice_get_past c.args.host.now.image.now c.args.node (omega (arith, w.count.ensures.count, w.if-node-count.true)) in
          rw past (and_false (is_endpoint_at s.nodes c.args.node))
    ] in
    c.requires.listed key ∙ sym (next s r c.args.node false none ∙ or_none (first_below s c.args.node r))

pub returns : goal.returns
returns c =
    let s = as_system c.args.host.now in
    let endpoint : is_endpoint_at s.nodes c.args.node ≡ true = sym c.is_endpoint.ensures ∙ c.if-not-is_endpoint.false in
    on_ok_weaker c.enter_ranges.result
    (λ entered key.
    entered key ∙ rw (c.requires.listed key) refl ∙ sym (next s (range_at key) c.args.node (list_any (has_range (range_at key)) c.block.result.now.decoders) (rw (endpoint, c.block.ensures.value) refl)))
    c.enter_ranges.ensures
