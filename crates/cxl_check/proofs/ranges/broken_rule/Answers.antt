use Rattle.std.proofs.Common.{◌≡◌, ℕ, ◌<◌, false, sym, ◌∙◌, arith}
use Rattle.cxl_model.specs.Hosts.{as_system}
use Rattle.cxl_model.specs.Accepted.{breaks}
use Rattle.cxl_check.proofs.RuleTests.{kept_more, broken_here, all_rules}
use Rattle.cxl_check.proofs.ranges.broken_rule.Goals as goal

pub returns-then-not-keeps_window : goal.returns-then-not-keeps_window
returns-then-not-keeps_window c =
    let s = as_system c.args.host.now in
    let n = c.args.node in
    let i = c.args.i in
    let d = c.args.d.now in
    let below_9 : (lower : ℕ) → lower < 9 → breaks s lower n i ≡ false = λ lower below. c.requires.ready.blocks lower n i below in
    record {
      broken = broken_here s 9 (omega arith) (omega arith) n i d c.requires.committed.there c.requires.committed.committed (sym c.keeps_window.ensures ∙ c.if-not-keeps_window.true);
      rules = below_9;
    }

pub returns-then-not-keeps_targets : goal.returns-then-not-keeps_targets
returns-then-not-keeps_targets c =
    let s = as_system c.args.host.now in
    let n = c.args.node in
    let i = c.args.i in
    let d = c.args.d.now in
    let below_9 : (lower : ℕ) → lower < 9 → breaks s lower n i ≡ false = λ lower below. c.requires.ready.blocks lower n i below in
    let below_10 : (lower : ℕ) → lower < 10 → breaks s lower n i ≡ false =
    kept_more s 9 (omega arith) (omega arith) n i d c.requires.committed.there below_9 (sym c.keeps_window.ensures ∙ c.if-not-keeps_window.false) in
    record {
      broken = broken_here s 10 (omega arith) (omega arith) n i d c.requires.committed.there c.requires.committed.committed (sym c.keeps_targets.ensures ∙ c.if-not-keeps_targets.true);
      rules = below_10;
    }

pub returns-then-not-keeps_reach : goal.returns-then-not-keeps_reach
returns-then-not-keeps_reach c =
    let s = as_system c.args.host.now in
    let n = c.args.node in
    let i = c.args.i in
    let d = c.args.d.now in
    let below_9 : (lower : ℕ) → lower < 9 → breaks s lower n i ≡ false = λ lower below. c.requires.ready.blocks lower n i below in
    let below_10 : (lower : ℕ) → lower < 10 → breaks s lower n i ≡ false =
    kept_more s 9 (omega arith) (omega arith) n i d c.requires.committed.there below_9 (sym c.keeps_window.ensures ∙ c.if-not-keeps_window.false) in
    let below_11 : (lower : ℕ) → lower < 11 → breaks s lower n i ≡ false =
    kept_more s 10 (omega arith) (omega arith) n i d c.requires.committed.there below_10 (sym c.keeps_targets.ensures ∙ c.if-not-keeps_targets.false) in
    record {
      broken = broken_here s 11 (omega arith) (omega arith) n i d c.requires.committed.there c.requires.committed.committed (sym c.keeps_reach.ensures ∙ c.if-not-keeps_reach.true);
      rules = below_11;
    }

pub returns-then-not-keeps_ways : goal.returns-then-not-keeps_ways
returns-then-not-keeps_ways c =
    let s = as_system c.args.host.now in
    let n = c.args.node in
    let i = c.args.i in
    let d = c.args.d.now in
    let below_9 : (lower : ℕ) → lower < 9 → breaks s lower n i ≡ false = λ lower below. c.requires.ready.blocks lower n i below in
    let below_10 : (lower : ℕ) → lower < 10 → breaks s lower n i ≡ false =
    kept_more s 9 (omega arith) (omega arith) n i d c.requires.committed.there below_9 (sym c.keeps_window.ensures ∙ c.if-not-keeps_window.false) in
    let below_11 : (lower : ℕ) → lower < 11 → breaks s lower n i ≡ false =
    kept_more s 10 (omega arith) (omega arith) n i d c.requires.committed.there below_10 (sym c.keeps_targets.ensures ∙ c.if-not-keeps_targets.false) in
    let below_12 : (lower : ℕ) → lower < 12 → breaks s lower n i ≡ false =
    kept_more s 11 (omega arith) (omega arith) n i d c.requires.committed.there below_11 (sym c.keeps_reach.ensures ∙ c.if-not-keeps_reach.false) in
    record {
      broken = broken_here s 12 (omega arith) (omega arith) n i d c.requires.committed.there c.requires.committed.committed (sym c.keeps_ways.ensures ∙ c.if-not-keeps_ways.true);
      rules = below_12;
    }

pub returns : goal.returns
returns c =
    let s = as_system c.args.host.now in
    let n = c.args.node in
    let i = c.args.i in
    let d = c.args.d.now in
    let below_9 : (lower : ℕ) → lower < 9 → breaks s lower n i ≡ false = λ lower below. c.requires.ready.blocks lower n i below in
    let below_10 : (lower : ℕ) → lower < 10 → breaks s lower n i ≡ false =
    kept_more s 9 (omega arith) (omega arith) n i d c.requires.committed.there below_9 (sym c.keeps_window.ensures ∙ c.if-not-keeps_window.false) in
    let below_11 : (lower : ℕ) → lower < 11 → breaks s lower n i ≡ false =
    kept_more s 10 (omega arith) (omega arith) n i d c.requires.committed.there below_10 (sym c.keeps_targets.ensures ∙ c.if-not-keeps_targets.false) in
    let below_12 : (lower : ℕ) → lower < 12 → breaks s lower n i ≡ false =
    kept_more s 11 (omega arith) (omega arith) n i d c.requires.committed.there below_11 (sym c.keeps_reach.ensures ∙ c.if-not-keeps_reach.false) in
    let below_13 : (lower : ℕ) → lower < 13 → breaks s lower n i ≡ false =
    kept_more s 12 (omega arith) (omega arith) n i d c.requires.committed.there below_12 (sym c.keeps_ways.ensures ∙ c.if-not-keeps_ways.false) in
    all_rules s c.requires.ready n i (λ rule from to. below_13 rule to)
