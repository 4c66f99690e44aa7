use Rattle.cxl_model.proofs.Carrying.{is_weave, weave_is, shares, ends_with_turns}
use Rattle.cxl_model.proofs.regions.weaves_fill_their_regions.Goals as goal

pub returns-clause-kept : goal.returns-clause-kept
returns-clause-kept c = λ s w found system is. is_weave s w found system (record { tree = system.tree; laws = c.tree_laws.ensures.laws s.nodes system.tree }) is

pub returns-clause-ways : goal.returns-clause-ways
returns-clause-ways c = λ s w found system is. weave_is s w found system (record { tree = system.tree; laws = c.tree_laws.ensures.laws s.nodes system.tree }) is

pub returns-clause-shares : goal.returns-clause-shares
returns-clause-shares c = λ s w found system is. (shares (record { shares = c.spans_are_whole.ensures.shares; length_aligned = c.spans_are_whole.ensures.length_aligned }) s w found system is).all

pub returns-clause-turns : goal.returns-clause-turns
returns-clause-turns c = λ s w found system is.
    ends_with_turns s w found system (record { tree = system.tree; laws = c.tree_laws.ensures.laws s.nodes system.tree }) is
    (shares (record { shares = c.spans_are_whole.ensures.shares; length_aligned = c.spans_are_whole.ensures.length_aligned }) s w found system is)
