use Rattle.std.proofs.Common.{◌<◌, ◌≤◌, inl, inr, arith}
use Rattle.cxl_worked_machines.proofs.flat_examples.places_on_examples.Goals as goal

pub returns-clause-first : goal.returns-clause-first
returns-clause-first c = record { from = omega arith; below = omega arith; ends = omega arith }

pub returns-clause-whole : goal.returns-clause-whole
returns-clause-whole c = record { from = omega arith; below = omega arith; ends = omega arith }

pub returns-clause-last : goal.returns-clause-last
returns-clause-last c = record { from = omega arith; below = omega arith; ends = omega arith }

pub returns-clause-not_before : goal.returns-clause-not_before
returns-clause-not_before c lies = let from : 0x100000000 ≤ 0xffffffff = lies.from in omega (arith, from)

pub returns-clause-not_past : goal.returns-clause-not_past
returns-clause-not_past c lies = let ends : 0x120000001 ≤ 0x120000000 = lies.ends in omega (arith, ends)

pub returns-clause-not_behind : goal.returns-clause-not_behind
returns-clause-not_behind c lies = let below : 0x120000000 < 0x120000000 = lies.below in omega (arith, below)

pub returns-clause-beside_below : goal.returns-clause-beside_below
returns-clause-beside_below c = inl (omega arith)

pub returns-clause-beside_above : goal.returns-clause-beside_above
returns-clause-beside_above c = inr (omega arith)

pub returns-clause-not_beside_first : goal.returns-clause-not_beside_first
returns-clause-not_beside_first c beside = elim beside [ inl before ↦ omega (arith, before) | inr past ↦ omega (arith, past) ]

pub returns-clause-not_beside_last : goal.returns-clause-not_beside_last
returns-clause-not_beside_last c beside = elim beside [ inl before ↦ omega (arith, before) | inr past ↦ omega (arith, past) ]
