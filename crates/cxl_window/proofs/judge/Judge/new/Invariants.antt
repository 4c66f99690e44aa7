use Rattle.std.proofs.Common.{take}
use Rattle.std.specs.Option.{option_copied}
use Rattle.cxl_window.specs.Judging.{IsJudgeOf}
use Rattle.cxl_window.proofs.judge.Judge.new.Given as goal

-- of the records so far
abbrev pub invariant-loop-record : goal.invariant-loop-record
invariant-loop-record l = IsJudgeOf l.judge (take l.record-index l.records) (option_copied l.uids)
