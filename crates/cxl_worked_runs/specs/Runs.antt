-- Worked sinks, sources and devices of runs: laws say how a script ends, and where no session opens.
use Rattle.std.specs.Prelude.{ℕ, true, false, List, [], ◌∷◌, ◌++◌, codes, Some}
use Rattle.std.specs.FinMap as map
use Rattle.cxl_regs.specs.Registers.{Registers, reset_block}
use Rattle.cxl_bus.specs.declared.sent.Sent.{Sent}
use Rattle.cxl_bus.specs.RegsState.{RegsState}
use Rattle.cxl_io.specs.Sink.{SinkState}
use Rattle.cxl_io.specs.Source.{SourceState}
use Rattle.cxl_media.specs.MediaState.{MediaState}
use Rattle.cxl_model.specs.System.{System}
use Rattle.cxl_worked.specs.Examples.{two_bridges_with, port_cap, endpoint_cap}
use Rattle.cxl_reply.specs.declared.reply.Reply.TheVariants as replies
use Rattle.cxl_machine.specs.Scripts.{Turn, lines_asked}
use Rattle.cxl_worked_machines.specs.Examples.{fresh, r0, enabled_endpoint, quiet_turn}
use Rattle.cxl_inputs.specs.declared.status.Status.{Status}
use Rattle.cxl_shell.specs.Devices.{Devices}
use Rattle.cxl_shell.specs.Endings.{EndsScript}
use Rattle.cxl_shell.specs.commands.Script.{FailsToOpen}

-- a sink that took these bytes, and the count of its faults
abbrev pub sink : List ℕ → ℕ → SinkState
sink bytes faults = record { taken = Some bytes; faults = faults; counts_failures_alone = true }

-- a script with these bytes left, and the count of its faults
abbrev pub source : List ℕ → ℕ → SourceState
source bytes faults = record { left = Some bytes; faults = faults; counts_failures_alone = true }

-- text with the byte that ends its line
abbrev pub ended : List ℕ → List ℕ
ended text = text ++ 10 ∷ []

-- ---- a script

-- a script of one line, which the machine without a region refuses
abbrev pub script : List ℕ
script = ended (codes "destroy r0")

-- its line
abbrev pub lines : List (List ℕ)
lines = codes "destroy r0" ∷ []

-- what its line is answered
abbrev pub refusal : Turn
refusal = quiet_turn fresh (replies.NoRegion r0)

-- the text of that answer
abbrev pub reply : List ℕ
reply = ended (codes "no such region r0")

-- its line was carried out, and it ends so: with the script then left, what the sink took, and the status
abbrev pub EndsWith : SourceState → SinkState → Status → Type 0
EndsWith left taken status = EndsScript fresh.settled.nodes (lines_asked lines) (refusal ∷ []) (source script 0) left (sink [] 0) taken status

-- ---- a host that does not open

-- two bridges with an endpoint each, after reset
abbrev pub reset_pair : System
reset_pair = two_bridges_with (reset_block port_cap false) (reset_block port_cap false) (reset_block endpoint_cap true) (reset_block endpoint_cap true)

-- its blocks where the first of its endpoints decodes
abbrev pub first_enabled : List Registers
first_enabled = reset_block port_cap false ∷ reset_block port_cap false ∷ enabled_endpoint ∷ reset_block endpoint_cap true ∷ []

-- its blocks where both endpoints decode
abbrev pub both_enabled : List Registers
both_enabled = reset_block port_cap false ∷ reset_block port_cap false ∷ enabled_endpoint ∷ enabled_endpoint ∷ []

-- the word by which an endpoint decodes
abbrev pub enables : ℕ → Sent
enables node = record { node = node; off = 4; value = 2 }

-- registers with these blocks, the words sent, behind how many of them calls failed, and the count of these
abbrev pub regs : List Registers → List Sent → List ℕ → ℕ → RegsState
regs blocks words places faults = record {
  blocks = blocks;
  trail = Some words;
  failed_at = Some places;
  faults = faults;
  counts_failures_alone = true;
}

-- device memory without a block, and so many free frames
abbrev pub no_blocks : ℕ → MediaState
no_blocks frames = record { blocks = map.empty; free = frames }

-- registers and device memory beside a script that is not read
abbrev pub beside_script : RegsState → MediaState → Devices
beside_script registers media = record { script = source script 0; regs = registers; media = media }

-- registers and device memory before a run
abbrev pub unread : Devices
unread = beside_script (regs [] [] [] 0) (no_blocks 0)

-- over two frames no session opened on that host: registers, device memory and the sink are left so, with this status
abbrev pub FailsWith : RegsState → MediaState → SinkState → Status → Type 0
FailsWith registers media taken status = FailsToOpen reset_pair 2 unread (beside_script registers media) (sink [] 0) taken status
