-- How a run ends, whatever it was asked: what is written where memory ran out, and outcomes that are fixed.
use Rattle.std.proofs.Common.{◌≡◌, ◌⊎◌, false, List, ℕ, subst, inl, inr}
use Rattle.cxl_table.specs.CedtFields.{CedtFields}
use Rattle.cxl_inputs.specs.Ends.{IsWritten, IsCutShort, Ends}
use Rattle.cxl_inputs.specs.Host.{host_of}
use Rattle.cxl_inputs.specs.Host as hosts
use Rattle.cxl_inputs.specs.Outcome.{Outcome}
use Rattle.cxl_inputs.specs.ResetHost.{reset_host_of}
use Rattle.cxl_inputs.specs.ResetHost as resets
use Rattle.cxl_inputs.specs.Table as tables
use Rattle.cxl_inputs.specs.declared.status.Status.{Status}
use Rattle.cxl_inputs.specs.declared.status.Status.TheVariants.{Memory}
use Rattle.cxl_model.specs.System.{System}
use Rattle.cxl_regs.specs.Registers.{Registers}
use Rattle.cxl_script.specs.declared.command.Create.{Create}
use Rattle.cxl_topo.specs.Tree.{Tree}
use Rattle.cxl_commands.specs.Answers.{IsOutcomeByFiles, IsTableAnswer, IsResetAnswer, IsHostAnswer, IsPlainAnswer}
use Rattle.cxl_commands.specs.Form.{Form, OfTable, OfResetHost, OfHost, OfWords, has_many_pieces, takes_memory}
use Rattle.cxl_commands.specs.Outside.{Outside}
use Rattle.cxl_commands.specs.RunByFiles.{RunsOut, before, behind, IsRunByFiles, writes, is_cut, runs_out}
use Rattle.cxl_commands.specs.commands.Plan.{IsPlanned, plan_told, refusal_told}
use Rattle.cxl_commands.specs.commands.Route.{IsRouted, to_bridge, nowhere}
use Rattle.cxl_commands.specs.commands.RefusedStart.{IsRefusedStart, breach_told, many_told}
use Rattle.cxl_commands.specs.declared.form.HostAsk.{HostAsk}
use Rattle.cxl_commands.specs.declared.form.HostAsk.TheVariants as host_asks
use Rattle.cxl_commands.specs.declared.form.ResetAsk.{ResetAsk}
use Rattle.cxl_commands.specs.declared.form.ResetAsk.TheVariants as reset_asks
use Rattle.cxl_commands.specs.declared.form.TableAsk.{TableAsk}
use Rattle.cxl_commands.specs.declared.form.TableAsk.TheVariants as table_asks
use Rattle.cxl_commands.specs.declared.form.WordsAsk.{WordsAsk}
use Rattle.cxl_commands.specs.declared.form.WordsAsk.TheVariants as plain_asks
use Rattle.cxl_commands.proofs.Pieces.{IsOnePiece, nothing_taken, nothing_of, no_table_is_one, no_reset_host_is_one, no_host_is_one}
use Rattle.cxl_commands.proofs.Runs.{Came, memory_left}

-- ---- what is told in one piece

one_of_route : (table : CedtFields) (h : ℕ) (outcome : Outcome) → IsRouted table h outcome → IsOnePiece outcome
one_of_route table h outcome (to_bridge s selected e) = record { status = _; text = _; is = e }
one_of_route table h outcome (nowhere none e) = record { status = _; text = _; is = e }

one_of_table : (cedt : List ℕ) (ask : TableAsk) (table : CedtFields) (outcome : Outcome) → has_many_pieces (OfTable cedt ask) ≡ false → IsTableAnswer ask table outcome → IsOnePiece outcome
one_of_table cedt (table_asks.Route h) table outcome one answer = one_of_route table h outcome answer
one_of_table cedt table_asks.Listing table outcome one answer = absurd (cc)
one_of_table cedt table_asks.Normal table outcome one answer = record { status = _; text = _; is = answer }

one_of_plan : (s : System) (create : Create) (outcome : Outcome) → IsPlanned s create outcome → IsOnePiece outcome
one_of_plan s create outcome (plan_told plan is e) = record { status = _; text = _; is = e }
one_of_plan s create outcome (refusal_told reply is e) = record { status = _; text = _; is = e }

one_of_reset_host : (ask : ResetAsk) (table : CedtFields) (tree : Tree) (outcome : Outcome) → IsResetAnswer ask table tree outcome → IsOnePiece outcome
one_of_reset_host (reset_asks.Plan create) table tree outcome answer = one_of_plan (reset_host_of table tree) create outcome answer
one_of_reset_host reset_asks.Script table tree outcome answer = absurd answer

one_of_start : (s : System) (outcome : Outcome) → IsRefusedStart s outcome → IsOnePiece outcome
one_of_start s outcome (breach_told rule node decoder first e) = record { status = _; text = _; is = e }
one_of_start s outcome (many_told regions is listed many e) = record { status = _; text = _; is = e }

one_of_host : (cedt topo image : List ℕ) (ask : HostAsk) (table : CedtFields) (tree : Tree) (blocks : List Registers) (outcome : Outcome) → has_many_pieces (OfHost cedt topo image ask) ≡ false → IsHostAnswer ask table tree blocks outcome → IsOnePiece outcome
one_of_host cedt topo image host_asks.Check table tree blocks outcome one answer = absurd (cc)
one_of_host cedt topo image host_asks.Script table tree blocks outcome one answer = one_of_start (host_of table tree blocks) outcome answer

one_of_words : (ask : WordsAsk) (outcome : Outcome) → IsPlainAnswer ask outcome → IsOnePiece outcome
one_of_words plain_asks.NoCreate outcome e = record { status = _; text = _; is = e }
one_of_words plain_asks.Help outcome e = record { status = _; text = _; is = e }
one_of_words plain_asks.Version outcome e = record { status = _; text = _; is = e }
one_of_words plain_asks.Unreadable outcome e = record { status = _; text = _; is = e }
one_of_words (plain_asks.Gen n) outcome none = absurd none

module _ (old new : Outside) where
  one_piece_answers : (form : Form) (outcome : Outcome) → has_many_pieces form ≡ false → IsOutcomeByFiles form old.files new.files outcome → IsOnePiece outcome
  one_piece_answers (OfTable cedt ask) outcome one (tables.no_table none) = no_table_is_one old.files new.files cedt outcome none
  one_piece_answers (OfTable cedt ask) outcome one (tables.by_table table of answer) = one_of_table cedt ask table outcome one answer.1
  one_piece_answers (OfResetHost cedt topo ask) outcome one (resets.no_reset_host none) = no_reset_host_is_one old.files new.files cedt topo outcome none
  one_piece_answers (OfResetHost cedt topo ask) outcome one (resets.by_reset_host table tree of answer) = one_of_reset_host ask table tree outcome answer.1
  one_piece_answers (OfHost cedt topo image ask) outcome one (hosts.no_host none) = no_host_is_one old.files new.files cedt topo image outcome none
  one_piece_answers (OfHost cedt topo image ask) outcome one (hosts.by_host table tree blocks of answer) = one_of_host cedt topo image ask table tree blocks outcome one answer.1
  one_piece_answers (OfWords ask) outcome one answers = one_of_words ask outcome answers.0

  pub memory_writes : (form : Form) → has_many_pieces form ≡ false → RunsOut form old new → new.out.taken ≡ old.out.taken
  memory_writes form one (before out none) = nothing_taken old.out new.out none.taken
  memory_writes form one (behind outcome answers unfailed lines) = nothing_of old.out new.out outcome (one_piece_answers form outcome one answers) lines

  -- ---- forms whose outcome is fixed

  pub fixed_ends : (form : Form) (fixed : Outcome) (status : Status) → takes_memory form ≡ false → ((o : Outcome) → IsOutcomeByFiles form old.files new.files o → o ≡ fixed) → IsRunByFiles form old new status → Ends fixed status old.out new.out
  fixed_ends form fixed status none one (writes outcome answers written) = inl (subst (λ o. IsWritten o status old.out new.out) (one outcome answers) written)
  fixed_ends form fixed status none one (is_cut outcome answers is) = inr (subst (λ o. IsCutShort o status old.out new.out) (one outcome answers) is)
  fixed_ends form fixed status none one (runs_out takes is left) = absurd (cc)

  -- a form whose outcome is fixed, and that may want for memory
  pub fixed_or_memory : (form : Form) (fixed : Outcome) (status : Status) → ((o : Outcome) → IsOutcomeByFiles form old.files new.files o → o ≡ fixed) → IsRunByFiles form old new status → (status ≡ Memory) ⊎ Ends fixed status old.out new.out
  fixed_or_memory form fixed status one (writes outcome answers written) = inr (inl (subst (λ o. IsWritten o status old.out new.out) (one outcome answers) written))
  fixed_or_memory form fixed status one (is_cut outcome answers is) = inr (inr (subst (λ o. IsCutShort o status old.out new.out) (one outcome answers) is))
  fixed_or_memory form fixed status one (runs_out takes is left) = inl is

  pub ends_or_memory : (form : Form) (status : Status) → IsRunByFiles form old new status → (status ≡ Memory) ⊎ ((outcome : Outcome) × IsOutcomeByFiles form old.files new.files outcome × Ends outcome status old.out new.out)
  ends_or_memory form status (writes outcome answers written) = inr (outcome, answers, inl written)
  ends_or_memory form status (is_cut outcome answers is) = inr (outcome, answers, inr is)
  ends_or_memory form status (runs_out takes is left) = inl is

  pub no_memory_left : (form : Form) → takes_memory form ≡ false → Came old new form Memory → ⊥
  no_memory_left form none came = let some = (memory_left old new form came).0 in cc
