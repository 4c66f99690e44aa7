use Rattle.std.proofs.Common.{ℕ, ◌/◌, ◌*◌, ◌%◌, ◌^◌, sym, ap, ◌∙◌, arith}
use Rattle.std.proofs.lemmas.Nat.{and_mask}
use Rattle.cxl_regs.proofs.TargetLists.{bytes_as_bits, past_list, listed_at}
use Rattle.cxl_regs.proofs.decoder.Decoder.entry_at.Goals as goal

pub returns-then-entry-ge8-clause-port : goal.returns-then-entry-ge8-clause-port
returns-then-entry-ge8-clause-port c = sym (past_list c.args.self.now.tail c.args.entry (omega arith) (omega arith))

pub returns-then-entry-ge8-clause-listed : goal.returns-then-entry-ge8-clause-listed
returns-then-entry-ge8-clause-listed c = λ below.
    listed_at c.args.self.now c.args.entry 0 below (sym (past_list c.args.self.now.tail c.args.entry (omega arith) (omega arith)))

pub returns-clause-port : goal.returns-clause-port
returns-clause-port c =
    let tail = c.args.self.now.tail in
    and_mask (tail / 2 ^ (8 * c.args.entry)) 8 ∙ ap (λ (p : ℕ). tail / p % 256) (bytes_as_bits c.args.entry)

pub returns-clause-listed : goal.returns-clause-listed
returns-clause-listed c = λ below.
    let tail = c.args.self.now.tail in
    listed_at c.args.self.now c.args.entry _ below (and_mask (tail / 2 ^ (8 * c.args.entry)) 8 ∙ ap (λ (p : ℕ). tail / p % 256) (bytes_as_bits c.args.entry))
