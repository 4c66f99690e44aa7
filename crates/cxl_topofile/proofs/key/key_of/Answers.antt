-- A text is compared with the keys of its length alone.
use Rattle.std.proofs.Common.{◌==◌, length, sym, ap, ◌∙◌, arith}
use Rattle.cxl_topofile.specs.inner.Fields.{all_keys}
use Rattle.cxl_topofile.proofs.Lengths.{first_of_length, is_rare, rare}
use Rattle.cxl_topofile.proofs.key.key_of.Goals as goal

pub returns-in-3 : goal.returns-in-3
returns-in-3 c = c.first_key.ensures ∙ sym (first_of_length (λ n. n == 3) c.args.text.now all_keys (ap (λ n. n == 3) c.in-3.is))

pub returns-in-4 : goal.returns-in-4
returns-in-4 c = c.first_key-in-4.ensures ∙ sym (first_of_length (λ n. n == 4) c.args.text.now all_keys (ap (λ n. n == 4) c.in-4.is))

pub returns-in-6 : goal.returns-in-6
returns-in-6 c = c.first_key-in-6.ensures ∙ sym (first_of_length (λ n. n == 6) c.args.text.now all_keys (ap (λ n. n == 6) c.in-6.is))

pub returns-in-8 : goal.returns-in-8
returns-in-8 c = c.first_key-in-8.ensures ∙ sym (first_of_length (λ n. n == 8) c.args.text.now all_keys (ap (λ n. n == 8) c.in-8.is))

pub returns-in_default : goal.returns-in_default
returns-in_default c = c.first_key-in_default.ensures ∙ sym (first_of_length is_rare c.args.text.now all_keys (rare (length c.args.text.now) (omega arith) (omega arith) (omega arith) (omega arith)))
