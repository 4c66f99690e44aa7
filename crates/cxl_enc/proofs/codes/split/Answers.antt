use Rattle.std.proofs.Common.{rules}
use Rattle.cxl_enc.proofs.Tables.{factored}
use Rattle.cxl_enc.proofs.codes.split.Goals as goal

pub returns-then-ways-eq0-clause-product : goal.returns-then-ways-eq0-clause-product
returns-then-ways-eq0-clause-product c = (factored c.args.ways c.requires).product

pub returns-clause-product : goal.returns-clause-product
returns-clause-product c = (factored c.args.ways c.requires).product

pub returns-then-ways-eq0-clause-bits : goal.returns-then-ways-eq0-clause-bits
returns-then-ways-eq0-clause-bits c = search rules
