use Rattle.cxl_text.proofs.Codes.{known_code}
use Rattle.cxl_text.proofs.text.put_reply.Goals as goal

pub short-requires : goal.short-requires
short-requires c = known_code c.args.topo.now.nodes c.args.reply.now c.requires
