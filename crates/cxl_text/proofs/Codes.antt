-- What a reply's text needs, its short text needs.
use Rattle.std.proofs.Common.{List}
use Rattle.cxl_topo.specs.declared.node.Node.{Node}
use Rattle.cxl_reply.specs.declared.reply.Reply.{Reply}
use Rattle.cxl_reply.specs.declared.reply.Reply.TheVariants as replies
use Rattle.cxl_reply.specs.Conditions.{IsTold, HasKnownCode}

pub known_code : (nodes : List Node) (reply : Reply) → IsTold nodes reply → HasKnownCode reply
known_code nodes (replies.Created named) told = told
known_code nodes _ told = tt
