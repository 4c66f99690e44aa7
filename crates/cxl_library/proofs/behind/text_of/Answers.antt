use Rattle.std.proofs.Common.{List, sym, subst}
use Rattle.std.specs.Prelude.{IfOk}
use Rattle.cxl_image.specs.File.{IsImageFile}
use Rattle.cxl_machine.specs.Machine.{image_of}
use Rattle.cxl_regs.specs.Registers.{Registers}
use Rattle.cxl_topo.specs.declared.node.Node.{Node}
use Rattle.cxl_library.specs.Behind.{IsTextOf}
use Rattle.cxl_library.specs.declared.behind.HeldText.{HeldText}
use Rattle.cxl_library.proofs.behind.text_of.Goals as goal

pub returns-in-Words : goal.returns-in-Words
returns-in-Words c = λ m at.
    subst (λ (of : HeldText). IfOk c.words_text.result (λ text. IsTextOf of m c.args.held.now.regs.trail text.items)) (sym c.in-Words.is) c.words_text.ensures

pub returns-in-Image : goal.returns-in-Image
returns-in-Image c = λ m at.
    subst (λ (of : HeldText). IfOk c.image.result (λ text. IsTextOf of m c.args.held.now.regs.trail text.items)) (sym c.in-Image.is)
    (subst (λ (nodes : List Node). IfOk c.image.result (λ text. IsImageFile text.items nodes (image_of m))) (sym at.stands.nodes)
    (subst (λ (blocks : List Registers). IfOk c.image.result (λ text. IsImageFile text.items c.args.held.now.session.topo.nodes blocks)) at.stands.image c.image.ensures.file))
