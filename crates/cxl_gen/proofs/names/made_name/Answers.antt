use Rattle.std.proofs.Common.{◌≡◌, ◌++◌, ap, ◌∙◌, true, false}
use Rattle.std.specs.Prelude.{decimal}
use Rattle.cxl_gen.proofs.Numbered.{numbered_named}
use Rattle.cxl_gen.proofs.names.made_name.Goals as goal

pub unreachable-requires : goal.unreachable-requires
unreachable-requires c =
    let text : c.deref.result.now ≡ c.args.front.now ++ decimal c.args.i =
    c.deref.ensures.value ∙ c.in_ok-extend_from_slice.ensures.items ∙ ap (λ xs. xs ++ c.as_bytes.result.now) c.in_ok-bytes.ensures.items
    ∙ ap (λ ds. c.args.front.now ++ ds) (c.as_bytes.ensures.value ∙ c.format.ensures.text) in
    let none : false ≡ true = c.in-None.ensures.name.1 (numbered_named c.args.front.now c.deref.result.now c.args.i c.requires.few c.requires.front text) in
    cc
