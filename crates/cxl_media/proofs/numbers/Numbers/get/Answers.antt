use Rattle.std.proofs.Common.{◌≡◌, suc, ◌-◌, ◌/◌, ◌%◌, ◌<◌, [], length, get_or, sym, ap, ◌∙◌, arith}
use Rattle.std.proofs.lemmas.List.{get_or_read}
use Rattle.cxl_media.specs.Numbers.{part_named}
use Rattle.cxl_media.proofs.Parts.{length_numbers, number_here, not_made, part_within}
use Rattle.cxl_media.proofs.numbers.Numbers.get.Goals as goal

pub index-part-requires : goal.index-part-requires
index-part-requires c =
    let inside : c.args.at < c.self.inside.total = omega (arith, c.requires, ap length c.self.view_is, length_numbers c.self.inside.parts.items c.self.inside.made.items c.self.inside.total) in
    omega (arith, c.self.inside.parts.ok.0, part_within _ _ _ _ c.self.invariant c.args.at inside)

pub returns-then-part-eq0 : goal.returns-then-part-eq0
returns-then-part-eq0 c =
    let inside : c.args.at < c.self.inside.total = omega (arith, c.requires, ap length c.self.view_is, length_numbers c.self.inside.parts.items c.self.inside.made.items c.self.inside.total) in
    let read = get_or_read c.self.inside.parts.items (c.args.at / 256) c.index-part.result.now (part_within _ _ _ _ c.self.invariant c.args.at inside) c.index-part.ensures 0 in
    sym (ap (λ numbers. get_or numbers c.args.at 0) (sym c.self.view_is)
    ∙ number_here c.self.inside.parts.items c.self.inside.made.items c.self.inside.total c.args.at 0 inside
    ∙ not_made c.self.inside.parts.items c.self.inside.made.items c.args.at (sym read ∙ c.if-part-eq0.true))

pub index-requires : goal.index-requires
index-requires c =
    let inside : c.args.at < c.self.inside.total = omega (arith, c.requires, ap length c.self.view_is, length_numbers c.self.inside.parts.items c.self.inside.made.items c.self.inside.total) in
    let read = get_or_read c.self.inside.parts.items (c.args.at / 256) c.index-part.result.now (part_within _ _ _ _ c.self.invariant c.args.at inside) c.index-part.ensures 0 in
    let above : c.index-part.result.now ≡ suc (c.index-part.result.now - 1) = omega (arith, c.if-part-eq0.false) in
    omega (arith, c.self.inside.made.ok.0, c.self.invariant.named (c.args.at / 256) (c.index-part.result.now - 1) (sym read ∙ above))

pub returns : goal.returns
returns c =
    let inside : c.args.at < c.self.inside.total = omega (arith, c.requires, ap length c.self.view_is, length_numbers c.self.inside.parts.items c.self.inside.made.items c.self.inside.total) in
    let read = get_or_read c.self.inside.parts.items (c.args.at / 256) c.index-part.result.now (part_within _ _ _ _ c.self.invariant c.args.at inside) c.index-part.ensures 0 in
    let above : c.index-part.result.now ≡ suc (c.index-part.result.now - 1) = omega (arith, c.if-part-eq0.false) in
    let made = c.self.inside.made.items in
    let there : c.index-part.result.now - 1 < length made = c.self.invariant.named (c.args.at / 256) (c.index-part.result.now - 1) (sym read ∙ above) in
    c.number_in.ensures
    ∙ ap (λ part. get_or part (c.args.at % 256) 0) (get_or_read made (c.index-part.result.now - 1) c.index.result.now there c.index.ensures [])
    ∙ ap (λ name. get_or (part_named made name) (c.args.at % 256) 0) (sym above ∙ read)
    ∙ sym (number_here c.self.inside.parts.items made c.self.inside.total c.args.at 0 inside)
    ∙ ap (λ numbers. get_or numbers c.args.at 0) c.self.view_is
