use Rattle.std.proofs.Common.{◌≡◌, ◌≢◌, ℕ, List, Option, cond, is_some, refl, sym, ap, ◌∙◌, arith}
use Rattle.cxl_media.specs.Blocks.{Blocks, key_of, frames_needed}
use Rattle.cxl_media.specs.MediaState.{MediaState}
use Rattle.cxl_move.proofs.Changed.{insert_other}
use Rattle.cxl_move.specs.Puts.{need_at, IsPut, both_stored}
use Rattle.cxl_move.proofs.putting.put_two.Goals as goal

-- a put into another block leaves what this one needs
need_stays : (ep dpa other place : ℕ) (bytes : List ℕ) (old new : MediaState) → IsPut ep dpa bytes old new → key_of ep dpa ≢ key_of other place → need_at new other place ≡ need_at old other place
need_stays ep dpa other place bytes old new put apart =
    ap (λ (blocks : Blocks). frames_needed blocks (key_of other place)) put.blocks
    ∙ ap (λ (o : Option (List ℕ)). cond (is_some o) 0 1) (insert_other old.blocks (key_of ep dpa) (key_of other place) _ (λ same. apart (sym same)))

pub put_in_block-requires-2-clause-room : goal.put_in_block-requires-2-clause-room
put_in_block-requires-2-clause-room g c =
    let old : MediaState = g.M.Media.state c.args.media.now in
    let between : MediaState = g.M.Media.state c.put_in_block.new.media in
    let still : need_at between c.args.second.ep c.args.second.dpa ≡ need_at old c.args.second.ep c.args.second.dpa =
    need_stays c.args.first.ep c.args.first.dpa c.args.second.ep c.args.second.dpa c.args.front.now old between c.put_in_block.ensures.put c.requires.apart in
    let one : c.need.result ≡ need_at old c.args.first.ep c.args.first.dpa = c.need.ensures in
    let two : c.need-2.result ≡ need_at old c.args.second.ep c.args.second.dpa = c.need-2.ensures in
    omega (arith, still, one, two, c.put_in_block.ensures.taken, c.free-free.ensures, c.if-need-free.false)

pub returns : goal.returns
returns g c =
    let old : MediaState = g.M.Media.state c.args.media.now in
    let between : MediaState = g.M.Media.state c.put_in_block.new.media in
    let one : c.need.result ≡ need_at old c.args.first.ep c.args.first.dpa = c.need.ensures in
    let two : c.need-2.result ≡ need_at old c.args.second.ep c.args.second.dpa = c.need-2.ensures in
    both_stored between (omega (arith, one, two, c.free-free.ensures, c.if-need-free.false)) c.put_in_block.ensures.put c.put_in_block-2.ensures.put refl
