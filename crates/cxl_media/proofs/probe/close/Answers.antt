use Rattle.std.proofs.Common.{◌≡◌, ℕ, ◌+◌, ◌<◌, length, Some, inl, inr, sym, ap, ◌∙◌, refl, subst, arith}
use Rattle.std.specs.Prelude.{swap}
use Rattle.cxl_media.specs.Hash.{home_of}
use Rattle.cxl_media.specs.Table.{Cells, cell_at}
use Rattle.cxl_media.specs.CellList.{Listed}
use Rattle.cxl_media.proofs.Tables.{same_frames}
use Rattle.cxl_media.proofs.Changes.{taken_is_some}
use Rattle.cxl_media.proofs.Gap.{IsClosing, closing_first, closed, skipped, moved}
use Rattle.cxl_media.proofs.probe.close.Goals as goal
use Rattle.cxl_media.proofs.probe.close.Goals.{then-home-hole, else-home-hole}

pub loop-at-init : goal.loop-at-init
loop-at-init c = record { closing = closing_first _ _ _ c.requires; kept = refl }

pub returns-in_default-clause-table : goal.returns-in_default-clause-table
returns-in_default-clause-table c =
    closed _ _ _ _ _ _ c.loop-at.invariant.closing (inl (sym c.in_default.ensures))

pub returns-in_default-clause-frames : goal.returns-in_default-clause-frames
returns-in_default-clause-frames c = same_frames _ _ c.requires.once c.loop-at.invariant.closing.once c.loop-at.invariant.closing.kept c.loop-at.invariant.closing.back

pub bring-requires-clause-within : goal.bring-requires-clause-within
bring-requires-clause-within c = omega (arith, c.loop-at.invariant.closing.high, c.loop-at.invariant.closing.within)

pub bring-requires-clause-empty : goal.bring-requires-clause-empty
bring-requires-clause-empty c = c.loop-at.invariant.closing.empty

pub bring-requires-clause-taken : goal.bring-requires-clause-taken
bring-requires-clause-taken c = taken_is_some _ c.in-Some.cell.now (sym c.in-Some.ensures)

pub loop-at-preserved : goal.loop-at-preserved
loop-at-preserved c =
    let within : c.loop-at.at < length c.loop-at.cells.cells = omega (arith, c.loop-at-test.true, c.loop-at.invariant.closing.total, c.len-end.ensures) in
    let here : cell_at c.loop-at.cells.cells c.loop-at.at ≡ Some c.in-Some.cell.now = sym c.in-Some.ensures in
    elim c.if-home-hole.branch [
      | then-home-hole w ↦
          let next = moved _ _ _ _ _ _ c.loop-at.invariant.closing c.in-Some.cell.now here within (omega (arith, c.home.ensures, w.if-home-hole.true)) in
          record {
            closing =
                subst (λ (ps : Cells). IsClosing (home_of c.args.homes) c.args.cells.now.cells ps c.args.from c.if-home-hole.hole (c.loop-at.at + 1)) (sym (ap (λ (l : Listed). l.cells) w.cells-is ∙ w.bring.ensures.cells))
                (subst (λ (n : ℕ). IsClosing (home_of c.args.homes) c.args.cells.now.cells (swap c.loop-at.cells.cells c.loop-at.hole c.loop-at.at) c.args.from n (c.loop-at.at + 1)) (sym w.hole-is) next);
            kept = ap (λ (l : Listed). l.kept) w.cells-is ∙ w.bring.ensures.kept ∙ c.loop-at.invariant.kept;
          }
      | else-home-hole w ↦
          let next = skipped _ _ _ _ _ _ c.loop-at.invariant.closing c.in-Some.cell.now here within (omega (arith, c.home.ensures, w.if-home-hole.false)) in
          record {
            closing =
                subst (λ (ps : Cells). IsClosing (home_of c.args.homes) c.args.cells.now.cells ps c.args.from c.if-home-hole.hole (c.loop-at.at + 1)) (sym (ap (λ (l : Listed). l.cells) w.cells-is))
                (subst (λ (n : ℕ). IsClosing (home_of c.args.homes) c.args.cells.now.cells c.loop-at.cells.cells c.args.from n (c.loop-at.at + 1)) (sym w.hole-is) next);
            kept = ap (λ (l : Listed). l.kept) w.cells-is ∙ c.loop-at.invariant.kept;
          }
    ]

pub returns-clause-table : goal.returns-clause-table
returns-clause-table c = closed _ _ _ _ _ _ c.loop-at.invariant.closing (inr (omega (arith, c.loop-at-test.false, c.loop-at.invariant.closing.total, c.len-end.ensures)))

pub returns-clause-frames : goal.returns-clause-frames
returns-clause-frames c = same_frames _ _ c.requires.once c.loop-at.invariant.closing.once c.loop-at.invariant.closing.kept c.loop-at.invariant.closing.back
