-- A range with bytes lies in one usable window at the most.
use Rattle.std.proofs.Common.{◌≡◌, ℕ, ◌+◌, ◌<◌, ◌≤◌, true, ◌&&◌, List, length, Option, Some, refl, sym, ap, ◌∙◌, arith}
use Rattle.std.specs.Prelude.{slice_get, unwrap_or, nat_le, Contains}
use Rattle.std.proofs.lemmas.Option.{slice_get_read}
use Rattle.std.proofs.lemmas.Bool.{and_parts, leb-true}
use Rattle.cxl_window.specs.Fields.{WindowFields}
use Rattle.cxl_window.specs.declared.window.Verdict.TheVariants.{Usable}
use Rattle.cxl_window.specs.Position.{is_usable}
use Rattle.cxl_window.specs.Windows.{AreMadeWith}
use Rattle.cxl_window.proofs.Usable.{usable_is}
use Rattle.cxl_model.specs.System.{System, bridge_uids}
use Rattle.cxl_regs.specs.declared.reading.Range.{Range}
use Rattle.cxl_model.specs.Ranges.{lies_within}

-- what it says that a range lies in a window
record LiesIn (r : Range) (w : WindowFields) : Type 0 where
  usable : w.verdict ≡ Usable
  from : w.base ≤ r.base
  to : r.base + r.size ≤ w.base + w.size

lies_in : (r : Range) (w : WindowFields) → lies_within r w ≡ true → LiesIn r w
lies_in r w lies =
    let all = and_parts (is_usable w.verdict && nat_le w.base r.base) (nat_le (r.base + r.size) (w.base + w.size)) lies in
    let first = and_parts (is_usable w.verdict) (nat_le w.base r.base) all.0 in
    record {
      usable = usable_is w.verdict first.0;
      from = leb-true w.base r.base first.1;
      to = leb-true (r.base + r.size) (w.base + w.size) all.1;
    }

-- windows stand at their index
at_index : (windows : List WindowFields) (w : WindowFields) → ((i : ℕ) (v : WindowFields) → slice_get windows i ≡ Some v → v.index ≡ i)
    → Contains windows w → slice_get windows w.index ≡ Some w
at_index windows w indexed there =
    let here : slice_get windows there.0 ≡ Some w = slice_get_read windows (length windows) there.0 w refl there.1 (sym there.2) in
    ap (slice_get windows) (indexed there.0 w here) ∙ here

pub one_window : (s : System) (r : Range) (w v : WindowFields) → AreMadeWith s.windows (bridge_uids s.nodes) → 0 < r.size → Contains s.windows w → Contains s.windows v
    → lies_within r w ≡ true → lies_within r v ≡ true → w ≡ v
one_window s r w v made some w_there v_there w_lies v_lies =
    let a = lies_in r w w_lies in
    let b = lies_in r v v_lies in
    let a_from = a.from in
    let a_to = a.to in
    let b_from = b.from in
    let b_to = b.to in
    let same : w.index ≡ v.index = made.apart w v w_there v_there r.base a.usable b.usable a_from (omega (arith, a_to, some)) b_from (omega (arith, b_to, some)) in
    let w_at = at_index s.windows w made.indexed w_there in
    let v_at = at_index s.windows v made.indexed v_there in
    ap (λ (o : Option WindowFields). unwrap_or o w) (sym w_at ∙ ap (slice_get s.windows) same ∙ v_at)
