-- Where a set of endpoints keeps all that a request has to, each target bridge of the window gives its share.
use Rattle.std.proofs.Common.{◌≡◌, ℕ, ◌*◌, ◌/◌, ◌%◌, ◌<◌, Bool, true, not, ◌&&◌, if◌then◌else◌, List, [], ◌∷◌, ◌++◌, length, get_or, map, Option, Some, None, refl, sym, ap, ◌∙◌, subst, arith}
use Rattle.std.specs.Prelude.{◌==◌, All, option_map, option_and_then}
use Rattle.std.proofs.Math.Nat.{mul-div_cancel, mul-mod_left}
use Rattle.std.proofs.lemmas.Bool.{and_from, eq-eqb, not_from_false}
use Rattle.std.proofs.lemmas.Option.{same_Some}
use Rattle.std.proofs.lemmas.List.Elements.{All-head, All-tail}
use Rattle.cxl_enc.proofs.Ways.{some_ways}
use Rattle.cxl_topo.specs.Tree.{parent_of, bridge_with}
use Rattle.cxl_regs.specs.Words.{has_bit}
use Rattle.cxl_window.specs.Fields.{WindowFields}
use Rattle.cxl_window.specs.Position.{is_usable}
use Rattle.cxl_model.specs.System.{System}
use Rattle.cxl_model.specs.Rules.{permits}
use Rattle.cxl_legal.specs.Used.{count_under}
use Rattle.cxl_legal.specs.Windows.{agrees_on_gran}
use Rattle.cxl_pick.specs.declared.want.Want.{Want}
use Rattle.cxl_pick.specs.Picking.{asked, can_take, latest_start, gives, all_given, given_in}
use Rattle.cxl_pick.proofs.Tops.{bridge_of}
use Rattle.cxl_pick.proofs.Evenly.{asked_of, evenly, windowed, UsedTarget, used_target}
use Rattle.cxl_pick.proofs.Giving.{start_is}
use Rattle.cxl_pick.proofs.Serving.{Kept, latest, small_enough, gives_same, used_gives}

-- where each gives something, all is given
joined : (o : Option (List ℕ)) (rest : Option (List ℕ)) → (xs : List ℕ) → o ≡ Some xs → (ys : List ℕ) → rest ≡ Some ys
    → option_and_then (λ ns. option_map (λ ms. ns ++ ms) rest) o ≡ Some (xs ++ ys)
joined o rest xs is ys others = ap (option_and_then (λ ns. option_map (λ ms. ns ++ ms) rest)) is ∙ ap (option_map (λ ms. xs ++ ms)) others

each_given : (f : ℕ → Option (List ℕ)) (uids : List ℕ) → All (λ uid. (xs : List ℕ) × (f uid ≡ Some xs)) uids → (given : List ℕ) × (all_given (map f uids) ≡ Some given)
each_given f [] each = ([], refl)
each_given f (uid ∷ uids) each =
    let first = All-head (λ x. (xs : List ℕ) × (f x ≡ Some xs)) uid uids each in
    let rest = each_given f uids (All-tail (λ x. (xs : List ℕ) × (f x ≡ Some xs)) uid uids each) in
    (first.0 ++ rest.0, joined (f uid) (all_given (map f uids)) first.0 first.1 rest.0 rest.1)

-- the target of this UID gives its share
target_gives : {s : System} {want : Want} {w : WindowFields} {set : List ℕ} {base : ℕ} → Kept s want w set base → (uid : ℕ) → UsedTarget s (asked want set) uid
    → (xs : List ℕ) × (option_and_then (λ b. gives s want w (latest want w) b (want.ways / w.ways)) (bridge_with s.nodes uid) ≡ Some xs)
target_gives {s} {want} {w} {set} {base} kept uid target =
    let even = evenly kept.laws kept.fits in
    let is = asked_of kept.laws kept.fits in
    let own = used_gives kept (length s.nodes) target.node (omega arith) target.used in
    let of = bridge_of is.known uid target.node target.is in
    let node : of.node ≡ target.node = same_Some of.node target.node (sym of.is ∙ target.is) in
    let top : parent_of s.nodes target.node ≡ None = subst (λ (n : ℕ). parent_of s.nodes n ≡ None) node of.top in
    let share : count_under s (asked want set) target.node * w.ways ≡ want.ways = even.tops target.node top target.used ∙ kept.all in
    let quotient : count_under s (asked want set) target.node ≡ want.ways / w.ways =
    sym (mul-div_cancel (count_under s (asked want set) target.node) (some_ways w.ways even.ways)) ∙ ap (λ (k : ℕ). k / w.ways) share in (
      own.0,
      ap (option_and_then (λ b. gives s want w (latest want w) b (want.ways / w.ways))) target.is
          ∙ gives_same s want w (length s.nodes) target.node (count_under s (asked want set) target.node) (want.ways / w.ways) quotient own.0 own.1,
    )

divides : {s : System} {want : Want} {w : WindowFields} {set : List ℕ} {base : ℕ} → Kept s want w set base → (uid : ℕ) → UsedTarget s (asked want set) uid → (want.ways % w.ways == 0) ≡ true
divides {s} {want} {w} {set} {base} kept uid target =
    let even = evenly kept.laws kept.fits in
    let of = bridge_of (asked_of kept.laws kept.fits).known uid target.node target.is in
    let node : of.node ≡ target.node = same_Some of.node target.node (sym of.is ∙ target.is) in
    let top : parent_of s.nodes target.node ≡ None = subst (λ (n : ℕ). parent_of s.nodes n ≡ None) node of.top in
    let share : count_under s (asked want set) target.node * w.ways ≡ want.ways = even.tops target.node top target.used ∙ kept.all in
    eq-eqb (want.ways % w.ways) 0 (ap (λ (k : ℕ). k % w.ways) (sym share) ∙ mul-mod_left (count_under s (asked want set) target.node) w.ways)

takes : {s : System} {want : Want} {w : WindowFields} {set : List ℕ} {base : ℕ} → Kept s want w set base → can_take want w ≡ true
takes {s} {want} {w} {set} {base} kept =
    and_from (is_usable w.verdict && permits w want.kind && not (has_bit w.restrict 4) && agrees_on_gran want.gran w) (want.ways % w.ways == 0)
    (and_from (is_usable w.verdict && permits w want.kind && not (has_bit w.restrict 4)) (agrees_on_gran want.gran w)
    (and_from (is_usable w.verdict && permits w want.kind) (not (has_bit w.restrict 4))
    (and_from (is_usable w.verdict) (permits w want.kind) kept.fits.window.usable kept.fits.window.kind)
    (not_from_false (has_bit w.restrict 4) kept.fits.window.open_to_plans))
    kept.fits.window.gran)
    (divides kept (get_or w.targets 0 0) (used_target kept.fits 0 0 some))
  where
    some : 0 < length w.targets
    some =
        let own = windowed s w kept.fits.system kept.fits.window.there kept.fits.window.usable in
        let long = own.known.target_each_way in
        let more = some_ways w.ways own.known.ways_known in
        omega (arith, long, more)

pub given_where_kept : {s : System} {want : Want} {w : WindowFields} {set : List ℕ} {base : ℕ} → Kept s want w set base → (given : List ℕ) × (given_in s want w ≡ Some given)
given_where_kept {s} {want} {w} {set} {base} kept =
    let all = each_given (λ uid. option_and_then (λ b. gives s want w (latest want w) b (want.ways / w.ways)) (bridge_with s.nodes uid)) w.targets
    (λ k d within. target_gives kept (get_or w.targets k d) (used_target kept.fits k d within)) in (
      all.0,
      ap (λ (b : Bool). if b
          then option_and_then (λ start. all_given (map (λ uid. option_and_then (λ b. gives s want w start b (want.ways / w.ways)) (bridge_with s.nodes uid)) w.targets)) (latest_start want w)
          else None) (takes kept)
          ∙ ap (option_and_then (λ start. all_given (map (λ uid. option_and_then (λ b. gives s want w start b (want.ways / w.ways)) (bridge_with s.nodes uid)) w.targets))) (start_is want w (small_enough kept))
          ∙ all.1,
    )
