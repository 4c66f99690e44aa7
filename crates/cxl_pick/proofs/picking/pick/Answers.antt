use Rattle.std.proofs.Common.{◌≡◌, ℕ, Err, refl, sym, ap, ◌∙◌}
use Rattle.std.proofs.lemmas.Bool.{false≢true}
use Rattle.cxl_enc.specs.Codes.{is_ways}
use Rattle.cxl_model.specs.System.{System, system_of}
use Rattle.cxl_pick.specs.declared.want.Want.{Want}
use Rattle.cxl_pick.specs.declared.fault.PickFault.TheVariants as faults
use Rattle.cxl_pick.specs.Picking.{IsWantedSize}
use Rattle.cxl_pick.proofs.Parts.{named}
use Rattle.cxl_pick.proofs.Picks.{Settled, picked_of, fits_first, nothing_fits}
use Rattle.cxl_pick.proofs.picking.pick.Goals as goal

pub pick_first-requires : goal.pick_first-requires
pick_first-requires c = record {
  system = c.settle.ensures.system;
  ready = c.settle.ensures.ready;
  sound = record {
    ways = sym (c.is_ways.ensures ∙ ap is_ways c.from.ensures) ∙ c.if-not-is_ways.false;
    size = c.is_size.ensures.0 c.if-not-is_size.false;
  };
}

pub returns-in-Ok-Some : goal.returns-in-Ok-Some
returns-in-Ok-Some c =
    let s : System = system_of c.args.image.now c.args.topo.now c.args.windows.now in
    let want : Want = c.args.want.now in
    let ways = sym (c.is_ways.ensures ∙ ap is_ways c.from.ensures) ∙ c.if-not-is_ways.false in
    let size = c.is_size.ensures.0 c.if-not-is_size.false in
    let settled : Settled s want = record {
      laws = c.tree_laws.ensures.laws s.nodes c.settle.ensures.system.tree;
      system = c.settle.ensures.system;
      ports = c.ports_are_bytes.ensures;
      accepted = c.requires.accepted;
      ways = ways;
      size = size;
      code = c.requires.code;
      given = c.fitting_sets_are_given.ensures s want;
    } in
    let set = c.in-Ok-Some.set.items in
    let own = rw c.in-Ok-Some.field-0-is at c.in-Ok-Some.ensures in
    let pick = picked_of s want settled own.0 set own.1 in
    record {
      picked = own;
      endpoints = named pick;
      count = c.given_sets_fit.ensures.ways s want own.0 own.1.given set settled.system settled.ports settled.accepted ways pick.of.there own.1.gives own.1.rising;
      fits = λ w is. fits_first s want settled w set is;
      legal = λ w is.
          let there = (picked_of s want settled w set is).of.there in
          let count =
          c.given_sets_fit.ensures.ways s want w is.given set settled.system settled.ports settled.accepted ways there is.gives is.rising in
          c.fitting_sets_have_plans.ensures.first s want w set count (fits_first s want settled w set is);
      ways = λ other. absurd (false≢true (sym other ∙ ways));
      size = λ _ other. absurd (other size);
      fault = tt;
      nothing = tt;
      none = tt;
      answer = c.wants_come_to_answers.ensures.set s want own.0 set settled.system ways size own.1;
      refusal = tt;
    }

pub returns-in-Ok-None : goal.returns-in-Ok-None
returns-in-Ok-None c =
    let s : System = system_of c.args.image.now c.args.topo.now c.args.windows.now in
    let want : Want = c.args.want.now in
    let ways = sym (c.is_ways.ensures ∙ ap is_ways c.from.ensures) ∙ c.if-not-is_ways.false in
    let size = c.is_size.ensures.0 c.if-not-is_size.false in
    let own = rw c.in-Ok-None.field-0-is at c.in-Ok-None.ensures in
    let fits = nothing_fits s want (c.fitting_sets_are_given.ensures s want) own in
    record {
      picked = tt;
      endpoints = tt;
      count = tt;
      fits = tt;
      legal = tt;
      ways = λ other. absurd (false≢true (sym other ∙ ways));
      size = λ _ other. absurd (other size);
      fault = (ways, size, own);
      nothing = λ told. fits;
      none = λ told. c.fitting_sets_have_plans.ensures.none s want c.settle.ensures.system c.ports_are_bytes.ensures c.requires.accepted fits;
      answer = tt;
      refusal = λ real. c.wants_come_to_answers.ensures.fault s want faults.NoSet (ways, size, own) real;
    }

pub returns-in-Err : goal.returns-in-Err
returns-in-Err c = record {
  picked = tt;
  endpoints = tt;
  count = tt;
  fits = tt;
  legal = tt;
  ways = λ other. absurd (false≢true (sym other ∙ sym (c.is_ways.ensures ∙ ap is_ways c.from.ensures) ∙ c.if-not-is_ways.false));
  size = λ _ other. absurd (other (c.is_size.ensures.0 c.if-not-is_size.false));
  fault = tt;
  nothing = λ told. absurd (apart_memory told);
  none = λ told. absurd (apart_memory told);
  answer = tt;
  refusal = λ real. absurd (real refl);
}
  where
    apart_memory : faults.Memory ≡ faults.NoSet → ⊥
    apart_memory e = cc

pub returns-then-not-is_ways : goal.returns-then-not-is_ways
returns-then-not-is_ways c =
    let s : System = system_of c.args.image.now c.args.topo.now c.args.windows.now in
    let want : Want = c.args.want.now in
    let other = sym (c.is_ways.ensures ∙ ap is_ways c.from.ensures) ∙ c.if-not-is_ways.true in
    record {
      picked = tt;
      endpoints = tt;
      count = tt;
      fits = tt;
      legal = tt;
      ways = λ _. ap (λ (n : ℕ). Err (faults.Ways n)) c.from-then-not-is_ways.ensures;
      size = λ ways. absurd (false≢true (sym other ∙ ways));
      fault = (c.from-then-not-is_ways.ensures, other);
      nothing = λ told. absurd (apart_ways c.from-then-not-is_ways.result told);
      none = λ told. absurd (apart_ways c.from-then-not-is_ways.result told);
      answer = tt;
      refusal = λ real. c.wants_come_to_answers.ensures.fault s want (faults.Ways c.from-then-not-is_ways.result) (c.from-then-not-is_ways.ensures, other) real;
    }
  where
    apart_ways : (n : ℕ) → faults.Ways n ≡ faults.NoSet → ⊥
    apart_ways n e = cc

pub returns-then-not-is_size : goal.returns-then-not-is_size
returns-then-not-is_size c =
    let s : System = system_of c.args.image.now c.args.topo.now c.args.windows.now in
    let want : Want = c.args.want.now in
    let ways = sym (c.is_ways.ensures ∙ ap is_ways c.from.ensures) ∙ c.if-not-is_ways.false in
    let other : IsWantedSize want → ⊥ = λ is. false≢true (sym c.if-not-is_size.true ∙ c.is_size.ensures.1 is) in
    record {
      picked = tt;
      endpoints = tt;
      count = tt;
      fits = tt;
      legal = tt;
      ways = λ other. absurd (false≢true (sym other ∙ ways));
      size = λ _ _. refl;
      fault = (ways, other);
      nothing = λ told. absurd (apart_size told);
      none = λ told. absurd (apart_size told);
      answer = tt;
      refusal = λ real. c.wants_come_to_answers.ensures.fault s want faults.Size (ways, other) real;
    }
  where
    apart_size : faults.Size ≡ faults.NoSet → ⊥
    apart_size e = cc
