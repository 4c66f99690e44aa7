use Rattle.std.proofs.Common.{◌≡◌, ◌<◌, ◌^◌, ℕ, List, Result, Ok, Err, length, sym, ap, ◌∙◌, arith}
use Rattle.cxl_machine.specs.declared.fault.OpenFault.{OpenFault}
use Rattle.cxl_machine.specs.declared.fault.OpenFault.TheVariants as faults
use Rattle.cxl_model.specs.declared.found.Found.{Found}
use Rattle.cxl_opening.proofs.FewRegions.{few_regions}
use Rattle.cxl_opening.proofs.regions.few_to_open.Goals as goal

pub overflow_cast-result : goal.overflow_cast-result
overflow_cast-result c =
    let few : length c.args.founds.items < 2 ^ 32 = few_regions c.regions_lie_in_windows.ensures.low c.requires.0 c.args.founds.items c.requires.1 c.requires.3 in
    let size = c.args.founds.ok.0 in
    let len = c.len-then-len-gt-REGION_LIMIT.ensures in
    omega (arith, few, size, len)

-- there are as many as the image has
as_many : (founds others : List Found) (n : ℕ) → founds ≡ others → length others ≡ n → length founds ≡ n
as_many founds others n same count = ap (λ (fs : List Found). length fs) same ∙ count

full_of : {T : Type 0} (k n : ℕ) → ◌≡◌ {A = Result T OpenFault} (Err (faults.Full k)) (Err (faults.Full n)) → k ≡ n
full_of k n same = cc

unrefused : {T : Type 0} (x : T) (n : ℕ) → ◌≡◌ {A = Result T OpenFault} (Ok x) (Err (faults.Full n)) → ⊥
unrefused x n is = cc

pub returns-then-len-gt-REGION_LIMIT : goal.returns-then-len-gt-REGION_LIMIT
returns-then-len-gt-REGION_LIMIT c =
    let founds = c.args.founds.items in
    let size = c.args.founds.ok.0 in
    let len = c.len-then-len-gt-REGION_LIMIT.ensures in
    let over = c.if-len-gt-REGION_LIMIT.true in
    let before = c.len.ensures in
    let told : c.len-then-len-gt-REGION_LIMIT.result ≡ length founds = omega (arith, size, len) in
    record {
      opens = λ s system accepted listed. tt;
      full = λ s n system accepted listed is.
          let same : length founds ≡ n = sym told ∙ full_of _ n is in
          ((accepted, (founds, listed, same)), omega (arith, over, before, size, same));
      filled = λ s n system listed has more.
          ap (λ (k : ℕ). Err (faults.Full k)) (told ∙ as_many founds has.1.0 n (c.regions_are_listed.ensures.one s founds has.1.0 system listed has.1.1) has.1.2);
      only = ap faults.Full told;
    }

pub returns : goal.returns
returns c =
    let founds = c.args.founds.items in
    let size = c.args.founds.ok.0 in
    let len = c.len.ensures in
    let test = c.if-len-gt-REGION_LIMIT.false in
    record {
      opens = λ s system accepted listed. record {
        system = system;
        accepted = accepted;
        listed = listed;
        few = omega (arith, size, len, test);
        unbroken = c.accepted_or_breach.ensures.not_both s accepted;
        uncrowded = λ n has.
            let same = as_many founds has.1.0 n (c.regions_are_listed.ensures.one s founds has.1.0 system listed has.1.1) has.1.2 in
            omega (arith, same, size, len, test);
      };
      full = λ s n system accepted listed is. absurd (unrefused c.args.founds n is);
      filled = λ s n system listed has more.
          let same = as_many founds has.1.0 n (c.regions_are_listed.ensures.one s founds has.1.0 system listed has.1.1) has.1.2 in
          absurd (omega (arith, same, size, len, test, more));
      only = tt;
    }
