use Rattle.std.proofs.Common.{◌≡◌, ◌≢◌, ℕ, rules, Result, Ok, Err, refl, subst, inl, inr}
use Rattle.std.specs.Prelude.{IfErr}
use Rattle.cxl_check.specs.declared.fault.Breach.{Breach}
use Rattle.cxl_check.specs.declared.fault.CheckFault.TheVariants as checks
use Rattle.cxl_machine.specs.declared.fault.OpenFault.{OpenFault}
use Rattle.cxl_machine.specs.declared.fault.OpenFault.TheVariants as faults
use Rattle.cxl_model.specs.Accepted.{IsFirstBreach}
use Rattle.cxl_model.specs.System.{System, system_of}
use Rattle.cxl_opening.proofs.regions.regions_to_open.Goals as goal

-- the result is this fault
abbrev IsRefusedAs : {T : Type 0} → Result T OpenFault → OpenFault → Type 0
IsRefusedAs result fault = result ≡ Err fault

only_fault : {T : Type 0} (result : Result T OpenFault) (own other : OpenFault) → IfErr result (λ fault. fault ≡ own) → IsRefusedAs result other → own ≡ other
only_fault (Ok x) own other only is = absurd (cc)
only_fault (Err fault) own other only is = cc

breach_is_no_memory : (b : Breach) → checks.Breach b ≢ checks.Memory
breach_is_no_memory b same = absurd (cc)

full_is_no_breach : (n : ℕ) (b : Breach) → faults.Full n ≢ faults.Breach b
full_is_no_breach n b same = absurd (cc)

full_is_no_bus : (n : ℕ) → faults.Full n ≢ faults.Bus
full_is_no_bus n same = absurd (cc)

-- a refusal is of one kind
module _ {T : Type 0} where
  breach_of : (b other : Breach) → IsRefusedAs {T = T} (Err (faults.Breach b)) (faults.Breach other) → b ≡ other
  breach_of b other same = cc

  breach_unfull : (b : Breach) (n : ℕ) → IsRefusedAs {T = T} (Err (faults.Breach b)) (faults.Full n) → ⊥
  breach_unfull b n same = cc

  breach_no_bus : (b : Breach) → IsRefusedAs {T = T} (Err (faults.Breach b)) faults.Bus → ⊥
  breach_no_bus b same = cc

  memory_no_breach : (b : Breach) → IsRefusedAs {T = T} (Err faults.Memory) (faults.Breach b) → ⊥
  memory_no_breach b same = cc

  memory_unfull : (n : ℕ) → IsRefusedAs {T = T} (Err faults.Memory) (faults.Full n) → ⊥
  memory_unfull n same = cc

  memory_no_bus : IsRefusedAs {T = T} (Err faults.Memory) faults.Bus → ⊥
  memory_no_bus same = cc

pub accepted_image_is_system-requires : goal.accepted_image_is_system-requires
accepted_image_is_system-requires c = search rules

pub few_to_open-requires : goal.few_to_open-requires
few_to_open-requires c =
    let s : System = system_of c.args.start.now c.args.topo.now c.args.windows.now in
    (s, c.accepted_image_is_system.ensures, c.in-Ok.ensures.accepted, c.in-Ok.ensures.regions)

pub returns-in-Err-Breach : goal.returns-in-Err-Breach
returns-in-Err-Breach c =
    let s : System = system_of c.args.start.now c.args.topo.now c.args.windows.now in
    let own : Breach = c.in-Err-Breach.breach in
    let first = rw c.in-Err-Breach.field-0-is at c.in-Err-Breach.ensures.breach in
    record {
      opens = tt;
      breach = λ b is. subst (λ (b : Breach). IsFirstBreach s b.rule b.node b.decoder) (breach_of own b is) first;
      breached = λ has. inr (own, refl);
      full = λ n is. absurd (breach_unfull own n is);
      filled = λ n has more.
          let only = rw c.in-Err-Breach.field-0-is at (c.in-Err-Breach.ensures.only_regions has.0) in
          absurd (breach_is_no_memory own only);
      no_bus = λ is. breach_no_bus own is;
    }

pub returns-in-Err-Memory : goal.returns-in-Err-Memory
returns-in-Err-Memory c = record {
  opens = tt;
  breach = λ b is. absurd (memory_no_breach b is);
  breached = λ has. inl refl;
  full = λ n is. absurd (memory_unfull n is);
  filled = λ n has more. inl refl;
  no_bus = λ is. memory_no_bus is;
}

pub returns : goal.returns
returns c =
    let s : System = system_of c.args.start.now c.args.topo.now c.args.windows.now in
    let system = c.accepted_image_is_system.ensures in
    let accepted = c.in-Ok.ensures.accepted in
    let listed = c.in-Ok.ensures.regions in
    let few = c.few_to_open.ensures in
    record {
      opens = few.opens s system accepted listed;
      breach = λ b is. absurd (full_is_no_breach _ b (only_fault c.few_to_open.result _ (faults.Breach b) few.only is));
      breached = λ has. absurd (c.accepted_or_breach.ensures.not_both s accepted has);
      full = λ n is. few.full s n system accepted listed is;
      filled = λ n has more. inr (few.filled s n system listed has more);
      no_bus = λ is. full_is_no_bus _ (only_fault c.few_to_open.result _ faults.Bus few.only is);
    }
