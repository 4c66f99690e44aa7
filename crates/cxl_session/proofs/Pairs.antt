-- Two regions by their names, and what the names are answered.
use Rattle.std.proofs.Common.{eq-eqb, ◌≡◌, ℕ, true, false, not, if◌then◌else◌, Option, Some, None, refl, sym, ap, ◌∙◌}
use Rattle.std.specs.Prelude.{◌==◌}
use Rattle.std.specs.Option.{option_map_or}
use Rattle.std.specs.Str.{bytes_eq}
use Rattle.std.proofs.lemmas.Bool.{cond-true, cond-false, false≢true}
use Rattle.std.proofs.lemmas.Slice.Eq.{bytes_eq-Decides}
use Rattle.cxl_script.specs.declared.command.Pair.{Pair}
use Rattle.cxl_reply.specs.declared.reply.Reply.TheVariants as replies
use Rattle.cxl_machine.specs.Copies.{for_two, move_between, move_answer}
use Rattle.cxl_machine.specs.Machine.{Live, Machine, live_named}
use Rattle.cxl_machine.specs.Replies.{Answer, stays, is_refusal}
use Rattle.cxl_session.proofs.AskedReleases.{name_at}
use Rattle.cxl_session.specs.State.{SessionState}
use Rattle.cxl_session.specs.inner.Pairs.{AreTwo}
use Rattle.cxl_session.specs.inner.Places.{StandsAt}

module _ (m : Machine) (pair : Pair) (answer : Live → Live → Answer) where
  abbrev of_sizes : Live → Live → Answer
  of_sizes from to =
      if not (from.found.size == to.found.size) then stays m (replies.SizesDiffer record { from = from.found.size; to = to.found.size }) else answer from to

  abbrev of_both : Live → Live → Answer
  of_both from to = if bytes_eq pair.from pair.to then stays m (replies.SameRegion pair.from) else of_sizes from to

  -- the answer by what is found under the names
  abbrev of_found : Option Live → Option Live → Answer
  of_found o p = option_map_or (λ from. option_map_or (of_both from) p (stays m (replies.NoRegion pair.to))) o (stays m (replies.NoRegion pair.from))

  by_found : (o p : Option Live) → live_named m pair.from ≡ o → live_named m pair.to ≡ p → for_two m pair answer ≡ of_found o p
  by_found o p first second = ap (λ (x : Option Live). of_found x (live_named m pair.to)) first ∙ ap (of_found o) second

  pub first_missing : live_named m pair.from ≡ None → for_two m pair answer ≡ stays m (replies.NoRegion pair.from)
  first_missing none = by_found None (live_named m pair.to) none refl

  pub second_missing : (from : Live) → live_named m pair.from ≡ Some from → live_named m pair.to ≡ None → for_two m pair answer ≡ stays m (replies.NoRegion pair.to)
  second_missing from some none = by_found (Some from) None some none

  pub one_region : (from to : Live) → live_named m pair.from ≡ Some from → live_named m pair.to ≡ Some to → bytes_eq pair.from pair.to ≡ true
      → for_two m pair answer ≡ stays m (replies.SameRegion pair.from)
  one_region from to some other same =
      by_found (Some from) (Some to) some other
      ∙ cond-true (bytes_eq pair.from pair.to) (stays m (replies.SameRegion pair.from)) (of_sizes from to) same

  pub sizes_differ : (from to : Live) → live_named m pair.from ≡ Some from → live_named m pair.to ≡ Some to → bytes_eq pair.from pair.to ≡ false
      → (from.found.size == to.found.size) ≡ false → for_two m pair answer ≡ stays m (replies.SizesDiffer record { from = from.found.size; to = to.found.size })
  sizes_differ from to some other apart differ =
      by_found (Some from) (Some to) some other
      ∙ cond-false (bytes_eq pair.from pair.to) (stays m (replies.SameRegion pair.from)) (of_sizes from to) apart
      ∙ cond-true (not (from.found.size == to.found.size)) (stays m (replies.SizesDiffer record { from = from.found.size; to = to.found.size })) (answer from to) (ap not differ)

  pub both_there : (from to : Live) → live_named m pair.from ≡ Some from → live_named m pair.to ≡ Some to → bytes_eq pair.from pair.to ≡ false
      → (from.found.size == to.found.size) ≡ true → for_two m pair answer ≡ answer from to
  both_there from to some other apart alike =
      by_found (Some from) (Some to) some other
      ∙ cond-false (bytes_eq pair.from pair.to) (stays m (replies.SameRegion pair.from)) (of_sizes from to) apart
      ∙ cond-false (not (from.found.size == to.found.size)) (stays m (replies.SizesDiffer record { from = from.found.size; to = to.found.size })) (answer from to) (ap not alike)

pub are_two : (session : SessionState) (m : Machine) (pair : Pair) (first second : ℕ) (from to : Live) → live_named m pair.from ≡ Some from → live_named m pair.to ≡ Some to
    → StandsAt session m first from → StandsAt session m second to → bytes_eq pair.from pair.to ≡ false → from.found.size ≡ to.found.size → AreTwo session m pair first second
are_two session m pair first second from to some other here there apart size =
    let one : from.name ≡ pair.from = name_at m pair.from from some in
    let two : to.name ≡ pair.to = name_at m pair.to to other in
    record {
      from = from;
      to = to;
      from_at = here;
      to_at = there;
      from_named = one;
      to_named = two;
      apart = λ same. false≢true (sym apart ∙ (bytes_eq-Decides pair.from pair.to).1 (sym one ∙ same ∙ two));
      size = size;
      answers = λ answer. both_there m pair answer from to some other apart (eq-eqb from.found.size to.found.size size);
    }

-- a move between two such regions is not refused
pub two_unrefused : (session : SessionState) (m : Machine) (pair : Pair) (first second : ℕ) → AreTwo session m pair first second → is_refusal (move_answer m pair).reply ≡ true → ⊥
two_unrefused session m pair first second two refused =
    false≢true (ap (λ (a : Answer). is_refusal a.reply) (sym (two.answers (move_between m))) ∙ refused)
