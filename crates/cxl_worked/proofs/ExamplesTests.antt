-- Tests that compute whether an image keeps a rule: each looks at the decoders that the image has.
use Rattle.std.proofs.Common.{◌≡◌, ℕ, ◌+◌, ◌<◌, ◌≤◌, Bool, true, false, ◌||◌, [], length, Option, Some, None, refl, sym, ◌∙◌, subst, arith, inl, inr}
use Rattle.std.specs.Prelude.{slice_get, ◌==◌, if◌then◌else◌}
use Rattle.std.specs.Option.{option_map_or}
use Rattle.std.proofs.lemmas.Option.{slice_get_past}
use Rattle.std.proofs.lemmas.Bool.{agree_below, agree_below_at, cases_lt, cases_eq, ne_eqb, lt-ltb, or_parts}
use Rattle.cxl_enc.proofs.Tests.{either}
use Rattle.cxl_regs.specs.declared.decoder.Decoder.{Decoder}
use Rattle.cxl_regs.specs.Registers.{Registers}
use Rattle.cxl_regs.specs.Rules.{before}
use Rattle.cxl_span.specs.Spans.{span_start_of}
use Rattle.cxl_span.specs.Rules.{breaks_rule, breaks_commit_order, breaks_flags, breaks_codes, breaks_select, breaks_size, breaks_base_order, breaks_capacity}
use Rattle.cxl_span.specs.Breaches.{breaks as block_breaks}
use Rattle.cxl_model.specs.System.{System, decoders_at, decoder_at, ram_at, pmem_at}
use Rattle.cxl_model.specs.Rules.{keeps_window, keeps_targets, keeps_reach, keeps_ways}
use Rattle.cxl_model.specs.Accepted.{breaks, breaks_caps, breaks_block, breaks_at, IsAccepted, IsFirstBreach}

-- nothing is broken past a node's decoders, past all nodes, nor past the last rule
pub record Ends : Type 0 where
  pub decoders : (s : System) (rule n i : ℕ) → 1 + length (decoders_at s n) ≤ i → breaks s rule n i ≡ false
  pub nodes : (s : System) (rule n i : ℕ) → 1 + length s.nodes + length s.blocks ≤ n → breaks s rule n i ≡ false
  pub rules : (s : System) (rule n i : ℕ) → 13 ≤ rule → breaks s rule n i ≡ false

-- no decoder of any node breaks the rule, and none breaks a rule below it
abbrev pub KeepsRule : System → ℕ → Type 0
KeepsRule s rule = (n i : ℕ) → breaks s rule n i ≡ false

abbrev pub KeepsBelow : System → ℕ → Type 0
KeepsBelow s rule = (lower n i : ℕ) → lower < rule → breaks s lower n i ≡ false

-- a test of places that holds of none below this node and this decoder holds of none at all, where there is none past them
none_below : (test : ℕ → ℕ → Bool) (nodes : ℕ) (decoders : ℕ → ℕ) → agree_below (λ n. agree_below (test n) (λ i. false) (decoders n)) (λ n. true) nodes ≡ true
    → ((n i : ℕ) → nodes ≤ n → test n i ≡ false) → ((n i : ℕ) → decoders n ≤ i → test n i ≡ false) → (n i : ℕ) → test n i ≡ false
none_below test nodes decoders none past_nodes past_decoders n i =
    elim (cases_lt n nodes) [
      | inr past ↦ past_nodes n i past
      | inl below ↦ elim (cases_lt i (decoders n)) [
        | inr past ↦ past_decoders n i past
        | inl inside ↦
            agree_below_at (test n) (λ j. false) (decoders n) i
            (agree_below_at (λ m. agree_below (test m) (λ j. false) (decoders m)) (λ m. true) nodes n none below) inside
      ]
    ]

abbrev IsOff : Bool → Type 0
IsOff b = b ≡ false

-- ---- K1

abbrev pub caps_hold : System → Bool
caps_hold s = agree_below (λ n. agree_below (breaks_caps s n) (λ i. false) 1) (λ n. true) (1 + length s.nodes + length s.blocks)

caps_kept : Ends → (s : System) → caps_hold s ≡ true → KeepsRule s 1
unfolding breaks
caps_kept ends s hold n i =
    none_below (breaks_caps s) (1 + length s.nodes + length s.blocks) (λ m. 1) hold (λ m j past. ends.nodes s 1 m j past)
    (λ m j past. rw (ne_eqb j 0 (omega arith)) refl) n i

-- ---- K2 to K8

-- the decoder breaks one of them
abbrev breaks_some : Registers → ℕ → ℕ → Option Decoder → ℕ → Decoder → Bool
breaks_some block ram pmem below start d =
    breaks_commit_order block below d || breaks_flags d || breaks_codes block d || breaks_select block d || breaks_size block d
    || breaks_base_order below d || breaks_capacity block ram pmem start d

abbrev block_breaks_some : Registers → ℕ → ℕ → ℕ → Bool
block_breaks_some block ram pmem i =
    option_map_or (breaks_some block ram pmem (before block.decoders i) (span_start_of block.decoders i)) (slice_get block.decoders i) false

abbrev breaks_some_at : System → ℕ → ℕ → Bool
breaks_some_at s n i = option_map_or (λ block. block_breaks_some block (ram_at s n) (pmem_at s n) i) (slice_get s.blocks n) false

abbrev pub blocks_hold : System → Bool
blocks_hold s = agree_below (λ n. agree_below (breaks_some_at s n) (λ i. false) (length (decoders_at s n))) (λ n. true) (length s.blocks)

chosen_is_false : (rule : ℕ) (a b c d e f g : Bool) → (a || b || c || d || e || f || g) ≡ false
    → (if rule == 2 then a
    else (if rule == 3 then b
    else (if rule == 4 then c
    else (if rule == 5 then d
    else (if rule == 6 then e
    else (if rule == 7 then f
    else (if rule == 8 then g
    else false))))))) ≡ false
chosen_is_false rule a b c d e f g none =
    let to_g = or_parts (a || b || c || d || e || f) g none in
    let to_f = or_parts (a || b || c || d || e) f to_g.0 in
    let to_e = or_parts (a || b || c || d) e to_f.0 in
    let to_d = or_parts (a || b || c) d to_e.0 in
    let to_c = or_parts (a || b) c to_d.0 in
    let to_b = or_parts a b to_c.0 in
    either IsOff (rule == 2) _ _ to_b.0
    (either IsOff (rule == 3) _ _ to_b.1
    (either IsOff (rule == 4) _ _ to_c.1
    (either IsOff (rule == 5) _ _ to_d.1
    (either IsOff (rule == 6) _ _ to_e.1
    (either IsOff (rule == 7) _ _ to_f.1
    (either IsOff (rule == 8) _ _ to_g.1 refl))))))

some_at : (rule : ℕ) (block : Registers) (ram pmem i : ℕ) (o : Option Decoder)
    → option_map_or (breaks_some block ram pmem (before block.decoders i) (span_start_of block.decoders i)) o false ≡ false
    → option_map_or (breaks_rule rule block ram pmem (before block.decoders i) (span_start_of block.decoders i)) o false ≡ false
some_at rule block ram pmem i None none = refl
some_at rule block ram pmem i (Some d) none = chosen_is_false rule _ _ _ _ _ _ _ none

some_in : (rule : ℕ) (ram pmem i : ℕ) (o : Option Registers) → option_map_or (λ (block : Registers). block_breaks_some block ram pmem i) o false ≡ false
    → option_map_or (λ (block : Registers). block_breaks rule block ram pmem i) o false ≡ false
unfolding block_breaks
some_in rule ram pmem i None none = refl
some_in rule ram pmem i (Some block) none = some_at rule block ram pmem i (slice_get block.decoders i) none

some_past : (ram pmem i : ℕ) (o : Option Registers) → length (option_map_or (λ (block : Registers). block.decoders) o []) ≤ i
    → option_map_or (λ (block : Registers). block_breaks_some block ram pmem i) o false ≡ false
some_past ram pmem i None past = refl
some_past ram pmem i (Some block) past = rw (slice_get_past block.decoders i past) refl

pub block_kept : (s : System) (rule : ℕ) → blocks_hold s ≡ true → (n i : ℕ) → breaks_block s rule n i ≡ false
block_kept s rule hold n i =
    some_in rule (ram_at s n) (pmem_at s n) i (slice_get s.blocks n)
    (none_below (breaks_some_at s) (length s.blocks) (λ m. length (decoders_at s m)) hold (λ m j past. rw (slice_get_past s.blocks m past) refl)
    (λ m j past. some_past (ram_at s m) (pmem_at s m) j (slice_get s.blocks m) past) n i)

low_rule : (s : System) (rule n i : ℕ) → rule < 9 → (rule ≡ 1 → ⊥) → breaks s rule n i ≡ breaks_block s rule n i
unfolding breaks
low_rule s rule n i low other = rw (ne_eqb rule 1 other, lt-ltb rule 9 low) refl

-- K1 to K8
pub below_nine : Ends → (s : System) → caps_hold s ≡ true → blocks_hold s ≡ true → KeepsBelow s 9
below_nine ends s caps blocks rule n i low =
    elim (cases_eq rule 1) [
      | inl first ↦ subst (λ (k : ℕ). breaks s k n i ≡ false) (sym first) (caps_kept ends s caps n i)
      | inr other ↦ low_rule s rule n i low other ∙ block_kept s rule blocks n i
    ]

-- ---- K9 to K12

-- each committed decoder passes
abbrev pub at_hold : System → (ℕ → ℕ → Decoder → Bool) → Bool
at_hold s keeps =
    agree_below (λ n. agree_below (λ i. breaks_at s n i (keeps n i)) (λ i. false) (length (decoders_at s n))) (λ n. true) (length s.blocks)

no_block : (s : System) (n i : ℕ) → length s.blocks ≤ n → decoder_at s n i ≡ None
no_block s n i past = rw (slice_get_past s.blocks n past) refl

at_kept : (s : System) (keeps : ℕ → ℕ → Decoder → Bool) → at_hold s keeps ≡ true → (n i : ℕ) → breaks_at s n i (keeps n i) ≡ false
at_kept s keeps hold n i =
    none_below (λ m j. breaks_at s m j (keeps m j)) (length s.blocks) (λ m. length (decoders_at s m)) hold
    (λ m j past. rw (no_block s m j past) refl) (λ m j past. rw (slice_get_past (decoders_at s m) j past) refl) n i

abbrev pub windows_hold : System → Bool
windows_hold s = at_hold s (keeps_window s)

abbrev pub targets_hold : System → Bool
targets_hold s = at_hold s (λ n i. keeps_targets s n)

abbrev pub reach_holds : System → Bool
reach_holds s = at_hold s (λ n i. keeps_reach s n)

abbrev pub ways_hold : System → Bool
ways_hold s = at_hold s (keeps_ways s)

window_kept : (s : System) → windows_hold s ≡ true → KeepsRule s 9
unfolding breaks
window_kept s hold = at_kept s (keeps_window s) hold

targets_kept : (s : System) → targets_hold s ≡ true → KeepsRule s 10
unfolding breaks
targets_kept s hold = at_kept s (λ n i. keeps_targets s n) hold

reach_kept : (s : System) → reach_holds s ≡ true → KeepsRule s 11
unfolding breaks
reach_kept s hold = at_kept s (λ n i. keeps_reach s n) hold

ways_kept : (s : System) → ways_hold s ≡ true → KeepsRule s 12
unfolding breaks
ways_kept s hold = at_kept s (keeps_ways s) hold

next : (s : System) (rule more : ℕ) → more ≡ rule + 1 → KeepsBelow s rule → KeepsRule s rule → KeepsBelow s more
next s rule more is below here lower n i low =
    elim (cases_eq lower rule) [
      | inl same ↦ subst (λ (k : ℕ). breaks s k n i ≡ false) (sym same) (here n i)
      | inr other ↦ below lower n i (omega arith)
    ]

pub below_ten : Ends → (s : System) → caps_hold s ≡ true → blocks_hold s ≡ true → windows_hold s ≡ true → KeepsBelow s 10
below_ten ends s caps blocks windows = next s 9 10 refl (below_nine ends s caps blocks) (window_kept s windows)

pub below_eleven : Ends → (s : System) → caps_hold s ≡ true → blocks_hold s ≡ true → windows_hold s ≡ true → targets_hold s ≡ true → KeepsBelow s 11
below_eleven ends s caps blocks windows targets = next s 10 11 refl (below_ten ends s caps blocks windows) (targets_kept s targets)

pub below_twelve : Ends → (s : System) → caps_hold s ≡ true → blocks_hold s ≡ true → windows_hold s ≡ true → targets_hold s ≡ true → reach_holds s ≡ true
    → KeepsBelow s 12
below_twelve ends s caps blocks windows targets reach = next s 11 12 refl (below_eleven ends s caps blocks windows targets) (reach_kept s reach)

pub accepted_from : Ends → (s : System) → caps_hold s ≡ true → blocks_hold s ≡ true → windows_hold s ≡ true → targets_hold s ≡ true → reach_holds s ≡ true
    → ways_hold s ≡ true → IsAccepted s
accepted_from ends s caps blocks windows targets reach ways =
    let all = next s 12 13 refl (below_twelve ends s caps blocks windows targets reach) (ways_kept s ways) in
    record { each = λ rule n i. elim (cases_lt rule 13) [ inl low ↦ all rule n i low | inr past ↦ ends.rules s rule n i past ] }

-- ---- the first breach

-- no decoder of a node below n breaks the rule
abbrev pub nodes_hold : System → ℕ → ℕ → Bool
nodes_hold s rule n = agree_below (λ m. agree_below (breaks s rule m) (λ i. false) (1 + length (decoders_at s m))) (λ m. true) n

node_kept : Ends → (s : System) (rule n m i : ℕ) → nodes_hold s rule n ≡ true → m < n → breaks s rule m i ≡ false
node_kept ends s rule n m i hold below =
    elim (cases_lt i (1 + length (decoders_at s m))) [
      | inr past ↦ ends.decoders s rule m i past
      | inl inside ↦
          agree_below_at (breaks s rule m) (λ j. false) (1 + length (decoders_at s m)) i
          (agree_below_at (λ k. agree_below (breaks s rule k) (λ j. false) (1 + length (decoders_at s k))) (λ k. true) n m hold below) inside
    ]

pub first_breach_from : Ends → (s : System) (rule n i : ℕ) → KeepsBelow s rule → nodes_hold s rule n ≡ true → agree_below (breaks s rule n) (λ j. false) i ≡ true
    → breaks s rule n i ≡ true → IsFirstBreach s rule n i
first_breach_from ends s rule n i rules nodes decoders broken = record {
  broken = broken;
  rules = rules;
  nodes = λ lower j below. node_kept ends s rule n lower j nodes below;
  decoders = λ lower below. agree_below_at (breaks s rule n) (λ j. false) i lower decoders below;
}

-- of the lower rules, and of all nodes, where the image breaks one of K2 to K8
pub below_three : Ends → (s : System) → agree_below (λ lower. nodes_hold s lower (1 + length s.nodes + length s.blocks)) (λ k. true) 3 ≡ true → KeepsBelow s 3
below_three ends s hold lower n i low =
    elim (cases_lt n (1 + length s.nodes + length s.blocks)) [
      | inr past ↦ ends.nodes s lower n i past
      | inl below ↦
          node_kept ends s lower (1 + length s.nodes + length s.blocks) n i
          (agree_below_at (λ k. nodes_hold s k (1 + length s.nodes + length s.blocks)) (λ k. true) 3 lower hold low) below
    ]
