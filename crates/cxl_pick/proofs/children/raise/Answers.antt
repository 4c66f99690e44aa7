use Rattle.std.proofs.Common.{◌≡◌, ℕ, ◌<◌, ◌≤◌, List, length, get_or, set, refl, sym, ap, subst, ◌∙◌, inl, inr, arith}
use Rattle.std.proofs.lemmas.Bool.{cases_eq}
use Rattle.std.proofs.lemmas.List.{get_or_read, length-set, get_or-set_same, get_or-set_other}
use Rattle.cxl_pick.proofs.children.raise.Goals as goal
use Rattle.cxl_pick.proofs.children.raise.Goals.{else-node-len-via-then-node-len+else-index-place, else-node-len-via-else-node-len}

as_high : (n : ℕ) → n ≤ n
as_high n = omega arith

within_length : (node len : ℕ) (xs : List ℕ) → node < len → len ≡ length xs → node < length xs
within_length node len xs below long = omega arith

-- a place that is raised is as high as before, and so is each other one
raised_at : (xs : List ℕ) (i v n : ℕ) → i < length xs → get_or xs i 0 ≤ v → get_or xs n 0 ≤ get_or (set xs i v) n 0
raised_at xs i v n within low =
    elim (cases_eq n i) [
      | inl same ↦
          let old = ap (λ (j : ℕ). get_or xs j 0) same in
          let new = ap (λ (j : ℕ). get_or (set xs i v) j 0) same ∙ get_or-set_same xs i v 0 within in
          omega (arith, low, old, new)
      | inr other ↦ let new = get_or-set_other xs i n v 0 other in omega (arith, new)
    ]

lower : (read kept port : ℕ) → read ≡ kept → read < port → kept ≤ port
lower read kept port same below = omega arith

pub returns-then-index-place : goal.returns-then-index-place
returns-then-index-place c =
    let highest : List ℕ = c.args.highest.now.items in
    let node : ℕ = c.args.place.now.node in
    let port : ℕ = c.args.place.now.port in
    let within = within_length node c.len.result highest c.if-node-len.true (c.len.ensures ∙ c.args.highest.now.ok.0) in
    let low = lower c.index.result.now (get_or highest node 0) port (get_or_read highest node c.index.result.now within c.index.ensures 0) c.if-index-place.true in
    record {
      count = length-set highest node port;
      kept = λ n _. raised_at highest node port n within low;
      raised = λ _. subst (λ (n : ℕ). port ≤ n) (sym (get_or-set_same highest node port 0 within)) (as_high port);
    }

pub returns-else-node-len : goal.returns-else-node-len
returns-else-node-len c =
    let highest : List ℕ = c.args.highest.now.items in
    let node : ℕ = c.args.place.now.node in
    let port : ℕ = c.args.place.now.port in
    record {
      count = refl;
      kept = λ n _. as_high (get_or highest n 0);
      raised = λ within.
          elim c.else-node-len.branch [
            | else-node-len-via-then-node-len+else-index-place w ↦
                subst (λ (n : ℕ). port ≤ n) (get_or_read highest node w.index.result.now within w.index.ensures 0) w.if-index-place.false
            | else-node-len-via-else-node-len w ↦ absurd (outside node c.len.result highest w.if-node-len.false (c.len.ensures ∙ c.args.highest.now.ok.0) within)
          ];
    }
  where
    outside : (n len : ℕ) (xs : List ℕ) → len ≤ n → len ≡ length xs → n < length xs → ⊥
    outside n len xs past long within = omega arith
