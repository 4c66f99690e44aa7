-- The numbers of the way up: an address is told by its place in a span and the way that it goes.
use Rattle.std.proofs.Common.{◌≡◌, ℕ, ◌+◌, ◌*◌, ◌/◌, ◌%◌, ◌<◌, ◌≤◌, sym, ap, ◌∙◌, subst, arith}
use Rattle.std.proofs.Math.Nat.{mul_comm, mul-le-mul_right, mul-add-mod_self_left, mod-eq_of_lt, mod-lt, div-add-mod, div-lt_iff_lt-mul, mul-add-div, div-div-eq-div-mul, one-mul}

-- the quotient and the remainder of q chunks and r bytes
parts : (g q r : ℕ) → r < g → ((q * g + r) / g ≡ q) × ((q * g + r) % g ≡ r)
parts g q r below =
    let some : 0 < g = omega arith in
    let turned : q * g + r ≡ g * q + r = ap (λ (x : ℕ). x + r) (mul_comm q g) in
    let none : r / g ≡ 0 = no_chunk g r below in (
      ap (λ (x : ℕ). x / g) turned ∙ mul-add-div some q r ∙ ap (λ (x : ℕ). q + x) none ∙ omega arith,
      ap (λ (x : ℕ). x % g) turned ∙ mul-add-mod_self_left g q r ∙ mod-eq_of_lt below,
    )
  where
    no_chunk : (g r : ℕ) → r < g → r / g ≡ 0
    no_chunk g r less =
        let at_most = (div-lt_iff_lt-mul {k = g} {x = r} {y = 1} (omega arith)).1 (subst (λ (z : ℕ). r < z) (sym (one-mul g)) less) in
        omega arith

-- the place of an address and its way tell it
pub by_way : (g w x along : ℕ) → 0 < g → 0 < w → along ≡ x / (g * w) * g + x % g → x ≡ (along / g * w + x / g % w) * g + along % g
by_way g w x along some_g some_w place =
    let q : ℕ = x / (g * w) in
    let c : ℕ = x / g in
    let r : ℕ = x % g in
    let tell = parts g q r (mod-lt x some_g) in
    let chunk : along / g ≡ q = ap (λ (y : ℕ). y / g) place ∙ tell.0 in
    let rest : along % g ≡ r = ap (λ (y : ℕ). y % g) place ∙ tell.1 in
    let turn : q ≡ c / w = sym (div-div-eq-div-mul x g w) in
    let upper : c ≡ w * (c / w) + c % w = sym (div-add-mod c w) in
    let whole : x ≡ g * c + r = sym (div-add-mod x g) in
    let both : q * w + c % w ≡ c = ap (λ (y : ℕ). y * w + c % w) turn ∙ ap (λ (y : ℕ). y + c % w) (mul_comm (c / w) w) ∙ sym upper in
    let made : (along / g * w + c % w) * g + along % g ≡ c * g + r =
    ap (λ (y : ℕ). (y * w + c % w) * g + along % g) chunk ∙ ap (λ (y : ℕ). y * g + along % g) both ∙ ap (λ (y : ℕ). c * g + y) rest in
    whole ∙ ap (λ (y : ℕ). y + r) (mul_comm g c) ∙ sym made

-- later ways have higher addresses
pub ways_rise : (base a g rest way other : ℕ) → way ≤ other → base + (a + way) * g + rest ≤ base + (a + other) * g + rest
ways_rise base a g rest way other least =
    let up : (a + way) * g ≤ (a + other) * g = mul-le-mul_right g (omega arith) in
    omega (arith, up)
