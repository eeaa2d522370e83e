-- The last byte of numbers that are packed n to a byte.
use Rattle.std.proofs.Common.{◌≡◌, ℕ, suc, ◌+◌, ◌-◌, ◌*◌, ◌/◌, ◌%◌, ◌^◌, ◌<◌, ◌≤◌, sym, ap, ◌∙◌, ⊎_elim, mod-eq_of_lt, mul_comm, mul-suc, mul-zero, arith}
use Rattle.std.proofs.Math.Nat.{mod-one, mod_self, zero-mod}
use Rattle.std.proofs.lemmas.Nat.{div-add-mod', div-mul-add, mod_below}
use Rattle.std.proofs.lemmas.Bool.{cases_lt}
use Rattle.record.specs.Packing.{bytes_for, spare_of}

-- m numbers fill k bytes, and j of them stand in the byte behind these
pub record Ends (n m k j : ℕ) : Type 0 where
  pub bytes : bytes_for n m ≡ suc k
  pub numbers : m ≡ n * k + j
  pub some : 0 < j
  pub few : j ≤ n
  pub spare : (n - m % n) % n ≡ n - j

pub ends : (n m : ℕ) → 0 < n → 0 < m → (k : ℕ) × ((j : ℕ) × Ends n m k j)
ends n m pos more = ⊎_elim partly fully (cases_lt 0 (m % n))
  where
    q : ℕ
    q = m / n

    split : m ≡ n * q + m % n
    split = sym (div-add-mod' m n) ∙ ap (λ (t : ℕ). t + m % n) (mul_comm q n)

    partly : 0 < m % n → (k : ℕ) × ((j : ℕ) × Ends n m k j)
    partly h =
        let r = m % n in
        let below : r < n = mod_below m n pos in
        let next : suc q * n ≡ n * q + n = mul_comm (suc q) n ∙ mul-suc n q in
        let e : m + (n - 1) ≡ suc q * n + (r - 1) = omega (arith, split, next) in (
          q,
          (
            r,
            record {
              bytes = ap (λ (t : ℕ). t / n) e ∙ div-mul-add (suc q) n (r - 1) (omega arith);
              numbers = split;
              some = h;
              few = omega arith;
              spare = mod-eq_of_lt (omega arith);
            },
          ),
        )

    fully : m % n ≤ 0 → (k : ℕ) × ((j : ℕ) × Ends n m k j)
    fully h = ⊎_elim whole (λ z. absurd (nothing z)) (cases_lt 0 q)
      where
        nothing : q ≤ 0 → ⊥
        nothing z = let e : n * q ≡ 0 = ap (λ (t : ℕ). n * t) (omega arith) ∙ mul-zero n in omega (arith, split)

        whole : 0 < q → (k : ℕ) × ((j : ℕ) × Ends n m k j)
        whole z =
            let k = q - 1 in
            let one_more : q ≡ suc k = omega arith in
            let next : n * q ≡ n * k + n = ap (λ (t : ℕ). n * t) one_more ∙ mul-suc n k in
            let e : m + (n - 1) ≡ q * n + (n - 1) = omega (arith, split, mul_comm q n) in
            let none : n - m % n ≡ n = omega arith in (
              k,
              (
                n,
                record {
                  bytes = ap (λ (t : ℕ). t / n) e ∙ div-mul-add q n (n - 1) (omega arith) ∙ one_more;
                  numbers = omega (arith, split, next);
                  some = pos;
                  few = omega arith;
                  spare = ap (λ (t : ℕ). t % n) none ∙ mod_self n ∙ omega arith;
                },
              ),
            )

-- no numbers leave no bits over
pub none_spare : (w n m b : ℕ) → m ≤ 0 → spare_of w n m b ≡ 0
none_spare w n m b h =
    let zero_left : (n - m % n) % n ≡ 0 = ap (λ (t : ℕ). (n - t % n) % n) (omega arith) ∙ ap (λ (t : ℕ). (n - t) % n) (zero-mod n) ∙ ap (λ (t : ℕ). t % n) (omega arith) ∙ mod_self n in
    ap (λ (t : ℕ). b % 2 ^ t) (ap (λ (t : ℕ). w * t) zero_left ∙ mul-zero w) ∙ mod-one b
