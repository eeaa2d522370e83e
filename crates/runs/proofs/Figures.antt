-- Vertices less edges plus triangles.
use Rattle.std.proofs.Common.{◌≡◌, ℕ, ◌+◌, ℤ, pos, ◌+ℤ◌, ◌-ℤ◌, sym, ap, ◌∙◌}
use lib.IntN.{+ℤ_assoc, +ℤ_comm, +ℤ-neg_ℤ_cancel, -ℤ-+ℤ_cancel}

-- the last two summands change places
swapped : (a b c : ℤ) → (a +ℤ b) +ℤ c ≡ (a +ℤ c) +ℤ b
swapped a b c = +ℤ_assoc a b c ∙ ap (λ x. a +ℤ x) (+ℤ_comm b c) ∙ sym (+ℤ_assoc a c b)

-- with e and c added, the figure of v, e and t is a sum
raised : (v e t c : ℕ) → ((pos v -ℤ pos e) +ℤ pos t) +ℤ (pos e +ℤ pos c) ≡ pos (v + t + c)
raised v e t c =
    sym (+ℤ_assoc ((pos v -ℤ pos e) +ℤ pos t) (pos e) (pos c))
    ∙ ap (λ x. x +ℤ pos c) (swapped (pos v -ℤ pos e) (pos t) (pos e) ∙ ap (λ x. x +ℤ pos t) (-ℤ-+ℤ_cancel (pos v) (pos e)))

-- what holds of the sums holds of the figures
pub figures_agree : (v e t b c u : ℕ) → v + t + c ≡ b + u + e → (pos v -ℤ pos e) +ℤ pos t ≡ (pos b -ℤ pos c) +ℤ pos u
figures_agree v e t b c u h =
    let x = (pos v -ℤ pos e) +ℤ pos t in
    let y = (pos b -ℤ pos c) +ℤ pos u in
    let k = pos e +ℤ pos c in
    let same : x +ℤ k ≡ y +ℤ k = raised v e t c ∙ ap pos h ∙ sym (ap (λ z. y +ℤ z) (+ℤ_comm (pos e) (pos c)) ∙ raised b c u e) in
    sym (+ℤ-neg_ℤ_cancel x k) ∙ ap (λ z. z -ℤ k) same ∙ +ℤ-neg_ℤ_cancel y k
