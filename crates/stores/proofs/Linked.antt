-- The chain store's tables with one more vertex, and with one more triangle.
use Rattle.std.proofs.Common.{◌≡◌, ℕ, ◌+◌, ◌*◌, ◌/◌, ◌<◌, ◌≤◌, min, true, ltb, List, [], ◌∷◌, ◌++◌, length, set, refl, ap, ◌∙◌, subst, arith, length-set}
use Rattle.std.proofs.lemmas.List.{get_or-set_same, get_or-set_other}
use Rattle.mesh.specs.Triangles.{Tri, tri}
use Rattle.mesh.specs.Growth.{triangle_fits}
use Rattle.stores.specs.declared.chain_record.ChainTriangle.{ChainTriangle}
use Rattle.stores.specs.declared.chain_record.ChainVertex.{ChainVertex}
use Rattle.stores.specs.Records.{front}
use Rattle.stores.specs.Chains.{chain_corner, chain_triangle, no_vertex, corners_in, vertex_at, next_at, first_at, with_first, put_corner, put_first}
use Rattle.stores.proofs.Fronts.{front_push}
use Rattle.stores.proofs.Growing.{triangle_has_room, triangle_within}
use Rattle.stores.proofs.Corners.{vertices_kept, put_three}
use Rattle.stores.proofs.Sound.{sound_more}
use Rattle.stores.proofs.Stages.{Whole, Kept, whole_held, whole_kept, whole_link}

-- a new vertex, whose chain is empty
pub more_vertex : (n m : ℕ) (rs : List ChainTriangle) (vs : List ChainVertex) (r : ChainVertex) → Whole n m rs vs → r.first ≡ 0 → m < length vs → Kept n (m + 1) rs (set vs m r)
more_vertex n m rs vs r s e h =
    whole_kept n (m + 1) rs (set vs m r) (record {
      sound = sound_more (λ i. ltb i n) m (next_at rs) (vertex_at rs) (first_at vs) (first_at (set vs m r)) s.sound
          (ap (λ z. z.first) (get_or-set_same vs m r no_vertex h) ∙ e)
          (λ v l. ap (λ z. z.first) (get_or-set_other vs m v r no_vertex (λ q. omega arith)))
          s.placed;
      placed = λ j y. omega (arith, s.placed j y);
    })

-- the tables rs' and vs' have the triangle t behind those of rs, and the vertices of vs
pub record Added {X : Type 0} (f : ChainVertex → X) (n m : ℕ) (rs : List ChainTriangle) (vs : List ChainVertex) (t : Tri) (rs' : List ChainTriangle) (vs' : List ChainVertex) : Type 0 where
  pub kept : Kept (3 * (n + 1)) m rs' vs'
  pub triangles : front corners_in (n + 1) rs' ≡ front corners_in n rs ++ (t ∷ [])
  pub vertices : front f m vs' ≡ front f m vs
  pub fit : n + 1 ≤ min (length rs') 32768
  pub long : length rs' ≡ length rs
  pub tall : length vs' ≡ length vs

-- the three corners of triangle n, which fits, are linked in one by one
pub added : {X : Type 0} (f : ChainVertex → X) → ((r : ChainVertex) (h : ℕ) → f (with_first r h) ≡ f r) → (room n m a b c : ℕ) (rs rs₁ rs₂ rs₃ : List ChainTriangle) (vs vs₁ vs₂ vs₃ : List ChainVertex) → Kept (3 * n) m rs vs → m ≤ length vs → room ≡ min (length rs) 32768 → triangle_fits room n m (tri a b c) ≡ true → rs₁ ≡ put_corner rs (3 * n) (chain_corner a (first_at vs a)) → vs₁ ≡ put_first vs a (3 * n + 1) → rs₂ ≡ put_corner rs₁ (3 * n + 1) (chain_corner b (first_at vs₁ b)) → vs₂ ≡ put_first vs₁ b (3 * n + 1 + 1) → rs₃ ≡ put_corner rs₂ (3 * n + 2) (chain_corner c (first_at vs₂ c)) → vs₃ ≡ put_first vs₂ c (3 * n + 2 + 1) → Added f n m rs vs (tri a b c) rs₃ vs₃
added f fh room n m a b c rs rs₁ rs₂ rs₃ vs vs₁ vs₂ vs₃ kept lm er fit e₁ d₁ e₂ d₂ e₃ d₃ =
    let s = whole_held (3 * n) m rs vs kept.placed kept.ends kept.holds in
    let lr = triangle_has_room room n m (tri a b c) fit in
    let ln : n < length rs = omega arith in
    let w = triangle_within room n m a b c fit in
    let la : a < m = w.0 in
    let lb : b < m = w.1 in
    let lc : c < m = w.2 in
    let x = chain_corner a (first_at vs a) in
    let y = chain_corner b (first_at vs₁ b) in
    let z = chain_corner c (first_at vs₂ c) in
    let l₁ : length rs₁ ≡ length rs = ap length e₁ ∙ length-set rs (3 * n / 3) _ in
    let l₂ : length rs₂ ≡ length rs₁ = ap length e₂ ∙ length-set rs₁ ((3 * n + 1) / 3) _ in
    let l₃ : length rs₃ ≡ length rs₂ = ap length e₃ ∙ length-set rs₂ ((3 * n + 2) / 3) _ in
    let t₁ : length vs₁ ≡ length vs = ap length d₁ ∙ length-set vs a _ in
    let t₂ : length vs₂ ≡ length vs₁ = ap length d₂ ∙ length-set vs₁ b _ in
    let t₃ : length vs₃ ≡ length vs₂ = ap length d₃ ∙ length-set vs₂ c _ in
    let s₁ = whole_link (3 * n) m rs rs₁ vs vs₁ a s (omega arith) la lm e₁ d₁ in
    let s₂ = whole_link (3 * n + 1) m rs₁ rs₂ vs₁ vs₂ b s₁ (omega arith) lb (omega arith) e₂ d₂ in
    let q : 3 * n + 1 + 1 ≡ 3 * n + 2 = omega arith in
    let s₂' : Whole (3 * n + 2) m rs₂ vs₂ = subst (λ (i : ℕ). Whole i m rs₂ vs₂) q s₂ in
    let s₃ = whole_link (3 * n + 2) m rs₂ rs₃ vs₂ vs₃ c s₂' (omega arith) lc (omega arith) e₃ d₃ in
    let p : 3 * n + 2 + 1 ≡ 3 * (n + 1) = omega arith in
    let whole : Whole (3 * (n + 1)) m rs₃ vs₃ = subst (λ (i : ℕ). Whole i m rs₃ vs₃) p s₃ in
    let all : rs₃ ≡ set rs n (chain_triangle x y z) =
    e₃ ∙ ap (λ us. put_corner us (3 * n + 2) z) (e₂ ∙ ap (λ us. put_corner us (3 * n + 1) y) e₁) ∙ put_three rs n x y z ln in
    record {
      kept = whole_kept (3 * (n + 1)) m rs₃ vs₃ whole;
      triangles = ap (front corners_in (n + 1)) all ∙ front_push corners_in n rs (chain_triangle x y z) (tri a b c) ln refl;
      vertices = ap (front f m) d₃ ∙ vertices_kept f fh m vs₂ c (3 * n + 2 + 1)
          ∙ ap (front f m) d₂ ∙ vertices_kept f fh m vs₁ b (3 * n + 1 + 1)
          ∙ ap (front f m) d₁ ∙ vertices_kept f fh m vs a (3 * n + 1);
      fit = omega arith;
      long = l₃ ∙ l₂ ∙ l₁;
      tall = t₃ ∙ t₂ ∙ t₁;
    }
