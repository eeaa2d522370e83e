-- The chain store's tables with one corner at another vertex.
use Rattle.std.proofs.Common.{◌≡◌, ℕ, ◌+◌, ◌*◌, ◌/◌, ◌<◌, ◌≤◌, Bool, true, false, cond, eqb, ltb, List, length, get_or, set, Some, None, Option, sym, refl, ap, ◌∙◌, ⊎_elim, arith, length-set}
use Rattle.std.proofs.lemmas.Bool.{cases_eq, eq-eqb, ne_eqb, lt-ltb, cond-true, cond-false}
use Rattle.std.proofs.lemmas.Bool.Decides.{nat_tests}
use Rattle.mesh.specs.Growth.{with_corner, changed}
use Rattle.stores.specs.declared.chain_record.ChainTriangle.{ChainTriangle}
use Rattle.stores.specs.declared.chain_record.ChainVertex.{ChainVertex}
use Rattle.stores.specs.Records.{front}
use Rattle.stores.specs.Chains.{chain_corner, no_triangle, corners_in, with_link, vertex_at, next_at, first_at, with_first, put_corner, put_first, relinked, refirsted, Holds}
use Rattle.stores.specs.Before.{Before}
use Rattle.stores.proofs.Fronts.{front_changed}
use Rattle.stores.proofs.Corners.{triangles_kept, vertices_kept, corners_with, put_at}
use Rattle.stores.proofs.Stages.{Whole, Kept, whole_held, whole_kept, stage_link, stage_unlink, Follows}

-- the corner before i is at the same vertex, since its chain holds the corners there
follows : (n : ℕ) (rs : List ChainTriangle) (vs : List ChainVertex) (i v : ℕ) (before : Option ℕ) → n ≤ length rs → Holds (3 * n) rs (first_at vs v) v → Before (3 * n) rs (first_at vs v) i before → Follows (λ j. ltb j (3 * n)) rs vs i v before
follows n rs vs i v None k holds b = b
follows n rs vs i v (Some p) k holds b = let h = holds p in grind (arith, nat_tests)

-- corner k of triangle t may become the vertex v
pub record Moves (n m t k v : ℕ) (rs : List ChainTriangle) : Type 0 where
  pub one : t < n
  pub corner : k < 3
  pub vertex : v < m
  pub low : vertex_at rs (3 * t + k) < m

-- what a corner that goes out leaves as it was
relinked_front : (n : ℕ) (rs : List ChainTriangle) (before : Option ℕ) (y : ℕ) → front corners_in n (relinked rs before y) ≡ front corners_in n rs
relinked_front n rs None y = refl
relinked_front n rs (Some p) y = triangles_kept n rs p y

pub relinked_long : (rs : List ChainTriangle) (before : Option ℕ) (y : ℕ) → length (relinked rs before y) ≡ length rs
relinked_long rs None y = refl
relinked_long rs (Some p) y = length-set rs (p / 3) _

refirsted_front : {X : Type 0} (f : ChainVertex → X) → ((r : ChainVertex) (h : ℕ) → f (with_first r h) ≡ f r) → (m : ℕ) (vs : List ChainVertex) (before : Option ℕ) (v y : ℕ) → front f m (refirsted vs before v y) ≡ front f m vs
refirsted_front f fh m vs None v y = vertices_kept f fh m vs v y
refirsted_front f fh m vs (Some p) v y = refl

pub refirsted_tall : (vs : List ChainVertex) (before : Option ℕ) (v y : ℕ) → length (refirsted vs before v y) ≡ length vs
refirsted_tall vs None v y = length-set vs v _
refirsted_tall vs (Some p) v y = refl

-- the tables rs' and vs' have v for corner k of triangle t of rs, and the vertices of vs
pub record Moved {X : Type 0} (f : ChainVertex → X) (n m : ℕ) (rs : List ChainTriangle) (vs : List ChainVertex) (t k v : ℕ) (rs' : List ChainTriangle) (vs' : List ChainVertex) : Type 0 where
  pub kept : Kept (3 * n) m rs' vs'
  pub triangles : front corners_in n rs' ≡ changed (with_corner k v) t (front corners_in n rs)
  pub vertices : front f m vs' ≡ front f m vs
  pub long : length rs' ≡ length rs
  pub tall : length vs' ≡ length vs

-- corner k of triangle t goes out of the chain at its vertex, and is linked in at v
pub moved : {X : Type 0} (f : ChainVertex → X) → ((r : ChainVertex) (h : ℕ) → f (with_first r h) ≡ f r) → (n m t k v : ℕ) (before : Option ℕ) (rs rs₁ rs₂ : List ChainTriangle) (vs vs₁ vs₂ : List ChainVertex) → Kept (3 * n) m rs vs → n ≤ length rs → m ≤ length vs → Moves n m t k v rs → Before (3 * n) rs (first_at vs (vertex_at rs (3 * t + k))) (3 * t + k) before → rs₁ ≡ relinked rs before (next_at rs (3 * t + k)) → vs₁ ≡ refirsted vs before (vertex_at rs (3 * t + k)) (next_at rs (3 * t + k)) → rs₂ ≡ put_corner rs₁ (3 * t + k) (chain_corner v (first_at vs₁ v)) → vs₂ ≡ put_first vs₁ v (3 * t + k + 1) → Moved f n m rs vs t k v rs₂ vs₂
moved f fh n m t k v before rs rs₁ rs₂ vs vs₁ vs₂ kept ln lm q p e₁ d₁ e₂ d₂ =
    let s = whole_held (3 * n) m rs vs kept.placed kept.ends kept.holds in
    let lt : t < n = q.one in
    let lk : k < 3 = q.corner in
    let i = 3 * t + k in
    let u = vertex_at rs i in
    let y = next_at rs i in
    let on : ℕ → Bool = λ j. ltb j (3 * n) in
    let out : ℕ → Bool = λ j. cond (eqb j i) false (ltb j (3 * n)) in
    let was : on i ≡ true = lt-ltb i (3 * n) (omega arith) in
    let off : out i ≡ false = cond-true (eqb i i) false (ltb i (3 * n)) (eq-eqb i i refl) in
    let others : (j : ℕ) → (j ≡ i → ⊥) → out j ≡ on j = λ j y. cond-false (eqb j i) false (ltb j (3 * n)) (ne_eqb j i y) in
    let fewer : (j : ℕ) → out j ≡ true → on j ≡ true = λ j z. ⊎_elim (λ (e : j ≡ i). ap on e ∙ was) (λ (y : j ≡ i → ⊥). sym (others j y) ∙ z) (cases_eq j i) in
    let l₁ : length rs₁ ≡ length rs = ap length e₁ ∙ relinked_long rs before y in
    let t₁ : length vs₁ ≡ length vs = ap length d₁ ∙ refirsted_tall vs before u y in
    let s₁ = stage_unlink on out m rs rs₁ vs vs₁ i u before s q.low lm refl was off others fewer (follows n rs vs i u before ln (kept.holds u q.low) p) e₁ d₁ in
    let s₂ : Whole (3 * n) m rs₂ vs₂ = stage_link out on m rs₁ rs₂ vs₁ vs₂ i v s₁ (omega arith) q.vertex (omega arith) off was (λ j y. sym (others j y)) e₂ d₂ in
    let x = chain_corner v (first_at vs₁ v) in
    let r = get_or rs₁ t no_triangle in
    let written : rs₂ ≡ set rs₁ t (with_link r k x) = e₂ ∙ put_at rs₁ t k x lk in
    record {
      kept = whole_kept (3 * n) m rs₂ vs₂ s₂;
      triangles = ap (front corners_in n) written
          ∙ front_changed corners_in (with_corner k v) n rs₁ t (with_link r k x) no_triangle lt (omega arith) (corners_with r k v (first_at vs₁ v))
          ∙ ap (changed (with_corner k v) t) (ap (front corners_in n) e₁ ∙ relinked_front n rs before y);
      vertices = ap (front f m) d₂ ∙ vertices_kept f fh m vs₁ v (i + 1) ∙ ap (front f m) d₁ ∙ refirsted_front f fh m vs before u y;
      long = ap length written ∙ length-set rs₁ t (with_link r k x) ∙ l₁;
      tall = ap length d₂ ∙ length-set vs₁ v _ ∙ t₁;
    }
