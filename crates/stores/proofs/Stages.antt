-- The tables between two writes.
use Rattle.std.proofs.Common.{◌≡◌, ℕ, ◌+◌, ◌/◌, ◌<◌, ◌≤◌, Bool, true, false, ◌&&◌, eqb, ltb, List, length, Some, None, Option, sym, refl, ap, ◌∙◌, ⊎_elim, add-one, arith}
use Rattle.std.proofs.lemmas.Bool.{cases_eq, le-ltb, lt-ltb, ltb-true}
use Rattle.std.proofs.lemmas.Bool.Decides.{nat_tests}
use Rattle.stores.specs.declared.chain_record.ChainTriangle.{ChainTriangle}
use Rattle.stores.specs.declared.chain_record.ChainVertex.{ChainVertex}
use Rattle.stores.specs.Chains.{chain_corner, corner_at, vertex_at, next_at, first_at, put_corner, put_first, relinked, refirsted, Ends, Holds}
use Rattle.stores.proofs.Corners.{corner_same, corner_other, first_same, first_other}
use Rattle.stores.proofs.Sound.{Sound, sound_held, sound_walk, sound_like, sound_link, sound_unhead, sound_unlink}

-- the chains of the first m vertices hold the corners of `on`, which are at these vertices
pub record Stage (on : ℕ → Bool) (m : ℕ) (rs : List ChainTriangle) (vs : List ChainVertex) : Type 0 where
  pub sound : Sound on m (next_at rs) (vertex_at rs) (first_at vs)
  pub placed : (j : ℕ) → on j ≡ true → vertex_at rs j < m

-- all of the first n corners
abbrev pub Whole : ℕ → ℕ → List ChainTriangle → List ChainVertex → Type 0
Whole n m rs vs = Stage (λ j. ltb j n) m rs vs

pub whole_held : (n m : ℕ) (rs : List ChainTriangle) (vs : List ChainVertex) → ((i : ℕ) → i < n → vertex_at rs i < m) → ((v : ℕ) → v < m → Ends n rs (first_at vs v)) → ((v : ℕ) → v < m → Holds n rs (first_at vs v) v) → Whole n m rs vs
whole_held n m rs vs placed ends holds = record { sound = sound_held n m rs vs ends holds; placed = λ j y. placed j (ltb-true j n y) }

-- what a store keeps of its chains
pub record Kept (n m : ℕ) (rs : List ChainTriangle) (vs : List ChainVertex) : Type 0 where
  pub placed : (i : ℕ) → i < n → vertex_at rs i < m
  pub ends : (v : ℕ) → v < m → Ends n rs (first_at vs v)
  pub holds : (v : ℕ) → v < m → Holds n rs (first_at vs v) v

pub whole_kept : (n m : ℕ) (rs : List ChainTriangle) (vs : List ChainVertex) → Whole n m rs vs → Kept n m rs vs
whole_kept n m rs vs s =
    let w = sound_walk n m rs vs s.sound in
    record { placed = λ i l. s.placed i (lt-ltb i n l); ends = λ v l. (w v l).0; holds = λ v l. (w v l).1 }

-- corner i, in no chain, is linked in at v
pub stage_link : (on on' : ℕ → Bool) (m : ℕ) (rs rs' : List ChainTriangle) (vs vs' : List ChainVertex) (i v : ℕ) → Stage on m rs vs → i / 3 < length rs → v < m → m ≤ length vs → on i ≡ false → on' i ≡ true → ((j : ℕ) → (j ≡ i → ⊥) → on' j ≡ on j) → rs' ≡ put_corner rs i (chain_corner v (first_at vs v)) → vs' ≡ put_first vs v (i + 1) → Stage on' m rs' vs'
stage_link on on' m rs rs' vs vs' i v s li lv lm off now others er ev =
    let x = chain_corner v (first_at vs v) in
    let us = put_corner rs i x in
    let ws = put_first vs v (i + 1) in
    let same : corner_at us i ≡ x = corner_same rs i x li in
    let other : (j : ℕ) → (j ≡ i → ⊥) → corner_at us j ≡ corner_at rs j = λ j n. corner_other rs i x j li n in
    let here : vertex_at us i ≡ v = ap (λ z. z.vertex) same in
    rw (er, ev) (record {
      sound = sound_link on on' m (next_at rs) (next_at us) (vertex_at rs) (vertex_at us) (first_at vs) (first_at ws) i s.sound off now others
          (λ j n. ap (λ z. z.vertex) (other j n)) (ap (λ z. z.next) same ∙ ap (first_at vs) (sym here)) (λ j n. ap (λ z. z.next) (other j n))
          (ap (first_at ws) here ∙ first_same vs v (i + 1) (omega arith) ∙ add-one i) (λ u n. first_other vs v (i + 1) u (λ q. n (q ∙ sym here)));
      placed = λ j y. ⊎_elim (λ (e : j ≡ i). rw (ap (vertex_at us) e ∙ here) lv) (λ (n : j ≡ i → ⊥). rw (ap (λ z. z.vertex) (other j n)) (s.placed j (sym (others j n) ∙ y))) (cases_eq j i);
    })

-- corner n is the next
pub whole_link : (n m : ℕ) (rs rs' : List ChainTriangle) (vs vs' : List ChainVertex) (v : ℕ) → Whole n m rs vs → n / 3 < length rs → v < m → m ≤ length vs → rs' ≡ put_corner rs n (chain_corner v (first_at vs v)) → vs' ≡ put_first vs v (n + 1) → Whole (n + 1) m rs' vs'
whole_link n m rs rs' vs vs' v s li lv lm er ev =
    stage_link (λ j. ltb j n) (λ j. ltb j (n + 1)) m rs rs' vs vs' n v s li lv lm (le-ltb n n (omega arith)) (lt-ltb n (n + 1) (omega arith)) (λ j q. grind (arith, nat_tests)) er ev

-- corner i follows the corner p in the chain at v, or is the first there
abbrev pub Follows : (ℕ → Bool) → List ChainTriangle → List ChainVertex → ℕ → ℕ → Option ℕ → Type 0
Follows on rs vs i v None = first_at vs v ≡ i + 1
Follows on rs vs i v (Some p) = (next_at rs p ≡ i + 1) × (vertex_at rs p ≡ v) × (on p ≡ true) × (p / 3 < length rs)

-- corner i goes out of the chain at v
pub stage_unlink : (on on' : ℕ → Bool) (m : ℕ) (rs rs' : List ChainTriangle) (vs vs' : List ChainVertex) (i v : ℕ) (before : Option ℕ) → Stage on m rs vs → v < m → m ≤ length vs → vertex_at rs i ≡ v → on i ≡ true → on' i ≡ false → ((j : ℕ) → (j ≡ i → ⊥) → on' j ≡ on j) → ((j : ℕ) → on' j ≡ true → on j ≡ true) → Follows on rs vs i v before → rs' ≡ relinked rs before (next_at rs i) → vs' ≡ refirsted vs before v (next_at rs i) → Stage on' m rs' vs'
stage_unlink on on' m rs rs' vs vs' i v None s lv lm at was off others fewer first er ev =
    let y = next_at rs i in
    rw (er, ev) (record {
      sound = sound_unhead on on' m (next_at rs) (vertex_at rs) (first_at vs) (first_at (put_first vs v y)) i s.sound was off others
          (ap (first_at vs) at ∙ first ∙ add-one i) (ap (first_at (put_first vs v y)) at ∙ first_same vs v y (omega arith)) (λ u n. first_other vs v y u (λ q. n (q ∙ sym at)));
      placed = λ j z. s.placed j (fewer j z);
    })
stage_unlink on on' m rs rs' vs vs' i v (Some p) s lv lm at was off others fewer prior er ev =
    let x = chain_corner (vertex_at rs p) (next_at rs i) in
    let us = put_corner rs p x in
    let lp = prior.3 in
    let same : corner_at us p ≡ x = corner_same rs p x lp in
    let other : (j : ℕ) → (j ≡ p → ⊥) → corner_at us j ≡ corner_at rs j = λ j n. corner_other rs p x j lp n in
    let kept : (j : ℕ) → vertex_at us j ≡ vertex_at rs j =
    λ j. ⊎_elim (λ (e : j ≡ p). ap (vertex_at us) e ∙ ap (λ z. z.vertex) same ∙ sym (ap (vertex_at rs) e)) (λ (n : j ≡ p → ⊥). ap (λ z. z.vertex) (other j n)) (cases_eq j p) in
    let out : Sound on' m (next_at us) (vertex_at rs) (first_at vs) =
    sound_unlink on on' m (next_at rs) (next_at us) (vertex_at rs) (first_at vs) i p s.sound was off others prior.2 (prior.1 ∙ sym at)
    (prior.0 ∙ add-one i) (ap (λ z. z.next) same) (λ j n. ap (λ z. z.next) (other j n)) in
    rw (er, ev) (record {
      sound = sound_like on' on' m (next_at us) (next_at us) (vertex_at rs) (vertex_at us) (first_at vs) (first_at vs) out (λ j l. refl) (λ j u. ap (λ z. on' j && eqb z u) (kept j)) (λ u l. refl);
      placed = λ j z. rw (kept j) (s.placed j (fewer j z));
    })
