-- Chains that hold the corners of a set, and what keeps them so.
use Rattle.std.proofs.Common.{◌≡◌, ℕ, suc, ◌+◌, ◌-◌, ◌<◌, ◌≤◌, Bool, true, false, ◌&&◌, eqb, ltb, List, [], ◌∷◌, sym, refl, ap, ◌∙◌, ⊎_elim, arith}
use Rattle.std.proofs.lemmas.Bool.{cases_eq, eq-eqb, ne_eqb, and_left, and_right, and_from}
use Rattle.std.proofs.lemmas.Bool.Decides.{nat_tests}
use Rattle.stores.specs.declared.chain_record.ChainTriangle.{ChainTriangle}
use Rattle.stores.specs.declared.chain_record.ChainVertex.{ChainVertex}
use Rattle.stores.specs.Chains.{walk, one, times, next_at, vertex_at, first_at, Ends, Holds}
use Rattle.stores.proofs.Counts.{few_corners, one_other, one_parts}
use Rattle.stores.proofs.Chains.{Chain, chain_walk, walk_chain, chain_kept, chain_first}

-- the chain at each of the first m vertices holds the corners of `on` that are at it, each once
abbrev pub Sound : (ℕ → Bool) → ℕ → (ℕ → ℕ) → (ℕ → ℕ) → (ℕ → ℕ) → Type 0
Sound on m f w heads = (v : ℕ) → v < m → (is : List ℕ) × Chain f (heads v) is × ((i : ℕ) → times i is ≡ one (on i && eqb (w i) v))

pub sound_held : (n m : ℕ) (rs : List ChainTriangle) (vs : List ChainVertex) → ((v : ℕ) → v < m → Ends n rs (first_at vs v)) → ((v : ℕ) → v < m → Holds n rs (first_at vs v) v) → Sound (λ i. ltb i n) m (next_at rs) (vertex_at rs) (first_at vs)
sound_held n m rs vs ends holds v l = (walk n (next_at rs) (first_at vs v), chain_walk n (next_at rs) (first_at vs v) (ends v l), holds v l)

pub sound_walk : (n m : ℕ) (rs : List ChainTriangle) (vs : List ChainVertex) → Sound (λ i. ltb i n) m (next_at rs) (vertex_at rs) (first_at vs) → (v : ℕ) → v < m → Ends n rs (first_at vs v) × Holds n rs (first_at vs v) v
sound_walk n m rs vs s v l =
    let c = s v l in
    let w = walk_chain n (next_at rs) (first_at vs v) c.0 c.1 (few_corners n (λ i. eqb (vertex_at rs i) v) c.0 c.2) in
    (w.1, λ i. ap (times i) w.0 ∙ c.2 i)

-- links, corners and heads that are the same where it matters
pub sound_like : (on on' : ℕ → Bool) (m : ℕ) (f f' w w' heads heads' : ℕ → ℕ) → Sound on m f w heads → ((i : ℕ) → on i ≡ true → f' i ≡ f i) → ((i v : ℕ) → (on' i && eqb (w' i) v) ≡ (on i && eqb (w i) v)) → ((v : ℕ) → v < m → heads' v ≡ heads v) → Sound on' m f' w' heads'
sound_like on on' m f f' w w' heads heads' s ef ew eh v l =
    let c = s v l in
    (c.0, rw (eh v l) (chain_kept f f' (heads v) c.0 (λ i k. ef i (one_parts (on i) (eqb (w i) v) (omega (arith, c.2 i))).0) c.1), λ i. c.2 i ∙ ap one (sym (ew i v)))

-- a new vertex, with no corner at it
none_there : (on : ℕ → Bool) (m v : ℕ) (w : ℕ → ℕ) → v ≡ m → ((i : ℕ) → on i ≡ true → w i < m) → (i : ℕ) → 0 ≡ one (on i && eqb (w i) v)
none_there on m v w q low i = let l = low i in grind (arith, nat_tests)

pub sound_more : (on : ℕ → Bool) (m : ℕ) (f w heads heads' : ℕ → ℕ) → Sound on m f w heads → heads' m ≡ 0 → ((v : ℕ) → v < m → heads' v ≡ heads v) → ((i : ℕ) → on i ≡ true → w i < m) → Sound on (m + 1) f w heads'
sound_more on m f w heads heads' s e eh low v l =
    ⊎_elim
    (λ (q : v ≡ m). ([], ap heads' q ∙ e, none_there on m v w q low))
    (λ (q : v ≡ m → ⊥). let k : v < m = omega arith in let c = s v k in (c.0, rw (eh v k) c.1, c.2))
    (cases_eq v m)

-- the counts with corner i, at its vertex and at another
count_more : (on on' : ℕ → Bool) (w : ℕ → ℕ) (i v : ℕ) (is : List ℕ) → ((j : ℕ) → times j is ≡ one (on j && eqb (w j) v)) → on i ≡ false → on' i ≡ true → ((j : ℕ) → (j ≡ i → ⊥) → on' j ≡ on j) → v ≡ w i → (j : ℕ) → one (eqb j i) + times j is ≡ one (on' j && eqb (w j) v)
count_more on on' w i v is c off now others q j = let a = c j in let o = others j in grind (arith, nat_tests)

count_else : (on on' : ℕ → Bool) (w : ℕ → ℕ) (i v : ℕ) (is : List ℕ) → ((j : ℕ) → times j is ≡ one (on j && eqb (w j) v)) → on i ≡ false → on' i ≡ true → ((j : ℕ) → (j ≡ i → ⊥) → on' j ≡ on j) → (v ≡ w i → ⊥) → (j : ℕ) → times j is ≡ one (on' j && eqb (w j) v)
count_else on on' w i v is c off now others q j = let a = c j in let o = others j in grind (arith, nat_tests)

-- corner i, in no chain yet, goes first in that at its vertex
sound_push : (on on' : ℕ → Bool) (m : ℕ) (f f' w heads heads' : ℕ → ℕ) (i : ℕ) → Sound on m f w heads → on i ≡ false → on' i ≡ true → ((j : ℕ) → (j ≡ i → ⊥) → on' j ≡ on j) → f' i ≡ heads (w i) → ((j : ℕ) → (j ≡ i → ⊥) → f' j ≡ f j) → heads' (w i) ≡ suc i → ((v : ℕ) → (v ≡ w i → ⊥) → heads' v ≡ heads v) → Sound on' m f' w heads'
sound_push on on' m f f' w heads heads' i s off now others fi fj hi hj v l =
    let c = s v l in
    let is = c.0 in
    let none : times i is ≡ 0 = c.2 i ∙ ap one (and_left (on i) (eqb (w i) v) off) in
    let kept : Chain f' (heads v) is = chain_kept f f' (heads v) is (λ j k. fj j (λ q. omega (arith, none, ap (λ z. times z is) q))) c.1 in
    ⊎_elim
    (λ (q : v ≡ w i). (i ∷ is, (ap heads' q ∙ hi, rw (fi ∙ ap heads (sym q)) kept), count_more on on' w i v is c.2 off now others q))
    (λ (q : v ≡ w i → ⊥). (is, rw (hj v q) kept, count_else on on' w i v is c.2 off now others q))
    (cases_eq v (w i))

-- another vertex for corner i, in no chain yet, changes no count
count_away : (on : ℕ → Bool) (w w' : ℕ → ℕ) (i : ℕ) → on i ≡ false → ((j : ℕ) → (j ≡ i → ⊥) → w' j ≡ w j) → (j v : ℕ) → (on j && eqb (w' j) v) ≡ (on j && eqb (w j) v)
count_away on w w' i off wj j v = let o = wj j in grind (arith, nat_tests)

-- corner i, in no chain yet, comes to a vertex and goes first in the chain there
pub sound_link : (on on' : ℕ → Bool) (m : ℕ) (f f' w w' heads heads' : ℕ → ℕ) (i : ℕ) → Sound on m f w heads → on i ≡ false → on' i ≡ true → ((j : ℕ) → (j ≡ i → ⊥) → on' j ≡ on j) → ((j : ℕ) → (j ≡ i → ⊥) → w' j ≡ w j) → f' i ≡ heads (w' i) → ((j : ℕ) → (j ≡ i → ⊥) → f' j ≡ f j) → heads' (w' i) ≡ suc i → ((v : ℕ) → (v ≡ w' i → ⊥) → heads' v ≡ heads v) → Sound on' m f' w' heads'
sound_link on on' m f f' w w' heads heads' i s off now others wj fi fj hi hj =
    sound_push on on' m f f' w' heads heads' i (sound_like on on m f f w w' heads heads s (λ j y. refl) (count_away on w w' i off wj) (λ v l. refl)) off now others fi fj hi hj

-- the counts without corner i, at its vertex and at another
count_less : (on on' : ℕ → Bool) (w : ℕ → ℕ) (i v : ℕ) (is js : List ℕ) → ((j : ℕ) → times j is ≡ one (eqb j i) + times j js) → ((j : ℕ) → times j is ≡ one (on j && eqb (w j) v)) → on' i ≡ false → ((j : ℕ) → (j ≡ i → ⊥) → on' j ≡ on j) → (j : ℕ) → times j js ≡ one (on' j && eqb (w j) v)
count_less on on' w i v is js split c off others j = let a = split j in let b = c j in let o = others j in grind (arith, nat_tests)

count_same : (on on' : ℕ → Bool) (w : ℕ → ℕ) (i v : ℕ) → (v ≡ w i → ⊥) → ((j : ℕ) → (j ≡ i → ⊥) → on' j ≡ on j) → (j : ℕ) → one (on j && eqb (w j) v) ≡ one (on' j && eqb (w j) v)
count_same on on' w i v q others j = let o = others j in grind (arith, nat_tests)

-- corner i goes out, where it is the first
pub sound_unhead : (on on' : ℕ → Bool) (m : ℕ) (f w heads heads' : ℕ → ℕ) (i : ℕ) → Sound on m f w heads → on i ≡ true → on' i ≡ false → ((j : ℕ) → (j ≡ i → ⊥) → on' j ≡ on j) → heads (w i) ≡ suc i → heads' (w i) ≡ f i → ((v : ℕ) → (v ≡ w i → ⊥) → heads' v ≡ heads v) → Sound on' m f w heads'
sound_unhead on on' m f w heads heads' i s was off others hi hi' hj v l =
    let c = s v l in
    ⊎_elim
    (λ (q : v ≡ w i).
    let e : heads v ≡ suc i = ap heads q ∙ hi in
    let d = chain_first f (heads v) c.0 c.1 (λ z. omega arith) in
    let g : heads v - 1 ≡ i = omega arith in (
      d.0,
      rw (ap heads' q ∙ hi' ∙ sym (ap f g)) d.2,
      count_less on on' w i v c.0 d.0 (λ j. ap (times j) d.1 ∙ ap (λ z. one (eqb j z) + times j d.0) g) c.2 off others,
    ))
    (λ (q : v ≡ w i → ⊥). (c.0, rw (hj v q) c.1, λ j. c.2 j ∙ count_same on on' w i v q others j))
    (cases_eq v (w i))

-- a chain without the corner after p
chain_without : (f f' : ℕ → ℕ) (h : ℕ) (is : List ℕ) (p i : ℕ) → Chain f h is → 0 < times p is → times p is ≤ 1 → f p ≡ suc i → f' p ≡ f i → ((j : ℕ) → (j ≡ p → ⊥) → f' j ≡ f j) → (js : List ℕ) × Chain f' h js × ((j : ℕ) → times j is ≡ one (eqb j i) + times j js)
chain_without f f' h [] p i c l o e e' k = absurd (omega arith)
chain_without f f' h (x ∷ is) p i c l o e e' k =
    ⊎_elim
    (λ (q : p ≡ x).
    let y : f x ≡ suc i = ap f (sym q) ∙ e in
    let d = chain_first f (f x) is c.1 (λ z. omega arith) in
    let g : f x - 1 ≡ i = omega arith in
    let none : times p d.0 ≡ 0 = omega (arith, o, ap (times p) d.1, ap one (eq-eqb p x q)) in
    let kept : Chain f' (f (f x - 1)) d.0 = chain_kept f f' (f (f x - 1)) d.0 (λ j u. k j (λ z. omega (arith, none, ap (λ t. times t d.0) z))) d.2 in
    (x ∷ d.0, (c.0, rw (ap f' (sym q) ∙ e' ∙ ap f (sym g)) kept), λ j. omega (arith, ap (times j) d.1, ap (λ z. one (eqb j z)) g)))
    (λ (q : p ≡ x → ⊥).
    let z = one_other p x q in
    let r = chain_without f f' (f x) is p i c.1 (omega arith) (omega arith) e e' k in
    (x ∷ r.0, (c.0, rw (k x (λ t. q (sym t))) r.1), λ j. omega (arith, r.2 j)))
    (cases_eq p x)

-- corner i goes out, where it stands after corner p
pub sound_unlink : (on on' : ℕ → Bool) (m : ℕ) (f f' w heads : ℕ → ℕ) (i p : ℕ) → Sound on m f w heads → on i ≡ true → on' i ≡ false → ((j : ℕ) → (j ≡ i → ⊥) → on' j ≡ on j) → on p ≡ true → w p ≡ w i → f p ≡ suc i → f' p ≡ f i → ((j : ℕ) → (j ≡ p → ⊥) → f' j ≡ f j) → Sound on' m f' w heads
sound_unlink on on' m f f' w heads i p s was off others op wp e e' k v l =
    let c = s v l in
    ⊎_elim
    (λ (q : v ≡ w i).
    let t : times p c.0 ≡ 1 = c.2 p ∙ ap one (and_from (on p) (eqb (w p) v) op (eq-eqb (w p) v (wp ∙ sym q))) in
    let d = chain_without f f' (heads v) c.0 p i c.1 (omega arith) (omega arith) e e' k in
    (d.0, d.1, count_less on on' w i v c.0 d.0 d.2 c.2 off others))
    (λ (q : v ≡ w i → ⊥).
    let t : times p c.0 ≡ 0 = c.2 p ∙ ap one (and_right (on p) (eqb (w p) v) (ne_eqb (w p) v (λ z. q (sym z ∙ wp)))) in
    (c.0, chain_kept f f' (heads v) c.0 (λ j u. k j (λ z. omega (arith, t, ap (λ y. times y c.0) z))) c.1, λ j. c.2 j ∙ count_same on on' w i v q others j))
    (cases_eq v (w i))
