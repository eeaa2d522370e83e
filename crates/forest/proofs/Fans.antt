-- Fans of links, and the fan at each position of a part of a polygon.
use Rattle.std.proofs.Common.{◌≡◌, ℕ, suc, ◌<◌, ◌≤◌, ◌⊎◌, List, [], ◌∷◌, ◌++◌, sym, inl, inr, ⊎_elim, arith}
use native.Mathlib.Decide.{dec_lt}
use Rattle.mesh.specs.Triangles.{Tri, tri}
use Rattle.mesh.specs.Rings.{at_first, at_second, at_third, Link, here, there, Walk, stop, step}
use Rattle.forest.specs.Theorems.{Part, edge, node}
use Rattle.mesh.proofs.Walks.{Rel, walk_append, walk_start, walk_end}
use Rattle.mesh.proofs.Links.{Turned, turned}

-- R is one way from x to y: each step of R lies between
pub record Fan (R : ℕ → ℕ → Type 0) (x y : ℕ) : Type 0 where
  pub way : Walk R x y
  pub before : (p q : ℕ) → R p q → Walk R x p
  pub behind : (p q : ℕ) → R p q → Walk R q y

abbrev pub Sub : Rel → Rel → Type 0
Sub R S = (p q : ℕ) → R p q → S p q

pub walk_sub : {R S : Rel} {x y : ℕ} → Sub R S → Walk R x y → Walk S x y
walk_sub f stop = stop
walk_sub f (step {x} {y} r w) = step (f x y r) (walk_sub f w)

abbrev Nowhere : Rel
Nowhere p q = ⊥

pub fan_none : {x : ℕ} → Fan Nowhere x x
fan_none = record { way = stop; before = λ p q r. absurd r; behind = λ p q r. absurd r }

pub fan_same : {R S : Rel} {x y : ℕ} → Sub R S → Sub S R → Fan R x y → Fan S x y
fan_same f g h = record {
  way = walk_sub f h.way;
  before = λ p q s. walk_sub f (h.before p q (g p q s));
  behind = λ p q s. walk_sub f (h.behind p q (g p q s));
}

-- the links of R, then y→z, then those of S
pub fan_through : {R S U : Rel} {x y z w : ℕ} → Fan R x y → U y z → Fan S z w → Sub R U → Sub S U
    → ((p q : ℕ) → U p q → R p q ⊎ (S p q ⊎ ((p ≡ y) × (q ≡ z)))) → Fan U x w
fan_through {R} {S} {U} {x} {y} {z} {w} f l g r s all = record {
  way = walk_append (walk_sub r f.way) (step l (walk_sub s g.way));
  before = λ p q u. pre p q (all p q u);
  behind = λ p q u. post p q (all p q u);
}
  where
    pre : (p q : ℕ) → R p q ⊎ (S p q ⊎ ((p ≡ y) × (q ≡ z))) → Walk U x p
    pre p q (inl h) = walk_sub r (f.before p q h)
    pre p q (inr (inl h)) = walk_append (walk_sub r f.way) (step l (walk_sub s (g.before p q h)))
    pre p q (inr (inr h)) = walk_end (sym h.0) (walk_sub r f.way)

    post : (p q : ℕ) → R p q ⊎ (S p q ⊎ ((p ≡ y) × (q ≡ z))) → Walk U q w
    post p q (inl h) = walk_append (walk_sub r (f.behind p q h)) (step l (walk_sub s g.way))
    post p q (inr (inl h)) = walk_sub s (g.behind p q h)
    post p q (inr (inr h)) = walk_start h.1 (walk_sub s g.way)

-- links of a list in two parts
pub no_link : {v x y : ℕ} → Link [] v x y → ⊥
no_link l = elim l [ ]

pub link_left : {ts : List Tri} (us : List Tri) {v x y : ℕ} → Link ts v x y → Link (ts ++ us) v x y
link_left us (here c) = here c
link_left us (there l) = there (link_left us l)

pub link_right : (ts : List Tri) {us : List Tri} {v x y : ℕ} → Link us v x y → Link (ts ++ us) v x y
link_right [] l = l
link_right (t ∷ ts) l = there (link_right ts l)

pub link_cases : (ts : List Tri) {us : List Tri} {v x y : ℕ} → Link (ts ++ us) v x y → Link ts v x y ⊎ Link us v x y
link_cases [] l = inr l
link_cases (t ∷ ts) (here c) = inl (here c)
link_cases (t ∷ ts) (there l) = ⊎_elim (λ k. inl (there k)) (λ k. inr k) (link_cases ts l)

pub part_lt : {a b : ℕ} {ts : List Tri} → Part a b ts → a < b
part_lt edge = omega arith
part_lt (node l r) = let h = part_lt l in let k = part_lt r in omega arith

pub part_within : {a b : ℕ} {ts : List Tri} {v x y : ℕ} → Part a b ts → Link ts v x y → (a ≤ v) × (v ≤ b)
part_within edge l = absurd (no_link l)
part_within (node l r) (here c) = let h = part_lt l in let k = part_lt r in let t = turned c in omega arith
part_within {v = v} (node {a} {o} {b} {ls} {rs} l r) (there k) =
    let lt = part_lt l in let rt = part_lt r in
    ⊎_elim {C = (a ≤ v) × (v ≤ b)} (λ h. let i = part_within l h in omega arith) (λ h. let i = part_within r h in omega arith) (link_cases ls k)

-- where a link of a node's triangles comes from
link_node : {a o b : ℕ} (ls rs : List Tri) {v x y : ℕ} → Link (tri b o a ∷ (ls ++ rs)) v x y → Turned b o a v x y ⊎ (Link ls v x y ⊎ Link rs v x y)
link_node ls rs (here c) = inl (turned c)
link_node ls rs (there l) = inr (link_cases ls l)

pub fan_low : {a b : ℕ} {ts : List Tri} → Part a b ts → Fan (Link ts a) b (suc a)
fan_low edge = fan_same (λ p q l. absurd l) (λ p q l. no_link l) fan_none
fan_low (node {a} {o} {b} {ls} {rs} l r) =
    fan_through fan_none (here at_third) (fan_low r) (λ p q n. absurd n) (λ p q k. there (link_right ls k)) (λ p q k. go p q (link_node ls rs k))
  where
    go : (p q : ℕ) → Turned b o a a p q ⊎ (Link ls a p q ⊎ Link rs a p q) → ⊥ ⊎ (Link rs a p q ⊎ ((p ≡ b) × (q ≡ o)))
    go p q (inl t) = let h = part_lt l in let k = part_lt r in inr (inr (omega arith))
    go p q (inr (inl k)) = let h = part_lt r in let i = part_within l k in absurd (omega arith)
    go p q (inr (inr k)) = inr (inl k)

pub fan_high : {a c : ℕ} {ts : List Tri} → Part a (suc c) ts → Fan (Link ts (suc c)) c a
fan_high edge = fan_same (λ p q l. absurd l) (λ p q l. no_link l) fan_none
fan_high {c = c} (node {a} {o} {ls = ls} {rs = rs} l r) =
    fan_through (fan_high l) (here at_first) fan_none (λ p q k. there (link_left rs k)) (λ p q n. absurd n) (λ p q k. go p q (link_node ls rs k))
  where
    go : (p q : ℕ) → Turned (suc c) o a (suc c) p q ⊎ (Link ls (suc c) p q ⊎ Link rs (suc c) p q) → Link ls (suc c) p q ⊎ (⊥ ⊎ ((p ≡ o) × (q ≡ a)))
    go p q (inl t) = let h = part_lt l in let k = part_lt r in inr (inr (omega arith))
    go p q (inr (inl k)) = inl k
    go p q (inr (inr k)) = let h = part_lt l in let i = part_within r k in absurd (omega arith)

data Order (m n : ℕ) : Type 0 where
  less : m < n → Order m n
  same : m ≡ n → Order m n
  more : n < m → Order m n

order : (m n : ℕ) → Order m n
order m n = go (dec_lt m n) (dec_lt n m)
  where
    go : Dec (m < n) → Dec (n < m) → Order m n
    go (yes h) d = less h
    go (no f) (yes h) = more h
    go (no f) (no g) = same (omega arith)

-- the fan where the two parts of a node meet
fan_meet : {a j b : ℕ} {ls rs : List Tri} → Part (suc j) b ls → Part a (suc j) rs → Fan (Link (tri b (suc j) a ∷ (ls ++ rs)) (suc j)) j (suc (suc j))
fan_meet {a} {j} {b} {ls} {rs} l r =
    fan_through (fan_high r) (here at_second) (fan_low l) (λ p q k. there (link_right ls k)) (λ p q k. there (link_left rs k)) (λ p q k. go p q (link_node ls rs k))
  where
    go : (p q : ℕ) → Turned b (suc j) a (suc j) p q ⊎ (Link ls (suc j) p q ⊎ Link rs (suc j) p q) → Link rs (suc j) p q ⊎ (Link ls (suc j) p q ⊎ ((p ≡ a) × (q ≡ b)))
    go p q (inl t) = let h = part_lt l in let k = part_lt r in inr (inr (omega arith))
    go p q (inr (inl k)) = inr (inl k)
    go p q (inr (inr k)) = inl k

pub fan_inner : {a b : ℕ} {ts : List Tri} (j : ℕ) → a < suc j → suc j < b → Part a b ts → Fan (Link ts (suc j)) j (suc (suc j))
fan_inner j low high edge = absurd (omega arith)
fan_inner j low high (node {a} {o} {b} {ls} {rs} l r) = go (λ h. fan_inner j low h r) (λ h. fan_inner j h high l) (order (suc j) o)
  where
    only_right : suc j < o → (p q : ℕ) → Turned b o a (suc j) p q ⊎ (Link ls (suc j) p q ⊎ Link rs (suc j) p q) → Link rs (suc j) p q
    only_right h p q (inl t) = absurd (omega arith)
    only_right h p q (inr (inl k)) = let i = part_within l k in absurd (omega arith)
    only_right h p q (inr (inr k)) = k

    only_left : o < suc j → (p q : ℕ) → Turned b o a (suc j) p q ⊎ (Link ls (suc j) p q ⊎ Link rs (suc j) p q) → Link ls (suc j) p q
    only_left h p q (inl t) = absurd (omega arith)
    only_left h p q (inr (inl k)) = k
    only_left h p q (inr (inr k)) = let i = part_within r k in absurd (omega arith)

    go : (suc j < o → Fan (Link rs (suc j)) j (suc (suc j))) → (o < suc j → Fan (Link ls (suc j)) j (suc (suc j))) → Order (suc j) o
        → Fan (Link (tri b o a ∷ (ls ++ rs)) (suc j)) j (suc (suc j))
    go f g (less h) = fan_same (λ p q k. there (link_right ls k)) (λ p q k. only_right h p q (link_node ls rs k)) (f h)
    go f g (same e) = rw (← e) (fan_meet (rw (← e) at l) (rw (← e) at r))
    go f g (more h) = fan_same (λ p q k. there (link_left rs k)) (λ p q k. only_left h p q (link_node ls rs k)) (g h)
