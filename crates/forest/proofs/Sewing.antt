-- What a split does, by its loops, and that it keeps the rings.
use Rattle.std.proofs.Common.{◌≡◌, ℕ, ◌<◌, ◌≤◌, ◌⊎◌, List, ◌++◌, map, length, sym, refl, ap, ◌∙◌, subst, inl, inr, ⊎_elim, arith, length-append}
use lib.ListN.{length-map}
use Rattle.mesh.specs.Lists.{Apart}
use Rattle.mesh.specs.Triangles.{Tri}
use Rattle.mesh.specs.Sides.{sides}
use Rattle.mesh.specs.Rings.{Link}
use Rattle.mesh.specs.Closed.{Closed}
use Rattle.forest.specs.Numbering.{renamed}
use Rattle.mesh.proofs.Walks.{Sharp}
use Rattle.mesh.proofs.Links.{link_turn}
use Rattle.forest.proofs.Fans.{Fan}
use Rattle.forest.proofs.Rings.{FullRing, closed_rings, rings_closed}
use Rattle.forest.proofs.Sectors.{Sector, one, more, On, sector_same, sector_through, on_first, on_last, on_link}
use Rattle.forest.proofs.Marking.{Unmarked}
use Rattle.forest.proofs.Renaming.{ring_at_position, ring_at_vertex}

-- M the marked edges; position j stands at the old vertex `at j` and gets the number `num j`, between the positions `pr j` and `nx j`;
-- f v x y is the new number of the corner (v, x, y); ps are the triangles of the polygons
pub record Sewing (V : ℕ) (ts : List Tri) (M : ℕ → ℕ → Type 0) (I : Type 0) (Pos : I → Type 0) (at num : I → ℕ) (pr nx : I → I) (f : ℕ → ℕ → ℕ → ℕ) (ps : List Tri) : Type 0 where
  pub decides : (v x : ℕ) → Dec (M v x)
  pub touched : (v : ℕ) → Dec ((x : ℕ) × M v x)
  pub even : (v x : ℕ) → M v x → M x v
  pub edge : (v x : ℕ) → M v x → (v < V) × ((y : ℕ) × Link ts v x y)
  pub pos_nx : (j : I) → Pos j → Pos (nx j)
  pub pos_pr : (j : I) → Pos j → Pos (pr j)
  pub nx_pr : (j : I) → Pos j → nx (pr j) ≡ j
  pub pr_nx : (j : I) → Pos j → pr (nx j) ≡ j
  pub inside : (j : I) → Pos j → at j < V
  pub marked : (j : I) → Pos j → M (at j) (at (nx j))
  pub seam : (v x : ℕ) → M v x → (j : I) × Pos j × (at j ≡ v) × (at (nx j) ≡ x)
  pub sector : (j : I) → Pos j → (y : ℕ) × (x : ℕ) × Sector ts (at j) (Unmarked M (at j)) (at (nx j)) y x (at (pr j))
  pub numbers : (i j : I) → Pos i → Pos j → num i ≡ num j → i ≡ j
  pub named : (j : I) (h : Pos j) (p q : ℕ) → On (sector j h).2 p q → f (at j) p q ≡ num j
  pub kept : (v p q : ℕ) → Link ts v p q → ((x : ℕ) → Unmarked M v x) → f v p q ≡ v
  pub other : (v : ℕ) (j : I) → v < V → Pos j → ((x : ℕ) → Unmarked M v x) → num j ≡ v → ⊥
  pub fan : (j : I) → Pos j → Fan (Link ps (num j)) (num (pr j)) (num (nx j))
  pub only : (u p q : ℕ) → Link ps u p q → (j : I) × Pos j × (u ≡ num j)

-- the mesh after a split: the old triangles with their corners renumbered, then the triangles of the polygons
abbrev pub sewn : (ℕ → ℕ → ℕ → ℕ) → List Tri → List Tri → List Tri
sewn f ts ps = map (renamed f) ts ++ ps

module _ {ts : List Tri} {v : ℕ} {Free : ℕ → Type 0} where
  -- the corner after a corner of a sector
  on_next : {w y x t : ℕ} (k : Sector ts v Free w y x t) (p q : ℕ) → On k p q → (q ≡ t) ⊎ ((r : ℕ) × On k q r)
  on_next (one l) p q h = inl h.1
  on_next (more {t = t} k e l) p q (inl h) = ⊎_elim (λ i. inr (t, inr (i, refl))) (λ i. inr (i.0, inl i.1)) (on_next k p q h)
  on_next (more k e l) p q (inr h) = inl h.1

module _ (V : ℕ) (ts : List Tri) (M : ℕ → ℕ → Type 0) (I : Type 0) (Pos : I → Type 0) (at num : I → ℕ) (pr nx : I → I) (f : ℕ → ℕ → ℕ → ℕ) (ps : List Tri)
    (closed : Closed V ts) (s : Sewing V ts M I Pos at num pr nx f ps) where
  sharp : (v : ℕ) → Sharp (Link ts v)
  sharp v = (closed_rings V ts closed v).1

  into : (v x x' t : ℕ) → Link ts v x t → Link ts v x' t → x ≡ x'
  into v x x' t l l' = sharp t v x x' (link_turn (link_turn l)) (link_turn (link_turn l'))

  free : (v x : ℕ) → Dec (Unmarked M v x)
  free v x = go (s.decides v x)
    where
      go : Dec (M v x) → Dec (Unmarked M v x)
      go (yes m) = no (λ u. u m)
      go (no n) = yes n

  mark : (v x : ℕ) → (Unmarked M v x → ⊥) → M v x
  mark v x n = go (s.decides v x)
    where
      go : Dec (M v x) → M v x
      go (yes m) = m
      go (no u) = absurd (n u)

  -- a sector between marked edges is that of its position
  settle : (j : I) (h : Pos j) {v w y x t : ℕ} → at j ≡ v → t ≡ at (pr j) → (k : Sector ts v (Unmarked M v) w y x t) → M v w → (p q : ℕ) → On k p q → On (s.sector j h).2 p q
  settle j h {v} {w} {y} {x} {t} e =
      subst (λ (v : ℕ). t ≡ at (pr j) → (k : Sector ts v (Unmarked M v) w y x t) → M v w → (p q : ℕ) → On k p q → On (s.sector j h).2 p q) e
      (λ i k m p q o. (sector_same ts (at j) (Unmarked M (at j)) (into (at j)) i k (s.sector j h).2 (λ u. u m) (λ u. u (s.marked j h))).1 p q o)

  -- the position whose sector has a corner
  pub corner_at : (v p q : ℕ) → Link ts v p q → (x : ℕ) × M v x → (i : I) × Pos i × (at i ≡ v) × ((h : Pos i) → On (s.sector i h).2 p q)
  corner_at v p q l m =
      let edge = s.edge v m.0 m.1 in
      let k = sector_through ts v (Unmarked M v) (free v) ((closed_rings V ts closed v).0 edge.0) m.0 edge.1.0 p q (λ u. u m.1) edge.1.1 l in
      let i = s.seam k.3 v (s.even v k.3 (mark v k.3 k.5)) in
      (nx i.0, s.pos_nx i.0 i.1, i.3, λ h. settle (nx i.0) h i.3 (sym i.2 ∙ ap at (sym (s.pr_nx i.0 i.1))) k.6 (mark v k.0 k.4) p q k.7)

  none_marked : {v : ℕ} → (((x : ℕ) × M v x) → ⊥) → (x : ℕ) → Unmarked M v x
  none_marked n x m = n (x, m)

  -- over an unmarked edge v–q the corners at q have one number
  across : (v p q r : ℕ) → Link ts v p q → Unmarked M v q → Link ts v q r → f q v p ≡ f q r v
  across v p q r l u l' = go (s.touched q)
    where
      one_sector : (i : I) (h : Pos i) → at i ≡ q → On (s.sector i h).2 r v → f q v p ≡ f q r v
      one_sector i h e o = ⊎_elim arrival onward (on_next (s.sector i h).2 r v o)
        where
          arrival : v ≡ at (pr i) → f q v p ≡ f q r v
          arrival a = absurd (u (subst (λ (x : ℕ). M x q) (sym a) (subst (M (at (pr i))) (ap at (s.nx_pr i h) ∙ e) (s.marked (pr i) (s.pos_pr i h)))))

          onward : (p' : ℕ) × On (s.sector i h).2 v p' → f q v p ≡ f q r v
          onward k =
              let c : p ≡ k.0 = sharp q v p k.0 (link_turn (link_turn l)) (rw e at (on_link (s.sector i h).2 v k.0 k.1)) in
              let a = s.named i h v k.0 k.1 in let b = s.named i h r v o in cc

      go : Dec ((x : ℕ) × M q x) → f q v p ≡ f q r v
      go (yes m) = let k = corner_at q r v (link_turn l') m in one_sector k.0 k.1 k.2 (k.3 k.1)
      go (no n) = s.kept q v p (link_turn (link_turn l)) (none_marked n) ∙ sym (s.kept q r v (link_turn l') (none_marked n))

  corner_of : (j : I) (h : Pos j) (v p q : ℕ) → v < V → Link ts v p q → num j ≡ f v p q → (v ≡ at j) × On (s.sector j h).2 p q
  corner_of j h v p q small l e = go (s.touched v)
    where
      go : Dec ((x : ℕ) × M v x) → (v ≡ at j) × On (s.sector j h).2 p q
      go (yes m) =
          let k = corner_at v p q l m in
          let a = s.named k.0 k.1 p q (k.3 k.1) in
          let b : num j ≡ num k.0 = cc in
          let i = s.numbers j k.0 h k.1 b in
          (cc, subst (λ (i : I). (h : Pos i) → On (s.sector i h).2 p q) (sym i) k.3 h)
      go (no n) = absurd (s.other v j small h (none_marked n) (e ∙ s.kept v p q l (none_marked n)))

  -- the number of a corner: its position's, or its own vertex
  pub corner_name : (v p q : ℕ) → Link ts v p q → ((j : I) × Pos j × (at j ≡ v) × (f v p q ≡ num j)) ⊎ ((f v p q ≡ v) × ((x : ℕ) → Unmarked M v x))
  corner_name v p q l = go (s.touched v)
    where
      go : Dec ((x : ℕ) × M v x) → ((j : I) × Pos j × (at j ≡ v) × (f v p q ≡ num j)) ⊎ ((f v p q ≡ v) × ((x : ℕ) → Unmarked M v x))
      go (yes m) = let k = corner_at v p q l m in inl (k.0, k.1, k.2, ap (λ z. f z p q) (sym k.2) ∙ s.named k.0 k.1 p q (k.3 k.1))
      go (no n) = inr (s.kept v p q l (none_marked n), none_marked n)

  -- the corners of a triangle keep apart
  pub corners_apart : (v p q : ℕ) → Link ts v p q → f v p q ≡ f p q v → ⊥
  corners_apart v p q l e = go (corner_name v p q l) (corner_name p q v (link_turn l))
    where
      go : ((j : I) × Pos j × (at j ≡ v) × (f v p q ≡ num j)) ⊎ ((f v p q ≡ v) × ((x : ℕ) → Unmarked M v x)) → ((j : I) × Pos j × (at j ≡ p) × (f p q v ≡ num j)) ⊎ ((f p q v ≡ p) × ((x : ℕ) → Unmarked M p x)) → ⊥
      go (inl a) (inl b) = let i = s.numbers a.0 b.0 a.1 b.1 (sym a.3 ∙ e ∙ b.3) in (closed.fits v p q l).1 (sym a.2 ∙ ap at i ∙ b.2)
      go (inl a) (inr b) = s.other p a.0 (closed.fits p q v (link_turn l)).0 a.1 b.1 (sym a.3 ∙ e ∙ b.0)
      go (inr a) (inl b) = s.other v b.0 (closed.fits v p q l).0 b.1 a.1 (sym b.3 ∙ sym e ∙ a.0)
      go (inr a) (inr b) = (closed.fits v p q l).1 (sym a.0 ∙ e ∙ b.0)

  pub position_ring : (j : I) → Pos j → FullRing (Link (sewn f ts ps) (num j))
  position_ring j h =
      let k = s.sector j h in
      let a : f (at (pr j)) (at j) k.1 ≡ num (pr j) = from_left in
      let b : f (at (nx j)) k.0 (at j) ≡ num (nx j) = from_right in
      ring_at_position ts ps f (at j) (num j) (Unmarked M (at j)) (across (at j)) k.2 (s.named j h)
      (λ v p q l e. corner_of j h v p q (closed.fits v p q l).0 l e) (rw (a, b) (s.fan j h))
    where
      from_left : f (at (pr j)) (at j) (s.sector j h).1 ≡ num (pr j)
      from_left =
          let k = s.sector j h in let i = s.sector (pr j) (s.pos_pr j h) in
          let e = ap at (s.nx_pr j h) in
          let l : Link ts (at (pr j)) (at j) i.0 = rw e at (on_link i.2 (at (nx (pr j))) i.0 (on_first i.2)) in
          let m = on_link k.2 k.1 (at (pr j)) (on_last k.2) in
          let c = sharp (at (pr j)) (at j) k.1 i.0 (link_turn (link_turn m)) l in
          let n = s.named (pr j) (s.pos_pr j h) (at (nx (pr j))) i.0 (on_first i.2) in
          cc

      from_right : f (at (nx j)) (s.sector j h).0 (at j) ≡ num (nx j)
      from_right =
          let k = s.sector j h in let i = s.sector (nx j) (s.pos_nx j h) in
          let e = ap at (s.pr_nx j h) in
          let l : Link ts (at (nx j)) i.1 (at j) = rw e at (on_link i.2 i.1 (at (pr (nx j))) (on_last i.2)) in
          let m = on_link k.2 (at (nx j)) k.0 (on_first k.2) in
          let c = into (at (nx j)) k.0 i.1 (at j) (link_turn m) l in
          let n = s.named (nx j) (s.pos_nx j h) i.1 (at (pr (nx j))) (on_last i.2) in
          cc

  pub vertex_ring : (v : ℕ) → v < V → ((x : ℕ) → Unmarked M v x) → FullRing (Link (sewn f ts ps) v)
  vertex_ring v small n =
      ring_at_vertex ts ps f v (λ p q r l k. across v p q r l (n q) k) (λ p q l. s.kept v p q l n) same none ((closed_rings V ts closed v).0 small)
    where
      same : (v' p q : ℕ) → Link ts v' p q → v ≡ f v' p q → v' ≡ v
      same v' p q l e = go (s.touched v')
        where
          go : Dec ((x : ℕ) × M v' x) → v' ≡ v
          go (yes m) = let k = corner_at v' p q l m in let a = s.named k.0 k.1 p q (k.3 k.1) in absurd (s.other v k.0 small k.1 n (cc))
          go (no i) = sym (e ∙ s.kept v' p q l (none_marked i))

      none : (p q : ℕ) → Link ps v p q → ⊥
      none p q l = let k = s.only v p q l in s.other v k.0 small k.1 n (sym k.2)

  -- A split keeps a mesh closed
  pub split_closed : (V' : ℕ) → ((u : ℕ) → u < V' → ((j : I) × Pos j × (num j ≡ u)) ⊎ ((u < V) × ((x : ℕ) → Unmarked M u x)))
      → ((v x y : ℕ) → Link (sewn f ts ps) v x y → (v < V') × (v ≡ x → ⊥)) → Apart (sides (sewn f ts ps)) → Closed V' (sewn f ts ps)
  split_closed V' every fits once = rings_closed V' (sewn f ts ps) two fits once (λ u h. ring u (every u h))
    where
      two : 2 ≤ length (sewn f ts ps)
      two = omega (arith, closed.two, length-append (map (renamed f) ts) ps, length-map ts (renamed f))

      ring : (u : ℕ) → ((j : I) × Pos j × (num j ≡ u)) ⊎ ((u < V) × ((x : ℕ) → Unmarked M u x)) → FullRing (Link (sewn f ts ps) u)
      ring u (inl h) = rw h.2 at (position_ring h.0 h.1)
      ring u (inr h) = vertex_ring u h.0 h.1
