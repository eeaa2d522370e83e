-- Chains of sides: how they are made, and that a walk along one finds the lowest side.
use Rattle.std.proofs.Common.{◌≡◌, ℕ, zero, suc, ◌+◌, ◌-◌, ◌*◌, ◌/◌, ◌<◌, ◌≤◌, Bool, true, false, cond, ◌&&◌, eqb, List, [], ◌∷◌, length, get_or, drop, Some, None, Option, sym, refl, ap, ◌∙◌, subst, zero-add, arith, eqb-true, eq-eqb, get_or-set_other, get_or-set_same, length-set}
use native.Mathlib.Decide.{ℕ_discrete}
use Rattle.std.specs.List.{slice_get}
use Rattle.std.specs.Option.{option_map}
use Rattle.std.proofs.Math.ListN.{set}
use Rattle.std.proofs.lemmas.Bool.{cond-true, cond-false, ne_eqb, and_from, and_left, and_right}
use Rattle.std.proofs.lemmas.List.{drop_all, drop-drop}
use Rattle.std.proofs.lemmas.Option.{slice_get_within}
use Rattle.mesh.specs.Triangles.{Tri, tri}
use Rattle.mesh.specs.Sides.{Side, side, sides, Lies, lies_here, side_from, side_of}
use Rattle.mesh.proofs.Tests.{none_some, some_inj}
use Rattle.engine.specs.Linking.{link_from, Linked}

-- ---- the sides of triangles

pub sides_counted : (ts : List Tri) → length (sides ts) ≡ 3 * length ts
sides_counted [] = refl
sides_counted (tri a b c ∷ ts) = let e = sides_counted ts in omega arith

-- the three sides of triangle n
pub sides_there : (ts : List Tri) (n : ℕ) (a b c : ℕ) → slice_get ts n ≡ Some (tri a b c)
    → (slice_get (sides ts) (3 * n) ≡ Some (side a b)) × (slice_get (sides ts) (3 * n + 1) ≡ Some (side b c)) × (slice_get (sides ts) (3 * n + 2) ≡ Some (side c a))
sides_there [] n a b c e = none_some e
sides_there (tri x y z ∷ ts) zero a b c e = let d : tri x y z ≡ tri a b c = some_inj e in (cc, cc, cc)
sides_there (tri x y z ∷ ts) (suc n) a b c e =
    let i = sides_there ts n a b c e in
    let p : 3 * suc n ≡ suc (suc (suc (3 * n))) = omega arith in
    let q : 3 * suc n + 1 ≡ suc (suc (suc (3 * n + 1))) = omega arith in
    let r : 3 * suc n + 2 ≡ suc (suc (suc (3 * n + 2))) = omega arith in
    let all = sides (tri x y z ∷ ts) in
    (ap (slice_get all) p ∙ i.0, ap (slice_get all) q ∙ i.1, ap (slice_get all) r ∙ i.2)

-- what is left of the list from a side that is there
rest_there : (ss : List Side) (i : ℕ) (s : Side) → slice_get ss i ≡ Some s → drop i ss ≡ s ∷ drop (i + 1) ss
rest_there [] i s e = none_some e
rest_there (x ∷ ss) zero s e = let d : x ≡ s = some_inj e in cc
rest_there (x ∷ ss) (suc i) s e = let d : suc (i + 1) ≡ suc i + 1 = omega arith in rest_there ss i s e ∙ ap (λ n. s ∷ drop n (x ∷ ss)) d

-- ---- the making of the chains

none_linked : (i : ℕ) (u : ℕ) (ss : List Side) → length ss ≤ i → link_from u i (drop i ss) ≡ 0
none_linked i u ss h = ap (link_from u i) (drop_all i ss h)

-- no side is linked in a table of zeros
pub linked_none : (ss : List Side) (i : ℕ) (firsts ends nexts : List ℕ) → length ss ≤ i → ((u : ℕ) → u < length firsts → get_or firsts u 0 ≡ 0) → Linked ss i firsts ends nexts
linked_none ss i firsts ends nexts h zeros = record {
  firsts_told = λ u l. zeros u l ∙ sym (none_linked i u ss h);
  ends_told = λ k u v l e. let w = slice_get_within ss k (side u v) e in absurd (omega arith);
  nexts_told = λ k u v l e m. let w = slice_get_within ss k (side u v) e in absurd (omega arith);
}

starts : {u v x y : ℕ} → ◌≡◌ {A = Option Side} (Some (side u v)) (Some (side x y)) → (u ≡ x) × (v ≡ y)
starts e = (cc, cc)

module _ (ss : List Side) (i u v : ℕ) (there : slice_get ss i ≡ Some (side u v)) (firsts ends nexts : List ℕ) (l : Linked ss (i + 1) firsts ends nexts) (within : i < length ends) where
  -- another start keeps its first side
  others : (w : ℕ) → w < length firsts → (u ≡ w → ⊥) → get_or firsts w 0 ≡ link_from w i (drop i ss)
  others w h ne =
      l.firsts_told w h ∙ sym (ap (link_from w i) (rest_there ss i (side u v) there) ∙ cond-false (eqb u w) (i + 1) (link_from w (i + 1) (drop (i + 1) ss)) (ne_eqb u w ne))

  ends_more : (k x y : ℕ) → i ≤ k → slice_get ss k ≡ Some (side x y) → get_or (set ends i v) k 0 ≡ y
  ends_more k x y h e = go (ℕ_discrete k i)
    where
      go : Dec (k ≡ i) → get_or (set ends i v) k 0 ≡ y
      go (yes d) = ap (λ j. get_or (set ends i v) j 0) d ∙ get_or-set_same ends i v 0 within ∙ (starts (sym there ∙ ap (slice_get ss) (sym d) ∙ e)).1
      go (no n) = get_or-set_other ends i k v 0 n ∙ l.ends_told k x y (omega arith) e

  -- where the start is a vertex
  pub linked_more : u < length firsts → i < length nexts → Linked ss i (set firsts u (i + 1)) (set ends i v) (set nexts i (get_or firsts u 0))
  linked_more here room = record {
    firsts_told = λ w h. first w (rw length-set at h) (ℕ_discrete w u);
    ends_told = ends_more;
    nexts_told = λ k x y h e m. next k x y h e (rw length-set at m) (ℕ_discrete k i);
  }
    where
      first : (w : ℕ) → w < length firsts → Dec (w ≡ u) → get_or (set firsts u (i + 1)) w 0 ≡ link_from w i (drop i ss)
      first w h (yes d) =
          ap (λ j. get_or (set firsts u (i + 1)) j 0) d
          ∙ get_or-set_same firsts u (i + 1) 0 here
          ∙ sym (ap (link_from w i) (rest_there ss i (side u v) there) ∙ cond-true (eqb u w) (i + 1) (link_from w (i + 1) (drop (i + 1) ss)) (eq-eqb u w (sym d)))
      first w h (no n) = get_or-set_other firsts u w (i + 1) 0 n ∙ others w h (λ e. n (sym e))

      next : (k x y : ℕ) → i ≤ k → slice_get ss k ≡ Some (side x y) → x < length firsts → Dec (k ≡ i) → get_or (set nexts i (get_or firsts u 0)) k 0 ≡ link_from x (k + 1) (drop (k + 1) ss)
      next k x y h e m (yes d) =
          let s = (starts (sym there ∙ ap (slice_get ss) (sym d) ∙ e)).0 in
          ap (λ j. get_or (set nexts i (get_or firsts u 0)) j 0) d
          ∙ get_or-set_same nexts i (get_or firsts u 0) 0 room
          ∙ ap (λ j. get_or firsts j 0) s
          ∙ l.firsts_told x m
          ∙ ap (λ j. link_from x (j + 1) (drop (j + 1) ss)) (sym d)
      next k x y h e m (no n) = get_or-set_other nexts i k (get_or firsts u 0) 0 n ∙ l.nexts_told k x y (omega arith) e m

  -- and where it is none
  pub linked_past : length firsts ≤ u → Linked ss i firsts (set ends i v) nexts
  linked_past past = record {
    firsts_told = λ w h. others w h (λ e. omega arith);
    ends_told = ends_more;
    nexts_told = λ k x y h e m. next k x y h e m (ℕ_discrete k i);
  }
    where
      next : (k x y : ℕ) → i ≤ k → slice_get ss k ≡ Some (side x y) → x < length firsts → Dec (k ≡ i) → get_or nexts k 0 ≡ link_from x (k + 1) (drop (k + 1) ss)
      next k x y h e m (yes d) = let s = (starts (sym there ∙ ap (slice_get ss) (sym d) ∙ e)).0 in absurd (omega arith)
      next k x y h e m (no n) = l.nexts_told k x y (omega arith) e m

-- ---- the walk along a chain

-- the number of the first side u→v of the list, if the first of all has the number i
abbrev pub number_from : ℕ → ℕ → ℕ → List Side → Option ℕ
number_from u v i [] = None
number_from u v i (side x y ∷ ss) = cond (eqb x u && eqb y v) (Some i) (number_from u v (i + 1) ss)

-- where a link leads: the side starts in u, and no side before it is u→v
record Leads (u v i : ℕ) (ss : List Side) (j : ℕ) : Type 0 where
  far : ℕ
  number : j ≡ i + far
  end : ℕ
  there : slice_get ss far ≡ Some (side u end)
  same : number_from u v i ss ≡ number_from u v j (drop far ss)

passed_side : (u v i x y : ℕ) (ss : List Side) → eqb x u ≡ false → number_from u v i (side x y ∷ ss) ≡ number_from u v (i + 1) ss
passed_side u v i x y ss e = cond-false (eqb x u && eqb y v) (Some i) (number_from u v (i + 1) ss) (and_left (eqb x u) (eqb y v) e)

leads : (u v i : ℕ) (ss : List Side) (j : ℕ) → link_from u i ss ≡ suc j → Leads u v i ss j
leads u v i [] j e = absurd (omega arith)
leads u v i (side x y ∷ ss) j e = go (eqb x u) refl e (λ e. leads u v (i + 1) ss j e)
  where
    go : (b : Bool) → eqb x u ≡ b → cond b (i + 1) (link_from u (i + 1) ss) ≡ suc j → (link_from u (i + 1) ss ≡ suc j → Leads u v (i + 1) ss j) → Leads u v i (side x y ∷ ss) j
    go true q e f =
        let d : i ≡ j = omega arith in
        let w : x ≡ u = eqb-true x u q in
        record { far = 0; number = omega arith; end = y; there = ap (λ a. Some (side a y)) w; same = ap (λ a. number_from u v a (side x y ∷ ss)) d }
    go false q e f =
        let r = f e in
        let n = r.number in
        record { far = suc r.far; number = omega arith; end = r.end; there = r.there; same = passed_side u v i x y ss q ∙ r.same }

ends_there : (u v i : ℕ) (ss : List Side) → link_from u i ss ≡ 0 → number_from u v i ss ≡ None
ends_there u v i [] e = refl
ends_there u v i (side x y ∷ ss) e = go (eqb x u) refl e (λ e. ends_there u v (i + 1) ss e)
  where
    go : (b : Bool) → eqb x u ≡ b → cond b (i + 1) (link_from u (i + 1) ss) ≡ 0 → (link_from u (i + 1) ss ≡ 0 → number_from u v (i + 1) ss ≡ None) → number_from u v i (side x y ∷ ss) ≡ None
    go true q e f = absurd (omega arith)
    go false q e f = passed_side u v i x y ss q ∙ f e

-- the lowest triangle with a side is that of the lowest such side
lowest_side : (u v t : ℕ) (ts : List Tri) → option_map (λ (l : Lies). l.triangle) (side_from u v t ts) ≡ option_map (λ i. i / 3) (number_from u v (3 * t) (sides ts))
lowest_side u v t [] = refl
lowest_side u v t (tri x y z ∷ ts) =
    go (eqb x u && eqb y v) (eqb y u && eqb z v) (eqb z u && eqb x v) (lowest_side u v (t + 1) ts ∙ ap (λ n. option_map (λ i. i / 3) (number_from u v n (sides ts))) (omega arith))
  where
    go : (p q r : Bool)
        → option_map (λ (l : Lies). l.triangle) (side_from u v (t + 1) ts) ≡ option_map (λ i. i / 3) (number_from u v (3 * t + 1 + 1 + 1) (sides ts))
        → option_map (λ (l : Lies). l.triangle) (lies_here t (cond p (Some 0) (cond q (Some 1) (cond r (Some 2) None))) (side_from u v (t + 1) ts))
        ≡ option_map (λ i. i / 3) (cond p (Some (3 * t)) (cond q (Some (3 * t + 1)) (cond r (Some (3 * t + 1 + 1)) (number_from u v (3 * t + 1 + 1 + 1) (sides ts)))))
    go true q r e = let d : t ≡ 3 * t / 3 = omega arith in ap Some d
    go false true r e = let d : t ≡ (3 * t + 1) / 3 = omega arith in ap Some d
    go false false true e = let d : t ≡ (3 * t + 1 + 1) / 3 = omega arith in ap Some d
    go false false false e = e

-- The link leads to the lowest side from `at` on that starts in u, and no side before `at` is u→v.
pub record Seeking (ss : List Side) (u v link : ℕ) : Type 0 where
  pub at : ℕ
  pub linked : link ≡ link_from u at (drop at ss)
  pub same : number_from u v 0 ss ≡ number_from u v at (drop at ss)

pub seek_first : (ss : List Side) (u v : ℕ) (firsts ends nexts : List ℕ) → Linked ss 0 firsts ends nexts → u < length firsts → Seeking ss u v (get_or firsts u 0)
seek_first ss u v firsts ends nexts l h = record { at = 0; linked = l.firsts_told u h; same = refl }

-- the walk has come to the end
pub seek_none : (ts : List Tri) (u v link : ℕ) → Seeking (sides ts) u v link → link ≡ 0 → None ≡ side_of ts u v
seek_none ts u v link k e =
    sym (lowest_side u v 0 ts ∙ ap (option_map (λ i. i / 3)) (k.same ∙ ends_there u v k.at (drop k.at (sides ts)) (sym k.linked ∙ e)))

-- how many sides there are from a link on
abbrev pub links_left : ℕ → ℕ → ℕ
links_left n zero = 0
links_left n (suc i) = n - i

-- the side that a link leads to
pub record Sought (ss : List Side) (u v j : ℕ) : Type 0 where
  pub end : ℕ
  pub there : slice_get ss j ≡ Some (side u end)
  pub same : number_from u v 0 ss ≡ number_from u v j (drop j ss)

pub sought : (ss : List Side) (u v j : ℕ) → Seeking ss u v (suc j) → Sought ss u v j
sought ss u v j k =
    let r = leads u v k.at (drop k.at ss) j (sym k.linked) in
    let n = r.number in
    record {
      end = r.end;
      there = ap (slice_get ss) n ∙ sym (got_past ss k.at r.far) ∙ r.there;
      same = k.same ∙ r.same ∙ ap (number_from u v j) (drop-drop r.far k.at ss ∙ ap (λ i. drop i ss) (sym n));
    }
  where
    got_past : (ss : List Side) (i k : ℕ) → slice_get (drop i ss) k ≡ slice_get ss (i + k)
    got_past [] zero k = refl
    got_past [] (suc i) k = refl
    got_past (s ∷ ss) zero k = ap (slice_get (s ∷ ss)) (sym (zero-add k))
    got_past (s ∷ ss) (suc i) k = let e : suc i + k ≡ suc (i + k) = omega arith in got_past ss i k ∙ ap (slice_get (s ∷ ss)) (sym e)

module _ (ts : List Tri) (u v link i : ℕ) (k : Seeking (sides ts) u v link) (is : link ≡ suc i) where
  here : Sought (sides ts) u v i
  here = sought (sides ts) u v i (subst (Seeking (sides ts) u v) is k)

  pub seek_within : i < 3 * length ts
  seek_within = let h = here in let w = slice_get_within (sides ts) i (side u h.end) h.there in let n = sides_counted ts in omega arith

  -- the number there is that of the lowest side, or of one behind
  turns : number_from u v 0 (sides ts) ≡ cond (eqb u u && eqb here.end v) (Some i) (number_from u v (i + 1) (drop (i + 1) (sides ts)))
  turns = here.same ∙ ap (number_from u v i) (rest_there (sides ts) i (side u here.end) here.there)

  module _ (firsts ends nexts : List ℕ) (l : Linked (sides ts) 0 firsts ends nexts) where
    pub seek_found : get_or ends i 0 ≡ v → Some (i / 3) ≡ side_of ts u v
    seek_found e =
        let d = sym (l.ends_told i u here.end (omega arith) here.there) ∙ e in
        sym (lowest_side u v 0 ts ∙ ap (option_map (λ i. i / 3)) (turns ∙ cond-true (eqb u u && eqb here.end v) (Some i) (number_from u v (i + 1) (drop (i + 1) (sides ts))) (and_from (eqb u u) (eqb here.end v) (eq-eqb u u refl) (eq-eqb here.end v d))))

    pub seek_next : u < length firsts → (get_or ends i 0 ≡ v → ⊥) → Seeking (sides ts) u v (get_or nexts i 0)
    seek_next h ne =
        let t = l.ends_told i u here.end (omega arith) here.there in
        record {
          at = i + 1;
          linked = l.nexts_told i u here.end (omega arith) here.there h;
          same = turns ∙ cond-false (eqb u u && eqb here.end v) (Some i) (number_from u v (i + 1) (drop (i + 1) (sides ts))) (and_right (eqb u u) (eqb here.end v) (ne_eqb here.end v (λ e. ne (t ∙ e))));
        }

    pub seek_smaller : u < length firsts → (n : ℕ) → n ≡ 3 * length ts → links_left n (get_or nexts i 0) < links_left n link
    seek_smaller h n e = subst (λ x. links_left n (get_or nexts i 0) < links_left n x) (sym is) (go (get_or nexts i 0) (l.nexts_told i u here.end (omega arith) here.there h))
      where
        go : (next : ℕ) → next ≡ link_from u (i + 1) (drop (i + 1) (sides ts)) → links_left n next < n - i
        go zero e' = let w = seek_within in omega arith
        go (suc j) e' = let r = leads u v (i + 1) (drop (i + 1) (sides ts)) j (sym e') in let m = r.number in let w = seek_within in omega arith
