-- Parents that link labels, with one written anew, and the marked edges that are left.
use Rattle.std.proofs.Common.{◌≡◌, ℕ, suc, ◌+◌, ◌/◌, ◌%◌, ◌<◌, ◌≤◌, min, max, Bool, true, false, cond, ◌&&◌, eqb, List, ◌∷◌, length, get_or, set, drop, Some, None, sym, refl, ap, ◌∙◌, subst, ⊎_elim, add-one, arith, length-set, get_or-set_same, get_or-set_other}
use Rattle.std.proofs.lemmas.Bool.{cases_eq, cases_lt, eq-eqb, ne_eqb, not-false, not-true, cond-true, cond-false}
use Rattle.std.proofs.lemmas.List.{drop_more, drop_all}
use Rattle.mesh.specs.Sides.{Side, side}
use Rattle.forest.specs.Marks.{marked_edges}
use Rattle.forest.specs.Trees.{merged, labels, own, label}
use Rattle.forest.specs.Splitting.{first_closing}
use Rattle.forest.specs.Tables.{key_sides, flag_of, flags_of}
use Rattle.engine.specs.Joining.{Own, Falling, Links, joined, Joins}
use Rattle.engine.specs.Marking.{marked}

-- what holds of what is written at v, and of every other entry, holds of the entry at k
at_set : (P : ℕ → Type 0) (ps : List ℕ) (v x k : ℕ) → v < length ps → (k ≡ v → P x) → ((k ≡ v → ⊥) → P (get_or ps k 0)) → P (get_or (set ps v x) k 0)
at_set P ps v x k h here there =
    ⊎_elim (λ (e : k ≡ v). subst P (sym (ap (λ i. get_or (set ps v x) i 0) e ∙ get_or-set_same ps v x 0 h)) (here e))
    (λ (n : k ≡ v → ⊥). subst P (sym (get_or-set_other ps v k x 0 n)) (there n)) (cases_eq k v)

pub set_falling : (ps : List ℕ) (v x : ℕ) → v < length ps → x ≤ v → Falling ps → Falling (set ps v x)
set_falling ps v x h i f = record {
  each = λ k l. let e = length-set ps v x in at_set (λ y. y ≤ k) ps v x k h (λ e. omega arith) (λ n. f.each k (omega arith));
}

-- ---- a vertex takes its parent's parent

-- the parent's parent
abbrev pub up : List ℕ → ℕ → ℕ
up ps v = get_or ps (get_or ps v 0) 0

module _ (ps : List ℕ) (v : ℕ) (h : v < length ps) (f : Falling ps) where
  pub up_le : up ps v ≤ v
  up_le = let a = f.each v h in let b = f.each (get_or ps v 0) (omega arith) in omega arith

  pub up_falling : Falling (set ps v (up ps v))
  up_falling = set_falling ps v (up ps v) h up_le f

  pub up_label : (l : ℕ → ℕ) → Links ps l → l (up ps v) ≡ l v
  up_label l o = let a = f.each v h in o.kept (get_or ps v 0) (omega arith) ∙ o.kept v h

  pub up_links : (l : ℕ → ℕ) → Links ps l → Links (set ps v (up ps v)) l
  up_links l o = record {
    kept = λ k i. let e = length-set ps v (up ps v) in at_set (λ y. l y ≡ l k) ps v (up ps v) k h (λ e. up_label l o ∙ ap l (sym e)) (λ n. o.kept k (omega arith));
    root = λ k i.
        let e = length-set ps v (up ps v) in
        at_set (λ y. y ≡ k → l k ≡ k) ps v (up ps v) k h
        (λ (e : k ≡ v) (w : up ps v ≡ k).
        let a = f.each v h in
        let b = f.each (get_or ps v 0) (omega arith) in
        let z : get_or ps v 0 ≡ v = omega arith in
        subst (λ x. l x ≡ x) (sym e) (o.root v h z))
        (λ n. o.root k (omega arith));
  }

-- ---- one root goes below another

merge_links : (ps : List ℕ) (l : ℕ → ℕ) (low high : ℕ) → low < high → high < length ps → l low ≡ low → l high ≡ high → Links ps l → Links (set ps high low) (λ v. cond (eqb (l v) high) low (l v))
merge_links ps l low high lt h rl rh o = record {
  kept = λ k i.
      let e = length-set ps high low in
      at_set (λ y. m y ≡ m k) ps high low k h (λ (e : k ≡ high). at_low ∙ sym at_high ∙ ap m (sym e)) (λ n. ap (λ x. cond (eqb x high) low x) (o.kept k (omega arith)));
  root = λ k i.
      let e = length-set ps high low in
      at_set (λ y. y ≡ k → m k ≡ k) ps high low k h (λ (e : k ≡ high) (w : low ≡ k). absurd (omega arith))
      (λ n w. let r = o.root k (omega arith) w in cond-false (eqb (l k) high) low (l k) (ne_eqb (l k) high (λ q. n (sym r ∙ q))) ∙ r);
}
  where
    m : ℕ → ℕ
    m v = cond (eqb (l v) high) low (l v)

    at_low : m low ≡ low
    at_low = cond-false (eqb (l low) high) low (l low) (ne_eqb (l low) high (λ e. omega arith)) ∙ rl

    at_high : m high ≡ low
    at_high = cond-true (eqb (l high) high) low (l high) (eq-eqb (l high) high rh)

pick_min : (P : ℕ → Type 0) (a b : ℕ) → P a → P b → P (min a b)
pick_min P a b p q = ⊎_elim (λ (h : a < b). let e : a ≡ min a b = omega arith in subst P e p) (λ (h : b ≤ a). let e : b ≡ min a b = omega arith in subst P e q) (cases_lt a b)

pick_max : (P : ℕ → Type 0) (a b : ℕ) → P a → P b → P (max a b)
pick_max P a b p q = ⊎_elim (λ (h : a < b). let e : b ≡ max a b = omega arith in subst P e q) (λ (h : b ≤ a). let e : a ≡ max a b = omega arith in subst P e p) (cases_lt a b)

pub unite_links : (ps : List ℕ) (l : ℕ → ℕ) (i j a b hi lo : ℕ) → hi ≡ max a b → lo ≡ min a b → l i ≡ a → l j ≡ b → a < length ps → b < length ps → (a ≡ b → ⊥) → l a ≡ a → l b ≡ b → Links ps l → Links (set ps hi lo) (λ v. merged (l i) (l j) (l v))
unite_links ps l i j a b hi lo eh el ea eb ha hb ne ra rb o =
    rw (eh, el, ea, eb) (merge_links ps l (min a b) (max a b) (omega arith) (omega arith) (pick_min (λ x. l x ≡ x) a b ra rb) (pick_max (λ x. l x ≡ x) a b ra rb) o)

-- ---- parents become the labels, in rising order

pub flat_more : (ps : List ℕ) (l : ℕ → ℕ) (v : ℕ) → v < length ps → Falling ps → Links ps l → ((k : ℕ) → k < v → get_or ps k 0 ≡ l k) → (k : ℕ) → k < v + 1 → get_or (set ps v (up ps v)) k 0 ≡ l k
flat_more ps l v h f o flat k i = at_set (λ y. y ≡ l k) ps v (up ps v) k h (λ (e : k ≡ v). here ∙ ap l (sym e)) (λ n. flat k (omega arith))
  where
    here : up ps v ≡ l v
    here =
        ⊎_elim (λ (e : get_or ps v 0 ≡ v). ap (λ x. get_or ps x 0) e ∙ e ∙ sym (o.root v h e))
        (λ (n : get_or ps v 0 ≡ v → ⊥). let le = f.each v h in flat (get_or ps v 0) (omega arith) ∙ o.kept v h) (cases_eq (get_or ps v 0) v)

-- ---- the edges that are left, with the labels so far

pub record Left (ps ks ns : List ℕ) (e : ℕ) : Type 0 where
  pub so_far : ℕ → ℕ
  pub links : Links ps so_far
  pub closing : first_closing so_far e (key_sides (drop e ks)) (flags_of (drop e ns)) ≡ first_closing own 0 (key_sides ks) (flags_of ns)
  pub told : (v : ℕ) → labels so_far (marked (drop e ks) (drop e ns)) v ≡ label (marked ks ns) v

pub own_falling : (ps : List ℕ) → Own ps → Falling ps
own_falling ps o = record { each = λ v h. let e = o.each v h in omega arith }

pub left_all : (ps ks ns : List ℕ) → Own ps → Left ps ks ns 0
left_all ps ks ns o = record {
  so_far = own;
  links = record { kept = λ v h. o.each v h; root = λ v h e. refl };
  closing = refl;
  told = λ v. refl;
}

closing_step : (l : ℕ → ℕ) (e i j : ℕ) (m : Bool) (es : List Side) (bs : List Bool) → first_closing l e (side i j ∷ es) (m ∷ bs) ≡ cond (m && eqb (l i) (l j)) (Some e) (first_closing (joined m i j l) (suc e) es bs)
closing_step l e i j true es bs = refl
closing_step l e i j false es bs = refl

labels_step : (l : ℕ → ℕ) (i j : ℕ) (m : Bool) (es : List Side) (bs : List Bool) (v : ℕ) → labels l (marked_edges (side i j ∷ es) (m ∷ bs)) v ≡ labels (joined m i j l) (marked_edges es bs) v
labels_step l i j true es bs v = refl
labels_step l i j false es bs v = refl

module _ (ps qs ks ns : List ℕ) (e : ℕ) (h : e < length ks) (p : length ns ≡ length ks) (left : Left ps ks ns e) where
  abbrev k : ℕ
  k = get_or ks e 0

  abbrev m : Bool
  m = flag_of (get_or ns e 0)

  abbrev l : ℕ → ℕ
  l = left.so_far

  keys_more : drop e ks ≡ k ∷ drop (e + 1) ks
  keys_more = drop_more ks e 0 h

  marks_more : drop e ns ≡ get_or ns e 0 ∷ drop (e + 1) ns
  marks_more = drop_more ns e 0 (omega arith)

  closing_here : first_closing own 0 (key_sides ks) (flags_of ns) ≡ cond (m && eqb (l (k / 16384)) (l (k % 16384))) (Some e) (first_closing (joined m (k / 16384) (k % 16384) l) (suc e) (key_sides (drop (e + 1) ks)) (flags_of (drop (e + 1) ns)))
  closing_here =
      sym left.closing
      ∙ ap (λ xs. first_closing l e (key_sides xs) (flags_of (drop e ns))) keys_more
      ∙ ap (λ xs. first_closing l e (key_sides (k ∷ drop (e + 1) ks)) (flags_of xs)) marks_more
      ∙ closing_step l e (k / 16384) (k % 16384) m (key_sides (drop (e + 1) ks)) (flags_of (drop (e + 1) ns))

  told_here : (v : ℕ) → labels (joined m (k / 16384) (k % 16384) l) (marked (drop (e + 1) ks) (drop (e + 1) ns)) v ≡ label (marked ks ns) v
  told_here v =
      sym (ap (λ xs. labels l (marked xs (drop e ns)) v) keys_more
      ∙ ap (λ xs. labels l (marked (k ∷ drop (e + 1) ks) xs) v) marks_more
      ∙ labels_step l (k / 16384) (k % 16384) m (key_sides (drop (e + 1) ks)) (flags_of (drop (e + 1) ns)) v)
      ∙ left.told v

  module _ (r : Bool) (joins : Joins ps qs (flag_of (get_or ns e 0)) (get_or ks e 0 / 16384) (get_or ks e 0 % 16384) r) where
    pub left_more : r ≡ true → Left qs ks ns (e + 1)
    left_more t = record {
      so_far = joined m (k / 16384) (k % 16384) l;
      links = (joins l left.links).1 t;
      closing =
          ap (λ i. first_closing (joined m (k / 16384) (k % 16384) l) i (key_sides (drop (e + 1) ks)) (flags_of (drop (e + 1) ns))) (add-one e)
          ∙ sym (cond-false (m && eqb (l (k / 16384)) (l (k % 16384))) (Some e) _ (not-true _ (sym (joins l left.links).0 ∙ t)))
          ∙ sym closing_here;
      told = told_here;
    }

    pub left_closing : r ≡ false → Some e ≡ first_closing own 0 (key_sides ks) (flags_of ns)
    left_closing t = sym (closing_here ∙ cond-true (m && eqb (l (k / 16384)) (l (k % 16384))) (Some e) _ (not-false _ (sym (joins l left.links).0 ∙ t)))

-- nothing is left
module _ (ps ks ns : List ℕ) (e : ℕ) (h : length ks ≤ e) (left : Left ps ks ns e) where
  pub none_closing : None ≡ first_closing own 0 (key_sides ks) (flags_of ns)
  none_closing = sym (sym left.closing ∙ ap (λ xs. first_closing left.so_far e (key_sides xs) (flags_of (drop e ns))) (drop_all e ks h))

  same : (v : ℕ) → left.so_far v ≡ label (marked ks ns) v
  same v = sym (ap (λ xs. labels left.so_far (marked xs (drop e ns)) v) (drop_all e ks h)) ∙ left.told v

  pub all_links : Links ps (label (marked ks ns))
  all_links = record {
    kept = λ v i. sym (same (get_or ps v 0)) ∙ left.links.kept v i ∙ same v;
    root = λ v i z. sym (same v) ∙ left.links.root v i z;
  }
