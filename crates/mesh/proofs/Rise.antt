-- Sides in rising order.
use Rattle.std.proofs.Common.{◌≡◌, ℕ, ◌<◌, Bool, true, false, cond, ◌&&◌, eqb, ltb, ◌⊎◌, List, [], ◌∷◌, map, filter, sym, refl, ap, ◌∙◌, inl, inr, ⊎_elim, arith, ltb-false, ltb-true, lt-ltb, eq-eqb, eqb-true}
use borrow.Author.Tests.{clash}
use Rattle.std.proofs.lemmas.Bool.{and_parts, or_cases, or_parts, and_from}
use Rattle.mesh.specs.Lists.{Mem, now, later, Apart, no_one, one_more}
use Rattle.mesh.specs.Triangles.{Tri}
use Rattle.mesh.specs.Sides.{Side, side, back, sides}
use Rattle.mesh.specs.Edges.{up, before, insert, rising, two_way, edges, Lower, Ascending, EdgesListed}
use Rattle.mesh.proofs.Members.{Within, mem_cases, kept_mem, mem_kept, mem_left, mem_right, mem_split, mem_eq, mem_map, map_mem}

before_lower : (s t : Side) → before s t ≡ true → Lower s t
before_lower (side i j) (side k l) e =
    ⊎_elim (λ h. inl (ltb-true i k h)) (λ h. let a = and_parts (eqb i k) (ltb j l) h in inr (eqb-true i k a.0, ltb-true j l a.1)) (or_cases (ltb i k) (eqb i k && ltb j l) e)

neither_same : (s t : Side) → before s t ≡ false → before t s ≡ false → s ≡ t
neither_same (side i j) (side k l) e f =
    let a = or_parts (ltb i k) (eqb i k && ltb j l) e in
    let b = or_parts (ltb k i) (eqb k i && ltb l j) f in
    let p = ltb-false i k a.0 in
    let q = ltb-false k i b.0 in
    let same : i ≡ k = omega arith in go (ltb j l) refl (ltb l j) refl a.1 b.1 same
  where
    go : (x : Bool) → ltb j l ≡ x → (y : Bool) → ltb l j ≡ y → (eqb i k && x) ≡ false → (eqb k i && y) ≡ false → i ≡ k → side i j ≡ side k l
    go true p y q a b e = absurd (clash (sym a ∙ and_from (eqb i k) true (eq-eqb i k e) refl))
    go false p true q a b e = absurd (clash (sym b ∙ and_from (eqb k i) true (eq-eqb k i (sym e)) refl))
    go false p false q a b e = let h = ltb-false j l p in let g = ltb-false l j q in let d : j ≡ l = omega arith in cc

lower_trans : (r s t : Side) → Lower r s → Lower s t → Lower r t
lower_trans (side a b) (side c d) (side e f) (inl h) (inl k) = inl (omega arith)
lower_trans (side a b) (side c d) (side e f) (inl h) (inr k) = inl (omega (arith, k.0))
lower_trans (side a b) (side c d) (side e f) (inr h) (inl k) = inl (omega (arith, h.0))
lower_trans (side a b) (side c d) (side e f) (inr h) (inr k) = inr (h.0 ∙ k.0, omega (arith, h.1, k.1))

never_lower : (s : Side) → Lower s s → ⊥
never_lower (side i j) (inl h) = omega arith
never_lower (side i j) (inr h) = omega (arith, h.1)

-- a member of the list with a side put in is that side or was there
insert_mem : (t : Side) (ss : List Side) {s : Side} → Mem s (insert t ss) → (s ≡ t) ⊎ Mem s ss
insert_mem t [] m = mem_cases m
insert_mem t (r ∷ ss) {s} m = go (before t r) (before r t) m (λ k. insert_mem t ss k)
  where
    go : (b c : Bool) → Mem s (cond b (t ∷ r ∷ ss) (cond c (r ∷ insert t ss) (r ∷ ss))) → (Mem s (insert t ss) → (s ≡ t) ⊎ Mem s ss) → (s ≡ t) ⊎ Mem s (r ∷ ss)
    go true c m f = mem_cases m
    go false true m f = ⊎_elim (λ (e : s ≡ r). inr (mem_eq e now)) (λ k. ⊎_elim (λ e. inl e) (λ i. inr (later i)) (f k)) (mem_cases m)
    go false false m f = inr m

mem_insert : (t : Side) (ss : List Side) {s : Side} → (s ≡ t) ⊎ Mem s ss → Mem s (insert t ss)
mem_insert t [] (inl e) = mem_eq e now
mem_insert t [] (inr m) = elim m [ ]
mem_insert t (r ∷ ss) {s} h = go (before t r) refl (before r t) refl h (λ h. mem_insert t ss h)
  where
    go : (b : Bool) → before t r ≡ b → (c : Bool) → before r t ≡ c → (s ≡ t) ⊎ Mem s (r ∷ ss) → ((s ≡ t) ⊎ Mem s ss → Mem s (insert t ss)) → Mem s (cond b (t ∷ r ∷ ss) (cond c (r ∷ insert t ss) (r ∷ ss)))
    go true p c q (inl e) f = mem_eq e now
    go true p c q (inr m) f = later m
    go false p true q (inl e) f = later (f (inl e))
    go false p true q (inr m) f = ⊎_elim (λ (e : s ≡ r). mem_eq e now) (λ k. later (f (inr k))) (mem_cases m)
    go false p false q (inl e) f = mem_eq (e ∙ neither_same t r p q) now
    go false p false q (inr m) f = m

insert_ascends : (t : Side) (ss : List Side) → Ascending ss → Ascending (insert t ss)
insert_ascends t [] a = (λ s m. elim m [ ], tt)
insert_ascends t (r ∷ ss) a = go (before t r) refl (before r t) refl (insert_ascends t ss a.1)
  where
    go : (b : Bool) → before t r ≡ b → (c : Bool) → before r t ≡ c → Ascending (insert t ss) → Ascending (cond b (t ∷ r ∷ ss) (cond c (r ∷ insert t ss) (r ∷ ss)))
    go true p c q i = (λ s m. ⊎_elim (λ (e : s ≡ r). lower_at (sym e) (before_lower t r p)) (λ k. lower_trans t r s (before_lower t r p) (a.0 s k)) (mem_cases m), a)
      where
        lower_at : {x y : Side} → x ≡ y → Lower t x → Lower t y
        lower_at e h = rw e at h
    go false p true q i = (λ s m. ⊎_elim (λ (e : s ≡ t). lower_at (sym e) (before_lower r t q)) (λ k. a.0 s k) (insert_mem t ss m), i)
      where
        lower_at : {x y : Side} → x ≡ y → Lower r x → Lower r y
        lower_at e h = rw e at h
    go false p false q i = a

pub rising_ascends : (ss : List Side) → Ascending (rising ss)
rising_ascends [] = tt
rising_ascends (s ∷ ss) = insert_ascends s (rising ss) (rising_ascends ss)

pub mem_rising : {s : Side} {ss : List Side} → Mem s ss → Mem s (rising ss)
mem_rising {s} (now {xs = ss}) = mem_insert s (rising ss) (inl refl)
mem_rising (later {y = t} {xs = ss} m) = mem_insert t (rising ss) (inr (mem_rising m))

pub rising_mem : {s : Side} (ss : List Side) → Mem s (rising ss) → Mem s ss
rising_mem [] m = elim m [ ]
rising_mem {s} (t ∷ ss) m = ⊎_elim (λ (e : s ≡ t). mem_eq e now) (λ k. later (rising_mem ss k)) (insert_mem t (rising ss) m)

pub ascending_apart : (ss : List Side) → Ascending ss → Apart ss
ascending_apart [] a = no_one
ascending_apart (s ∷ ss) a = one_more (λ m. never_lower s (a.0 s m)) (ascending_apart ss a.1)

-- rising lists with the same members are the same list
pub ascending_same : (ss ts : List Side) → Ascending ss → Ascending ts → Within ss ts → Within ts ss → ss ≡ ts
ascending_same [] [] a b f g = refl
ascending_same [] (t ∷ ts) a b f g = elim (g t now) [ ]
ascending_same (s ∷ ss) [] a b f g = elim (f s now) [ ]
ascending_same (s ∷ ss) (t ∷ ts) a b f g =
    let e = first_same s t ss ts a b (f s now) (g t now) in
    let f' : Within ss ts = λ z m. past t ts (λ i. never_lower s (a.0 s (mem_eq (e ∙ sym i) m))) (f z (later m)) in
    let g' : Within ts ss = λ z m. past s ss (λ i. never_lower t (b.0 t (mem_eq (sym e ∙ sym i) m))) (g z (later m)) in
    let r = ascending_same ss ts a.1 b.1 f' g' in cc
  where
    first_same : (s t : Side) (ss ts : List Side) → Ascending (s ∷ ss) → Ascending (t ∷ ts) → Mem s (t ∷ ts) → Mem t (s ∷ ss) → s ≡ t
    first_same s t ss ts a b m n = ⊎_elim (λ e. e) (λ k. ⊎_elim (λ e. sym e) (λ l. absurd (never_lower s (lower_trans s t s (a.0 t l) (b.0 s k)))) (mem_cases n)) (mem_cases m)

    past : {z : Side} (t : Side) (ts : List Side) → (z ≡ t → ⊥) → Mem z (t ∷ ts) → Mem z ts
    past {z} t ts n m = ⊎_elim (λ (e : z ≡ t). absurd (n e)) (λ k. k) (mem_cases m)

two_way_cases : (ss : List Side) (i j : ℕ) → Mem (side i j) (two_way ss) → Mem (side i j) ss ⊎ Mem (side j i) ss
two_way_cases ss i j m = ⊎_elim (λ k. inl k) (λ k. let r = map_mem back ss k in inr (mem_eq (ap back r.2) (turn_back r.0 r.1))) (mem_split ss m)
  where
    turn_back : (s : Side) → Mem s ss → Mem (back (back s)) ss
    turn_back (side x y) m = m

two_way_mem : (ss : List Side) (i j : ℕ) → Mem (side i j) ss ⊎ Mem (side j i) ss → Mem (side i j) (two_way ss)
two_way_mem ss i j (inl m) = mem_left (map back ss) m
two_way_mem ss i j (inr m) = mem_right ss (mem_map back m)

pub edges_ascend : (ts : List Tri) → Ascending (edges ts)
edges_ascend ts = rising_ascends (filter up (two_way (sides ts)))

pub edge_side : (ts : List Tri) (i j : ℕ) → Mem (side i j) (edges ts) → (i < j) × (Mem (side i j) (sides ts) ⊎ Mem (side j i) (sides ts))
edge_side ts i j m = let k = kept_mem up (two_way (sides ts)) (rising_mem (filter up (two_way (sides ts))) m) in (ltb-true i j k.1, two_way_cases (sides ts) i j k.0)

pub side_edge : (ts : List Tri) (i j : ℕ) → i < j → Mem (side i j) (sides ts) ⊎ Mem (side j i) (sides ts) → Mem (side i j) (edges ts)
side_edge ts i j h m = mem_rising (mem_kept up (two_way_mem (sides ts) i j m) (lt-ltb i j h))

pub edges_listed : EdgesListed
edges_listed ts = (edges_ascend ts, edge_side ts, side_edge ts)
