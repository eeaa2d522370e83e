-- Sorted edges, each once, are the rising list of their pairs.
use Rattle.std.proofs.Common.{◌≡◌, ℕ, zero, suc, ◌<◌, Bool, true, false, cond, eqb, ltb, List, [], ◌∷◌, map, length, get_or, sym, refl, ap, ◌∙◌, inl, inr, arith, rules, eqb-true, eq-eqb, ltb-true, IsPermutation}
use Rattle.std.proofs.lemmas.Bool.{and_parts, and_from}
use Rattle.std.proofs.lemmas.List.Kept.{Contains-dedup, Contains-from_dedup, IsStrictlySortedBy-dedup}
use Rattle.std.proofs.lemmas.List.Sorted.{Contains-permutation, IsPermutation-sym}
use Rattle.std.specs.Cmp.{IsTotalOrder, IsEquivalence}
use Rattle.std.specs.Cmp.Rules.{comparing}
use Rattle.std.specs.List.{Contains, AllByRecursion, dedup}
use Rattle.std.specs.List.Sorted.{IsSorted, IsStrictlySortedBy}
use Rattle.std.specs.Ordering.{nat_cmp, ordering_then, eq_by_cmp}
use Rattle.std.specs.declared.cmp.Ordering.{Ordering}
use Rattle.std.specs.declared.cmp.Ordering.TheVariants.{Less, Equal, Greater}
use Rattle.mesh.specs.Lists.{Mem, now, later}
use Rattle.mesh.specs.Sides.{Side}
use Rattle.mesh.specs.Edges.{Lower, Ascending, rising}
use Rattle.mesh.proofs.Members.{mem_map, map_mem, mem_eq}
use Rattle.mesh.proofs.Rise.{ascending_same, rising_ascends, mem_rising, rising_mem}
use Rattle.edges.specs.declared.edge.Edge.{Edge}
use Rattle.edges.specs.Pairs.{pair_of, same}

-- an edge is its ends
abbrev made : ℕ → ℕ → Edge
made low high = record { low = low; high = high }

pub same_equal : (e f : Edge) → same e f ≡ true → e ≡ f
same_equal e f h =
    let p = and_parts (eqb e.low f.low) (eqb e.high f.high) h in
    let l = eqb-true e.low f.low p.0 in
    let k = eqb-true e.high f.high p.1 in ap (λ x. made x e.high) l ∙ ap (made f.low) k

pub same_self : (e : Edge) → same e e ≡ true
same_self e = and_from (eqb e.low e.low) (eqb e.high e.high) (eq-eqb e.low e.low refl) (eq-eqb e.high e.high refl)

-- the order of edges
abbrev pub edge_cmp : Edge → Edge → Ordering
edge_cmp e f = ordering_then (nat_cmp e.low f.low) (nat_cmp e.high f.high)

edge_order : IsTotalOrder edge_cmp
edge_order = search (comparing, rules)

same_ties : (e f : Edge) → same e f ≡ eq_by_cmp edge_cmp e f
same_ties = search (comparing, rules)

same_equivalence : IsEquivalence same
same_equivalence = search (comparing, rules)

less_lower : (e f : Edge) → edge_cmp e f ≡ Less → Lower (pair_of e) (pair_of f)
less_lower e f h = go (ltb e.low f.low) refl (eqb e.low f.low) refl (ltb e.high f.high) refl (eqb e.high f.high) h
  where
    go : (b : Bool) → ltb e.low f.low ≡ b → (c : Bool) → eqb e.low f.low ≡ c → (d : Bool) → ltb e.high f.high ≡ d → (k : Bool) → ordering_then (cond b Less (cond c Equal Greater)) (cond d Less (cond k Equal Greater)) ≡ Less → Lower (pair_of e) (pair_of f)
    go true p c q d r k h = inl (ltb-true e.low f.low p)
    go false p true q true r k h = inr (eqb-true e.low f.low q, ltb-true e.high f.high r)
    go false p true q false r true h = absurd cc
    go false p true q false r false h = absurd cc
    go false p false q d r k h = absurd cc

-- the library's word for a member says where it stands
module _ {A : Type 0} where
  mem_contains : {x : A} {xs : List A} → Mem x xs → Contains xs x
  mem_contains now = (0, omega arith, refl)
  mem_contains (later m) = let r = mem_contains m in let h = r.1 in (suc r.0, omega arith, r.2)

  item_mem : (x : A) (xs : List A) (k : ℕ) → k < length xs → get_or xs k x ≡ x → Mem x xs
  item_mem x [] k h e = absurd (omega arith)
  item_mem x (y ∷ ys) zero h e = mem_eq (sym e) now
  item_mem x (y ∷ ys) (suc k) h e = later (item_mem x ys k (omega arith) e)

  contains_mem : {x : A} (xs : List A) → Contains xs x → Mem x xs
  contains_mem {x} xs c = item_mem x xs c.0 c.1 c.2

  all_mem : (P : A → Type 0) {x : A} {xs : List A} → Mem x xs → AllByRecursion P xs → P x
  all_mem P now a = a.0
  all_mem P (later m) a = all_mem P m a.1

strictly_ascends : (es : List Edge) → IsStrictlySortedBy edge_cmp es → Ascending (map pair_of es)
unfolding IsStrictlySortedBy
strictly_ascends [] s = tt
strictly_ascends (e ∷ es) s = (
  λ t m. let r = map_mem pair_of es m in let h = less_lower e r.0 (all_mem (λ f. edge_cmp e f ≡ Less) r.1 s.0) in rw r.2 h,
  strictly_ascends es s.1,
)

pub sorted_rising : (xs ys : List Edge) → IsPermutation xs ys → IsSorted edge_cmp ys → map pair_of (dedup same ys) ≡ rising (map pair_of xs)
sorted_rising xs ys p s =
    ascending_same _ _ (strictly_ascends (dedup same ys) (IsStrictlySortedBy-dedup edge_order same_ties ys s)) (rising_ascends (map pair_of xs)) to from
  where
    to : (t : Side) → Mem t (map pair_of (dedup same ys)) → Mem t (rising (map pair_of xs))
    to t m =
        let r = map_mem pair_of (dedup same ys) m in
        let k = Contains-from_dedup same ys r.0 (mem_contains r.1) in
        mem_rising (mem_eq r.2 (mem_map pair_of (contains_mem xs (Contains-permutation ys xs r.0 (IsPermutation-sym xs ys p) k))))

    from : (t : Side) → Mem t (rising (map pair_of xs)) → Mem t (map pair_of (dedup same ys))
    from t m =
        let r = map_mem pair_of xs (rising_mem (map pair_of xs) m) in
        let k = Contains-permutation xs ys r.0 p (mem_contains r.1) in
        mem_eq r.2 (mem_map pair_of (contains_mem (dedup same ys) (Contains-dedup same_equivalence same_equal ys r.0 k)))
