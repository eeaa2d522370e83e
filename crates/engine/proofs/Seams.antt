-- Where the codes of the trees close, only a side that is in two triangles is left to refuse.
use Rattle.std.proofs.Common.{◌≡◌, ℕ, Bool, List, [], ◌++◌, None, Option, sym, ap, ◌∙◌, subst}
use Rattle.std.specs.Option.{option_map}
use Rattle.fault.specs.declared.fault.Fault.{Fault}
use Rattle.fault.specs.declared.fault.Fault.TheVariants.{CodesOffTree, LoopTooShort, SideTwice}
use Rattle.fault.specs.Faults.{or_else}
use Rattle.mesh.specs.Triangles.{Tri}
use Rattle.mesh.specs.Closed.{Closed}
use Rattle.forest.specs.Trees.{trees}
use Rattle.forest.specs.Polygons.{Code}
use Rattle.forest.specs.Splitting.{added_triangles, first_early, first_twice, first_unclosed, forest_fault, kept_triangles, marked_of, sewing_fault, split_triangles}
use Rattle.forest.proofs.Checking.{planted}
use Rattle.forest.proofs.Wholes.{all_whole, never_early}

module _ (V : ℕ) (ts : List Tri) (n : ℕ) (cs : List Code) (closed : Closed V ts) (kept added : List Tri) (o : Option Fault) where
  clash_same : (bs : List Bool) → forest_fault V ts bs n ≡ None → None ≡ option_map CodesOffTree (first_unclosed (marked_of ts bs) 0 (trees V (marked_of ts bs)) cs)
      → kept ≡ kept_triangles V ts (marked_of ts bs) → added ≡ added_triangles V ts (marked_of ts bs) cs
      → o ≡ option_map SideTwice (first_twice 0 [] (kept ++ added)) → o ≡ sewing_fault V ts bs cs
  clash_same bs sound u k a e =
      let ms = marked_of ts bs in
      let w = all_whole ts ms 0 (trees V ms) ((never_early V ts bs).0 (closed, (planted V ts bs n sound).free)) in
      let clash = option_map SideTwice (first_twice 0 [] (split_triangles V ts ms cs)) in
      e
      ∙ (ap (λ us. option_map SideTwice (first_twice 0 [] (us ++ added))) k
      ∙ (ap (λ us. option_map SideTwice (first_twice 0 [] (kept_triangles V ts ms ++ us))) a
      ∙ (ap (λ p. or_else (option_map LoopTooShort p) clash) (sym w)
      ∙ ap (λ p. or_else p (or_else (option_map LoopTooShort (first_early ts ms 0 (trees V ms))) clash)) u)))

  -- the same for the marks `held` in a table
  pub clash_left : (held bs : List Bool) → held ≡ bs → forest_fault V ts bs n ≡ None → None ≡ option_map CodesOffTree (first_unclosed (marked_of ts held) 0 (trees V (marked_of ts held)) cs)
      → kept ≡ kept_triangles V ts (marked_of ts held) → added ≡ added_triangles V ts (marked_of ts held) cs
      → o ≡ option_map SideTwice (first_twice 0 [] (kept ++ added)) → o ≡ sewing_fault V ts bs cs
  clash_left held bs t sound u k a e =
      subst (λ zs. o ≡ sewing_fault V ts zs cs) t (clash_same held (subst (λ zs. forest_fault V ts zs n ≡ None) (sym t) sound) u k a e)
