-- The new numbers of the corners: each run has that of its position.
use Rattle.std.proofs.Common.{◌≡◌, ℕ, Bool, true, false, cond, eqb, List, map, length, sym, refl, ap, ◌∙◌, subst, eq-eqb, eqb-true}
use Rattle.std.proofs.lemmas.Bool.{and_parts, and_from}
use Rattle.mesh.specs.Triangles.{Tri}
use Rattle.mesh.specs.Sides.{Side, side, back}
use Rattle.forest.specs.Marks.{Marked, has_side}
use Rattle.forest.specs.Trees.{start, end}
use Rattle.forest.specs.Roots.{mirrored}
use Rattle.forest.specs.Loops.{flipped, read_as, hop, run_after}
use Rattle.forest.specs.Numbering.{passes}
use Rattle.mesh.proofs.Members.{mem_eq}
use Rattle.forest.proofs.Sectors.{Sector, On, sector_same, sector_apart}
use Rattle.forest.proofs.Marking.{Unmarked, marked_back, mem_has, has_mem}
use Rattle.forest.proofs.Hops.{flag, turns, hop_goes, hop_start, nx, pr, nx_pr, pr_ours, pr_end, src, src_by, src_ours, src_end, src_flag, start_back}
use Rattle.forest.proofs.Labels.{label_edge, Ours}
use Rattle.forest.proofs.Turning.{Good, good_read, EdgesIn, Turning, sector_mirror, on_mirror, link_read}

-- (v, x, y) is a corner of the run after the side s, as the tree of s reads the mesh
abbrev pub passed : List Tri → List Side → ℕ → ℕ → ℕ → Side → Bool
passed ts ms v x y s = passes ts ms (flag ts ms (start s)) v x y s

by_flag : (b : Bool) (x y : ℕ) → cond b (side y x) (side x y) ≡ side (cond b y x) (cond b x y)
by_flag true x y = refl
by_flag false x y = refl

pub passes_end : (ts : List Tri) (ms : List Side) (v x y : ℕ) (s : Side) → passed ts ms v x y s ≡ true → end s ≡ v
passes_end ts ms v x y s e = let b = flag ts ms (start s) in eqb-true (end s) v (and_parts (eqb (end s) v) (has_side (cond b (side y x) (side x y)) (run_after ts ms b s)) e).0

module _ (V : ℕ) (ts : List Tri) (ms : List Side) (g : Good V ts) (edges : EdgesIn ts ms) where
  abbrev Turn : (b : Bool) (u v : ℕ) → Marked ms u v → Turning (length ts) (read_as b ts) ms u v
  Turn b u v m = turns V ts ms g edges b u v m

  passes_on : (u v : ℕ) (m : Marked ms u v) (x y : ℕ) → passed ts ms v x y (side u v) ≡ true
      → (b : Bool) → flag ts ms u ≡ b → On (Turn b u v m).sector (cond b y x) (cond b x y)
  passes_on u v m x y e b f =
      let c = flag ts ms u in
      let cs = run_after ts ms c (side u v) in
      let h = (and_parts (eqb v v) (has_side (cond c (side y x) (side x y)) cs) e).1 in
      subst (λ (b : Bool). On (Turn b u v m).sector (cond b y x) (cond b x y)) f
      ((Turn c u v m).run_on (cond c y x) (cond c x y) (mem_eq (sym (by_flag c x y)) (has_mem (cond c (side y x) (side x y)) cs h)))

  on_passes : (u v : ℕ) (m : Marked ms u v) (x y : ℕ) (b : Bool) → flag ts ms u ≡ b
      → {w p q t : ℕ} (k : Sector (read_as b ts) v (Unmarked (Marked ms) v) w p q t) → t ≡ u → Marked ms v w → On k (cond b y x) (cond b x y) → passed ts ms v x y (side u v) ≡ true
  on_passes u v m x y b f {w} {p} {q} {t} =
      subst (λ (b : Bool). (k : Sector (read_as b ts) v (Unmarked (Marked ms) v) w p q t) → t ≡ u → Marked ms v w → On k (cond b y x) (cond b x y) → passed ts ms v x y (side u v) ≡ true) f
      (λ k e n o.
      let c = flag ts ms u in
      let cs = run_after ts ms c (side u v) in
      let a = Turn c u v m in
      let i = (sector_same (read_as c ts) v (Unmarked (Marked ms) v) ((good_read c V ts g).into v) e k a.sector (λ f. f n) (λ f. f a.marked)).1 (cond c y x) (cond c x y) o in
      and_from (eqb v v) (has_side (cond c (side y x) (side x y)) cs) (eq-eqb v v refl) (mem_has (cond c (side y x) (side x y)) cs (mem_eq (by_flag c x y) (a.runs (cond c y x) (cond c x y) i))))

  same_start : (u u' v : ℕ) → Marked ms u v → Marked ms u' v → (x y : ℕ) → passed ts ms v x y (side u v) ≡ true → passed ts ms v x y (side u' v) ≡ true → u ≡ u'
  same_start u u' v m m' x y e e' =
      let b = flag ts ms u in
      let f : flag ts ms u' ≡ b = ap (mirrored ts ms) (label_edge ms u' v m' ∙ sym (label_edge ms u v m)) in
      sector_apart (read_as b ts) v (Unmarked (Marked ms) v) ((good_read b V ts g).sharp v) (Turn b u v m).sector (Turn b u' v m').sector (λ f. f (marked_back ms u v m)) (λ f. f (marked_back ms u' v m'))
      (cond b y x) (cond b x y) (passes_on u v m x y e b refl) (passes_on u' v m' x y e' b f)

  -- no corner is passed twice
  pub passes_same : (s t : Side) → Ours ms s → Ours ms t → (v x y : ℕ) → passed ts ms v x y s ≡ true → passed ts ms v x y t ≡ true → s ≡ t
  passes_same (side u v) (side u' v') m m' w x y e e' =
      let a : v ≡ w = passes_end ts ms w x y (side u v) e in
      let b : v' ≡ v = passes_end ts ms w x y (side u' v') e' ∙ sym a in
      let m'' : Marked ms u' v = subst (λ (z : ℕ). Marked ms u' z) b m' in
      let i = same_start u u' v m m'' x y (subst (λ (z : ℕ). passed ts ms z x y (side u v) ≡ true) (sym a) e)
      (subst (λ (z : ℕ). passed ts ms v x y (side u' z) ≡ true) b (subst (λ (z : ℕ). passed ts ms z x y (side u' v') ≡ true) (sym a) e')) in
      cc

  -- a sector of the mesh is the run after src
  passes_by : (b : Bool) (s : Side) → Ours ms s → flag ts ms (start s) ≡ b → (v : ℕ) → end s ≡ v → (x y : ℕ)
      → {w p q t : ℕ} (k : Sector (read_as b ts) v (Unmarked (Marked ms) v) w p q t) → t ≡ start s → Marked ms v w → On k (cond b y x) (cond b x y) → passed ts ms v x y s ≡ true
  passes_by b (side u z) m f v e x y k i n o =
      subst (λ (z : ℕ). Marked ms u z → passed ts ms v x y (side u z) ≡ true) (sym e) (λ m. on_passes u v m x y b f k i n o) m

  run_passed_by : (b : Bool) (t : Side) → Ours ms t → flag ts ms (start (src_by V ts ms g edges b t)) ≡ b → (v : ℕ) → end (src_by V ts ms g edges b t) ≡ v → Ours ms (src_by V ts ms g edges b t)
      → {w y x u : ℕ} (k : Sector ts v (Unmarked (Marked ms) v) w y x u) → w ≡ end t → u ≡ start (pr V ts ms g edges t) → Marked ms v w → Marked ms v u → (p q : ℕ) → On k p q → passed ts ms v p q (src_by V ts ms g edges b t) ≡ true
  unfolding src_by
  run_passed_by true t m f v e n k i j a c p q o =
      passes_by true (back t) n f v e p q (sector_mirror ts (map flipped ts) v (Unmarked (Marked ms) v) (link_read false ts v) k) (i ∙ sym (start_back t)) c (on_mirror ts (map flipped ts) v (Unmarked (Marked ms) v) (link_read false ts v) k p q o)
  run_passed_by false t m f v e n k i j a c p q o = passes_by false (pr V ts ms g edges t) n f v e p q k j a o

  pub run_passed : (t : Side) → Ours ms t → {w y x u : ℕ} (k : Sector ts (start t) (Unmarked (Marked ms) (start t)) w y x u) → w ≡ end t → u ≡ start (pr V ts ms g edges t) → Marked ms (start t) w → Marked ms (start t) u
      → (p q : ℕ) → On k p q → passed ts ms (start t) p q (src V ts ms g edges t) ≡ true
  unfolding src
  run_passed t m k i j a c p q o =
      run_passed_by (flag ts ms (start t)) t m (src_flag V ts ms g edges t m) (start t) (src_end V ts ms g edges t m) (src_ours V ts ms g edges t m) k i j a c p q o

  -- the sector at t
  sector_of : (s : Side) → Ours ms s → (y : ℕ) × (x : ℕ) × Sector ts (end s) (Unmarked (Marked ms) (end s)) (end (hop ts ms false s)) y x (start s)
  sector_of (side u v) m = let a = Turn false u v m in (a.y, a.x, rw (hop_goes V ts ms g edges false u v m) a.sector)

  pub sector_at : (t : Side) → Ours ms t → (y : ℕ) × (x : ℕ) × Sector ts (start t) (Unmarked (Marked ms) (start t)) (start (nx V ts ms g edges t)) y x (start (pr V ts ms g edges t))
  sector_at t m =
      let s = pr V ts ms g edges t in
      let e : end (hop ts ms false s) ≡ start (nx V ts ms g edges t) = ap end (nx_pr V ts ms g edges t m) ∙ sym (hop_start V ts ms g edges false t m) in
      subst (λ (v : ℕ). (y : ℕ) × (x : ℕ) × Sector ts v (Unmarked (Marked ms) v) (start (nx V ts ms g edges t)) y x (start s)) (pr_end V ts ms g edges t m)
      (subst (λ (w : ℕ). (y : ℕ) × (x : ℕ) × Sector ts (end s) (Unmarked (Marked ms) (end s)) w y x (start s)) e (sector_of s (pr_ours V ts ms g edges t m)))
