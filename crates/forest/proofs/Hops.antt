-- The steps from marked side to marked side, and the position of a run.
use Rattle.std.proofs.Common.{◌≡◌, ℕ, Bool, true, false, cond, not, List, length, sym, refl, ap, ◌∙◌, subst, arith}
use Rattle.std.proofs.Math.Bool.{not-not}
use Rattle.mesh.specs.Triangles.{Tri}
use Rattle.mesh.specs.Sides.{Side, side, back}
use Rattle.forest.specs.Marks.{Marked}
use Rattle.forest.specs.Trees.{label, start, end}
use Rattle.forest.specs.Roots.{mirrored}
use Rattle.forest.specs.Loops.{ahead, read_as, hop}
use Rattle.mesh.proofs.Counting.{back_inj}
use Rattle.forest.proofs.Labels.{label_edge, Ours, InTree}
use Rattle.forest.proofs.Turning.{read_length, Good, good_read, EdgesIn, edges_read, link_read, Turning, turning, turns_back}
use Rattle.forest.proofs.Marking.{marked_back}

pub back_back : (s : Side) → back (back s) ≡ s
back_back (side u v) = refl

pub start_back : (s : Side) → start (back s) ≡ end s
start_back (side u v) = refl

pub end_back : (s : Side) → end (back s) ≡ start s
end_back (side u v) = refl

-- whether the tree of v is mirrored
abbrev pub flag : List Tri → List Side → ℕ → Bool
flag ts ms v = mirrored ts ms (label ms v)

-- the next side in the loop of the tree that s belongs to
unfoldable pub next : List Tri → List Side → Side → Side
next ts ms s = hop ts ms (flag ts ms (start s)) s

pub next_hop : (ts : List Tri) (ms : List Side) (s : Side) → next ts ms s ≡ hop ts ms (flag ts ms (start s)) s
unfolding next
next_hop ts ms s = refl

module _ (V : ℕ) (ts : List Tri) (ms : List Side) (g : Good V ts) (edges : EdgesIn ts ms) where
  pub ours_back : (s : Side) → Ours ms s → Ours ms (back s)
  ours_back (side u v) m = marked_back ms u v m

  pub turns : (b : Bool) (u v : ℕ) → Marked ms u v → Turning (length ts) (read_as b ts) ms u v
  turns b u v m = turning V (read_as b ts) ms (good_read b V ts g) (edges_read b V ts ms g edges) (length ts) (let e = read_length b ts in omega arith) u v m

  pub hop_goes : (b : Bool) (u v : ℕ) (m : Marked ms u v) → hop ts ms b (side u v) ≡ side v (turns b u v m).w
  hop_goes b u v m = ap (λ o. ahead o (side u v)) (turns b u v m).goes

  pub hop_ours : (b : Bool) (s : Side) → Ours ms s → Ours ms (hop ts ms b s)
  hop_ours b (side u v) m = rw (hop_goes b u v m) (turns b u v m).marked

  pub hop_start : (b : Bool) (s : Side) → Ours ms s → start (hop ts ms b s) ≡ end s
  hop_start b (side u v) m = ap start (hop_goes b u v m)

  pub hop_back : (b : Bool) (s : Side) → Ours ms s → hop ts ms (not b) (back (hop ts ms b s)) ≡ back s
  hop_back b (side u v) m =
      let a = turns b u v m in
      let c = turns (not b) a.w v (marked_back ms v a.w a.marked) in
      let r = turns_back V (read_as b ts) (read_as (not b) ts) ms (good_read (not b) V ts g) (link_read b ts) u v (marked_back ms u v m) (length ts) a c in
      ap (λ s. hop ts ms (not b) (back s)) (hop_goes b u v m) ∙ hop_goes (not b) a.w v (marked_back ms v a.w a.marked) ∙ ap (λ x. side v x) (sym r.0)

  pub hop_forth : (b : Bool) (s : Side) → Ours ms s → hop ts ms b (back (hop ts ms (not b) (back s))) ≡ s
  hop_forth b s m =
      let h = hop_back (not b) (back s) (ours_back s m) in
      ap (λ c. hop ts ms c (back (hop ts ms (not b) (back s)))) (sym (not-not b)) ∙ h ∙ back_back s

  pub hop_inj : (b : Bool) (s t : Side) → Ours ms s → Ours ms t → hop ts ms b s ≡ hop ts ms b t → s ≡ t
  hop_inj b s t m n e = back_inj s t (sym (hop_back b s m) ∙ ap (λ r. hop ts ms (not b) (back r)) e ∙ hop_back b t n)

  pub label_ends : (s : Side) → Ours ms s → label ms (start s) ≡ label ms (end s)
  label_ends (side u v) m = label_edge ms u v m

  -- the next side
  pub next_ours : (s : Side) → Ours ms s → Ours ms (next ts ms s)
  next_ours s m = subst (Ours ms) (sym (next_hop ts ms s)) (hop_ours (flag ts ms (start s)) s m)

  pub next_start : (s : Side) → Ours ms s → start (next ts ms s) ≡ end s
  next_start s m = ap start (next_hop ts ms s) ∙ hop_start (flag ts ms (start s)) s m

  pub next_label : (s : Side) → Ours ms s → label ms (start (next ts ms s)) ≡ label ms (start s)
  next_label s m = ap (label ms) (next_start s m) ∙ sym (label_ends s m)

  pub next_in : (k : ℕ) (s : Side) → InTree ms k s → InTree ms k (next ts ms s)
  next_in k s m = (next_ours s m.0, next_label s m.0 ∙ m.1)

  pub next_inj : (s t : Side) → Ours ms s → Ours ms t → next ts ms s ≡ next ts ms t → s ≡ t
  next_inj s t m n e =
      let l : label ms (start s) ≡ label ms (start t) = sym (next_label s m) ∙ ap (λ z. label ms (start z)) e ∙ next_label t n in
      hop_inj (flag ts ms (start s)) s t m n (sym (next_hop ts ms s) ∙ e ∙ next_hop ts ms t ∙ ap (λ k. hop ts ms (mirrored ts ms k) t) (sym l))

  -- in the tree k
  pub hop_next : (k : ℕ) (s : Side) → InTree ms k s → hop ts ms (mirrored ts ms k) s ≡ next ts ms s
  hop_next k s p = ap (λ i. hop ts ms (mirrored ts ms i) s) (sym p.1) ∙ sym (next_hop ts ms s)

  -- the position that the run at t belongs to follows src t
  abbrev pub nx : Side → Side
  nx s = hop ts ms false s

  abbrev pub pr : Side → Side
  pr s = back (hop ts ms true (back s))

  pub nx_pr : (s : Side) → Ours ms s → nx (pr s) ≡ s
  nx_pr s m = hop_forth false s m

  pub pr_nx : (s : Side) → Ours ms s → pr (nx s) ≡ s
  pr_nx s m = ap back (hop_back false s m) ∙ back_back s

  pub pr_ours : (s : Side) → Ours ms s → Ours ms (pr s)
  pr_ours s m = ours_back (hop ts ms true (back s)) (hop_ours true (back s) (ours_back s m))

  pub pr_end : (s : Side) → Ours ms s → end (pr s) ≡ start s
  pr_end s m = end_back (hop ts ms true (back s)) ∙ hop_start true (back s) (ours_back s m) ∙ end_back s

  unfoldable pub src_by : Bool → Side → Side
  src_by b t = cond b (back t) (pr t)

  unfoldable pub src : Side → Side
  src t = src_by (flag ts ms (start t)) t

  src_by_ours : (b : Bool) (t : Side) → Ours ms t → Ours ms (src_by b t)
  unfolding src_by
  src_by_ours true t m = ours_back t m
  src_by_ours false t m = pr_ours t m

  src_by_end : (b : Bool) (t : Side) → Ours ms t → end (src_by b t) ≡ start t
  unfolding src_by
  src_by_end true t m = end_back t
  src_by_end false t m = pr_end t m

  pub src_ours : (t : Side) → Ours ms t → Ours ms (src t)
  unfolding src
  src_ours t m = src_by_ours (flag ts ms (start t)) t m

  pub src_end : (t : Side) → Ours ms t → end (src t) ≡ start t
  unfolding src
  src_end t m = src_by_end (flag ts ms (start t)) t m

  pub src_label : (t : Side) → Ours ms t → label ms (start (src t)) ≡ label ms (start t)
  src_label t m = label_ends (src t) (src_ours t m) ∙ ap (label ms) (src_end t m)

  pub src_flag : (t : Side) → Ours ms t → flag ts ms (start (src t)) ≡ flag ts ms (start t)
  src_flag t m = ap (mirrored ts ms) (src_label t m)

  src_by_inj : (b : Bool) (t r : Side) → Ours ms t → Ours ms r → src_by b t ≡ src_by b r → t ≡ r
  unfolding src_by
  src_by_inj true t r m n e = back_inj t r e
  src_by_inj false t r m n e = sym (nx_pr t m) ∙ ap nx e ∙ nx_pr r n

  pub src_inj : (t r : Side) → Ours ms t → Ours ms r → src t ≡ src r → t ≡ r
  unfolding src
  src_inj t r m n e =
      let a : start t ≡ start r = sym (src_end t m) ∙ ap end e ∙ src_end r n in
      src_by_inj (flag ts ms (start t)) t r m n (e ∙ ap (λ v. src_by (flag ts ms v) r) (sym a))

  -- the position of the run at t
  unfoldable pub place_of : Side → Side
  place_of t = next ts ms (src t)

  pub place_hop : (t : Side) → Ours ms t → place_of t ≡ hop ts ms (flag ts ms (start t)) (src t)
  unfolding place_of
  place_hop t m = next_hop ts ms (src t) ∙ ap (λ b. hop ts ms b (src t)) (src_flag t m)

  pub place_ours : (t : Side) → Ours ms t → Ours ms (place_of t)
  unfolding place_of
  place_ours t m = next_ours (src t) (src_ours t m)

  pub place_start : (t : Side) → Ours ms t → start (place_of t) ≡ start t
  unfolding place_of
  place_start t m = next_start (src t) (src_ours t m) ∙ src_end t m

  pub place_inj : (t r : Side) → Ours ms t → Ours ms r → place_of t ≡ place_of r → t ≡ r
  unfolding place_of
  place_inj t r m n e = src_inj t r m n (next_inj (src t) (src r) (src_ours t m) (src_ours r n) e)

  -- by the flag: what stands before and after
  by_nx : (b : Bool) (t : Side) → Ours ms t → hop ts ms b (src_by b (nx t)) ≡ cond b (src_by b t) (hop ts ms b (hop ts ms b (src_by b t)))
  unfolding src_by
  by_nx true t m = hop_back false t m
  by_nx false t m = nx_pr (nx t) (hop_ours false t m) ∙ ap nx (sym (nx_pr t m))

  by_pr : (b : Bool) (t : Side) → Ours ms t → hop ts ms b (src_by b (pr t)) ≡ cond b (hop ts ms b (hop ts ms b (src_by b t))) (src_by b t)
  unfolding src_by
  by_pr true t m = ap (hop ts ms true) (back_back (hop ts ms true (back t)))
  by_pr false t m = nx_pr (pr t) (pr_ours t m)

  next_flag : (b : Bool) (s : Side) → Ours ms s → flag ts ms (start s) ≡ b → next ts ms s ≡ hop ts ms b s
  next_flag b s m e = next_hop ts ms s ∙ ap (λ b. hop ts ms b s) e

  twice : (b : Bool) (s : Side) → Ours ms s → flag ts ms (start s) ≡ b → next ts ms (next ts ms s) ≡ hop ts ms b (hop ts ms b s)
  twice b s m e = next_flag b (next ts ms s) (next_ours s m) (ap (mirrored ts ms) (next_label s m) ∙ e) ∙ ap (hop ts ms b) (next_flag b s m e)

  nx_label : (t : Side) → Ours ms t → label ms (start (nx t)) ≡ label ms (start t)
  nx_label t m = ap (label ms) (hop_start false t m) ∙ sym (label_ends t m)

  pr_label : (t : Side) → Ours ms t → label ms (start (pr t)) ≡ label ms (start t)
  pr_label t m = label_ends (pr t) (pr_ours t m) ∙ ap (label ms) (pr_end t m)

  pub place_nx : (t : Side) → Ours ms t → place_of (nx t) ≡ cond (flag ts ms (start t)) (src t) (next ts ms (next ts ms (src t)))
  unfolding src
  place_nx t m =
      let b = flag ts ms (start t) in
      let e : flag ts ms (start (nx t)) ≡ b = ap (mirrored ts ms) (nx_label t m) in
      place_hop (nx t) (hop_ours false t m) ∙ ap (λ b. hop ts ms b (src_by b (nx t))) e ∙ by_nx b t m
      ∙ ap (λ z. cond b (src_by b t) z) (sym (twice b (src t) (src_ours t m) (src_flag t m)))

  pub place_pr : (t : Side) → Ours ms t → place_of (pr t) ≡ cond (flag ts ms (start t)) (next ts ms (next ts ms (src t))) (src t)
  unfolding src
  place_pr t m =
      let b = flag ts ms (start t) in
      let e : flag ts ms (start (pr t)) ≡ b = ap (mirrored ts ms) (pr_label t m) in
      place_hop (pr t) (pr_ours t m) ∙ ap (λ b. hop ts ms b (src_by b (pr t))) e ∙ by_pr b t m
      ∙ ap (λ z. cond b z (src_by b t)) (sym (twice b (src t) (src_ours t m) (src_flag t m)))

  -- each side is the position of a run
  dst_by : (b : Bool) (s : Side) → Ours ms s → (t : Side) × Ours ms t × (start t ≡ start s) × (hop ts ms b (src_by b t) ≡ s)
  unfolding src_by
  dst_by true s m = (hop ts ms false (back s), hop_ours false (back s) (ours_back s m), hop_start false (back s) (ours_back s m) ∙ end_back s, hop_forth true s m)
  dst_by false s m = (s, m, refl, nx_pr s m)

  pub dst : (s : Side) → Ours ms s → (t : Side) × Ours ms t × (start t ≡ start s) × (place_of t ≡ s)
  unfolding src
  dst s m =
      let r = dst_by (flag ts ms (start s)) s m in
      (r.0, r.1, r.2, place_hop r.0 r.1 ∙ ap (λ v. hop ts ms (flag ts ms v) (src_by (flag ts ms v) r.0)) r.2 ∙ r.3)
