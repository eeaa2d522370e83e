-- The keys of a loop's sides: they stay low, and each side follows the one before.
use Rattle.std.proofs.Common.{◌≡◌, ℕ, zero, suc, ◌+◌, ◌-◌, ◌<◌, ◌≤◌, Bool, true, false, cond, ◌&&◌, eqb, List, [], ◌∷◌, ◌++◌, map, length, take, drop, set, get_or, Some, Option, unwrap_or, sym, refl, ap, ◌∙◌, arith}
use Rattle.std.proofs.lemmas.List.{take_more_set, take_all, map-append, append-nil, append_assoc, drop_more, length-take, length-drop}
use Rattle.std.proofs.lemmas.Slice.{take-put_mid}
use borrow.Rule.Slice.PartMut.{put_mid}
use Rattle.mesh.specs.Triangles.{Tri, tri}
use Rattle.mesh.specs.Sides.{Side}
use Rattle.mesh.specs.Rings.{at_first, at_second, at_third, here, there}
use Rattle.mesh.specs.Closed.{Closed}
use Rattle.forest.specs.Marks.{is_marked}
use Rattle.forest.specs.Loops.{read_as, apex, found, hop, loop}
use Rattle.forest.specs.Tables.{key_side, key_sides, flag_of, flags_of, walked}
use Rattle.forest.specs.Theorems.{sum}
use Rattle.engine.specs.Loops.{LowCorners}
use Rattle.engine.proofs.Apexes.{apex_flipped}

-- the corners of a closed mesh are
pub closed_low : (V : ℕ) (ts : List Tri) → Closed V ts → V ≤ 16384 → LowCorners ts
closed_low V ts c h v x y l = let k = (c.fits v x y l).0 in omega arith

low_pick : (p q r : Bool) (a b c n : ℕ) → a < 16384 → b < 16384 → c < 16384 → n < 16384 → cond p c (cond q a (cond r b n)) < 16384
low_pick true q r a b c n h i j k = j
low_pick false true r a b c n h i j k = h
low_pick false false true a b c n h i j k = i
low_pick false false false a b c n h i j k = k

apex_low : (ts : List Tri) (u v : ℕ) → LowCorners ts → apex ts u v < 16384
apex_low [] u v low = omega arith
apex_low (tri a b c ∷ ts) u v low =
    low_pick (eqb a u && eqb b v) (eqb b u && eqb c v) (eqb c u && eqb a v) a b c (apex ts u v)
    (low a b c (here at_first)) (low b c a (here at_second)) (low c a b (here at_third)) (apex_low ts u v (λ v x y l. low v x y (there l)))

read_low : (m : Bool) (ts : List Tri) (u v : ℕ) → LowCorners ts → apex (read_as m ts) u v < 16384
read_low true ts u v low = rw (apex_flipped ts u v) (apex_low ts v u low)
read_low false ts u v low = apex_low ts u v low

found_in : (n : ℕ) (us : List Tri) (ms : List Side) (u v w : ℕ) → ((u v : ℕ) → apex us u v < 16384) → w < 16384 → unwrap_or (found n us ms u v) w < 16384
found_in zero us ms u v w low h = h
found_in (suc n) us ms u v w low h = go (is_marked ms v (apex us u v)) (found_in n us ms (apex us u v) v w low h)
  where
    go : (b : Bool) → unwrap_or (found n us ms (apex us u v) v) w < 16384 → unwrap_or (cond b (Some (apex us u v)) (found n us ms (apex us u v) v)) w < 16384
    go true k = low u v
    go false k = k

pub found_low : (ts : List Tri) (m : Bool) (ms : List Side) (n u v w : ℕ) (o : Option ℕ) → LowCorners ts → o ≡ found n (read_as m ts) ms u v → w < 16384 → unwrap_or o w < 16384
found_low ts m ms n u v w o low e h = rw e (found_in n (read_as m ts) ms u v w (λ u v. read_low m ts u v low) h)

-- one side more, and no more
pub walk_more : (step : Side → Side) (out : List ℕ) (n i k l : ℕ) (r : List Side) → key_sides (take i out) ++ loop step (n - i) (key_side k) ≡ r
    → i < length out → i < n → key_side l ≡ step (key_side k) → key_sides (take (i + 1) (set out i k)) ++ loop step (n - (i + 1)) (key_side l) ≡ r
walk_more step out n i k l r e h j f =
    let z : n - i ≡ suc (n - (i + 1)) = omega arith in
    let front = key_sides (take i out) in
    let more = loop step (n - (i + 1)) in
    ap (λ ss. ss ++ more (key_side l)) (ap key_sides (take_more_set out i k h) ∙ map-append key_side (take i out) (k ∷ []))
    ∙ (append_assoc front (key_side k ∷ []) (more (key_side l))
    ∙ (ap (λ t. front ++ key_side k ∷ more t) f
    ∙ (sym (ap (λ m. front ++ loop step m (key_side k)) z) ∙ e)))

pub walk_all : (step : Side → Side) (out : List ℕ) (n i : ℕ) (s : Side) (r : List Side) → key_sides (take i out) ++ loop step (n - i) s ≡ r → length out ≤ i → n ≤ i → key_sides out ≡ r
walk_all step out n i s r e h j =
    let z : n - i ≡ 0 = omega arith in
    sym (ap key_sides (take_all i out h)) ∙ (sym (append-nil (key_sides (take i out))) ∙ (ap (λ m. key_sides (take i out) ++ loop step m s) (sym z) ∙ e))

-- the flags that are one or nothing
flags_words : (f : Side → Bool) (ss : List Side) → flags_of (map (λ r. cond (f r) 1 0) ss) ≡ map f ss
flags_words f [] = refl
flags_words f (s ∷ ss) = let e = flags_words f ss in let k = go (f s) in cc
  where
    go : (b : Bool) → flag_of (cond b 1 0) ≡ b
    go true = refl
    go false = refl

pub flags_all : (f : Side → Bool) (ns rs : List ℕ) (k : ℕ) → take k ns ≡ map (λ r. cond (f r) 1 0) (key_sides (take k rs)) → length ns ≤ k → length rs ≤ k → flags_of ns ≡ map f (key_sides rs)
flags_all f ns rs k e h j =
    ap flags_of (sym (take_all k ns h) ∙ (e ∙ ap (λ ks. map (λ r. cond (f r) 1 0) (key_sides ks)) (take_all k rs j))) ∙ flags_words f (key_sides rs)

-- the sum of what is left, and one loop more
pub sum_more : (ns : List ℕ) (k : ℕ) → k < length ns → sum (drop k ns) ≡ get_or ns k 0 + sum (drop (k + 1) ns)
sum_more ns k h = ap sum (drop_more ns k 0 h)

pub room_more : (ns : List ℕ) (k at n : ℕ) → at + sum (drop k ns) ≡ n → k < length ns → at + get_or ns k 0 + sum (drop (k + 1) ns) ≡ n
room_more ns k at n e h = let s = sum_more ns k h in omega arith

pub loops_more : (ts : List Tri) (ms : List Side) (out ws rs ns bs : List ℕ) (at k m : ℕ) (r : List Side)
    → key_sides (take at out) ++ walked ts ms (key_sides (drop k rs)) (drop k ns) (flags_of (drop k bs)) ≡ r
    → at + sum (drop k ns) ≡ length out → k < length rs → length ns ≡ length rs → length bs ≡ length rs
    → m ≡ at + get_or ns k 0
    → length ws ≡ get_or ns k 0
    → key_sides ws ≡ loop (hop ts ms (flag_of (get_or bs k 0))) (get_or ns k 0) (key_side (get_or rs k 0))
    → key_sides (take m (put_mid at (m - at) out ws)) ++ walked ts ms (key_sides (drop (k + 1) rs)) (drop (k + 1) ns) (flags_of (drop (k + 1) bs)) ≡ r
loops_more ts ms out ws rs ns bs at k m r e room h nn nb em lw w =
    let s = sum_more ns k (omega arith) in
    let one = loop (hop ts ms (flag_of (get_or bs k 0))) (get_or ns k 0) (key_side (get_or rs k 0)) in
    let rest = walked ts ms (key_sides (drop (k + 1) rs)) (drop (k + 1) ns) (flags_of (drop (k + 1) bs)) in
    let front = key_sides (take at out) in
    let a = ap key_sides (take-put_mid at (m - at) out ws m (omega arith) (omega arith)) ∙ (map-append key_side (take at out) ws ∙ ap (λ ss. front ++ ss) w) in
    let b : walked ts ms (key_sides (drop k rs)) (drop k ns) (flags_of (drop k bs)) ≡ one ++ rest =
    ap (λ xs. walked ts ms (key_sides xs) (drop k ns) (flags_of (drop k bs))) (drop_more rs k 0 h)
    ∙ (ap (λ xs. walked ts ms (key_sides (get_or rs k 0 ∷ drop (k + 1) rs)) xs (flags_of (drop k bs))) (drop_more ns k 0 (omega arith))
    ∙ ap (λ xs. walked ts ms (key_sides (get_or rs k 0 ∷ drop (k + 1) rs)) (get_or ns k 0 ∷ drop (k + 1) ns) (flags_of xs)) (drop_more bs k 0 (omega arith)))
    in ap (λ ss. ss ++ rest) a ∙ (append_assoc front one rest ∙ (ap (λ ss. front ++ ss) (sym b) ∙ e))

-- the part that is walked is as long as the loop
pub part_long : (out : List ℕ) (ns : List ℕ) (at k : ℕ) → at + sum (drop k ns) ≡ length out → k < length ns → length (take (at + get_or ns k 0 - at) (drop at out)) ≡ get_or ns k 0
part_long out ns at k room h = let s = sum_more ns k h in let t = length-take (at + get_or ns k 0 - at) (drop at out) in let d = length-drop at out in omega arith
