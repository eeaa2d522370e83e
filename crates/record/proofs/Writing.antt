-- Writing the parts of a record one behind another.
use Rattle.std.proofs.Common.{◌≡◌, ℕ, zero, suc, ◌+◌, ◌-◌, ◌≤◌, List, ◌++◌, length, drop, sym, refl, ap, ◌∙◌, arith}
use borrow.Rule.Slice.PartMut.{put_mid}
use Rattle.std.proofs.lemmas.List.{append_assoc, take_at, drop_at, drop-drop, length-append}
use Rattle.place.specs.Kinds.{Kind}
use Rattle.record.specs.Packing.{bytes_for, packed}
use Rattle.record.specs.Written.{body_size, record_size, head_bytes, packed_marks, packed_codes, record_bytes}

-- a part is written behind what is written
pub put_next : (f o ys : List ℕ) (a e : ℕ) → length f ≡ a → a ≤ e → put_mid a (e - a) (f ++ drop a o) ys ≡ (f ++ ys) ++ drop e o
put_next f o ys a e l h =
    let s : a + (e - a) ≡ e = omega arith in
    ap (λ (t : List ℕ). t ++ (ys ++ drop (e - a) (drop a (f ++ drop a o)))) (take_at f (drop a o) a l)
    ∙ ap (λ (t : List ℕ). f ++ (ys ++ drop (e - a) t)) (drop_at f (drop a o) a l)
    ∙ ap (λ (t : List ℕ). f ++ (ys ++ t)) (drop-drop (e - a) a o ∙ ap (λ (n : ℕ). drop n o) s)
    ∙ sym (append_assoc f ys (drop e o))

pub length_packed : (w n k : ℕ) (xs : List ℕ) → length (packed w n k xs) ≡ k
length_packed w n zero xs = refl
length_packed w n (suc k) xs = ap suc (length_packed w n k (drop n xs))

module _ {P D : Type 0} (k : Kind P D) (ms cs ds : List ℕ) where
  pub length_record : length (record_bytes k ms cs ds) ≡ record_size ms cs ds
  length_record =
      let a = length-append (packed_marks ms) (packed_codes cs ++ ds) in
      let b = length-append (packed_codes cs) ds in
      omega (arith, length_packed 1 8 (bytes_for 8 (length ms)) ms, length_packed 2 4 (bytes_for 4 (length cs)) cs)

-- the head, then the marks up to a, the codes up to b and the displacements up to e
pub put_all : (h m c d o : List ℕ) (a b e : ℕ) → length h ≡ 10 → 10 ≤ a → length m ≡ a - 10 → a ≤ b → length c ≡ b - a → b ≤ e → put_mid b (e - b) (put_mid a (b - a) (put_mid 10 (a - 10) (h ++ drop 10 o) m) c) d ≡ h ++ (m ++ (c ++ d)) ++ drop e o
put_all h m c d o a b e lh ha lm hb lc he =
    let la : length (h ++ m) ≡ a = omega (arith, length-append h m) in
    let lb : length ((h ++ m) ++ c) ≡ b = omega (arith, length-append (h ++ m) c) in
    ap (λ (t : List ℕ). put_mid b (e - b) (put_mid a (b - a) t c) d) (put_next h o m 10 a lh ha)
    ∙ ap (λ (t : List ℕ). put_mid b (e - b) t d) (put_next (h ++ m) o c a b la hb)
    ∙ put_next ((h ++ m) ++ c) o d b e lb he
    ∙ simp append_assoc

-- the same for the parts of a record
module _ {P D : Type 0} (k : Kind P D) (ms cs ds o : List ℕ) where
  pub put_parts : (h m c d : List ℕ) (a b e : ℕ) → h ≡ head_bytes k (e - 4) (length cs) → m ≡ packed_marks ms → c ≡ packed_codes cs → d ≡ ds → a ≡ 10 + bytes_for 8 (length ms) → b ≡ a + bytes_for 4 (length cs) → e ≡ b + length ds → put_mid b (e - b) (put_mid a (b - a) (put_mid 10 (a - 10) (h ++ drop 10 o) m) c) d ≡ record_bytes k ms cs ds ++ drop (record_size ms cs ds) o
  put_parts h m c d a b e eh em ec ed ea eb ee =
      let size : e ≡ record_size ms cs ds = omega arith in
      let body : e - 4 ≡ body_size ms cs ds = omega arith in
      let lh : length h ≡ 10 = ap length eh in
      let lm : length m ≡ a - 10 = omega (arith, ap length em, length_packed 1 8 (bytes_for 8 (length ms)) ms) in
      let lc : length c ≡ b - a = omega (arith, ap length ec, length_packed 2 4 (bytes_for 4 (length cs)) cs) in
      let fst : h ≡ head_bytes k (body_size ms cs ds) (length cs) = eh ∙ ap (λ (n : ℕ). head_bytes k n (length cs)) body in
      put_all h m c d o a b e lh (omega arith) lm (omega arith) lc (omega arith)
      ∙ ap (λ (t : List ℕ). t ++ (m ++ (c ++ d)) ++ drop e o) fst
      ∙ ap (λ (t : List ℕ). head_bytes k (body_size ms cs ds) (length cs) ++ (t ++ (c ++ d)) ++ drop e o) em
      ∙ ap (λ (t : List ℕ). head_bytes k (body_size ms cs ds) (length cs) ++ (packed_marks ms ++ (t ++ d)) ++ drop e o) ec
      ∙ ap (λ (t : List ℕ). head_bytes k (body_size ms cs ds) (length cs) ++ (packed_marks ms ++ (packed_codes cs ++ t)) ++ drop e o) ed
      ∙ ap (λ (n : ℕ). record_bytes k ms cs ds ++ drop n o) size
