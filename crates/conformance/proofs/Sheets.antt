-- A sheet that was written is the front of its buffer.
use Rattle.std.proofs.Common.{◌≡◌, ℕ, ◌≤◌, Bool, true, false, cond, leb, List, [], ◌++◌, length, take, drop, Ok, Err, Result, refl, sym, ap, ◌∙◌, arith}
use Rattle.std.proofs.lemmas.Bool.{leb-true}
use Rattle.std.proofs.Math.Seq.{take-append_seam}
use Rattle.fault.specs.declared.fault.Fault.{Fault}
use Rattle.fault.specs.declared.fault.Fault.TheVariants.{ShortBuffer}
use Rattle.place.specs.Kinds.{Kind, Lawful}
use Rattle.mesh.specs.Meshes.{Mesh}
use Rattle.sheet.specs.Writing.{sheet_bytes, written_size, sheet_written, sheet_after}
use Rattle.sheet.proofs.Written.{sheet_length}
use Rattle.conformance.specs.Verdicts.{sheet_within}

module _ {P D : Type 0} (k : Kind P D) (law : Lawful k) (m : Mesh P) (out : List ℕ) where
  -- a size is the sheet's, in a buffer with room for it
  pub size_fits : (size : ℕ) → Ok size ≡ sheet_written k m out → (size ≡ written_size k m) × (leb (written_size k m) (length out) ≡ true)
  unfolding sheet_written
  size_fits size e = go (leb (written_size k m) (length out)) refl e
    where
      go : (b : Bool) → leb (written_size k m) (length out) ≡ b → ◌≡◌ {A = Result ℕ Fault} (Ok size) (cond b (Ok (written_size k m)) (Err (ShortBuffer (written_size k m)))) → (size ≡ written_size k m) × (leb (written_size k m) (length out) ≡ true)
      go true i e = (cc, i)
      go false i e = absurd (cc)

  -- so as many bytes at the front are the sheet
  pub front_is : (size : ℕ) (after : List ℕ) → Ok size ≡ sheet_written k m out → after ≡ sheet_after k m out → take size after ≡ sheet_within k m (length out)
  unfolding sheet_after
  front_is size after e a =
      let f = size_fits size e in
      let long : size ≡ length (sheet_bytes k m) = f.0 ∙ sym (sheet_length k law m) in
      let whole : after ≡ sheet_bytes k m ++ drop (written_size k m) out = a ∙ ap (λ (b : Bool). cond b (sheet_bytes k m ++ drop (written_size k m) out) out) f.1 in
      (λ i. take (long i) (whole i)) ∙ (take-append_seam (sheet_bytes k m) (drop (written_size k m) out) ∙ sym (ap (λ (b : Bool). cond b (sheet_bytes k m) []) f.1))

  pub size_small : (size : ℕ) → Ok size ≡ sheet_written k m out → size ≤ length out
  size_small size e = let f = size_fits size e in let room = leb-true (written_size k m) (length out) f.1 in omega arith

  -- a refusal says that there is no room
  pub nothing_is : (fault : Fault) → Err fault ≡ sheet_written k m out → ◌≡◌ {A = List ℕ} [] (sheet_within k m (length out))
  unfolding sheet_written
  nothing_is fault e = go (leb (written_size k m) (length out)) e
    where
      go : (b : Bool) → ◌≡◌ {A = Result ℕ Fault} (Err fault) (cond b (Ok (written_size k m)) (Err (ShortBuffer (written_size k m)))) → ◌≡◌ {A = List ℕ} [] (cond b (sheet_bytes k m) [])
      go true e = absurd (cc)
      go false e = refl
