use Rattle.std.proofs.Common.{◌≡◌, ℕ, List, ◌++◌, length, take, drop, None, sym, ap, ◌∙◌, subst}
use Rattle.std.proofs.lemmas.List.{take_at}
use Rattle.record.specs.Written.{record_size, record_bytes}
use Rattle.record.specs.Refusals.{write_fault, buffer_of}
use Rattle.record.specs.Theorems.{ReadsAs}
use Rattle.record.proofs.Readiness.{ready, accepted}
use Rattle.record.proofs.Reading.{reads_as}
use Rattle.record.proofs.Refusing.{passes}
use Rattle.record.proofs.Writing.{length_record}
use Rattle.record.proofs.parts.Parts.write.Goals as goal

pub put-requires : goal.put-requires
put-requires g c =
    let p = c.args.self.now in
    ready g.P.Place.kind g.met.P.Place.lawful.displacement_narrow p.marks.now p.codes.now p.displacements.now (length c.args.out.now) (passes _ c.in_ok-check.field-0 (sym c.check.ensures ∙ c.in_ok-check.was))

pub returns-clause-buffer : goal.returns-clause-buffer
returns-clause-buffer g c =
    let k = g.P.Place.kind in
    let p = c.args.self.now in
    let bs = record_bytes k p.marks.now p.codes.now p.displacements.now in
    let o = c.args.out.now in
    let none : write_fault k p.marks.now p.codes.now p.displacements.now (length o) ≡ None = passes _ c.in_ok-check.field-0 (sym c.check.ensures ∙ c.in_ok-check.was) in
    c.put.ensures.buffer
    ∙ ap (λ (n : ℕ). bs ++ drop n o) (sym (length_record k p.marks.now p.codes.now p.displacements.now))
    ∙ sym (ap (λ f. buffer_of f bs o) none)

pub returns-clause-back : goal.returns-clause-back
returns-clause-back g c =
    let k = g.P.Place.kind in
    let narrow = g.met.P.Place.lawful.displacement_narrow in
    let p = c.args.self.now in
    let bs = record_bytes k p.marks.now p.codes.now p.displacements.now in
    let o = c.args.out.now in
    let none : write_fault k p.marks.now p.codes.now p.displacements.now (length o) ≡ None = passes _ c.in_ok-check.field-0 (sym c.check.ensures ∙ c.in_ok-check.was) in
    let n = c.put.result in
    let front : take n c.put.new.out ≡ bs =
    ap (take n) c.put.ensures.buffer
    ∙ take_at bs (drop (record_size p.marks.now p.codes.now p.displacements.now) o) n (length_record k p.marks.now p.codes.now p.displacements.now ∙ sym c.put.ensures.size) in
    subst (λ (b : List ℕ). ReadsAs k b p.marks.now p.codes.now p.displacements.now) (sym front)
    (reads_as k narrow p.marks.now p.codes.now p.displacements.now (accepted k narrow p.marks.now p.codes.now p.displacements.now (length o) none))
