-- How runs begin, and how they go on.
use Rattle.std.proofs.Common.{◌≡◌, ℕ, List, [], ◌∷◌, ◌++◌, sym, refl, ap, ◌∙◌}
use Rattle.fault.proofs.Orders.{or_none}
use Rattle.place.specs.Kinds.{Kind}
use Rattle.sheet.specs.Content.{sheet_mesh}
use Rattle.runs.specs.Jobs.{base_numbers, empty_fault, mesh_unless}
use Rattle.runs.specs.Calls.{State, state_of, Call, next}
use Rattle.runs.specs.Runs.{begun, after, GoesOn, RunsBegin, RunsGoOn}

pub runs_begin : {P D : Type 0} (k : Kind P D) → RunsBegin k
runs_begin {P} {D} k vr tr m sheet room e = record {
  room = room;
  accepted = (or_none (empty_fault m) _ e).1;
  ends = ap (λ o. state_of (mesh_unless o m (sheet_mesh k sheet)) (base_numbers (sheet_mesh k sheet))) (sym e);
}

after_one : {P D : Type 0} (k : Kind P D) (vr tr : ℕ) (cs : List Call) (s : State P) (c : Call) → after k vr tr s (cs ++ (c ∷ [])) ≡ next k vr tr (after k vr tr s cs) c
after_one k vr tr [] s c = refl
after_one k vr tr (d ∷ cs) s c = after_one k vr tr cs (next k vr tr s d) c

-- the state that a call leads to, however it is given
pub goes_on : {P D : Type 0} (k : Kind P D) (vr tr : ℕ) (s : State P) (c : Call) (t : State P) → t ≡ next k vr tr s c → GoesOn k vr tr s c t
goes_on k vr tr s c t e sheet cs r = record {
  room = r.room;
  accepted = r.accepted;
  ends = after_one k vr tr cs (begun (sheet_mesh k sheet)) c ∙ ap (λ u. next k vr tr u c) r.ends ∙ sym e;
}

pub runs_go_on : {P D : Type 0} (k : Kind P D) → RunsGoOn k
runs_go_on k vr tr s c = goes_on k vr tr s c (next k vr tr s c) refl
