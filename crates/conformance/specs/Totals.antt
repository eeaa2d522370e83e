-- The counts of all records together.
use Rattle.std.specs.Prelude.{ℕ, ◌+◌, ◌%◌, ◌^◌, List, if◌then◌else◌, length, nat_lt, slice_index, slice_set}
use Rattle.conformance.specs.declared.answer.Answer.{Answer}
use Rattle.conformance.specs.declared.answer.Answer.TheVariants.{Split, Refused}
use Rattle.conformance.specs.declared.verdict.Verdict.{Verdict}
use Rattle.conformance.specs.declared.verdict.Verdict.TheVariants.{Same}
use Rattle.conformance.specs.declared.counts.Counts.{Counts}

-- one more, in 32 bits
abbrev pub one_more : ℕ → ℕ
one_more n = (n + 1) % 2 ^ 32

-- one more in one place; the same numbers where there is no such place
abbrev pub counted_at : List ℕ → ℕ → List ℕ
counted_at ns i = if nat_lt i (length ns) then slice_set ns i (one_more (slice_index ns i)) else ns

-- a record more with this answer: one that is accepted, or one that is refused by its number
abbrev pub with_answer : Counts → Answer → Counts
with_answer c (Split t) = record { splits = one_more c.splits; refusals = c.refusals; differing = c.differing }
with_answer c (Refused r) = record { splits = c.splits; refusals = counted_at c.refusals r.number; differing = c.differing }

-- a record more that differs, with every verdict but that it is the same
abbrev pub with_verdict : Counts → Verdict → Counts
with_verdict c Same = c
with_verdict c v = record { splits = c.splits; refusals = c.refusals; differing = one_more c.differing }

-- a record more with this answer and verdict
abbrev pub counts_with : Counts → Answer → Verdict → Counts
counts_with c answer verdict = with_verdict (with_answer c answer) verdict
