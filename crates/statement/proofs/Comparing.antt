-- The statement of two jobs, of a maker and a shop that took a sheet each.
use Rattle.std.proofs.Common.{◌≡◌, ℕ, List, Option, Result, IfOk, IfSome, sym, ap, ◌∙◌, subst}
use Rattle.place.specs.Kinds.{Kind}
use Rattle.sheet.specs.Content.{sheet_mesh}
use Rattle.runs.specs.Calls.{State}
use Rattle.runs.specs.Runs.{Run}
use Rattle.runs.specs.Statement.{AlwaysKept, TwoJobs}
use Rattle.job.specs.declared.comparing.Comparison.{Comparison}
use Rattle.job.specs.Levels.{level_of, level_balances, RunsBalance}
use Rattle.statement.specs.Sides.{offers}
use Rattle.statement.specs.Statements.{Compared}

module _ {P D Q C : Type 0} (k : Kind P D) (l : Kind Q C) (va ta vb tb table : ℕ) (sheet other : List ℕ) (records others : List (List ℕ)) (a : State P) (b : State Q) (c : Comparison) where
  pub compared : Run k va ta sheet (offers table records) a → Run l vb tb other (offers table others) b
      → c.first ≡ level_of a.mesh a.numbers → c.second ≡ level_of b.mesh b.numbers
      → TwoJobs k l a b → RunsBalance k a → RunsBalance l b
      → Compared k l va ta vb tb table sheet other records others c
  compared one two first second both balances other_balances =
      let xs = offers table records in
      let ys = offers table others in
      record {
        both = λ same. subst (λ X. X) (λ i. AlwaysKept k l va ta vb tb (sheet_mesh k sheet) (sheet_mesh l other) xs ys (sym one.ends i) (sym two.ends i)) (both va ta vb tb sheet other xs ys one two same);
        first = first ∙ ap (λ s. level_of s.mesh s.numbers) (sym one.ends);
        second = second ∙ ap (λ s. level_of s.mesh s.numbers) (sym two.ends);
        first_balances = ap level_balances first ∙ balances va ta sheet xs one;
        second_balances = ap level_balances second ∙ other_balances vb tb other ys two;
      }

-- what is compared does not hang on how the numbers and the records are written
pub compared_as : {P D Q C E : Type 0} (k : Kind P D) (l : Kind Q C) (sheet other : List ℕ) {va ta vb tb table va' ta' vb' tb' table' : ℕ} {records others records' others' : List (List ℕ)}
    → va ≡ va' → ta ≡ ta' → vb ≡ vb' → tb ≡ tb' → table ≡ table' → records ≡ records' → others ≡ others'
    → (r : Result (Option Comparison) E) → IfOk r (λ o. IfSome o (Compared k l va ta vb tb table sheet other records others)) → IfOk r (λ o. IfSome o (Compared k l va' ta' vb' tb' table' sheet other records' others'))
compared_as k l sheet other a b c d t x y r h = subst (λ X. X) (λ i. IfOk r (λ o. IfSome o (Compared k l (a i) (b i) (c i) (d i) (t i) sheet other (x i) (y i)))) h
