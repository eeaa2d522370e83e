-- The refusals of marks that form no forest of trees with two edges or more.
use Rattle.std.specs.Prelude.{ℕ, ◌-◌, ◌*◌, cond, List, Some, None, Option, ◌==◌}
use Rattle.std.specs.Option.{option_map}
use Rattle.fault.specs.declared.fault.Fault.{Fault}
use Rattle.fault.specs.declared.fault.Fault.TheVariants.{CodeCount, MarkClosesLoop, SingleEdgeTree}
use Rattle.fault.specs.Faults.{or_else}
use Rattle.forest.specs.Trees.{own, trees}
use Rattle.forest.specs.Splitting.{first_closing, first_single}
use Rattle.forest.specs.Tables.{key_sides, flags_of}
use Rattle.engine.specs.Marking.{marked}

-- a marked edge closes a loop, by the tables of the edges with their marks
abbrev pub loop_fault : List ℕ → List ℕ → Option Fault
loop_fault ks ns = option_map MarkClosesLoop (first_closing own 0 (key_sides ks) (flags_of ns))

-- one of the trees, of V vertices, has one edge alone
abbrev pub single_fault : ℕ → List ℕ → List ℕ → Option Fault
single_fault V ks ns = option_map SingleEdgeTree (first_single (marked ks ns) (trees V (marked ks ns)))

abbrev pub trees_fault : ℕ → List ℕ → List ℕ → Option Fault
trees_fault V ks ns = or_else (loop_fault ks ns) (single_fault V ks ns)

-- the number n of codes is not twice the marked edges less twice the trees, f and k of them
abbrev pub code_count_fault : ℕ → ℕ → ℕ → Option Fault
code_count_fault f k n = cond (n == 2 * (f - k)) None (Some CodeCount)
