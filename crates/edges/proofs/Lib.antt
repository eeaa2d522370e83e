-- Why an edge's number finds it:
-- 1. The pairs of the sides with two ends have just the members that the edges have (`Pairing`).
-- 2. The table holds those pairs, one for each such side, and the sort only moves them, so that none is above the next.
-- 3. Of each run of equal ones the first is taken, as `dedup` does, and no member is lost or gained (`Grouped`).
-- 4. So what is taken rises, each once (`Ordered`), as the edges do.
-- 5. Two lists that rise and have the same members are one list (`ascending_same`), so that each number finds the same in both.
pub mod Pairing
pub mod Grouped
pub mod Ordered
