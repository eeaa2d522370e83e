use Rattle.std.proofs.Common.{sym, rules}
use Rattle.place.specs.Places.{place_of, no_place}
use Rattle.place.proofs.float_place.FloatPlace.new.Goals as goal

pub returns-then-all_finite : goal.returns-then-all_finite
returns-then-all_finite c = record { value = sym (place_of _); exact = search rules }

pub returns-else-all_finite : goal.returns-else-all_finite
returns-else-all_finite c = record { value = sym (no_place _ _ _ (search rules)); exact = search rules }
