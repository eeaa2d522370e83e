-- A whole item has the length that its first four bytes tell, and lies within the buffer.
use Rattle.std.specs.Prelude.{◌≡◌, ℕ, ◌+◌, ◌≤◌, List, length}
use Rattle.place.specs.Words.{word}
use Rattle.items.specs.declared.item.Item.{Item}
use Rattle.items.specs.declared.item.Item.TheVariants.{Ended, Broken, Whole}

abbrev pub Within : List ℕ → Item → Type 0
Within buffer Ended = Unit {0}
Within buffer Broken = Unit {0}
Within buffer (Whole size) = (size ≡ word buffer 0 + 4) × (size ≤ length buffer)
