-- The numbers of the layers.
use Rattle.std.specs.Prelude.{ℕ}
use Rattle.fault.specs.declared.layer.Layer.{Layer}
use Rattle.fault.specs.declared.layer.Layer.TheVariants.{Job, Bytes, Surface, Loop, Place}

abbrev pub layer_number : Layer → ℕ
layer_number Job = 1
layer_number Bytes = 2
layer_number Surface = 3
layer_number Loop = 4
layer_number Place = 5
