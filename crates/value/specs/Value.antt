-- What a code stands for. Assumes nothing.
use Rattle.std.specs.Prelude.{Bool, true, false}
use Rattle.value.specs.declared.value.Value.{Value}
use Rattle.value.specs.declared.value.Value.TheVariants.{Whole, Percent, Temperature, Missing}

abbrev pub is_gone : Value → Bool
is_gone (Whole n) = false
is_gone (Percent x) = false
is_gone (Temperature x) = false
is_gone Missing = true
