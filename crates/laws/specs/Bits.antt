-- A Bool as a number, 1 for true and 0 for false.
use Rattle.std.specs.Prelude.{Bool, true, false, ℕ}

abbrev pub bit : Bool → ℕ
bit true = 1
bit false = 0
