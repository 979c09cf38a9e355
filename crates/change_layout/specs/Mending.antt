-- Document 01, "The changes": the next change of a repair, decided and laid out.
use Rattle.std.specs.Prelude.{Bool, List, ℕ}
use Rattle.change_decide.specs.Decide.{decided_repair}
use Rattle.change_layout.specs.LayOut.{lay_out}
use Rattle.change_plan.specs.Planning.{Preparation}

-- "Repairs go on until balanced": the next change of a repair that follows a key
unfoldable pub next_repair : List ℕ → ℕ → ℕ → List Bool → ℕ → Preparation
next_repair card n key free last = lay_out card (decided_repair card n key) free last
