-- `call_start::begin` meets its contract.
use Rattle.std.proofs.Common.{arith, ap, refl, List, set, ℕ}
use Rattle.state.specs.Block.{depth_at}
use Rattle.call_start.proofs.StartLaws.{started_in}
use Rattle.call_start.proofs.begin.Goals as goal

pub overflow_cast-state : goal.overflow_cast-state
overflow_cast-state c = record { fits = omega (arith, c.requires.1) }

pub bounds-state-239 : goal.bounds-state-239
bounds-state-239 c = omega (arith, c.store_doing.auto.block, c.requires.0)

pub returns : goal.returns
returns c =
    let s = c.args in
    started_in s.state.now c.requires.0 s.doing 0 s.depth _ refl (ap (λ (b : List ℕ). set b depth_at s.depth) c.store_doing.ensures)
