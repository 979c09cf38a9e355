-- The number of a reply tells which answer it is.
use mathlib.Core.Path.{◌≡◌, refl, ap}
use Prim.Native.Nat.{ℕ, ◌<◌}
use native.Mathlib.Omega.{arith}
use Rattle.card.specs.Replies.{Reply, refusal, holds, absent, started}
use Rattle.demands.proofs.AnswerNumbers.{SmallBegun, SmallFound}
use Rattle.call_find.specs.Answers.{found_reply}
use Rattle.call_find.specs.Found.{Found}
use Rattle.call_find.specs.Found.{Value, Absent as NotHeld, Refused as NoLook}
use Rattle.state.specs.Answers.{start_reply}
use Rattle.state.specs.Begun.{Begun}
use Rattle.state.specs.Begun.{Idle, Started, Refused}

pub code_of : {r s : Reply} → r ≡ s → r.code ≡ s.code
code_of e = ap (λ (x : Reply). x.code) e

-- ---- a find's

pub found_refused : (f : Found) (r : ℕ) → r < 64 → found_reply f ≡ refusal r → f ≡ NoLook r
unfolding found_reply
found_refused (Value v) r h e = absurd (omega (arith, code_of e))
found_refused NotHeld r h e = absurd (omega (arith, code_of e))
found_refused (NoLook k) r h e = ap NoLook (code_of e)

pub found_absent : (f : Found) → SmallFound f → found_reply f ≡ absent → f ≡ NotHeld
unfolding found_reply
found_absent (Value v) s e = absurd (omega (arith, code_of e))
found_absent NotHeld s e = refl
found_absent (NoLook k) s e = absurd (omega (arith, code_of e))

pub found_value : (f : Found) (v : ℕ) → SmallFound f → found_reply f ≡ holds v → f ≡ Value v
unfolding found_reply
found_value (Value k) v s e = ap Value (ap (λ (x : Reply). x.value) e)
found_value NotHeld v s e = absurd (omega (arith, code_of e))
found_value (NoLook k) v s e = absurd (omega (arith, code_of e))

-- ---- that of an opening or a start

pub begun_refused : (b : Begun) (r : ℕ) → r < 64 → start_reply b ≡ refusal r → b ≡ Refused r
unfolding start_reply
begun_refused Idle r h e = absurd (omega (arith, code_of e))
begun_refused Started r h e = absurd (omega (arith, code_of e))
begun_refused (Refused k) r h e = ap Refused (code_of e)

pub begun_started : (b : Begun) → SmallBegun b → start_reply b ≡ started → b ≡ Started
unfolding start_reply
begun_started Idle s e = absurd (omega (arith, code_of e))
begun_started Started s e = refl
begun_started (Refused r) s e = absurd (omega (arith, s, code_of e))

pub is_refused : (b : Begun) → (start_reply b).code < 64 → (r : ℕ) × (b ≡ Refused r)
unfolding start_reply
is_refused Idle h = absurd (omega arith)
is_refused Started h = absurd (omega arith)
is_refused (Refused r) h = (r, refl)
